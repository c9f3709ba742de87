use Rattle.std.proofs.Common.{inr, subst, sym}
use Rattle.std.specs.Io.KnownBytes.{Keeps}
use Rattle.std.proofs.KnownBytes.{Keeps-refl}
use Rattle.tf_text.specs.Counted.{inner_of}
use Rattle.tf_command.proofs.problems.list_for.Goals as goal

pub returns-in-Err : goal.returns-in-Err
returns-in-Err g c =
    let had = c.in-Err.ensures.read in
    inr (record {
      text = had.text;
      is_all = had.is_all;
      fault = c.in-Err.fault;
      none = had.given;
      unwritten = subst
          (λ w. Keeps (g.W.Write.contents (inner_of c.args.console.now.writer))
          (g.W.Write.contents (inner_of w))) (sym c.refuse_table.ensures.unwritten) (Keeps-refl _);
      ends = c.refuse_table.ensures.status;
      said = c.refuse_table.ensures.line;
    })
