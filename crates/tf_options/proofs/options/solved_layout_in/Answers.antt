use Rattle.std.proofs.Common.{codes, refl}
use Rattle.clap.specs.Words.{found_of, one_text}
use Rattle.tf_options.proofs.Flags.{unset, set}
use Rattle.tf_options.proofs.options.solved_layout_in.Goals as goal

pub returns-then-get_flag : goal.returns-then-get_flag
returns-then-get_flag c =
    let given = one_text (found_of c.args.given.now) in
    record {
      json = λ _. refl;
      text = λ missing. absurd (unset given (codes "json") c.get_flag.result
          c.get_flag.ensures.none c.get_flag.ensures.other c.if-get_flag.true missing);
    }

pub returns : goal.returns
returns c =
    let given = one_text (found_of c.args.given.now) in
    record {
      json = λ is. absurd (set given (codes "json") c.get_flag.result c.get_flag.ensures.value
          c.if-get_flag.false is);
      text = λ _. c.layout_in.ensures;
    }
