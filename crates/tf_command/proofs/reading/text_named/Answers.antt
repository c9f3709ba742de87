use Rattle.std.proofs.Common.{◌≡◌, ◌<◌, length, Err, IfSome, ap, inl, refl, sym, subst}
use Rattle.tf_model.specs.Limit.{most_bytes}
use Rattle.tf_text.specs.declared.input.InputFault.TheVariants.{TooLong}
use Rattle.tf_command.specs.Unread.{IsNotRead}
use Rattle.tf_command.proofs.Unread.{not_read}
use Rattle.std.proofs.KnownBytes.{Keeps-refl}
use Rattle.tf_engine.specs.declared.fault.RunFault.TheVariants.{Device}
use Rattle.tf_command.proofs.Saying.{says_alone}
use Rattle.tf_command.proofs.reading.text_named.Goals as goal

pub returns-in-Err-clause-unread : goal.returns-in-Err-clause-unread
returns-in-Err-clause-unread g c = record {
  fault = Device;
  why = inl refl;
  unwritten = Keeps-refl _;
  ends = c.say_unopened.ensures.status;
  said = c.say_unopened.ensures.line;
}

pub returns-clause-unread : goal.returns-clause-unread
returns-clause-unread g c =
    let texts = g.S.Sources.text_of c.args.sources.now in
    let long = λ (is : c.in-Err-read_all.fault ≡ TooLong).
    subst (λ source. IfSome (g.S.Source.Read.remaining source) (λ all. most_bytes < length all))
    c.new.ensures.inner (c.in-Err-read_all.ensures.too_long (ap Err is)) in
    record {
      fault = c.into.result;
      why = subst (IsNotRead texts) (sym c.into.ensures)
          (not_read texts c.args.name.now (g.S.Source.Read.remaining c.in-Ok.source)
          c.in-Err-read_all.fault c.in-Ok.ensures.opened long);
      unwritten = Keeps-refl _;
      ends = c.report.ensures.status;
      said = says_alone c.report.ensures.line;
    }
