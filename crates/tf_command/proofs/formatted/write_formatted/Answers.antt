use Rattle.std.proofs.Common.{inl, inr, refl, subst}
use Rattle.std.specs.Io.KnownBytes.{Appends}
use Rattle.tf_text.specs.Counted.{AppendsPrefix, inner_of}
use Rattle.tf_command.specs.Wrote.{Wrote}
use Rattle.tf_command.proofs.formatted.write_formatted.Goals as goal

pub returns-in-Ok : goal.returns-in-Ok
returns-in-Ok g c = inl (record {
  written = subst (Appends (g.W.Write.contents (inner_of c.args.console.now.writer))
      (g.W.Write.contents (inner_of c.push_all.new.self))) c.as_slice.ensures.value
      c.in-Ok.ensures.written;
  said = subst (Wrote g.E.Write.contents c.args.console.now.errors c.send.new.writer)
      c.as_slice-in-Ok.ensures.value c.send.ensures;
  ends = refl;
})

pub returns-in-Err : goal.returns-in-Err
returns-in-Err g c = inr (record {
  failed = c.in-Err.ensures.device;
  prefix = subst (AppendsPrefix (g.W.Write.contents (inner_of c.args.console.now.writer))
      (g.W.Write.contents (inner_of c.push_all.new.self))) c.as_slice.ensures.value
      c.in-Err.ensures.prefix;
  said = subst (Wrote g.E.Write.contents c.args.console.now.errors c.send-in-Err.new.writer)
      c.device_line.ensures c.send-in-Err.ensures;
  ends = refl;
})
