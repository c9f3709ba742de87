use Rattle.std.proofs.Common.{inl, inr, refl}
use Rattle.std.proofs.KnownBytes.{Keeps-refl}
use Rattle.tf_engine.specs.declared.fault.RunFault.TheVariants.{OutOfMemory}
use Rattle.tf_command.proofs.Saying.{says_alone}
use Rattle.tf_command.proofs.rating.source_text.Goals as goal

pub returns-in-Err-clause-unread : goal.returns-in-Err-clause-unread
returns-in-Err-clause-unread g c = record {
  fault = OutOfMemory;
  why = inr (inl refl);
  unwritten = Keeps-refl _;
  ends = c.say_memory.ensures.status;
  said = says_alone c.say_memory.ensures.line;
}
