use Rattle.std.proofs.Common.{inl, inr}
use Rattle.std.proofs.KnownBytes.{Keeps-refl}
use Rattle.tf_command.proofs.Saying.{says_alone}
use Rattle.tf_command.proofs.rating.rate_offered.Goals as goal

pub returns-in-Ok : goal.returns-in-Ok
returns-in-Ok g c = inr (
  c.in-Ok.ensures.read.text,
  c.in-Ok.ensures.read.is_all,
  (c.in-Ok.sheet, c.in-Ok.ensures.read.given, c.rate_by.ensures),
)

pub returns-in-Err : goal.returns-in-Err
returns-in-Err g c = inl (record {
  text = c.in-Err.ensures.read.text;
  is_all = c.in-Err.ensures.read.is_all;
  fault = c.in-Err.fault;
  unread = c.in-Err.ensures.read.given;
  unwritten = Keeps-refl _;
  ends = c.report_bound.ensures.status;
  said = says_alone c.report_bound.ensures.line;
})
