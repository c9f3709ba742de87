use Rattle.std.proofs.Common.{sym, ◌∙◌}
use Rattle.tf_read.proofs.FlowWords.{unchanged, named, timed, wanted_named, wanted_timed}
use Rattle.tf_read.proofs.pairs.PairsJudge.judge.Goals as goal

pub returns-then-is_over : goal.returns-then-is_over
returns-then-is_over g c = λ says seen word of h. (
  h.0,
  unchanged _ seen word (sym c.is_over.ensures.value ∙ c.if-is_over.true) c.is_over.ensures.few
      c.is_over.ensures.over c.is_over.ensures.over_named h.1,
)

pub returns-then-wants_time : goal.returns-then-wants_time
returns-then-wants_time g c = λ says seen word of h. rw c.time.ensures (
  wanted_timed _ says _ h.0,
  timed _ seen word _ _ (sym c.is_over.ensures.value ∙ c.if-is_over.false)
      (sym c.wants_time.ensures ∙ c.if-wants_time.true) c.is_over.ensures.within of h.1,
)

pub returns-else-wants_time : goal.returns-else-wants_time
returns-else-wants_time g c = λ says seen word of h. rw c.name.ensures (
  wanted_named _ says _ h.0,
  named _ seen word _ _ (sym c.is_over.ensures.value ∙ c.if-is_over.false)
      (sym c.wants_time.ensures ∙ c.if-wants_time.false) c.is_over.ensures.within of h.1,
)
