-- Which of the best answers is given: that of the rule of the task's class.
use Rattle.std.specs.Prelude.{◌≡◌}
use Rattle.tf_model.specs.SchedulingTask.{SchedulingTask}
use Rattle.tf_model.specs.declared.class.Class.{Class}
use Rattle.tf_model.specs.declared.class.Class.TheVariants.{WeightedSum, PlainSum, PrmpWeightedSum, PrmpPlainSum, Hmax, PrecHmax, PrmpHmax, PrmpPrecHmax, Lmax, PrecLmax, PrmpLmax, PrmpPrecLmax, ReleaseLmax, FlowTwo, PrmpFlowTwo, OpenTwo, PrmpOpenTwo, ParallelPrmp, ParallelSum}
use Rattle.tf_schedule.specs.Schedule.{IsSchedule}
use Rattle.tf_check.specs.Claim.{AnswerData, ByPairs}
use Rattle.tf_single.specs.RunsByRatio.{RunsByRatio}
use Rattle.tf_single.specs.FromTheBack.{IsFromTheBack}
use Rattle.tf_single.specs.Horn.{RunsByHorn}
use Rattle.tf_multi.specs.Dealt.{AreDealt, IsReverseRanks}
use Rattle.tf_multi.specs.Johnson.{RunsByJohnson}
use Rattle.tf_multi.specs.Longest.{IsLoadOrLongest}
use Rattle.tf_multi.specs.OpenShop.{IsLed}
use Rattle.tf_multi.specs.Wrapped.{AreWrapped}

-- Smith's rule
abbrev pub IsBySmith : SchedulingTask → AnswerData → Type 0
IsBySmith k a = RunsByRatio k a.pieces × (a.certificate ≡ ByPairs)

-- Lawler's rule
abbrev pub IsByLawler : SchedulingTask → AnswerData → Type 0
IsByLawler k a = IsFromTheBack k a.pieces a.certificate

-- Gonzalez and Sahni's rule
abbrev pub IsByLeader : SchedulingTask → AnswerData → Type 0
IsByLeader k a = IsSchedule a.pieces × IsLed k a.pieces a.certificate

-- McNaughton's rule
abbrev pub IsByWrapping : SchedulingTask → AnswerData → Type 0
IsByWrapping k a = AreWrapped k a.pieces a.value × IsLoadOrLongest k a.certificate

-- the rule of Conway, Maxwell and Miller
abbrev pub IsByDealing : SchedulingTask → AnswerData → Type 0
IsByDealing k a = AreDealt k a.pieces × IsReverseRanks k a.certificate

-- Horn's rule
abbrev pub IsByDueDate : SchedulingTask → AnswerData → Type 0
IsByDueDate k a = RunsByHorn k a.pieces a.certificate

-- Johnson's rule
abbrev pub IsInLine : SchedulingTask → AnswerData → Type 0
IsInLine k a = RunsByJohnson k a.pieces a.certificate

-- the rule of each class
abbrev pub is_by_rule : Class → SchedulingTask → AnswerData → Type 0
is_by_rule WeightedSum k a = IsBySmith k a
is_by_rule PlainSum k a = IsBySmith k a
is_by_rule PrmpWeightedSum k a = IsBySmith k a
is_by_rule PrmpPlainSum k a = IsBySmith k a
is_by_rule Hmax k a = IsByLawler k a
is_by_rule PrecHmax k a = IsByLawler k a
is_by_rule PrmpHmax k a = IsByLawler k a
is_by_rule PrmpPrecHmax k a = IsByLawler k a
is_by_rule Lmax k a = IsByLawler k a
is_by_rule PrecLmax k a = IsByLawler k a
is_by_rule PrmpLmax k a = IsByLawler k a
is_by_rule PrmpPrecLmax k a = IsByLawler k a
is_by_rule ReleaseLmax k a = IsByDueDate k a
is_by_rule FlowTwo k a = IsInLine k a
is_by_rule PrmpFlowTwo k a = IsInLine k a
is_by_rule OpenTwo k a = IsByLeader k a
is_by_rule PrmpOpenTwo k a = IsByLeader k a
is_by_rule ParallelPrmp k a = IsByWrapping k a
is_by_rule ParallelSum k a = IsByDealing k a

abbrev pub IsByRule : SchedulingTask → AnswerData → Type 0
IsByRule k a = is_by_rule k.class k a
