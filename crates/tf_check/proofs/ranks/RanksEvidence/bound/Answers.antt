use Rattle.std.proofs.Common.{◌≡◌, true, sym, ap, subst, ◌∙◌, IsTrue}
use Rattle.tf_model.specs.ClassTable.{is_sum}
use Rattle.tf_check.specs.Kinds.{takes_ranks}
use Rattle.tf_check.proofs.RankedTimes.{ranks_within_listed, ranks_unweighted}
use Rattle.tf_check.proofs.ranks.RanksEvidence.bound.Goals as goal

pub ranked_times-requires-clause-value : goal.ranked_times-requires-clause-value
ranked_times-requires-clause-value g c =
    let k = c.args.task.now in
    let class : takes_ranks k.class ≡ true =
    ap takes_ranks (sym c.class.ensures.class) ∙ sym c.takes_ranks.ensures.kind
    ∙ c.if-not-takes_ranks.false in
    let sum : IsTrue (is_sum k.class) =
    subst (λ e. IsTrue (is_sum e)) c.class.ensures.class
    (c.takes_ranks.ensures.sum c.if-not-takes_ranks.false) in
    ranks_within_listed k c.class.ensures.sound sum
    (ranks_unweighted k.class class) c.as_slice-jobs.result.now c.in_ok-judge_list.ensures.judged
