use Rattle.std.proofs.Common.{◌≡◌, Bool, true, false, not, ◌&&◌, if◌then◌else◌, ap, sym, subst, ◌∙◌}
use mathlib.Core.Bool.{beq}
use Rattle.tf_multi.proofs.Routes.{group_more, group_same}
use Rattle.tf_multi.specs.OpenShop.{is_early, is_in_group}
use Rattle.tf_multi.proofs.open_two.push_group.Goals as goal
use Rattle.tf_multi.proofs.open_two.push_group.Goals.{then-ne+then-is_early-early+in_ok-push, else-ne, else-ne-via-then-ne+else-is_early-early, else-ne-via-else-ne}

-- early as it is asked, or not early
abbrev kind : Bool → Bool → Bool
kind early b = if early then b else not b

kind_is : (b early v : Bool) → beq b early ≡ v → kind early b ≡ v
kind_is true true v e = e
kind_is true false v e = e
kind_is false true v e = e
kind_is false false v e = e

pub loop-k-preserved : goal.loop-k-preserved
loop-k-preserved g c =
    let p = is_in_group c.args.task.now c.args.leader c.args.early in
    let in_kind = kind c.args.early (is_early c.args.task.now c.at-job.result) in
    elim c.if-ne.branch [
      | then-ne+then-is_early-early+in_ok-push w ↦
          rw (w.jobs-is, w.in_ok-push.ensures.items)
          (group_more p c.args.jobs.now.items _ c.loop-k.k c.at-job.result c.loop-k.invariant
          c.at-job.ensures
          (ap (λ n. n && in_kind) (sym w.if-ne.ensures)
          ∙ subst (λ b. kind c.args.early b ≡ true) w.is_early.ensures
          (kind_is w.is_early.result c.args.early true w.if-is_early-early.true)))
      | else-ne w ↦ rw w.jobs-is
          (group_same p c.args.jobs.now.items _ c.loop-k.k c.at-job.result c.loop-k.invariant
          c.at-job.ensures (elim w.else-ne.branch [
            | else-ne-via-then-ne+else-is_early-early v ↦
                ap (λ n. n && in_kind) (sym v.if-ne.ensures)
                ∙ subst (λ b. kind c.args.early b ≡ false) v.is_early.ensures
                (kind_is v.is_early.result c.args.early false v.if-is_early-early.false)
            | else-ne-via-else-ne v ↦ ap (λ n. n && in_kind) (sym v.if-ne.ensures)
          ]))
    ]
