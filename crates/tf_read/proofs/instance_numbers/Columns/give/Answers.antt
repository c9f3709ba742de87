use Rattle.std.proofs.Common.{◌≡◌, ℕ, ◌+◌, ◌∷◌, [], map, subst, sym, arith}
use Rattle.std.specs.List.{range_with_len}
use Rattle.std.proofs.lemmas.List.FromFn.{map-range_with_len_more}
use Rattle.tf_model.specs.JobFields.{JobFields}
use Rattle.tf_model.specs.TaskBuilder.{Takes}
use Rattle.tf_model.specs.declared.task_builder.TaskBuilder.{TaskBuilder}
use Rattle.tf_model.proofs.TaskBuilder.{takes_none, takes_next}
use Rattle.tf_read.specs.InstanceNumbers.{job_of}
use Rattle.tf_read.proofs.instance_numbers.Columns.give.Goals as goal

-- the jobs up to one, and this one
takes_made : {A : Type 0} (old new next : TaskBuilder A) (made : ℕ → JobFields) (j : ℕ)
    (job : JobFields) → Takes old (map made (range_with_len 0 j)) new → job ≡ made j
    → Takes new (job ∷ []) next → Takes old (map made (range_with_len 0 (j + 1))) next
takes_made old new next made j job taken is more =
    subst (λ jobs. Takes old jobs next) (sym (map-range_with_len_more made 0 j j (omega arith)))
    (takes_next old new next _ (made j) taken (subst (λ job. Takes new (job ∷ []) next) is more))

-- so many, and as many
takes_all : {A : Type 0} (old new : TaskBuilder A) (made : ℕ → JobFields) (j n : ℕ) → j ≡ n
    → Takes old (map made (range_with_len 0 j)) new
    → Takes old (map made (range_with_len 0 n)) new
takes_all old new made j n same taken =
    subst (λ n. Takes old (map made (range_with_len 0 n)) new) same taken

pub loop-j-init : goal.loop-j-init
loop-j-init g c = takes_none _

pub loop-j-preserved : goal.loop-j-preserved
loop-j-preserved g c =
    takes_made _ _ _ (job_of c.args.jobs c.args.self.now) c.loop-j.j _ c.loop-j.invariant
    c.job.ensures c.in_ok-push.ensures

pub returns : goal.returns
returns g c =
    takes_all _ _ (job_of c.args.jobs c.args.self.now) _ c.args.jobs
    (omega (arith, c.loop-j-test.false, c.loop-j.auto.j-end)) c.loop-j.invariant
