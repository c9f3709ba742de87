-- Of a problem of a class the same instance makes the same task, by the class and by the problem.
use Rattle.std.specs.Prelude.{unwrap_or, is_none, if◌then◌else◌}
use Rattle.std.specs.Bool.{then_some}
use Rattle.std.specs.Option.{option_map, option_or, ok_or}
use Rattle.std.specs.List.{range_with_len}
use Rattle.std.proofs.Common.{◌≡◌, Bool, true, false, not, ◌&&◌, ◌||◌, ℕ, zero, suc, ◌+◌, ◌-◌, ltb, eqb, ℤ, pos, negsuc, int_lt, List, [], ◌∷◌, length, slice_index_or, map, cond, Option, None, Some, Result, Ok, Err, refl, sym, ap, ◌∙◌, subst, arith, All}
use Rattle.std.proofs.lemmas.Bool.{false≢true, cond-false, ne_eqb}
use Rattle.std.proofs.lemmas.List.{length-map}
use Rattle.std.proofs.lemmas.List.Elements.{All-head, All-tail}
use Rattle.tf_model.specs.declared.class.Class.{Class}
use Rattle.tf_model.specs.declared.problem.Goal.{Goal}
use Rattle.tf_model.specs.declared.problem.Goal.TheVariants as goals
use Rattle.tf_model.specs.declared.problem.Problem.{Problem}
use Rattle.tf_model.specs.declared.job.Times.{Times}
use Rattle.tf_model.specs.declared.job.Times.TheVariants.{One, Two}
use Rattle.tf_model.specs.declared.prepare.Field.{Field}
use Rattle.tf_model.specs.declared.prepare.Field.TheVariants.{Weight, Due, Release, Cost}
use Rattle.tf_model.specs.declared.prepare.Refusal.{Refusal}
use Rattle.tf_model.specs.declared.prepare.Refusal.TheVariants.{NoSolver, TooManyJobs, MachineCount, WrongTimes, MissingField, ZeroTime, TotalTooLarge}
use Rattle.tf_model.specs.Limit.{most_machines}
use Rattle.tf_model.specs.Whole.{as_time}
use Rattle.tf_model.specs.CostLaws.{none_of_two}
use Rattle.tf_model.specs.Outcome.{◌>>=◌, unless}
use Rattle.tf_model.specs.JobFields.{JobFields}
use Rattle.tf_model.specs.InstanceData.{InstanceData, any_time, first_with}
use Rattle.tf_model.specs.SchedulingTask.{SchedulingTask, JobData, no_job, all_jobs, job_data}
use Rattle.tf_model.specs.ClassTable.{notation_of, IsOfClass, class_of, is_shop, is_shop_env, is_single, is_single_env, is_weighted, is_weighted_goal, is_released, is_due, is_lateness, is_costed, is_ordered, objective_by}
use Rattle.tf_model.specs.Prepare.{agreed, given, is_too_many, machines_for, has_two, has_wrong_times, lacking, missing_from, has_zero_time, zero_time, first_time, second_time, data_of, task_of, is_too_large, jobs_refusal}
use Rattle.tf_model.proofs.Outcomes.{bind_ok}
use Rattle.tf_model.proofs.OfClass.{determined}
use Rattle.tf_model.proofs.Prepared.{none_at, none_mapped, times_right}
use Rattle.tf_posed.specs.ProblemData.{ProblemData, ProblemJobData, is_job_shop, needs_time}
use Rattle.tf_posed.specs.Agreement.{posed, posed_job}
use Rattle.tf_posed.proofs.Conditions.{no_job_shop, no_need}
use Rattle.tf_posed.proofs.Agreement.{is_class_goal, class_goal}
use Rattle.tf_bound.specs.Sized.{IsSized}
use Rattle.tf_prepare.specs.TimedData.{self_timed}
use Rattle.tf_prepare.specs.Preparing.{uses_weight, uses_due, machines_in, wrong_times_in, lacking_in, missing_in, times_of, is_idle, idle_in, where_needed, jobs_refusal_in, job_in, jobs_in, task_in, prepared_in}
use Rattle.tf_prepare.specs.Alike.{IsAlike, AlikeLaw}
use Rattle.tf_prepare.proofs.PosedSize.{posed-sized}

-- ---- what an objective uses

weights : (g : Goal) → is_class_goal g ≡ true → uses_weight g ≡ is_weighted_goal g
weights goals.SumWT known = absurd (false≢true known)
weights goals.SumWU known = absurd (false≢true known)
weights goals.SumWC known = refl
weights _ known = refl

dues : (g : Goal) → is_class_goal g ≡ true → uses_due g ≡ is_lateness (objective_by g)
dues goals.SumT known = absurd (false≢true known)
dues goals.SumWT known = absurd (false≢true known)
dues goals.SumU known = absurd (false≢true known)
dues goals.SumWU known = absurd (false≢true known)
dues goals.Lmax known = refl
dues _ known = refl

-- ---- what an absent fault says

either_none : {X : Type 0} (b : Bool) (o : Option X) → o ≡ None → cond b o None ≡ None
either_none true o e = e
either_none false o e = refl

class_found : (o : Option Class) (c : Class) (refusal : Refusal) → ok_or o refusal ≡ Ok c
    → o ≡ Some c
class_found None c refusal h = cc
class_found (Some d) c refusal h = cc

unrefused : {X E : Type 0} (o : Option E) (r : Result X E) (x : X) → unless o r ≡ Ok x
    → (o ≡ None) × (r ≡ Ok x)
unrefused None r x h = (refl, h)
unrefused (Some e) r x h = cc

ok_same : {X E : Type 0} (r : Result X E) (x y : X) → r ≡ Ok x → r ≡ Ok y → x ≡ y
ok_same r x y p q = cc

-- ---- the number of machines

abbrev count_by : Bool → Bool → ℕ → Result ℕ Refusal
count_by one_more shop m =
    if ltb m 1 || ltb most_machines m
    || (cond one_more (shop && not false) shop && not (eqb m 2)) then Err (MachineCount m) else Ok m

abbrev machines_by : Bool → Bool → Bool → Option ℕ → Option ℕ → Option ℕ → Result ℕ Refusal
machines_by one_more single shop notation argument instance =
    if single then Ok 1
    else (agreed notation argument >>= λ m. agreed m instance >>= λ n. given n
    >>= λ count. count_by one_more shop count)

machines_same : (single shop : Bool) (n a i : Option ℕ)
    → machines_by true single shop n a i ≡ machines_by false single shop n a i
machines_same single true n a i = refl
machines_same single false n a i = refl

-- ---- a job

-- one time where the class wants one, and two in a shop
times_same : (t : Times) (shop : Bool) → cond shop (not (has_two t)) (has_two t) ≡ false
    → as_time (first_time t) ∷ cond shop (as_time (second_time t) ∷ []) [] ≡ times_of t
times_same (One a) true e = cc
times_same (One a) false e = refl
times_same (Two a b) true e = refl
times_same (Two a b) false e = cc

abbrev made : List ℕ → ℕ → ℕ → ℤ → ProblemJobData
made t w r d = record { times = t; route = []; weight = w; release = r; due = d }

same_made : (t u : List ℕ) (w x r s : ℕ) (d e : ℤ) → t ≡ u → w ≡ x → r ≡ s → d ≡ e
    → made t w r d ≡ made u x s e
same_made t u w x r s d e p1 p2 p3 p4 =
    ap (λ y. made y w r d) p1 ∙ ap (λ y. made u y r d) p2 ∙ ap (λ y. made u x y d) p3
    ∙ ap (λ y. made u x s y) p4

-- a time of at least 1 is not 0
some_time : (z : ℤ) → int_lt z (pos 1) ≡ false → eqb (as_time z) 0 ≡ false
some_time (pos zero) e = cc
some_time (pos (suc n)) e = ne_eqb (suc n) 0 (λ same. cc)
some_time (negsuc n) e = cc

not_idle : (job : JobFields) → has_zero_time job ≡ false → is_idle (times_of job.times) ≡ false
not_idle job = by job.times
  where
    by : (t : Times) → any_time (λ p. int_lt p (pos 1)) t ≡ false → is_idle (times_of t) ≡ false
    by (One a) e = ap (λ b. b && true) (some_time a e)
    by (Two a b) e =
        ap (λ x. x && (eqb (as_time b) 0 && true)) (some_time a (first (int_lt a (pos 1)) _ e))
      where
        first : (x y : Bool) → (x || y) ≡ false → x ≡ false
        first true y e = cc
        first false y e = refl

none_idle : (place : ℕ) (jobs : List JobFields) → All (λ job. has_zero_time job ≡ false) jobs
    → idle_in None place jobs ≡ None
none_idle place [] all = refl
none_idle place (job ∷ jobs) all =
    ap (λ b. cond b (Some (ZeroTime (place + 1))) (idle_in None (place + 1) jobs))
    (not_idle job (All-head (λ job. has_zero_time job ≡ false) job jobs all))
    ∙ none_idle (place + 1) jobs (All-tail (λ job. has_zero_time job ≡ false) job jobs all)

-- what lacks none of four fields lacks none of three
abbrev three : Bool → Bool → Bool → Option Field
three a b d = if a then Some Weight else if b then Some Release else if d then Some Due else None

none_of_three : (a b d x : Bool)
    → cond a (Some Weight) (cond b (Some Release) (cond d (Some Due) (cond x (Some Cost) None)))
    ≡ None
    → three a b d ≡ None
none_of_three true b d x e = cc
none_of_three false true d x e = cc
none_of_three false false true x e = cc
none_of_three false false false x e = refl

-- ---- the task

module _ (p : Problem) (c : Class) (is : IsOfClass p c) (m : ℕ) (i : InstanceData)
    (unrefusing : jobs_refusal c i.jobs ≡ None) where
  abbrev k : SchedulingTask
  k = task_of c m i

  env : p.env ≡ (notation_of c).env
  env = ap (λ q. q.env) is.notation

  goal : p.goal ≡ (notation_of c).goal
  goal = ap (λ q. q.goal) is.notation

  weighs : uses_weight p.goal ≡ is_weighted c
  weighs = ap uses_weight goal ∙ weights (notation_of c).goal (class_goal c)

  due : uses_due p.goal ≡ is_due c
  due = ap uses_due goal ∙ dues (notation_of c).goal (class_goal c)

  releases : p.release ≡ is_released c
  releases = ap (λ q. q.release) is.notation

  orders : p.prec ≡ is_ordered c
  orders = ap (λ q. q.prec) is.notation

  needs : needs_time p ≡ needs_time (notation_of c)
  needs = ap needs_time is.notation

  -- ---- nothing is refused

  abbrev missed : Option Refusal
  missed = missing_from c 1 i.jobs

  abbrev zeros : Option Refusal
  zeros = zero_time c i.jobs

  abbrev large : Option Refusal
  large = then_some (is_too_large c (map (data_of c) i.jobs)) TotalTooLarge

  wrong : option_map WrongTimes (first_with (has_wrong_times c) i.jobs) ≡ None
  wrong = (none_of_two (option_map WrongTimes (first_with (has_wrong_times c) i.jobs))
      (option_or missed (option_or zeros large)) unrefusing).0

  rest : (missed ≡ None) × (option_or zeros large ≡ None)
  rest = none_of_two missed (option_or zeros large)
      (none_of_two (option_map WrongTimes (first_with (has_wrong_times c) i.jobs))
      (option_or missed (option_or zeros large)) unrefusing).1

  no_wrong : wrong_times_in p false i.jobs ≡ None
  no_wrong =
      ap (λ e. option_map WrongTimes (first_with (λ (job : JobFields).
      cond (is_shop_env e) (not (has_two job.times)) (has_two job.times)) i.jobs)) env
      ∙ wrong

  has_all : (job : JobFields) → lacking c job ≡ None → lacking_in p job ≡ None
  has_all job none =
      ap (λ b. three (b && is_none job.weight) (p.release && is_none job.release)
      (uses_due p.goal && is_none job.due)) weighs
      ∙ ap (λ b. three (is_weighted c && is_none job.weight) (b && is_none job.release)
      (uses_due p.goal && is_none job.due)) releases
      ∙ ap (λ b. three (is_weighted c && is_none job.weight) (is_released c && is_none job.release)
      (b && is_none job.due)) due
      ∙ none_of_three (is_weighted c && is_none job.weight) (is_released c && is_none job.release)
      (is_due c && is_none job.due) (is_costed c && is_none job.cost) none

  no_missing : (j : ℕ) (jobs : List JobFields) → missing_from c j jobs ≡ None
      → missing_in p j jobs ≡ None
  no_missing j [] none = refl
  no_missing j (job ∷ jobs) none =
      let parts = none_of_two (option_map (MissingField j) (lacking c job))
      (missing_from c (j + 1) jobs) none in
      ap (λ o. option_or (option_map (MissingField j) o) (missing_in p (j + 1) jobs))
      (has_all job (none_mapped (MissingField j) (lacking c job) parts.0))
      ∙ no_missing (j + 1) jobs parts.1

  no_idle : where_needed p (idle_in None 0 i.jobs) ≡ None
  no_idle = by (is_shop c) refl
    where
      by : (b : Bool) → is_shop c ≡ b → where_needed p (idle_in None 0 i.jobs) ≡ None
      by true shop =
          ap (λ b. cond b (idle_in None 0 i.jobs) None) (needs ∙ no_need c shop)
      by false plain =
          let zero : option_map ZeroTime (first_with has_zero_time i.jobs) ≡ None =
          sym (cond-false (is_shop c) None (option_map ZeroTime (first_with has_zero_time i.jobs))
          plain) ∙ (none_of_two zeros large rest.1).0 in
          let worked : All (λ job. has_zero_time job ≡ false) i.jobs =
          none_at has_zero_time i.jobs (none_mapped _ _ (none_mapped _ _ zero)) in
          either_none (needs_time p) (idle_in None 0 i.jobs) (none_idle 0 i.jobs worked)

  no_refusal : jobs_refusal_in p (self_timed i) ≡ None
  no_refusal =
      ap (λ o. option_or o (option_or (missing_in p 1 i.jobs)
      (where_needed p (idle_in None 0 i.jobs)))) no_wrong
      ∙ ap (λ o. option_or o (where_needed p (idle_in None 0 i.jobs)))
      (no_missing 1 i.jobs rest.0)
      ∙ no_idle

  -- ---- the same jobs

  job_same : (job : JobFields) (d : JobData) → d ≡ data_of c job → has_wrong_times c job ≡ false
      → made (d.first ∷ cond (is_shop c) (d.second ∷ []) []) d.weight d.release d.due
      ≡ job_in p (times_of job.times) [] job
  job_same job d d-is fit =
      same_made _ _ _ _ _ _ _ _
      (ap (λ (x : JobData). x.first ∷ cond (is_shop c) (x.second ∷ []) []) d-is
      ∙ times_same job.times (is_shop c) fit)
      (ap (λ (x : JobData). x.weight) d-is
      ∙ sym (ap (λ b. cond b (as_time (unwrap_or job.weight (pos 0))) 1) weighs))
      (ap (λ (x : JobData). x.release) d-is
      ∙ sym (ap (λ b. cond b (as_time (unwrap_or job.release (pos 0))) 0) releases))
      (ap (λ (x : JobData). x.due) d-is
      ∙ sym (ap (λ b. cond b (unwrap_or job.due (pos 0)) (pos 0)) due))

  -- from some job on
  listed : (s place : ℕ) (jobs : List JobFields) → All (λ job. has_wrong_times c job ≡ false) jobs
      → ((n : ℕ) → job_data k (s + n) ≡ slice_index_or (map (data_of c) jobs) n no_job)
      → map (posed_job k) (range_with_len s (length jobs)) ≡ jobs_in p None place jobs
  listed s place [] fit at = refl
  listed s place (job ∷ jobs) fit at =
      let here : s ≡ s + 0 = omega arith in
      let next : (n : ℕ) → s + 1 + n ≡ s + suc n = λ n. omega arith in
      ap (λ x. x ∷ map (posed_job k) (range_with_len (s + 1) (length jobs)))
      (job_same job (job_data k s) (ap (job_data k) here ∙ at 0)
      (All-head (λ job. has_wrong_times c job ≡ false) job jobs fit))
      ∙ ap (λ xs. job_in p (times_of job.times) [] job ∷ xs)
      (listed (s + 1) (place + 1) jobs
      (All-tail (λ job. has_wrong_times c job ≡ false) job jobs fit)
      (λ n. ap (job_data k) (next n) ∙ at (suc n)))

  jobs_same : map (posed_job k) (all_jobs k) ≡ jobs_in p None 0 i.jobs
  jobs_same =
      let at : (n : ℕ) → 1 + n - 1 ≡ n = λ n. omega arith in
      ap (λ n. map (posed_job k) (range_with_len 1 n)) (length-map i.jobs (data_of c))
      ∙ listed 1 0 i.jobs (times_right c i.jobs unrefusing)
      (λ n. ap (λ x. slice_index_or (map (data_of c) i.jobs) x no_job) (at n))

  abbrev task_with : List ProblemJobData → List (ℕ × ℕ) → ProblemData
  task_with jobs arcs = record { problem = p; machines = m; jobs = jobs; arcs = arcs }

  task_same : task_in p m (self_timed i) ≡ record (posed k) { problem = p }
  task_same =
      ap (λ jobs. task_with jobs (cond p.prec i.arcs [])) (sym jobs_same)
      ∙ ap (λ b. task_with (map (posed_job k) (all_jobs k)) (cond b i.arcs [])) orders

  -- ---- the same preparation

  pub alike-at : (argument : Option ℕ) → machines_for c p.count argument i.machines ≡ Ok m
      → prepared_in (self_timed i) p argument ≡ Ok (record (posed k) { problem = p })
  alike-at argument counted =
      ap (λ b. cond b (Err (WrongTimes 1)) (by_count (machines_in p false argument i.machines)))
      (ap is_job_shop env ∙ no_job_shop c)
      ∙ ap by_count (ap (λ e. machines_by true (is_single_env e) (is_shop_env e) p.count argument
      i.machines) env
      ∙ machines_same (is_single c) (is_shop c) p.count argument i.machines ∙ counted)
      ∙ ap (λ o. unless o (Ok (task_in p m (self_timed i)))) no_refusal
      ∙ ap (λ (t : ProblemData). Ok t) task_same
    where
      by_count : Result ℕ Refusal → Result ProblemData Refusal
      by_count r = r >>= λ machines.
          unless (jobs_refusal_in p (self_timed i)) (Ok (task_in p machines (self_timed i)))

pub alike : AlikeLaw
alike i p argument task is =
    let (c, found, rest) = bind_ok (ok_or (class_of p) NoSolver) _ task is in
    let (m, counted, made) = bind_ok
    (unless (then_some (is_too_many c (length i.jobs)) TooManyJobs)
    (machines_for c p.count argument i.machines))
    (λ machines. unless (jobs_refusal c i.jobs) (Ok (task_of c machines i))) task rest in
    let (few, machines) = unrefused (then_some (is_too_many c (length i.jobs)) TooManyJobs)
    (machines_for c p.count argument i.machines) m counted in
    let (refusal, gives) = unrefused (jobs_refusal c i.jobs) (Ok (task_of c m i)) task made in
    let of : IsOfClass p c =
    (determined p (class_of p) refl c).0 (class_found (class_of p) c NoSolver found) in
    subst (IsAlike i p argument) (ok_same (Ok (task_of c m i)) (task_of c m i) task refl gives)
    (record {
      of_class = of;
      same = alike-at p c of m i refusal argument machines;
      sized = λ sound plain.
          subst (λ (q : Problem). IsSized (record (posed (task_of c m i)) { problem = q }))
          (sym (ap (λ (q : Problem). record q { count = p.count }) of.notation))
          (posed-sized (task_of c m i) sound p.count plain);
    })
