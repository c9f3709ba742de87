-- What the command says of an instance that is read from its own words is what it says of it in its
-- file.
use Rattle.std.proofs.Common.{◌≡◌, ℕ, ◌-◌, ◌+◌, ◌*◌, ◌<◌, ◌≤◌, Bool, true, false, ◌&&◌, cond, List, [], Option, None, Some, Result, Ok, Err, Global, is_none, is_some, refl, sym, ap, subst, ◌∙◌, arith, inl, inr, mul-le-mul, take, drop}
use Rattle.std.specs.Borrow.{Bor}
use Rattle.std.specs.Option.{option_map}
use Rattle.std.specs.Str.{bytes_eq}
use Rattle.std.proofs.lemmas.Bool.{true≢false}
use Rattle.std.proofs.lemmas.List.{drop-drop}
use Rattle.std.proofs.lemmas.Slice.Eq.{bytes_eq-Decides}
use Rattle.tf_words.specs.Words.{words}
use Rattle.tf_model.specs.InstanceData.{InstanceData}
use Rattle.tf_model.specs.Outcome.{◌>>=◌}
use Rattle.tf_model.specs.Prepare.{prepared}
use Rattle.tf_model.specs.SchedulingTask.{SchedulingTask}
use Rattle.tf_model.proofs.Outcomes.{bind_ok}
use Rattle.tf_model.proofs.Prepared.{none_mapped}
use Rattle.tf_notation.specs.Reading.{notation}
use Rattle.tf_posed.specs.ProblemData.{ProblemData}
use Rattle.tf_prepare.specs.TimedData.{self_timed}
use Rattle.tf_prepare.specs.Preparing.{prepared_in}
use Rattle.tf_read.specs.WeightedTardiness.{weighted_tardiness}
use Rattle.tf_text.specs.Counted.{DeviceUse, use_of}
use Rattle.tf_text.specs.Input.{IsTextOf}
use Rattle.tf_text.specs.declared.answer.layout.Layout.{Layout}
use Rattle.tf_text.specs.declared.answer.layout.Layout.TheVariants.{Two}
use Rattle.tf_engine.specs.FormData.{FormData, InWt}
use Rattle.tf_engine.specs.RequestData.{RequestData}
use Rattle.tf_engine.specs.Refusal.{refused_by, problem_for, task_for}
use Rattle.tf_engine.specs.Faults.{Refused, ByText, ByTask, Stop, Refuses, Fails, Wants, stop_of}
use Rattle.tf_engine.specs.Headline.{IsAnswered, Answers, ShowsIt, solve_run}
use Rattle.tf_engine.specs.Runs.{IsOutcome, Run}
use Rattle.tf_engine.specs.declared.fault.RunFault.{RunFault}
use Rattle.tf_bounding.specs.RunBounding.{bound_run, problem_in, problem_task_for}
use Rattle.tf_evaluate.specs.declared.evaluation.Detail.{Detail}
use Rattle.tf_evaluate.specs.declared.evaluation.Standing.{Standing}
use Rattle.tf_evaluate.specs.RunEvaluating.{evaluation_run}
use Rattle.tf_assess.specs.RunAssessing.{assessment_run}
use Rattle.tf_assess.specs.RunRating.{IsRatingOf, is_solved}
use Rattle.tf_orders.specs.declared.measure.Measure.{Measure}
use Rattle.tf_orders.specs.declared.measure.Measure.TheVariants as measures
use Rattle.tf_orders.specs.declared.run_orders.OrderForm.{OrderForm}
use Rattle.tf_orders.specs.declared.run_orders.OrderForm.TheVariants.{Single, Ruled as ByRule}
use Rattle.tf_orders.specs.declared.run_orders.OrdersRated.{OrdersRated}
use Rattle.tf_orders.specs.Measuring.{IsMeasure, detail_of}
use Rattle.tf_orders.specs.RunOrders.{orders_run}
use Rattle.tf_asked.specs.declared.aids.Aids.{Aids}
use Rattle.tf_asked.specs.Asking.{form_asked, requested}
use Rattle.tf_asked.specs.declared.options.Assessing.{Assessing}
use Rattle.tf_asked.specs.declared.options.Evaluating.{Evaluating}
use Rattle.tf_asked.specs.declared.options.FormOption.{FormOption}
use Rattle.tf_asked.specs.declared.options.FormOption.TheVariants.{Table, Wt, Flow}
use Rattle.tf_asked.specs.declared.options.Options.{Options}
use Rattle.tf_asked.specs.declared.options.OrderSource.{OrderSource}
use Rattle.tf_asked.specs.declared.options.OrderSource.TheVariants as sources
use Rattle.tf_asked.specs.declared.options.Work.{Work as Asking}
use Rattle.tf_asked.specs.declared.options.Work.TheVariants.{Solve, Bound, Plan, Trace, Check, Evaluate, Assess, Rate, Gantt, Random, Problems, Border, Picture}
use Rattle.tf_asked.specs.declared.series.FileForm.{FileForm}
use Rattle.tf_asked.specs.declared.series.FileForm.TheVariants as files
use Rattle.tf_asked.specs.declared.series.Series.{Series}
use Rattle.tf_asked.specs.declared.series.Told.{Told}
use Rattle.tf_asked.specs.declared.series.Told.TheVariants as kinds
use Rattle.tf_command.specs.Ending.{Ends, EndsSolving, EndsBounding, EndsEvaluating, EndsRating, SaysLine, line_of, status_after}
use Rattle.tf_command.specs.Formatted.{held}
use Rattle.tf_command.specs.Performing.{EndsOver, EndsOverBoth, Performs, RatesAided, RatesOrders}
use Rattle.tf_command.specs.Statuses.{status_by, status_of, status_of_rated, status_of_standing, status_of_text}
use Rattle.tf_command.specs.Unread.{Texts}
use Rattle.tf_held.specs.Shops.{EndsCounted, asks_count, evaluated, is_uncounted_in, wants_count, whole_name}
use Rattle.tf_held.specs.Texts.{BesideData, held_texts, named_beside}
use Rattle.tf_held.specs.Series.{AreOptionsFor, IsAssessedBy, IsEvaluatedBy, IsFormFor, IsRatedBy, IsWorkFor, RunsFor, bound_of, has_told}
use Rattle.tf_held.specs.Instances.{HasInstance, AreParts, IsAnsweredApart, IsBehind, IsNamedApart}
use Rattle.tf_held.proofs.Numbered.{next_instance, instance_index, instance_jobs}

-- what a run wrote of texts another wrote of other texts, of which it says the same
said_again : {A T X : Type 0} {run other : Run T X} {writer : DeviceUse} {x : X}
    (r : IsOutcome {A = A} run writer (Ok x)) (texts : T) → other.Over texts
    → other.Says texts x r.outcome.0 → IsOutcome {A = A} other writer (Ok x)
said_again r texts all says =
    record { texts = texts; are_all = all; outcome = (r.outcome.0, says, r.outcome.2) }

-- ---- the task of a request

refused_ok : {X E : Type 0} (reason : E → Refused) (r : Result X E) (x : X)
    → refused_by reason r ≡ Ok x → r ≡ Ok x
refused_ok reason (Ok y) x h = let e = h in cc
refused_ok reason (Err e) x h = cc

-- a request for an instance of a weighted tardiness file
module _ (problem : List ℕ) (machines : Option ℕ) (layout : Layout) (jobs : ℕ) where
  abbrev asked : FormData → RequestData
  asked form = record { problem = problem; form = form; machines = machines; layout = layout }

  task_has : (k : ℕ) (text : List ℕ) (task : SchedulingTask)
      → task_for (asked (InWt jobs k)) text ≡ Ok task
      → (i : InstanceData) × (weighted_tardiness jobs k text ≡ Ok i)
  task_has k text task h =
      let class = bind_ok (problem_for problem) (λ p. refused_by ByText (weighted_tardiness jobs k text)
      >>= λ i. refused_by ByTask (prepared i p machines)) task h in
      let read = bind_ok (refused_by ByText (weighted_tardiness jobs k text))
      (λ i. refused_by ByTask (prepared i class.0 machines)) task class.2 in
      (read.0, refused_ok ByText (weighted_tardiness jobs k text) read.0 read.1)

  problem_has : (k : ℕ) (text : List ℕ) (task : ProblemData)
      → problem_task_for (asked (InWt jobs k)) text ≡ Ok task
      → (i : InstanceData) × (weighted_tardiness jobs k text ≡ Ok i)
  problem_has k text task h =
      let known = bind_ok (problem_in problem)
      (λ p. (refused_by ByText (weighted_tardiness jobs k text) >>= λ i. Ok (self_timed i))
      >>= λ timed. refused_by ByTask (prepared_in timed p machines)) task h in
      let timed = bind_ok (refused_by ByText (weighted_tardiness jobs k text) >>= λ i. Ok (self_timed i))
      (λ timed. refused_by ByTask (prepared_in timed known.0 machines)) task known.2 in
      let read = bind_ok (refused_by ByText (weighted_tardiness jobs k text))
      (λ i. Ok (self_timed i)) timed.0 timed.1 in
      (read.0, refused_ok ByText (weighted_tardiness jobs k text) read.0 read.1)

  -- one that is said by two texts
  module _ (m k : ℕ) (own file : List ℕ)
      (same : weighted_tardiness jobs k file ≡ weighted_tardiness jobs m own) where
    task_same : task_for (asked (InWt jobs k)) file ≡ task_for (asked (InWt jobs m)) own
    task_same =
        ap (λ r. problem_for problem >>= λ p. refused_by ByText r
        >>= λ i. refused_by ByTask (prepared i p machines)) same

    problem_same : problem_task_for (asked (InWt jobs k)) file
        ≡ problem_task_for (asked (InWt jobs m)) own
    problem_same =
        ap (λ r. problem_in problem >>= λ p. (refused_by ByText r >>= λ i. Ok (self_timed i))
        >>= λ timed. refused_by ByTask (prepared_in timed p machines)) same

    abbrev answers_again : (out : List ℕ) → Answers (asked (InWt jobs m)) own out
        → Answers (asked (InWt jobs k)) file out
    answers_again out a = record {
      task = a.task;
      meant = task_same ∙ a.meant;
      sheet = a.sheet;
      problem = a.problem;
      jobs = a.jobs;
      machines = a.machines;
      best = a.best;
      written = a.written;
    }

    shown_again : (out : List ℕ) (a : Answers (asked (InWt jobs m)) own out) → ShowsIt a
        → ShowsIt (answers_again out a)
    shown_again out a s = record {
      accepted = s.accepted;
      rule = s.rule;
      readable = s.readable;
      again = λ fits. let checked = s.again fits in record {
        task = checked.task;
        meant = task_same ∙ checked.meant;
        sheet = checked.sheet;
        said = checked.said;
        verdict = checked.verdict;
      };
    }

    answered_again : (out : List ℕ) → IsAnswered (asked (InWt jobs m)) own out
        → IsAnswered (asked (InWt jobs k)) file out
    answered_again out a = (answers_again out a.0, shown_again out a.0 a.1)

    -- what a run over the one writes is what a run over the other writes
    module _ (reader other writer : DeviceUse) (before : reader.before ≡ Some own) where
      abbrev in_file : DeviceUse
      in_file = record reader { before = Some file }

      text_is : (text : List ℕ) → IsTextOf reader.before text → text ≡ own
      text_is text all = subst (λ known. IsTextOf known text) before all

      solving_again : {A : Type 0} (u : Unit {0})
          → IsOutcome {A = A} (solve_run (asked (InWt jobs m)) reader) writer (Ok u)
          → IsOutcome {A = A} (solve_run (asked (InWt jobs k)) in_file) writer (Ok u)
      solving_again u r = said_again r file refl
          (answered_again r.outcome.0
          (subst (λ text. IsAnswered (asked (InWt jobs m)) text r.outcome.0)
          (text_is r.texts r.are_all) r.outcome.1))

      bounding_again : {A : Type 0} (u : Unit {0})
          → IsOutcome {A = A} (bound_run A (asked (InWt jobs m)) reader) writer (Ok u)
          → IsOutcome {A = A} (bound_run A (asked (InWt jobs k)) in_file) writer (Ok u)
      bounding_again u r =
          let (found, bounds) = r.outcome.1 in
          said_again r file refl (
            found,
            record {
              task = bounds.task;
              meant = problem_same ∙ ap (problem_task_for (asked (InWt jobs m)))
                  (sym (text_is r.texts r.are_all)) ∙ bounds.meant;
              feasible = bounds.feasible;
              is = bounds.is;
              written = bounds.written;
            },
          )

      evaluating_again : {A : Type 0} (detail : Detail) (standing : Standing)
          → IsOutcome {A = A} (evaluation_run detail (asked (InWt jobs m)) reader other) writer (Ok standing)
          → IsOutcome {A = A} (evaluation_run detail (asked (InWt jobs k)) in_file other) writer (Ok standing)
      evaluating_again detail standing r =
          let (it, e, same, written) = r.outcome.1 in
          said_again r (file, r.texts.1) (refl, r.are_all.1) (
            it,
            record {
              problem = e.problem;
              asked = e.asked;
              task = e.task;
              meant = task_same ∙ ap (task_for (asked (InWt jobs m)))
                  (sym (text_is r.texts.0 r.are_all.0)) ∙ e.meant;
              sheet = e.sheet;
              said = e.said;
              evaluation = e.evaluation;
              standing = e.standing;
              gap_is = e.gap_is;
              ends = e.ends;
            },
            same,
            written,
          )

      assessing_again : {A : Type 0} (standing : Standing)
          → IsOutcome {A = A} (assessment_run A None (asked (InWt jobs m)) reader other) writer (Ok standing)
          → IsOutcome {A = A} (assessment_run A None (asked (InWt jobs k)) in_file other) writer (Ok standing)
      assessing_again standing r =
          let (it, a, same) = r.outcome.1 in
          said_again r (file, r.texts.1) (refl, r.are_all.1) (
            it,
            record {
              task = a.task;
              meant = problem_same ∙ ap (problem_task_for (asked (InWt jobs m)))
                  (sym (text_is r.texts.0 r.are_all.0)) ∙ a.meant;
              feasible = a.feasible;
              sheet = a.sheet;
              said = a.said;
              is = a.is;
              written = a.written;
            },
            same,
          )

      rating_again : {A : Type 0} (detail : Detail) (standing : Standing)
          → IsRatingOf {A = A} detail (asked (InWt jobs m)) reader other writer (Ok standing)
          → IsRatingOf {A = A} detail (asked (InWt jobs k)) in_file other writer (Ok standing)
      rating_again {A = A} detail standing r = record {
        solved = λ is. evaluating_again detail standing (r.solved is);
        unsolved = λ is. assessing_again standing (r.unsolved is);
      }

      measure_again : {A : Type 0} (detail : Detail) (by : Measure A)
          → IsMeasure detail None (asked (InWt jobs m)) own by
          → IsMeasure detail None (asked (InWt jobs k)) file by
      measure_again detail (measures.Optimum p task best steps others) is =
          (is.0, is.1, task_same ∙ is.2, is.3)
      measure_again detail (measures.Bound task weighed others) is =
          (is.0, problem_same ∙ is.1, is.2, is.3)

      orders_again : {A : Type 0} (form : OrderForm) (told : OrdersRated)
          → IsOutcome {A = A} (orders_run A form None (asked (InWt jobs m)) None reader other) writer (Ok told)
          → IsOutcome {A = A} (orders_run A form None (asked (InWt jobs k)) None in_file other) writer (Ok told)
      orders_again form told r =
          let (by, is) = r.outcome.1 in
          said_again r (file, r.texts.1) (refl, r.are_all.1) (
            by,
            record {
              measure = measure_again (detail_of form) by
                  (subst (λ text. IsMeasure (detail_of form) None (asked (InWt jobs m)) text by)
                  (text_is r.texts.0 r.are_all.0) is.measure);
              others_are = is.others_are;
              rated_is = is.rated_is;
            },
          )

  -- a run that gives an answer read an instance
  measure_has : {A : Type 0} (detail : Detail) (k : ℕ) (text : List ℕ) (by : Measure A)
      → IsMeasure detail None (asked (InWt jobs k)) text by
      → (i : InstanceData) × (weighted_tardiness jobs k text ≡ Ok i)
  measure_has detail k text (measures.Optimum p task best steps others) is = task_has k text task is.2
  measure_has detail k text (measures.Bound task weighed others) is = problem_has k text task is.1

  module _ (k : ℕ) (text : List ℕ) (reader other writer : DeviceUse)
      (before : reader.before ≡ Some text) where
    all_is : (all : List ℕ) → IsTextOf reader.before all → all ≡ text
    all_is all is = subst (λ known. IsTextOf known all) before is

    solving_has : {A : Type 0} (u : Unit {0})
        → IsOutcome {A = A} (solve_run (asked (InWt jobs k)) reader) writer (Ok u)
        → (i : InstanceData) × (weighted_tardiness jobs k text ≡ Ok i)
    solving_has u r = task_has k text r.outcome.1.0.task
        (ap (task_for (asked (InWt jobs k))) (sym (all_is r.texts r.are_all)) ∙ r.outcome.1.0.meant)

    bounding_has : {A : Type 0} (u : Unit {0})
        → IsOutcome {A = A} (bound_run A (asked (InWt jobs k)) reader) writer (Ok u)
        → (i : InstanceData) × (weighted_tardiness jobs k text ≡ Ok i)
    bounding_has u r = problem_has k text r.outcome.1.1.task
        (ap (problem_task_for (asked (InWt jobs k))) (sym (all_is r.texts r.are_all))
        ∙ r.outcome.1.1.meant)

    rating_has : {A : Type 0} (detail : Detail) (standing : Standing)
        → IsRatingOf {A = A} detail (asked (InWt jobs k)) reader other writer (Ok standing)
        → (i : InstanceData) × (weighted_tardiness jobs k text ≡ Ok i)
    rating_has {A = A} detail standing r = by (is_solved problem) refl
      where
        by : (b : Bool) → is_solved problem ≡ b
            → (i : InstanceData) × (weighted_tardiness jobs k text ≡ Ok i)
        by true e =
            let is = r.solved e in
            let it = is.outcome.1.1 in
            task_has k text it.task
            (ap (task_for (asked (InWt jobs k))) (sym (all_is is.texts.0 is.are_all.0)) ∙ it.meant)
        by false e =
            let is = r.unsolved e in
            let a = is.outcome.1.1 in
            problem_has k text a.task
            (ap (problem_task_for (asked (InWt jobs k))) (sym (all_is is.texts.0 is.are_all.0)) ∙ a.meant)

    orders_has : {A : Type 0} (form : OrderForm) (told : OrdersRated)
        → IsOutcome {A = A} (orders_run A form None (asked (InWt jobs k)) None reader other) writer (Ok told)
        → (i : InstanceData) × (weighted_tardiness jobs k text ≡ Ok i)
    orders_has form told r =
        measure_has (detail_of form) k text r.outcome.1.0
        (subst (λ all. IsMeasure (detail_of form) None (asked (InWt jobs k)) all r.outcome.1.0)
        (all_is r.texts.0 r.are_all.0) r.outcome.1.1.measure)

-- ---- a status

none_told : {A : Type 0} (fault : RunFault A) → has_told (status_of fault) ≡ true → ⊥
none_told fault told = by (stop_of fault) told
  where
    by : (s : Stop) → has_told (status_by s) ≡ true → ⊥
    by (Refuses refused) e = true≢false (sym e)
    by Fails e = true≢false (sym e)
    by Wants e = true≢false (sym e)

-- ---- texts by their names

module _ (input name text : List ℕ) (bound : Option (List ℕ)) (beside : BesideData)
    (named : name ≡ input) where
  named_same : bytes_eq name input ≡ true
  named_same = subst (λ n. bytes_eq n input ≡ true) (sym named) ((bytes_eq-Decides input input).1 refl)

  is_text : Some (cond (bytes_eq name input) text (named_beside bound beside name)) ≡ Some text
  is_text = ap (λ b. Some (cond b text (named_beside bound beside name))) named_same

  opened : (writer : DeviceUse) (says : List ℕ → Type 0) (status : ℕ) (Ends : DeviceUse → Type 0)
      → EndsOver (held_texts input text bound beside) name writer says status Ends
      → (reader : DeviceUse) × (reader.before ≡ Some text) × Ends reader
  opened writer says status Ends (inl closed) = absurd (true≢false (ap is_some closed.unknown))
  opened writer says status Ends (inr (reader, reads, ends)) = (reader, reads ∙ is_text, ends)

  opens : (writer : DeviceUse) (says : List ℕ → Type 0) (status : ℕ) (Ends : DeviceUse → Type 0)
      (reader : DeviceUse) → reader.before ≡ Some text → Ends reader
      → EndsOver (held_texts input text bound beside) name writer says status Ends
  opens writer says status Ends reader before ends = inr (reader, before ∙ sym is_text, ends)

  module _ (second : List ℕ) where
    abbrev second_text : Option (List ℕ)
    second_text = Some (cond (bytes_eq second input) text (named_beside bound beside second))

    opened_both : (writer : DeviceUse) (says : List ℕ → Type 0) (status : ℕ)
        (Ends : DeviceUse → DeviceUse → Type 0)
        → EndsOverBoth (held_texts input text bound beside) name second writer says status Ends
        → (reader : DeviceUse) × (other : DeviceUse) × (reader.before ≡ Some text)
        × (other.before ≡ second_text) × Ends reader other
    opened_both writer says status Ends (inl closed) =
        absurd (true≢false (ap is_some closed.unknown))
    opened_both writer says status Ends (inr (inl closed)) =
        absurd (true≢false (ap is_some closed.unknown))
    opened_both writer says status Ends (inr (inr (reader, other, reads, reads_other, ends))) =
        (reader, other, reads ∙ is_text, reads_other, ends)

    opens_both : (writer : DeviceUse) (says : List ℕ → Type 0) (status : ℕ)
        (Ends : DeviceUse → DeviceUse → Type 0) (reader other : DeviceUse)
        → reader.before ≡ Some text → other.before ≡ second_text → Ends reader other
        → EndsOverBoth (held_texts input text bound beside) name second writer says status Ends
    opens_both writer says status Ends reader other before before_other ends =
        inr (inr (reader, other, before ∙ sym is_text, before_other, ends))

-- ---- the work of another instance

abbrev with_number : ℕ → ℕ → Options → Options
with_number jobs k options = record options { form = Wt jobs k }

abbrev work_of : ℕ → ℕ → Asking → Asking
work_of jobs k (Solve options layout) = Solve (with_number jobs k options) layout
work_of jobs k (Bound options steps) = Bound (with_number jobs k options) steps
work_of jobs k (Evaluate evaluating) =
    Evaluate (record evaluating { options = with_number jobs k evaluating.options })
work_of jobs k (Assess assessing) =
    Assess (record assessing { options = with_number jobs k assessing.options })
work_of jobs k (Rate options source aids) = Rate (with_number jobs k options) source aids
work_of jobs k work = work

module _ (series : Series) (jobs : ℕ) (wt : series.form ≡ files.Wt jobs) (m k : ℕ)
    (own file : List ℕ) where
  form_is : (options : Options) → AreOptionsFor series own m options
      → form_asked options.form ≡ InWt jobs m
  form_is options o = subst (λ form. IsFormFor form own m (form_asked options.form)) wt o.form

  options_for : (options : Options) → AreOptionsFor series own m options
      → AreOptionsFor series file k (with_number jobs k options)
  options_for options o = record {
    problem = o.problem;
    form = subst (λ form. IsFormFor form file k (InWt jobs k)) (sym wt) refl;
    machines = o.machines;
    input = o.input;
    plain = o.plain;
    unmeasured = o.unmeasured;
  }

  work_for : (beside : List ℕ) (work : Asking) → IsWorkFor series own m beside work
      → IsWorkFor series file k beside (work_of jobs k work)
  work_for beside (Solve options layout) is = (is.0, options_for options is.1, is.2)
  work_for beside (Bound options steps) is = (is.0, options_for options is.1)
  work_for beside (Evaluate evaluating) is =
      (options_for evaluating.options is.0, evaluated_by series.told evaluating is.1)
    where
      evaluated_by : (t : Told) (e : Evaluating) → IsEvaluatedBy t e
          → IsEvaluatedBy t (record e { options = with_number jobs k e.options })
      evaluated_by (kinds.Answers answer aids) e is = is
      evaluated_by kinds.Values e is = absurd is
      evaluated_by (kinds.Orders name aids) e is = absurd is
      evaluated_by (kinds.Ruled rule aids) e is = absurd is
      evaluated_by (kinds.Bounds steps) e is = absurd is
  work_for beside (Plan options layout steps) is = absurd is
  work_for beside (Trace options style) is = absurd is
  work_for beside (Check options answer) is = absurd is
  work_for beside (Assess assessing) is =
      (options_for assessing.options is.0, assessed_by series.told assessing is.1)
    where
      assessed_by : (t : Told) (a : Assessing) → IsAssessedBy t a
          → IsAssessedBy t (record a { options = with_number jobs k a.options })
      assessed_by (kinds.Answers answer aids) a is = is
      assessed_by kinds.Values a is = absurd is
      assessed_by (kinds.Orders name aids) a is = absurd is
      assessed_by (kinds.Ruled rule aids) a is = absurd is
      assessed_by (kinds.Bounds steps) a is = absurd is
  work_for beside (Rate options source aids) is = (options_for options is.0, is.1)
  work_for beside (Gantt answer drawing explain) is = absurd is
  work_for beside (Picture picturing) is = absurd is
  work_for beside (Random wanted) is = absurd is
  work_for beside (Problems listed name) is = absurd is
  work_for beside Border is = absurd is

  -- no number of machines is wanted of a weighted tardiness file
  whole_of : (form : FormOption) → form_asked form ≡ InWt jobs m → whole_name form ≡ None
  whole_of Table is = cc
  whole_of (Wt jobs index) is = refl
  whole_of (Flow name pair) is = cc

  unwanted : (options : Options) → AreOptionsFor series own m options → wants_count options ≡ false
  unwanted options o =
      ap (λ name. is_some name
      && (is_none options.machines && is_uncounted_in (notation options.problem.now)))
      (whole_of options.form (form_is options o))

  uncounted : (beside : List ℕ) (work : Asking) → IsWorkFor series own m beside work
      → asks_count (evaluated work) ≡ false
  uncounted beside (Solve options layout) is = refl
  uncounted beside (Bound options steps) is = refl
  uncounted beside (Evaluate evaluating) is = unwanted evaluating.options is.0
  uncounted beside (Plan options layout steps) is = absurd is
  uncounted beside (Trace options style) is = refl
  uncounted beside (Check options answer) is = refl
  uncounted beside (Assess assessing) is = unwanted assessing.options is.0
  uncounted beside (Rate options source aids) is = unwanted options is.0
  uncounted beside (Gantt answer drawing explain) is = refl
  uncounted beside (Picture picturing) is = refl
  uncounted beside (Random wanted) is = refl
  uncounted beside (Problems listed name) is = refl
  uncounted beside Border is = refl

-- work that wants no number is done as it is
done_plain : (texts : Texts) (work : Asking) (writer : DeviceUse) (says : Bool → List ℕ → Type 0)
    (status : ℕ) → asks_count (evaluated work) ≡ false
    → EndsCounted texts work writer says status → Performs texts work writer says status
done_plain texts work writer says status none (inl plain) = plain.1
done_plain texts work writer says status none (inr (options, is, wants, ends)) =
    absurd (true≢false (sym wants ∙ sym (ap asks_count is) ∙ none))

-- ---- what was told

module _ (jobs m : ℕ) (status : ℕ) (told : has_told status ≡ true) (writer : DeviceUse)
    (says : List ℕ → Type 0) where
  -- a run gave something
  abbrev Given : {X : Type 0} → (Result X (RunFault Global) → Type 0) → (X → ℕ) → Type 0
  Given {X = X} IsAsked exit_status =
      (x : X) × IsAsked (Ok x) × (status ≡ exit_status x) × says []

  -- the run of a request for an instance of a weighted tardiness file
  given : {X : Type 0} {exit_status : X → ℕ}
      (IsAsked : FormData → Result X (RunFault Global) → Type 0) (form : FormData)
      → form ≡ InWt jobs m → Ends (IsAsked form) exit_status says status
      → Given (IsAsked (InWt jobs m)) exit_status
  given {X = X} {exit_status = exit_status} IsAsked form is e = by e.run e.outcome e.ends e.said
    where
      by : (run : Result X (RunFault Global)) → IsAsked form run
          → status ≡ status_after exit_status run → says (line_of run)
          → Given (IsAsked (InWt jobs m)) exit_status
      by (Ok x) outcome ends said =
          (x, subst (λ f. IsAsked f (Ok x)) is outcome, ends, said)
      by (Err fault) outcome ends said =
          absurd (none_told fault (subst (λ n. has_told n ≡ true) ends told))

  module _ (options : Options) (layout : Layout) (form_is : form_asked options.form ≡ InWt jobs m) where
    abbrev request : FormData → RequestData
    request = asked options.problem.now options.machines layout jobs

    told_solving : (reader : DeviceUse)
        → EndsSolving Global (requested options layout) reader writer says status
        → Given (IsOutcome (solve_run (request (InWt jobs m)) reader) writer) status_of_text
    told_solving reader =
        given (λ f. IsOutcome (solve_run (request f) reader) writer) (form_asked options.form) form_is

    told_bounding : (reader : DeviceUse)
        → EndsBounding Global (requested options layout) reader writer says status
        → Given (IsOutcome (bound_run Global (request (InWt jobs m)) reader) writer) status_of_text
    told_bounding reader =
        given (λ f. IsOutcome (bound_run Global (request f) reader) writer)
        (form_asked options.form) form_is

    told_rating : (detail : Detail) (reader other : DeviceUse)
        → EndsEvaluating Global detail (requested options layout) reader other writer says status
        → Given (IsRatingOf detail (request (InWt jobs m)) reader other writer) status_of_standing
    told_rating detail reader other =
        given (λ f. IsRatingOf detail (request f) reader other writer) (form_asked options.form) form_is

    told_orders : (form : OrderForm) (reader other : DeviceUse)
        → EndsRating Global form None (requested options layout) None reader other writer says status
        → Given (IsOutcome (orders_run Global form None (request (InWt jobs m)) None reader other) writer)
        status_of_rated
    told_orders form reader other =
        given (λ f. IsOutcome (orders_run Global form None (request f) None reader other) writer)
        (form_asked options.form) form_is

-- ---- orders are rated beside no bound, by the objective of the problem alone

module _ (texts : Texts) (options : Options) (source : OrderSource) (aids : Aids)
    (writer : DeviceUse) (says : Bool → List ℕ → Type 0) (status : ℕ) (none : aids.bound ≡ None)
    (plain : options.telling.measures ≡ false) where
  alone : Performs texts (Rate options source aids) writer says status
      → RatesOrders false texts options source None writer says status
  alone done =
      subst (λ measured. RatesOrders measured texts options source None writer says status) plain
      (subst (λ bound. RatesAided bound texts options source writer says status) none done)

  aided : RatesOrders false texts options source None writer says status
      → Performs texts (Rate options source aids) writer says status
  aided done =
      subst (λ bound. RatesAided bound texts options source writer says status) (sym none)
      (subst (λ measured. RatesOrders measured texts options source None writer says status)
      (sym plain) done)

-- ---- a command

module _ (series : Series) (jobs : ℕ) (wt : series.form ≡ files.Wt jobs) (m : ℕ) (own : List ℕ)
    (beside : BesideData) (writer : DeviceUse) (says : Bool → List ℕ → Type 0) (status : ℕ)
    (told : has_told status ≡ true) (apart : IsNamedApart series.input.now series.told) where
  abbrev input : List ℕ
  input = series.input.now

  abbrev bound : Option (List ℕ)
  bound = bound_of series.told

  abbrev Ran : Asking → Type 0
  Ran work = Performs (held_texts input own bound beside) work writer says status

  wt_form : (options : Options) → AreOptionsFor series own m options
      → form_asked options.form ≡ InWt jobs m
  wt_form = form_is series jobs wt m m own own

  -- there is no text of bounds
  unaided : (t : Told) (line : List ℕ) (source : OrderSource) (aids : Aids) → bound_of t ≡ None
      → IsRatedBy t line source aids → aids.bound ≡ None
  unaided t line (sources.Given order detail) aids none (name, is, text, summary) =
      none_mapped (λ (b : Bor (List ℕ)). b.now) aids.bound (sym (ap bound_of is) ∙ none)
  unaided t line (sources.Ruled rule detail) aids none (is, more) =
      none_mapped (λ (b : Bor (List ℕ)). b.now) aids.bound (sym (ap bound_of is) ∙ none)
  unaided t line (sources.Named name goes_on is_numbered) aids none is = absurd is
  unaided t line (sources.Drawn name detail) aids none is = absurd is

  unassessed : (t : Told) (a : Assessing) → bound_of t ≡ None → IsAssessedBy t a → ⊥
  unassessed (kinds.Answers answer aids) a none is =
      true≢false (ap is_some (sym (ap (option_map (λ (b : Bor (List ℕ)). b.now)) is.2) ∙ none))
  unassessed kinds.Values a none is = is
  unassessed (kinds.Orders name aids) a none is = is
  unassessed (kinds.Ruled rule aids) a none is = is
  unassessed (kinds.Bounds steps) a none is = is

  -- orders are rated over an instance and a text that is known
  abbrev RatesBy : Options → OrderForm → List ℕ → DeviceUse → Type 0
  RatesBy options form text instance =
      (reader : DeviceUse) × (reader.before ≡ Some text)
      × EndsRating Global form None (requested options Two) None instance reader writer
      (says options.telling.explain) status

  rated_has : (options : Options) → AreOptionsFor series own m options → (form : OrderForm)
      (text : List ℕ)
      → EndsOver (held_texts input own bound beside) options.input.now writer
      (says options.telling.explain) status (RatesBy options form text)
      → HasInstance (files.Wt jobs) own m
  rated_has options is form text done =
      let through = opened input options.input.now own bound beside is.input writer
      (says options.telling.explain) status (RatesBy options form text) done in
      let run = told_orders jobs m status told writer (says options.telling.explain) options
      Two (wt_form options is) form through.0 through.2.0 through.2.2 in
      orders_has options.problem.now options.machines Two jobs m own through.0 through.2.0 writer
      through.1 form run.0 run.1

  -- it told of an instance, so the text has it
  ran_has : (work : Asking) → IsWorkFor series own m beside.answers work → Ran work → HasInstance (files.Wt jobs) own m
  ran_has (Solve options layout) is done =
      let through = opened input options.input.now own bound beside is.1.input writer
      (says options.telling.explain) status
      (λ instance. EndsSolving Global (requested options layout) instance writer
      (says options.telling.explain) status) done in
      let run = told_solving jobs m status told writer (says options.telling.explain) options
      layout (wt_form options is.1) through.0 through.2 in
      solving_has options.problem.now options.machines layout jobs m own through.0 writer writer
      through.1 run.0 run.1
  ran_has (Bound options steps) is done =
      let through = opened input options.input.now own bound beside is.1.input writer
      (says options.telling.explain) status
      (λ instance. EndsBounding Global (requested options Two) instance writer
      (says options.telling.explain) status) done in
      let run = told_bounding jobs m status told writer (says options.telling.explain) options
      Two (wt_form options is.1) through.0 through.2 in
      bounding_has options.problem.now options.machines Two jobs m own through.0 writer writer
      through.1 run.0 run.1
  ran_has (Evaluate evaluating) is done =
      let options = evaluating.options in
      let through = opened_both input options.input.now own bound beside is.0.input evaluating.answer.now writer
      (says options.telling.explain) status
      (λ instance other. EndsEvaluating Global evaluating.detail (requested options Two) instance other
      writer (says options.telling.explain) status) done in
      let run = told_rating jobs m status told writer (says options.telling.explain) options
      Two (wt_form options is.0) evaluating.detail through.0 through.1 through.4 in
      rating_has options.problem.now options.machines Two jobs m own through.0 through.1 writer
      through.2 evaluating.detail run.0 run.1
  ran_has (Plan options layout steps) is done = absurd is
  ran_has (Trace options style) is done = absurd is
  ran_has (Check options answer) is done = absurd is
  ran_has (Assess assessing) is done = absurd (unassessed series.told assessing apart.0 is.1)
  ran_has (Rate options (sources.Given order detail) aids) is done =
      rated_has options is.0 (Single detail) order.now
      (alone (held_texts input own bound beside) options (sources.Given order detail) aids writer says status
      (unaided series.told beside.answers (sources.Given order detail) aids apart.0 is.1) is.0.unmeasured done)
  ran_has (Rate options (sources.Ruled rule detail) aids) is done =
      rated_has options is.0 (ByRule rule detail) []
      (alone (held_texts input own bound beside) options (sources.Ruled rule detail) aids writer says status
      (unaided series.told beside.answers (sources.Ruled rule detail) aids apart.0 is.1) is.0.unmeasured done)
  ran_has (Rate options (sources.Named name goes_on is_numbered) aids) is done = absurd is.1
  ran_has (Rate options (sources.Drawn name detail) aids) is done = absurd is.1
  ran_has (Gantt answer drawing explain) is done = absurd is
  ran_has (Picture picturing) is done = absurd is
  ran_has (Random wanted) is done = absurd is
  ran_has (Problems listed name) is done = absurd is
  ran_has Border is done = absurd is

  -- and it tells the same of an instance that another text has
  module _ (k : ℕ) (file : List ℕ)
      (same : weighted_tardiness jobs k file ≡ weighted_tardiness jobs m own) where
    rated_again : (options : Options) → AreOptionsFor series own m options → (form : OrderForm)
        (text : List ℕ)
        → EndsOver (held_texts input own bound beside) options.input.now writer
        (says options.telling.explain) status (RatesBy options form text)
        → EndsOver (held_texts input file bound beside) options.input.now writer
        (says options.telling.explain) status (RatesBy (with_number jobs k options) form text)
    rated_again options is form text done =
        let explain = options.telling.explain in
        let through = opened input options.input.now own bound beside is.input writer (says explain) status
        (RatesBy options form text) done in
        let run = told_orders jobs m status told writer (says explain) options Two (wt_form options is) form
        through.0 through.2.0 through.2.2 in
        opens input options.input.now file bound beside is.input writer (says explain) status
        (RatesBy (with_number jobs k options) form text)
        (record through.0 { before = Some file }) refl (
          through.2.0,
          through.2.1,
          record {
            run = Ok run.0;
            outcome = orders_again options.problem.now options.machines Two jobs m k own file
                same through.0 through.2.0 writer through.1 form run.0 run.1;
            ends = run.2;
            said = run.3;
          },
        )

    ran_again : (work : Asking) → IsWorkFor series own m beside.answers work → Ran work
        → Performs (held_texts input file bound beside) (work_of jobs k work) writer says status
    ran_again (Solve options layout) is done =
        let explain = options.telling.explain in
        let through = opened input options.input.now own bound beside is.1.input writer (says explain) status
        (λ instance. EndsSolving Global (requested options layout) instance writer (says explain)
        status) done in
        let run = told_solving jobs m status told writer (says explain) options layout
        (wt_form options is.1) through.0 through.2 in
        opens input options.input.now file bound beside is.1.input writer (says explain) status
        (λ instance. EndsSolving Global (requested (with_number jobs k options) layout) instance
        writer (says explain) status)
        (record through.0 { before = Some file }) refl
        (record {
          run = Ok run.0;
          outcome = solving_again options.problem.now options.machines layout jobs m k own file
              same through.0 writer writer through.1 run.0 run.1;
          ends = run.2;
          said = run.3;
        })
    ran_again (Bound options steps) is done =
        let explain = options.telling.explain in
        let through = opened input options.input.now own bound beside is.1.input writer (says explain) status
        (λ instance. EndsBounding Global (requested options Two) instance writer (says explain)
        status) done in
        let run = told_bounding jobs m status told writer (says explain) options Two
        (wt_form options is.1) through.0 through.2 in
        opens input options.input.now file bound beside is.1.input writer (says explain) status
        (λ instance. EndsBounding Global (requested (with_number jobs k options) Two) instance
        writer (says explain) status)
        (record through.0 { before = Some file }) refl
        (record {
          run = Ok run.0;
          outcome = bounding_again options.problem.now options.machines Two jobs m k own file
              same through.0 writer writer through.1 run.0 run.1;
          ends = run.2;
          said = run.3;
        })
    ran_again (Evaluate evaluating) is done =
        let options = evaluating.options in
        let explain = options.telling.explain in
        let through = opened_both input options.input.now own bound beside is.0.input evaluating.answer.now
        writer (says explain) status
        (λ instance other. EndsEvaluating Global evaluating.detail (requested options Two) instance
        other writer (says explain) status) done in
        let run = told_rating jobs m status told writer (says explain) options Two
        (wt_form options is.0) evaluating.detail through.0 through.1 through.4 in
        opens_both input options.input.now file bound beside is.0.input evaluating.answer.now writer
        (says explain) status
        (λ instance other. EndsEvaluating Global evaluating.detail
        (requested (with_number jobs k options) Two) instance other writer (says explain)
        status)
        (record through.0 { before = Some file }) through.1 refl
        (through.3 ∙ answer_is series.told evaluating is.1 apart.1)
        (record {
          run = Ok run.0;
          outcome = rating_again options.problem.now options.machines Two jobs m k own file
              same through.0 through.1 writer through.2 evaluating.detail run.0 run.1;
          ends = run.2;
          said = run.3;
        })
      where
        answer_is : (t : Told) (e : Evaluating) → IsEvaluatedBy t e → IsAnsweredApart input t
            → ◌≡◌ {A = Option (List ℕ)} (Some (cond (bytes_eq e.answer.now input) own (named_beside bound beside e.answer.now)))
            (Some (cond (bytes_eq e.answer.now input) file (named_beside bound beside e.answer.now)))
        answer_is (kinds.Answers name aids) e by differ =
            let other : bytes_eq e.answer.now input ≡ false =
            ap (λ n. bytes_eq n input) by.0 ∙ differ in
            ap (λ b. Some (cond b own (named_beside bound beside e.answer.now))) other
            ∙ sym (ap (λ b. Some (cond b file (named_beside bound beside e.answer.now))) other)
        answer_is kinds.Values e by differ = absurd by
        answer_is (kinds.Bounds steps) e by differ = absurd by
        answer_is (kinds.Orders name aids) e by differ = absurd by
        answer_is (kinds.Ruled rule aids) e by differ = absurd by
    ran_again (Plan options layout steps) is done = absurd is
    ran_again (Trace options style) is done = absurd is
    ran_again (Check options answer) is done = absurd is
    ran_again (Assess assessing) is done =
        absurd (unassessed series.told assessing apart.0 is.1)
    ran_again (Rate options (sources.Given order detail) aids) is done =
        aided (held_texts input file bound beside) (with_number jobs k options)
        (sources.Given order detail) aids writer says status
        (unaided series.told beside.answers (sources.Given order detail) aids apart.0 is.1) is.0.unmeasured
        (rated_again options is.0 (Single detail) order.now
        (alone (held_texts input own bound beside) options (sources.Given order detail) aids writer says
        status (unaided series.told beside.answers (sources.Given order detail) aids apart.0 is.1) is.0.unmeasured done))
    ran_again (Rate options (sources.Ruled rule detail) aids) is done =
        aided (held_texts input file bound beside) (with_number jobs k options)
        (sources.Ruled rule detail) aids writer says status
        (unaided series.told beside.answers (sources.Ruled rule detail) aids apart.0 is.1) is.0.unmeasured
        (rated_again options is.0 (ByRule rule detail) []
        (alone (held_texts input own bound beside) options (sources.Ruled rule detail) aids writer says
        status (unaided series.told beside.answers (sources.Ruled rule detail) aids apart.0 is.1) is.0.unmeasured done))
    ran_again (Rate options (sources.Named name goes_on is_numbered) aids) is done = absurd is.1
    ran_again (Rate options (sources.Drawn name detail) aids) is done = absurd is.1
    ran_again (Gantt answer drawing explain) is done = absurd is
    ran_again (Picture picturing) is done = absurd is
    ran_again (Random wanted) is done = absurd is
    ran_again (Problems listed name) is done = absurd is
    ran_again Border is done = absurd is

-- ---- a run in memory

pub runs_has : (series : Series) (text : List ℕ) (beside : BesideData) (k status : ℕ)
    (output errors : List ℕ) → IsNamedApart series.input.now series.told
    → has_told status ≡ true → RunsFor series text beside k status output errors
    → HasInstance series.form text k
runs_has series text beside k status output errors apart told r = by series.form refl
  where
    by : (form : FileForm) → series.form ≡ form → HasInstance form text k
    by (files.Flow pair) is = tt
    by (files.Wt jobs) wt =
        ran_has series jobs wt k text beside (use_of held r.before.writer r.after.writer)
        (λ explain. SaysLine held explain r.before.errors r.after.errors) status told apart r.work r.is
        (done_plain (held_texts series.input.now text (bound_of series.told) beside) r.work
        (use_of held r.before.writer r.after.writer)
        (λ explain. SaysLine held explain r.before.errors r.after.errors) status
        (uncounted series jobs wt k k text text beside.answers r.work r.is) r.done)

-- Where the words of the next instance stand by themselves, what is told of them alone is what is
-- told of that instance.
pub runs_again : (series : Series) (file own ahead : List ℕ) (beside : BesideData) (k status : ℕ)
    (output errors : List ℕ) → AreParts series.form file k own ahead
    → IsNamedApart series.input.now series.told → has_told status ≡ true
    → RunsFor series own beside 1 status output errors
    → RunsFor series file beside k status output errors
runs_again series file own ahead beside k status output errors parts apart told r =
    by series.form refl parts
  where
    by : (form : FileForm) → series.form ≡ form → AreParts form file k own ahead
        → RunsFor series file beside k status output errors
    by (files.Flow pair) is parts = absurd parts
    by (files.Wt jobs) wt parts =
        let writer = use_of held r.before.writer r.after.writer in
        let says = λ (explain : Bool). SaysLine held explain r.before.errors r.after.errors in
        let done = done_plain (held_texts series.input.now own (bound_of series.told) beside) r.work
        writer says status (uncounted series jobs wt 1 1 own own beside.answers r.work r.is) r.done in
        let has = ran_has series jobs wt 1 own beside writer says status told apart r.work r.is done in
        let some : 1 ≤ k - 1 = instance_index jobs (k - 1) file parts.0.0 parts.0.1 in
        let next : weighted_tardiness jobs (k - 1 + 1) file ≡ Ok has.0 =
        next_instance jobs (k - 1) file own parts.0.0 has.0 parts.0.1 parts.1 has.1 in
        let here : k - 1 + 1 ≡ k = omega (arith, some) in
        let same : weighted_tardiness jobs k file ≡ weighted_tardiness jobs 1 own =
        ap (λ n. weighted_tardiness jobs n file) (sym here) ∙ next ∙ sym has.1 in
        let is = work_for series jobs wt 1 k own file beside.answers r.work r.is in
        record {
          work = work_of jobs k r.work;
          is = is;
          before = r.before;
          after = r.after;
          blank = r.blank;
          silent = r.silent;
          done = inl (
            uncounted series jobs wt k k file file beside.answers (work_of jobs k r.work) is,
            ran_again series jobs wt 1 own beside writer says status told apart k file same r.work
                r.is done,
          );
          whole = r.whole;
          told = r.told;
          output_is = r.output_is;
          errors_is = r.errors_is;
        }

-- ---- where the words stand

pub parts_are : (jobs : ℕ) (text ahead own rest : List ℕ) (k : ℕ)
    → IsBehind (files.Wt jobs) text (k - 1) ahead → words own ≡ take (3 * jobs) (words ahead)
    → words rest ≡ drop (3 * jobs) (words ahead) → AreParts (files.Wt jobs) text k own rest
parts_are jobs text ahead own rest k is front back = (
  is.0,
  front ∙ ap (take (3 * jobs)) is.1,
  back ∙ ap (drop (3 * jobs)) is.1,
)

pub behind_parts : (jobs : ℕ) (text own ahead : List ℕ) (k : ℕ)
    → HasInstance (files.Wt jobs) text k → AreParts (files.Wt jobs) text k own ahead
    → IsBehind (files.Wt jobs) text k ahead
behind_parts jobs text own ahead k has parts =
    let some : 1 ≤ k - 1 = instance_index jobs (k - 1) text parts.0.0 parts.0.1 in
    let far : 3 * jobs * (k - 1) + 3 * jobs ≡ 3 * jobs * k =
    sizes (3 * jobs) k (omega (arith, some)) in (
      has,
      parts.2 ∙ drop-drop (3 * jobs) (3 * jobs * (k - 1)) (words text)
          ∙ ap (λ n. drop n (words text)) far,
    )
  where
    sizes : (size n : ℕ) → 1 ≤ n → size * (n - 1) + size ≡ size * n
    sizes size n low =
        let one : n - 1 + 1 ≡ n = omega (arith, low) in
        sym (let all : size * (n - 1 + 1) ≡ size * (n - 1) + size = omega arith in
        ap (λ i. size * i) (sym one) ∙ all)

-- numbers of words that 64 bits hold
pub jobs_within : (jobs : ℕ) (text : List ℕ) (k : ℕ) → HasInstance (files.Wt jobs) text k
    → 3 * jobs ≤ 300000
jobs_within jobs text k has =
    let most : jobs ≤ 100000 = instance_jobs jobs k text has.0 has.1 in omega (arith, most)

pub count_within : (jobs : ℕ) (text : List ℕ) (k : ℕ) → HasInstance (files.Wt jobs) text k
    → k < 4294967296 → 3 * jobs * k ≤ 1288490188800000
count_within jobs text k has few =
    let first : 3 * jobs ≤ 300000 = jobs_within jobs text k has in
    let second : k ≤ 4294967296 = omega (arith, few) in
    mul-le-mul first second
