-- What solves a request is read back and accepted.
use Rattle.std.proofs.Common.{◌≡◌, ℕ, List, Result, Ok, Err, Some, None, Option, length, refl, sym, ap, ◌∙◌}
use Rattle.std.specs.Bool.{then_some}
use Rattle.std.specs.Option.{ok_or}
use Rattle.tf_model.specs.declared.class.Class.{Class}
use Rattle.tf_model.specs.declared.problem.Problem.{Problem}
use Rattle.tf_model.specs.declared.prepare.Refusal.{Refusal}
use Rattle.tf_model.specs.declared.prepare.Refusal.TheVariants.{NoSolver, TooManyJobs}
use Rattle.tf_model.specs.ClassTable.{class_of}
use Rattle.tf_model.specs.InstanceData.{InstanceData}
use Rattle.tf_model.specs.Outcome.{◌>>=◌, unless}
use Rattle.tf_model.specs.Prepare.{is_too_many, machines_for, jobs_refusal, task_of, prepared}
use Rattle.tf_model.specs.SchedulingTask.{SchedulingTask}
use Rattle.tf_model.proofs.Outcomes.{bind_ok}
use Rattle.tf_read.specs.declared.fault.ReadFault.{ReadFault}
use Rattle.tf_text.specs.AnswerText.{SheetData, answer_text}
use Rattle.tf_text.proofs.AnswerAgain.{read_again}
use Rattle.tf_engine.specs.RequestData.{RequestData}
use Rattle.tf_engine.specs.Faults.{ByText, ByTask}
use Rattle.tf_engine.specs.Refusal.{refused_by, problem_for, instance_in, task_in, task_for}
use Rattle.tf_engine.specs.Headline.{Answers, ShowsIt, IsAnswered}
use Rattle.tf_engine.specs.Parts.{IsSolved}

-- what the problem and the text mean is what the request and the text mean
pub meant_by : (request : RequestData) (problem : Problem) (text : List ℕ)
    → problem_for request.problem ≡ Ok problem
    → task_for request text ≡ task_in request problem text
meant_by request problem text ok = ap (λ r. r >>= λ problem. task_in request problem text) ok

prepared_class : (i : InstanceData) (problem : Problem) (argument : Option ℕ) (k : SchedulingTask)
    → prepared i problem argument ≡ Ok k → class_of problem ≡ Some k.class
prepared_class i problem argument k e = by_class (class_of problem) refl e
  where
    made : (class : Class) (m : ℕ) (refusal : Option Refusal)
        → unless refusal (Ok (task_of class m i)) ≡ Ok k → class ≡ k.class
    made class m (Some refusal) e = cc
    made class m None e = let is : task_of class m i ≡ k = cc in ap (λ t. t.class) is

    by_class : (o : Option Class) → class_of problem ≡ o
        → (ok_or o NoSolver
        >>= λ class. unless (then_some (is_too_many class (length i.jobs)) TooManyJobs)
        (machines_for class problem.count argument i.machines)
        >>= λ m. unless (jobs_refusal class i.jobs) (Ok (task_of class m i))) ≡ Ok k
        → class_of problem ≡ Some k.class
    by_class None is e = cc
    by_class (Some class) is e =
        let counted =
        bind_ok (unless (then_some (is_too_many class (length i.jobs)) TooManyJobs)
        (machines_for class problem.count argument i.machines))
        (λ m. unless (jobs_refusal class i.jobs) (Ok (task_of class m i))) k e in
        is ∙ ap Some (made class counted.0 (jobs_refusal class i.jobs) counted.2)

-- the task of a request is of its problem's class
meant_class : (request : RequestData) (text : List ℕ) (problem : Problem) (k : SchedulingTask)
    → problem_for request.problem ≡ Ok problem → task_for request text ≡ Ok k
    → class_of problem ≡ Some k.class
meant_class request text problem k ok meant =
    by_instance (instance_in request.form text) (sym (meant_by request problem text ok) ∙ meant)
  where
    by_task : (i : InstanceData) (r : Result SchedulingTask Refusal)
        → prepared i problem request.machines ≡ r → refused_by ByTask r ≡ Ok k
        → class_of problem ≡ Some k.class
    by_task i (Ok task) is e = let same : task ≡ k = cc in
        prepared_class i problem request.machines k (is ∙ ap Ok same)
    by_task i (Err refusal) is e = cc

    by_instance : (r : Result InstanceData ReadFault)
        → (refused_by ByText r >>= λ i. refused_by ByTask (prepared i problem request.machines))
        ≡ Ok k
        → class_of problem ≡ Some k.class
    by_instance (Ok i) e = by_task i (prepared i problem request.machines) refl e
    by_instance (Err fault) e = cc

-- what solves the text answers it
abbrev answers_of : (request : RequestData) (text : List ℕ) (sheet : SheetData)
    → IsSolved request text sheet → Answers request text (answer_text request.layout sheet)
answers_of request text sheet solved =
    let answer = solved.solved in
    record {
      task = solved.task;
      meant = solved.meant;
      sheet = sheet;
      problem = answer.problem;
      jobs = answer.jobs;
      machines = answer.machines;
      best = answer.best;
      written = refl;
    }

-- and shows it
shown_of : (request : RequestData) (text : List ℕ) (sheet : SheetData)
    (solved : IsSolved request text sheet) → ShowsIt (answers_of request text sheet solved)
shown_of request text sheet solved =
    let answer = solved.solved in
    record {
      accepted = answer.accepted;
      rule = answer.rule;
      readable = answer.readable;
      again = λ fits. record {
        task = solved.task;
        meant = solved.meant;
        sheet = sheet;
        said = read_again _ sheet answer.readable fits;
        verdict = (
          record {
            class =
                meant_class request text sheet.problem solved.task answer.problem solved.meant;
            jobs = answer.jobs;
            machines = answer.machines;
          },
          answer.accepted,
          answer.best,
        );
      };
    }

pub answered : (request : RequestData) (text : List ℕ) (sheet : SheetData)
    → IsSolved request text sheet → IsAnswered request text (answer_text request.layout sheet)
answered request text sheet solved = (
  answers_of request text sheet solved,
  shown_of request text sheet solved,
)
