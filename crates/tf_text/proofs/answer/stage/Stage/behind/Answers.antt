use Rattle.std.proofs.Common.{[], ◌∷◌, codes, w64, SFits, rules, sym, subst, ◌∙◌}
use Rattle.std.proofs.lemmas.Int.{to_z-of_z}
use Rattle.tf_words.specs.Lines.{line_of}
use Rattle.tf_model.specs.Limit.{most_jobs, most_machines}
use Rattle.tf_text.specs.AnswerReading.{heading_at, problem_at, count_at, value_at, heading_in, problem_in, count_line, value_line}
use Rattle.tf_text.specs.AnswerStage.{head_of, from_problem, from_jobs, from_machines, from_value, from_pieces, Leads}
use Rattle.tf_text.specs.declared.answer.stage.Stage.{Stage}
use Rattle.tf_text.proofs.Stages.{says_then, says_fault, whole}
use Rattle.tf_text.proofs.answer.stage.Stage.behind.Goals as goal

pub returns-in-Ok : goal.returns-in-Ok
unfolding heading_at
returns-in-Ok g c = λ more total h.
    says_then heading_in from_problem _ more _ total
    c.in-Ok.ensures (sym (whole _) ∙ (subst (λ (s : Stage g.row.A.Denot). Leads s (line_of c.args.line.now ∷ more) total) c.in-Heading.is h))

pub returns-in-Ok-problem_in : goal.returns-in-Ok-problem_in
unfolding problem_at
returns-in-Ok-problem_in g c = λ more total h.
    says_then problem_in (from_jobs c.in-Problem.layout) _ more _ total
    c.in-Ok-problem_in.ensures (subst (λ (s : Stage g.row.A.Denot). Leads s (line_of c.args.line.now ∷ more) total) c.in-Problem.is h)

pub returns-in-Ok-count_line : goal.returns-in-Ok-count_line
unfolding count_at
returns-in-Ok-count_line g c = λ more total h.
    says_then (count_line (codes "jobs") most_jobs) (from_machines c.in-Jobs.layout c.in-Jobs.problem) _ more _ total
    c.in-Ok-count_line.ensures.read (subst (λ (s : Stage g.row.A.Denot). Leads s (line_of c.args.line.now ∷ more) total) c.in-Jobs.is h)

pub returns-in-Ok-count_line-2 : goal.returns-in-Ok-count_line-2
unfolding count_at
returns-in-Ok-count_line-2 g c = λ more total h.
    says_then (count_line (codes "machines") most_machines) (λ machines. from_value (record {
      layout = c.in-Machines.layout;
      problem = c.in-Machines.problem;
      jobs = c.in-Machines.jobs;
      machines = machines;
    })) _ more _ total
    c.in-Ok-count_line-2.ensures.read (subst (λ (s : Stage g.row.A.Denot). Leads s (line_of c.args.line.now ∷ more) total) c.in-Machines.is h)

pub returns-in-Ok-value_line : goal.returns-in-Ok-value_line
unfolding value_at
returns-in-Ok-value_line g c = λ more total h.
    let fits : SFits w64 c.in-Ok-value_line.value = search rules in
    rw (c.new.ensures.items, to_z-of_z w64 c.in-Ok-value_line.value fits)
    (says_then value_line (λ value. from_pieces (head_of c.in-Value.head) value []) _ more _ total
    c.in-Ok-value_line.ensures (subst (λ (s : Stage g.row.A.Denot). Leads s (line_of c.args.line.now ∷ more) total) c.in-Value.is h))

pub returns-in-Pieces : goal.returns-in-Pieces
returns-in-Pieces g c = λ more total h.
    let fits : SFits w64 c.in-Pieces.value = search rules in
    c.after.ensures more total (c.behind_piece.ensures more total
    (rw (to_z-of_z w64 c.in-Pieces.value fits) (subst (λ (s : Stage g.row.A.Denot). Leads s (line_of c.args.line.now ∷ more) total) c.in-Pieces.is h)))

pub returns-in-End : goal.returns-in-End
returns-in-End g c = λ more total h.
    c.behind_answer.ensures more total
    (subst (λ (s : Stage g.row.A.Denot). Leads s (line_of c.args.line.now ∷ more) total) c.in-End.is h)

pub returns-in-Heading : goal.returns-in-Heading
unfolding heading_at
returns-in-Heading g c = λ more total h.
    says_fault heading_in from_problem _ more _ total
    c.in-Err.ensures (sym (whole _) ∙ (subst (λ (s : Stage g.row.A.Denot). Leads s (line_of c.args.line.now ∷ more) total) c.in-Heading.is h))

pub returns-in-Problem : goal.returns-in-Problem
unfolding problem_at
returns-in-Problem g c = λ more total h.
    says_fault problem_in (from_jobs c.in-Problem.layout) _ more _ total
    c.in-Err-problem_in.ensures (subst (λ (s : Stage g.row.A.Denot). Leads s (line_of c.args.line.now ∷ more) total) c.in-Problem.is h)

pub returns-in-Jobs : goal.returns-in-Jobs
unfolding count_at
returns-in-Jobs g c = λ more total h.
    says_fault (count_line (codes "jobs") most_jobs) (from_machines c.in-Jobs.layout c.in-Jobs.problem) _ more _ total
    c.in-Err-count_line.ensures.read (subst (λ (s : Stage g.row.A.Denot). Leads s (line_of c.args.line.now ∷ more) total) c.in-Jobs.is h)

pub returns-in-Machines : goal.returns-in-Machines
unfolding count_at
returns-in-Machines g c = λ more total h.
    says_fault (count_line (codes "machines") most_machines) (λ machines. from_value (record {
      layout = c.in-Machines.layout;
      problem = c.in-Machines.problem;
      jobs = c.in-Machines.jobs;
      machines = machines;
    })) _ more _ total
    c.in-Err-count_line-2.ensures.read (subst (λ (s : Stage g.row.A.Denot). Leads s (line_of c.args.line.now ∷ more) total) c.in-Machines.is h)

pub returns-in-Value : goal.returns-in-Value
unfolding value_at
returns-in-Value g c = λ more total h.
    says_fault value_line (λ value. from_pieces (head_of c.in-Value.head) value []) _ more _ total
    c.in-Err-value_line.ensures (subst (λ (s : Stage g.row.A.Denot). Leads s (line_of c.args.line.now ∷ more) total) c.in-Value.is h)
