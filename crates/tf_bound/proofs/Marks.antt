-- Marks of the jobs that a list names, none of them twice.
use Rattle.std.proofs.Common.{◌≡◌, Bool, true, false, ℕ, ◌+◌, ◌-◌, ◌≤◌, ◌<◌, ◌==◌, List, [], ◌∷◌, length, get_or, set, take, cond, count_by, All, refl, sym, ap, ◌∙◌, subst, ⊎_elim, arith}
use Rattle.std.proofs.lemmas.Bool.{cases_lt, cases_eq, eq-eqb, ne_eqb}
use Rattle.std.proofs.lemmas.List.{length-set, get_or-set_same, get_or-set_other}
use Rattle.std.proofs.lemmas.List.Elements.{All-head, All-tail}
use Rattle.std.proofs.lemmas.List.Sums.{sum_by-cons}
use Rattle.tf_model.specs.Distinct.{IsDistinct}
use Rattle.tf_posed.specs.ProblemData.{ProblemData, IsProblemJob}
use Rattle.tf_bound.proofs.Steps.{all_next, sum_next}

abbrev pub as_one : Bool → ℕ
as_one b = cond b 1 0

-- each job of the task stands in the list as often as its mark says
pub record AreMarks (k : ProblemData) (seen : List Bool) (jobs : List ℕ) : Type 0 where
  pub len : length seen ≡ length k.jobs
  pub known : All (IsProblemJob k) jobs
  pub marked : (c : ℕ) → IsProblemJob k c
      → count_by (λ j. c == j) jobs ≡ as_one (get_or seen (c - 1) false)

-- a list of jobs has none of a number that is no job
none_of : (k : ProblemData) (c : ℕ) → (IsProblemJob k c → ⊥) → (jobs : List ℕ) → All (IsProblemJob k) jobs
    → count_by (λ j. c == j) jobs ≡ 0
none_of k c foreign [] known = refl
none_of k c foreign (x ∷ xs) known =
    let differ : as_one (c == x) ≡ 0 =
    ap as_one (ne_eqb c x (λ e. foreign (subst (IsProblemJob k) (sym e)
    (All-head (IsProblemJob k) x xs known)))) in
    omega (
      arith,
      sum_by-cons (λ j. as_one (c == j)) x xs,
      differ,
      none_of k c foreign xs (All-tail (IsProblemJob k) x xs known),
    )

as_one-le : (b : Bool) → as_one b ≤ 1
as_one-le true = omega arith
as_one-le false = omega arith

pub distinct : (k : ProblemData) (seen : List Bool) (jobs : List ℕ) → AreMarks k seen jobs
    → IsDistinct jobs
distinct k seen jobs marks c =
    ⊎_elim
    (λ small. omega (arith, none_of k c (λ job. omega (arith, job.0)) jobs marks.known))
    (λ one.
    ⊎_elim
    (λ large. omega (arith, none_of k c (λ job. omega (arith, job.1)) jobs marks.known))
    (λ within.
    let job : IsProblemJob k c = (omega arith, within) in
    omega (arith, marks.marked c job, as_one-le (get_or seen (c - 1) false)))
    (cases_lt (length k.jobs) c))
    (cases_lt c 1)

-- with one job more
pub marks_more : (k : ProblemData) (seen : List Bool) (jobs : List ℕ) (i x : ℕ) → i < length jobs
    → x ≡ get_or jobs i x → AreMarks k seen (take i jobs) → IsProblemJob k x
    → get_or seen (x - 1) false ≡ false → AreMarks k (set seen (x - 1) true) (take (i + 1) jobs)
marks_more k seen jobs i x lt is marks job new = record {
  len = length-set seen (x - 1) true ∙ marks.len;
  known = all_next (IsProblemJob k) jobs i x lt is marks.known job;
  marked = λ c its.
      let more = sum_next (λ j. as_one (c == j)) jobs i x lt is in
      ⊎_elim
      (λ same.
      let here : as_one (c == x) ≡ 1 = ap as_one (eq-eqb c x same) in
      let none : as_one (get_or seen (c - 1) false) ≡ 0 =
      ap (λ n. as_one (get_or seen (n - 1) false)) same ∙ ap as_one new in
      let set : as_one (get_or (set seen (x - 1) true) (c - 1) false) ≡ 1 =
      ap (λ n. as_one (get_or (set seen (x - 1) true) (n - 1) false)) same
      ∙ ap as_one (get_or-set_same seen (x - 1) true false (omega (arith, marks.len, job.0, job.1))) in
      omega (arith, more, here, none, set, marks.marked c its))
      (λ differ.
      let other : as_one (c == x) ≡ 0 = ap as_one (ne_eqb c x differ) in
      let kept : as_one (get_or (set seen (x - 1) true) (c - 1) false)
      ≡ as_one (get_or seen (c - 1) false) =
      ap as_one (get_or-set_other seen (x - 1) (c - 1) true false
      (λ e. differ (omega (arith, its.0, job.0)))) in
      omega (arith, more, other, kept, marks.marked c its))
      (cases_eq c x);
}
