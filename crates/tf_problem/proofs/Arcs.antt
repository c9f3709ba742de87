-- What the arcs say of the completions, in every environment and under all conditions.
use Rattle.std.proofs.Common.{◌≡◌, Bool, true, false, ℕ, zero, suc, ◌+◌, ◌*◌, ◌≤◌, ◌<◌, List, [], ◌∷◌, ◌==◌, length, slice_index_or, cond, refl, ap, ◌∙◌, ⊎_elim, arith, sum_by, All, IsTrue, mul-le-mul_left}
use Rattle.std.specs.List.{range_with_len}
use Rattle.std.proofs.lemmas.Bool.{eq-eqb, ne_eqb, cases_eq}
use Rattle.std.proofs.lemmas.List.Sums.{sum_by-cons}
use Rattle.std.proofs.lemmas.List.Elements.{All-nil, All-head, All-tail, All-contains_itself}
use Rattle.tf_model.specs.Timetable.{Timetable, completion}
use Rattle.tf_model.proofs.Sums.{sum_by-zero_terms, sum_by-plus, sum_by-times, sum_by-same}
use Rattle.tf_posed.specs.ProblemData.{ProblemData, IsProblemSound, IsProblemJob, problem_jobs}
use Rattle.tf_posed.specs.FitsProblem.{FitsProblem}
use Rattle.tf_problem.proofs.Pushed.{behind-arc}
use Rattle.tf_problem.specs.ProblemBounds.{problem_work, problem_arcs, over_arcs, arcs_from, arcs_to, arcs_gain}

abbrev as_one : Bool → ℕ
as_one t = cond t 1 0

-- ---- sums over arcs

over_arcs-le : (f g : ℕ × ℕ → ℕ) (arcs : List (ℕ × ℕ)) (l : List ℕ) → All (λ arc. f arc ≤ g arc) arcs
    → over_arcs f arcs l ≤ over_arcs g arcs l
over_arcs-le f g [] l le = omega arith
over_arcs-le f g (arc ∷ arcs) [] le = omega arith
over_arcs-le f g (arc ∷ arcs) (n ∷ l) le =
    let here : n * f arc ≤ n * g arc = mul-le-mul_left n (All-head (λ x. f x ≤ g x) arc arcs le) in
    omega (arith, here, over_arcs-le f g arcs l (All-tail (λ x. f x ≤ g x) arc arcs le))

over_arcs-plus : (f g : ℕ × ℕ → ℕ) (arcs : List (ℕ × ℕ)) (l : List ℕ)
    → over_arcs (λ arc. f arc + g arc) arcs l ≡ over_arcs f arcs l + over_arcs g arcs l
over_arcs-plus f g [] l = refl
over_arcs-plus f g (arc ∷ arcs) [] = refl
over_arcs-plus f g (arc ∷ arcs) (n ∷ l) = omega (arith, over_arcs-plus f g arcs l)

-- ---- sums over the jobs of what arcs give them

-- a number before a range is none of its numbers
none_of : (c : ℕ → ℕ) (a n i : ℕ) → i < a
    → sum_by (λ j. cond (i == j) 1 0 * c j) (range_with_len a n) ≡ 0
none_of c a zero i h = refl
none_of c a (suc n) i h =
    omega (
      arith,
      sum_by-cons (λ j. cond (i == j) 1 0 * c j) a (range_with_len (a + 1) n),
      ap (λ t. as_one t * c a) (ne_eqb i a (omega arith)),
      none_of c (a + 1) n i (omega arith),
    )

-- a number of a range is one of them once
one_of : (c : ℕ → ℕ) (a n i : ℕ) → a ≤ i → i < a + n
    → sum_by (λ j. cond (i == j) 1 0 * c j) (range_with_len a n) ≡ c i
one_of c a zero i low high = absurd (omega arith)
one_of c a (suc n) i low high =
    ⊎_elim
    (λ same. omega (
      arith,
      sum_by-cons (λ j. cond (i == j) 1 0 * c j) a (range_with_len (a + 1) n),
      ap (λ t. as_one t * c a) (eq-eqb i a same),
      none_of c (a + 1) n i (omega arith),
      ap c same,
    ))
    (λ differ. omega (
      arith,
      sum_by-cons (λ j. cond (i == j) 1 0 * c j) a (range_with_len (a + 1) n),
      ap (λ t. as_one t * c a) (ne_eqb i a differ),
      one_of c (a + 1) n i (omega arith) (omega arith),
    ))
    (cases_eq i a)

-- what each job is given by the arcs that have it at an end e, times c of the job, is over the arcs
-- the multiplier times c of that end
by_ends : (c : ℕ → ℕ) (e : ℕ × ℕ → ℕ) (n : ℕ) (arcs : List (ℕ × ℕ)) (l : List ℕ)
    → All (λ arc. (1 ≤ e arc) × (e arc ≤ n)) arcs
    → sum_by (λ j. over_arcs (λ arc. cond (e arc == j) 1 0) arcs l * c j) (range_with_len 1 n)
    ≡ over_arcs (λ arc. c (e arc)) arcs l
by_ends c e n [] l ends =
    sum_by-same (λ j. 0 * c j) (λ _. 0) (range_with_len 1 n) (λ j. omega arith)
    ∙ sum_by-zero_terms (range_with_len 1 n)
by_ends c e n (arc ∷ arcs) [] ends =
    sum_by-same (λ j. 0 * c j) (λ _. 0) (range_with_len 1 n) (λ j. omega arith)
    ∙ sum_by-zero_terms (range_with_len 1 n)
by_ends c e n (arc ∷ arcs) (m ∷ l) ends =
    let here : ℕ → ℕ = λ j. cond (e arc == j) 1 0 * c j in
    let rest : ℕ → ℕ = λ j. over_arcs (λ x. cond (e x == j) 1 0) arcs l * c j in
    let in' : (1 ≤ e arc) × (e arc ≤ n) = All-head (λ x. (1 ≤ e x) × (e x ≤ n)) arc arcs ends in
    sum_by-same
    (λ j. (m * cond (e arc == j) 1 0 + over_arcs (λ x. cond (e x == j) 1 0) arcs l) * c j)
    (λ j. m * here j + rest j) (range_with_len 1 n)
    (λ j. spread m (cond (e arc == j) 1 0) (over_arcs (λ x. cond (e x == j) 1 0) arcs l) (c j))
    ∙ sum_by-plus (λ j. m * here j) rest (range_with_len 1 n)
    ∙ omega (
      arith,
      sum_by-times m here (range_with_len 1 n),
      ap (λ s. m * s) (one_of c 1 n (e arc) in'.0 (omega (arith, in'.1))),
      by_ends c e n arcs l (All-tail (λ x. (1 ≤ e x) × (e x ≤ n)) arc arcs ends),
    )
  where
    spread : (m t o x : ℕ) → (m * t + o) * x ≡ m * (t * x) + o * x
    spread m t o x = omega arith

-- ---- the arcs of the task

pub All-problem_arcs : (k : ProblemData) (P : ℕ × ℕ → Type 0)
    → (IsTrue k.problem.prec → All P k.arcs) → All P (problem_arcs k)
All-problem_arcs k P all = by k.problem.prec refl
  where
    by : (b : Bool) → k.problem.prec ≡ b → All P (cond b k.arcs [])
    by true e = all e
    by false e = All-nil P

module _ (k : ProblemData) (sound : IsProblemSound k) where
  pub problem_arcs-in : All (λ arc. IsProblemJob k arc.0 × IsProblemJob k arc.1) (problem_arcs k)
  problem_arcs-in =
      All-problem_arcs k (λ arc. IsProblemJob k arc.0 × IsProblemJob k arc.1) (λ prec. sound.arcs_in)

  module _ (rows : Timetable) (fits : FitsProblem k rows) where
    -- the second job of an arc completes later, by its work
    pub arcs-later : All (λ arc. completion rows arc.0 + problem_work k arc.1 ≤ completion rows arc.1)
        (problem_arcs k)
    arcs-later =
        All-problem_arcs k
        (λ arc. completion rows arc.0 + problem_work k arc.1 ≤ completion rows arc.1)
        (λ prec i d h. let arc : ℕ × ℕ = slice_index_or k.arcs i d in
        behind-arc k sound rows fits prec arc.0 arc.1 (All-contains_itself k.arcs i d h))

    pub arcs-completions : (l : List ℕ)
        → sum_by (λ j. arcs_from k l j * completion rows j) (problem_jobs k) + arcs_gain k l
        ≤ sum_by (λ j. arcs_to k l j * completion rows j) (problem_jobs k)
    arcs-completions l =
        let c : ℕ → ℕ = completion rows in
        let arcs : List (ℕ × ℕ) = problem_arcs k in
        omega (
          arith,
          by_ends c (λ arc. arc.0) (length k.jobs) arcs l
              (λ i d h. (problem_arcs-in i d h).0),
          by_ends c (λ arc. arc.1) (length k.jobs) arcs l
              (λ i d h. (problem_arcs-in i d h).1),
          over_arcs-plus (λ arc. c arc.0) (λ arc. problem_work k arc.1) arcs l,
          over_arcs-le (λ arc. c arc.0 + problem_work k arc.1) (λ arc. c arc.1) arcs l arcs-later,
        )
