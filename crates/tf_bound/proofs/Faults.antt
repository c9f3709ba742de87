-- Which fault a certificate has first, step by step.
use Rattle.std.proofs.Common.{refl, ◌≡◌, ⊎_elim, ℕ, ◌+◌, ◌-◌, ◌≤◌, ◌<◌, Bool, true, false, not, ◌||◌, ◌==◌, cond, nat_lt, nat_le, List, [], ◌∷◌, ◌++◌, length, get_or, take, drop, count_by, Option, Some, None, sym, ap, subst, ◌∙◌, arith}
use Rattle.std.specs.Option.{option_or}
use Rattle.std.proofs.lemmas.Bool.{and_from, lt-ltb, le-leb, and_right, cases_Bool, eq-eqb, eqb-true, ne_eqb}
use Rattle.std.proofs.lemmas.Bool.Decides.{nat_tests}
use Rattle.std.proofs.lemmas.List.{drop_all, drop_more, take_more}
use Rattle.std.proofs.lemmas.List.Sums.{sum_by-cons}
use Rattle.tf_model.specs.Bounds.{stands_in}
use Rattle.tf_posed.specs.ProblemData.{ProblemData, IsProblemJob}
use Rattle.tf_bound.specs.Faulted.{is_job, list_fault, IsFaultOrNoMemory}
use Rattle.tf_bound.specs.declared.fault.BoundFault.{BoundFault}
use Rattle.tf_bound.specs.declared.fault.BoundFault.TheVariants.{BadJob, Repeated}
use Rattle.tf_bound.proofs.Marks.{AreMarks, as_one}

-- ---- the list as it is judged

-- a job stands in a list where it is counted there
pub stands_if : (c : ℕ) (jobs : List ℕ) (b : Bool) → count_by (λ j. c == j) jobs ≡ as_one b
    → stands_in jobs c ≡ b
stands_if c [] true e = absurd (omega (arith, e))
stands_if c [] false e = refl
stands_if c (x ∷ xs) b e = ⊎_elim
    (λ here.
    let count : count_by (λ j. c == j) (x ∷ xs) ≡ as_one (c == x) + count_by (λ j. c == j) xs =
    sum_by-cons (λ j. as_one (c == j)) x xs in
    let some : b ≡ true = some_of b (omega (arith, e, count, ap as_one here)) in
    ap (λ t. t || stands_in xs c) (eq-eqb x c (sym (eqb-true c x here))) ∙ sym some)
    (λ other.
    let count : count_by (λ j. c == j) (x ∷ xs) ≡ as_one (c == x) + count_by (λ j. c == j) xs =
    sum_by-cons (λ j. as_one (c == j)) x xs in
    let differ : (x == c) ≡ false = ne_eqb x c (λ same. absurd (no_both (eq-eqb c x (sym same)) other)) in
    ap (λ t. t || stands_in xs c) differ
    ∙ stands_if c xs b (omega (arith, e, count, ap as_one other)))
    (cases_Bool (c == x))
  where
    some_of : (t : Bool) → 1 ≤ as_one t → t ≡ true
    some_of true h = refl
    some_of false h = absurd (omega (arith, h))

    no_both : {t : Bool} → t ≡ true → t ≡ false → ⊥
    no_both h none = cc

-- what has been judged decides no more
abbrev pub IsJudged : ProblemData → List ℕ → ℕ → Type 0
IsJudged k xs i = list_fault k [] xs ≡ list_fault k (take i xs) (drop i xs)

module _ (k : ProblemData) (xs : List ℕ) (i x : ℕ) (lt : i < length xs) (at : x ≡ get_or xs i x)
    (judged : IsJudged k xs i)
  where
    at_job : list_fault k [] xs
        ≡ cond (not (is_job k x)) (Some (BadJob x))
        (cond (stands_in (take i xs) x) (Some (Repeated x))
        (list_fault k (take (i + 1) xs) (drop (i + 1) xs)))
    at_job =
        let before : take i xs ++ x ∷ [] ≡ take (i + 1) xs = ap (λ z. take i xs ++ z ∷ []) at
        ∙ sym (take_more xs i x lt) in
        judged
        ∙ ap (list_fault k (take i xs)) (drop_more xs i x lt)
        ∙ ap (λ z. list_fault k (take i xs) (z ∷ drop (i + 1) xs)) (sym at)
        ∙ ap (λ s. cond (not (is_job k x)) (Some (BadJob x))
        (cond (stands_in (take i xs) x) (Some (Repeated x)) (list_fault k s (drop (i + 1) xs))))
        before

    -- a job that is not there is the fault
    pub judged_bad : length k.jobs < x → list_fault k [] xs ≡ Some (BadJob x)
    judged_bad beyond =
        let no : is_job k x ≡ false =
        and_right (nat_lt 0 x) (nat_le x (length k.jobs)) (not_le x (length k.jobs) beyond) in
        at_job ∙ ap (λ t. cond (not t) (Some (BadJob x))
        (cond (stands_in (take i xs) x) (Some (Repeated x))
        (list_fault k (take (i + 1) xs) (drop (i + 1) xs)))) no
      where
        not_le : (a b : ℕ) → b < a → nat_le a b ≡ false
        not_le a b h = grind (arith, nat_tests)

    module _ (job : IsProblemJob k x) (seen : List Bool) (marks : AreMarks k seen (take i xs)) where
      at_mark : (b : Bool) → get_or seen (x - 1) false ≡ b → list_fault k [] xs
          ≡ cond b (Some (Repeated x)) (list_fault k (take (i + 1) xs) (drop (i + 1) xs))
      at_mark b mark =
          let yes : is_job k x ≡ true =
          and_from (nat_lt 0 x) (nat_le x (length k.jobs)) (lt-ltb 0 x job.0)
          (le-leb x (length k.jobs) job.1) in
          let stands : stands_in (take i xs) x ≡ b =
          stands_if x (take i xs) b (marks.marked x job ∙ ap as_one mark) in
          at_job ∙ ap (λ t. cond (not t) (Some (BadJob x))
          (cond (stands_in (take i xs) x) (Some (Repeated x))
          (list_fault k (take (i + 1) xs) (drop (i + 1) xs)))) yes
          ∙ ap (λ t. cond t (Some (Repeated x)) (list_fault k (take (i + 1) xs) (drop (i + 1) xs))) stands

      -- one that is marked stood before
      pub judged_twice : get_or seen (x - 1) false ≡ true → list_fault k [] xs ≡ Some (Repeated x)
      judged_twice mark = at_mark true mark

      pub judged_more : get_or seen (x - 1) false ≡ false → IsJudged k xs (i + 1)
      judged_more mark = at_mark false mark

-- a list that is judged to its end has no fault
pub judged_whole : (k : ProblemData) (xs : List ℕ) (i : ℕ) → length xs ≤ i → IsJudged k xs i
    → list_fault k [] xs ≡ None
judged_whole k xs i end judged = judged ∙ ap (list_fault k (take i xs)) (drop_all i xs end)

-- ---- one condition after another

-- where the first condition holds, the fault is that of the others
pub after_first : {F : Type 0} (o rest : Option F) → o ≡ None → option_or o rest ≡ rest
after_first o rest none = ap (λ p. option_or p rest) none

-- where it does not hold, it is the fault
pub first_is : {F : Type 0} (o rest : Option F) (x : F) → o ≡ Some x → option_or o rest ≡ Some x
first_is o rest x some = ap (λ p. option_or p rest) some

-- where the first has no fault, the answer is about the rest
pub passes : (o rest : Option BoundFault) (e : BoundFault) → o ≡ None → IsFaultOrNoMemory rest e
    → IsFaultOrNoMemory (option_or o rest) e
passes o rest e none h = subst (λ p. IsFaultOrNoMemory p e) (sym (after_first o rest none)) h

-- neither has a fault
pub neither : {F : Type 0} (o rest : Option F) → o ≡ None → rest ≡ None → option_or o rest ≡ None
neither o rest none h = after_first o rest none ∙ h

-- ---- the conditions

pub not_lt : (a b : ℕ) → b ≤ a → nat_lt a b ≡ false
not_lt a b h = grind (arith, nat_tests)
