-- Jobs of which none by itself is a reason to refuse.
use Rattle.std.proofs.Common.{◌≡◌, ℕ, ◌+◌, ◌&&◌, ◌||◌, not, Bool, true, false, Option, None, Some, List, [], ◌∷◌, get_or, map, cond, is_some, refl, ap, ◌∙◌, position}
use Rattle.std.specs.Bool.{then_some}
use Rattle.std.specs.List.{list_all}
use Rattle.std.specs.Option.{option_map, option_or}
use Rattle.std.proofs.lemmas.List.Quantifiers.{position-Some}
use Rattle.std.proofs.lemmas.List.Sums.{AllPass-from_list_all}
use Rattle.tf_model.specs.ClassTable.{is_shop}
use Rattle.tf_model.specs.Complete.{is_complete}
use Rattle.tf_model.specs.InstanceData.{first_with}
use Rattle.tf_model.specs.JobFields.{JobFields}
use Rattle.tf_model.specs.Prepare.{data_of, has_wrong_times, has_zero_time, is_too_large, jobs_refusal, lacking, missing_from, zero_time}
use Rattle.tf_model.specs.declared.class.Class.{Class}
use Rattle.tf_model.specs.declared.prepare.Field.{Field}
use Rattle.tf_model.specs.declared.prepare.Refusal.{Refusal}
use Rattle.tf_model.specs.declared.prepare.Refusal.TheVariants.{WrongTimes, MissingField, ZeroTime, TotalTooLarge}

-- where each passes one test and so fails another, none is found by the other
none_found : {X : Type 0} (p q : X → Bool) → ((x : X) → q x ≡ true → p x ≡ false) → (xs : List X)
    → list_all q xs ≡ true → position p xs ≡ None
none_found p q fails [] all = refl
none_found {X} p q fails (x ∷ xs) all = by_found (position p (x ∷ xs)) refl
  where
    by_found : (o : Option ℕ) → position p (x ∷ xs) ≡ o → o ≡ None
    by_found None e = refl
    by_found (Some i) e =
        let found = position-Some p (x ∷ xs) i x e in
        absurd (cc (
          found.1,
          fails (get_or (x ∷ xs) i x) (AllPass-from_list_all q (x ∷ xs) all i x found.0),
        ))

-- what is complete is no reason by any of the three tests
pub wrong_none : (class : Class) (job : JobFields) → is_complete class job ≡ true
    → has_wrong_times class job ≡ false
wrong_none class job = by_test (has_wrong_times class job) _
  where
    by_test : (a rest : Bool) → (not a && rest) ≡ true → a ≡ false
    by_test true rest e = cc
    by_test false rest e = refl

lacking_none : (class : Class) (job : JobFields) → is_complete class job ≡ true
    → lacking class job ≡ None
lacking_none class job = by_test (has_wrong_times class job) (lacking class job) _
  where
    by_test : (a : Bool) (o : Option Field) (rest : Bool)
        → (not a && (not (is_some o) && rest)) ≡ true → o ≡ None
    by_test true o rest e = cc
    by_test false (Some field) rest e = cc
    by_test false None rest e = refl

zero_none : (class : Class) (job : JobFields) → is_shop class ≡ false
    → is_complete class job ≡ true → has_zero_time job ≡ false
zero_none class job =
    by_test (has_wrong_times class job) (is_some (lacking class job)) (is_shop class)
    (has_zero_time job)
  where
    by_test : (a b shop zero : Bool) → shop ≡ false
        → (not a && (not b && (shop || not zero))) ≡ true → zero ≡ false
    by_test true b shop zero plain e = cc
    by_test false true shop zero plain e = cc
    by_test false false true zero plain e = cc
    by_test false false false true plain e = cc
    by_test false false false false plain e = refl

missing_none : (class : Class) (j : ℕ) (jobs : List JobFields)
    → list_all (is_complete class) jobs ≡ true → missing_from class j jobs ≡ None
missing_none class j [] all = refl
missing_none class j (job ∷ jobs) all =
    by_test (is_complete class job) (list_all (is_complete class) jobs) refl refl all
    (missing_none class (j + 1) jobs)
  where
    by_test : (a b : Bool) → is_complete class job ≡ a → list_all (is_complete class) jobs ≡ b
        → (a && b) ≡ true
        → (list_all (is_complete class) jobs ≡ true → missing_from class (j + 1) jobs ≡ None)
        → missing_from class j (job ∷ jobs) ≡ None
    by_test true true here rest e more =
        ap (λ o. option_or (option_map (MissingField j) o) (missing_from class (j + 1) jobs))
        (lacking_none class job here)
        ∙ more rest
    by_test true false here rest e more = cc
    by_test false b here rest e more = cc

module _ (class : Class) (jobs : List JobFields) (all : list_all (is_complete class) jobs ≡ true)
  where
    abbrev total : Option Refusal
    total = then_some (is_too_large class (map (data_of class) jobs)) TotalTooLarge

    no_zero : (b : Bool) → is_shop class ≡ b
        → cond b None (option_map ZeroTime (first_with has_zero_time jobs)) ≡ None
    no_zero true is = refl
    no_zero false is =
        ap (λ o. option_map ZeroTime (option_map (λ k. k + 1) o))
        (none_found has_zero_time (is_complete class) (λ job. zero_none class job is) jobs all)

    -- so only their totals may be
    pub complete_refusal : jobs_refusal class jobs ≡ total
    complete_refusal =
        ap (λ o. option_or (option_map WrongTimes (option_map (λ k. k + 1) o))
        (option_or (missing_from class 1 jobs) (option_or (zero_time class jobs) total)))
        (none_found (has_wrong_times class) (is_complete class) (wrong_none class) jobs all)
        ∙ ap (λ o. option_or o (option_or (zero_time class jobs) total))
        (missing_none class 1 jobs all)
        ∙ ap (λ o. option_or o total) (no_zero (is_shop class) refl)
