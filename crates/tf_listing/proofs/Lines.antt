-- One problem more of a list.
use Rattle.std.proofs.Common.{◌≡◌, ℕ, ◌+◌, ◌<◌, Bool, true, false, List, [], ◌∷◌, ◌++◌, length, map, take, get_or, refl, sym, ap, ◌∙◌, append_assoc, append-nil, Option}
use Rattle.std.specs.List.{filter, flat_map}
use Rattle.std.proofs.lemmas.Grind.{flat_map-append}
use Rattle.std.proofs.lemmas.List.{map-append, take_more}
use Rattle.std.proofs.lemmas.List.Elements.{filter-append}
use Rattle.tf_model.specs.InstanceData.{InstanceData}
use Rattle.tf_model.specs.declared.problem.Problem.{Problem}
use Rattle.tf_listing.specs.Fields.{is_listed}
use Rattle.tf_listing.specs.Listing.{line_if, lines_of, problem_line}
use Rattle.tf_listing.specs.declared.listing.Listed.{Listed}

module _ (s : Listed) (o : Option InstanceData) where
  -- the problem is listed
  more_yes : (ps : List Problem) (p : Problem) → is_listed s p o ≡ true
      → lines_of s o (ps ++ p ∷ []) ≡ lines_of s o ps ++ problem_line p
  more_yes ps p h =
      let kept : filter (λ q. is_listed s q o) (ps ++ p ∷ [])
      ≡ filter (λ q. is_listed s q o) ps ++ p ∷ [] =
      filter-append (λ q. is_listed s q o) ps (p ∷ []) ∙ rw h refl in
      ap (flat_map problem_line) kept
      ∙ flat_map-append problem_line (filter (λ q. is_listed s q o) ps) (p ∷ [])
      ∙ ap (λ (t : List ℕ). lines_of s o ps ++ t) (append-nil (problem_line p))

  -- or not
  more_no : (ps : List Problem) (p : Problem) → is_listed s p o ≡ false
      → lines_of s o (ps ++ p ∷ []) ≡ lines_of s o ps
  more_no ps p h =
      let kept : filter (λ q. is_listed s q o) (ps ++ p ∷ []) ≡ filter (λ q. is_listed s q o) ps =
      filter-append (λ q. is_listed s q o) ps (p ∷ []) ∙ rw h (append-nil _) in
      ap (flat_map problem_line) kept

  -- the lines of one problem more are its line more, where it has one
  more : (ps : List Problem) (p : Problem)
      → lines_of s o (ps ++ p ∷ []) ≡ lines_of s o ps ++ line_if s o p
  more ps p = by (is_listed s p o) refl
    where
      by : (b : Bool) → is_listed s p o ≡ b
          → lines_of s o (ps ++ p ∷ []) ≡ lines_of s o ps ++ line_if s o p
      by true h = more_yes ps p h ∙ ap (λ (t : List ℕ). lines_of s o ps ++ t) (rw h refl)
      by false h = more_no ps p h ∙ rw h (sym (append-nil (lines_of s o ps)))

  -- the same of the problems of the first so many
  pub step : (X : Type 0) (problem : X → Problem) (all : List X) (i : ℕ) (d : X)
      (start old new : List ℕ)
      → i < length all → old ≡ start ++ lines_of s o (map problem (take i all))
      → new ≡ old ++ line_if s o (problem (get_or all i d))
      → new ≡ start ++ lines_of s o (map problem (take (i + 1) all))
  step X problem all i d start old new lt old-is new-is =
      let seen : List Problem = map problem (take i all) in
      let last : Problem = problem (get_or all i d) in
      let kept : map problem (take (i + 1) all) ≡ seen ++ last ∷ [] =
      ap (map problem) (take_more all i d lt)
      ∙ map-append problem (take i all) (get_or all i d ∷ []) in
      new-is ∙ ap (λ (t : List ℕ). t ++ line_if s o last) old-is
      ∙ append_assoc start (lines_of s o seen) (line_if s o last)
      ∙ sym (ap (λ (t : List ℕ). start ++ t) (ap (lines_of s o) kept ∙ more seen last))
