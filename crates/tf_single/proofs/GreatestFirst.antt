-- Of the entries that are there from the beginning on the last is the greatest, and of a heap the top.
use Rattle.std.proofs.Common.{◌≡◌, ◌+◌, ◌-◌, ◌<◌, ◌≤◌, true, false, List, [], ◌∷◌, ◌++◌, length, get_or, Option, Some, option_to_list, refl, sym, ap, ◌∙◌, subst, arith}
use Rattle.std.specs.Cmp.{IsStrictWeakOrder, IsTotalOrder}
use Rattle.std.specs.List.Sorted.{IsPermutation, IsSorted}
use Rattle.std.specs.BinaryHeap.{IsUpperBound}
use Rattle.std.specs.Ordering.{is_lt}
use Rattle.std.specs.declared.cmp.Ordering.{Ordering}
use Rattle.std.proofs.lemmas.List.{length_push, length-append, get_or_at, get_or_default, get_or_append_left, append_assoc}
use Rattle.std.proofs.lemmas.List.Elements.{All-append, All-from_recursion}
use Rattle.std.proofs.lemmas.List.Sorted.{All-permutation, IsPermutation-sym, IsPermutation-trans, IsPermutation-middle, IsPermutation-append_left, IsPermutation-append_right, length_permutation, ranks_by, sorted_far}
use Rattle.tf_single.specs.GreatestFirst.{IsGreatest}

-- ---- where an entry stands

module _ {E : Type 0} where
  -- behind the first ones
  pub pushed_first : (first later : List E) (e : E)
      → IsPermutation (e ∷ (first ++ later)) ((first ++ e ∷ []) ++ later)
  pushed_first first later e =
      subst (IsPermutation (e ∷ (first ++ later))) (sym (append_assoc first (e ∷ []) later))
      (IsPermutation-sym (first ++ e ∷ later) (e ∷ (first ++ later))
      (IsPermutation-middle first e later))

  -- among those that followed
  pub pushed_later : (first later more : List E) (e : E) → IsPermutation (e ∷ later) more
      → IsPermutation (e ∷ (first ++ later)) (first ++ more)
  pushed_later first later more e moved =
      IsPermutation-trans (e ∷ (first ++ later)) (first ++ e ∷ later) (first ++ more)
      (IsPermutation-sym (first ++ e ∷ later) (e ∷ (first ++ later))
      (IsPermutation-middle first e later))
      (IsPermutation-append_right first (e ∷ later) more moved)

  -- some entry is left
  pub some_left : (first later sorted now : List E) → 0 < length (first ++ later)
      → IsPermutation first sorted → now ≡ later → 0 < length (sorted ++ now)
  some_left first later sorted now some sorts same =
      omega (
        arith,
        some,
        length-append first later,
        length-append sorted now,
        length_permutation first sorted sorts,
        ap length same,
      )

  -- the last of a list is what a pop gives
  pub popped_last : (xs front : List E) (o : Option E) (x : E)
      → xs ≡ front ++ option_to_list o → o ≡ Some x → xs ≡ front ++ x ∷ []
  popped_last xs front o x is some = is ∙ ap (λ p. front ++ option_to_list p) some

  pub last_of : (xs front : List E) (x : E) → xs ≡ front ++ x ∷ []
      → get_or xs (length xs - 1) x ≡ x
  last_of xs front x is =
      let at : length xs - 1 ≡ length front = omega (arith, ap length is, length_push front x) in
      ap (λ i. get_or xs i x) at ∙ ap (λ ys. get_or ys (length front) x) is
      ∙ get_or_at front x [] x (length front) refl

  -- what is taken once the first ones are sorted is taken of all
  pub sorted_moved : (first later sorted : List E) → IsPermutation first sorted → (x : E)
      (others : List E) → IsPermutation (sorted ++ later) (x ∷ others)
      → IsPermutation (first ++ later) (x ∷ others)
  sorted_moved first later sorted sorts x others moved =
      IsPermutation-trans (first ++ later) (sorted ++ later) (x ∷ others)
      (IsPermutation-append_left later first sorted sorts) moved

  -- the last of the first is taken
  pub first_taken : (sorted later front : List E) (x : E) → sorted ≡ front ++ x ∷ []
      → IsPermutation (sorted ++ later) (x ∷ (front ++ later))
  first_taken sorted later front x is =
      subst (λ (es : List E). IsPermutation (es ++ later) (x ∷ (front ++ later))) (sym is)
      (IsPermutation-sym (x ∷ (front ++ later)) ((front ++ x ∷ []) ++ later)
      (pushed_first front later x))

  -- the greatest of those that followed is taken
  pub later_taken : (sorted later more : List E) (x : E) → IsPermutation later (x ∷ more)
      → IsPermutation (sorted ++ later) (x ∷ (sorted ++ more))
  later_taken sorted later more x moved =
      IsPermutation-trans (sorted ++ later) (sorted ++ x ∷ more) (x ∷ (sorted ++ more))
      (IsPermutation-append_right sorted later (x ∷ more) moved)
      (IsPermutation-middle sorted x more)

-- ---- which is the greatest

module _ {E : Type 0} (cmp : E → E → Ordering) where
  -- the first of a list in order are in order
  pub sorted_front : (xs : List E) (x : E) → IsSorted cmp (xs ++ x ∷ []) → IsSorted cmp xs
  sorted_front xs x rising i d low h =
      subst (λ (e : E). is_lt (cmp e (get_or xs i d)) ≡ false)
      (get_or_append_left xs (x ∷ []) d (i + 1) h)
      (subst (λ (e : E). is_lt (cmp (get_or (xs ++ x ∷ []) (i + 1) d) e) ≡ false)
      (get_or_append_left xs (x ∷ []) d i (omega arith))
      (rising i d low (omega (arith, length_push xs x))))

  -- the greatest once the first ones are sorted is the greatest of all
  pub sorted_greatest : (first later sorted : List E) → IsPermutation first sorted → (x : E)
      → IsGreatest cmp (sorted ++ later) x → IsGreatest cmp (first ++ later) x
  sorted_greatest first later sorted sorts x greatest =
      All-permutation (λ e. is_lt (cmp x e) ≡ false) (sorted ++ later) (first ++ later)
      (IsPermutation-sym (first ++ later) (sorted ++ later)
      (IsPermutation-append_left later first sorted sorts)) greatest

  -- the top of a heap is its greatest
  top_greatest : (xs : List E) (x : E) → IsUpperBound cmp x xs → IsGreatest cmp xs x
  top_greatest xs x bound = All-from_recursion (λ y. is_lt (cmp x y) ≡ false) xs bound

  -- where none is first
  pub none_ahead : (first later : List E) (y d : E) → length first ≤ 0
      → IsUpperBound cmp y later → 0 < length later → y ≡ get_or later 0 y
      → IsGreatest cmp (first ++ later) (get_or later 0 d)
  none_ahead first later y d none bound some top =
      subst (IsGreatest cmp (first ++ later)) (top ∙ get_or_default later 0 y d some)
      (All-append (λ e. is_lt (cmp y e) ≡ false) first later
      (λ i e h. absurd (omega (arith, h, none))) (top_greatest later y bound))

  module _ (total : IsTotalOrder cmp) where
    order : IsStrictWeakOrder (λ a b. is_lt (cmp a b))
    order = ranks_by total (λ (e : E). e)

    -- the last of a list in order is its greatest
    last_greatest : (xs : List E) → IsSorted cmp xs → 0 < length xs → (d : E)
        → IsGreatest cmp xs (get_or xs (length xs - 1) d)
    last_greatest xs rising some d i e h =
        let x : E = get_or xs (length xs - 1) d in
        subst (λ (y : E). is_lt (cmp x y) ≡ false) (get_or_default xs i d e h)
        (sorted_far (λ a b. is_lt (cmp a b)) order xs rising i (length xs - 1) d (omega arith)
        (omega arith))

    -- and so is what is no less
    no_less : (xs : List E) (x y : E) → IsGreatest cmp xs x → is_lt (cmp y x) ≡ false
        → IsGreatest cmp xs y
    no_less xs x y greatest le i e h = order.chain y x (get_or xs i e) le (greatest i e h)

    -- where none followed
    pub alone_ahead : (first later : List E) (d : E) → IsSorted cmp first → 0 < length first
        → length later ≤ 0 → IsGreatest cmp (first ++ later) (get_or first (length first - 1) d)
    alone_ahead first later d rising some none =
        let x : E = get_or first (length first - 1) d in
        All-append (λ e. is_lt (cmp x e) ≡ false) first later (last_greatest first rising some d)
        (λ i e h. absurd (omega (arith, h, none)))

    -- where the greatest of those that followed is less
    pub first_ahead : (first later : List E) (x y d : E) → IsSorted cmp first → 0 < length first
        → x ≡ get_or first (length first - 1) x → IsUpperBound cmp y later
        → is_lt (cmp y x) ≡ true
        → IsGreatest cmp (first ++ later) (get_or first (length first - 1) d)
    first_ahead first later x y d rising some last bound less =
        subst (IsGreatest cmp (first ++ later))
        (last ∙ get_or_default first (length first - 1) x d (omega arith))
        (All-append (λ e. is_lt (cmp x e) ≡ false) first later
        (subst (IsGreatest cmp first) (sym last) (last_greatest first rising some x))
        (no_less later y x (top_greatest later y bound) (order.one_way y x less)))

    -- where it is not
    pub later_ahead : (first later : List E) (x y d : E) → IsSorted cmp first → 0 < length first
        → x ≡ get_or first (length first - 1) x → IsUpperBound cmp y later
        → 0 < length later → y ≡ get_or later 0 y → is_lt (cmp y x) ≡ false
        → IsGreatest cmp (first ++ later) (get_or later 0 d)
    later_ahead first later x y d rising held last bound some top less =
        subst (IsGreatest cmp (first ++ later)) (top ∙ get_or_default later 0 y d some)
        (All-append (λ e. is_lt (cmp y e) ≡ false) first later
        (no_less first x y
        (subst (IsGreatest cmp first) (sym last) (last_greatest first rising held x)) less)
        (top_greatest later y bound))
