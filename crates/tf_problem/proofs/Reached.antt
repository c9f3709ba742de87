-- As many jobs as are kept can be on time: the certificate of kept jobs is exact in numbers.
use Rattle.std.proofs.Common.{◌≡◌, Bool, true, false, ℕ, suc, ◌+◌, nat_lt, ◌≤◌, ◌<◌, ◌⊎◌, inl, inr, sum, List, [], ◌∷◌, length, cond, refl, ap, subst, ⊎_elim, arith, sum_by}
use Rattle.std.proofs.lemmas.Bool.{ltb-false}
use Rattle.std.proofs.lemmas.List.Sums.{sum_by-cons}
use Rattle.tf_problem.specs.Kept.{put, without_last, within_room, kept_by, IsRisingBy}
use Rattle.tf_problem.proofs.Piles.{first, Rising, first-all, put-length, put-rising, put-same, last-length, last-first, last-rising}

abbrev as_one : Bool → ℕ
as_one t = cond t 1 0

sum_of : (x : ℕ) (xs : List ℕ) → sum (x ∷ xs) ≡ x + sum xs
sum_of x xs = sum_by-cons (λ y. y) x xs

-- ---- some elements of a list, in its order

pub data Part : List ℕ → List ℕ → Type 0 where
  none : Part [] []
  keep : {a : ℕ} {xs ys : List ℕ} → Part xs ys → Part (a ∷ xs) (a ∷ ys)
  skip : {a : ℕ} {xs ys : List ℕ} → Part xs ys → Part xs (a ∷ ys)

Part-whole : (xs : List ℕ) → Part xs xs
Part-whole [] = none
Part-whole (x ∷ xs) = keep (Part-whole xs)

Part-sum : {xs ys : List ℕ} → Part xs ys → sum xs ≤ sum ys
Part-sum none = omega arith
Part-sum (keep {a} {xs} {ys} part) = omega (arith, Part-sum part, sum_of a xs, sum_of a ys)
Part-sum (skip {a} {xs} {ys} part) = omega (arith, Part-sum part, sum_of a ys)

pub Part-none : {xs : List ℕ} → Part xs [] → xs ≡ []
Part-none none = refl

Part-last : (xs ys : List ℕ) → Part xs (without_last ys) → Part xs ys
Part-last xs [] part = part
Part-last xs (a ∷ []) part = skip part
Part-last xs (a ∷ b ∷ ys) part = by part (λ zs. Part-last zs (b ∷ ys))
  where
    by : {xs : List ℕ} → Part xs (a ∷ without_last (b ∷ ys))
        → ((zs : List ℕ) → Part zs (without_last (b ∷ ys)) → Part zs (b ∷ ys))
        → Part xs (a ∷ b ∷ ys)
    by (keep {a} {xs} {ys} part) further = keep (further xs part)
    by (skip {a} {xs} {ys} part) further = skip (further xs part)

-- some elements of a list with one more are of the list, or one is it
record PutPart (p : ℕ) (xs ys : List ℕ) : Type 0 where
  rest : List ℕ
  part : Part rest ys
  longer : length xs ≡ suc (length rest)
  more : sum xs ≡ p + sum rest

Part-put : (p : ℕ) (xs ys : List ℕ) → Part xs (put p ys) → Part xs ys ⊎ PutPart p xs ys
Part-put p xs [] part = by part
  where
    by : {xs : List ℕ} → Part xs (p ∷ []) → Part xs [] ⊎ PutPart p xs []
    by (keep {a} {xs} {ys} part) =
        inr (record { rest = xs; part = part; longer = refl; more = sum_of p xs })
    by (skip part) = inl part
Part-put p xs (a ∷ ys) part = by (nat_lt a p) part (λ zs. Part-put p zs ys)
  where
    first-kept : (zs : List ℕ) → Part zs ys ⊎ PutPart p zs ys
        → Part (a ∷ zs) (a ∷ ys) ⊎ PutPart p (a ∷ zs) (a ∷ ys)
    first-kept zs h =
        ⊎_elim (λ part. inl (keep part))
        (λ put'. inr (record {
          rest = a ∷ put'.rest;
          part = keep put'.part;
          longer = omega (arith, put'.longer);
          more = omega (arith, put'.more, sum_of a zs, sum_of a put'.rest);
        }))
        h

    first-skipped : (zs : List ℕ) → Part zs ys ⊎ PutPart p zs ys
        → Part zs (a ∷ ys) ⊎ PutPart p zs (a ∷ ys)
    first-skipped zs h =
        ⊎_elim (λ part. inl (skip part))
        (λ put'. inr (record {
          rest = put'.rest;
          part = skip put'.part;
          longer = put'.longer;
          more = put'.more;
        }))
        h

    before : {xs : List ℕ} → Part xs (a ∷ put p ys)
        → ((zs : List ℕ) → Part zs (put p ys) → Part zs ys ⊎ PutPart p zs ys)
        → Part xs (a ∷ ys) ⊎ PutPart p xs (a ∷ ys)
    before (keep {xs = us} part) further = first-kept us (further us part)
    before (skip {xs = us} part) further = first-skipped us (further us part)

    here : {xs : List ℕ} → Part xs (p ∷ a ∷ ys) → Part xs (a ∷ ys) ⊎ PutPart p xs (a ∷ ys)
    here (keep {xs = us} part) =
        inr (record { rest = us; part = part; longer = refl; more = sum_of p us })
    here (skip part) = inl part

    by : (t : Bool) → Part xs (cond t (a ∷ put p ys) (p ∷ a ∷ ys))
        → ((zs : List ℕ) → Part zs (put p ys) → Part zs ys ⊎ PutPart p zs ys)
        → Part xs (a ∷ ys) ⊎ PutPart p xs (a ∷ ys)
    by true part further = before part further
    by false part further = here part

-- ---- jobs on time

module _ (p room : ℕ → ℕ) where
  -- there is room for the jobs that are marked, behind w that are done
  unfoldable pub AreTimely : ℕ → List Bool → List ℕ → Type 0
  AreTimely w [] [] = Unit {0}
  AreTimely w [] (j ∷ jobs) = ⊥
  AreTimely w (b ∷ marks) [] = ⊥
  AreTimely w (b ∷ marks) (j ∷ jobs) =
      (b ≡ true → w + p j ≤ room j) × AreTimely (w + cond b (p j) 0) marks jobs

  -- marks, and which of the times that were kept before stay
  pub record Reached (times jobs : List ℕ) : Type 0 where
    pub marks : List Bool
    pub stay : List ℕ
    pub part : Part stay times
    pub timely : AreTimely (sum stay) marks jobs
    pub many : length stay + sum_by as_one marks ≡ length (kept_by p room times jobs)

  -- times with one more have room when the longest is crossed out
  within_room-sum : (j : ℕ) (times : List ℕ) → Rising 0 times → sum times ≤ room j
      → sum (within_room (room j) (put (p j) times)) ≤ room j
  within_room-sum j times rising fits = by (nat_lt (room j) (sum more)) refl
    where
      more : List ℕ
      more = put (p j) times

      by : (b : Bool) → nat_lt (room j) (sum more) ≡ b → sum (cond b (without_last more) more) ≤ room j
      by false e = ltb-false (room j) (sum more) e
      by true e =
          let n : ℕ = length times in
          let length' : length (without_last more) ≡ n =
          omega (arith, last-length more, put-length (p j) times) in
          let less : n < length more = omega (arith, put-length (p j) times) in
          omega (
            arith,
            fits,
            first-all times,
            put-same n (p j) 0 times rising (omega arith),
            last-first n more less,
            first-all (without_last more),
            ap (λ m. first m (without_last more)) length',
          )

  within_room-part : (room : ℕ) (xs ys : List ℕ) → Part xs (within_room room ys) → Part xs ys
  within_room-part room xs ys part = by (nat_lt room (sum ys)) part
    where
      by : (b : Bool) → Part xs (cond b (without_last ys) ys) → Part xs ys
      by true part = Part-last xs ys part
      by false part = part

  within_room-rising : (room : ℕ) (ys : List ℕ) → Rising 0 ys → Rising 0 (within_room room ys)
  within_room-rising room ys rising = by (nat_lt room (sum ys))
    where
      by : (b : Bool) → Rising 0 (cond b (without_last ys) ys)
      by true = last-rising 0 ys rising
      by false = rising

  pub reached : (t : ℕ) (times jobs : List ℕ) → Rising 0 times → sum times ≤ t
      → IsRisingBy room t jobs → Reached times jobs
  unfolding AreTimely
  reached t times [] rising fits late =
      record { marks = []; stay = times; part = Part-whole times; timely = tt; many = omega arith }
  reached t times (j ∷ jobs) rising fits late =
      let more : List ℕ = put (p j) times in
      let next : List ℕ = within_room (room j) more in
      let small : sum next ≤ room j = within_room-sum j times rising (omega (arith, fits, late.0)) in
      let rest : Reached next jobs =
      reached (room j) next jobs
      (within_room-rising (room j) more (put-rising 0 (p j) times (omega arith) rising)) small late.1 in
      ⊎_elim
      (λ part. record {
        marks = false ∷ rest.marks;
        stay = rest.stay;
        part = part;
        timely = (λ e. cc, subst (λ w. AreTimely w rest.marks jobs) (plain (sum rest.stay)) rest.timely);
        many = omega (arith, rest.many, sum_by-cons as_one false rest.marks);
      })
      (λ put'. record {
        marks = true ∷ rest.marks;
        stay = put'.rest;
        part = put'.part;
        timely = (
          λ _. omega (arith, put'.more, Part-sum rest.part, small),
          subst (λ w. AreTimely w rest.marks jobs) (moved (sum rest.stay) (sum put'.rest) (p j) put'.more)
              rest.timely,
        );
        many = omega (arith, rest.many, put'.longer, sum_by-cons as_one true rest.marks);
      })
      (Part-put (p j) rest.stay times (within_room-part (room j) rest.stay more rest.part))
    where
      plain : (w : ℕ) → w ≡ w + 0
      plain w = omega arith

      moved : (w v x : ℕ) → w ≡ x + v → w ≡ v + x
      moved w v x e = omega (arith, e)
