-- No timetable has more jobs complete at any time than the one that always works on the shortest.
use Rattle.std.proofs.Common.{◌≡◌, Bool, true, false, not, ℕ, zero, suc, ◌+◌, ◌-◌, ◌*◌, nat_lt, nat_le, ◌≤◌, ◌<◌, sum, List, [], ◌∷◌, length, get_or, ◌==◌, cond, refl, sym, ap, ◌∙◌, subst, arith, sum_by, All, pos, ◌≤ℤ◌, IsTrue}
use Rattle.std.proofs.lemmas.Int.{ints}
use Rattle.std.proofs.lemmas.Bool.{ltb-true, ltb-false, leb-true, leb-false}
use Rattle.std.proofs.lemmas.List.Sums.{sum_by-cons}
use Rattle.std.proofs.lemmas.List.Elements.{All-weaker, All-cons, All-nil, All-head, All-tail}
use Rattle.std.proofs.lemmas.Bool.{or_left}
use Rattle.tf_model.specs.declared.problem.Goal.TheVariants as goals
use Rattle.tf_model.specs.ClassTable.{is_single_env, is_parallel_env}
use Rattle.tf_model.specs.Distinct.{IsDistinct}
use Rattle.tf_model.specs.Timetable.{Timetable, completion}
use Rattle.tf_model.proofs.Sums.{sum_by_le_all, sum_by-same}
use Rattle.tf_posed.specs.ProblemData.{ProblemData, IsProblemSound, IsProblemJob, problem_jobs, problem_time, problem_release}
use Rattle.tf_posed.specs.FitsProblem.{FitsProblem}
use Rattle.tf_posed.specs.ProblemCost.{problem_cost, problem_cost_by, IsLowerBound}
use Rattle.tf_problem.specs.ProblemBounds.{is_alike}
use Rattle.tf_problem.proofs.Windows.{alike_no_shop}
use Rattle.tf_problem.specs.Kept.{put, IsRisingBy}
use Rattle.tf_problem.specs.Shortest.{remaining, completions, shortest_first, shortest_value}
use Rattle.tf_problem.proofs.Piles.{first, Rising, Rising-lower, put-length, put-rising, put-more, put-same}
use Rattle.tf_problem.proofs.Over.{over, over-le, over-const, over-plus, over-split, over-same, over-swap, over-below}
use Rattle.tf_problem.proofs.Kept.{done-room}
use Rattle.tf_problem.proofs.ProblemLists.{sum_by-le-jobs}

abbrev as_one : Bool → ℕ
as_one t = cond t 1 0

-- ---- work on the shortest

remaining-rising : (d t : ℕ) (times : List ℕ) → 1 ≤ t → Rising t times → Rising 1 (remaining d times)
remaining-rising d t [] some rising = tt
remaining-rising d t (a ∷ times) some rising =
    by (nat_le a d) refl (remaining-rising (d - a) a times (omega (arith, rising.0)) rising.1)
  where
    by : (b : Bool) → nat_le a d ≡ b → Rising 1 (remaining (d - a) times)
        → Rising 1 (cond b (remaining (d - a) times) ((a - d) ∷ times))
    by true e rest = rest
    by false e rest =
        (omega (arith, leb-false a d e), Rising-lower (a - d) a times (omega arith) rising.1)

remaining-length : (d : ℕ) (times : List ℕ) → length (remaining d times) ≤ length times
remaining-length d [] = omega arith
remaining-length d (a ∷ times) = by (nat_le a d) (remaining-length (d - a) times)
  where
    by : (b : Bool) → length (remaining (d - a) times) ≤ length times
        → length (cond b (remaining (d - a) times) ((a - d) ∷ times)) ≤ suc (length times)
    by true h = omega (arith, h)
    by false h = omega arith

-- behind n times and e others, there are m times and e others after d
pub record IsLeft (n e d : ℕ) (times after : List ℕ) : Type 0 where
  pub m : ℕ
  pub few : m ≤ length after
  pub all : length after ≤ m + e
  pub less : first m after ≤ first n times - d

remaining-is : (n e d : ℕ) (times : List ℕ) → n ≤ length times → length times ≤ n + e
    → IsLeft n e d times (remaining d times)
remaining-is n e d [] few all = record { m = 0; few = omega arith; all = omega arith; less = omega arith }
remaining-is zero e d (a ∷ times) few all =
    record {
      m = 0;
      few = omega arith;
      all = omega (arith, all, remaining-length d (a ∷ times));
      less = omega arith;
    }
remaining-is (suc n) e d (a ∷ times) few all =
    by (nat_le a d) refl (remaining-is n e (d - a) times (omega arith) (omega arith))
  where
    by : (b : Bool) → nat_le a d ≡ b → IsLeft n e (d - a) times (remaining (d - a) times)
        → IsLeft (suc n) e d (a ∷ times) (cond b (remaining (d - a) times) ((a - d) ∷ times))
    by true is rest = record {
      m = rest.m;
      few = rest.few;
      all = rest.all;
      less = omega (arith, rest.less, leb-true a d is);
    }
    by false is rest = record {
      m = suc n;
      few = few;
      all = all;
      less = omega (arith, leb-false a d is);
    }

-- the times that are over by then, and what remains at the end, are at most the lengths meanwhile
completions-le : (now d : ℕ) (times : List ℕ)
    → completions now d times + (now + d) * length (remaining d times)
    ≤ now * length times + over d (λ s. length (remaining s times))
completions-le now d [] = omega arith
completions-le now d (a ∷ times) =
    by (nat_le a d) refl (completions-le (now + a) (d - a) times)
  where
    f : ℕ → ℕ
    f s = length (remaining s (a ∷ times))

    -- as long as the first is not over
    waits : (s : ℕ) → s < a → f s ≡ suc (length times)
    waits s h = at (nat_le a s) refl
      where
        at : (b : Bool) → nat_le a s ≡ b
            → length (cond b (remaining (s - a) times) ((a - s) ∷ times)) ≡ suc (length times)
        at true e = absurd (omega (arith, leb-true a s e))
        at false e = refl

    -- and afterwards
    over-it : (s : ℕ) → f (a + s) ≡ length (remaining s times)
    over-it s = at (nat_le a (a + s)) refl
      where
        at : (b : Bool) → nat_le a (a + s) ≡ b
            → length (cond b (remaining (a + s - a) times) ((a - (a + s)) ∷ times)) ≡ length (remaining s times)
        at true e = ap (λ d. length (remaining d times)) (back a s)
          where
            back : (a s : ℕ) → a + s - a ≡ s
            back a s = omega arith
        at false e = absurd (omega (arith, leb-false a (a + s) e))

    flat : (n : ℕ) → n ≤ a → n * suc (length times) ≤ over n f
    flat n h =
        omega (
          arith,
          over-const n (suc (length times)),
          over-le n (λ _. suc (length times)) f (λ s lt. omega (arith, waits s (omega arith))),
        )

    by : (b : Bool) → nat_le a d ≡ b
        → completions (now + a) (d - a) times + (now + a + (d - a)) * length (remaining (d - a) times)
        ≤ (now + a) * length times + over (d - a) (λ s. length (remaining s times))
        → cond b (now + a + completions (now + a) (d - a) times) 0
        + (now + d) * length (cond b (remaining (d - a) times) ((a - d) ∷ times))
        ≤ now * suc (length times) + over d f
    by true e rest =
        let le : a ≤ d = leb-true a d e in
        let is : a + (d - a) ≡ d = omega arith in
        let now' : now + a + (d - a) ≡ now + d = omega arith in
        omega (
          arith,
          rest,
          flat a (omega arith),
          over-split a (d - a) f,
          ap (λ n. over n f) is,
          ap (λ n. n * length (remaining (d - a) times)) now',
          over-same (d - a) (λ s. f (a + s)) (λ s. length (remaining s times)) over-it,
        )
    by false e rest = omega (arith, flat d (omega (arith, leb-false a d e)))

-- ---- jobs that are released

module _ (p r : ℕ → ℕ) where
  -- how many of the times that remain at now, and of the jobs, are not over at t
  abbrev count : ℕ → ℕ → List ℕ → List ℕ → ℕ
  count t now times [] = length (remaining (t - now) times)
  count t now times (j ∷ jobs) =
      cond (nat_lt t (r j)) (length (remaining (t - now) times) + suc (length jobs))
      (count t (r j) (put (p j) (remaining (r j - now) times)) jobs)

  -- the value is at most what the counts come to
  shortest-le-counts : (now : ℕ) (times jobs : List ℕ) → IsRisingBy r now jobs
      → (h : ℕ) × (shortest_first p r now times jobs
      ≤ now * (length times + length jobs) + over h (λ s. count (now + s) now times jobs))
  shortest-le-counts now times [] rising = (
    sum times,
    omega (
      arith,
      completions-le now (sum times) times,
      over-same (sum times) (λ s. length (remaining s times)) (λ s. length (remaining (now + s - now) times))
          (λ s. ap (λ d. length (remaining d times)) (back now s)),
    ),
  )
    where
      back : (a s : ℕ) → s ≡ a + s - a
      back a s = omega arith
  shortest-le-counts now times (j ∷ jobs) rising =
      let d : ℕ = r j - now in
      let next : List ℕ = put (p j) (remaining d times) in
      let rest = shortest-le-counts (r j) next jobs rising.1 in
      let is : now + d ≡ r j = omega (arith, rising.0) in
      let f : ℕ → ℕ = λ s. count (now + s) now times (j ∷ jobs) in
      let g : ℕ → ℕ = λ s. count (r j + s) (r j) next jobs in
      let same : r j * (length next + length jobs)
      ≡ (now + d) * (suc (length (remaining d times)) + length jobs) =
      ap (λ z. z * (length next + length jobs)) (sym is)
      ∙ ap (λ z. (now + d) * (z + length jobs)) (put-length (p j) (remaining d times)) in (
        d + rest.0,
        step now d (length times) (length (remaining d times)) (length jobs) (completions now d times)
            (shortest_first p r (r j) next jobs) (over d (λ s. length (remaining s times))) (over rest.0 g)
            (over (d + rest.0) f) (completions-le now d times) (omega (arith, rest.1, same))
            (omega (
              arith,
              over-split d rest.0 f,
              before d (omega (arith, is)),
              over-same rest.0 (λ s. f (d + s)) g
                  (λ s. behind (now + (d + s)) (r j + s) (sums now d (r j) s is) (omega (arith, is))),
            )),
      )
    where
      sums : (a d b s : ℕ) → a + d ≡ b → a + (d + s) ≡ b + s
      sums a d b s e = omega (arith, e)

      step : (now d l m n e s o q total : ℕ) → e + (now + d) * m ≤ now * l + o
          → s ≤ (now + d) * (suc m + n) + q → o + d * suc n + q ≤ total
          → e + s ≤ now * (l + suc n) + total
      step now d l m n e s o q total x y z = omega (arith, x, y, z)

      before : (d : ℕ) → now + d ≤ r j
          → over d (λ s. length (remaining s times)) + d * suc (length jobs)
          ≤ over d (λ s. count (now + s) now times (j ∷ jobs))
      before d h =
          omega (
            arith,
            over-plus d (λ s. length (remaining s times)) (suc (length jobs)),
            over-le d (λ s. length (remaining s times) + suc (length jobs))
                (λ s. count (now + s) now times (j ∷ jobs))
                (λ s lt. at s (nat_lt (now + s) (r j)) refl (omega arith)),
          )
        where
          back : (a s : ℕ) → s ≡ a + s - a
          back a s = omega arith

          at : (s : ℕ) (b : Bool) → nat_lt (now + s) (r j) ≡ b → now + s < r j
              → length (remaining s times) + suc (length jobs)
              ≤ cond b (length (remaining (now + s - now) times) + suc (length jobs))
              (count (now + s) (r j) (put (p j) (remaining (r j - now) times)) jobs)
          at s true e lt = omega (arith, ap (λ d. length (remaining d times)) (back now s))
          at s false e lt = absurd (omega (arith, ltb-false (now + s) (r j) e))

      behind : (t u : ℕ) → t ≡ u → r j ≤ t
          → count t now times (j ∷ jobs) ≡ count u (r j) (put (p j) (remaining (r j - now) times)) jobs
      behind t u is le = at (nat_lt t (r j)) refl
        where
          at : (b : Bool) → nat_lt t (r j) ≡ b
              → cond b (length (remaining (t - now) times) + suc (length jobs))
              (count t (r j) (put (p j) (remaining (r j - now) times)) jobs)
              ≡ count u (r j) (put (p j) (remaining (r j - now) times)) jobs
          at true e = absurd (omega (arith, ltb-true t (r j) e))
          at false e = ap (λ t. count t (r j) (put (p j) (remaining (r j - now) times)) jobs) is

  -- ---- what can be complete by a time

  module _ (t : ℕ) (on : ℕ → Bool) where
    -- the time of the jobs that are complete by t
    abbrev work : List ℕ → ℕ
    work jobs = sum_by (λ j. cond (on j) (p j) 0) jobs

    -- and of those that are not, how many there are
    abbrev rest_of : List ℕ → ℕ
    rest_of jobs = sum_by (λ j. as_one (not (on j))) jobs

    -- those that are released from a time on have room from it on
    abbrev pub HasRoom : List ℕ → Type 0
    HasRoom [] = Unit {0}
    HasRoom (j ∷ jobs) = (work (j ∷ jobs) ≤ t - r j) × HasRoom jobs

    none-done : (jobs : List ℕ) → All (λ j. 1 ≤ p j) jobs → work jobs ≤ 0
        → length jobs ≤ rest_of jobs
    none-done [] some h = omega arith
    none-done (j ∷ jobs) some h =
        by (on j) refl
        (none-done jobs (All-tail (λ j. 1 ≤ p j) j jobs some)
        (omega (arith, h, sum_by-cons (λ i. cond (on i) (p i) 0) j jobs)))
      where
        by : (b : Bool) → on j ≡ b → length jobs ≤ rest_of jobs
            → suc (length jobs) ≤ rest_of (j ∷ jobs)
        by true e rest =
            absurd
            (omega (
              arith,
              h,
              sum_by-cons (λ i. cond (on i) (p i) 0) j jobs,
              ap (λ b. cond b (p j) 0) e,
              All-head (λ j. 1 ≤ p j) j jobs some,
            ))
        by false e rest =
            omega (
              arith,
              rest,
              sum_by-cons (λ i. as_one (not (on i))) j jobs,
              ap (λ b. as_one (not b)) e,
            )

    -- times of which the first n have room are over, but for e
    over-by : (n e d : ℕ) (times : List ℕ) → Rising 1 times → n ≤ length times → length times ≤ n + e
        → first n times ≤ d → length (remaining d times) ≤ e
    over-by n e d times rising few all room =
        let is = remaining-is n e d times few all in
        omega (
          arith,
          is.all,
          none is.m (remaining d times) (remaining-rising d 1 times (omega arith) rising) is.few
              (omega (arith, is.less, room)),
        )
      where
        none : (m : ℕ) (after : List ℕ) → Rising 1 after → m ≤ length after → first m after ≤ 0
            → m ≤ 0
        none zero after rising few small = omega arith
        none (suc m) [] rising few small = absurd (omega arith)
        none (suc m) (a ∷ after) rising few small = absurd (omega (arith, rising.0, small))

    -- e others have been released, and n are among the times
    pub count-le-rest : (now : ℕ) (times jobs : List ℕ) (n e : ℕ) → Rising 1 times
        → IsRisingBy r now jobs → All (λ j. 1 ≤ p j) jobs → now ≤ t → n ≤ length times
        → length times ≤ n + e → first n times + work jobs ≤ t - now → HasRoom jobs
        → count t now times jobs ≤ e + rest_of jobs
    count-le-rest now times [] n e rising late some le few all room rooms =
        omega (arith, over-by n e (t - now) times rising few all (omega (arith, room)))
    count-le-rest now times (j ∷ jobs) n e rising late some le few all room rooms =
        let d : ℕ = r j - now in
        let after = remaining-is n e d times few all in
        by (nat_lt t (r j)) refl (on j) refl after
        (λ m f up k l o q. count-le-rest (r j) (put (p j) (remaining d times)) jobs m f up late.1
        (All-tail (λ j. 1 ≤ p j) j jobs some) k l o q rooms.1)
      where
        next : List ℕ
        next = put (p j) (remaining (r j - now) times)

        up : Rising 1 next
        up =
            put-rising 1 (p j) (remaining (r j - now) times) (All-head (λ j. 1 ≤ p j) j jobs some)
            (remaining-rising (r j - now) 1 times (omega arith) rising)

        by : (b : Bool) → nat_lt t (r j) ≡ b → (c : Bool) → on j ≡ c
            → IsLeft n e (r j - now) times (remaining (r j - now) times)
            → ((m f : ℕ) → Rising 1 next → r j ≤ t → m ≤ length next → length next ≤ m + f
            → first m next + work jobs ≤ t - r j → count t (r j) next jobs ≤ f + rest_of jobs)
            → cond b (length (remaining (t - now) times) + suc (length jobs)) (count t (r j) next jobs)
            ≤ e + rest_of (j ∷ jobs)
        by true is c at after further =
            omega (
              arith,
              over-by n e (t - now) times rising few all (omega (arith, room)),
              none-done (j ∷ jobs) some (omega (arith, rooms.0, ltb-true t (r j) is)),
            )
        by false is true at after further =
            omega (
              arith,
              further (suc after.m) e up (ltb-false t (r j) is)
                  (omega (arith, after.few, put-length (p j) (remaining (r j - now) times)))
                  (omega (arith, after.all, put-length (p j) (remaining (r j - now) times)))
                  (omega (
                    arith,
                    put-more after.m (p j) (remaining (r j - now) times),
                    after.less,
                    room,
                    rooms.0,
                    late.0,
                    ltb-false t (r j) is,
                    sum_by-cons (λ i. cond (on i) (p i) 0) j jobs,
                    ap (λ b. cond b (p j) 0) at,
                  )),
              sum_by-cons (λ i. as_one (not (on i))) j jobs,
              ap (λ b. as_one (not b)) at,
            )
        by false is false at after further =
            omega (
              arith,
              further after.m (suc e) up (ltb-false t (r j) is)
                  (omega (arith, after.few, put-length (p j) (remaining (r j - now) times)))
                  (omega (arith, after.all, put-length (p j) (remaining (r j - now) times)))
                  (omega (
                    arith,
                    put-same after.m (p j) 1 (remaining (r j - now) times)
                        (remaining-rising (r j - now) 1 times (omega arith) rising) after.few,
                    after.less,
                    room,
                    rooms.0,
                    late.0,
                    ltb-false t (r j) is,
                    sum_by-cons (λ i. cond (on i) (p i) 0) j jobs,
                    ap (λ b. cond b (p j) 0) at,
                  )),
              sum_by-cons (λ i. as_one (not (on i))) j jobs,
              ap (λ b. as_one (not b)) at,
            )

-- ---- the task of a problem

module _ (k : ProblemData) (sound : IsProblemSound k) (single : IsTrue (is_single_env k.problem.env))
    (rows : Timetable) (fits : FitsProblem k rows) where
  alike : IsTrue (is_alike k.problem.env)
  alike = or_left (is_single_env k.problem.env) (is_parallel_env k.problem.env) single

  -- whether the job is complete by a time
  abbrev done : ℕ → ℕ → Bool
  done t j = not (nat_lt t (completion rows j))

  done-by : (t j : ℕ) → done t j ≡ true → completion rows j ≤ t
  done-by t j h = by (nat_lt t (completion rows j)) refl h
    where
      by : (b : Bool) → nat_lt t (completion rows j) ≡ b → not b ≡ true → completion rows j ≤ t
      by true e h = cc
      by false e h = ltb-false t (completion rows j) e

  has-room : (t now : ℕ) (jobs : List ℕ) → IsDistinct jobs → All (IsProblemJob k) jobs
      → IsRisingBy (problem_release k) now jobs
      → HasRoom (problem_time k) (problem_release k) t (done t) jobs
  has-room t now [] distinct known rising = tt
  has-room t now (j ∷ jobs) distinct known rising =
      let from : All (λ i. problem_release k j ≤ problem_release k i) (j ∷ jobs) =
      rising-all (problem_release k) (problem_release k j) (j ∷ jobs) (omega arith, rising.1) in
      let one : k.machines ≡ 1 = sound.single single in (
        omega (
          arith,
          done-room k sound alike rows fits (problem_release k j) (j ∷ jobs) distinct known from
              (done t) t (λ i d h is. done-by t (get_or (j ∷ jobs) i d) is),
          ap (λ m. m * (t - problem_release k j)) one,
        ),
        has-room t (problem_release k j) jobs
            (λ c. omega (arith, distinct c, sum_by-cons (λ i. cond (c == i) 1 0) j jobs))
            (All-tail (IsProblemJob k) j jobs known) rising.1,
      )
    where
      rising-all : (f : ℕ → ℕ) (t : ℕ) (xs : List ℕ) → IsRisingBy f t xs → All (λ i. t ≤ f i) xs
      rising-all f t [] rising = All-nil (λ i. t ≤ f i)
      rising-all f t (x ∷ xs) rising =
          All-cons (λ i. t ≤ f i) x xs rising.0
          (All-weaker (λ i. f x ≤ f i) (λ i. t ≤ f i) (λ i h. omega (arith, h, rising.0)) xs
          (rising-all f (f x) xs rising.1))

  -- the jobs that are not complete at a time
  abbrev late : ℕ → ℕ → ℕ
  late t j = as_one (nat_lt t (completion rows j))

  shortest-le-completions : (jobs : List ℕ) → IsDistinct jobs → All (IsProblemJob k) jobs
      → IsRisingBy (problem_release k) 0 jobs → shortest_value k jobs ≤ sum_by (completion rows) jobs
  shortest-le-completions jobs distinct known rising =
      let p : ℕ → ℕ = problem_time k in
      let r : ℕ → ℕ = problem_release k in
      let counts = shortest-le-counts p r 0 [] jobs rising in
      let h : ℕ = counts.0 in
      let some : All (λ j. 1 ≤ p j) jobs =
      All-weaker (IsProblemJob k) (λ j. 1 ≤ p j)
      (λ j is. (sound.one_time (alike_no_shop k alike) j is).1) jobs known in
      let each : (t : ℕ) → count p r (0 + t) 0 [] jobs ≤ sum_by (late t) jobs =
      λ t. let u : ℕ = 0 + t in
      let rooms : HasRoom p r u (done u) jobs = has-room u 0 jobs distinct known rising in
      let le : count p r u 0 [] jobs ≤ 0 + rest_of p r u (done u) jobs =
      count-le-rest p r u (done u) 0 [] jobs 0 0 tt rising some (omega arith) (omega arith)
      (omega arith) (whole u jobs rooms) rooms in
      omega (
        arith,
        le,
        sum_by-same (λ j. as_one (not (done u j))) (late t)
            jobs (λ j. twice (nat_lt u (completion rows j))
            ∙ ap (λ x. as_one (nat_lt x (completion rows j))) (plain t)),
      ) in
      omega (
        arith,
        counts.1,
        over-le h (λ s. count p r (0 + s) 0 [] jobs) (λ s. sum_by (late s) jobs) (λ s _. each s),
        over-swap h late jobs,
        sum_by_le_all (λ j. over h (λ s. late s j)) (completion rows) jobs
            (λ i d lt. over-below h (completion rows (get_or jobs i d))),
      )
    where
      plain : (t : ℕ) → 0 + t ≡ t
      plain t = omega arith

      twice : (b : Bool) → as_one (not (not b)) ≡ as_one b
      twice true = refl
      twice false = refl

      whole : (u : ℕ) (xs : List ℕ) → HasRoom (problem_time k) (problem_release k) u (done u) xs
          → first 0 [] + work (problem_time k) (problem_release k) u (done u) xs ≤ u - 0
      whole u [] rooms = omega arith
      whole u (j ∷ xs) rooms = omega (arith, rooms.0)

pub shortest-bound : (k : ProblemData) → IsProblemSound k → IsTrue (is_single_env k.problem.env)
    → k.problem.goal ≡ goals.SumC → (jobs : List ℕ) → IsDistinct jobs → All (IsProblemJob k) jobs
    → IsRisingBy (problem_release k) 0 jobs → IsLowerBound k (pos (shortest_value k jobs))
shortest-bound k sound single goal jobs distinct known rising rows fits =
    let cost : problem_cost k rows ≡ pos (sum_by (completion rows) (problem_jobs k)) =
    ap (λ g. problem_cost_by g k rows) goal in
    subst (λ z. pos (shortest_value k jobs) ≤ℤ z) (sym cost)
    (omega (
      arith,
      ints,
      shortest-le-completions k sound single rows fits jobs distinct known rising,
      sum_by-le-jobs k (completion rows) jobs distinct known,
    ))
