-- Lists of arcs by the job that they lead to: how they fill, and what they count.
use Rattle.std.proofs.Common.{◌≡◌, ◌≢◌, ℕ, ◌+◌, ◌-◌, ◌≤◌, ◌<◌, ◌&&◌, ◌==◌, Bool, true, nat_lt, cond, List, [], ◌∷◌, ◌++◌, length, get_or, take, drop, set, refl, sym, ap, ◌∙◌, ⊎_elim, ◌⊎◌, inl, inr, arith, count_by, All, slice_range}
use Rattle.std.proofs.lemmas.Bool.{eq-eqb, ne_eqb, cases_eq, cases_lt, le-ltb}
use Rattle.std.proofs.lemmas.Bool.Decides.{nat_tests}
use Rattle.std.proofs.lemmas.List.{get_or-set_same, get_or-set_other, length-set, length-drop, take_more_set, take-set-le, drop-set-lt, drop-set-add}
use Rattle.std.proofs.lemmas.List.Elements.{All-set}
use Rattle.std.proofs.lemmas.List.Sums.{sum_by_more, sum_by_more_le, sum_by_push, sum_by-le-sum_by, count_by-le-length}
use Rattle.std.proofs.Math.Seq.{take-length}
use Rattle.tf_model.specs.SchedulingTask.{SchedulingTask, IsJob}
use Rattle.tf_model.specs.Sound.{IsSound}
use Rattle.tf_model.proofs.Sums.{sum_by-same, sum_by-same_all, sum_by-plus, sum_by-zero_terms}
use Rattle.tf_check.proofs.Followed.{arc_in_task}
use Rattle.tf_single.specs.ArcsInto.{AreFound, arcs_before, arcs_between, begin_of, list_of}
use Rattle.tf_single.specs.Progress.{of_job}
use Rattle.tf_single.proofs.ArcCounts.{read}

abbrev as_one : Bool → ℕ
as_one b = cond b 1 0

-- how many of the arcs lead to job j
abbrev pub arcs_to : List (ℕ × ℕ) → ℕ → ℕ
arcs_to arcs j = count_by (λ arc. arc.1 == j) arcs

-- ---- the arcs into the jobs before a job

-- before the next job are those before this job and this job
before_test : (a j : ℕ) → as_one (nat_lt a (j + 1)) ≡ as_one (nat_lt a j) + as_one (a == j)
before_test a j = grind (arith, nat_tests)

-- what is before a job is before later jobs
test_up : (a i j : ℕ) → i ≤ j → as_one (nat_lt a i) ≤ as_one (nat_lt a j)
test_up a i j le = grind (arith, nat_tests)

-- one job more
pub before_next : (arcs : List (ℕ × ℕ)) (j : ℕ)
    → arcs_before arcs (j + 1) ≡ arcs_before arcs j + arcs_to arcs j
before_next arcs j =
    sum_by-same (λ arc. as_one (nat_lt arc.1 (j + 1)))
    (λ arc. as_one (nat_lt arc.1 j) + as_one (arc.1 == j)) arcs (λ arc. before_test arc.1 j)
    ∙ sum_by-plus (λ arc. as_one (nat_lt arc.1 j)) (λ arc. as_one (arc.1 == j)) arcs

-- the arcs into a job come before those into later jobs
before_up : (arcs : List (ℕ × ℕ)) (i j : ℕ) → i < j
    → arcs_before arcs i + arcs_to arcs i ≤ arcs_before arcs j
before_up arcs i j lt =
    omega (
      arith,
      before_next arcs i,
      sum_by-le-sum_by (λ arc. as_one (nat_lt arc.1 (i + 1))) (λ arc. as_one (nat_lt arc.1 j)) arcs
          (λ arc. test_up arc.1 (i + 1) j (omega arith)),
    )

-- no arc leads to a job before the first
pub before_first : (k : SchedulingTask) → IsSound k → arcs_before k.arcs 1 ≡ 0
before_first k sound =
    sum_by-same_all (λ arc. as_one (nat_lt arc.1 1)) (λ _. 0) k.arcs
    (λ i d lt. ap as_one (le-ltb (get_or k.arcs i d).1 1 (sound.arcs_in i d lt).1.0))
    ∙ sum_by-zero_terms k.arcs

-- the lists are within that of all arcs
pub before_within : (arcs : List (ℕ × ℕ)) (j : ℕ)
    → arcs_before arcs j + arcs_to arcs j ≤ length arcs
before_within arcs j =
    omega (
      arith,
      before_next arcs j,
      count_by-le-length (λ arc. nat_lt arc.1 (j + 1)) arcs,
    )

-- ---- a part of a list into which an element is written

-- beside the part it stays as it was
part_same : (xs : List ℕ) (begin n place x : ℕ) → (place < begin) ⊎ (begin + n ≤ place)
    → take n (drop begin (set xs place x)) ≡ take n (drop begin xs)
part_same xs begin n place x (inl before) = ap (take n) (drop-set-lt begin xs place x before)
part_same xs begin n place x (inr behind) =
    let at : place ≡ begin + (place - begin) = omega arith in
    ap (λ p. take n (drop begin (set xs p x))) at
    ∙ ap (take n) (drop-set-add begin xs (place - begin) x)
    ∙ take-set-le n (drop begin xs) (place - begin) x (omega arith)

-- just behind the part it makes the part longer by that element
part_more : (xs : List ℕ) (begin n x : ℕ) → begin + n < length xs
    → take (n + 1) (drop begin (set xs (begin + n) x)) ≡ take n (drop begin xs) ++ x ∷ []
part_more xs begin n x lt =
    ap (take (n + 1)) (drop-set-add begin xs n x)
    ∙ take_more_set (drop begin xs) n x (omega (arith, length-drop begin xs))

-- ---- arcs that are put into their lists

-- the first n arcs stand in the lists of their jobs
pub record ArePlaced (k : SchedulingTask) (n : ℕ) (ends froms : List ℕ) : Type 0 where
  pub jobs : length ends ≡ length k.jobs
  pub count : length froms ≡ length k.arcs
  pub known : All (IsJob k) froms
  pub at : (j : ℕ) → IsJob k j
      → of_job ends j ≡ arcs_before k.arcs j + arcs_to (take n k.arcs) j
  pub each : (j i : ℕ) → IsJob k j
      → count_by (λ b. b == i)
      (take (arcs_to (take n k.arcs) j) (drop (arcs_before k.arcs j) froms))
      ≡ arcs_between k.arcs n j i

-- one arc more
module _ (k : SchedulingTask) (n : ℕ) (ends froms : List ℕ) (arc : ℕ × ℕ)
    (placed : ArePlaced k n ends froms) (lt : n < length k.arcs) (is : arc ≡ get_or k.arcs n arc)
    (from : IsJob k arc.0) (job : IsJob k arc.1) where
  -- it is one more of those into its job
  to_more : (j : ℕ)
      → arcs_to (take (n + 1) k.arcs) j ≡ arcs_to (take n k.arcs) j + as_one (arc.1 == j)
  to_more j =
      sum_by_more (λ a. as_one (a.1 == j)) k.arcs n arc lt
      ∙ ap (λ a. arcs_to (take n k.arcs) j + as_one (a.1 == j)) (sym is)

  -- and one more of those between its two jobs
  between_more : (j i : ℕ) → arcs_between k.arcs (n + 1) j i
      ≡ arcs_between k.arcs n j i + as_one ((arc.1 == j) && (arc.0 == i))
  between_more j i =
      sum_by_more (λ a. as_one ((a.1 == j) && (a.0 == i))) k.arcs n arc lt
      ∙ ap (λ a. arcs_between k.arcs n j i + as_one ((a.1 == j) && (a.0 == i))) (sym is)

  -- the test for its job
  own_one : (j : ℕ) → j ≡ arc.1 → (arc.1 == j) ≡ true
  own_one j same = eq-eqb arc.1 j (sym same)

  -- of each job no more than all its arcs stand in its list
  to_within : (j : ℕ) → arcs_to (take (n + 1) k.arcs) j ≤ arcs_to k.arcs j
  to_within j =
      omega (
        arith,
        to_more j,
        sum_by_more_le (λ a. as_one (a.1 == j)) k.arcs n arc lt,
        ap {B = ℕ} (λ a. as_one (a.1 == j)) is,
      )

  -- the list has room for it
  room : of_job ends arc.1 < length froms
  room = omega (
    arith,
    placed.at arc.1 job,
    placed.count,
    to_more arc.1,
    to_within arc.1,
    ap {B = ℕ} as_one (own_one arc.1 refl),
    before_within k.arcs arc.1,
  )

  -- where it goes
  abbrev place : ℕ
  place = of_job ends arc.1

  -- the list of its job ends one place later, and those of other jobs where they did
  at_more : (j : ℕ) → IsJob k j → (j ≡ arc.1) ⊎ (j ≢ arc.1)
      → of_job (set ends (arc.1 - 1) (place + 1)) j
      ≡ arcs_before k.arcs j + arcs_to (take (n + 1) k.arcs) j
  at_more j its (inl same) =
      let now : of_job (set ends (arc.1 - 1) (place + 1)) j ≡ place + 1 =
      ap (of_job (set ends (arc.1 - 1) (place + 1))) same
      ∙ get_or-set_same ends (arc.1 - 1) (place + 1) 0 (omega (arith, placed.jobs, job.0, job.1)) in
      omega (
        arith,
        now,
        ap (of_job ends) same,
        placed.at j its,
        to_more j,
        ap {B = ℕ} as_one (own_one j same),
      )
  at_more j its (inr differ) =
      let now : of_job (set ends (arc.1 - 1) (place + 1)) j ≡ of_job ends j =
      get_or-set_other ends (arc.1 - 1) (j - 1) (place + 1) 0
      (λ e. differ (omega (arith, its.0, job.0))) in
      omega (
        arith,
        now,
        placed.at j its,
        to_more j,
        ap {B = ℕ} as_one (ne_eqb arc.1 j (λ e. differ (sym e))),
      )

  -- the list of job j when m arcs stand in their lists
  abbrev part : List ℕ → ℕ → ℕ → List ℕ
  part xs m j = take (arcs_to (take m k.arcs) j) (drop (arcs_before k.arcs j) xs)

  -- the list of its job has the job that it comes from at the end now
  own_part : part (set froms place arc.0) (n + 1) arc.1 ≡ part froms n arc.1 ++ arc.0 ∷ []
  own_part =
      ap (λ m. take m (drop (arcs_before k.arcs arc.1) (set froms place arc.0)))
      (to_more arc.1
      ∙ ap (λ b. arcs_to (take n k.arcs) arc.1 + as_one b) (own_one arc.1 refl))
      ∙ ap (λ p. take (arcs_to (take n k.arcs) arc.1 + 1)
      (drop (arcs_before k.arcs arc.1) (set froms p arc.0))) (placed.at arc.1 job)
      ∙ part_more froms (arcs_before k.arcs arc.1) (arcs_to (take n k.arcs) arc.1) arc.0
      (omega (arith, room, placed.at arc.1 job))

  -- those of other jobs are as they were
  other_part : (j : ℕ) → j ≢ arc.1 → part (set froms place arc.0) (n + 1) j ≡ part froms n j
  other_part j differ =
      ap (λ m. take m (drop (arcs_before k.arcs j) (set froms place arc.0)))
      (to_more j
      ∙ ap (λ b. arcs_to (take n k.arcs) j + as_one b) (ne_eqb arc.1 j (λ e. differ (sym e)))
      ∙ plus_zero (arcs_to (take n k.arcs) j))
      ∙ part_same froms (arcs_before k.arcs j) (arcs_to (take n k.arcs) j) place arc.0
      (⊎_elim
      (λ before. inr (omega (
        arith,
        before_up k.arcs j arc.1 before,
        to_within j,
        to_more j,
        placed.at arc.1 job,
      )))
      (λ behind. inl (omega (
        arith,
        before_up k.arcs arc.1 j (omega (arith, behind, differ)),
        to_within arc.1,
        to_more arc.1,
        ap {B = ℕ} as_one (own_one arc.1 refl),
        placed.at arc.1 job,
      )))
      (cases_lt j arc.1))
    where
      plus_zero : (m : ℕ) → m + 0 ≡ m
      plus_zero m = omega arith

  -- so that each list has the jobs of its arcs so far
  each_more : (j i : ℕ) → IsJob k j → (j ≡ arc.1) ⊎ (j ≢ arc.1)
      → count_by (λ b. b == i) (part (set froms place arc.0) (n + 1) j)
      ≡ arcs_between k.arcs (n + 1) j i
  each_more j i its (inl same) =
      ap (λ x. count_by (λ b. b == i) (part (set froms place arc.0) (n + 1) x)) same
      ∙ ap (count_by (λ b. b == i)) own_part
      ∙ sum_by_push (λ b. as_one (b == i)) (part froms n arc.1) arc.0
      ∙ ap (λ m. m + as_one (arc.0 == i)) (placed.each arc.1 i job)
      ∙ ap (λ b. arcs_between k.arcs n arc.1 i + as_one (b && (arc.0 == i)))
      (sym (own_one arc.1 refl))
      ∙ sym (between_more arc.1 i)
      ∙ ap (λ x. arcs_between k.arcs (n + 1) x i) (sym same)
  each_more j i its (inr differ) =
      omega (
        arith,
        ap (count_by (λ b. b == i)) (other_part j differ),
        placed.each j i its,
        between_more j i,
        ap {B = ℕ} (λ b. as_one (b && (arc.0 == i))) (ne_eqb arc.1 j (λ e. differ (sym e))),
      )

  -- with it in place
  placed_more : ArePlaced k (n + 1) (set ends (arc.1 - 1) (place + 1)) (set froms place arc.0)
  placed_more = record {
    jobs = length-set ends (arc.1 - 1) (place + 1) ∙ placed.jobs;
    count = length-set froms place arc.0 ∙ placed.count;
    known = All-set (IsJob k) froms place arc.0 from placed.known;
    at = λ j its. at_more j its (cases_eq j arc.1);
    each = λ j i its. each_more j i its (cases_eq j arc.1);
  }

-- the place is one of the list of all arcs; with the arc there one more is placed
pub record IsNext (k : SchedulingTask) (n : ℕ) (ends froms : List ℕ) (from at place : ℕ)
    : Type 0 where
  pub room : place < length froms
  pub next : ArePlaced k (n + 1) (set ends at (place + 1)) (set froms place from)

-- so it is where the list of the arc's job ends so far
pub next_place : (k : SchedulingTask) → IsSound k → (n : ℕ) (ends froms : List ℕ)
    → ArePlaced k n ends froms → (arcs : List (ℕ × ℕ)) → arcs ≡ k.arcs → (arc : ℕ × ℕ)
    → n < length arcs → arc ≡ get_or arcs n arc → (at place : ℕ) → at ≡ arc.1 - 1
    → place ≡ get_or ends at place → IsNext k n ends froms arc.0 at place
next_place k sound n ends froms placed arcs same arc lt is at place named found =
    let its = arc_in_task k sound arcs same n arc lt is in
    let within : n < length k.arcs = omega (arith, lt, ap length same) in
    let own : arc ≡ get_or k.arcs n arc = is ∙ ap (λ xs. get_or xs n arc) same in
    let here : place ≡ of_job ends arc.1 =
    read k ends arc.1 at place placed.jobs its.1 named found in
    record {
      room = omega (arith, here, room k n ends froms arc placed within own its.0 its.1);
      next = rw (named, here) (placed_more k n ends froms arc placed within own its.0 its.1);
    }

-- after the last arc
module _ (k : SchedulingTask) (sound : IsSound k) (ends froms : List ℕ)
    (placed : ArePlaced k (length k.arcs) ends froms) where
  -- all arcs are placed
  all_to : (j : ℕ) → arcs_to (take (length k.arcs) k.arcs) j ≡ arcs_to k.arcs j
  all_to j = ap (λ arcs. arcs_to arcs j) (take-length k.arcs)

  -- a list ends where that of the next job would begin
  end_at : (j : ℕ) → IsJob k j → of_job ends j ≡ arcs_before k.arcs (j + 1)
  end_at j job = omega (arith, placed.at j job, all_to j, before_next k.arcs j)

  -- and begins behind the arcs into the jobs before it
  begin_at : (j : ℕ) → IsJob k j → (j ≡ 1) ⊎ (j ≢ 1) → begin_of ends j ≡ arcs_before k.arcs j
  begin_at j job (inl first) =
      ap (λ b. cond b 0 (of_job ends (j - 1))) (eq-eqb j 1 first)
      ∙ sym (before_first k sound) ∙ ap (arcs_before k.arcs) (sym first)
  begin_at j job (inr later) =
      let back : j - 1 + 1 ≡ j = omega (arith, job.0) in
      ap (λ b. cond b 0 (of_job ends (j - 1))) (ne_eqb j 1 later)
      ∙ end_at (j - 1) (omega (arith, job.0, later), omega (arith, job.1))
      ∙ ap (arcs_before k.arcs) back

  -- so that it is the part that was filled
  list_at : (j : ℕ) → IsJob k j
      → list_of ends froms j
      ≡ take (arcs_to (take (length k.arcs) k.arcs) j) (drop (arcs_before k.arcs j) froms)
  list_at j job =
      ap (λ b. slice_range froms b (of_job ends j)) (begin_at j job (cases_eq j 1))
      ∙ ap (λ m. take m (drop (arcs_before k.arcs j) froms)) (omega (arith, placed.at j job))

  -- which has the jobs that its arcs come from
  pub found_all : AreFound k ends froms
  found_all = record {
    jobs = placed.jobs;
    in_order = λ j job. omega (arith, begin_at j job (cases_eq j 1), placed.at j job);
    within = λ j job.
        omega (arith, placed.at j job, all_to j, before_within k.arcs j, placed.count);
    known = placed.known;
    each = λ j i job. ap (count_by (λ b. b == i)) (list_at j job) ∙ placed.each j i job;
  }

-- ---- how many lead from one job to another

-- among all arcs
pub between_all : (arcs : List (ℕ × ℕ)) (j i : ℕ) → arcs_between arcs (length arcs) j i
    ≡ count_by (λ arc. (arc.1 == j) && (arc.0 == i)) arcs
between_all arcs j i = ap (count_by (λ arc. (arc.1 == j) && (arc.0 == i))) (take-length arcs)
