-- Counts of arcs by one of their two jobs, and lists that have a number for each job.
use Rattle.std.proofs.Common.{◌≡◌, ◌+◌, ◌-◌, ◌<◌, ◌==◌, ℕ, cond, List, [], length, get_or, set, take, replicate, count_by, sym, ap, ◌∙◌, subst, arith, ⊎_elim}
use Rattle.std.proofs.lemmas.Bool.{eq-eqb, ne_eqb, cases_eq}
use Rattle.std.proofs.lemmas.List.{get_or-set_same, get_or-set_other, get_or_default, get_or-replicate, length-set, length-take, length-replicate}
use Rattle.std.proofs.lemmas.List.Sums.{sum_by_more, count_by-le-length}
use Rattle.std.proofs.Math.Seq.{take-length}
use Rattle.tf_model.specs.SchedulingTask.{SchedulingTask, IsJob}
use Rattle.tf_model.specs.Limit.{most_arcs}
use Rattle.tf_model.specs.Sound.{IsSound}
use Rattle.tf_check.proofs.Followed.{arc_in_task}
use Rattle.tf_single.specs.ArcCounts.{AreCounts}
use Rattle.tf_single.specs.Progress.{of_job}

-- what the list has for a job of the task, read at the job's place
pub read : (k : SchedulingTask) (list : List ℕ) (j place x : ℕ) → length list ≡ length k.jobs
    → IsJob k j → place ≡ j - 1 → x ≡ get_or list place x → x ≡ of_job list j
read k list j place x len job same at =
    at ∙ get_or_default list place x 0 (omega (arith, len, same, job.0, job.1))
    ∙ ap (λ n. get_or list n 0) same

-- an arc more is one more for its job on that side
counted_more : (k : SchedulingTask) (side : ℕ × ℕ → ℕ) (arcs : List (ℕ × ℕ)) (i : ℕ)
    (arc : ℕ × ℕ) (counts : List ℕ) → length counts ≡ length k.jobs → IsJob k (side arc)
    → i < length arcs → arc ≡ get_or arcs i arc
    → ((j : ℕ) → IsJob k j → of_job counts j ≡ count_by (λ a. side a == j) (take i arcs))
    → (n : ℕ) → n ≡ of_job counts (side arc) + 1 → (j : ℕ) → IsJob k j
    → of_job (set counts (side arc - 1) n) j ≡ count_by (λ a. side a == j) (take (i + 1) arcs)
counted_more k side arcs i arc counts len job lt at so_far n is j its =
    let next : count_by (λ a. side a == j) (take (i + 1) arcs)
    ≡ count_by (λ a. side a == j) (take i arcs) + cond (side arc == j) 1 0 =
    sum_by_more (λ a. cond (side a == j) 1 0) arcs i arc lt
    ∙ ap (λ a. count_by (λ b. side b == j) (take i arcs) + cond (side a == j) 1 0) (sym at) in
    ⊎_elim
    (λ same.
    let own : of_job (set counts (side arc - 1) n) j ≡ n =
    ap (of_job (set counts (side arc - 1) n)) same
    ∙ get_or-set_same counts (side arc - 1) n 0 (omega (arith, len, job.0, job.1)) in
    omega (
      arith,
      own,
      is,
      next,
      so_far (side arc) job,
      ap (λ x. count_by (λ a. side a == x) (take i arcs)) same,
      ap {B = ℕ} (λ b. cond b 1 0) (eq-eqb (side arc) j (sym same)),
    ))
    (λ differ.
    let other : of_job (set counts (side arc - 1) n) j ≡ of_job counts j =
    get_or-set_other counts (side arc - 1) (j - 1) n 0
    (λ e. differ (omega (arith, its.0, job.0))) in
    omega (
      arith,
      other,
      next,
      so_far j its,
      ap {B = ℕ} (λ b. cond b 1 0) (ne_eqb (side arc) j (λ e. differ (sym e))),
    ))
    (cases_eq j (side arc))

-- the counts of one arc more, at the place where its job is counted; so many fit in a count
pub record IsCounted (k : SchedulingTask) (side : ℕ × ℕ → ℕ) (arcs : List (ℕ × ℕ)) (i : ℕ)
    (counts : List ℕ) (place x : ℕ) : Type 0 where
  pub few : x < most_arcs
  pub next : AreCounts k side (take (i + 1) arcs) (set counts place (x + 1))

-- the next arc is counted on both sides
module _ (k : SchedulingTask) (sound : IsSound k) (arcs : List (ℕ × ℕ)) (same : arcs ≡ k.arcs)
    (i : ℕ) (arc : ℕ × ℕ) (lt : i < length arcs) (at : arc ≡ get_or arcs i arc) where
  -- where its job on this side is counted
  next_counted : (side : ℕ × ℕ → ℕ) → IsJob k (side arc) → (counts : List ℕ)
      → AreCounts k side (take i arcs) counts → (place x : ℕ) → place ≡ side arc - 1
      → x ≡ get_or counts place x → IsCounted k side arcs i counts place x
  next_counted side job counts are place x named read_at =
      let now : x ≡ of_job counts (side arc) =
      read k counts (side arc) place x are.len job named read_at in
      record {
        few = omega (
          arith,
          now,
          are.each (side arc) job,
          count_by-le-length (λ a. side a == side arc) (take i arcs),
          length-take i arcs,
          lt,
          ap length same,
          sound.few_arcs,
        );
        next = record {
          len = length-set counts place (x + 1) ∙ are.len;
          each = λ j its. ap (λ m. of_job (set counts m (x + 1)) j) named
              ∙ counted_more k side arcs i arc counts are.len job lt at are.each (x + 1)
              (ap (λ y. y + 1) now) j its;
        };
      }

  pub next_from : (counts : List ℕ) → AreCounts k (λ a. a.0) (take i arcs) counts
      → (place x : ℕ) → place ≡ arc.0 - 1 → x ≡ get_or counts place x
      → IsCounted k (λ a. a.0) arcs i counts place x
  next_from = next_counted (λ a. a.0) (arc_in_task k sound arcs same i arc lt at).0

  pub next_to : (counts : List ℕ) → AreCounts k (λ a. a.1) (take i arcs) counts
      → (place x : ℕ) → place ≡ arc.1 - 1 → x ≡ get_or counts place x
      → IsCounted k (λ a. a.1) arcs i counts place x
  next_to = next_counted (λ a. a.1) (arc_in_task k sound arcs same i arc lt at).1

-- before the first arc
pub none_counted : (k : SchedulingTask) (side : ℕ × ℕ → ℕ) (n : ℕ) → n ≡ length k.jobs
    → (counts : List ℕ) → counts ≡ replicate n 0 → AreCounts k side [] counts
none_counted k side n is counts zeros =
    subst (AreCounts k side []) (sym zeros)
    (record {
      len = length-replicate n 0 ∙ is;
      each = λ j its. get_or-replicate n (j - 1) 0 0 (omega (arith, is, its.0, its.1));
    })

-- after the last arc
pub all_counted : (k : SchedulingTask) (side : ℕ × ℕ → ℕ) (arcs : List (ℕ × ℕ)) → arcs ≡ k.arcs
    → (n : ℕ) → n ≡ length arcs → (counts : List ℕ) → AreCounts k side (take n arcs) counts
    → AreCounts k side k.arcs counts
all_counted k side arcs same n all counts are =
    subst (λ xs. AreCounts k side xs counts)
    (ap (λ m. take m arcs) all ∙ take-length arcs ∙ same) are
