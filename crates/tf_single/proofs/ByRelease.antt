-- Jobs in the order of numbers that begin with their release dates.
use Rattle.std.proofs.Common.{◌≡◌, ℕ, suc, ◌+◌, ◌*◌, ◌<◌, List, [], ◌∷◌, ◌++◌, map, length, get_or, sym, ap, ◌∙◌, arith}
use Rattle.std.specs.List.{All, range_with_len}
use Rattle.std.specs.List.Sorted.{IsSorted}
use Rattle.std.specs.Ordering.{nat_cmp, is_lt}
use Rattle.std.proofs.lemmas.Cmp.{nat_cmp_total}
use Rattle.std.proofs.lemmas.List.{get_or-map, length-map, map_push}
use Rattle.std.proofs.lemmas.List.Sorted.{ranks_by, sorted_far}
use Rattle.tf_model.specs.SchedulingTask.{SchedulingTask, job_data}
use Rattle.tf_model.proofs.Ranges.{range_push}
use Rattle.tf_check.specs.RatioRank.{job_in}
use Rattle.tf_check.proofs.KeyedJob.{not_less}
use Rattle.tf_single.specs.Agenda.{AreByRelease, IsReleaseRank}

-- a number that is made of a date and a job has both
pub release_rank : (k : SchedulingTask) (date job r : ℕ) → 0 < job → job < 4294967296
    → date ≡ (job_data k job).release → r ≡ date * 4294967296 + job
    → (job_in r ≡ job) × IsReleaseRank k r
release_rank k date job r some few date_is made =
    let number : job_in r ≡ job = omega (arith, made) in (
      number,
      record {
        job = omega (arith, number);
        release = omega (arith, made) ∙ date_is ∙ ap (λ n. (job_data k n).release) (sym number);
      },
    )

-- one more number, of the next job
pub jobs_more : (rs : List ℕ) (n job r : ℕ) → map job_in rs ≡ range_with_len 1 n → job_in r ≡ job
    → job ≡ n + 1 → map job_in (rs ++ r ∷ []) ≡ range_with_len 1 (n + 1)
jobs_more rs n job r is number at =
    let place : job_in r ≡ 1 + n = omega (arith, number, at) in
    let next : suc n ≡ n + 1 = omega arith in
    map_push job_in rs r ∙ ap (λ js. js ++ job_in r ∷ []) is
    ∙ ap (λ j. range_with_len 1 n ++ j ∷ []) place ∙ sym (range_push 1 n)
    ∙ ap (range_with_len 1) next

-- rising numbers are of jobs in order
pub jobs_in_order : (k : SchedulingTask) (rs : List ℕ) → All (IsReleaseRank k) rs
    → IsSorted nat_cmp rs → AreByRelease k (map job_in rs)
jobs_in_order k rs ranks rising i j d le h =
    let in' : j < length rs = omega (arith, length-map rs job_in) in
    omega (
      arith,
      ap (λ n. (job_data k n).release) (get_or-map job_in rs i 0 d (omega arith)),
      ap (λ n. (job_data k n).release) (get_or-map job_in rs j 0 d in'),
      (ranks i 0 (omega arith)).release,
      (ranks j 0 in').release,
      not_less (get_or rs i 0) (get_or rs j 0)
          (sorted_far (λ x y. is_lt (nat_cmp x y)) (ranks_by nat_cmp_total (λ (n : ℕ). n)) rs rising i j
          0 le in'),
    )
