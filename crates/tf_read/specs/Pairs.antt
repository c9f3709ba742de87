-- The times of a flow shop among the words of a text.
use Rattle.std.specs.Prelude.{◌≡◌, ℕ, ◌+◌, ◌*◌, ◌<◌, Bool, true, false, ◌==◌, nat_lt, List, [], ◌∷◌, ◌++◌, length, take, map, Option, Some, None, Result, Ok, Err, ℤ, if◌then◌else◌}
use Rattle.std.specs.List.{range_with_len}
use Rattle.std.specs.Option.{option_or}
use Rattle.tf_words.specs.Words.{Word}
use Rattle.tf_model.specs.JobFields.{JobFields}
use Rattle.tf_model.specs.InstanceData.{is_negative, is_beyond}
use Rattle.tf_read.specs.declared.fault.ReadFault.{ReadFault}
use Rattle.tf_read.specs.declared.fault.ReadFault.TheVariants.{EndsEarly}
use Rattle.tf_read.specs.Faults.{each_from, number_at}
use Rattle.tf_read.specs.Said.{Says}
use Rattle.tf_read.specs.FlowShop.{time_place, first_kept, second_kept, job_with, shop_number, pairs_of}

-- how far the reading of so many jobs on so many machines is, of which the times on this pair are
-- kept
pub record Pairs : Type 0 where
  pub jobs : ℕ
  pub machines : ℕ
  pub pair : Option (ℕ × ℕ)
  pub job : ℕ  -- the jobs that are over
  pub machine : ℕ  -- the next machine of the next job
  pub is_named : Bool  -- the machine was named, so its time follows
  pub firsts : List ℤ
  pub seconds : List ℤ
  pub fault : Option ReadFault

-- the machines whose times are kept
abbrev pub first : Pairs → ℕ
first p = first_kept p.pair

abbrev pub second : Pairs → ℕ
second p = second_kept p.machines p.pair

-- the words that were read, and those that are wanted
abbrev pub count : Pairs → ℕ
count p = 2 * (p.job * p.machines + p.machine) + (if p.is_named then 1 else 0)

abbrev pub shop_wanted : Pairs → ℕ
shop_wanted p = 2 * p.jobs * p.machines

-- of these numbers the times on a machine were kept, of each job that has come so far
pub record AreKept (p : Pairs) (machine : ℕ) (times all : List ℤ) : Type 0 where
  pub there : machine < p.machines
  pub tally : length times ≡ p.job + (if nat_lt machine p.machine then 1 else 0)
  pub each : (j : ℕ) → j < length times → (time_place p.machines machine j < length all)
      × (number_at times j ≡ number_at all (time_place p.machines machine j))

-- the jobs of the times that were kept
abbrev pub kept_job : ℕ → List ℤ → List ℤ → ℕ → JobFields
kept_job machines firsts seconds j = job_with machines (number_at firsts j) (number_at seconds j)

abbrev pub kept_jobs : ℕ → ℕ → List ℤ → List ℤ → List JobFields
kept_jobs jobs machines firsts seconds =
    map (kept_job machines firsts seconds) (range_with_len 0 jobs)

abbrev pub HoldsShop : Option ReadFault → Pairs → Result (List ℤ) ReadFault → Type 0
HoldsShop None p read = (all : List ℤ) × (read ≡ Ok all) × (count p ≡ length all)
    × AreKept p (first p) p.firsts all × AreKept p (second p) p.seconds all
HoldsShop (Some fault) p read = read ≡ Err fault

-- these are the words that were read
abbrev pub HasReadShop : Pairs → List Word → Type 0
HasReadShop p seen =
    HoldsShop p.fault p (each_from (shop_number p.machines) 0 (take (shop_wanted p) seen))

-- with the name of a machine more, as it was read
abbrev pub after_name : Pairs → Result ℤ ReadFault → Pairs
after_name p (Ok z) = record p { is_named = true }
after_name p (Err e) = record p { fault = Some e }

-- the times on a machine, with one more if it is that of this one
abbrev pub with_time : ℕ → ℕ → List ℤ → ℤ → List ℤ
with_time wanted machine times z = if machine == wanted then times ++ z ∷ [] else times

abbrev pub is_last : Pairs → Bool
is_last p = p.machine + 1 == p.machines

-- with a time more, as it was read
abbrev pub after_time : Pairs → Result ℤ ReadFault → Pairs
after_time p (Err e) = record p { fault = Some e }
after_time p (Ok z) = record p {
  job = if is_last p then p.job + 1 else p.job;
  machine = if is_last p then 0 else p.machine + 1;
  is_named = false;
  firsts = with_time (first p) p.machine p.firsts z;
  seconds = with_time (second p) p.machine p.seconds z;
}

-- the fault that was met, or what is missing at the end
abbrev pub shop_missing : Pairs → Option ReadFault
shop_missing p = option_or p.fault (if nat_lt p.job p.jobs then Some EndsEarly else None)

-- these are the words that were read, where it is wanted what they say of these jobs
abbrev pub ReadsShop : Pairs → Says → List Word → Type 0
ReadsShop p says seen = ((words : List Word) → says words ≡ pairs_of p.jobs p.machines p.pair words)
    × HasReadShop p seen

-- no time is negative or beyond the limit
abbrev pub IsTime : ℤ → Type 0
IsTime z = (is_negative z ≡ false) × (is_beyond z ≡ false)

pub record AreTimes (times : List ℤ) : Type 0 where
  pub each : (j : ℕ) → IsTime (number_at times j)
