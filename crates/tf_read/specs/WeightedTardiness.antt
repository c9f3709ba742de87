-- Weighted tardiness texts, after OR-Library's: the k-th instance of n jobs that a text holds, or
-- its first fault.
use Rattle.std.specs.Prelude.{ℕ, ◌+◌, ◌-◌, ◌*◌, ◌%◌, List, [], length, map, take, drop, Option, Some, None, Result, Ok, Err, ℤ, nat_lt, nat_le, ◌==◌, if◌then◌else◌}
use Rattle.std.specs.List.{range_with_len}
use Rattle.tf_words.specs.Number.{number}
use Rattle.tf_words.specs.Words.{Word, placed_words}
use Rattle.tf_model.specs.JobFields.{JobFields}
use Rattle.tf_model.specs.InstanceData.{InstanceData}
use Rattle.tf_model.specs.declared.job.Times.TheVariants.{One}
use Rattle.tf_model.specs.Limit.{most_bytes, most_jobs}
use Rattle.tf_words.specs.declared.number.Number.{Number}
use Rattle.tf_read.specs.declared.fault.ReadFault.{ReadFault}
use Rattle.tf_read.specs.declared.fault.ReadFault.TheVariants.{TooLong, EndsEarly, NoInstance, NoJobs, TooManyJobs}
use Rattle.tf_model.specs.Outcome.{◌>>=◌, unless}
use Rattle.tf_read.specs.Faults.{each_from, natural, integer, number_at}

-- Of each 3n words the first 2n are times and weights, and the last n are due dates, which may be
-- negative. Words count from 0 here.
abbrev pub tardiness_number_read : ℕ → ℕ → ℕ → Number → Result ℤ ReadFault
tardiness_number_read n i line read =
    if nat_lt (i % (3 * n)) (2 * n) then natural line read else integer line read

abbrev pub tardiness_number : ℕ → ℕ → Word → Result ℤ ReadFault
tardiness_number n i word = tardiness_number_read n i word.line (number word.bytes)

-- job j, from 0, where the n weights stand behind the n times, and the n due dates behind these
abbrev pub tardiness_job : ℕ → List ℤ → ℕ → JobFields
tardiness_job n numbers j =
    record {
      times = One (number_at numbers j);
      weight = Some (number_at numbers (n + j));
      due = Some (number_at numbers (2 * n + j));
      release = None;
      cost = None;
    }

abbrev pub tardiness_jobs : ℕ → List ℤ → List JobFields
tardiness_jobs n numbers = map (tardiness_job n numbers) (range_with_len 0 n)

-- instance k, of which these are the numbers up to its last
abbrev pub tardiness_of : ℕ → ℕ → List ℤ → Result InstanceData ReadFault
tardiness_of n k numbers =
    if nat_le (length numbers) (3 * n * (k - 1)) then Err NoInstance
    else if nat_lt (length numbers) (3 * n * k) then Err EndsEarly
    else Ok (record {
      jobs = tardiness_jobs n (drop (3 * n * (k - 1)) numbers);
      arcs = [];
      machines = None;
    })

-- the words up to the last one of instance k are read, as far as there are some
unfoldable pub instance_of : ℕ → ℕ → List Word → Result InstanceData ReadFault
instance_of n k words =
    each_from (tardiness_number n) 0 (take (3 * n * k) words)
    >>= λ numbers. tardiness_of n k numbers

-- why no text has instance k of n jobs
abbrev pub request_fault : ℕ → ℕ → Option ReadFault
request_fault n k =
    if n == 0 then Some NoJobs
    else if nat_lt most_jobs n then Some TooManyJobs
    else if k == 0 then Some NoInstance
    else None

unfoldable pub weighted_tardiness : ℕ → ℕ → List ℕ → Result InstanceData ReadFault
weighted_tardiness n k text =
    if nat_lt most_bytes (length text) then Err TooLong
    else unless (request_fault n k) (instance_of n k (placed_words text))
