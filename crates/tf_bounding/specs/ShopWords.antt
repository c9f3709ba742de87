-- The times of a shop among the words of a flow shop file.
use Rattle.std.specs.Prelude.{◌≡◌, ℕ, ◌+◌, ◌*◌, Bool, is_some, List, [], ◌∷◌, length, map, None, Ok, unwrap_or, pos, slice_index, slice_index_or, if◌then◌else◌}
use Rattle.std.specs.List.{range_with_len}
use Rattle.tf_words.specs.Number.{number}
use Rattle.tf_words.specs.Words.{words}
use Rattle.tf_words.specs.declared.number.Number.{Number}
use Rattle.tf_words.specs.declared.number.Number.TheVariants.{Value}
use Rattle.tf_model.specs.InstanceData.{InstanceData}
use Rattle.tf_read.specs.FlowShop.{flow_shop, is_name_line, sizes_in}

-- the instance of this name in a text has so many jobs, on so many machines
abbrev pub HasSizes : List ℕ → List ℕ → ℕ → ℕ → Type 0
HasSizes name text jobs machines =
    (instance : InstanceData) × (flow_shop name None text ≡ Ok instance)
    × (length instance.jobs ≡ jobs) × (unwrap_or instance.machines 0 ≡ machines)

-- the lines behind the first one whose words pass a test, and none where there is no such line
abbrev pub behind : (List (List ℕ) → Bool) → List (List ℕ) → List (List ℕ)
behind test [] = []
behind test (line ∷ below) = if test (words line) then below else behind test below

-- a line of sizes
abbrev pub is_sizes_line : List (List ℕ) → Bool
is_sizes_line ws = is_some (sizes_in ws)

-- the lines behind the sizes of the instance of this name
abbrev pub behind_sizes : List ℕ → List (List ℕ) → List (List ℕ)
behind_sizes name ls = behind is_sizes_line (behind (is_name_line name) ls)

-- a time, 0 where the number is none
abbrev pub time_of : Number → ℕ
time_of (Value (pos n)) = n
time_of _ = 0

-- the time that the word at a place writes, where words count from 0
abbrev pub time_at : List (List ℕ) → ℕ → ℕ
time_at ws i = time_of (number (slice_index_or ws i []))

-- of so many pairs of words the second of each, as times
abbrev pub paired_times : List (List ℕ) → ℕ → List ℕ
paired_times ws count = map (λ c. time_at ws (2 * c + 1)) (range_with_len 0 count)

-- of the times of jobs on so many machines, job by job, those on machine i
abbrev pub on_machine : List ℕ → ℕ → ℕ → ℕ → List ℕ
on_machine times jobs machines i =
    map (λ j. slice_index times (j * machines + i)) (range_with_len 0 jobs)
