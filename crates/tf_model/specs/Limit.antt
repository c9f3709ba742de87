-- The limits within which problems are solved.
use Rattle.std.specs.Prelude.{ℕ}
-- The greatest absolute value of a number, and the greatest horizon and total.
pub use Rattle.tf_words.specs.Limit.{limit}

-- the most jobs of an instance
abbrev pub most_jobs : ℕ
most_jobs = 100000

-- the most jobs where each has a cost function of its own
abbrev pub most_costed_jobs : ℕ
most_costed_jobs = 2000

-- the most machines of an instance
abbrev pub most_machines : ℕ
most_machines = 1000

-- the most arcs of an instance
abbrev pub most_arcs : ℕ
most_arcs = 200000

-- the most bytes of a text
abbrev pub most_bytes : ℕ
most_bytes = 67108864
