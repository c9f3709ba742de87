-- The times that a heap holds, in a list that rises.
use Rattle.std.specs.Prelude.{ℕ, List, [], ◌∷◌, map, sum}
use Rattle.std.specs.Ordering.{nat_cmp}
use Rattle.std.specs.declared.cmp.Ordering.{Ordering}
use Rattle.std.specs.declared.cmp.Reverse.{Reverse}
use Rattle.tf_problem.specs.Kept.{put}
use Rattle.tf_problem.specs.Shortest.{completions}

abbrev pub in_order : List ℕ → List ℕ
in_order [] = []
in_order (x ∷ xs) = put x (in_order xs)

-- the shortest time is taken first
abbrev pub by_shortest : Reverse ℕ → Reverse ℕ → Ordering
by_shortest x y = nat_cmp y.0 x.0

abbrev pub rising_times : List (Reverse ℕ) → List ℕ
rising_times xs = in_order (map (λ x. x.0) xs)

-- the completions of times that rise, one after another from now on
abbrev pub all_completions : ℕ → List ℕ → ℕ
all_completions now times = completions now (sum times) times

-- the greatest number of 64 bits
abbrev pub most_total : ℕ
most_total = 18446744073709551615
