-- Rows behind the numbers of their lines.
use Rattle.std.proofs.Common.{◌≡◌, ℕ, List, [], ◌∷◌, ◌++◌, refl}
use Rattle.tf_words.specs.Words.{KeptLine}
use Rattle.tf_orders.specs.OrderText.{numbered, numbered_row}

pub numbered_next : (all more : List KeptLine) (line : KeptLine) (rows others : List (List ℕ))
    (row : List ℕ) → all ≡ line ∷ more → rows ≡ row ∷ others
    → numbered all rows ≡ numbered_row line.number row ++ numbered more others
unfolding numbered
numbered_next all more line rows others row is rows-is = rw (is, rows-is) refl

pub numbered_none : (all : List KeptLine) (rows : List (List ℕ)) → all ≡ [] → numbered all rows ≡ []
unfolding numbered
numbered_none all rows is = rw is refl

pub numbered_out : (all : List KeptLine) (rows : List (List ℕ)) → rows ≡ [] → numbered all rows ≡ []
unfolding numbered
numbered_out [] rows is = refl
numbered_out (line ∷ more) rows is = rw is refl
