-- The heading of a flow shop, byte by byte.
use Rattle.std.specs.Prelude.{◌≡◌, ℕ, ◌≤◌, false, List, [], ◌∷◌, ◌++◌, length, take, codes}
use Rattle.tf_words.specs.Words.{words}
use Rattle.tf_read.specs.declared.heading.HeadingWord.{HeadingWord}
use Rattle.tf_read.specs.declared.heading.HeadingWord.TheVariants.{Instance, Name}
use Rattle.tf_read.specs.declared.heading.HeadingLine.{HeadingLine}
use Rattle.tf_read.specs.declared.heading.HeadingLine.TheVariants.{Spelled, Whole, Other}
use Rattle.tf_read.specs.FlowShop.{is_name_line}
use Rattle.tf_read.specs.PresentLine.{IsInLine}

abbrev pub spelling : HeadingWord → List ℕ → List ℕ
spelling Instance name = codes "instance"
spelling Name name = name

abbrev pub words_before : HeadingWord → List (List ℕ)
words_before Instance = []
words_before Name = codes "instance" ∷ []

-- what the bytes with which a line begins have shown of a heading of this name
abbrev pub HeadingShown : List ℕ → List ℕ → HeadingLine → Type 0
HeadingShown name bytes (Spelled word matched) = (matched ≤ length (spelling word name))
    × IsInLine bytes (words_before word) (take matched (spelling word name))
HeadingShown name bytes Whole = IsInLine bytes (codes "instance" ∷ name ∷ []) []
HeadingShown name bytes Other = (more : List ℕ) → is_name_line name (words (bytes ++ more)) ≡ false
