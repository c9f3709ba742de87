-- Where the words of an instance of a weighted tardiness file stand.
use Rattle.std.specs.Prelude.{◌≡◌, ℕ, ◌-◌, ◌*◌, List, take, drop, None, Ok, false}
use Rattle.std.specs.Str.{bytes_eq}
use Rattle.tf_words.specs.Words.{words}
use Rattle.tf_model.specs.InstanceData.{InstanceData}
use Rattle.tf_read.specs.WeightedTardiness.{weighted_tardiness}
use Rattle.tf_asked.specs.declared.series.FileForm.{FileForm}
use Rattle.tf_asked.specs.declared.series.FileForm.TheVariants.{Wt, Flow}
use Rattle.tf_asked.specs.declared.series.Told.{Told}
use Rattle.tf_asked.specs.declared.series.Told.TheVariants.{Answers}
use Rattle.tf_held.specs.Series.{bound_of}

-- the text has the instance of this number
abbrev pub HasInstance : FileForm → List ℕ → ℕ → Type 0
HasInstance (Wt jobs) text number =
    (instance : InstanceData) × (weighted_tardiness jobs number text ≡ Ok instance)
HasInstance (Flow pair) text number = Unit {0}

-- the words behind so many instances of so many jobs
abbrev pub words_behind : ℕ → List ℕ → ℕ → List (List ℕ)
words_behind jobs text number = drop (3 * jobs * number) (words text)

-- the text has the instance of this number, and `ahead` has the words behind it
abbrev pub IsBehind : FileForm → List ℕ → ℕ → List ℕ → Type 0
IsBehind (Wt jobs) text number ahead =
    HasInstance (Wt jobs) text number × (words ahead ≡ words_behind jobs text number)
IsBehind (Flow pair) text number ahead = ⊥

-- the text has the instance before that of this number, `own` has the words of the latter, and
-- `ahead` those behind it
abbrev pub AreParts : FileForm → List ℕ → ℕ → List ℕ → List ℕ → Type 0
AreParts (Wt jobs) text number own ahead =
    HasInstance (Wt jobs) text (number - 1)
    × (words own ≡ take (3 * jobs) (words_behind jobs text (number - 1)))
    × (words ahead ≡ drop (3 * jobs) (words_behind jobs text (number - 1)))
AreParts (Flow pair) text number own ahead = ⊥

-- there is no text of bounds, and that of the answers has another name than the file
abbrev pub IsAnsweredApart : List ℕ → Told → Type 0
IsAnsweredApart input (Answers answer aids) = bytes_eq answer.now input ≡ false
IsAnsweredApart input _ = Unit {0}

abbrev pub IsNamedApart : List ℕ → Told → Type 0
IsNamedApart input told = (bound_of told ≡ None) × IsAnsweredApart input told
