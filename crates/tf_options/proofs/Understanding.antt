-- What the words of a command line ask for.
use Rattle.std.proofs.Common.{◌≡◌, ℕ, Bool, Bor, List, Option, None, Some, sym}
use Rattle.std.specs.Option.{IfSome, option_map}
use Rattle.clap.specs.Words.{App}
use Rattle.tf_options.specs.Understanding.{IsOfWords, IsUnderstood}
use Rattle.tf_options.specs.declared.options.Asked.{Asked}
use Rattle.tf_options.specs.declared.options.Asked.TheVariants as asking

-- what clap's matches ask for is understood, whatever it is
pub of_words : (app : App) (words : List (List ℕ)) (on_terminal : Bool) (asked : Asked)
    → IsOfWords app words on_terminal asked → IsUnderstood app words on_terminal asked
of_words app words on_terminal (asking.Work work) h = h
of_words app words on_terminal (asking.Formatted work format) h = h
of_words app words on_terminal (asking.Series series) h = h
of_words app words on_terminal (asking.Help error) h = tt
of_words app words on_terminal (asking.Misused error) h = tt
of_words app words on_terminal (asking.Unfit message) h = h
of_words app words on_terminal asking.NoMemory h = tt

-- what holds of the value of an option holds of the text that is given for it
pub named_if : (result : Option (Bor (List ℕ))) (value : Option (List ℕ)) (P : List ℕ → Type 0)
    → option_map (λ name. name.now) result ≡ value
    → ((name : List ℕ) → value ≡ Some name → P name) → IfSome result (λ name. P name.now)
named_if None value P is holds = tt
named_if (Some name) value P is holds = holds name.now (sym is)
