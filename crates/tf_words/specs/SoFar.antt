-- What the bytes of a word have shown so far, as a number.
use Rattle.std.specs.Prelude.{ℕ, Bool, true, false, List, [], ◌∷◌, ◌==◌, if◌then◌else◌}
use Rattle.std.specs.List.{list_all}
use Rattle.std.specs.Char.{is_ascii_digit}
use Rattle.std.specs.Str.Parse.{digits_value}
use Rattle.tf_words.specs.Digits.{cut, more_by}
use Rattle.tf_words.specs.declared.so_far.SoFar.{SoFar}
use Rattle.tf_words.specs.declared.so_far.SoFar.TheVariants.{Empty, Minus, Digits, Bad}

abbrev pub with_byte : Bool → ℕ → ℕ → SoFar
with_byte negative size byte =
    if is_ascii_digit byte then Digits negative (cut (more_by size byte)) else Bad

abbrev pub next : SoFar → ℕ → SoFar
next Empty byte = if byte == 45 then Minus else with_byte false 0 byte
next Minus byte = with_byte true 0 byte
next (Digits negative size) byte = with_byte negative size byte
next Bad byte = Bad

abbrev pub behind_sign : Bool → List ℕ → SoFar
behind_sign negative [] = Minus
behind_sign negative (d ∷ ds) =
    if list_all is_ascii_digit (d ∷ ds) then Digits negative (cut (digits_value 10 (d ∷ ds)))
    else Bad

unfoldable pub so_far : List ℕ → SoFar
so_far [] = Empty
so_far (c ∷ cs) = if c == 45 then behind_sign true cs else behind_sign false (c ∷ cs)
