-- Words and places of a shop's times in a text.
use Rattle.std.proofs.Common.{◌≡◌, ℕ, ◌+◌, ◌*◌, ◌<◌, ◌≤◌, List, [], ◌∷◌, length, map, get_or, drop, ◌++◌, Bool, refl, sym, ap, ◌∙◌, arith}
use Rattle.std.specs.List.{range_with_len}
use Rattle.std.proofs.Math.Nat.{mul-le-mul_right}
use Rattle.std.proofs.lemmas.List.{drop-drop, get_or-drop}
use Rattle.std.proofs.lemmas.List.FromFn.{map-range_with_len_more}
use Rattle.tf_words.specs.Digits.{numeral}
use Rattle.tf_words.specs.Number.{number}
use Rattle.tf_words.specs.Words.{words, lines}
use Rattle.tf_words.proofs.Lines.{line_none}
use Rattle.tf_bounding.specs.ShopWords.{behind, on_machine, paired_times, time_at, time_of}

-- nothing writes no time
pub no_time : time_of (number []) ≡ 0
unfolding number numeral
no_time = refl

pub no_words : words [] ≡ []
unfolding words
no_words = refl

-- of job j on machine i there is a place
pub place_within : (jobs machines j i : ℕ) → j < jobs → i < machines → j * machines + i < jobs * machines
place_within jobs machines j i in_jobs in_machines =
    let more : (j + 1) * machines ≤ jobs * machines = mul-le-mul_right machines (omega arith) in
    let next : (j + 1) * machines ≡ j * machines + machines = omega arith in
    omega (arith, more, next)

-- behind no line there is none
pub none_behind : (test : List (List ℕ) → Bool) (text : List ℕ) → length text ≡ 0
    → lines text ≡ behind test (lines text)
none_behind test text none = line_none text none ∙ ap (behind test) (sym (line_none text none))

-- one job more
pub one_more : (times : List ℕ) (jobs machines i : ℕ)
    → on_machine times (jobs + 1) machines i
    ≡ on_machine times jobs machines i ++ get_or times (jobs * machines + i) 0 ∷ []
one_more times jobs machines i =
    map-range_with_len_more (λ j. get_or times (j * machines + i) 0) 0 jobs jobs
    (omega arith)

-- the words behind so many pairs
pub behind_pairs : (ws rest more : List (List ℕ)) (count : ℕ) → rest ≡ drop (2 * count) ws
    → more ≡ drop 2 rest → more ≡ drop (2 * (count + 1)) ws
behind_pairs ws rest more count is next =
    let places : 2 * count + 2 ≡ 2 * (count + 1) = omega arith in
    next ∙ ap (drop 2) is ∙ drop-drop 2 (2 * count) ws ∙ ap (λ n. drop n ws) places

-- the second word behind so many pairs
pub second_behind : (ws rest : List (List ℕ)) (count : ℕ) → rest ≡ drop (2 * count) ws
    → time_at rest 1 ≡ time_at ws (2 * count + 1)
second_behind ws rest count is =
    ap (λ us. time_at us 1) is ∙ ap (λ w. time_of (number w)) (get_or-drop (2 * count) ws 1 [])

-- one pair of words more
pub pair_more : (ws : List (List ℕ)) (count : ℕ)
    → paired_times ws (count + 1) ≡ paired_times ws count ++ time_at ws (2 * count + 1) ∷ []
pair_more ws count = map-range_with_len_more (λ c. time_at ws (2 * c + 1)) 0 count count
    (omega arith)
