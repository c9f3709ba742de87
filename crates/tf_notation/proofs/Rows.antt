-- The definitions at worked examples.
use Rattle.std.proofs.Common.{◌≡◌, [], Some, Ok, Err, true, refl, codes}
use Rattle.tf_words.specs.Number.{plain}
use Rattle.tf_model.specs.declared.problem.Env.TheVariants.{Single, Parallel}
use Rattle.tf_model.specs.declared.problem.Goal.TheVariants.{Cmax, Lmax, SumWC}
use Rattle.tf_model.specs.ClassTable.{plain_problem}
use Rattle.tf_notation.specs.Tokens.{tokens_from}
use Rattle.tf_notation.specs.Reading.{notation, expect, listed, conditions_at}
use Rattle.tf_notation.specs.Canonical.{canonical}

spaced : notation (codes "1 | pmtn , r_j | L_max")
    ≡ Ok (record (plain_problem Single Lmax) { release = true; prmp = true })
unfolding notation expect listed conditions_at tokens_from plain
spaced = refl

unknown : notation (codes "1||sumX") ≡ Err 3
unfolding notation expect listed conditions_at tokens_from plain
unknown = refl

short : notation (codes "1||") ≡ Err 3
unfolding notation expect listed conditions_at tokens_from plain
short = refl

twice : notation (codes "1|rj,r_j|Lmax") ≡ Err 5
unfolding notation expect listed conditions_at tokens_from plain
twice = refl

more : notation (codes "P2|prmp|Cmax x") ≡ Err 13
unfolding notation expect listed conditions_at tokens_from plain
more = refl

zero_first : notation (codes "P01||sumC") ≡ Err 0
unfolding notation expect listed conditions_at tokens_from plain
zero_first = refl

above : notation (codes "P1001||sumC") ≡ Err 0
unfolding notation expect listed conditions_at tokens_from plain
above = refl

eighth : notation (codes "1|rj,prec,prmp,prmu,nwt,block,rcrc,|Cmax") ≡ Err 35
unfolding notation expect listed conditions_at tokens_from plain
eighth = refl

blanks_count : notation (codes "1||  ") ≡ Err 5
unfolding notation expect listed conditions_at tokens_from plain
blanks_count = refl

empty : notation [] ≡ Err 0
unfolding notation expect listed conditions_at tokens_from plain
empty = refl

case : notation (codes "1||cmax") ≡ Err 3
unfolding notation expect listed conditions_at tokens_from plain
case = refl

letter_m : notation (codes "Pm|pmtn|C_max")
    ≡ Ok (record (plain_problem Parallel Cmax) { prmp = true })
unfolding notation expect listed conditions_at tokens_from plain
letter_m = refl

counted : notation (codes "P1000|prmp|Cmax")
    ≡ Ok (record (plain_problem Parallel Cmax) { count = Some 1000; prmp = true })
unfolding notation expect listed conditions_at tokens_from plain
counted = refl

any_order : notation (codes "1|nwt,rj|sumwjCj")
    ≡ Ok (record (plain_problem Single SumWC) { release = true; nwt = true })
unfolding notation expect listed conditions_at tokens_from plain
any_order = refl

-- the canonical text
written : canonical
    (record (plain_problem Single SumWC) { release = true; nwt = true }) ≡ codes "1|rj,nwt|sumwC"
unfolding canonical
written = refl

written_letter : canonical
    (record (plain_problem Parallel Cmax) { prmp = true }) ≡ codes "P|prmp|Cmax"
unfolding canonical
written_letter = refl

single_uncounted : canonical
    (record (plain_problem Single Cmax) { count = Some 2 }) ≡ codes "1||Cmax"
unfolding canonical
single_uncounted = refl
