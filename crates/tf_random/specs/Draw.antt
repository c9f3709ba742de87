-- The generator SplitMix64.
use Rattle.std.specs.Prelude.{ℕ, ◌+◌, ◌*◌, ◌/◌, ◌%◌, bit_xor}

abbrev pub product : ℕ → ℕ → ℕ
product a b = a * b % 18446744073709551616

abbrev pub mixed_once : ℕ → ℕ
mixed_once z = product (bit_xor z (z / 1073741824)) 13787848793156543929

abbrev pub mixed_twice : ℕ → ℕ
mixed_twice z = product (bit_xor z (z / 134217728)) 10723151780598845931

abbrev pub mixed_thrice : ℕ → ℕ
mixed_thrice z = bit_xor z (z / 2147483648)

abbrev pub mixed : ℕ → ℕ
mixed z = mixed_thrice (mixed_twice (mixed_once z))

-- number n of a seed, n from 1
unfoldable pub draw : ℕ → ℕ → ℕ
draw seed n =
    mixed ((seed + n * 11400714819323198485 % 18446744073709551616) % 18446744073709551616)

abbrev pub below : ℕ → ℕ → ℕ → ℕ
below seed n most = draw seed n % most
