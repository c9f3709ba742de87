-- A vector with room for it takes one element more.
use Rattle.std.proofs.Common.{◌≡◌, cond, Result, IsOk, is_ok}

-- where the push succeeds, what is left behind is that of a success
pub when_ok : {X E Y : Type 0} (r : Result X E) (x y z : Y) → IsOk r → z ≡ cond (is_ok r) x y
    → z ≡ x
when_ok r x y z ok h = rw ok at h
