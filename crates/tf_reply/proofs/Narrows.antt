-- Room for units of 16 bytes is room for any type of no more bytes: seen as an array of the integer that is as wide as the
-- type's alignment, and cut where the type ends. Assumes `Logic`.
use Rattle.std.proofs.Common.{◌≡◌, ℕ, ◌+◌, ◌-◌, ◌*◌, ◌/◌, ◌%◌, ◌^◌, ◌<◌, ◌≤◌, sym, subst, arith}
use seplogic.Ra.Ura.{Ura}
use mir.Syntax.{Ty, Width, w8, w16, w32, w64, w128, ty_int, ty_array}
use mir.Val.{bytes}
use base.Logic.{ent, sep, wand, via, fst∗}
use prog.Memory.{size, align, capped}
use prog.Capped.{capped_is, capped_small}
use prog.Align.{Dv, dv→, dv_self, align_w, align-bytes, align_size}
use types.Logic.{Logic}
use denote.RawPtr.Room.{room_cut, past}

-- how many integers of that width k units are, and how many of them s bytes are
abbrev whole : Width → ℕ → ℕ
whole w k = k * 16 / bytes w

abbrev part : Width → ℕ → ℕ
part w s = s / bytes w

whole_is : (w : Width) (k : ℕ) → whole w k * bytes w ≡ k * 16
whole_is w8 k = omega arith
whole_is w16 k = omega arith
whole_is w32 k = omega arith
whole_is w64 k = omega arith
whole_is w128 k = omega arith

part_is : (w : Width) (s : ℕ) → s % bytes w ≡ 0 → part w s * bytes w ≡ s
part_is w8 s even = omega arith
part_is w16 s even = omega arith
part_is w32 s even = omega arith
part_is w64 s even = omega arith
part_is w128 s even = omega arith

part_fits : (w : Width) (s k : ℕ) → s ≤ k * 16 → part w s + (whole w k - part w s) ≡ whole w k
part_fits w8 s k few = omega arith
part_fits w16 s k few = omega arith
part_fits w32 s k few = omega arith
part_fits w64 s k few = omega arith
part_fits w128 s k few = omega arith

divides_unit : (w : Width) → Dv (bytes w) 16
divides_unit w8 = tt
divides_unit w16 = tt
divides_unit w32 = tt
divides_unit w64 = tt
divides_unit w128 = tt

module _ {M : Type 1} {𝓤 : Ura M} (𝓛 : Logic 𝓤) (b o : ℕ) where
  open 𝓛 use {H}

  -- the same room, as another type's
  as_type : (σ τ : Ty) → size τ ≡ size σ → Dv (align τ) (align σ) → ent 𝓤 (H.room σ b o) (H.room τ b o)
  as_type σ τ same aligned =
      let Back = wand 𝓤 (H.room τ b o) (H.room σ b o) in
      via 𝓤 (sep 𝓤 (H.room τ b o) Back) (𝓛.laws.room_as σ τ b o same aligned) (fst∗ 𝓤 (H.room τ b o) Back)

  first_part : (τ : Ty) (m n : ℕ) → ent 𝓤 (H.room (ty_array τ (m + n)) b o) (H.room (ty_array τ m) b o)
  first_part τ m n =
      let First = H.room (ty_array τ m) b o in
      let Rest = H.room (ty_array τ n) b (past τ m o) in
      via 𝓤 (sep 𝓤 First Rest) (room_cut 𝓛 τ m n b o) (fst∗ 𝓤 First Rest)

  narrows : (τ : Ty) (k : ℕ) → size τ ≤ k * 16 → ent 𝓤 (H.room (ty_array (ty_int w128) k) b o) (H.room τ b o)
  narrows τ k few =
      let w = align_w τ in
      let m = part w (size τ) in
      let even : size τ % bytes w ≡ 0 =
      subst (λ (a : ℕ). size τ % a ≡ 0) (align-bytes τ) (dv→ (align τ) (size τ) (align_size τ)) in
      let integers = λ (n : ℕ). ty_array (ty_int w) n in
      via 𝓤 (H.room (integers (whole w k)) b o)
      (as_type (ty_array (ty_int w128) k) (integers (whole w k)) (whole_is w k) (divides_unit w))
      (via 𝓤 (H.room (integers m) b o)
      (subst (λ (n : ℕ). ent 𝓤 (H.room (integers n) b o) (H.room (integers m) b o)) (part_fits w (size τ) k few)
      (first_part (ty_int w) m (whole w k - m)))
      (as_type (integers m) τ (sym (part_is w (size τ) even))
      (subst (λ (a : ℕ). Dv a (bytes w)) (sym (align-bytes τ)) (dv_self (bytes w)))))

  -- the same, of a type whose size a word tells
  pub fits : (τ : Ty) (n k : ℕ) → capped (size τ) ≡ n → n ≤ k * 16 → k < 2 ^ 59
      → ent 𝓤 (H.room (ty_array (ty_int w128) k) b o) (H.room τ b o)
  fits τ n k told few short =
      let small : size τ < 2 ^ 63 = capped_small (size τ) (omega arith) in
      let same : capped (size τ) ≡ size τ = capped_is (size τ) (omega arith) in
      narrows τ k (omega arith)
