-- Signed ends as times.
use Rattle.std.proofs.Common.{◌≡◌, ℕ, ◌<◌, ◌≤◌, ℤ, pos, negsuc, ◌≤ℤ◌, ◌<ℤ◌, max, refl, ap, ◌∙◌, arith, inl, inr}
use Rattle.std.proofs.lemmas.Bool.{cases_lt}
use Rattle.std.proofs.lemmas.Int.{ints}
use Rattle.tf_schedule.specs.declared.piece.Piece.{Piece}
use Rattle.tf_schedule.specs.Piece.{as_time}
use Rattle.tf_schedule.specs.Schedule.{IsPiece}

pub time_le : (a b : ℤ) → a ≤ℤ b → as_time a ≤ as_time b
time_le (pos a) (pos b) h = omega (arith, ints)
time_le (pos a) (negsuc b) h = absurd (omega (arith, ints))
time_le (negsuc a) (pos b) h = omega arith
time_le (negsuc a) (negsuc b) h = omega arith

pub time_lt : (a b : ℤ) → pos 0 ≤ℤ a → a <ℤ b → as_time a < as_time b
time_lt (pos a) (pos b) p h = omega (arith, ints)
time_lt (pos a) (negsuc b) p h = absurd (omega (arith, ints))
time_lt (negsuc a) b p h = absurd (omega (arith, ints))

pub time_late : (a b : ℤ) → ¬ (a <ℤ b) → as_time b ≤ as_time a
time_late (pos a) (pos b) h = elim (cases_lt a b) [
  | inl less ↦ absurd (h (omega (arith, ints)))
  | inr le ↦ le
]
time_late (pos a) (negsuc b) h = omega arith
time_late (negsuc a) (pos b) h = absurd (h (omega (arith, ints)))
time_late (negsuc a) (negsuc b) h = omega arith

-- back, to a time that is not negative
pub time_le_back : (a z : ℤ) → pos 0 ≤ℤ z → as_time a ≤ as_time z → a ≤ℤ z
time_le_back (pos a) (pos z) p h = omega (arith, ints)
time_le_back (pos a) (negsuc z) p h = absurd (omega (arith, ints))
time_le_back (negsuc a) (pos z) p h = omega (arith, ints)
time_le_back (negsuc a) (negsuc z) p h = absurd (omega (arith, ints))

-- the greater of two times
pub later_stop : (g : ℕ) (end stop : ℤ) → end ≡ pos g → end <ℤ stop
    → stop ≡ pos (max g (as_time stop))
later_stop g end (pos s) e h = ap pos (omega (arith, ints))
later_stop g end (negsuc s) e h = absurd (omega (arith, ints))

pub earlier_stop : (g : ℕ) (end stop : ℤ) → end ≡ pos g → stop ≤ℤ end
    → end ≡ pos (max g (as_time stop))
earlier_stop g end (pos s) e h = e ∙ ap pos (omega (arith, ints))
earlier_stop g end (negsuc s) e h = e ∙ ap pos (omega arith)

pub pos_time : (a : ℤ) → pos 0 ≤ℤ a → pos (as_time a) ≡ a
pos_time (pos a) p = refl
pos_time (negsuc a) p = absurd (omega (arith, ints))

-- a sound piece covers the time at which it starts
pub sound_times : (p : Piece) → IsPiece p → as_time p.start < as_time p.stop
sound_times p sound = time_lt p.start p.stop sound.0.0 sound.1
