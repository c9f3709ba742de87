-- Memory in units of 16 bytes.
use Rattle.std.specs.Prelude.{ℕ}
use mir.Syntax.{w128, ty_int, ty_array}
use base.Fml.{Fml}
use denote.RawPtr.{Ptr, room_for}

-- room for n units of 16 bytes at p
abbrev pub room_of_units : Ptr → ℕ → Fml
room_of_units p n = room_for (ty_array (ty_int w128) n) p
