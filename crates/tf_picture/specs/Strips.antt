-- Where a picture shows what: its strips, one below the other, with a row for each machine in each.
-- Places and sizes are in hundredths of a pixel.
use Rattle.std.specs.Prelude.{ℕ, ◌+◌, ◌-◌, ◌*◌, ◌/◌, min, max, ◌&&◌, Bool, nat_le, nat_lt, if◌then◌else◌, unwrap_or, Option, None, List, codes}
use Rattle.std.specs.Int.{div_ceil}
use Rattle.tf_picture.specs.declared.frame.Frame.{Frame}
use Rattle.tf_picture.specs.declared.strips.Strips.{Strips}
use Rattle.tf_picture.specs.declared.view.Size.{Size}
use Rattle.tf_picture.specs.declared.view.Size.TheVariants.{Natural, Width, Height, Pixels, Millimetres}
use Rattle.tf_picture.specs.declared.view.View.{View}

-- the whole schedule in one strip, in the natural size
abbrev pub whole : View
whole = record { from = 0; to = None; fold = None; size = Natural }

-- ---- the strips

-- the number of time steps in a strip: those asked for, or all, and more where they would make more
-- than 100 strips
abbrev pub length_of : Option ℕ → ℕ → ℕ
length_of fold steps = max (max (unwrap_or fold steps) (div_ceil steps 100)) 1

-- the last time that is shown
abbrev pub end_of : View → ℕ → ℕ
end_of view last = max (unwrap_or view.to last) view.from

-- what a view shows of a schedule with this last stop
abbrev pub strips_of : View → ℕ → ℕ → Strips
strips_of view machines last = record {
  machines = machines;
  from = view.from;
  to = end_of view last;
  length = length_of view.fold (end_of view last - view.from);
  last = last;
}

abbrev pub count_of : Strips → ℕ
count_of s = max (min (div_ceil (s.to - s.from) (max s.length 1)) 100) 1

-- where a strip begins, the first one being 0
abbrev pub begin_of : Strips → ℕ → ℕ
begin_of s n = min (s.from + n * s.length) s.to

abbrev pub strip_of : Strips → ℕ → Frame
strip_of s n = record {
  machines = s.machines;
  from = begin_of s n;
  to = begin_of s (n + 1);
  length = s.length;
  strip = n;
  last = s.last;
}

-- ---- one strip

-- how far to the right a time is: times before the strip and after it are at its ends
abbrev pub across : Frame → ℕ → ℕ
across f time = 7000 + min ((min time f.to - f.from) * 106000 / max f.length 1) 106000

-- the time lies in the strip or at an end of it
abbrev pub shows_time : Frame → ℕ → Bool
shows_time f time = nat_le f.from time && nat_le time f.to

-- how high a row is, where so many machines are shown
abbrev pub row_height : ℕ → ℕ
row_height machines =
    if nat_le machines 10 then 4000
    else if nat_le machines 25 then 2800
    else if nat_le machines 50 then 2000
    else if nat_le machines 100 then 1400
    else 1000

-- how high a bar is
abbrev pub bar_height : ℕ → ℕ
bar_height machines = row_height machines / 5 * 4

-- how far down the rows begin
abbrev pub down : Frame → ℕ
down f = 8500 + f.strip * (f.machines * row_height f.machines + 5000)

-- how far down the bars of a machine begin
abbrev pub top : Frame → ℕ → ℕ
top f machine = down f + (machine - 1) * row_height f.machines + row_height f.machines / 10

-- where the last row ends
abbrev pub bottom : Frame → ℕ
bottom f = down f + f.machines * row_height f.machines

-- how high the picture is
abbrev pub height : Strips → ℕ
height s = bottom (strip_of s (count_of s - 1)) + 2500

-- how large the numbers in the bars are, and the line on which the numbers of a machine stand
abbrev pub font : ℕ → ℕ
font machines = min (row_height machines / 10 * 7) 1300

abbrev pub base : Frame → ℕ → ℕ
base f machine = top f machine + bar_height f.machines / 2 + font f.machines * 9 / 25

-- ---- the size of the picture

-- a side where another one of length `whole` becomes `part`
abbrev pub scaled : ℕ → ℕ → ℕ → ℕ
scaled side part whole = min (max (side * part / max whole 1) 1) 1000000

-- how wide a picture is that is so many hundredths of a pixel high
abbrev pub width_of : Size → ℕ → ℕ
width_of Natural height = 1200
width_of (Width wide) height = wide
width_of (Height high) height = scaled 120000 high height
width_of (Pixels wide high) height = wide
width_of (Millimetres wide high) height = wide

-- how high it is then
abbrev pub height_of : Size → ℕ → ℕ
height_of Natural height = height / 100
height_of (Width wide) height = scaled height wide 120000
height_of (Height high) height = high
height_of (Pixels wide high) height = high
height_of (Millimetres wide high) height = high

abbrev pub unit_of : Size → List ℕ
unit_of (Millimetres wide high) = codes "mm"
unit_of _ = codes ""
