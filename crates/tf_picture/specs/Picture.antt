-- The text of a picture: its title and sizes, and in each strip of time a row for each machine, an
-- axis of time, and a bar for each piece, to scale and with its numbers.
use Rattle.std.specs.Prelude.{◌≡◌, ℕ, ℤ, pos, negsuc, ◌+◌, ◌-◌, ◌*◌, ◌/◌, ◌%◌, ◌<◌, min, max, ◌&&◌, not, Bool, true, false, nat_le, nat_lt, ◌==◌, Option, Some, None, List, [], ◌∷◌, ◌++◌, codes, length, take, drop, if◌then◌else◌}
use Rattle.std.specs.List.{AllPairs, flat_map, range_with_len}
use Rattle.std.specs.List.Sorted.{IsPermutation}
use Rattle.std.specs.Fmt.{decimal, signed_decimal}
use Rattle.tf_notation.specs.Canonical.{canonical}
use Rattle.tf_schedule.specs.declared.piece.Piece.{Piece}
use Rattle.tf_schedule.specs.Piece.{as_time, job_of, machine_of}
use Rattle.tf_schedule.specs.Schedule.{ComesBeforeBy}
use Rattle.tf_schedule.specs.Drawing.{greatest_stop}
use Rattle.tf_text.specs.AnswerText.{SheetData}
use Rattle.tf_picture.specs.Bars.{bars_of}
use Rattle.tf_picture.specs.Dates.{due_of, release_of, tardiness}
use Rattle.tf_picture.specs.Strips.{across, bar_height, base, bottom, count_of, down, font, height, height_of, row_height, shows_time, strip_of, strips_of, top, unit_of, width_of}
use Rattle.tf_picture.specs.declared.bars.Bar.{Bar}
use Rattle.tf_picture.specs.declared.dates.JobDates.{JobDates}
use Rattle.tf_picture.specs.declared.frame.Frame.{Frame}
use Rattle.tf_picture.specs.declared.front.Heading.{Heading}
use Rattle.tf_picture.specs.declared.marks.DateKind.{DateKind}
use Rattle.tf_picture.specs.declared.marks.DateKind.TheVariants.{Release, Due}
use Rattle.tf_picture.specs.declared.strips.Strips.{Strips}
use Rattle.tf_picture.specs.declared.view.Size.{Size}
use Rattle.tf_picture.specs.declared.view.View.{View}

-- ---- the bars of a strip

-- one fill after the other, seven characters each
abbrev pub fills : List ℕ
fills =
    codes "#7fb2e5#f2dc7d#e58a7b#cdeac0#b08fd8#ffd8a8#5fb8a5#f7cfe3#d9a441#cfe3f7#a3a3a3"

abbrev pub fill : ℕ → List ℕ
fill number = take 7 (drop (number % 11 * 7) fills)

-- a bar that is narrow has no edge, so that its fill is seen, unless the bar before has its fill
abbrev pub edge : ℕ → Bool → List ℕ
edge width edged =
    if nat_lt width 300 && not edged then codes "\" stroke=\"none\">" else codes "\">"

-- a text and a number behind it
abbrev pub part : List ℕ → ℕ → List ℕ
part before number = before ++ decimal number

-- texts with a number behind each, and the text that ends them
abbrev pub parts_from : List ℕ → List (List ℕ × ℕ) → List ℕ → List ℕ
parts_from text [] end = text ++ end
parts_from text ((before, number) ∷ parts) end = parts_from (text ++ part before number) parts end

abbrev pub parts_to : List (List ℕ × ℕ) → List ℕ → List ℕ
parts_to [] end = end
parts_to ((before, number) ∷ parts) end = parts_from (part before number) parts end

-- what a reader sees who points at the bar
abbrev pub told : Piece → List ℕ
told p =
    part (codes "<title>job ") p.job
    ++ part (codes ", machine ") p.machine
    ++ part (codes ", ") (as_time p.start)
    ++ part (codes " to ") (as_time p.stop)
    ++ codes "</title></rect>\n"

-- the width of the bar of a piece, unless that is less than the least
abbrev pub width : Frame → Piece → ℕ
width f p = across f (as_time p.stop) - across f (as_time p.start)

-- a rectangle where the bar lies, as high as this, up to an end
abbrev pub rect : Frame → Piece → ℕ → List ℕ → List ℕ
rect f p high end =
    part (codes "<rect x=\"") (across f (as_time p.start))
    ++ part (codes "\" y=\"") (top f p.machine)
    ++ part (codes "\" width=\"") (max (width f p) 50)
    ++ part (codes "\" height=\"") high
    ++ end

unfoldable pub bar_text : Frame → Bar → List ℕ
bar_text f b =
    rect f b.piece (bar_height f.machines) (codes "\" fill=\"") ++ fill b.fill
    ++ edge (width f b.piece) b.edged ++ told b.piece

-- the piece is on one of the machines, and some of it lies in the strip
abbrev pub is_shown : Frame → Piece → Bool
is_shown f p =
    nat_le p.machine f.machines && nat_lt (as_time p.start) f.to && nat_lt f.from (as_time p.stop)

abbrev pub bar_if_shown : Frame → Bar → List ℕ
bar_if_shown f b = if is_shown f b.piece then bar_text f b else []

abbrev pub bar_group : Frame → List Bar → List ℕ
bar_group f bars =
    codes "<g stroke=\"#222222\" stroke-width=\"60\">\n"
    ++ flat_map (bar_if_shown f) bars
    ++ codes "</g>\n"

-- ---- the lines between the pieces of a job

-- where the lines meet the bars of a machine: below their numbers
abbrev pub foot : Frame → ℕ → ℕ
foot f machine = top f machine + bar_height f.machines * 9 / 10

-- a line from the end of a piece to the start of the next
abbrev pub link : Frame → Piece → Piece → List ℕ
link f p q =
    part (codes "<line x1=\"") (across f (as_time p.stop))
    ++ part (codes "\" y1=\"") (foot f p.machine)
    ++ part (codes "\" x2=\"") (across f (as_time q.start))
    ++ part (codes "\" y2=\"") (foot f q.machine)
    ++ codes "\"/>\n"

-- they are pieces of one job, both shown, with both ends of the line in the strip
abbrev pub is_linked : Frame → Piece → Piece → Bool
is_linked f p q =
    (p.job == q.job) && is_shown f p && is_shown f q
    && shows_time f (as_time p.stop) && shows_time f (as_time q.start)

abbrev pub link_if_shown : Frame → Option Piece → Piece → List ℕ
link_if_shown f None q = []
link_if_shown f (Some p) q = if is_linked f p q then link f p q else []

abbrev pub links : Frame → Option Piece → List Piece → List ℕ
links f before [] = []
links f before (p ∷ ps) = link_if_shown f before p ++ links f (Some p) ps

abbrev pub link_group : Frame → List Piece → List ℕ
link_group f resumed =
    codes "<g stroke=\"#222222\" stroke-width=\"70\" stroke-dasharray=\"300 200\">\n"
    ++ links f None resumed
    ++ codes "</g>\n"

-- the pieces by job and start, where a job may be preempted
pub record IsByJob (pieces sorted : List Piece) : Type 0 where
  pub kept : IsPermutation pieces sorted
  pub in_order : AllPairs (ComesBeforeBy job_of) sorted

abbrev pub IsResumed : Bool → List Piece → List Piece → Type 0
IsResumed true pieces sorted = IsByJob pieces sorted
IsResumed false pieces sorted = sorted ≡ []

-- ---- the dates of the jobs

-- a strip along the upper edge of the bar of a piece that stops so many steps too late
unfoldable pub late_mark : Frame → ℕ → Piece → List ℕ
late_mark f steps p =
    rect f p (bar_height f.machines / 8) (codes "\">")
    ++ (part (codes "<title>job ") p.job ++ part (codes ", late by ") steps
    ++ codes "</title></rect>\n")

-- the piece is shown, and it stops after the due date of its job
abbrev pub late_if_shown : Frame → List JobDates → Bar → List ℕ
late_if_shown f dates b =
    if is_shown f b.piece && nat_lt 0 (tardiness dates b.piece)
    then late_mark f (tardiness dates b.piece) b.piece else []

abbrev pub late_group : Frame → List JobDates → List Bar → List ℕ
late_group f dates bars =
    codes "<g fill=\"#000000\">\n"
    ++ flat_map (late_if_shown f dates) bars
    ++ codes "</g>\n"

-- the date as a time, where it is not negative and lies in the strip
abbrev pub time_shown : Frame → ℤ → Option ℕ
time_shown f (pos time) = if shows_time f time then Some time else None
time_shown f (negsuc n) = None

abbrev pub shown_at : Frame → Option ℤ → Option ℕ
shown_at f None = None
shown_at f (Some date) = time_shown f date

-- A triangle whose tip is at the edge of the bars: above them and pointing down for a release date,
-- below them and pointing up for a due date.
abbrev pub tip : Frame → DateKind → Piece → ℕ
tip f Release p = top f p.machine
tip f Due p = top f p.machine + bar_height f.machines

abbrev pub side : DateKind → List ℕ
side Release = codes "l-400 -"
side Due = codes "l-400 "

-- what a reader sees who points at the mark
abbrev pub date_name : DateKind → List ℕ
date_name Release = codes ", release date "
date_name Due = codes ", due date "

abbrev pub mark_title : DateKind → ℕ → Piece → List ℕ
mark_title kind time p =
    part (codes "\"><title>job ") p.job ++ part (date_name kind) time ++ codes "</title></path>\n"

-- the mark of a date that is this time, with the fill of the bar
abbrev pub date_mark : Frame → DateKind → ℕ → Bar → List ℕ
date_mark f kind time b =
    (part (codes "<path d=\"M") (across f time) ++ part (codes " ") (tip f kind b.piece)
    ++ part (side kind) (row_height f.machines / 10) ++ codes "h800z\" fill=\"")
    ++ fill b.fill ++ mark_title kind time b.piece

abbrev pub mark_if_some : Frame → DateKind → Option ℕ → Bar → List ℕ
mark_if_some f kind None b = []
mark_if_some f kind (Some time) b =
    if nat_le b.piece.machine f.machines then date_mark f kind time b else []

-- the mark of a date that lies in the strip, on the machine of the bar
abbrev pub date_if_shown : Frame → DateKind → Option ℤ → Bar → List ℕ
date_if_shown f kind date b = mark_if_some f kind (shown_at f date) b

-- the release date and the due date of a bar's job
abbrev pub dates_shown : Frame → List JobDates → Bar → List ℕ
dates_shown f dates b =
    date_if_shown f Release (release_of dates b.piece.job) b
    ++ date_if_shown f Due (due_of dates b.piece.job) b

abbrev pub date_group : Frame → List JobDates → List Bar → List ℕ
date_group f dates bars =
    codes "<g stroke=\"#222222\" stroke-width=\"60\">\n"
    ++ flat_map (dates_shown f dates) bars
    ++ codes "</g>\n"

-- where dates are known, which pieces are late, and the dates
abbrev pub marks : Frame → List JobDates → List Bar → List ℕ
marks f [] bars = []
marks f (d ∷ ds) bars = late_group f (d ∷ ds) bars ++ date_group f (d ∷ ds) bars

-- ---- before the strips

-- a number that is read, at a place
abbrev pub label : ℕ → ℕ → ℕ → List ℕ
label x y number =
    part (codes "<text x=\"") x ++ part (codes "\" y=\"") y ++ part (codes "\">") number
    ++ codes "</text>\n"

-- what is told of a sheet
abbrev pub heading_of : SheetData → Heading
heading_of sheet = record {
  problem = sheet.problem;
  jobs = sheet.jobs;
  machines = sheet.machines;
  value = sheet.answer.value;
}

-- the problem and the value that the answer claims
abbrev pub title : Heading → List ℕ
title heading =
    canonical heading.problem ++ codes ", value" ++ 32 ∷ signed_decimal heading.value

-- the hatching of idle time
abbrev pub hatching : List ℕ
hatching =
    codes "<defs><pattern id=\"idle\" width=\"500\" height=\"500\""
    ++ codes " patternUnits=\"userSpaceOnUse\" patternTransform=\"rotate(45)\">"
    ++ codes "<rect width=\"500\" height=\"500\" fill=\"#fdfdfd\"/>"
    ++ codes "<rect width=\"90\" height=\"500\" fill=\"#cccccc\"/>"
    ++ codes "</pattern></defs>\n"

-- the size of the picture that is so many hundredths of a pixel high, and the hatching
abbrev pub opening : Size → ℕ → List ℕ
opening size high =
    (part (codes "<svg xmlns=\"http://www.w3.org/2000/svg\" role=\"img\" width=\"")
    (width_of size high) ++ unit_of size)
    ++ (part (codes "\" height=\"") (height_of size high) ++ unit_of size)
    ++ (part (codes "\" viewBox=\"0 0 ") 120000 ++ part (codes " ") high
    ++ (codes "\" font-family=\"sans-serif\">\n" ++ hatching))

-- its title, for a reader who points at the picture and, on white, for all
abbrev pub titles : List ℕ → List ℕ
titles text =
    codes "<title>" ++ text
    ++ codes "</title>\n<rect width=\"100%\" height=\"100%\" fill=\"#ffffff\"/>\n<text x=\"7000\" y=\"3200\" font-size=\"2000\">"
    ++ text

-- the numbers of jobs, machines and time steps
abbrev pub sizes : Heading → ℕ → List ℕ
sizes heading length =
    part (codes "</text>\n<text x=\"7000\" y=\"5200\" font-size=\"1300\">jobs ") heading.jobs
    ++ part (codes ", machines ") heading.machines
    ++ part (codes ", length ") length
    ++ codes "</text>\n"

-- all that comes before the strips
unfoldable pub front : Heading → Size → Strips → List ℕ
front heading size strips =
    opening size (height strips) ++ titles (title heading) ++ sizes heading strips.last

-- ---- the rows and the axis of a strip

-- the row of a machine, as far as the strip goes
abbrev pub row : Frame → ℕ → List ℕ
row f machine =
    part (codes "<rect x=\"") 7000
    ++ part (codes "\" y=\"") (top f machine)
    ++ part (codes "\" width=\"") (max (across f f.to - 7000) 50)
    ++ part (codes "\" height=\"") (bar_height f.machines)
    ++ codes "\"/>\n"

-- a row for each machine, and its number
abbrev pub number : Frame → ℕ → List ℕ
number f machine = label 6200 (base f machine) machine

-- the end of the rows, and how large the numbers are
abbrev pub number_font : Frame → List ℕ
number_font f =
    part (codes "</g>\n<g text-anchor=\"end\" font-size=\"") (font f.machines) ++ codes "\">\n"

-- what the numbers beside the rows and below them are
abbrev pub names : Frame → List ℕ
names f =
    part (codes "<text x=\"4700\" y=\"") (down f - 700)
    ++ part (codes "\" font-size=\"1100\">machine</text>\n<text x=\"4700\" y=\"") (bottom f + 1500)
    ++ codes "\" font-size=\"1100\">time</text>\n</g>\n"

abbrev pub rows : Frame → List ℕ
rows f =
    codes "<g fill=\"url(#idle)\" stroke=\"#bbbbbb\" stroke-width=\"50\">\n"
    ++ flat_map (row f) (range_with_len 1 f.machines)
    ++ number_font f
    ++ flat_map (number f) (range_with_len 1 f.machines)
    ++ names f

-- a line through all rows at a time, and the time above and below them
abbrev pub line : Frame → ℕ → List ℕ
line f time =
    part (codes "<line x1=\"") (across f time)
    ++ part (codes "\" y1=\"") (down f - 400)
    ++ part (codes "\" x2=\"") (across f time)
    ++ part (codes "\" y2=\"") (bottom f + 300)
    ++ codes "\"/>\n"

abbrev pub time_labels : Frame → ℕ → List ℕ
time_labels f time =
    label (across f time) (down f - 700) time ++ label (across f time) (bottom f + 1500) time

-- the time lies in the strip, and leaves room for the number of the last stop
abbrev pub is_marked : Frame → ℕ → ℕ → Bool
is_marked f step time =
    shows_time f time
    && not (shows_time f f.last && nat_lt (max time f.last - min time f.last) (step - step / 3))

abbrev pub line_at : Frame → ℕ → ℕ → List ℕ
line_at f step n = if is_marked f step (n * step) then line f (n * step) else []

abbrev pub time_labels_at : Frame → ℕ → ℕ → List ℕ
time_labels_at f step n = if is_marked f step (n * step) then time_labels f (n * step) else []

-- each multiple of a step from the first time to the last
abbrev pub multiples : Frame → ℕ → List ℕ
multiples f step = range_with_len (f.from / step) (f.to / step + 1 - f.from / step)

-- a darker line and a bold number at the last stop
abbrev pub last_mark : Frame → List ℕ
last_mark f =
    codes "<g stroke=\"#555555\" stroke-width=\"100\">\n"
    ++ line f f.last
    ++ codes "</g>\n<g font-size=\"1100\" font-weight=\"bold\" text-anchor=\"middle\">\n"
    ++ time_labels f f.last
    ++ codes "</g>\n"

abbrev pub end_mark : Frame → List ℕ
end_mark f = if shows_time f f.last then last_mark f else []

-- a line and its time at each multiple of a step, and the last stop
abbrev pub axis : Frame → ℕ → List ℕ
axis f step =
    codes "<g stroke=\"#bbbbbb\" stroke-width=\"50\">\n"
    ++ flat_map (line_at f step) (multiples f step)
    ++ codes "</g>\n<g font-size=\"1100\" text-anchor=\"middle\">\n"
    ++ flat_map (time_labels_at f step) (multiples f step)
    ++ codes "</g>\n"
    ++ end_mark f

-- ---- the numbers in the bars

abbrev pub digits_of : ℕ → ℕ
digits_of number = length (decimal number)

-- the job's number is less wide than the bar
abbrev pub has_room : Frame → Piece → Bool
has_room f p =
    nat_le (digits_of p.job * font f.machines * 13 / 20 + 300) (width f p)

-- the job's number in the bar of a piece, where it has room
abbrev pub number_if_shown : Frame → Bar → List ℕ
number_if_shown f b =
    if is_shown f b.piece && has_room f b.piece
    then label ((across f (as_time b.piece.start) + across f (as_time b.piece.stop)) / 2)
    (base f b.piece.machine) b.piece.job
    else []

abbrev pub label_group : Frame → List Bar → List ℕ
label_group f bars =
    (part (codes "<g text-anchor=\"middle\" font-size=\"") (font f.machines)
    ++ codes "\" pointer-events=\"none\">\n")
    ++ flat_map (number_if_shown f) bars
    ++ codes "</g>\n"

-- ---- the whole

-- the strip with the bars, the lines between the pieces of a job, the dates and the jobs' numbers
unfoldable pub strip : ℕ → List Bar → List Piece → List JobDates → Frame → List ℕ
strip step bars resumed dates f =
    rows f ++ axis f step ++ bar_group f bars ++ link_group f resumed ++ marks f dates bars
    ++ label_group f bars

abbrev pub strip_at : ℕ → List Bar → List Piece → List JobDates → Strips → ℕ → List ℕ
strip_at step bars resumed dates strips n = strip step bars resumed dates (strip_of strips n)

abbrev pub all_strips : ℕ → List Bar → List Piece → List JobDates → Strips → List ℕ
all_strips step bars resumed dates strips =
    flat_map (strip_at step bars resumed dates strips) (range_with_len 0 (count_of strips))

-- The sheet's picture in a view with dates of the jobs: the pieces by machine and start, in strips
-- with an axis in steps of some length.
pub record IsDatedPicture (dates : List JobDates) (view : View) (sheet : SheetData) (out : List ℕ)
    : Type 0 where
  pub pieces : List Piece
  pub kept : IsPermutation sheet.answer.pieces pieces
  pub in_order : AllPairs (ComesBeforeBy machine_of) pieces
  pub resumed : List Piece
  pub by_job : IsResumed sheet.problem.prmp pieces resumed
  pub step : ℕ
  pub positive : 0 < step
  pub text : out ≡ front (heading_of sheet) view.size
      (strips_of view sheet.machines (greatest_stop pieces))
      ++ all_strips step (bars_of None pieces) resumed dates
      (strips_of view sheet.machines (greatest_stop pieces))
      ++ codes "</svg>\n"

-- the same where no dates are known
abbrev pub IsPicture : View → SheetData → List ℕ → Type 0
IsPicture view sheet out = IsDatedPicture [] view sheet out
