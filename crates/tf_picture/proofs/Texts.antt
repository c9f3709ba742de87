-- Texts that are written part by part.
use Rattle.std.proofs.Common.{◌≡◌, List, [], ◌∷◌, ◌++◌, Bor, ℕ, suc, ◌+◌, ◌-◌, ◌≤◌, codes, length, map, refl, take, ◌/◌, sym, ap, ◌∙◌, append-nil, append_assoc, arith}
use Rattle.std.specs.List.{flat_map, range_with_len}
use Rattle.std.proofs.lemmas.Grind.{flat_map-append}
use Rattle.std.proofs.lemmas.List.{take_all}
use Rattle.std.proofs.lemmas.List.Concat.{flat_map-cons}
use Rattle.tf_model.proofs.Ranges.{range_push}
use Rattle.tf_schedule.specs.declared.piece.Piece.{Piece}
use Rattle.tf_schedule.specs.Piece.{as_time}
use Rattle.tf_text.proofs.Written.{then}
use Rattle.tf_picture.specs.Picture.{axis, bar_group, bar_text, edge, fill, front, label_group, late_mark, link_group, marks, opening, part, parts_from, parts_to, rect, rows, sizes, strip, title, titles, told, width}
use Rattle.tf_picture.specs.Strips.{bar_height, height}
use Rattle.tf_picture.specs.declared.strips.Strips.{Strips}
use Rattle.tf_picture.specs.declared.view.Size.{Size}
use Rattle.tf_picture.specs.declared.bars.Bar.{Bar}
use Rattle.tf_picture.specs.declared.dates.JobDates.{JobDates}
use Rattle.tf_picture.specs.declared.frame.Frame.{Frame}
use Rattle.tf_picture.specs.declared.front.Heading.{Heading}

-- parts that are written one after the other
pub three : (t0 t1 t2 t3 a b c : List ℕ)
    → t1 ≡ t0 ++ a → t2 ≡ t1 ++ b → t3 ≡ t2 ++ c
    → t3 ≡ t0 ++ (a ++ b ++ c)
three t0 t1 t2 t3 a b c e1 e2 e3 = then t0 t2 t3 (a ++ b) c (then t0 t1 t2 a b e1 e2) e3

pub four : (t0 t1 t2 t3 t4 a b c d : List ℕ)
    → t1 ≡ t0 ++ a → t2 ≡ t1 ++ b → t3 ≡ t2 ++ c → t4 ≡ t3 ++ d
    → t4 ≡ t0 ++ (a ++ b ++ c ++ d)
four t0 t1 t2 t3 t4 a b c d e1 e2 e3 e4 =
    then t0 t3 t4 (a ++ b ++ c) d (three t0 t1 t2 t3 a b c e1 e2 e3) e4

pub five : (t0 t1 t2 t3 t4 t5 a b c d e : List ℕ)
    → t1 ≡ t0 ++ a → t2 ≡ t1 ++ b → t3 ≡ t2 ++ c → t4 ≡ t3 ++ d → t5 ≡ t4 ++ e
    → t5 ≡ t0 ++ (a ++ b ++ c ++ d ++ e)
five t0 t1 t2 t3 t4 t5 a b c d e e1 e2 e3 e4 e5 =
    then t0 t4 t5 (a ++ b ++ c ++ d) e (four t0 t1 t2 t3 t4 a b c d e1 e2 e3 e4) e5

pub six : (t0 t1 t2 t3 t4 t5 t6 a b c d e f : List ℕ)
    → t1 ≡ t0 ++ a → t2 ≡ t1 ++ b → t3 ≡ t2 ++ c → t4 ≡ t3 ++ d → t5 ≡ t4 ++ e → t6 ≡ t5 ++ f
    → t6 ≡ t0 ++ (a ++ b ++ c ++ d ++ e ++ f)
six t0 t1 t2 t3 t4 t5 t6 a b c d e f e1 e2 e3 e4 e5 e6 =
    then t0 t5 t6 (a ++ b ++ c ++ d ++ e) f (five t0 t1 t2 t3 t4 t5 a b c d e e1 e2 e3 e4 e5) e6

-- one more of a row of numbered parts
pub each_more : (f : ℕ → List ℕ) (a n : ℕ) (t0 t1 t2 : List ℕ)
    → t1 ≡ t0 ++ flat_map f (range_with_len a n) → t2 ≡ t1 ++ f (a + n)
    → t2 ≡ t0 ++ flat_map f (range_with_len a (n + 1))
each_more f a n t0 t1 t2 first next =
    let more : suc n ≡ n + 1 = omega arith in
    let whole : flat_map f (range_with_len a (n + 1))
    ≡ flat_map f (range_with_len a n) ++ f (a + n) =
    ap (λ m. flat_map f (range_with_len a m)) (sym more)
    ∙ ap (flat_map f) (range_push a n)
    ∙ flat_map-append f (range_with_len a n) ((a + n) ∷ [])
    ∙ ap (λ text. flat_map f (range_with_len a n) ++ text)
    (flat_map-cons f (a + n) [] ∙ append-nil (f (a + n))) in
    then t0 t1 t2 (flat_map f (range_with_len a n)) (f (a + n)) first next
    ∙ ap (λ text. t0 ++ text) (sym whole)

-- the same of parts that are numbered from `a` on
pub each_later : (f : ℕ → List ℕ) (a n : ℕ) (t0 t1 t2 : List ℕ) → a ≤ n
    → t1 ≡ t0 ++ flat_map f (range_with_len a (n - a)) → t2 ≡ t1 ++ f n
    → t2 ≡ t0 ++ flat_map f (range_with_len a (n + 1 - a))
each_later f a n t0 t1 t2 from first next =
    let here : a + (n - a) ≡ n = omega (arith, from) in
    let more : (n - a) + 1 ≡ n + 1 - a = omega (arith, from) in
    each_more f a (n - a) t0 t1 t2 first (next ∙ ap (λ m. t1 ++ f m) (sym here))
    ∙ ap (λ m. t0 ++ flat_map f (range_with_len a m)) more

-- one more of a row of parts that are numbered from 1 on
pub each_next : (f : ℕ → List ℕ) (n : ℕ) (t0 t1 t2 : List ℕ)
    → t1 ≡ t0 ++ flat_map f (range_with_len 1 n) → t2 ≡ t1 ++ f (n + 1)
    → t2 ≡ t0 ++ flat_map f (range_with_len 1 (n + 1))
each_next f n t0 t1 t2 first next =
    let here : n + 1 ≡ 1 + n = omega arith in
    each_more f 1 n t0 t1 t2 first (next ∙ ap (λ m. t1 ++ f m) here)

-- a text and a number, and then others up to the end
cons_end : (p : Bor (List ℕ) × ℕ) (parts : List (Bor (List ℕ) × ℕ)) (end : List ℕ)
    → part p.0.now p.1 ++ (flat_map (λ p. part p.0.now p.1) parts ++ end)
    ≡ flat_map (λ p. part p.0.now p.1) (p ∷ parts) ++ end
cons_end p parts end =
    sym (append_assoc (part p.0.now p.1) (flat_map (λ p. part p.0.now p.1) parts) end)
    ∙ ap (λ text. text ++ end) (sym (flat_map-cons (λ p. part p.0.now p.1) p parts))

-- texts and numbers one by one, and then the end
from_end : (text : List ℕ) (parts : List (Bor (List ℕ) × ℕ)) (end : List ℕ)
    → parts_from text (map (λ p. (p.0.now, p.1)) parts) end
    ≡ text ++ (flat_map (λ p. part p.0.now p.1) parts ++ end)
from_end text [] end = refl
from_end text (p ∷ parts) end =
    from_end (text ++ part p.0.now p.1) parts end
    ∙ append_assoc text (part p.0.now p.1) _
    ∙ ap (λ rest. text ++ rest) (cons_end p parts end)

to_end : (parts : List (Bor (List ℕ) × ℕ)) (end : List ℕ)
    → parts_to (map (λ p. (p.0.now, p.1)) parts) end
    ≡ flat_map (λ p. part p.0.now p.1) parts ++ end
to_end [] end = refl
to_end (p ∷ parts) end = from_end (part p.0.now p.1) parts end ∙ cons_end p parts end

pub parts_written : (parts : List (Bor (List ℕ) × ℕ)) (end t0 t1 t2 : List ℕ)
    → t1 ≡ t0 ++ flat_map (λ p. part p.0.now p.1) parts → t2 ≡ t1 ++ end
    → t2 ≡ t0 ++ parts_to (map (λ p. (p.0.now, p.1)) parts) end
parts_written parts end t0 t1 t2 e1 e2 =
    then t0 t1 t2 _ end e1 e2 ∙ ap (λ text. t0 ++ text) (sym (to_end parts end))

-- a part for each item, between two texts
pub grouped : {X : Type 0} (f : X → List ℕ) (xs : List X) (i : ℕ) (t0 t1 t2 t3 a b : List ℕ)
    → t1 ≡ t0 ++ a → t2 ≡ t1 ++ flat_map f (take i xs) → length xs ≤ i → t3 ≡ t2 ++ b
    → t3 ≡ t0 ++ (a ++ flat_map f xs ++ b)
grouped f xs i t0 t1 t2 t3 a b e1 e2 all e3 =
    three t0 t1 t2 t3 a (flat_map f xs) b e1
    (e2 ∙ ap (λ items. t1 ++ flat_map f items) (take_all i xs all)) e3

-- what is told of a piece
pub told_written : (p : Piece) (job machine start stop : ℕ)
    → job ≡ p.job → machine ≡ p.machine → start ≡ as_time p.start → stop ≡ as_time p.stop
    → part (codes "<title>job ") job ++ part (codes ", machine ") machine
    ++ part (codes ", ") start ++ part (codes " to ") stop ++ codes "</title></rect>\n" ≡ told p
told_written p job machine start stop e1 e2 e3 e4 = rw (e1, e2, e3, e4) refl

-- the bar of a piece
pub bar_written : (f : Frame) (b : Bar) (t0 t1 t2 t3 t4 : List ℕ)
    → t1 ≡ t0 ++ rect f b.piece (bar_height f.machines) (codes "\" fill=\"")
    → t2 ≡ t1 ++ fill b.fill
    → t3 ≡ t2 ++ edge (width f b.piece) b.edged
    → t4 ≡ t3 ++ told b.piece
    → t4 ≡ t0 ++ bar_text f b
unfolding bar_text
bar_written f b t0 t1 t2 t3 t4 e1 e2 e3 e4 = four t0 t1 t2 t3 t4 _ _ _ _ e1 e2 e3 e4

-- the strip at a bar that is late
pub late_written : (f : Frame) (steps : ℕ) (p : Piece) (t0 t1 t2 : List ℕ)
    → t1 ≡ t0 ++ rect f p (bar_height f.machines / 8) (codes "\">")
    → t2 ≡ t1 ++ (part (codes "<title>job ") p.job ++ part (codes ", late by ") steps
    ++ codes "</title></rect>\n")
    → t2 ≡ t0 ++ late_mark f steps p
unfolding late_mark
late_written f steps p t0 t1 t2 e1 e2 = then t0 t1 t2 _ _ e1 e2

-- a strip
pub strip_written : (step : ℕ) (bars : List Bar) (resumed : List Piece) (dates : List JobDates)
    (f : Frame) (t0 t1 t2 t3 t4 t5 t6 : List ℕ)
    → t1 ≡ t0 ++ rows f
    → t2 ≡ t1 ++ axis f step
    → t3 ≡ t2 ++ bar_group f bars
    → t4 ≡ t3 ++ link_group f resumed
    → t5 ≡ t4 ++ marks f dates bars
    → t6 ≡ t5 ++ label_group f bars
    → t6 ≡ t0 ++ strip step bars resumed dates f
unfolding strip
strip_written step bars resumed dates f t0 t1 t2 t3 t4 t5 t6 e1 e2 e3 e4 e5 e6 =
    six t0 t1 t2 t3 t4 t5 t6 _ _ _ _ _ _ e1 e2 e3 e4 e5 e6

-- all that comes before the strips
pub front_written : (heading : Heading) (size : Size) (strips : Strips) (t0 t1 t2 t3 : List ℕ)
    → t1 ≡ t0 ++ opening size (height strips)
    → t2 ≡ t1 ++ titles (title heading)
    → t3 ≡ t2 ++ sizes heading strips.last
    → t3 ≡ t0 ++ front heading size strips
unfolding front
front_written heading size strips t0 t1 t2 t3 e1 e2 e3 = three t0 t1 t2 t3 _ _ _ e1 e2 e3
