-- The picture as a whole.
use Rattle.std.proofs.Common.{◌≡◌, ℕ, ◌<◌, Bool, true, false, List, [], ◌∷◌, ◌++◌, Option, None, Some, codes, ap, sym, subst, ◌∙◌, arith}
use Rattle.std.specs.List.{All, AllPairs}
use Rattle.std.specs.List.Sorted.{IsPermutation}
use Rattle.std.proofs.lemmas.List.Elements.{All-cons, All-head, All-nil, All-tail}
use Rattle.std.proofs.lemmas.List.Sorted.{All-permutation}
use Rattle.tf_schedule.specs.declared.piece.Piece.{Piece}
use Rattle.tf_schedule.specs.Drawing.{greatest_stop}
use Rattle.tf_schedule.specs.Piece.{machine_of}
use Rattle.tf_schedule.specs.Schedule.{ComesBeforeBy, IsPiece}
use Rattle.tf_text.specs.AnswerText.{SheetData}
use Rattle.tf_picture.specs.Bars.{bar_of, bars_of}
use Rattle.tf_picture.specs.Picture.{IsDatedPicture, IsResumed, all_strips, front, heading_of}
use Rattle.tf_picture.specs.Sound.{HasPiece}
use Rattle.tf_picture.specs.Strips.{strips_of}
use Rattle.tf_picture.specs.declared.bars.Bar.{Bar}
use Rattle.tf_picture.specs.declared.dates.JobDates.{JobDates}
use Rattle.tf_picture.specs.declared.front.Heading.{Heading}
use Rattle.tf_picture.specs.declared.strips.Strips.{Strips}
use Rattle.tf_picture.specs.declared.view.View.{View}

-- the bars of pieces have these pieces
pub bars_sound : (before : Option Bar) (ps : List Piece) → All IsPiece ps
    → All HasPiece (bars_of before ps)
bars_sound before [] sound = λ k d h. absurd (omega (arith, h))
bars_sound before (p ∷ ps) sound =
    All-cons HasPiece (bar_of before p) (bars_of (Some (bar_of before p)) ps)
    (All-head IsPiece p ps sound)
    (bars_sound (Some (bar_of before p)) ps (All-tail IsPiece p ps sound))

-- the pieces by job are pieces
pub resumed_sound : (prmp : Bool) (ps sorted : List Piece) → All IsPiece ps
    → IsResumed prmp ps sorted → All IsPiece sorted
resumed_sound true ps sorted sound by_job = All-permutation IsPiece ps sorted by_job.kept sound
resumed_sound false ps sorted sound by_job = subst (All IsPiece) (sym by_job) (All-nil IsPiece)

pub picture_written : (view : View) (sheet : SheetData) (heading : Heading) (pieces : List Piece)
    (strips : Strips) (step : ℕ) (bars : List Bar) (resumed : List Piece) (dates : List JobDates)
    (t0 t1 t2 t3 : List ℕ)
    → heading_of sheet ≡ heading → IsPermutation sheet.answer.pieces pieces
    → AllPairs (ComesBeforeBy machine_of) pieces → 0 < step
    → strips ≡ strips_of view heading.machines (greatest_stop pieces)
    → bars ≡ bars_of None pieces
    → IsResumed heading.problem.prmp pieces resumed
    → t0 ≡ []
    → t1 ≡ t0 ++ front heading view.size strips
    → t2 ≡ t1 ++ all_strips step bars resumed dates strips
    → t3 ≡ t2 ++ codes "</svg>\n"
    → IsDatedPicture dates view sheet t3
picture_written view sheet heading pieces strips step bars resumed dates t0 t1 t2 t3 same kept in_order
    positive strips_is bars_is by_job empty e1 e2 e3 =
    record {
      pieces = pieces;
      kept = kept;
      in_order = in_order;
      resumed = resumed;
      by_job = subst (λ (h : Heading). IsResumed h.problem.prmp pieces resumed) (sym same) by_job;
      step = step;
      positive = positive;
      text = e3
          ∙ ap (λ t. t ++ codes "</svg>\n") e2
          ∙ ap (λ t. t ++ all_strips step bars resumed dates strips ++ codes "</svg>\n") e1
          ∙ ap (λ t. t ++ front heading view.size strips ++ all_strips step bars resumed dates strips
          ++ codes "</svg>\n") empty
          ∙ ap (λ b. front heading view.size strips ++ all_strips step b resumed dates strips
          ++ codes "</svg>\n") bars_is
          ∙ ap (λ s. front heading view.size s ++ all_strips step (bars_of None pieces) resumed dates s
          ++ codes "</svg>\n") strips_is
          ∙ ap (λ (h : Heading). front h view.size (strips_of view h.machines (greatest_stop pieces))
          ++ all_strips step (bars_of None pieces) resumed dates
          (strips_of view h.machines (greatest_stop pieces)) ++ codes "</svg>\n") (sym same);
    }
