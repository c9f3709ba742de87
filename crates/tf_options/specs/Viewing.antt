-- How `gantt` draws a schedule, by what clap found of its options.
use Rattle.std.specs.Prelude.{◌≡◌, ℕ, Bool, true, false, ◌&&◌, List, Option, None, Some, is_some, unwrap_or, codes, if◌then◌else◌}
use Rattle.std.specs.Option.{option_and_then}
use Rattle.tf_model.specs.Limit.{limit}
use Rattle.tf_picture.specs.declared.view.Size.{Size}
use Rattle.tf_picture.specs.declared.view.Size.TheVariants.{Natural, Width, Height, Pixels, Millimetres}
use Rattle.tf_picture.specs.declared.view.View.{View}
use Rattle.tf_text.specs.Chart.{most_columns}
use Rattle.tf_options.specs.Matched.{AreIdleBy, Given, IsFlagBy, IsFormBy, columns_fault, explains_by, first_fault, form_fault, is_word, number_by, unless_some}
use Rattle.tf_options.specs.OptionNumber.{numeral_in}
use Rattle.tf_asked.specs.declared.options.Drawing.{Drawing}
use Rattle.tf_asked.specs.declared.options.Drawing.TheVariants.{Chart, Picture}
use Rattle.tf_asked.specs.declared.options.Picturing.{Picturing}

-- the most pixels of a side
abbrev pub most_side : ℕ
most_side = 100000

-- a page of paper or a slide
abbrev pub page_by : Option (List ℕ) → Option Size
page_by value =
    if is_word value (codes "a4") then Some (Millimetres 297 210)
    else (if is_word value (codes "a3") then Some (Millimetres 420 297)
    else (if is_word value (codes "16:9") then Some (Pixels 1600 900) else None))

abbrev pub size_of : Option Size → Option ℕ → Option ℕ → Size
size_of (Some size) wide high = size
size_of None (Some wide) (Some high) = Pixels wide high
size_of None (Some wide) None = Width wide
size_of None None (Some high) = Height high
size_of None None None = Natural

abbrev pub size_by : Given → Size
size_by given = size_of (page_by (given.value (codes "size")))
    (number_by given (codes "width") 1 most_side) (number_by given (codes "height") 1 most_side)

-- the window, the strips and the size of a picture
pub record IsViewBy (given : Given) (view : View) : Type 0 where
  pub start : view.from ≡ unwrap_or (number_by given (codes "from") 0 limit) 0
  pub stop : view.to ≡ number_by given (codes "to") 0 limit
  pub fold : view.fold ≡ number_by given (codes "fold") 1 limit
  pub size : view.size ≡ size_by given

-- a chart of so many columns, unless `--svg` asks for a picture
abbrev pub IsDrawingBy : Given → Drawing → Type 0
IsDrawingBy given (Chart columns) =
    IsFlagBy (given.flag (codes "svg")) false
    × (number_by given (codes "columns") 1 most_columns ≡ Some columns)
IsDrawingBy given (Picture view) =
    IsFlagBy (given.flag (codes "svg")) true × IsViewBy given view

-- a picture with the dates of the instance that `--input` names
pub record IsPicturingBy (given : Given) (on_terminal : Bool) (picturing : Picturing) : Type 0 where
  pub input : given.value (codes "input") ≡ Some picturing.input.now
  pub answer : given.value (codes "ANSWER") ≡ Some picturing.answer.now
  pub form : IsFormBy given picturing.form
  pub view : IsViewBy given picturing.view
  pub explain : picturing.telling.explain
      ≡ explains_by (given.value (codes "explain")) on_terminal
  pub idle : AreIdleBy given picturing.form picturing.telling.idle

-- ---- the first fault of these options

-- the option is given, and gives no number of this range
abbrev pub number_fault : Given → List ℕ → ℕ → ℕ → List ℕ → Option (List ℕ)
number_fault given name least most told =
    option_and_then (λ word. unless_some told (numeral_in least most word)) (given.value name)

abbrev pub sides_fault : Given → Option (List ℕ)
sides_fault given = first_fault
    (number_fault given (codes "width") 1 most_side
    (codes "--width takes a number from 1 to 100000"))
    (number_fault given (codes "height") 1 most_side
    (codes "--height takes a number from 1 to 100000"))

abbrev pub view_fault : Given → Option (List ℕ)
view_fault given = first_fault
    (number_fault given (codes "from") 0 limit
    (codes "--from takes a number from 0 to 4000000000000000000"))
    (first_fault
    (number_fault given (codes "to") 0 limit
    (codes "--to takes a number from 0 to 4000000000000000000"))
    (first_fault
    (number_fault given (codes "fold") 1 limit
    (codes "--fold takes a number from 1 to 4000000000000000000"))
    (sides_fault given)))

abbrev pub drawing_fault : Given → Option (List ℕ)
drawing_fault given = first_fault (view_fault given) (columns_fault given)

-- both the instance and the answer are standard input
abbrev pub twice_fault : Given → Option (List ℕ)
twice_fault given =
    if is_word (given.value (codes "ANSWER")) (codes "-")
    && is_word (given.value (codes "input")) (codes "-")
    then Some (codes "--input and ANSWER cannot both be standard input")
    else None

-- where `--input` is given
abbrev pub picturing_fault : Given → Option (List ℕ)
picturing_fault given = first_fault (twice_fault given)
    (first_fault (view_fault given) (form_fault given))

-- of `gantt`
abbrev pub gantt_fault : Given → Option (List ℕ)
gantt_fault given =
    if is_some (given.value (codes "input")) then picturing_fault given else drawing_fault given
