-- Plans and evaluations for a shop of as many machines as their file has.
use Rattle.std.specs.Prelude.{◌≡◌, ◌⊎◌, ℕ, Bool, true, false, ◌&&◌, List, Option, None, Some, Result, Ok, Err, IsErr, IsOk, is_none, is_some, if◌then◌else◌}
use Rattle.std.specs.Str.{bytes_eq}
use Rattle.tf_model.specs.ClassTable.{class_of, is_shop_env}
use Rattle.tf_model.specs.InstanceData.{InstanceData}
use Rattle.tf_model.specs.declared.problem.Problem.{Problem}
use Rattle.tf_notation.specs.Canonical.{canonical}
use Rattle.tf_notation.specs.Reading.{notation}
use Rattle.tf_read.specs.FlowShop.{flow_shop}
use Rattle.tf_text.specs.Counted.{DeviceUse}
use Rattle.tf_text.specs.Input.{IsTextOf}
use Rattle.tf_asked.specs.declared.options.FormOption.{FormOption}
use Rattle.tf_asked.specs.declared.options.FormOption.TheVariants.{Table, Wt, Flow}
use Rattle.tf_asked.specs.declared.options.Options.{Options}
use Rattle.tf_asked.specs.declared.options.Work.{Work as Asking}
use Rattle.tf_asked.specs.declared.options.Work.TheVariants.{Plan, Evaluate, Assess, Rate}
use Rattle.tf_command.specs.Performing.{Performs}
use Rattle.tf_command.specs.Unread.{IsUnread, Texts}
use Rattle.tf_held.specs.declared.shops.HeldOr.{HeldOr}
use Rattle.tf_held.specs.declared.shops.HeldOr.TheVariants.{Held, Other}

-- the bytes that a text has still to give
abbrev pub left_of : {R : Type 0} → (R → Option (List ℕ)) → HeldOr R → Option (List ℕ)
left_of remaining (Held bytes) = Some bytes.now
left_of remaining (Other inner) = remaining inner

-- bytes in memory don't fail
abbrev pub ReadsHeld : {R X E : Type 0} → HeldOr R → Result X E → Type 0
ReadsHeld (Held bytes) result = IsOk result
ReadsHeld (Other inner) result = Unit {0}

-- a text by its name, and every other text as it is
abbrev pub texts_with : List ℕ → List ℕ → Texts → Texts
texts_with named text others name =
    if bytes_eq name named then Some text else others name

-- the name of the wanted instance of a flow shop file, where no pair of its machines is named
abbrev pub whole_name : FormOption → Option (List ℕ)
whole_name Table = None
whole_name (Wt jobs index) = None
whole_name (Flow name None) = Some name.now
whole_name (Flow name (Some pair)) = None

-- the problem is of a class of shops, and names no number of machines
abbrev pub is_uncounted_shop : Problem → Bool
is_uncounted_shop problem =
    is_shop_env problem.env && (is_none problem.count && is_some (class_of problem))

abbrev pub is_uncounted_in : Result Problem ℕ → Bool
is_uncounted_in (Ok problem) = is_uncounted_shop problem
is_uncounted_in (Err byte) = false

-- the options name such a problem, and an instance of a flow shop file with all its machines
abbrev pub wants_count : Options → Bool
wants_count options =
    is_some (whole_name options.form)
    && (is_none options.machines && is_uncounted_in (notation options.problem.now))

-- the problem line with the number of machines that the file has for this instance
pub record IsCountedLine (text name instance line : List ℕ) : Type 0 where
  pub problem : Problem
  pub meant : notation text ≡ Ok problem
  pub jobs : InstanceData
  pub read : flow_shop name None instance ≡ Ok jobs
  pub count : ℕ
  pub given : jobs.machines ≡ Some count
  pub many : (count ≡ 2) → ⊥
  pub is : line ≡ canonical (record problem { count = Some count })

-- the file has two machines, or does not say their number
abbrev pub IsUncounted : List ℕ → List ℕ → List ℕ → Type 0
IsUncounted text name instance =
    IsErr (notation text) ⊎ IsErr (flow_shop name None instance)
    ⊎ ((jobs : InstanceData) × (flow_shop name None instance ≡ Ok jobs)
    × ((count : ℕ) → jobs.machines ≡ Some count → count ≡ 2))

-- the problem line by the number of machines of the file, where that is wanted; the line of the
-- options where it is not, and where the file has two machines or does not say their number
abbrev pub IsLineFor : Options → List ℕ → List ℕ → Type 0
IsLineFor options instance line =
    ((wants_count options ≡ true)
    × ((name : List ℕ) × (whole_name options.form ≡ Some name)
    × (IsCountedLine options.problem.now name instance line
    ⊎ (IsUncounted options.problem.now name instance × (line ≡ options.problem.now)))))
    ⊎ ((wants_count options ≡ false) × (line ≡ options.problem.now))

-- the same options, with this problem line
pub record IsUnder (options : Options) (line : List ℕ) (other : Options) : Type 0 where
  pub problem : other.problem.now ≡ line
  pub form : other.form ≡ options.form
  pub machines : other.machines ≡ options.machines
  pub input : other.input ≡ options.input
  pub telling : other.telling ≡ options.telling

-- the same options, for a shop of as many machines as the file has
abbrev pub IsCountedBy : Options → List ℕ → Options → Type 0
IsCountedBy options instance other =
    (line : List ℕ) × IsLineFor options instance line × IsUnder options line other

-- ---- plans, and evaluations: of an answer, also by bounds alone, of orders, and of pieces

abbrev pub evaluated : Asking → Option Options
evaluated (Plan options layout steps) = Some options
evaluated (Evaluate evaluating) = Some evaluating.options
evaluated (Assess assessing) = Some assessing.options
evaluated (Rate options orders aids) = Some options
evaluated _ = None

-- the same plan or evaluation with other options
abbrev pub with_options : Asking → Options → Asking
with_options (Plan _ layout steps) options = Plan options layout steps
with_options (Evaluate evaluating) options = Evaluate (record evaluating { options = options })
with_options (Assess assessing) options = Assess (record assessing { options = options })
with_options (Rate _ orders aids) options = Rate options orders aids
with_options work options = work

abbrev pub asks_count : Option Options → Bool
asks_count None = false
asks_count (Some options) = wants_count options

-- ---- how they end

-- the instance was read first, and the evaluation done over it
pub record EndsShop (texts : Texts) (work : Asking) (options : Options) (writer : DeviceUse)
    (says : Bool → List ℕ → Type 0) (status : ℕ) : Type 0 where
  pub instance : List ℕ
  pub is_file : IsTextOf (texts options.input.now) instance
  pub other : Options
  pub counted : IsCountedBy options instance other
  pub done : Performs (texts_with options.input.now instance texts) (with_options work other)
      writer says status

abbrev pub EndsCounted : Texts → Asking → DeviceUse → (Bool → List ℕ → Type 0) → ℕ → Type 0
EndsCounted texts work writer says status =
    ((asks_count (evaluated work) ≡ false) × Performs texts work writer says status)
    ⊎ ((options : Options) × (evaluated work ≡ Some options) × (wants_count options ≡ true)
    × (EndsShop texts work options writer says status
    ⊎ IsUnread texts writer (says options.telling.explain) status))
