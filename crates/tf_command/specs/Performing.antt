-- What the program does of what is asked for: which run over which texts ends how.
use Rattle.std.specs.Prelude.{◌≡◌, ◌⊎◌, ℕ, Bool, false, true, List, [], Option, None, Some, Ok, Err, IfSome, MatchOption, codes, if◌then◌else◌}
use Rattle.std.specs.Borrow.{Bor}
use Rattle.std.specs.declared.alloc.Global.{Global}
use Rattle.std.specs.Io.KnownBytes.{Appends, Keeps}
use Rattle.tf_listing.specs.Listing.{listing}
use Rattle.tf_listing.specs.declared.listing.Listed.{Listed}
use Rattle.tf_model.specs.InstanceData.{InstanceData}
use Rattle.tf_read.specs.JobTable.{job_table}
use Rattle.tf_text.specs.Counted.{DeviceUse, AppendsPrefix}
use Rattle.tf_text.specs.Input.{IsTextOf}
use Rattle.tf_text.specs.declared.answer.layout.Layout.TheVariants.{Two}
use Rattle.tf_orders.specs.declared.run_orders.OrderForm.{OrderForm}
use Rattle.tf_orders.specs.declared.run_orders.OrderForm.TheVariants.{Single, Lines, Numbered, Ruled as ByRule, Pieces}
use Rattle.tf_asked.specs.declared.options.Work.{Work as Asking}
use Rattle.tf_asked.specs.declared.options.Work.TheVariants.{Solve, Bound, Plan, Trace, Check, Evaluate, Assess, Rate, Gantt, Random, Problems, Border, Picture}
use Rattle.tf_asked.specs.declared.options.OrderSource.{OrderSource}
use Rattle.tf_asked.specs.declared.options.OrderSource.TheVariants.{Given, Ruled, Named, Drawn}
use Rattle.tf_asked.specs.declared.options.Options.{Options}
use Rattle.tf_asked.specs.Asking.{requested, form_asked}
use Rattle.tf_random.specs.Asked.{IsTableFor, IsFaultOf}
use Rattle.tf_random.specs.declared.run_random.RandomFault.{RandomFault}
use Rattle.tf_random.specs.declared.run_random.Wanted.{Wanted}
use Rattle.tf_engine.specs.declared.fault.RunFault.{RunFault}
use Rattle.tf_engine.specs.Faults.{ByText, stop_of}
use Rattle.tf_engine.specs.Parts.{StopsReading}
use Rattle.tf_engine.specs.Refusal.{refused_by}
use Rattle.tf_command.specs.FaultLine.{fault_line, no_table_line}
use Rattle.tf_command.specs.Statuses.{status_of, status_of_no_table}
use Rattle.tf_command.specs.Ending.{EndsSolving, EndsBounding, EndsTracing, EndsChecking, EndsDrawing, EndsEvaluating, EndsRating, EndsPicturing}
use Rattle.tf_bound_text.specs.BoundSheetData.{BoundSheetData}
use Rattle.tf_bound_text.specs.BoundReading.{bound_in}
use Rattle.tf_command.specs.Assessing.{EndsAssessing, EndsUnread}
use Rattle.tf_command.specs.Planning.{EndsPlanning}
use Rattle.tf_command.specs.Unread.{IsUnread, Texts}
use Rattle.tf_assess.specs.Measures.{IsPosed, IsUnposed, PosedData}
use Rattle.tf_engine.specs.RequestData.{RequestData}

-- the text of this name was read, from its first byte on
abbrev pub ReadsNamed : Texts → List ℕ → DeviceUse → Type 0
ReadsNamed texts name reader = IfSome (texts name) (λ text. reader.before ≡ Some text)

-- the text of this name, whose bytes are not known, was not opened, and nothing was written
pub record IsNotOpened (texts : Texts) (name : List ℕ) (writer : DeviceUse) (says : List ℕ → Type 0)
    (status : ℕ) : Type 0 where
  pub unknown : texts name ≡ None
  pub unwritten : Keeps writer.before writer.after
  pub ends : status ≡ 4
  pub said : says (codes "threefield: device fault\n")

-- the text of this name was opened and read as `Ends` says, or it was not opened
abbrev pub EndsOver : Texts → List ℕ → DeviceUse → (List ℕ → Type 0) → ℕ
    → (DeviceUse → Type 0) → Type 0
EndsOver texts name writer says status Ends =
    IsNotOpened texts name writer says status
    ⊎ ((reader : DeviceUse) × ReadsNamed texts name reader × Ends reader)

-- the same of two texts, of which the first is opened first
abbrev pub EndsOverBoth : Texts → List ℕ → List ℕ → DeviceUse → (List ℕ → Type 0) → ℕ
    → (DeviceUse → DeviceUse → Type 0) → Type 0
EndsOverBoth texts first second writer says status Ends =
    IsNotOpened texts first writer says status ⊎ IsNotOpened texts second writer says status
    ⊎ ((reader : DeviceUse) × (other : DeviceUse) × ReadsNamed texts first reader
    × ReadsNamed texts second other × Ends reader other)

-- this text was written, or a part of it where the device failed, which is said
abbrev pub EndsWriting : List ℕ → DeviceUse → (List ℕ → Type 0) → ℕ → Type 0
EndsWriting text writer says status =
    ((status ≡ 0) × Appends writer.before writer.after text × says [])
    ⊎ ((status ≡ 4) × (writer.failed ≡ true) × AppendsPrefix writer.before writer.after text
    × says (codes "threefield: device fault\n"))

-- this list of problems was written, with an instance of those that it has the fields for; or there
-- was no memory, which is said, and nothing was written
abbrev pub EndsListing : Listed → Option InstanceData → DeviceUse → (List ℕ → Type 0) → ℕ
    → Type 0
EndsListing listed instance writer says status =
    EndsWriting (listing listed instance) writer says status
    ⊎ ((status ≡ 3) × Keeps writer.before writer.after × says (codes "threefield: want of memory\n"))

-- a text was written, of which nothing is said; or there was no memory, as above
abbrev pub EndsTelling : DeviceUse → (List ℕ → Type 0) → ℕ → Type 0
EndsTelling writer says status =
    ((text : List ℕ) × EndsWriting text writer says status)
    ⊎ ((status ≡ 3) × Keeps writer.before writer.after × says (codes "threefield: want of memory\n"))

-- all the bytes that a reader gives are a job table of this instance
abbrev pub IsInTable : Option (List ℕ) → InstanceData → Type 0
IsInTable known instance =
    (text : List ℕ) × IsTextOf known text × (job_table text ≡ Ok instance)

-- the table, which is all bytes of its reader where they are known, has this first fault; or its
-- reader failed, or memory was wanting
abbrev pub IsNoTable : List ℕ → DeviceUse → RunFault Global → Type 0
IsNoTable text table fault =
    StopsReading (λ refused. refused_by ByText (job_table text) ≡ Err refused) (table.failed ≡ true)
    (stop_of fault)

-- there is no table, which the line says, and nothing was written
pub record EndsUnlisted (table writer : DeviceUse) (says : List ℕ → Type 0) (status : ℕ) : Type 0
  where
    pub text : List ℕ
    pub is_all : IsTextOf table.before text
    pub fault : RunFault Global
    pub none : IsNoTable text table fault
    pub unwritten : Keeps writer.before writer.after
    pub ends : status ≡ status_of fault
    pub said : says (fault_line fault)

-- the list was written for the instance of the table that was read, or there is none, which is
-- explained
abbrev pub EndsListingFor : Listed → DeviceUse → DeviceUse → (Bool → List ℕ → Type 0) → ℕ → Type 0
EndsListingFor listed table writer says status =
    ((instance : InstanceData) × IsInTable table.before instance
    × EndsListing listed (Some instance) writer (says false) status)
    ⊎ EndsUnlisted table writer (says true) status

-- how the orders of a text are told
abbrev pub lines_form : Bool → Bool → OrderForm
lines_form goes_on is_numbered = if is_numbered then Numbered goes_on else Lines goes_on

-- the orders or the pieces of the text of this name are rated
abbrev pub RatesNamed : Texts → Options → List ℕ → OrderForm → Option BoundSheetData → DeviceUse
    → (Bool → List ℕ → Type 0) → ℕ → Type 0
RatesNamed texts options name form offer writer says status =
    let said = says options.telling.explain in
    EndsOverBoth texts options.input.now name writer said status
    (λ instance other. EndsRating Global form offer (requested options Two) None instance other
    writer said status)

-- ---- orders and pieces with their values by the other objectives, of which the texts are read first

-- what the orders or pieces are
abbrev pub source_form : OrderSource → OrderForm
source_form (Given order detail) = Single detail
source_form (Ruled rule detail) = ByRule rule detail
source_form (Named name goes_on is_numbered) = lines_form goes_on is_numbered
source_form (Drawn name detail) = Pieces detail

-- and their text: that of the command line, nothing for a rule, or that of a name
abbrev pub IsSourceText : Texts → OrderSource → List ℕ → Type 0
IsSourceText texts (Given order detail) text = text ≡ order.now
IsSourceText texts (Ruled rule detail) text = text ≡ []
IsSourceText texts (Named name goes_on is_numbered) text = IsTextOf (texts name.now) text
IsSourceText texts (Drawn name detail) text = IsTextOf (texts name.now) text

-- the instance that gives the other objectives: what the request and its text mean, where both are
-- well formed
abbrev pub AreOthers : RequestData → List ℕ → Option PosedData → Type 0
AreOthers request text others = MatchOption others (IsUnposed request text) (IsPosed request text)

pub record EndsMeasuring (texts : Texts) (options : Options) (source : OrderSource)
    (offer : Option BoundSheetData) (writer : DeviceUse) (says : List ℕ → Type 0) (status : ℕ)
    : Type 0 where
  pub instance : List ℕ
  pub is_file : IsTextOf (texts options.input.now) instance
  pub text : List ℕ
  pub is_source : IsSourceText texts source text
  pub others : Option PosedData
  pub are_others : AreOthers (requested options Two) instance others
  pub reader : DeviceUse
  pub reads : reader.before ≡ Some instance
  pub orders : DeviceUse
  pub reads_orders : orders.before ≡ Some text
  pub done : EndsRating Global (source_form source) offer (requested options Two) others reader
      orders writer says status

-- a text was not read, or there was no memory
abbrev pub RatesMeasured : Texts → Options → OrderSource → Option BoundSheetData → DeviceUse
    → (List ℕ → Type 0) → ℕ → Type 0
RatesMeasured texts options source offer writer says status =
    EndsMeasuring texts options source offer writer says status
    ⊎ IsUnread texts writer says status
    ⊎ ((status ≡ 3) × Keeps writer.before writer.after × says (codes "threefield: want of memory\n"))

-- orders or pieces are rated beside what is offered, with their values by the other objectives
-- where those are asked for
abbrev pub RatesOrders : Bool → Texts → Options → OrderSource → Option BoundSheetData → DeviceUse
    → (Bool → List ℕ → Type 0) → ℕ → Type 0
RatesOrders true texts options source offer writer says status =
    RatesMeasured texts options source offer writer (says options.telling.explain) status
RatesOrders false texts options (Given order detail) offer writer says status =
    let said = says options.telling.explain in
    EndsOver texts options.input.now writer said status
    (λ instance. (reader : DeviceUse) × (reader.before ≡ Some order.now)
    × EndsRating Global (Single detail) offer (requested options Two) None instance reader writer
    said status)
RatesOrders false texts options (Ruled rule detail) offer writer says status =
    let said = says options.telling.explain in
    EndsOver texts options.input.now writer said status
    (λ instance. (reader : DeviceUse) × (reader.before ≡ Some [])
    × EndsRating Global (ByRule rule detail) offer (requested options Two) None instance reader
    writer said status)
RatesOrders false texts options (Named name goes_on is_numbered) offer writer says status =
    RatesNamed texts options name.now (lines_form goes_on is_numbered) offer writer says status
RatesOrders false texts options (Drawn name detail) offer writer says status =
    RatesNamed texts options name.now (Pieces detail) offer writer says status

-- the text of a bound was not read, or says a sheet, beside which orders or pieces are rated
abbrev pub RatesBeside : Texts → Options → OrderSource → DeviceUse → DeviceUse
    → (Bool → List ℕ → Type 0) → ℕ → Type 0
RatesBeside texts options source bound writer says status =
    EndsUnread bound writer (says options.telling.explain) status
    ⊎ ((text : List ℕ) × IsTextOf bound.before text
    × ((sheet : BoundSheetData) × (bound_in text ≡ Ok sheet)
    × RatesOrders options.telling.measures texts options source (Some sheet) writer says status))

-- orders or pieces are rated, beside the bound of the text of a name where there is one
abbrev pub RatesAided : Option (Bor (List ℕ)) → Texts → Options → OrderSource → DeviceUse
    → (Bool → List ℕ → Type 0) → ℕ → Type 0
RatesAided None texts options source writer says status =
    RatesOrders options.telling.measures texts options source None writer says status
RatesAided (Some name) texts options source writer says status =
    EndsOver texts name.now writer (says options.telling.explain) status
    (λ bound. RatesBeside texts options source bound writer says status)

-- the random table that is wanted was written; or why there is none is said, and nothing was written
abbrev pub EndsRandom : Wanted → DeviceUse → (List ℕ → Type 0) → ℕ → Type 0
EndsRandom wanted writer says status =
    ((table : List ℕ) × IsTableFor wanted table × EndsWriting table writer says status)
    ⊎ ((fault : RandomFault) × IsFaultOf wanted fault × (status ≡ status_of_no_table fault)
    × Keeps writer.before writer.after × says (no_table_line fault))

-- what is asked for is done over the texts that it names, and ends with this line on standard error
-- and this status
abbrev pub Performs : Texts → Asking → DeviceUse → (Bool → List ℕ → Type 0) → ℕ → Type 0
Performs texts (Solve options layout) writer says status =
    let said = says options.telling.explain in
    EndsOver texts options.input.now writer said status
    (λ instance. EndsSolving Global (requested options layout) instance writer said status)
Performs texts (Bound options steps) writer says status =
    let said = says options.telling.explain in
    EndsOver texts options.input.now writer said status
    (λ instance. EndsBounding Global (requested options Two) instance writer said status)
Performs texts (Plan options layout steps) writer says status =
    let said = says options.telling.explain in
    EndsOver texts options.input.now writer said status
    (λ instance. EndsPlanning Global (requested options layout) instance writer said status)
Performs texts (Trace options style) writer says status =
    let said = says options.telling.explain in
    EndsOver texts options.input.now writer said status
    (λ instance. EndsTracing Global (requested options Two) instance writer said status)
Performs texts (Check options answer) writer says status =
    let said = says options.telling.explain in
    EndsOverBoth texts options.input.now answer.now writer said status
    (λ instance other. EndsChecking Global (requested options Two) instance other writer said status)
Performs texts (Evaluate evaluating) writer says status =
    let said = says evaluating.options.telling.explain in
    EndsOverBoth texts evaluating.options.input.now evaluating.answer.now writer said status
    (λ instance other. EndsEvaluating Global evaluating.detail (requested evaluating.options Two)
    instance other writer said status)
Performs texts (Assess assessing) writer says status =
    let said = says assessing.options.telling.explain in
    EndsOverBoth texts assessing.options.input.now assessing.answer.now writer said status
    (λ instance other. EndsOver texts assessing.bound.now writer said status
    (λ bound. EndsAssessing Global (requested assessing.options Two) instance other bound writer said
    status))
Performs texts (Rate options source aids) writer says status =
    RatesAided aids.bound texts options source writer says status
Performs texts (Gantt answer drawing explain) writer says status =
    EndsOver texts answer.now writer (says explain) status
    (λ reader. EndsDrawing Global drawing reader writer (says explain) status)
Performs texts (Picture picturing) writer says status =
    let said = says picturing.telling.explain in
    EndsOverBoth texts picturing.input.now picturing.answer.now writer said status
    (λ instance other. EndsPicturing Global picturing.view (form_asked picturing.form) instance
    other writer said status)
Performs texts (Random wanted) writer says status =
    EndsRandom wanted writer (says false) status
Performs texts (Problems listed None) writer says status =
    EndsListing listed None writer (says false) status
Performs texts (Problems listed (Some table)) writer says status =
    EndsOver texts table.now writer (says true) status
    (λ reader. EndsListingFor listed reader writer says status)
Performs texts Border writer says status = EndsTelling writer (says false) status
