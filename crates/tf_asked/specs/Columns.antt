-- How many columns a chart may have.
use Rattle.std.specs.Prelude.{◌≤◌}
use Rattle.tf_text.specs.Chart.{most_columns}
use Rattle.tf_asked.specs.declared.options.Drawing.{Drawing}
use Rattle.tf_asked.specs.declared.options.Drawing.TheVariants.{Chart, Picture}
use Rattle.tf_asked.specs.declared.options.Work.{Work as Asking}
use Rattle.tf_asked.specs.declared.options.Work.TheVariants.{Solve, Bound, Plan, Trace, Check, Evaluate, Assess, Rate, Gantt, Random, Problems, Border, Picture as Dated}

-- a chart has some columns, and no more than there is room for
abbrev pub HasWidth : Drawing → Type 0
HasWidth (Chart columns) = (1 ≤ columns) × (columns ≤ most_columns)
HasWidth (Picture view) = Unit {0}

-- the same of what is asked for
abbrev pub IsSized : Asking → Type 0
IsSized (Solve options layout) = Unit {0}
IsSized (Bound options steps) = Unit {0}
IsSized (Plan options layout steps) = Unit {0}
IsSized (Trace options style) = Unit {0}
IsSized (Check options answer) = Unit {0}
IsSized (Evaluate evaluating) = Unit {0}
IsSized (Assess assessing) = Unit {0}
IsSized (Rate options orders aids) = Unit {0}
IsSized (Gantt answer drawing explain) = HasWidth drawing
IsSized (Dated picturing) = Unit {0}
IsSized (Random wanted) = Unit {0}
IsSized (Problems listed table) = Unit {0}
IsSized Border = Unit {0}
