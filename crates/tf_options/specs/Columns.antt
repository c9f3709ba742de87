-- How many columns a chart may have that a command line asks for.
use Rattle.tf_asked.specs.Columns.{IsSized}
use Rattle.tf_options.specs.declared.options.Asked.{Asked}
use Rattle.tf_options.specs.declared.options.Asked.TheVariants.{Work, Formatted}

-- its charts have some columns, and no more than there is room for
abbrev pub HasColumns : Asked → Type 0
HasColumns (Work work) = IsSized work
HasColumns (Formatted work format) = IsSized work
HasColumns _ = Unit {0}
