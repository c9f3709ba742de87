-- What a run is asked for.
use Rattle.tf_text.specs.declared.answer.layout.Layout.{Layout}
use Rattle.tf_engine.specs.FormData.{FormData, InTable, InWt, InFlow}
use Rattle.tf_engine.specs.RequestData.{RequestData}
use Rattle.tf_asked.specs.declared.options.FormOption.{FormOption}
use Rattle.tf_asked.specs.declared.options.FormOption.TheVariants.{Table, Wt, Flow}
use Rattle.tf_asked.specs.declared.options.Options.{Options}

-- the form of the instance, as `--format` and the options of that form say it
abbrev pub form_asked : FormOption → FormData
form_asked Table = InTable
form_asked (Wt jobs index) = InWt jobs index
form_asked (Flow name pair) = InFlow name.now pair

-- the request of these options, with an answer in this version
abbrev pub requested : Options → Layout → RequestData
requested options layout = record {
  problem = options.problem.now;
  form = form_asked options.form;
  machines = options.machines;
  layout = layout;
}
