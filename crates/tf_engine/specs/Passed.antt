-- What `?` makes of the fault of a part.
use Rattle.tf_notation.specs.declared.reading.NotationFault.{NotationFault}
use Rattle.tf_model.specs.declared.prepare.Refusal.{Refusal}
use Rattle.tf_model.specs.declared.prepare.Refusal.TheVariants as refusals
use Rattle.tf_read.specs.declared.fault.ReadFault.{ReadFault}
use Rattle.tf_read.specs.declared.fault.ReadFault.TheVariants as reads
use Rattle.tf_schedule.specs.declared.schedule.PieceFault.{PieceFault}
use Rattle.tf_text.specs.declared.input.InputFault.{InputFault}
use Rattle.tf_text.specs.declared.input.InputFault.TheVariants as inputs
use Rattle.tf_text.specs.declared.answer.fault.AnswerFault.{AnswerFault}
use Rattle.tf_text.specs.declared.answer.fault.AnswerFault.TheVariants as answers
use Rattle.tf_text.specs.declared.answer.writing.WriteFault.{WriteFault}
use Rattle.tf_text.specs.declared.answer.writing.WriteFault.TheVariants as writes
use Rattle.tf_single.specs.declared.lawler_fault.LawlerFault.{LawlerFault}
use Rattle.tf_single.specs.declared.lawler_fault.LawlerFault.TheVariants as solves
use Rattle.tf_engine.specs.declared.fault.RunFault.{RunFault}
use Rattle.tf_engine.specs.declared.fault.RunFault.TheVariants.{Notation, Text, Task, Cycle, Answer, Pieces, Device, OutOfMemory}

abbrev pub of_notation : {A : Type 0} → NotationFault → RunFault A
of_notation fault = Notation fault

abbrev pub of_input : {A : Type 0} → InputFault → RunFault A
of_input inputs.Device = Device
of_input inputs.TooLong = Text reads.TooLong
of_input inputs.OutOfMemory = OutOfMemory

abbrev pub of_read : {A : Type 0} → ReadFault → RunFault A
of_read reads.OutOfMemory = OutOfMemory
of_read fault = Text fault

abbrev pub of_refusal : {A : Type 0} → Refusal → RunFault A
of_refusal refusals.OutOfMemory = OutOfMemory
of_refusal refusal = Task refusal

abbrev pub of_answer : {A : Type 0} → AnswerFault → RunFault A
of_answer answers.OutOfMemory = OutOfMemory
of_answer fault = Answer fault

abbrev pub of_solve : {A : Type 0} → LawlerFault A → RunFault A
of_solve (solves.Cycle jobs) = Cycle jobs
of_solve solves.OutOfMemory = OutOfMemory

abbrev pub of_write : {A : Type 0} → WriteFault → RunFault A
of_write writes.Device = Device
of_write writes.OutOfMemory = OutOfMemory

abbrev pub of_pieces : {A : Type 0} → PieceFault → RunFault A
of_pieces fault = Pieces fault
