use Rattle.std.proofs.Common.{◌≡◌, take, string_bytes}
use Rattle.tf_notation.specs.Canonical.{listed_text, all_conditions}
use Rattle.tf_notation.proofs.writing.listed_text.Given as goal

abbrev pub invariant-loop-condition : goal.invariant-loop-condition
invariant-loop-condition g l = record {
  items : l.condition-items ≡ all_conditions;
  same : string_bytes l.list ≡ listed_text l.problem (take l.condition-index l.condition-items);
}
