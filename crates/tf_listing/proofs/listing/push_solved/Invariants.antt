use Rattle.std.proofs.Common.{◌≡◌, ◌++◌, map, take, string_bytes}
use Rattle.std.specs.Option.{option_map}
use Rattle.tf_model.specs.ClassTable.{notation_of}
use Rattle.tf_listing.specs.Listing.{classes, lines_of}
use Rattle.tf_listing.specs.declared.listing.Listed.TheVariants.{Solved}
use Rattle.tf_listing.proofs.listing.push_solved.Given as goal

abbrev pub invariant-loop-class : goal.invariant-loop-class
invariant-loop-class g l = record {
  items : l.class-items ≡ classes;
  same : string_bytes l.text ≡ string_bytes l.fn.text
      ++ lines_of Solved (option_map (λ i. i.now) l.instance)
      (map notation_of (take l.class-index classes));
}
