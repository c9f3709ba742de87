use Rattle.std.proofs.Common.{◌≡◌, ◌++◌, map, take, string_bytes}
use Rattle.std.specs.Option.{option_map}
use Rattle.tf_listing.specs.Listing.{lines_of}
use Rattle.tf_listing.specs.Unsolved.{unsolved}
use Rattle.tf_listing.specs.declared.listing.Listed.TheVariants.{Bounded}
use Rattle.tf_listing.specs.declared.unsolved.TheConstants.{UNSOLVED}
use Rattle.tf_listing.proofs.listing.push_bounded.Given as goal

abbrev pub invariant-loop-pair : goal.invariant-loop-pair
invariant-loop-pair g l = record {
  items : l.pair-items ≡ UNSOLVED;
  same : string_bytes l.text ≡ string_bytes l.fn.text
      ++ lines_of Bounded (option_map (λ i. i.now) l.instance)
      (map (λ pair. unsolved pair.0 pair.1) (take l.pair-index UNSOLVED));
}
