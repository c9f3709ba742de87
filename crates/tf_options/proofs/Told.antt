-- What is told in place of the work of a command.
use Rattle.std.proofs.Common.{◌≡◌, ℕ, Bool, true, false, ◌||◌, IsTrue, List, codes, refl, sym, if◌then◌else◌}
use Rattle.std.proofs.lemmas.Bool.{true≢false}
use Rattle.std.specs.Str.{bytes_eq}
use Rattle.tf_options.specs.Matched.{Given, IsToldInstead, options_fault}
use Rattle.tf_options.specs.Understood.{fault_by, has_no_answer, is_incomplete, is_rating, lacks_answer, lacks_options}
use Rattle.tf_options.specs.declared.wrong.Wrong.{Wrong}
use Rattle.tf_options.specs.declared.wrong.Wrong.TheVariants.{Unfit, Missing}

lacks_more : (less is more : Bool) → IsTrue less → IsTrue (if is then less else (less || more))
lacks_more true true more h = h
lacks_more true false more h = h
lacks_more false is more h = absurd (true≢false (sym h))

module _ (name : List ℕ) (given : Given) (gantt : bytes_eq name (codes "gantt") ≡ false)
    (problems : bytes_eq name (codes "problems") ≡ false)
    (random : bytes_eq name (codes "random") ≡ false) where
  -- what is told in place of the options is told in place of the work
  pub told_of_options : (wrong : Wrong)
      → IsToldInstead (lacks_options given) (options_fault given) wrong
      → IsToldInstead (is_incomplete name given) (fault_by name given) wrong
  told_of_options (Unfit message) h = rw (gantt, problems, random, h) refl
  told_of_options Missing h =
      rw (gantt, random)
      (lacks_more (lacks_options given) (has_no_answer name || is_rating name given)
      (lacks_answer name given) h)
