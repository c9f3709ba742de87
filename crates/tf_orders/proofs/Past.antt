-- The lines after those of a part.
use Rattle.std.proofs.Common.{◌≡◌, true, false, List, [], ◌∷◌, refl, sym, ap, subst, ◌∙◌}
use Rattle.tf_words.specs.Words.{KeptLine, words}
use Rattle.tf_orders.specs.declared.pieces.Part.{Part}
use Rattle.tf_orders.specs.Pieces.{is_of_part, past}

module _ (part : Part) (all rest : List KeptLine) (same : past part rest ≡ past part all) where
  pub past_end : rest ≡ [] → rest ≡ past part all
  unfolding past
  past_end none =
      let nothing : past part rest ≡ [] = ap (past part) none in none ∙ sym nothing ∙ same

  module _ (line : KeptLine) (more : List KeptLine) (first : rest ≡ line ∷ more) where
    -- with a line of it more
    pub past_more : is_of_part part (words line.bytes) ≡ true → past part more ≡ past part all
    unfolding past
    past_more is =
        let step : past part (line ∷ more) ≡ past part more = rw is refl in
        sym step ∙ subst (λ (ls : List KeptLine). past part ls ≡ past part all) first same

    -- up to another line
    pub past_stop : is_of_part part (words line.bytes) ≡ false → rest ≡ past part all
    unfolding past
    past_stop is =
        let step : past part (line ∷ more) ≡ line ∷ more = rw is refl in
        first ∙ sym step ∙ subst (λ (ls : List KeptLine). past part ls ≡ past part all) first same
