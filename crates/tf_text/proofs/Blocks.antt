-- The lines of pieces, block by block.
use Rattle.std.proofs.Common.{◌≡◌, ℕ, ◌-◌, List, length, ◌++◌, map, take, drop, Option, sym, ap, subst, ◌∙◌}
use Rattle.std.specs.List.{flat_map}
use Rattle.std.specs.Io.KnownBytes.{Appends}
use Rattle.std.proofs.KnownBytes.{Appends-trans}
use Rattle.std.proofs.lemmas.Grind.{flat_map-append}
use Rattle.std.proofs.lemmas.List.{map-append, take-append-drop, take_rest}
use Rattle.tf_schedule.specs.declared.piece.Piece.{Piece}
use Rattle.tf_text.specs.AnswerText.{piece_words, line_text, pieces_text}
use Rattle.tf_text.specs.Counted.{AppendsPrefix}
use Rattle.tf_text.proofs.Prefix.{prefix_then}

-- the lines of pieces and of others
both : (xs ys : List Piece) → pieces_text (xs ++ ys) ≡ pieces_text xs ++ pieces_text ys
both xs ys =
    ap (flat_map line_text) (map-append piece_words xs ys)
    ∙ flat_map-append line_text (map piece_words xs) (map piece_words ys)

-- a text at the end of a block
pub end_text : (block text : List ℕ) (long at : ℕ) → length block ≡ long → drop at block ≡ text
    → take (long - at) (drop at block) ≡ text
end_text block text long at is_long is =
    subst (λ n. take (n - at) (drop at block) ≡ text) is_long (take_rest block at ∙ is)

-- the rest of pieces, cut in two
pub cut_rest : (pieces done rest next later : List Piece) (at : ℕ) → done ++ rest ≡ pieces
    → next ≡ take at rest → later ≡ drop at rest → done ++ (next ++ later) ≡ pieces
cut_rest pieces done rest next later at is front back =
    rw (front, back) (ap (λ ps. done ++ ps) (take-append-drop at rest) ∙ is)

-- pieces were written, and then the next ones
pub block_written : (a b c : Option (List ℕ)) (done next : List Piece)
    → Appends a b (pieces_text done) → Appends b c (pieces_text next)
    → Appends a c (pieces_text (done ++ next))
block_written a b c done next written more =
    subst (Appends a c) (sym (both done next))
    (Appends-trans a b c (pieces_text done) (pieces_text next) written more)

-- pieces were written, and then a prefix of the next ones
pub block_prefix : (a b c : Option (List ℕ)) (pieces done next later : List Piece)
    → done ++ (next ++ later) ≡ pieces → Appends a b (pieces_text done)
    → AppendsPrefix b c (pieces_text next) → AppendsPrefix a c (pieces_text pieces)
block_prefix a b c pieces done next later parts written more =
    subst (AppendsPrefix a c)
    (ap (λ text. pieces_text done ++ text) (sym (both next later))
    ∙ sym (both done (next ++ later)) ∙ ap pieces_text parts)
    (prefix_then a b c (pieces_text done) (pieces_text next) (pieces_text later) written more)
