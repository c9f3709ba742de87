use Rattle.std.proofs.Common.{w64, SFits, rules}
use Rattle.std.proofs.lemmas.Int.{to_z-of_z}
use Rattle.tf_words.specs.Words.{words}
use Rattle.tf_text.specs.AnswerReading.{certificate_in, certificate_at}
use Rattle.tf_text.specs.AnswerStage.{head_of, from_end}
use Rattle.tf_text.proofs.Stages.{says_then, says_fault, handed_on, piece_then, piece_fault, other_line}
use Rattle.tf_text.proofs.answer.stage.Stage.behind_piece.Goals as goal

pub returns-in_err-piece_in : goal.returns-in_err-piece_in
returns-in_err-piece_in g c = λ more total h.
    handed_on _ _ _ total c.from_residual.ensures.1
    (piece_fault _ _ _ _ _ more _ total c.in-Some.ensures c.in_err-piece_in.ensures h)

pub returns-in-Some : goal.returns-in-Some
returns-in-Some g c = λ more total h.
    let fits : SFits w64 c.args.value = search rules in
    rw (to_z-of_z w64 c.args.value fits)
    (piece_then (head_of c.args.head) _ _ _ _ _ _ more total c.in_ok-push.ensures.items
    c.in-Some.ensures c.in_ok-piece_in.ensures h)

pub returns-in_err-certificate : goal.returns-in_err-certificate
unfolding certificate_at
returns-in_err-certificate g c = λ more total h.
    handed_on _ _ _ total c.from_residual-in_err-certificate.ensures.1
    (says_fault (λ line. certificate_in c.args.head.layout line.number (words line.bytes))
    (λ claim. from_end (head_of c.args.head) (record {
      pieces = c.args.pieces.items;
      value = c.args.value;
      certificate = claim;
    })) _ more _ total c.in_err-certificate.ensures
    (other_line _ _ _ _ more total c.in_default.ensures h))

pub returns : goal.returns
unfolding certificate_at
returns g c = λ more total h.
    let fits : SFits w64 c.args.value = search rules in
    rw (c.new.ensures, to_z-of_z w64 c.args.value fits)
    (says_then (λ line. certificate_in c.args.head.layout line.number (words line.bytes))
    (λ claim. from_end (head_of c.args.head) (record {
      pieces = c.args.pieces.items;
      value = c.args.value;
      certificate = claim;
    })) _ more _ total c.in_ok-certificate.ensures
    (other_line _ _ _ _ more total c.in_default.ensures h))
