use Rattle.std.proofs.Common.{ℕ, List, ◌∷◌, ◌+◌, drop, sym, ap, ◌∙◌, get_or}
use Rattle.tf_notation.specs.Tokens.{is_gap, tokens_from}
use Rattle.tf_notation.proofs.Runs.{token_at, no_token, next}
use Rattle.tf_notation.proofs.token.next_token.Goals as goal

pub token_len-len-requires-clause-at_token : goal.token_len-len-requires-clause-at_token
token_len-len-requires-clause-at_token c =
    let m = token_at 0 c.split_at.result.1.now c.in-Some.gap
    (sym c.token_start.ensures ∙ c.in-Some.is) in
    ap (λ (xs : List ℕ). is_gap (get_or xs 0 0)) c.split_at-in-Some.ensures.back ∙ m.first

pub returns-in-None-clause-token : goal.returns-in-None-clause-token
returns-in-None-clause-token c = ap (tokens_from c.args.offset) (sym c.split_at.ensures.back)
    ∙ no_token c.args.offset c.split_at.result.1.now (sym c.token_start.ensures ∙ c.in-None.is)

pub returns-in-Some-clause-token : goal.returns-in-Some-clause-token
returns-in-Some-clause-token c =
    let m = token_at c.args.offset c.split_at.result.1.now c.in-Some.gap
    (sym c.token_start.ensures ∙ c.in-Some.is) in
    let n = next c.args.text.now c.split_at.result.1.now c.split_at-in-Some.result.1.now
    c.args.offset c.in-Some.gap c.token_len-len.result c.split_at.ensures.back
    c.split_at-in-Some.ensures.back m.same
    (c.token_len-len.ensures.token (c.args.offset + c.in-Some.gap)) in
    n ∙ ap (λ (word : List ℕ). record { start = c.args.offset + c.in-Some.gap; bytes = word }
    ∷ tokens_from ((c.args.offset + c.in-Some.gap) + c.token_len-len.result)
    (drop ((c.args.offset + c.in-Some.gap) + c.token_len-len.result) c.args.text.now))
    (sym c.split_at-in-Some-2.ensures.front)
