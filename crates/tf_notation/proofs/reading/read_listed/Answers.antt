use Rattle.std.proofs.Common.{arith, sym, ◌∙◌}
use Rattle.std.proofs.lemmas.Result.{err_from_is_err_and}
use Rattle.tf_notation.proofs.Listed.{fault_condition, fault_divider, last, another}
use Rattle.tf_notation.proofs.reading.read_listed.Goals as goal

pub returns-in_err-more-clause-read : goal.returns-in_err-more-clause-read
returns-in_err-more-clause-read c = let p =
    err_from_is_err_and c.from_residual.result c.from_residual.ensures.1 in
    rw (p.1, p.2)
    (sym c.loop-more.invariant.same ∙ fault_condition _ _ _ _ c.in_err-more.ensures.read)

pub returns-in_err-another-clause-read : goal.returns-in_err-another-clause-read
returns-in_err-another-clause-read c = let p =
    err_from_is_err_and c.from_residual-in_err-another.result
    c.from_residual-in_err-another.ensures.1 in
    rw (p.1, p.2)
    (sym c.loop-more.invariant.same
    ∙ fault_divider _ _ _ _ _ _ c.in_ok-more.ensures.read c.in_err-another.ensures.read)

pub returns-then-not-another-clause-read : goal.returns-then-not-another-clause-read
returns-then-not-another-clause-read c = sym c.loop-more.invariant.same
    ∙ last _ _ _ _ _ _ _ c.in_ok-more.ensures.read c.in_ok-another.ensures.read
    c.if-not-another.true

pub loop-more-preserved : goal.loop-more-preserved
loop-more-preserved c = record {
  from = omega (arith, c.in_ok-more.ensures.inside, c.in_ok-another.ensures.inside);
  inside = omega (arith, c.in_ok-more.ensures.inside, c.in_ok-another.ensures.inside);
  same = sym (another _ _ _ _ _ _ _ c.in_ok-more.ensures.read c.in_ok-another.ensures.read
      c.if-not-another.false) ∙ c.loop-more.invariant.same;
}
