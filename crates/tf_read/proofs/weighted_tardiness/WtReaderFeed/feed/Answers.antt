use Rattle.std.proofs.Common.{◌≡◌, ℕ, ◌+◌, ◌-◌, ◌≤◌, ◌++◌, List, length, length-append, sym, subst, arith}
use Rattle.tf_model.specs.Limit.{most_bytes}
use Rattle.tf_read.specs.WeightedTardiness.{instance_of}
use Rattle.tf_read.specs.WtReading.{HasTakenTardiness}
use Rattle.tf_read.proofs.weighted_tardiness.WtReaderFeed.feed.Goals as goal

-- what may follow a piece more
less : (fed piece : List ℕ) (before after : ℕ) → before ≡ most_bytes + 1 - length fed
    → after ≡ before - length piece → after ≡ most_bytes + 1 - length (fed ++ piece)
less fed piece before after was is = omega (arith, was, is, length-append fed piece)

-- what is in reach with a piece more was so before
front_few : (fed piece : List ℕ) → length (fed ++ piece) ≤ most_bytes → length fed ≤ most_bytes
front_few fed piece few = omega (arith, few, length-append fed piece)

pub returns-then-self-eq0 : goal.returns-then-self-eq0
returns-then-self-eq0 g c = λ says fed h.
    let left = less fed c.args.piece.now _ _ h.left c.saturating_sub-self.ensures in
    record {
      jobs = h.jobs;
      index = h.index;
      wanted = h.wanted;
      left = left;
      taken = λ few. absurd (omega (arith, few, left, c.if-self-eq0.true));
    }

pub returns-in-Ok : goal.returns-in-Ok
returns-in-Ok g c = λ says fed h. record {
  jobs = h.jobs;
  index = h.index;
  wanted = h.wanted;
  left = less fed c.args.piece.now _ _ h.left c.saturating_sub-self.ensures;
  taken = λ few.
      let taken = subst (λ r. HasTakenTardiness h.jobs h.index r fed) c.in-Ok.is
      (h.taken (front_few fed c.args.piece.now few)) in
      (taken.0, c.feed.ensures.fed 1 (instance_of h.jobs h.index) fed taken.1);
}

pub returns-in_default : goal.returns-in_default
returns-in_default g c = λ says fed h. record {
  jobs = h.jobs;
  index = h.index;
  wanted = h.wanted;
  left = less fed c.args.piece.now _ _ h.left c.saturating_sub-self.ensures;
  taken = λ few.
      subst (λ r. HasTakenTardiness h.jobs h.index r (fed ++ c.args.piece.now))
      (sym c.in_default.is)
      (subst (λ r. HasTakenTardiness h.jobs h.index r fed) c.in_default.is
      (h.taken (front_few fed c.args.piece.now few)));
}
