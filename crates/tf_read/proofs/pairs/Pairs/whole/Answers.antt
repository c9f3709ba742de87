use Rattle.std.proofs.Common.{◌≤◌, sym, ap, ◌∙◌, arith, refl}
use Rattle.tf_read.specs.Pairs.{Pairs}
use Rattle.tf_read.proofs.FlowInstance.{all_over, missing_is, whole_is, whole_judged, whole_length}
use Rattle.tf_read.proofs.pairs.Pairs.whole.Goals as goal

pub returns-in-Some : goal.returns-in-Some
returns-in-Some g c = λ says seen h.
    sym (h.0 seen ∙ missing_is c.args.self seen c.in-Some.fault c.missing.ensures.within h.1
    (sym c.missing.ensures.value ∙ c.in-Some.is))

pub invariant_of-result : goal.invariant_of-result
invariant_of-result g c =
    let kept = c.self.invariant in
    let inside = c.self.inside in
    let over = all_over c.args.self (sym c.missing.ensures.value ∙ c.in-None.is) in
    let over_here : inside.jobs ≤ inside.job =
    omega (
      arith,
      over,
      ap (λ (p : Pairs). p.jobs) c.self.view_is,
      ap (λ (p : Pairs). p.job) c.self.view_is,
    ) in
    let firsts = whole_length _ _ _ _ inside.first kept.firsts_len (kept.over over_here) over_here
    kept.few in
    let seconds = whole_length _ _ _ _ inside.second kept.seconds_len (kept.over over_here)
    over_here kept.few in
    record {
      all = (
        omega (arith, firsts, inside.firsts.ok.0),
        omega (arith, seconds, inside.seconds.ok.0),
      );
      sound = rw c.machine_count.ensures
          (whole_judged inside.jobs inside.machines inside.pair inside.firsts.items
          inside.seconds.items kept.some kept.jobs_few (omega (arith, kept.within))
          kept.machines_few kept.first_times kept.second_times);
      no_job = kept.no_job;
      jobs_room = kept.jobs_room;
    }

pub returns-in-None : goal.returns-in-None
returns-in-None g c = λ says seen h.
    rw c.machine_count.ensures
    (sym (h.0 seen ∙ whole_is c.args.self seen c.missing.ensures.few c.missing.ensures.over
    c.missing.ensures.over_named h.1 (sym c.missing.ensures.value ∙ c.in-None.is)
    ∙ rw (← c.self.view_is) refl))
