use Rattle.std.proofs.Common.{◌≡◌, ◌≤◌, ◌*◌, refl, sym, ap, ◌∙◌, arith}
use Rattle.tf_read.specs.Numbers.{Progress, tardiness_wanted}
use Rattle.tf_read.proofs.OneInstance.{all_read, missing_is, whole_is, whole_judged}
use Rattle.tf_read.proofs.numbers.Numbers.whole.Goals as goal

pub returns-in-Some : goal.returns-in-Some
returns-in-Some g c = λ says seen h.
    sym (h.0 seen ∙ missing_is c.args.self seen c.in-Some.fault h.1 (sym c.in-Some.ensures))

pub invariant_of-result : goal.invariant_of-result
invariant_of-result g c =
    let kept = c.self.invariant in
    let all : tardiness_wanted c.args.self ≤ c.args.self.count =
    all_read c.args.self (sym c.missing.ensures ∙ c.in-None.is) in
    let wanted_is : 3 * c.self.inside.jobs * c.self.inside.index ≡ tardiness_wanted c.args.self =
    ap tardiness_wanted c.self.view_is in
    let count_is : c.self.inside.count ≡ c.args.self.count =
    ap (λ (p : Progress). p.count) c.self.view_is in
    record {
      all = omega (arith, all, wanted_is, count_is, kept.up_to, kept.own, kept.within, kept.tally);
      sound = whole_judged c.self.inside.jobs c.self.inside.numbers.items kept.some kept.few
          kept.in_range;
      no_job = kept.no_job;
      jobs_room = kept.jobs_room;
    }

pub returns-in-None : goal.returns-in-None
returns-in-None g c = λ says seen h.
    sym (h.0 seen ∙ whole_is c.args.self seen h.1 (sym c.missing.ensures ∙ c.in-None.is)
    ∙ rw (← c.self.view_is) refl)
