use Rattle.std.proofs.Common.{◌≡◌, ℕ, ltb, false, refl, arith}
use Rattle.std.proofs.lemmas.Bool.{le-ltb}
use Rattle.tf_read.proofs.FlowInstance.{no_times}
use Rattle.tf_read.proofs.FlowWords.{none_read}
use Rattle.tf_read.proofs.pairs.Pairs.new.Goals as goal

pub invariant_of-result : goal.invariant_of-result
invariant_of-result g c =
    let none : (n : ℕ) → ltb n 0 ≡ false = λ n. le-ltb n 0 (omega arith) in record {
      some = c.requires.some;
      within = c.requires.machines_some;
      machines_few = c.requires.machines_few;
      first_is = c.kept-first.ensures.first;
      second_is = c.kept-first.ensures.second;
      first_there = c.kept-first.ensures.first_there;
      second_there = c.kept-first.ensures.second_there;
      few = omega arith;
      jobs_few = c.requires.few;
      over = λ le. refl;
      over_named = λ le. refl;
      firsts_len = rw (none c.kept-first.result.0) c.in_ok-firsts.ensures.len;
      seconds_len = rw (none c.kept-first.result.1) c.in_ok-seconds.ensures.len;
      firsts_room = omega (arith, c.in_ok-firsts.ensures.exact);
      seconds_room = omega (arith, c.in_ok-seconds.ensures.exact);
      jobs_room = omega (arith, c.in_ok-room.ensures.exact);
      no_job = c.in_ok-room.ensures.len;
      first_times = no_times _ c.in_ok-firsts.ensures.items;
      second_times = no_times _ c.in_ok-seconds.ensures.items;
    }

pub returns : goal.returns
returns g c = (
  λ words. refl,
  rw (c.in_ok-firsts.ensures.items, c.in_ok-seconds.ensures.items)
      (none_read c.args.jobs c.args.machines c.args.pair
      (omega (arith, c.kept-first.ensures.first, c.kept-first.ensures.first_there))
      (omega (arith, c.kept-first.ensures.second, c.kept-first.ensures.second_there))),
)
