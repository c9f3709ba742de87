use Rattle.std.proofs.Common.{refl, arith}
use Rattle.tf_read.proofs.OneInstance.{no_numbers, all_before, all_near}
use Rattle.tf_read.proofs.Progress.{none_read}
use Rattle.tf_read.proofs.numbers.Numbers.new.Goals as goal

pub invariant_of-result : goal.invariant_of-result
invariant_of-result g c = record {
  some = c.requires.some;
  few = c.requires.few;
  before = refl;
  up_to = all_before c.args.jobs c.args.index c.requires.from_one;
  own = refl;
  near = all_near c.args.jobs c.args.index c.requires.few c.requires.from_one c.requires.near;
  room = omega (arith, c.in_ok-numbers.ensures.exact);
  within = omega arith;
  tally = omega (arith, c.in_ok-numbers.ensures.len);
  jobs_room = omega (arith, c.in_ok-room.ensures.exact);
  no_job = c.in_ok-room.ensures.len;
  in_range = no_numbers c.args.jobs _ c.in_ok-numbers.ensures.items;
}

pub returns : goal.returns
returns g c = (λ words. refl, rw c.in_ok-numbers.ensures.items (none_read c.args.jobs c.args.index))
