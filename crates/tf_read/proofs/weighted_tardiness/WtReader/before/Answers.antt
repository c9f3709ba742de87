use Rattle.std.proofs.Common.{refl}
use Rattle.tf_read.proofs.weighted_tardiness.WtReader.before.Goals as goal

pub returns : goal.returns
returns g c = λ n k taken. record {
  jobs = n;
  index = k;
  wanted = λ text. refl;
  left = refl;
  taken = λ short. taken;
}
