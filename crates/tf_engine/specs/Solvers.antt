-- Why a task is not solved.
pub use Rattle.tf_single.specs.NotSolved.{IsNamedCycle, IsNotSolved}
