use Rattle.std.proofs.Common.{◌≡◌, length, arith}
use Rattle.tf_read.proofs.JobsJudged.{jobs_few, table_judged}
use Rattle.tf_read.proofs.job_table.body_of.Goals as goal

pub overflow_cast-len : goal.overflow_cast-len
overflow_cast-len g c = let few = jobs_few _ _ c.in_ok-jobs.ensures.jobs in
    omega (arith, few, c.len.ensures, c.in_ok-jobs.jobs.ok.0)

pub of-requires : goal.of-requires
of-requires g c = let count : c.len.result ≡ length c.in_ok-jobs.jobs.items =
    omega (arith, c.len.ensures, c.in_ok-jobs.jobs.ok.0) in
    table_judged _ _ _ c.len.result _ c.args.machines c.in_ok-jobs.ensures.jobs count
    c.in_ok-arcs.ensures c.requires
