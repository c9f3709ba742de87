use Rattle.tf_search.proofs.strongest.of_sum.Goals as goal

pub returns : goal.returns
returns g c =
    let k = c.args.task.now in
    c.improved-2.ensures k (c.in_ok-best.ensures k c.in_ok-weighed.ensures c.by_multipliers.ensures)
    c.by_prices.ensures
