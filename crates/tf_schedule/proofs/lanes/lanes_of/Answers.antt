use Rattle.std.proofs.Common.{◌+◌, ◌<◌, ◌≤◌, Bool, true, false, ◌&&◌, List, length, length-set, take, refl, sym, ap, ◌∙◌, subst, arith, IsTrue}
use Rattle.std.proofs.lemmas.List.{take_all}
use Rattle.tf_schedule.specs.declared.piece.Piece.{Piece}
use Rattle.tf_schedule.specs.Claims.{JobsOnce}
use Rattle.tf_schedule.specs.Lanes.{LanesData, HasLanes}
use Rattle.tf_schedule.proofs.OnLanes.{lanes_more, once_more, start_is, stop_is}
use Rattle.tf_schedule.proofs.lanes.lanes_of.Goals as goal

-- both of two tests
both : (a b : Bool) → IsTrue (a && b) → IsTrue a × IsTrue b
both true b e = (refl, e)
both false b e = cc

pub loop-piece-preserved : goal.loop-piece-preserved
loop-piece-preserved g c =
    let ps = c.args.pieces.now in
    let i = c.loop-piece.piece-index in
    let p = c.piece-item.result in
    let some : 1 ≤ p.job = omega (arith, c.add.ensures.from_one) in
    record {
      lanes = subst (HasLanes c.args.jobs (take (i + 1) ps)) (sym c.add.ensures.added)
          (lanes_more c.args.jobs ps i p c.loop-piece-test.true c.piece-item.is some
          c.loop-piece.lanes c.loop-piece.invariant.lanes);
      machines = λ keeps. ap (λ (l : LanesData). length l.machines) c.add.ensures.added
          ∙ length-set c.loop-piece.lanes.machines _ _ ∙ c.loop-piece.invariant.machines keeps;
      once = λ known apart.
          let tests = both c.loop-piece.are_apart c.is_apart-are_apart.result apart in
          let own : (0 < p.job) × (p.job ≤ c.args.jobs) =
          subst (λ (q : Piece). (0 < q.job) × (q.job ≤ c.args.jobs)) (sym c.piece-item.is)
          (known i p c.loop-piece-test.true) in
          once_more ps i p c.loop-piece-test.true c.piece-item.is c.requires
          (c.loop-piece.invariant.once known tests.0)
          (rw (
            start_is c.args.jobs (take i ps) c.loop-piece.lanes
                c.loop-piece.invariant.lanes p.job some own.1,
            stop_is c.args.jobs (take i ps) c.loop-piece.lanes
                c.loop-piece.invariant.lanes p.job some own.1,
          ) at c.is_apart-are_apart.ensures.0 tests.1);
    }

pub returns-clause-lanes : goal.returns-clause-lanes
returns-clause-lanes g c =
    subst (λ (ps : List Piece). HasLanes c.args.jobs ps c.loop-piece.lanes)
    (take_all c.loop-piece.piece-index c.args.pieces.now c.loop-piece-test.false)
    c.loop-piece.invariant.lanes

pub returns-clause-once : goal.returns-clause-once
returns-clause-once g c known apart =
    subst JobsOnce
    (take_all c.loop-piece.piece-index c.args.pieces.now c.loop-piece-test.false)
    (c.loop-piece.invariant.once known apart)
