use Rattle.std.proofs.Common.{◌<◌, ◌∷◌, [], ◌++◌, ap, sym, ◌∙◌, arith, IsOk, vec_len, vec_capacity, ◌+◌, map}
use Rattle.std.specs.List.{range_with_len}
use Rattle.std.proofs.lemmas.List.{nil_from_length}
use Rattle.std.proofs.lemmas.List.FromFn.{map-range_with_len_more}
use Rattle.tf_read.specs.InstanceNumbers.{job_of}
use Rattle.tf_read.proofs.RoomKept.{when_ok}
use Rattle.tf_read.proofs.instance_numbers.Columns.jobs.Goals as goal

pub loop-j-init : goal.loop-j-init
loop-j-init g c = record {
  made = nil_from_length _ (omega (arith, c.args.room.ok.0, c.requires.empty));
  length = c.requires.empty;
  room = c.requires.room;
}

pub loop-j-preserved : goal.loop-j-preserved
loop-j-preserved g c =
    let kept = c.loop-j.invariant in
    let made = job_of c.args.jobs c.args.self.now in
    let left : vec_len c.loop-j.room < vec_capacity c.loop-j.room =
    omega (arith, kept.length, kept.room, c.loop-j-test.true) in
    let ok : IsOk c.push.result = c.push.ensures.succeeds left in
    record {
      made =
          when_ok c.push.result _ _ _ ok c.push.ensures.items
          ∙ ap (λ x. c.loop-j.room.items ++ x ∷ []) c.job.ensures
          ∙ ap (λ js. js ++ made c.loop-j.j ∷ []) kept.made
          ∙ sym (map-range_with_len_more made 0 c.loop-j.j c.loop-j.j (omega arith));
      length = when_ok c.push.result _ _ _ ok c.push.ensures.len ∙ ap (λ n. n + 1) kept.length;
      room = omega (arith, c.push.ensures.capacity, kept.room);
    }

pub returns : goal.returns
returns g c =
    c.loop-j.invariant.made
    ∙ ap (λ n. map (job_of c.args.jobs c.args.self.now) (range_with_len 0 n))
    (omega (arith, c.loop-j-test.false, c.loop-j.auto.j-end))
