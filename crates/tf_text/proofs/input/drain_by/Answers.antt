use Rattle.std.proofs.Common.{◌≡◌, ℕ, ◌≤◌, List, ◌++◌, length, take, rules, arith, length-append, length-take, subst}
use Rattle.std.proofs.lemmas.List.{take-append-le}
use Rattle.std.proofs.KnownBytes.{Consumes-trans}
use Rattle.tf_text.proofs.input.drain_by.Goals as goal

pub loop-left-preserved : goal.loop-left-preserved
loop-left-preserved g c =
    let kept = c.loop-left.invariant in
    let (bytes, count, given, took) = kept.taken in
    let n = c.in_ok-n.n in
    let piece : List ℕ = take n c.pull.new.buf in
    let long : length piece ≡ n = search (rules, length-take) in
    let le : n ≤ c.loop-left.left = search (rules, length-take) in
    record {
      room = search rules;
      taken = (
        bytes ++ piece,
        omega (arith, length-append bytes piece, long, count, le),
        Consumes-trans _ _ _ bytes piece given c.in_ok-n.ensures.bytes,
        g.met.F.Feed.took_both _ _ _ bytes piece took
            (subst (λ (bs : List ℕ). g.F.Feed.Takes c.loop-left.into bs c.feed.new.self)
            (take-append-le n c.pull.new.buf _ c.in_ok-n.ensures.within) c.feed.ensures),
      );
      counted = omega (arith, kept.counted, c.in_ok-n.ensures.counted, le);
      unfailed = λ lt. c.in_ok-n.ensures.unfailed;
      failed_before = λ failed. absurd (let no' : ⊥ = search rules in no');
    }
