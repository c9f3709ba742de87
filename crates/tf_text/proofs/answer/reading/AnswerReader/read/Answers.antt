use Rattle.std.proofs.Common.{◌≡◌, ℕ, List, is_ok, ◌+◌, ◌≤◌, ◌∷◌, ◌++◌, length, ap, subst, ◌∙◌, arith, append_assoc, length-append}
use Rattle.tf_text.specs.AnswerReader.{Awaits}
use Rattle.tf_text.proofs.TextLines.{grown_of_line, cut_at, uncut}
use Rattle.tf_text.proofs.answer.reading.AnswerReader.read.Goals as goal

-- a piece by its first line and what follows
longer : (text front after : List ℕ) → text ≡ front ++ 10 ∷ after → length after + 1 ≤ length text
longer text front after is = omega (arith, ap length is, length-append front (10 ∷ after))

pub invariant_of-self-clause-own : goal.invariant_of-self-clause-own
invariant_of-self-clause-own g c =
    grown_of_line c.usual_lines.new.self.line.items c.split_at.result.0.now _
    (is_ok c.extend_from_slice.result) c.extend_from_slice.ensures.items c.usual_lines.new.self.own
    (uncut _ _ _ _ c.line_len.ensures.place c.split_at.ensures.front c.split_at.ensures.back
    c.in_default.ensures.cases).1

pub end_line-requires-clause-own : goal.end_line-requires-clause-own
end_line-requires-clause-own g c =
    (cut_at _ _ _ _ _ _ c.line_len.ensures.place c.split_at.ensures.front c.split_at.ensures.back
    c.in-Some.ensures.cases.0).1

pub loop-text-smaller : goal.loop-text-smaller
loop-text-smaller g c =
    let cut = cut_at _ _ _ _ _ _ c.line_len.ensures.place c.split_at.ensures.front
    c.split_at.ensures.back c.in-Some.ensures.cases.0 in
    omega (arith, c.in_ok-text.ensures.fewer, longer _ _ _ cut.0)

pub loop-text-preserved : goal.loop-text-preserved
loop-text-preserved g c =
    let cut = cut_at _ _ _ _ _ _ c.line_len.ensures.place c.split_at.ensures.front
    c.split_at.ensures.back c.in-Some.ensures.cases.0 in
    let usual = c.in_ok-text.ensures in
    let end = c.in_ok-end_line.ensures in
    record {
      room = omega (
        arith,
        end.number,
        end.left,
        usual.later,
        usual.left,
        c.loop-text.invariant.room,
        longer _ _ _ cut.0,
      );
      left = end.left ∙ usual.left ∙ c.loop-text.invariant.left;
      awaits = λ more total h.
          end.awaits (c.in-Some.after.now ++ more) total
          (subst (λ (t : List ℕ). Awaits c.usual_lines.new.self t total)
          (ap (λ (t : List ℕ). t ++ more) cut.0
          ∙ append_assoc c.split_at.result.0.now (10 ∷ c.in-Some.after.now) more)
          (usual.awaits more total (c.loop-text.invariant.awaits more total h)));
    }
