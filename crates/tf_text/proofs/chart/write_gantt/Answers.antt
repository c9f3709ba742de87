use Rattle.std.proofs.Common.{◌≡◌, List, ℕ, subst, ap, ◌∙◌, ◌+◌, ◌++◌, arith}
use Rattle.std.specs.List.{range_with_len, flat_map}
use Rattle.std.specs.Io.KnownBytes.{Appends}
use Rattle.tf_schedule.specs.declared.piece.Piece.{Piece}
use Rattle.tf_text.specs.Counted.{inner_of, AppendsPrefix}
use Rattle.tf_text.specs.Chart.{machine_line, length_line, chart_text}
use Rattle.tf_text.proofs.ChartLines.{prefix_of_lines, written_lines}
use Rattle.tf_text.proofs.Prefix.{prefix_first, on_err}
use Rattle.tf_text.proofs.chart.write_gantt.Goals as goal

pub returns-in_err-push_all-clause-prefix : goal.returns-in_err-push_all-clause-prefix
unfolding chart_text
returns-in_err-push_all-clause-prefix g c =
    on_err _ (prefix_first _ _ (length_line c.args.schedule.now) _
    (subst (AppendsPrefix (g.W.Write.contents (inner_of c.args.writer.now))
    (g.W.Write.contents (inner_of c.push_all.new.self)))
    (c.as_slice.ensures.value ∙ c.length_line.ensures) c.in_err-push_all.ensures.prefix))

-- the bytes of the line are those of the next machine
line_is : (ps : List Piece) (columns machine k : ℕ) (items line : List ℕ) → line ≡ items
    → items ≡ machine_line ps columns machine → machine ≡ k + 1
    → line ≡ machine_line ps columns (k + 1)
line_is ps columns machine k items line is made same = is ∙ made ∙ ap (machine_line ps columns) same

pub returns-in_err-push_all-2-clause-prefix : goal.returns-in_err-push_all-2-clause-prefix
unfolding chart_text
returns-in_err-push_all-2-clause-prefix g c =
    on_err _ (prefix_of_lines (machine_line c.args.schedule.now c.args.columns) _ _ _
    (length_line c.args.schedule.now) c.loop-k.k c.args.machines
    (omega (arith, c.loop-k-test.true)) c.loop-k.invariant.written
    (subst (AppendsPrefix (g.W.Write.contents (inner_of c.loop-k.writer))
    (g.W.Write.contents (inner_of c.push_all-in-loop-k.new.self)))
    (line_is c.args.schedule.now c.args.columns _ c.loop-k.k _ _ c.as_slice-in-loop-k.ensures.value
    c.machine_line-line.ensures c.at.ensures)
    c.in_err-push_all-2.ensures.prefix))

pub loop-k-preserved : goal.loop-k-preserved
loop-k-preserved g c = record {
  written = written_lines (machine_line c.args.schedule.now c.args.columns) _ _ _
      (length_line c.args.schedule.now) c.loop-k.k c.loop-k.invariant.written
      (subst (Appends (g.W.Write.contents (inner_of c.loop-k.writer))
      (g.W.Write.contents (inner_of c.push_all-in-loop-k.new.self)))
      (line_is c.args.schedule.now c.args.columns _ c.loop-k.k _ _
      c.as_slice-in-loop-k.ensures.value c.machine_line-line.ensures c.at.ensures)
      c.in_ok-push_all-2.ensures.written);
  unfailed = c.in_ok-push_all-2.ensures.unfailed;
}

pub returns-clause-written : goal.returns-clause-written
unfolding chart_text
returns-clause-written g c =
    let all : c.loop-k.k ≡ c.args.machines =
    omega (arith, c.loop-k-test.false, c.loop-k.auto.k-end) in
    subst (λ n. Appends (g.W.Write.contents (inner_of c.args.writer.now))
    (g.W.Write.contents (inner_of c.loop-k.writer))
    (length_line c.args.schedule.now
    ++ flat_map (machine_line c.args.schedule.now c.args.columns) (range_with_len 1 n))) all
    c.loop-k.invariant.written
