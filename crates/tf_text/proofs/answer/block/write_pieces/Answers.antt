use Rattle.std.proofs.Common.{◌≡◌, length, append_assoc, ◌++◌, ◌∙◌, subst, arith}
use Rattle.std.specs.Io.KnownBytes.{Appends}
use Rattle.tf_text.specs.Counted.{inner_of, AppendsPrefix}
use Rattle.tf_text.proofs.Blocks.{end_text, cut_rest, block_written, block_prefix}
use Rattle.tf_text.proofs.Prefix.{on_err}
use Rattle.tf_text.proofs.answer.block.write_pieces.Goals as goal

pub returns-in_err-push_all-clause-prefix : goal.returns-in_err-push_all-clause-prefix
returns-in_err-push_all-clause-prefix g c =
    let (done, parts, written) = c.loop-rest.invariant.written in
    let cut = c.split_at.ensures in
    let long : length c.fill-from.new.block ≡ 16384 = omega (arith, c.fill-from.array_long) in
    let bytes = subst (AppendsPrefix (g.W.Write.contents (inner_of c.loop-rest.writer))
    (g.W.Write.contents (inner_of c.push_all.new.self)))
    (end_text c.fill-from.new.block _ 16384 c.fill-from.result long c.fill-from.ensures.lines)
    c.in_err-push_all.ensures.prefix in
    on_err _ (block_prefix _ _ _ c.args.pieces.now done _ _
    (cut_rest _ _ _ _ _ _ parts cut.front cut.back) written bytes)

pub loop-rest-preserved : goal.loop-rest-preserved
loop-rest-preserved g c =
    let (done, parts, written) = c.loop-rest.invariant.written in
    let cut = c.split_at.ensures in
    let long : length c.fill-from.new.block ≡ 16384 = omega (arith, c.fill-from.array_long) in
    let bytes = subst (Appends (g.W.Write.contents (inner_of c.loop-rest.writer))
    (g.W.Write.contents (inner_of c.push_all.new.self)))
    (end_text c.fill-from.new.block _ 16384 c.fill-from.result long c.fill-from.ensures.lines)
    c.in_ok-push_all.ensures.written in
    record {
      written = (
        done ++ c.split_at.result.0.now,
        append_assoc done _ _ ∙ cut_rest _ _ _ _ _ _ parts cut.front cut.back,
        block_written _ _ _ done _ written bytes,
      );
      unfailed = c.in_ok-push_all.ensures.unfailed;
    }
