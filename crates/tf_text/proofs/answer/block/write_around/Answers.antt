use Rattle.std.proofs.KnownBytes.{Appends-trans}
use Rattle.tf_text.proofs.Prefix.{prefix_first, prefix_then, prefix_last, on_err}
use Rattle.tf_text.proofs.answer.block.write_around.Goals as goal

pub returns-in_err-push_all-clause-prefix : goal.returns-in_err-push_all-clause-prefix
returns-in_err-push_all-clause-prefix g c =
    on_err _ (prefix_first _ _ c.args.front.now _ c.in_err-push_all.ensures.prefix)

pub returns-in_err-write_pieces-clause-prefix : goal.returns-in_err-write_pieces-clause-prefix
returns-in_err-write_pieces-clause-prefix g c =
    on_err _ (prefix_then _ _ _ c.args.front.now _ c.args.back.now
    c.in_ok-push_all.ensures.written c.in_err-write_pieces.ensures.prefix)

pub returns-in_err-push_all-2-clause-prefix : goal.returns-in_err-push_all-2-clause-prefix
returns-in_err-push_all-2-clause-prefix g c =
    on_err _ (prefix_last _ _ _ _ c.args.front.now _ c.args.back.now
    c.in_ok-push_all.ensures.written c.in_ok-write_pieces.ensures.written
    c.in_err-push_all-2.ensures.prefix)

pub returns-clause-written : goal.returns-clause-written
returns-clause-written g c =
    Appends-trans _ _ _ _ _ c.in_ok-push_all.ensures.written
    (Appends-trans _ _ _ _ _ c.in_ok-write_pieces.ensures.written
    c.in_ok-push_all-2.ensures.written)
