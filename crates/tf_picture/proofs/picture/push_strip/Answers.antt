use Rattle.std.proofs.Common.{◌++◌, ap, ◌∙◌}
use Rattle.tf_picture.specs.Picture.{bar_group, label_group, link_group, marks}
use Rattle.tf_picture.proofs.Texts.{strip_written}
use Rattle.tf_picture.proofs.picture.push_strip.Goals as goal

pub returns : goal.returns
returns g c =
    strip_written c.args.shown.now.step c.args.shown.now.bars.items
    c.args.shown.now.resumed.items c.args.dates.now c.args.frame.now _ _ _ _ _ _ _
    c.in_ok-push_rows.ensures c.in_ok-push_axis.ensures
    (c.in_ok-push_bars.ensures
    ∙ ap (λ bars. c.push_axis.new.text.items ++ bar_group c.args.frame.now bars)
    c.as_slice.ensures.value)
    (c.in_ok-push_links.ensures
    ∙ ap (λ pieces. c.push_bars.new.text.items ++ link_group c.args.frame.now pieces)
    c.as_slice-2.ensures.value)
    (c.in_ok-push_marks.ensures
    ∙ ap (λ bars. c.push_links.new.text.items ++ marks c.args.frame.now c.args.dates.now bars)
    c.as_slice-3.ensures.value)
    (c.in_ok-push_labels.ensures
    ∙ ap (λ bars. c.push_marks.new.text.items ++ label_group c.args.frame.now bars)
    c.as_slice-4.ensures.value)
