use Rattle.tf_read.proofs.flow_shop.read_flowshop.Goals as goal

pub returns : goal.returns
returns g c = c.finish.ensures.given _ c.args.text.now (c.feed.ensures _ _ c.new-reader.ensures)
