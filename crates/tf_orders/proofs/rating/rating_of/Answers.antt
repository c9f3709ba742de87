use Rattle.tf_orders.proofs.rating.rating_of.Goals as goal

pub returns-in-Single : goal.returns-in-Single
returns-in-Single g c = rw c.in-Single.is (c.single_rating.ensures c.in-Single.field-0)

pub returns-in-Ruled : goal.returns-in-Ruled
returns-in-Ruled g c = rw c.in-Ruled.is (c.ruled_rating.ensures c.in-Ruled.field-1)

pub returns-in-Pieces : goal.returns-in-Pieces
returns-in-Pieces g c = rw c.in-Pieces.is (c.pieces_rating.ensures c.in-Pieces.field-0)
