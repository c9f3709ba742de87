use Rattle.tf_routes.proofs.Words.{before_lines}
use Rattle.tf_routes.proofs.text_words.TextWords.new.Goals as goal

pub returns : goal.returns
returns c = before_lines _ _ _
