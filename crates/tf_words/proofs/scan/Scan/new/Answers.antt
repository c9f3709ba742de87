use Rattle.tf_words.proofs.Scanned.{at_front}
use Rattle.tf_words.proofs.scan.Scan.new.Goals as goal

pub returns-clause-front : goal.returns-clause-front
returns-clause-front c = at_front c.args.line
