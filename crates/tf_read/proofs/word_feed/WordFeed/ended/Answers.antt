use Rattle.std.proofs.Common.{List, sym, subst}
use Rattle.tf_words.specs.Words.{Word}
use Rattle.tf_read.proofs.word_feed.WordFeed.ended.Goals as goal

pub returns-in-None : goal.returns-in-None
returns-in-None g c = λ first says fed h.
    subst (λ (ws : List Word). g.J.Judge.HasRead c.args.self.judge says ws)
    (sym (c.in-None.ensures.word first fed h.0 h.1)) h.2

pub returns-in-Some : goal.returns-in-Some
returns-in-Some g c = λ first says fed h.
    let w = c.in-Some.ensures.word first fed h.0 h.1 in
    subst (λ (ws : List Word). g.J.Judge.HasRead c.judge.new.self says ws) (sym w.2)
    (c.judge.ensures says h.0 w.0 w.1 h.2)
