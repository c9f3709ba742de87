use Rattle.std.proofs.Common.{refl, sym, ◌∙◌, arith}
use Rattle.tf_read.proofs.Fields.{field_read, fields_end}
use Rattle.tf_read.proofs.usual.job_first.Goals as goal

pub returns-in-Some-clause-job : goal.returns-in-Some-clause-job
returns-in-Some-clause-job g c =
    let over = c.in-Some.ensures.end in
    λ line. sym (c.loop-behind.invariant.fields line)
    ∙ fields_end line c.loop-behind.fields _ over.words
    ∙ rw (← c.fields.view_is, c.in_ok-times.was) refl

pub loop-behind-preserved : goal.loop-behind-preserved
loop-behind-preserved g c =
    let word = c.in_ok-rest.ensures in record {
      fields = λ line.
          sym (field_read line c.loop-behind.fields _ word.0 _ _ word.2.words (word.1 line))
          ∙ c.loop-behind.invariant.fields line;
      behind = sym word.2.behind ∙ c.loop-behind.invariant.behind;
      shorter = omega (arith, word.2.shorter, c.loop-behind.invariant.shorter);
    }
