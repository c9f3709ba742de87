use Rattle.std.proofs.Common.{sym}
use Rattle.tf_options.proofs.Understanding.{named_if, of_words}
use Rattle.tf_options.proofs.command_line.understand.Goals as goal

pub returns-in-Err-clause-understood : goal.returns-in-Err-clause-understood
returns-in-Err-clause-understood c = c.refused.ensures.told _ _ _

pub returns-clause-understood : goal.returns-clause-understood
returns-clause-understood c = of_words _ _ _ _ (record {
  matches = c.in-Ok.matches;
  is_made = c.in-Ok.ensures.matches;
  name = c.in-Some.name.now;
  given = c.in-Some.given.now;
  is_named = sym c.in-Some.ensures.name;
  is_given = sym c.in-Some.ensures.rows;
  understood = c.understand_given.ensures.understood;
})

pub returns-clause-output : goal.returns-clause-output
returns-clause-output c = named_if c.get_str.result _ _ c.get_str.ensures (λ name is. record {
  matches = c.in-Ok.matches;
  is_made = c.in-Ok.ensures.matches;
  given = c.in-Some.given.now;
  is_given = sym c.in-Some.ensures.rows;
  is_output = is;
})
