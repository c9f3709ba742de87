use Rattle.std.proofs.Common.{rules, inl, inr, refl, ◌∙◌}
use Rattle.tf_command.proofs.Saying.{says_alone}
use Rattle.tf_held.proofs.series.perform_series.Goals as goal

pub returns-in-Ok-write_lines : goal.returns-in-Ok-write_lines
returns-in-Ok-write_lines g c =
    rw (← (c.in-Ok-text_beside-2.ensures.kept ∙ c.in-Ok-text_beside.ensures.kept ∙ c.in-Ok.ensures.kept))
    (inl (record {
      instance = c.in-Ok.text.items;
      is_file = c.in-Ok.ensures.text;
      beside = record {
        answers = c.in-Ok-text_beside.text.items;
        bounds = c.in-Ok-text_beside-2.text.items;
      };
      are_beside = record {
        answers = rw (c.answers_of.ensures) at c.in-Ok-text_beside.ensures.text;
        bounds = rw (c.bound_of.ensures) at c.in-Ok-text_beside-2.ensures.text;
      };
      lines = rw (← c.as_slice.ensures.value, ← c.as_slice-2.ensures.value, ← c.as_slice-3.ensures.value)
          c.in-Ok-write_lines.ensures;
      ends = refl;
      said = search rules;
    }))

pub returns : goal.returns
returns g c =
    rw (← (c.in-Ok-text_beside-2.ensures.kept ∙ c.in-Ok-text_beside.ensures.kept ∙ c.in-Ok.ensures.kept))
    (inr (inl (record {
      instance = c.in-Ok.text.items;
      is_file = c.in-Ok.ensures.text;
      beside = record {
        answers = c.in-Ok-text_beside.text.items;
        bounds = c.in-Ok-text_beside-2.text.items;
      };
      are_beside = record {
        answers = rw (c.answers_of.ensures) at c.in-Ok-text_beside.ensures.text;
        bounds = rw (c.bound_of.ensures) at c.in-Ok-text_beside-2.ensures.text;
      };
      stop = c.in-Err-write_lines.stop;
      is = rw (← c.as_slice.ensures.value, ← c.as_slice-2.ensures.value, ← c.as_slice-3.ensures.value)
          c.in-Err-write_lines.ensures;
      ends = c.tell_stop.ensures.status;
      said = says_alone c.tell_stop.ensures.said;
    })))
