use Rattle.std.proofs.Common.{◌≡◌, get_or, inl, inr, refl, arith}
use Rattle.tf_words.proofs.FirstLine.{begins_with, begins_with_two, line_ends, return_ends}
use Rattle.tf_words.proofs.first_line.behind_line_feed.Goals as goal

pub returns-in-10 : goal.returns-in-10
returns-in-10 c =
    let feed : get_or c.args.text.now 0 0 ≡ 10 = omega arith in
    let is = begins_with _ _ 10 c.in-10.len_at_least feed refl in
    record { end = line_ends _ _ is; bytes = inl is }

pub returns-in-13 : goal.returns-in-13
returns-in-13 c =
    let back : get_or c.args.text.now 0 0 ≡ 13 = omega arith in
    let feed : get_or c.args.text.now 1 0 ≡ 10 = omega arith in
    let is = begins_with_two _ _ 13 10 c.in-13.len_at_least back feed refl in
    record { end = return_ends _ _ is; bytes = inr is }
