-- Job tables and what they say.
use Rattle.std.proofs.Common.{◌≡◌, ◌+◌, [], ◌∷◌, ◌++◌, Some, None, Ok, Err, pos, negsuc, refl, codes}
use Rattle.std.specs.Fmt.{decimal, digits}
use Rattle.tf_words.specs.Words.{words, lines, kept_lines, kept_from}
use Rattle.tf_words.specs.Digits.{numeral}
use Rattle.tf_words.specs.Number.{number, plain}
use Rattle.tf_model.specs.declared.job.Times.TheVariants.{One, Two}
use Rattle.tf_model.specs.Limit.{most_jobs, most_machines, most_arcs}
use Rattle.tf_read.specs.declared.fault.ReadFault.TheVariants.{EndsEarly, NoJobs, TooManyJobs, TooManyArcs, BadLine, BadNumber, NumberTooLarge, Negative, BadCost, BadArc}
use Rattle.tf_read.specs.Faults.{each_from}
use Rattle.tf_read.specs.CostField.{step_at, cost_at}
use Rattle.tf_read.specs.JobLine.{times_at, field_at, fields_at}
use Rattle.tf_read.specs.JobTable.{machines_at, job_line, arc_of, arc_line, arcs_of, body_of, below_heading, table_of, job_table}

-- no kept line, no job line
nothing : job_table [] ≡ Err EndsEarly
unfolding job_table table_of below_heading body_of machines_at job_line fields_at field_at times_at
    cost_at step_at each_from arcs_of arc_line arc_of kept_lines kept_from lines words number plain
    numeral
nothing = refl

comments : job_table (codes "# a note" ++ 10 ∷ codes "  " ++ 10 ∷ codes "#") ≡ Err EndsEarly
unfolding job_table table_of below_heading body_of machines_at job_line fields_at field_at times_at
    cost_at step_at each_from arcs_of arc_line arc_of kept_lines kept_from lines words number plain
    numeral
comments = refl

heading_alone : job_table (codes "table 1") ≡ Err NoJobs
unfolding job_table table_of below_heading body_of machines_at job_line fields_at field_at times_at
    cost_at step_at each_from arcs_of arc_line arc_of kept_lines kept_from lines words number plain
    numeral
heading_alone = refl

machines_alone : job_table (codes "table 1" ++ 10 ∷ codes "machines 2") ≡ Err NoJobs
unfolding job_table table_of below_heading body_of machines_at job_line fields_at field_at times_at
    cost_at step_at each_from arcs_of arc_line arc_of kept_lines kept_from lines words number plain
    numeral
machines_alone = refl

arc_before_jobs : job_table (codes "table 1" ++ 10 ∷ codes "prec 1 1") ≡ Err (BadLine 2)
unfolding job_table table_of below_heading body_of machines_at job_line fields_at field_at times_at
    cost_at step_at each_from arcs_of arc_line arc_of kept_lines kept_from lines words number plain
    numeral
arc_before_jobs = refl

-- the heading
other_heading : job_table (codes "table 01" ++ 10 ∷ codes "job 1 p=1") ≡ Err (BadLine 1)
unfolding job_table table_of below_heading body_of machines_at job_line fields_at field_at times_at
    cost_at step_at each_from arcs_of arc_line arc_of kept_lines kept_from lines words number plain
    numeral
other_heading = refl

-- the form of a job line, and its numbers
wrong_number : job_table (codes "table 1" ++ 10 ∷ codes "job 2 p=3") ≡ Err (BadLine 2)
unfolding job_table table_of below_heading body_of machines_at job_line fields_at field_at times_at
    cost_at step_at each_from arcs_of arc_line arc_of kept_lines kept_from lines words number plain
    numeral
wrong_number = refl

leading_zero : job_table (codes "table 1" ++ 10 ∷ codes "job 01 p=3") ≡ Err (BadLine 2)
unfolding job_table table_of below_heading body_of machines_at job_line fields_at field_at times_at
    cost_at step_at each_from arcs_of arc_line arc_of kept_lines kept_from lines words number plain
    numeral
leading_zero = refl

no_time : job_table (codes "table 1" ++ 10 ∷ codes "job 1 w=2") ≡ Err (BadLine 2)
unfolding job_table table_of below_heading body_of machines_at job_line fields_at field_at times_at
    cost_at step_at each_from arcs_of arc_line arc_of kept_lines kept_from lines words number plain
    numeral
no_time = refl

no_number : job_table (codes "table 1" ++ 10 ∷ codes "job 1 p=x") ≡ Err (BadNumber 2)
unfolding job_table table_of below_heading body_of machines_at job_line fields_at field_at times_at
    cost_at step_at each_from arcs_of arc_line arc_of kept_lines kept_from lines words number plain
    numeral
no_number = refl

too_large : job_table (codes "table 1" ++ 10 ∷ codes "job 1 p=4000000000000000001")
    ≡ Err (NumberTooLarge 2)
unfolding job_table table_of below_heading body_of machines_at job_line fields_at field_at times_at
    cost_at step_at each_from arcs_of arc_line arc_of kept_lines kept_from lines words number plain
    numeral
too_large = refl

negative : job_table (codes "table 1" ++ 10 ∷ codes "job 1 p=-1") ≡ Err (Negative 2)
unfolding job_table table_of below_heading body_of machines_at job_line fields_at field_at times_at
    cost_at step_at each_from arcs_of arc_line arc_of kept_lines kept_from lines words number plain
    numeral
negative = refl

twice : job_table (codes "table 1" ++ 10 ∷ codes "job 1 p=1 p=2") ≡ Err (BadLine 2)
unfolding job_table table_of below_heading body_of machines_at job_line fields_at field_at times_at
    cost_at step_at each_from arcs_of arc_line arc_of kept_lines kept_from lines words number plain
    numeral
twice = refl

falling : job_table (codes "table 1" ++ 10 ∷ codes "job 1 p=1 h=5,3:4") ≡ Err (BadCost 2)
unfolding job_table table_of below_heading body_of machines_at job_line fields_at field_at times_at
    cost_at step_at each_from arcs_of arc_line arc_of kept_lines kept_from lines words number plain
    numeral
falling = refl

falling_first : job_table (codes "table 1" ++ 10 ∷ codes "job 1 h=5,3:4 p=x") ≡ Err (BadCost 2)
unfolding job_table table_of below_heading body_of machines_at job_line fields_at field_at times_at
    cost_at step_at each_from arcs_of arc_line arc_of kept_lines kept_from lines words number plain
    numeral
falling_first = refl

number_first : job_table (codes "table 1" ++ 10 ∷ codes "job 1 h=5,9:4,x:1") ≡ Err (BadNumber 2)
unfolding job_table table_of below_heading body_of machines_at job_line fields_at field_at times_at
    cost_at step_at each_from arcs_of arc_line arc_of kept_lines kept_from lines words number plain
    numeral
number_first = refl

form_first : job_table (codes "table 1" ++ 10 ∷ codes "job 1 h=5,9:4,q") ≡ Err (BadLine 2)
unfolding job_table table_of below_heading body_of machines_at job_line fields_at field_at times_at
    cost_at step_at each_from arcs_of arc_line arc_of kept_lines kept_from lines words number plain
    numeral
form_first = refl

not_rising : job_table (codes "table 1" ++ 10 ∷ codes "job 1 h=5,3:6,3:7 p=1") ≡ Err (BadCost 2)
unfolding job_table table_of below_heading body_of machines_at job_line fields_at field_at times_at
    cost_at step_at each_from arcs_of arc_line arc_of kept_lines kept_from lines words number plain
    numeral
not_rising = refl

negative_time : job_table (codes "table 1" ++ 10 ∷ codes "job 1 h=5,-1:6 p=1") ≡ Err (Negative 2)
unfolding job_table table_of below_heading body_of machines_at job_line fields_at field_at times_at
    cost_at step_at each_from arcs_of arc_line arc_of kept_lines kept_from lines words number plain
    numeral
negative_time = refl

two_weights : job_table (codes "table 1" ++ 10 ∷ codes "job 1 w=1,2 p=1") ≡ Err (BadNumber 2)
unfolding job_table table_of below_heading body_of machines_at job_line fields_at field_at times_at
    cost_at step_at each_from arcs_of arc_line arc_of kept_lines kept_from lines words number plain
    numeral
two_weights = refl

nothing_given : job_table (codes "table 1" ++ 10 ∷ codes "job 1 p=") ≡ Err (BadNumber 2)
unfolding job_table table_of below_heading body_of machines_at job_line fields_at field_at times_at
    cost_at step_at each_from arcs_of arc_line arc_of kept_lines kept_from lines words number plain
    numeral
nothing_given = refl

one_missing : job_table (codes "table 1" ++ 10 ∷ codes "job 1 p=1,") ≡ Err (BadNumber 2)
unfolding job_table table_of below_heading body_of machines_at job_line fields_at field_at times_at
    cost_at step_at each_from arcs_of arc_line arc_of kept_lines kept_from lines words number plain
    numeral
one_missing = refl

equals_twice : job_table (codes "table 1" ++ 10 ∷ codes "job 1 p==1") ≡ Err (BadNumber 2)
unfolding job_table table_of below_heading body_of machines_at job_line fields_at field_at times_at
    cost_at step_at each_from arcs_of arc_line arc_of kept_lines kept_from lines words number plain
    numeral
equals_twice = refl

base_with_colon : job_table (codes "table 1" ++ 10 ∷ codes "job 1 h=5:3") ≡ Err (BadNumber 2)
unfolding job_table table_of below_heading body_of machines_at job_line fields_at field_at times_at
    cost_at step_at each_from arcs_of arc_line arc_of kept_lines kept_from lines words number plain
    numeral
base_with_colon = refl

step_missing : job_table (codes "table 1" ++ 10 ∷ codes "job 1 h=5,") ≡ Err (BadLine 2)
unfolding job_table table_of below_heading body_of machines_at job_line fields_at field_at times_at
    cost_at step_at each_from arcs_of arc_line arc_of kept_lines kept_from lines words number plain
    numeral
step_missing = refl

three_numbers : job_table (codes "table 1" ++ 10 ∷ codes "job 1 h=5,3:6:7") ≡ Err (BadLine 2)
unfolding job_table table_of below_heading body_of machines_at job_line fields_at field_at times_at
    cost_at step_at each_from arcs_of arc_line arc_of kept_lines kept_from lines words number plain
    numeral
three_numbers = refl

three_times : job_table (codes "table 1" ++ 10 ∷ codes "job 1 p=x,2,3") ≡ Err (BadLine 2)
unfolding job_table table_of below_heading body_of machines_at job_line fields_at field_at times_at
    cost_at step_at each_from arcs_of arc_line arc_of kept_lines kept_from lines words number plain
    numeral
three_times = refl

no_value : job_table (codes "table 1" ++ 10 ∷ codes "job 1 h=5,3:") ≡ Err (BadNumber 2)
unfolding job_table table_of below_heading body_of machines_at job_line fields_at field_at times_at
    cost_at step_at each_from arcs_of arc_line arc_of kept_lines kept_from lines words number plain
    numeral
no_value = refl

no_equals : job_table (codes "table 1" ++ 10 ∷ codes "job 1 p") ≡ Err (BadLine 2)
unfolding job_table table_of below_heading body_of machines_at job_line fields_at field_at times_at
    cost_at step_at each_from arcs_of arc_line arc_of kept_lines kept_from lines words number plain
    numeral
no_equals = refl

no_comment : job_table (codes "table 1" ++ 10 ∷ codes "job 1 p=1 #x") ≡ Err (BadLine 2)
unfolding job_table table_of below_heading body_of machines_at job_line fields_at field_at times_at
    cost_at step_at each_from arcs_of arc_line arc_of kept_lines kept_from lines words number plain
    numeral
no_comment = refl

-- numbers of machines
no_machines : job_table (codes "table 1" ++ 10 ∷ codes "machines 0") ≡ Err (BadLine 2)
unfolding job_table table_of below_heading body_of machines_at job_line fields_at field_at times_at
    cost_at step_at each_from arcs_of arc_line arc_of kept_lines kept_from lines words number plain
    numeral
no_machines = refl

minus_zero : job_table (codes "table 1" ++ 10 ∷ codes "machines -0") ≡ Err (BadLine 2)
unfolding job_table table_of below_heading body_of machines_at job_line fields_at field_at times_at
    cost_at step_at each_from arcs_of arc_line arc_of kept_lines kept_from lines words number plain
    numeral
minus_zero = refl

many_machines : job_table (codes "table 1" ++ 10 ∷ codes "machines " ++ decimal (most_machines + 1))
    ≡ Err (BadLine 2)
unfolding job_table table_of below_heading body_of machines_at job_line fields_at field_at times_at
    cost_at step_at each_from arcs_of arc_line arc_of kept_lines kept_from lines words number plain
    digits numeral
many_machines = refl

machines_beyond : job_table (codes "table 1" ++ 10 ∷ codes "machines 99999999999999999999")
    ≡ Err (BadLine 2)
unfolding job_table table_of below_heading body_of machines_at job_line fields_at field_at times_at
    cost_at step_at each_from arcs_of arc_line arc_of kept_lines kept_from lines words number plain
    numeral
machines_beyond = refl

machines_twice : job_table (codes "table 1" ++ 10 ∷ codes "machines 1 2") ≡ Err (BadLine 2)
unfolding job_table table_of below_heading body_of machines_at job_line fields_at field_at times_at
    cost_at step_at each_from arcs_of arc_line arc_of kept_lines kept_from lines words number plain
    numeral
machines_twice = refl

machines_x : job_table (codes "table 1" ++ 10 ∷ codes "machines x") ≡ Err (BadNumber 2)
unfolding job_table table_of below_heading body_of machines_at job_line fields_at field_at times_at
    cost_at step_at each_from arcs_of arc_line arc_of kept_lines kept_from lines words number plain
    numeral
machines_x = refl

-- arcs
arc_beyond : job_table (codes "table 1" ++ 10 ∷ codes "job 1 p=1" ++ 10 ∷ codes "prec 1 2")
    ≡ Err (BadArc 3)
unfolding job_table table_of below_heading body_of machines_at job_line fields_at field_at times_at
    cost_at step_at each_from arcs_of arc_line arc_of kept_lines kept_from lines words number plain
    numeral
arc_beyond = refl

arc_word : job_table (codes "table 1" ++ 10 ∷ codes "job 1 p=1" ++ 10 ∷ codes "prec 1 x")
    ≡ Err (BadNumber 3)
unfolding job_table table_of below_heading body_of machines_at job_line fields_at field_at times_at
    cost_at step_at each_from arcs_of arc_line arc_of kept_lines kept_from lines words number plain
    numeral
arc_word = refl

arc_first : job_table (codes "table 1" ++ 10 ∷ codes "job 1 p=1" ++ 10 ∷ codes "prec 9 x")
    ≡ Err (BadArc 3)
unfolding job_table table_of below_heading body_of machines_at job_line fields_at field_at times_at
    cost_at step_at each_from arcs_of arc_line arc_of kept_lines kept_from lines words number plain
    numeral
arc_first = refl

arc_second : job_table (codes "table 1" ++ 10 ∷ codes "job 1 p=1" ++ 10 ∷ codes "prec x 9")
    ≡ Err (BadNumber 3)
unfolding job_table table_of below_heading body_of machines_at job_line fields_at field_at times_at
    cost_at step_at each_from arcs_of arc_line arc_of kept_lines kept_from lines words number plain
    numeral
arc_second = refl

arc_zero : job_table (codes "table 1" ++ 10 ∷ codes "job 1 p=1" ++ 10 ∷ codes "prec -0 1")
    ≡ Err (BadArc 3)
unfolding job_table table_of below_heading body_of machines_at job_line fields_at field_at times_at
    cost_at step_at each_from arcs_of arc_line arc_of kept_lines kept_from lines words number plain
    numeral
arc_zero = refl

arc_short : job_table (codes "table 1" ++ 10 ∷ codes "job 1 p=1" ++ 10 ∷ codes "prec 1")
    ≡ Err (BadLine 3)
unfolding job_table table_of below_heading body_of machines_at job_line fields_at field_at times_at
    cost_at step_at each_from arcs_of arc_line arc_of kept_lines kept_from lines words number plain
    numeral
arc_short = refl

machines_late : job_table (codes "table 1" ++ 10 ∷ codes "job 1 p=1" ++ 10 ∷ codes "machines 2")
    ≡ Err (BadLine 3)
unfolding job_table table_of below_heading body_of machines_at job_line fields_at field_at times_at
    cost_at step_at each_from arcs_of arc_line arc_of kept_lines kept_from lines words number plain
    numeral
machines_late = refl

job_after_arc : job_table
    (codes "table 1" ++ 10 ∷ codes "job 1 p=1" ++ 10 ∷ codes "prec 1 1" ++ 10 ∷ codes "job 2 p=1")
    ≡ Err (BadLine 4)
unfolding job_table table_of below_heading body_of machines_at job_line fields_at field_at times_at
    cost_at step_at each_from arcs_of arc_line arc_of kept_lines kept_from lines words number plain
    numeral
job_after_arc = refl

-- one more than the limit allows, whatever the line says else
job_too_many : job_line (most_jobs + 1) (record { number = 7; words = codes "job" ∷ [] })
    ≡ Err TooManyJobs
unfolding job_line
job_too_many = refl

arc_too_many : arc_line 1 (most_arcs + 1) (record { number = 7; words = codes "prec" ∷ [] })
    ≡ Err TooManyArcs
unfolding arc_line
arc_too_many = refl

-- whole tables
three_jobs : job_table
    (codes "table 1" ++ 10 ∷ codes "job 1 p=4" ++ 10 ∷ codes "job 2 p=4" ++ 10 ∷ codes "job 3 p=4"
    ++ 10 ∷ codes "")
    ≡ Ok (record {
      jobs =
          record { times = One (pos 4); weight = None; due = None; release = None; cost = None }
          ∷ record { times = One (pos 4); weight = None; due = None; release = None; cost = None }
          ∷ record { times = One (pos 4); weight = None; due = None; release = None; cost = None } ∷ [];
      arcs = [];
      machines = None;
    })
unfolding job_table table_of below_heading body_of machines_at job_line fields_at field_at times_at
    cost_at step_at each_from arcs_of arc_line arc_of kept_lines kept_from lines words number plain
    numeral
three_jobs = refl

costs_and_arcs : job_table
    (codes "table 1" ++ 10 ∷ codes "job 1 p=2 h=0,5:10" ++ 10 ∷ codes "job 2 p=3 h=0,9:7" ++ 10
    ∷ codes "job 3 p=4 h=1,9:8" ++ 10 ∷ codes "prec 3 1")
    ≡ Ok (record {
      jobs =
          record {
            times = One (pos 2);
            weight = None;
            due = None;
            release = None;
            cost = Some (record { base = pos 0; steps = (pos 5, pos 10) ∷ [] });
          }
          ∷ record {
            times = One (pos 3);
            weight = None;
            due = None;
            release = None;
            cost = Some (record { base = pos 0; steps = (pos 9, pos 7) ∷ [] });
          }
          ∷ record {
            times = One (pos 4);
            weight = None;
            due = None;
            release = None;
            cost = Some (record { base = pos 1; steps = (pos 9, pos 8) ∷ [] });
          } ∷ [];
      arcs = (3, 1) ∷ [];
      machines = None;
    })
unfolding job_table table_of below_heading body_of machines_at job_line fields_at field_at times_at
    cost_at step_at each_from arcs_of arc_line arc_of kept_lines kept_from lines words number plain
    numeral
costs_and_arcs = refl

all_fields : job_table
    (codes "# note" ++ 10 ∷ codes "table 1" ++ 10 ∷ codes "machines 3" ++ 10 ∷ codes "" ++ 10
    ∷ codes "job 1 d=-2 p=4,1" ++ 10 ∷ codes " job 2 p=007 w=5 r=-0 h=-3")
    ≡ Ok (record {
      jobs =
          record {
            times = Two (pos 4) (pos 1);
            weight = None;
            due = Some (negsuc 1);
            release = None;
            cost = None;
          }
          ∷ record {
            times = One (pos 7);
            weight = Some (pos 5);
            due = None;
            release = Some (pos 0);
            cost = Some (record { base = negsuc 2; steps = [] });
          } ∷ [];
      arcs = [];
      machines = Some 3;
    })
unfolding job_table table_of below_heading body_of machines_at job_line fields_at field_at times_at
    cost_at step_at each_from arcs_of arc_line arc_of kept_lines kept_from lines words number plain
    numeral
all_fields = refl
