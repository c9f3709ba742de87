-- Flow shop texts and what they say.
use Rattle.std.proofs.Common.{◌≡◌, ℕ, List, [], ◌∷◌, ◌++◌, Some, None, Ok, Err, pos, refl, codes}
use Rattle.tf_words.specs.Words.{words, lines, words_from}
use Rattle.tf_words.specs.Digits.{numeral}
use Rattle.tf_words.specs.Number.{number}
use Rattle.tf_model.specs.JobFields.{JobFields}
use Rattle.tf_model.specs.declared.job.Times.{Times}
use Rattle.tf_model.specs.declared.job.Times.TheVariants.{One, Two}
use Rattle.tf_read.specs.declared.fault.ReadFault.TheVariants.{EndsEarly, NoInstance, NotAFlowShop, BadPair, BadLine, BadNumber, NumberTooLarge, Negative, NoJobs, TooManyJobs}
use Rattle.tf_read.specs.Faults.{each_from}
use Rattle.tf_read.specs.FlowShop.{pairs_of, sized, first_line, from_sizes, from_heading, flow_shop}

-- two jobs on three machines, of which the last line is given
abbrev text : List ℕ → List ℕ
text last = codes " instance demo" ++ 10 ∷ codes " +++++++++++++" ++ 10
    ∷ codes " three machines, own example" ++ 10 ∷ codes " 2 3" ++ 10 ∷ codes " 0 4 1 9 2 1" ++ 10
    ∷ last

abbrev job : Times → JobFields
job times = record { times = times; weight = None; due = None; release = None; cost = None }

two_of_three : flow_shop (codes "demo") (Some (0, 2)) (text (codes " 0 2 1 9 2 5"))
    ≡ Ok (record {
      jobs = job (Two (pos 4) (pos 1)) ∷ job (Two (pos 2) (pos 5)) ∷ [];
      arcs = [];
      machines = Some 2;
    })
unfolding flow_shop from_heading from_sizes first_line sized pairs_of each_from words_from words
    lines number
    numeral
two_of_three = refl

the_other_way : flow_shop (codes "demo") (Some (2, 0)) (text (codes " 0 2 1 9 2 5"))
    ≡ Ok (record {
      jobs = job (Two (pos 1) (pos 4)) ∷ job (Two (pos 5) (pos 2)) ∷ [];
      arcs = [];
      machines = Some 2;
    })
unfolding flow_shop from_heading from_sizes first_line sized pairs_of each_from words_from words
    lines number
    numeral
the_other_way = refl

without_a_pair : flow_shop (codes "demo") None (text (codes " 0 2 1 9 2 5"))
    ≡ Ok (record {
      jobs = job (Two (pos 4) (pos 9)) ∷ job (Two (pos 2) (pos 9)) ∷ [];
      arcs = [];
      machines = Some 3;
    })
unfolding flow_shop from_heading from_sizes first_line sized pairs_of each_from words_from words
    lines number
    numeral
without_a_pair = refl

no_such_machine : flow_shop (codes "demo") (Some (0, 3)) (text (codes " 0 2 1 9 2 5")) ≡ Err BadPair
unfolding flow_shop from_heading from_sizes first_line sized pairs_of each_from words_from words
    lines number
    numeral
no_such_machine = refl

machine_twice : flow_shop (codes "demo") (Some (1, 1)) (text (codes " 0 2 1 9 2 5")) ≡ Err BadPair
unfolding flow_shop from_heading from_sizes first_line sized pairs_of each_from words_from words
    lines number
    numeral
machine_twice = refl

other_name : flow_shop (codes "other") None (text (codes " 0 2 1 9 2 5")) ≡ Err NoInstance
unfolding flow_shop from_heading from_sizes first_line sized pairs_of each_from words_from words
    lines number
    numeral
other_name = refl

no_name : flow_shop [] None (text (codes " 0 2 1 9 2 5")) ≡ Err NoInstance
unfolding flow_shop from_heading from_sizes first_line sized pairs_of each_from words_from words
    lines number
    numeral
no_name = refl

other_order : flow_shop (codes "demo") None (text (codes " 0 2 2 5 1 9")) ≡ Err (NotAFlowShop 6)
unfolding flow_shop from_heading from_sizes first_line sized pairs_of each_from words_from words
    lines number
    numeral
other_order = refl

cut : flow_shop (codes "demo") None (text (codes " 0 2 1 9 2")) ≡ Err EndsEarly
unfolding flow_shop from_heading from_sizes first_line sized pairs_of each_from words_from words
    lines number
    numeral
cut = refl

behind : flow_shop (codes "demo") None (text (codes " 0 2 1 9 2 5 x"))
    ≡ Ok (record {
      jobs = job (Two (pos 4) (pos 9)) ∷ job (Two (pos 2) (pos 9)) ∷ [];
      arcs = [];
      machines = Some 3;
    })
unfolding flow_shop from_heading from_sizes first_line sized pairs_of each_from words_from words
    lines number
    numeral
behind = refl

minus_zero : flow_shop (codes "demo") None (text (codes "-0 2 1 -0 2 5"))
    ≡ Ok (record {
      jobs = job (Two (pos 4) (pos 9)) ∷ job (Two (pos 2) (pos 0)) ∷ [];
      arcs = [];
      machines = Some 3;
    })
unfolding flow_shop from_heading from_sizes first_line sized pairs_of each_from words_from words
    lines number
    numeral
minus_zero = refl

machine_beyond : flow_shop (codes "demo") None (text (codes "99999999999999999999 2"))
    ≡ Err (NotAFlowShop 6)
unfolding flow_shop from_heading from_sizes first_line sized pairs_of each_from words_from words
    lines number
    numeral
machine_beyond = refl

time_beyond : flow_shop (codes "demo") None (text (codes "0 99999999999999999999"))
    ≡ Err (NumberTooLarge 6)
unfolding flow_shop from_heading from_sizes first_line sized pairs_of each_from words_from words
    lines number
    numeral
time_beyond = refl

negative : flow_shop (codes "demo") None (text (codes "0 -1")) ≡ Err (Negative 6)
unfolding flow_shop from_heading from_sizes first_line sized pairs_of each_from words_from words
    lines number
    numeral
negative = refl

no_number : flow_shop (codes "demo") None (text (codes "0 x")) ≡ Err (BadNumber 6)
unfolding flow_shop from_heading from_sizes first_line sized pairs_of each_from words_from words
    lines number
    numeral
no_number = refl

-- the sizes
no_sizes : flow_shop (codes "demo") None
    (codes "instance demo" ++ 10 ∷ codes "2 3 1" ++ 10 ∷ codes "-0 2") ≡ Err EndsEarly
unfolding flow_shop from_heading from_sizes first_line sized pairs_of each_from words_from words
    lines number
    numeral
no_sizes = refl

no_jobs : flow_shop (codes "demo") None (codes "instance demo" ++ 10 ∷ codes "0 0") ≡ Err NoJobs
unfolding flow_shop from_heading from_sizes first_line sized pairs_of each_from words_from words
    lines number
    numeral
no_jobs = refl

many_jobs : flow_shop (codes "demo") None
    (codes "instance demo" ++ 10 ∷ codes "99999999999999999999 0") ≡ Err TooManyJobs
unfolding flow_shop from_heading from_sizes first_line sized pairs_of each_from words_from words
    lines number
    numeral
many_jobs = refl

no_machines : flow_shop (codes "demo") None (codes "instance demo" ++ 10 ∷ codes "1 0")
    ≡ Err (BadLine 2)
unfolding flow_shop from_heading from_sizes first_line sized pairs_of each_from words_from words
    lines number
    numeral
no_machines = refl

many_machines : flow_shop (codes "demo") None
    (codes "instance demo" ++ 10 ∷ codes "1 99999999999999999999") ≡ Err (BadLine 2)
unfolding flow_shop from_heading from_sizes first_line sized pairs_of each_from words_from words
    lines number
    numeral
many_machines = refl

one_machine : flow_shop (codes "demo") None
    (codes "instance other" ++ 10 ∷ codes "1 1" ++ 10 ∷ codes "0 5" ++ 10 ∷ codes "instance demo"
    ++ 10 ∷ codes "1 1" ++ 10 ∷ codes "0" ++ 10 ∷ codes "7")
    ≡ Ok (record { jobs = job (One (pos 7)) ∷ []; arcs = []; machines = Some 1 })
unfolding flow_shop from_heading from_sizes first_line sized pairs_of each_from words_from words
    lines number
    numeral
one_machine = refl

pair_of_one : flow_shop (codes "demo") (Some (0, 1))
    (codes "instance demo" ++ 10 ∷ codes "1 1" ++ 10 ∷ codes "0 7") ≡ Err BadPair
unfolding flow_shop from_heading from_sizes first_line sized pairs_of each_from words_from words
    lines number
    numeral
pair_of_one = refl
