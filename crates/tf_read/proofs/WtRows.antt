-- Weighted tardiness texts and what they say.
use Rattle.std.proofs.Common.{◌≡◌, ℕ, ◌+◌, ◌-◌, List, [], ◌∷◌, ◌++◌, length, take, Some, None, Ok, Err, ℤ, pos, negsuc, refl, codes}
use Rattle.tf_words.specs.Words.{words, lines, words_from, placed_words}
use Rattle.tf_words.specs.Digits.{numeral}
use Rattle.tf_words.specs.Number.{number}
use Rattle.tf_model.specs.JobFields.{JobFields}
use Rattle.tf_model.specs.declared.job.Times.TheVariants.{One}
use Rattle.tf_model.specs.Limit.{most_jobs}
use Rattle.tf_read.specs.declared.fault.ReadFault.TheVariants.{EndsEarly, NoInstance, Negative, NoJobs, TooManyJobs, BadNumber, NumberTooLarge}
use Rattle.tf_read.specs.Faults.{each_from}
use Rattle.tf_read.specs.WeightedTardiness.{instance_of, weighted_tardiness}

-- two instances of three jobs
abbrev text : List ℕ
text = codes "2 3 1" ++ 10 ∷ codes "1 2 4" ++ 10 ∷ codes "5 -2 9" ++ 10 ∷ codes "4 1 3" ++ 10
    ∷ codes "2 2 3" ++ 10 ∷ codes "6 7 8" ++ 10 ∷ []

abbrev job : ℤ → ℤ → ℤ → JobFields
job time weight due =
    record { times = One time; weight = Some weight; due = Some due; release = None; cost = None }

first : weighted_tardiness 3 1 text
    ≡ Ok (record {
      jobs = job (pos 2) (pos 1) (pos 5) ∷ job (pos 3) (pos 2) (negsuc 1)
          ∷ job (pos 1) (pos 4) (pos 9) ∷ [];
      arcs = [];
      machines = None;
    })
unfolding weighted_tardiness instance_of each_from placed_words words_from words lines number
    numeral
first = refl

second : weighted_tardiness 3 2 text
    ≡ Ok (record {
      jobs = job (pos 4) (pos 2) (pos 6) ∷ job (pos 1) (pos 2) (pos 7)
          ∷ job (pos 3) (pos 3) (pos 8) ∷ [];
      arcs = [];
      machines = None;
    })
unfolding weighted_tardiness instance_of each_from placed_words words_from words lines number
    numeral
second = refl

third : weighted_tardiness 3 3 text ≡ Err NoInstance
unfolding weighted_tardiness instance_of each_from placed_words words_from words lines number
    numeral
third = refl

zeroth : weighted_tardiness 3 0 text ≡ Err NoInstance
unfolding weighted_tardiness instance_of each_from placed_words words_from words lines number
    numeral
zeroth = refl

no_jobs : weighted_tardiness 0 1 text ≡ Err NoJobs
unfolding weighted_tardiness instance_of each_from placed_words words_from words lines number
    numeral
no_jobs = refl

too_many : weighted_tardiness (most_jobs + 1) 1 text ≡ Err TooManyJobs
unfolding weighted_tardiness instance_of each_from placed_words words_from words lines number
    numeral
too_many = refl

cut : weighted_tardiness 3 2 (take (length text - 3) text) ≡ Err EndsEarly
unfolding weighted_tardiness instance_of each_from placed_words words_from words lines number
    numeral
cut = refl

four_jobs : weighted_tardiness 4 2 text ≡ Err (Negative 3)
unfolding weighted_tardiness instance_of each_from placed_words words_from words lines number
    numeral
four_jobs = refl

six_jobs : weighted_tardiness 6 1 text ≡ Err (Negative 3)
unfolding weighted_tardiness instance_of each_from placed_words words_from words lines number
    numeral
six_jobs = refl

-- a word behind the instance isn't judged, one before it is
behind : weighted_tardiness 1 1 (codes "1 2 3 x")
    ≡ Ok (record { jobs = job (pos 1) (pos 2) (pos 3) ∷ []; arcs = []; machines = None })
unfolding weighted_tardiness instance_of each_from placed_words words_from words lines number
    numeral
behind = refl

before : weighted_tardiness 1 2 (codes "x 2 3 1 2 3") ≡ Err (BadNumber 1)
unfolding weighted_tardiness instance_of each_from placed_words words_from words lines number
    numeral
before = refl

far_off : weighted_tardiness 1 9 (codes "1 2 4000000000000000001") ≡ Err (NumberTooLarge 1)
unfolding weighted_tardiness instance_of each_from placed_words words_from words lines number
    numeral
far_off = refl

empty : weighted_tardiness 1 1 [] ≡ Err NoInstance
unfolding weighted_tardiness instance_of each_from placed_words words_from words lines number
    numeral
empty = refl

-- -0 is no negative number
minus_zero : weighted_tardiness 1 1 (codes "-0 0 0")
    ≡ Ok (record { jobs = job (pos 0) (pos 0) (pos 0) ∷ []; arcs = []; machines = None })
unfolding weighted_tardiness instance_of each_from placed_words words_from words lines number
    numeral
minus_zero = refl
