use Rattle.std.proofs.Common.{List, Option, Some, None, MatchOption}
use Rattle.std.specs.List.Sorted.{IsPermutation}
use Rattle.std.proofs.lemmas.List.Sorted.{All-permutation}
use Rattle.tf_schedule.specs.declared.piece.Piece.{Piece}
use Rattle.tf_schedule.specs.Line.{StartsFirstClashBy}
use Rattle.tf_schedule.specs.Piece.{as_time, job_of}
use Rattle.tf_schedule.specs.Schedule.{IsPiece}
use Rattle.tf_schedule.specs.Claims.{JobsOnce}
use Rattle.tf_schedule.proofs.Scan.{none_twice_permutation, first_clash_permutation}
use Rattle.tf_schedule.proofs.fit.first_in_two_places.Goals as goal

pub first_overlap-requires-clause-sound : goal.first_overlap-requires-clause-sound
first_overlap-requires-clause-sound g c =
    rw c.deref.ensures.value
    (All-permutation IsPiece _ _ (rw c.in_ok-by_job.ensures at c.sort.ensures.kept) c.requires.schedule.sound)

pub first_overlap-requires-clause-in_order : goal.first_overlap-requires-clause-in_order
first_overlap-requires-clause-in_order g c = rw c.deref.ensures.value c.sort.ensures.in_order

found_before : (ps qs : List Piece) (found : Option Piece) → IsPermutation ps qs
    → MatchOption found (JobsOnce qs) (StartsFirstClashBy job_of qs)
    → MatchOption found (JobsOnce ps) (StartsFirstClashBy job_of ps)
found_before ps qs None same once = none_twice_permutation job_of ps qs same once
found_before ps qs (Some p) same first =
    (first.0, first_clash_permutation job_of ps qs p.job (as_time p.start) same first.1)

pub returns : goal.returns
returns g c =
    found_before _ _ c.first_overlap.result (rw c.in_ok-by_job.ensures at c.sort.ensures.kept)
    (rw c.deref.ensures.value at c.first_overlap.ensures)

pub returns-then-are_apart : goal.returns-then-are_apart
returns-then-are_apart g c = c.requires.apart c.if-are_apart.true
