-- Jobs that are laid one after another on machine 1: each begins when the one before it is over.
use Rattle.std.proofs.Common.{◌≡◌, ℕ, ◌+◌, List, [], ◌∷◌, ◌++◌, refl, sym, ap, ◌∙◌, arith}
use Rattle.std.specs.List.{sum_by}
use Rattle.std.proofs.lemmas.List.{map-append}
use Rattle.std.proofs.lemmas.List.Sums.{fold-append, sum_by_push}
use Rattle.tf_model.specs.SchedulingTask.{SchedulingTask, time_of}
use Rattle.tf_schedule.specs.declared.piece.Piece.{Piece}
use Rattle.tf_schedule.specs.Piece.{machine_of, job_of}
use Rattle.tf_schedule.specs.Drawing.{greatest_stop}
use Rattle.tf_schedule.specs.SemiActive.{machine_stop, stretch, start_after, with_operation, laid}
use Rattle.tf_schedule.specs.Sequence.{operation_of, in_sequence}
use Rattle.tf_schedule.proofs.Laying.{line_stop-le-greatest, line_stop-own, stop_stretch}

-- the pieces are those of the jobs, and all that is laid ends now, when the work is done
pub record IsNow (k : SchedulingTask) (jobs : List ℕ) (ps : List Piece) (now : ℕ) : Type 0 where
  pub pieces : ps ≡ laid (in_sequence k jobs)
  pub machine : machine_stop ps 1 ≡ now
  pub last : greatest_stop ps ≡ now
  pub work : now ≡ sum_by (time_of k) jobs

-- one job more
pub now_next : (k : SchedulingTask) (jobs : List ℕ) (j : ℕ) (ps more : List Piece) (now : ℕ)
    → IsNow k jobs ps now → more ≡ ps ++ stretch j 1 now (time_of k j)
    → IsNow k (jobs ++ j ∷ []) more (now + time_of k j)
now_next k jobs j ps more now is added =
    let start : start_after ps (operation_of k j) ≡ now =
    omega (arith, is.machine, is.last, line_stop-le-greatest job_of ps j) in
    let own = line_stop-own machine_of ps j 1 now (time_of k j) 1 refl (omega (arith, is.machine)) in
    let machine : machine_stop more 1 ≡ now + time_of k j =
    omega (arith, own.0, own.1, is.machine, ap (λ qs. machine_stop qs 1) added) in
    let last : greatest_stop more ≡ now + time_of k j =
    omega (
      arith,
      stop_stretch ps j 1 now (time_of k j),
      is.last,
      ap greatest_stop added,
      line_stop-le-greatest machine_of more 1,
      machine,
    ) in
    record {
      pieces = added
          ∙ ap (λ s. ps ++ stretch j 1 s (time_of k j)) (sym start)
          ∙ ap (λ qs. with_operation qs (operation_of k j)) is.pieces
          ∙ sym (fold-append with_operation [] (in_sequence k jobs) (operation_of k j ∷ []))
          ∙ ap laid (sym (map-append (operation_of k) jobs (j ∷ [])));
      machine = machine;
      last = last;
      work = omega (arith, is.work, sum_by_push (time_of k) jobs j);
    }
