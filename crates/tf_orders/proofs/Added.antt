-- Operations that are added to a schedule.
use Rattle.std.proofs.Common.{◌≡◌, ℕ, zero, suc, ◌+◌, ◌-◌, ◌<◌, ◌≤◌, min, List, length, get_or, slice_index, drop, sym, ap, ◌∙◌, arith}
use Rattle.std.proofs.lemmas.List.{drop_all, drop_more, get_or_default}
use Rattle.tf_model.specs.Limit.{limit}
use Rattle.tf_schedule.specs.declared.piece.Piece.{Piece}
use Rattle.tf_schedule.specs.Piece.{machine_of}
use Rattle.tf_schedule.specs.SemiActive.{machine_stop}
use Rattle.tf_schedule.specs.Stops.{HasStopsBy}
use Rattle.tf_schedule.proofs.Laying.{stop_read}
use Rattle.tf_orders.specs.Laying.{start_on, stop_on, with_operation, with_job, with_route}

-- when a machine is free, as it is read from the list
pub free_is : (ps : List Piece) (frees : List ℕ) (n k a : ℕ) → HasStopsBy machine_of ps frees
    → k ≡ n - 1 → 0 < n → n ≤ length frees → a ≡ get_or frees k a
    → a ≡ machine_stop ps n
free_is ps frees n k a has is low high at =
    at ∙ get_or_default frees k a 0 (omega arith) ∙ stop_read machine_of ps frees n k has is low high

pub stop_is : (ps : List Piece) (i free time s stop : ℕ) → 0 < time → s ≡ start_on ps i free
    → stop ≡ min (s + time) limit → stop ≡ stop_on ps i free time
stop_is ps i free zero s stop some start is = absurd (omega arith)
stop_is ps i free (suc t) s stop some start is = is ∙ ap (λ a. min (a + suc t) limit) start

-- the operations that are left of a job, where the first of them is known
pub job_more : (ps : List Piece) (j i free : ℕ) (times : List ℕ) (k time : ℕ) → k < length times
    → time ≡ get_or times k time
    → with_job (with_operation ps j i free time) j (i + 1) (stop_on ps i free time)
    (drop (k + 1) times)
    ≡ with_job ps j i free (drop k times)
job_more ps j i free times k time within is =
    ap (λ t. with_job (with_operation ps j i free t) j (i + 1) (stop_on ps i free t)
    (drop (k + 1) times)) is
    ∙ ap (with_job ps j i free) (sym (drop_more times k time within))

-- no operation is left
pub job_done : (ps : List Piece) (j i free : ℕ) (times : List ℕ) (k : ℕ) → length times ≤ k
    → ps ≡ with_job ps j i free (drop k times)
job_done ps j i free times k all = ap (with_job ps j i free) (sym (drop_all k times all))

-- ---- along a route

pub route_more : (ps : List Piece) (j free : ℕ) (times route : List ℕ) (k a : ℕ) → k < length route
    → a ≡ get_or route k a
    → with_route (with_operation ps j (a + 1) free (slice_index times a)) j
    (stop_on ps (a + 1) free (slice_index times a)) times (drop (k + 1) route)
    ≡ with_route ps j free times (drop k route)
route_more ps j free times route k a within is =
    ap (λ b. with_route (with_operation ps j (b + 1) free (slice_index times b)) j
    (stop_on ps (b + 1) free (slice_index times b)) times (drop (k + 1) route)) is
    ∙ ap (with_route ps j free times) (sym (drop_more route k a within))

pub route_done : (ps : List Piece) (j free : ℕ) (times route : List ℕ) (k : ℕ) → length route ≤ k
    → ps ≡ with_route ps j free times (drop k route)
route_done ps j free times route k all =
    ap (with_route ps j free times) (sym (drop_all k route all))
