-- When a job works, by its pieces.
use Rattle.std.specs.Prelude.{◌≡◌, ℕ, ◌+◌, ◌-◌, max, min, List, set, slice_index_or}
use Rattle.tf_model.specs.Limit.{limit}
use Rattle.tf_schedule.specs.declared.piece.Piece.{Piece}
use Rattle.tf_schedule.specs.declared.extent.Extent.{Extent}
use Rattle.tf_schedule.specs.Drawing.{duration, stop_of}
use Rattle.tf_schedule.specs.Amounts.{work, greatest_by, least_by, start_of}

-- the most work that an extent can hold
abbrev pub most_work : ℕ
most_work = 18446744073709551615

-- of a job without pieces: no work, from the limit to 0
abbrev pub no_extent : Extent
no_extent = record { work = 0; start = limit; stop = 0 }

-- with one more piece
abbrev pub extended : Extent → Piece → Extent
extended e p = record {
  work = min (e.work + duration p) most_work;
  start = min (start_of p) e.start;
  stop = max (stop_of p) e.stop;
}

-- the work of job j, its first start and its last stop
abbrev pub extent_of : List Piece → ℕ → Extent
extent_of ps j = record {
  work = min (work ps j) most_work;
  start = least_by start_of ps j;
  stop = greatest_by stop_of ps j;
}

-- the extent of job j in a list for the jobs from 1 on
abbrev pub extent_at : List Extent → ℕ → Extent
extent_at extents j = slice_index_or extents (j - 1) no_extent

-- the list with one more piece
abbrev pub with_piece : List Extent → Piece → List Extent
with_piece extents p = set extents (p.job - 1) (extended (extent_at extents p.job) p)

-- the job works all the time from its first start to its last stop
abbrev pub IsGapless : Extent → Type 0
IsGapless e = e.stop - e.start ≡ e.work
