-- A table with routes, read in two parts.
use Rattle.std.proofs.Common.{◌≡◌, ℕ, ◌+◌, ◌≤◌, true, false, ltb, List, [], ◌∷◌, length, map, Result, Ok, Err, refl, sym, ap, subst, ◌∙◌, arith, inl, inr}
use Rattle.std.proofs.lemmas.Bool.{cases_Bool, le-ltb, lt-ltb}
use Rattle.tf_words.specs.Words.{KeptLine, Line, by_words, kept_from, kept_lines, lines}
use Rattle.tf_model.specs.InstanceData.{InstanceData}
use Rattle.tf_model.specs.Limit.{most_bytes}
use Rattle.tf_model.specs.Outcome.{◌>>=◌}
use Rattle.tf_read.specs.declared.fault.ReadFault.{ReadFault}
use Rattle.tf_read.specs.declared.fault.ReadFault.TheVariants.{TooLong}
use Rattle.tf_read.specs.Faults.{Fails}
use Rattle.tf_read.specs.JobTable.{job_table, table_of}
use Rattle.tf_read.proofs.Each.{fails_then}
use Rattle.tf_routes.specs.declared.route.Step.{Step}
use Rattle.tf_routes.specs.declared.unrouted.Place.{Place}
use Rattle.tf_routes.specs.declared.unrouted.Place.TheVariants.{Gap}
use Rattle.tf_routes.specs.RoutedData.{RoutedData}
use Rattle.tf_routes.specs.RoutedTable.{routed_table, routes_on, table_routed, unrouted_line}
use Rattle.tf_routes.specs.Unrouted.{is_of_route, place_after, unrouted_after}
use Rattle.tf_routes.proofs.Cut.{lines_cut}

-- a text without its routes is no longer
no_longer : (place : Place) (text : List ℕ) → length (unrouted_after place text) ≤ length text
unfolding unrouted_after
no_longer place [] = omega arith
no_longer place (b ∷ bs) =
    let more = no_longer (place_after place b) bs in
    elim (cases_Bool (is_of_route (place_after place b))) [
      | inl e ↦ rw e (omega (arith, more))
      | inr e ↦ rw e (omega (arith, more))
    ]

-- the table that the bytes say is that of the lines without their routes
pub table_is : (text table : List ℕ) → table ≡ unrouted_after Gap text → length text ≤ most_bytes
    → job_table table ≡ table_of (map unrouted_line (kept_from 1 (lines text)))
unfolding job_table
table_is text table is few =
    let short : length table ≤ most_bytes = omega (arith, few, ap length is, no_longer Gap text) in
    let e : ltb most_bytes (length table) ≡ false = le-ltb _ _ short in
    rw e (ap (λ bs. table_of (kept_from 1 (lines bs))) is ∙ ap table_of (lines_cut 1 text))

-- the lines of a text by their words
pub all_lines : (text : List ℕ) (ls : List KeptLine) → ls ≡ kept_lines 1 (lines text)
    → map by_words ls ≡ kept_from 1 (lines text)
unfolding kept_from
all_lines text ls is = ap (map by_words) is

abbrev with_routes : List Line → InstanceData → Result RoutedData ReadFault
with_routes all i = routes_on all >>= λ routes. Ok (record { instance = i; routes = routes })

-- the table has a fault
pub no_table : (all : List Line) (e : ReadFault) → Fails e (table_of (map unrouted_line all))
    → Fails e (table_routed all)
unfolding table_routed
no_table all e h = fails_then e (table_of (map unrouted_line all)) (with_routes all) h

-- a route has one
pub no_routes : (all : List Line) (i : InstanceData) (e : ReadFault)
    → table_of (map unrouted_line all) ≡ Ok i → Fails e (routes_on all) → Fails e (table_routed all)
unfolding table_routed
no_routes all i e table h =
    subst (λ r. Fails e (r >>= with_routes all)) (sym table)
    (fails_then e (routes_on all) (λ routes. Ok (record { instance = i; routes = routes })) h)

-- neither has
pub both_read : (all : List Line) (i : InstanceData) (routes : List (List Step))
    → table_of (map unrouted_line all) ≡ Ok i → routes_on all ≡ Ok routes
    → table_routed all ≡ Ok (record { instance = i; routes = routes })
unfolding table_routed
both_read all i routes table read =
    ap (λ r. r >>= with_routes all) table
    ∙ ap (λ r. r >>= λ routes. Ok (record { instance = i; routes = routes })) read

-- ---- the whole text

pub too_long : (text : List ℕ) (n : ℕ) → n ≡ length text → most_bytes + 1 ≤ n
    → routed_table text ≡ Err TooLong
unfolding routed_table
too_long text n is many =
    let e : ltb most_bytes (length text) ≡ true = lt-ltb _ _ (omega (arith, is, many)) in rw e refl

pub not_long : (text : List ℕ) (n : ℕ) → n ≡ length text → n ≤ most_bytes
    → table_routed (kept_from 1 (lines text)) ≡ routed_table text
unfolding routed_table
not_long text n is few =
    let e : ltb most_bytes (length text) ≡ false = le-ltb _ _ (omega (arith, is, few)) in rw e refl
