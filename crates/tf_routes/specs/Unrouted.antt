-- A job table without the routes of its jobs.
use Rattle.std.specs.Prelude.{ℕ, Bool, true, false, List, [], ◌∷◌, ◌==◌, if◌then◌else◌}
use Rattle.tf_words.specs.Words.{is_white}
use Rattle.tf_routes.specs.declared.unrouted.Place.{Place}
use Rattle.tf_routes.specs.declared.unrouted.Place.TheVariants.{Gap, Key, Other, Times, Route}

-- where a byte stands that is no white space, by where the byte before it stands: at the `p` with
-- which a word begins; in a word that begins with `p=`, before its first '@' or from there on; or
-- in another word
abbrev pub place_in_word : Place → ℕ → Place
place_in_word Gap byte = if byte == 112 then Key else Other
place_in_word Key byte = if byte == 61 then Times else Other
place_in_word Other byte = Other
place_in_word Times byte = if byte == 64 then Route else Times
place_in_word Route byte = Route

-- where a byte stands
abbrev pub place_after : Place → ℕ → Place
place_after place byte = if is_white byte then Gap else place_in_word place byte

abbrev pub is_of_route : Place → Bool
is_of_route Route = true
is_of_route Gap = false
is_of_route Key = false
is_of_route Other = false
is_of_route Times = false

-- the bytes that are not of a route, after one at this place
unfoldable pub unrouted_after : Place → List ℕ → List ℕ
unrouted_after place [] = []
unrouted_after place (byte ∷ more) =
    let next = place_after place byte in
    if is_of_route next then unrouted_after next more else byte ∷ unrouted_after next more

-- all but the bytes of routes: of each word that begins with `p=` those from its first '@' on
abbrev pub unrouted : List ℕ → List ℕ
unrouted text = unrouted_after Gap text
