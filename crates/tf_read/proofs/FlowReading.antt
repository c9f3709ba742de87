-- The reading of a flow shop, byte by byte.
use Rattle.std.proofs.Common.{◌≡◌, ◌≢◌, ℕ, ◌+◌, ◌*◌, ◌<◌, ◌≤◌, ◌||◌, Bool, true, false, not, cond, eqb, ltb, List, [], ◌∷◌, ◌++◌, length, Option, Some, None, Result, Ok, Err, refl, sym, ap, subst, ◌∙◌, arith, inl, inr, append_assoc, mul-le-mul_left}
use Rattle.std.proofs.lemmas.Bool.{cases_Bool, lt-ltb, le-ltb, ne_eqb, false≢true}
use Rattle.std.proofs.lemmas.List.{append-nil}
use Rattle.std.proofs.lemmas.List.Folds.{list_all-append}
use Rattle.tf_words.specs.Words.{Word, words, lines, words_from}
use Rattle.tf_model.specs.Limit.{most_bytes, most_jobs, most_machines}
use Rattle.tf_read.specs.declared.fault.ReadFault.{ReadFault}
use Rattle.tf_read.specs.declared.fault.ReadFault.TheVariants.{TooLong, EndsEarly, NoInstance, NoJobs, TooManyJobs, BadLine, BadPair, OutOfMemory}
use Rattle.tf_read.specs.declared.heading.HeadingLine.{HeadingLine}
use Rattle.tf_read.specs.declared.heading.HeadingLine.TheVariants as heading
use Rattle.tf_read.specs.declared.sizes.SizesLine.{SizesLine}
use Rattle.tf_read.specs.declared.sizes.SizesLine.TheVariants as sizes
use Rattle.tf_model.specs.InstanceData.{InstanceData}
use Rattle.tf_model.specs.Outcome.{◌>>=◌}
use Rattle.tf_read.specs.Faults.{Fails, each_from}
use Rattle.tf_read.specs.FlowShop.{IsOfPairs, are_machines, shop_number, shop_of, pairs_of, sized, sizes_in, from_sizes, is_name_line, from_heading, flow_shop}
use Rattle.tf_read.specs.PresentLine.{AreOfLine}
use Rattle.tf_read.specs.Heading.{HeadingShown}
use Rattle.tf_read.specs.Sizes.{SizesShown, judged_sizes}
use Rattle.tf_read.specs.declared.word_feed.WordFeed.{WordFeed}
use Rattle.tf_read.specs.Pairs.{Pairs, ReadsShop}
use Rattle.tf_read.specs.Said.{Says}
use Rattle.tf_read.specs.WordFeed.{HasFed}
use Rattle.tf_read.specs.FlowStage.{WantsHeading, WantsSizes, ReadsPairs, EndsBy, HasEnded}
use Rattle.tf_read.proofs.FlowLines.{sizes_found, sizes_later, no_sizes, heading_found, heading_later, no_heading}
use Rattle.tf_read.proofs.Progress.{all_of}
use Rattle.tf_read.proofs.PresentLine.{line_over, line_last}

-- a text that is too long is refused as such, and any other is read from its first line on
pub too_long : (name : List ℕ) (pair : Option (ℕ × ℕ)) (text : List ℕ) → most_bytes < length text
    → flow_shop name pair text ≡ Err TooLong
unfolding flow_shop
too_long name pair text long = let e : ltb most_bytes (length text) ≡ true = lt-ltb _ _ long in
    rw e refl

pub within : (name : List ℕ) (pair : Option (ℕ × ℕ)) (text : List ℕ) → length text ≤ most_bytes
    → flow_shop name pair text ≡ from_heading name pair 1 (lines text)
unfolding flow_shop
within name pair text short = let e : ltb most_bytes (length text) ≡ false = le-ltb _ _ short in
    rw e refl

-- a byte more of the present line
of_line : (bytes : List ℕ) (b : ℕ) → AreOfLine bytes → (b ≡ 10 → ⊥) → AreOfLine (bytes ++ b ∷ [])
of_line bytes b all other = let no' : eqb b 10 ≡ false = ne_eqb b 10 other in
    list_all-append (λ c. not (eqb c 10)) bytes (b ∷ []) ∙ rw (all, no') refl

pub heading_byte : (name : List ℕ) (pair : Option (ℕ × ℕ)) (line b : ℕ) (shown next : HeadingLine)
    (fed : List ℕ)
    → (b ≡ 10 → ⊥)
    → ((bytes : List ℕ) → HeadingShown name bytes shown → HeadingShown name (bytes ++ b ∷ []) next)
    → WantsHeading name pair line shown fed → WantsHeading name pair line next (fed ++ b ∷ [])
heading_byte name pair line b shown next fed other push h = (
  h.0 ++ b ∷ [],
  of_line h.0 b h.1 other,
  push h.0 h.2,
  λ more. ap (λ text. from_heading name pair 1 (lines text)) (append_assoc fed (b ∷ []) more)
      ∙ h.3 (b ∷ more)
      ∙ ap (λ text. from_heading name pair line (lines text))
      (sym (append_assoc h.0 (b ∷ []) more)),
)

pub sizes_byte : (name : List ℕ) (pair : Option (ℕ × ℕ)) (line b : ℕ) (shown next : SizesLine)
    (fed : List ℕ)
    → (b ≡ 10 → ⊥) → ((bytes : List ℕ) → SizesShown bytes shown → SizesShown (bytes ++ b ∷ []) next)
    → WantsSizes name pair line shown fed → WantsSizes name pair line next (fed ++ b ∷ [])
sizes_byte name pair line b shown next fed other push h = (
  h.0 ++ b ∷ [],
  of_line h.0 b h.1 other,
  push h.0 h.2,
  λ more. ap (λ text. from_heading name pair 1 (lines text)) (append_assoc fed (b ∷ []) more)
      ∙ h.3 (b ∷ more)
      ∙ ap (λ text. from_sizes pair line (lines text)) (sym (append_assoc h.0 (b ∷ []) more)),
)

-- bytes more of a line that is not the wanted one
of_line_all : (bytes front : List ℕ) → AreOfLine bytes → AreOfLine front
    → AreOfLine (bytes ++ front)
of_line_all bytes front all more =
    list_all-append (λ c. not (eqb c 10)) bytes front ∙ rw (all, more) refl

pub heading_idle : (name : List ℕ) (pair : Option (ℕ × ℕ)) (line : ℕ) (fed front : List ℕ)
    → AreOfLine front → WantsHeading name pair line heading.Other fed
    → WantsHeading name pair line heading.Other (fed ++ front)
heading_idle name pair line fed front own h = (
  h.0 ++ front,
  of_line_all h.0 front h.1 own,
  λ more. ap (λ text. is_name_line name (words text)) (append_assoc h.0 front more)
      ∙ h.2 (front ++ more),
  λ more. ap (λ text. from_heading name pair 1 (lines text)) (append_assoc fed front more)
      ∙ h.3 (front ++ more)
      ∙ ap (λ text. from_heading name pair line (lines text)) (sym (append_assoc h.0 front more)),
)

pub sizes_idle : (name : List ℕ) (pair : Option (ℕ × ℕ)) (line : ℕ) (fed front : List ℕ)
    → AreOfLine front → WantsSizes name pair line sizes.Other fed
    → WantsSizes name pair line sizes.Other (fed ++ front)
sizes_idle name pair line fed front own h = (
  h.0 ++ front,
  of_line_all h.0 front h.1 own,
  λ more. ap (λ text. sizes_in (words text)) (append_assoc h.0 front more) ∙ h.2 (front ++ more),
  λ more. ap (λ text. from_heading name pair 1 (lines text)) (append_assoc fed front more)
      ∙ h.3 (front ++ more)
      ∙ ap (λ text. from_sizes pair line (lines text)) (sym (append_assoc h.0 front more)),
)

-- the end of a line on which the heading was wanted
pub heading_read : (name : List ℕ) (pair : Option (ℕ × ℕ)) (line : ℕ) (shown : HeadingLine)
    (front : SizesLine) (fed : List ℕ)
    → ((bytes : List ℕ) → HeadingShown name bytes shown → is_name_line name (words bytes) ≡ true)
    → SizesShown [] front → WantsHeading name pair line shown fed
    → WantsSizes name pair (line + 1) front (fed ++ 10 ∷ [])
heading_read name pair line shown front fed yes' at h = (
  [],
  refl,
  at,
  λ more. ap (λ text. from_heading name pair 1 (lines text)) (append_assoc fed (10 ∷ []) more)
      ∙ h.3 (10 ∷ more)
      ∙ heading_found name pair line h.0 (lines more) (lines (h.0 ++ (10 ∷ more)))
      (line_over h.0 more h.1) (yes' h.0 h.2),
)

pub heading_missed : (name : List ℕ) (pair : Option (ℕ × ℕ)) (line : ℕ) (shown front : HeadingLine)
    (fed : List ℕ)
    → ((bytes : List ℕ) → HeadingShown name bytes shown → is_name_line name (words bytes) ≡ false)
    → HeadingShown name [] front → WantsHeading name pair line shown fed
    → WantsHeading name pair (line + 1) front (fed ++ 10 ∷ [])
heading_missed name pair line shown front fed no' at h = (
  [],
  refl,
  at,
  λ more. ap (λ text. from_heading name pair 1 (lines text)) (append_assoc fed (10 ∷ []) more)
      ∙ h.3 (10 ∷ more)
      ∙ heading_later name pair line h.0 (lines more) (lines (h.0 ++ (10 ∷ more)))
      (line_over h.0 more h.1) (no' h.0 h.2),
)

-- the end of a line on which the sizes were wanted
pub sizes_missed : (name : List ℕ) (pair : Option (ℕ × ℕ)) (line : ℕ) (shown front : SizesLine)
    (fed : List ℕ)
    → ((bytes : List ℕ) → SizesShown bytes shown → sizes_in (words bytes) ≡ None)
    → SizesShown [] front → WantsSizes name pair line shown fed
    → WantsSizes name pair (line + 1) front (fed ++ 10 ∷ [])
sizes_missed name pair line shown front fed none at h = (
  [],
  refl,
  at,
  λ more. ap (λ text. from_heading name pair 1 (lines text)) (append_assoc fed (10 ∷ []) more)
      ∙ h.3 (10 ∷ more)
      ∙ sizes_later pair line h.0 (lines more) (lines (h.0 ++ (10 ∷ more))) (line_over h.0 more h.1)
      (none h.0 h.2),
)

pub sizes_read : (name : List ℕ) (pair : Option (ℕ × ℕ)) (line : ℕ) (shown : SizesLine)
    (sizes : ℕ × ℕ) (fed : List ℕ)
    → ((bytes : List ℕ) → SizesShown bytes shown → sizes_in (words bytes) ≡ Some sizes)
    → WantsSizes name pair line shown fed → (more : List ℕ)
    → from_heading name pair 1 (lines (fed ++ 10 ∷ [] ++ more))
    ≡ sized pair line sizes.0 sizes.1 (words_from (line + 1) (lines more))
sizes_read name pair line shown sizes fed some h more =
    ap (λ text. from_heading name pair 1 (lines text)) (append_assoc fed (10 ∷ []) more)
    ∙ h.3 (10 ∷ more)
    ∙ sizes_found pair line h.0 (lines more) (lines (h.0 ++ (10 ∷ more))) sizes
    (line_over h.0 more h.1) (some h.0 h.2)

-- what the sizes say
sized_is : (pair : Option (ℕ × ℕ)) (line jobs machines : ℕ) (words : List Word)
    → sized pair line jobs machines words
    ≡ (judged_sizes pair line (jobs, machines) >>= λ sizes. pairs_of sizes.0 sizes.1 pair words)
unfolding sized
sized_is pair line jobs machines words = elim (cases_Bool (eqb jobs 0)) [
  | inl e ↦ rw e refl
  | inr e ↦ elim (cases_Bool (ltb most_jobs jobs)) [
    | inl f ↦ rw (e, f) refl
    | inr f ↦ elim (cases_Bool (eqb machines 0 || ltb most_machines machines)) [
      | inl g ↦ rw (e, f, g) refl
      | inr g ↦ elim (cases_Bool (not (are_machines machines pair))) [
        | inl p ↦ rw (e, f, g, p) refl
        | inr p ↦ rw (e, f, g, p) refl
      ]
    ]
  ]
]

pub sized_by : (pair : Option (ℕ × ℕ)) (line jobs machines : ℕ) (words : List Word)
    (r : Result (ℕ × ℕ) ReadFault)
    → judged_sizes pair line (jobs, machines) ≡ r
    → sized pair line jobs machines words ≡ (r >>= λ sizes. pairs_of sizes.0 sizes.1 pair words)
sized_by pair line jobs machines words r h = sized_is pair line jobs machines words
    ∙ ap (λ s. s >>= λ sizes. pairs_of sizes.0 sizes.1 pair words) h

-- the end of the text
pub heading_last : (name : List ℕ) (pair : Option (ℕ × ℕ)) (line : ℕ) (bytes : List ℕ)
    (found : Bool)
    → AreOfLine bytes → is_name_line name (words bytes) ≡ found
    → from_heading name pair line (lines bytes) ≡ Err (cond found EndsEarly NoInstance)
unfolding lines words
heading_last name pair line [] true all h = absurd (false≢true h)
heading_last name pair line [] false all h = no_heading name pair line (lines []) refl
heading_last name pair line (c ∷ cs) true all h =
    heading_found name pair line (c ∷ cs) [] (lines (c ∷ cs)) (line_last c cs all) h
    ∙ no_sizes pair (line + 1) [] refl
heading_last name pair line (c ∷ cs) false all h =
    heading_later name pair line (c ∷ cs) [] (lines (c ∷ cs)) (line_last c cs all) h
    ∙ no_heading name pair (line + 1) [] refl

pub no_sizes_last : (pair : Option (ℕ × ℕ)) (line : ℕ) (bytes : List ℕ) → AreOfLine bytes
    → sizes_in (words bytes) ≡ None → from_sizes pair line (lines bytes) ≡ Err EndsEarly
unfolding lines words
no_sizes_last pair line [] all h = no_sizes pair line (lines []) refl
no_sizes_last pair line (c ∷ cs) all h =
    sizes_later pair line (c ∷ cs) [] (lines (c ∷ cs)) (line_last c cs all) h
    ∙ no_sizes pair (line + 1) [] refl

pub sizes_last : (pair : Option (ℕ × ℕ)) (line : ℕ) (bytes : List ℕ) (sizes : ℕ × ℕ)
    → AreOfLine bytes → sizes_in (words bytes) ≡ Some sizes
    → from_sizes pair line (lines bytes) ≡ sized pair line sizes.0 sizes.1 []
unfolding lines words words_from
sizes_last pair line [] sizes all h = absurd (let f : ⊥ = cc in f)
sizes_last pair line (c ∷ cs) sizes all h =
    sizes_found pair line (c ∷ cs) [] (lines (c ∷ cs)) sizes (line_last c cs all) h

pub no_pairs : (jobs machines : ℕ) (pair : Option (ℕ × ℕ)) → 0 < jobs → 0 < machines
    → pairs_of jobs machines pair [] ≡ Err EndsEarly
unfolding pairs_of each_from
no_pairs jobs machines pair some machines_some =
    let product : 2 * jobs * 1 ≤ 2 * jobs * machines =
    mul-le-mul_left (2 * jobs) (let d : 1 ≤ machines = omega arith in d) in
    let wanted : ltb 0 (2 * jobs * machines) ≡ true = lt-ltb _ _ (omega (arith, product)) in
    ap (λ ws. each_from (shop_number machines) 0 ws
    >>= λ numbers. shop_of jobs machines pair numbers)
    (all_of (2 * jobs * machines) [] (omega arith)) ∙ rw wanted refl

-- more of the pairs
pub pairs_more : (name : List ℕ) (pair : Option (ℕ × ℕ)) (old new : WordFeed Pairs)
    (fed piece : List ℕ)
    → ((first : ℕ) (says : Says) (behind : List ℕ) → HasFed ReadsShop first says old behind
    → HasFed ReadsShop first says new (behind ++ piece))
    → ReadsPairs name pair old fed → ReadsPairs name pair new (fed ++ piece)
pairs_more name pair old new fed piece push (first, says, behind, h, same) = (
  first,
  says,
  behind ++ piece,
  push first says behind h,
  λ more.
      ap (λ text. from_heading name pair 1 (lines text)) (append_assoc fed piece more)
      ∙ same (piece ++ more)
      ∙ ap (λ text. says (words_from first (lines text))) (sym (append_assoc behind piece more)),
)

-- the outcome at the end of the text
pub heading_outcome : (name : List ℕ) (pair : Option (ℕ × ℕ)) (line : ℕ) (shown : HeadingLine)
    (fed : List ℕ) (fault : ReadFault)
    → ((bytes : List ℕ) → AreOfLine bytes → HeadingShown name bytes shown
    → from_heading name pair line (lines bytes) ≡ Err fault)
    → WantsHeading name pair line shown fed → from_heading name pair 1 (lines fed) ≡ Err fault
heading_outcome name pair line shown fed fault last h =
    ap (λ text. from_heading name pair 1 (lines text)) (sym (append-nil fed)) ∙ h.3 []
    ∙ ap (λ text. from_heading name pair line (lines text)) (append-nil h.0) ∙ last h.0 h.1 h.2

pub sizes_outcome : (name : List ℕ) (pair : Option (ℕ × ℕ)) (line : ℕ) (shown : SizesLine)
    (fed : List ℕ) (fault : ReadFault)
    → ((bytes : List ℕ) → AreOfLine bytes → SizesShown bytes shown
    → from_sizes pair line (lines bytes) ≡ Err fault)
    → WantsSizes name pair line shown fed → from_heading name pair 1 (lines fed) ≡ Err fault
sizes_outcome name pair line shown fed fault last h =
    ap (λ text. from_heading name pair 1 (lines text)) (sym (append-nil fed)) ∙ h.3 []
    ∙ ap (λ text. from_sizes pair line (lines text)) (append-nil h.0) ∙ last h.0 h.1 h.2

pub pairs_outcome : (name : List ℕ) (pair : Option (ℕ × ℕ)) (words : WordFeed Pairs) (fed : List ℕ)
    (h : ReadsPairs name pair words fed)
    → from_heading name pair 1 (lines fed) ≡ h.1 (words_from h.0 (lines h.2))
pairs_outcome name pair words fed h =
    ap (λ text. from_heading name pair 1 (lines text)) (sym (append-nil fed)) ∙ h.4 []
    ∙ ap (λ text. h.1 (words_from h.0 (lines text))) (append-nil h.2)

pub ended_outcome : (name : List ℕ) (pair : Option (ℕ × ℕ)) (fault : ReadFault) (fed : List ℕ)
    → HasEnded name pair fault fed → EndsBy fault (from_heading name pair 1 (lines fed))
ended_outcome name pair fault fed h =
    subst (λ (text : List ℕ). EndsBy fault (from_heading name pair 1 (lines text))) (append-nil fed)
    (h [])

-- a fault but want of memory ends the reading, and so is one of the text
pub ends_by : (fault : ReadFault) (r : Result InstanceData ReadFault) → fault ≢ OutOfMemory
    → r ≡ Err fault → EndsBy fault r
ends_by OutOfMemory r differs h = absurd (differs refl)
ends_by _ r differs h = h

pub ends_fault : (fault : ReadFault) (r : Result InstanceData ReadFault) → EndsBy fault r
    → Fails fault r
ends_fault OutOfMemory r h = tt
ends_fault _ r h = h

pub ends_wanting : (fault : ReadFault) (r : Result InstanceData ReadFault)
    → fault ≡ OutOfMemory → EndsBy fault r → IsOfPairs r
ends_wanting fault r is h = subst (λ e. EndsBy e r) is h

-- the sizes are no want of memory
pub sizes_fault : (pair : Option (ℕ × ℕ)) (line : ℕ) (sizes : ℕ × ℕ) (fault : ReadFault)
    → judged_sizes pair line sizes ≡ Err fault → fault ≢ OutOfMemory
sizes_fault pair line sizes fault h = elim (cases_Bool (eqb sizes.0 0)) [
  | inl e ↦ let is : Err NoJobs ≡ Err fault = rw e at h in λ same. (let f : ⊥ = cc in f)
  | inr e ↦ elim (cases_Bool (ltb most_jobs sizes.0)) [
    | inl f ↦ let is : Err TooManyJobs ≡ Err fault = rw (e, f) at h in λ same. (let f : ⊥ = cc in f)
    | inr f ↦ elim (cases_Bool (eqb sizes.1 0 || ltb most_machines sizes.1)) [
      | inl g ↦ let is : Err (BadLine line) ≡ Err fault = rw (e, f, g) at h in λ same. (let f : ⊥ = cc in f)
      | inr g ↦ elim (cases_Bool (not (are_machines sizes.1 pair))) [
        | inl p ↦ let is : Err BadPair ≡ Err fault = rw (e, f, g, p) at h in λ same. (let f : ⊥ = cc in f)
        | inr p ↦ let is : Ok sizes ≡ Err fault = rw (e, f, g, p) at h in λ same. (let f : ⊥ = cc in f)
      ]
    ]
  ]
]

-- what is read behind the sizes is the outcome of pairs
pub pairs_of_words : (name : List ℕ) (pair : Option (ℕ × ℕ)) (words : WordFeed Pairs)
    (fed : List ℕ) → ReadsPairs name pair words fed
    → IsOfPairs (from_heading name pair 1 (lines fed))
pairs_of_words name pair words fed h =
    let p : Pairs = words.judge in (
      p.jobs,
      p.machines,
      p.pair,
      words_from h.0 (lines h.2),
      pairs_outcome name pair words fed h ∙ h.3.2.0 (words_from h.0 (lines h.2)),
    )
