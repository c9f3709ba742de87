-- The lines of a series, one after the other.
use Rattle.std.proofs.Common.{◌≡◌, ℕ, ◌+◌, ◌-◌, ◌<◌, ◌≤◌, max, Option, Some, None, IfSome, unwrap_or, inl, inr, List, [], ◌∷◌, ◌++◌, length, take, refl, sym, ap, ◌∙◌, subst, arith, append_assoc, append-nil}
use Rattle.std.specs.Io.KnownBytes.{Appends}
use Rattle.std.proofs.KnownBytes.{Appends-kept, Appends-nil, Appends-trans}
use Rattle.std.proofs.lemmas.List.{length-append}
use Rattle.tf_asked.specs.declared.series.Series.{Series}
use Rattle.tf_text.specs.Counted.{DeviceUse, inner_of}
use Rattle.tf_command.specs.Formatted.{Memory}
use Rattle.tf_held.specs.AnswerTexts.{AreNext}
use Rattle.tf_held.specs.Texts.{BesideData}
use Rattle.tf_held.specs.Series.{AreEntries, IsAll, IsAtEnd, IsCutAt, IsEntry, IsStopAt, IsStopped, IsUnwritten, Tells, WritesAll, WritesUntil, joined, line_for}
use Rattle.tf_held.specs.declared.series.Stop.{Stop}
use Rattle.tf_held.specs.declared.series.Stop.TheVariants as stops
use Rattle.tf_held.proofs.Told.{no_last}

-- one more text behind the others
pub joined_snoc : (texts : List (List ℕ)) (text : List ℕ)
    → joined (texts ++ text ∷ []) ≡ joined texts ++ text
joined_snoc [] text = append-nil text
joined_snoc (first ∷ texts) text =
    ap (λ rest. first ++ rest) (joined_snoc texts text) ∙ sym (append_assoc first (joined texts) text)

-- one more line behind the others
pub entries_snoc : (series : Series) (instance : List ℕ) (number : ℕ) (texts : BesideData)
    (lines : List (List ℕ)) (rest beside after : BesideData) (line : List ℕ)
    → AreEntries series instance number texts lines rest → AreNext series.told rest beside after
    → IsEntry series instance beside (number + length lines) line
    → AreEntries series instance number texts (lines ++ line ∷ []) after
entries_snoc series instance number texts [] rest beside after line none next last = (
  beside,
  after,
  subst (λ (texts : BesideData). AreNext series.told texts beside after) (sym none) next,
  (let here : number + 0 ≡ number = omega arith in
      subst (λ (n : ℕ). IsEntry series instance beside n line) here last),
  refl,
)
entries_snoc series instance number texts (first ∷ lines) rest beside after line entries next last = (
  entries.0,
  entries.1,
  entries.2,
  entries.3,
  entries_snoc series instance (number + 1) entries.1 lines rest beside after line entries.4 next
      (let here : number + length (first ∷ lines) ≡ number + 1 + length lines = omega arith in
      subst (λ (n : ℕ). IsEntry series instance beside n line) here last),
)

-- so many lines are written, and the texts to those instances are passed
pub record Progress (series : Series) (instance : List ℕ) (texts rest : BesideData) (steps : ℕ)
    (before now : Option (List ℕ)) : Type 0 where
  pub lines : List (List ℕ)
  pub entries : AreEntries series instance series.span.first texts lines rest
  pub count : length lines ≡ steps
  pub written : Appends before now (joined lines)

pub begun : (series : Series) (instance : List ℕ) (texts : BesideData) (before : Option (List ℕ))
    → Progress series instance texts texts 0 before before
begun series instance texts before = record {
  lines = [];
  entries = refl;
  count = refl;
  written = Appends-nil before;
}

-- the number of the instance whose turn it is
here_is : (first number steps n : ℕ) → number ≡ first + steps → n ≡ steps → number ≡ first + n
here_is first number steps n at count = omega (arith, at, count)

pub gone_on : (series : Series) (instance : List ℕ) (texts rest : BesideData) (steps number : ℕ)
    (beside more : BesideData) (line : List ℕ) (before now next : Option (List ℕ))
    → Progress series instance texts rest steps before now → number ≡ series.span.first + steps
    → IsEntry series instance beside number line → AreNext series.told rest beside more → Appends now next line
    → Progress series instance texts more (steps + 1) before next
gone_on series instance texts rest steps number beside more line before now next done at is cut written =
    record {
      lines = done.lines ++ line ∷ [];
      entries = entries_snoc series instance series.span.first texts done.lines rest beside more
          line done.entries cut
          (subst (λ (n : ℕ). IsEntry series instance beside n line)
          (here_is series.span.first number steps (length done.lines) at done.count) is);
      count = length-append done.lines (line ∷ []) ∙ ap (λ (n : ℕ). n + 1) done.count;
      written = subst (λ (text : List ℕ). Appends before next text)
          (sym (joined_snoc done.lines line))
          (Appends-trans before now next (joined done.lines) line done.written written);
    }

-- what is kept of an instance makes its line
pub entry_of : (series : Series) (instance : List ℕ) (beside : BesideData) (number : ℕ) (kept : Memory)
    (text : List ℕ) → Tells series instance beside number (Some kept)
    → text ≡ (inner_of kept.writer).items
    → IsEntry series instance beside number (line_for series number text)
entry_of series instance beside number kept text tells is = record {
  status = tells.0;
  output = (inner_of kept.writer).items;
  errors = tells.1;
  runs = tells.2;
  told = tells.3;
  is = ap (line_for series number) is;
}

reached : (series : Series) (instance : List ℕ) (last : Option ℕ) (next : ℕ)
    → next ≡ max series.span.first (unwrap_or last 4294967295 + 1)
    → IsAll series instance last next
reached series instance (Some last) next is = is
reached series instance None next is = inl is

-- all lines are written
pub finished : (series : Series) (instance : List ℕ) (texts rest : BesideData) (steps : ℕ) (writer : DeviceUse)
    → Progress series instance texts rest steps writer.before writer.after
    → steps ≡ unwrap_or series.span.last 4294967295 + 1 - series.span.first
    → WritesAll series instance texts writer
finished series instance texts rest steps writer done at = record {
  lines = done.lines;
  rest = rest;
  entries = done.entries;
  all = reached series instance series.span.last (series.span.first + length done.lines)
      (let count = done.count in omega arith);
  written = done.written;
}

over : (series : Series) (instance : List ℕ) (number : ℕ) (last : Option ℕ) → last ≡ None
    → IsAtEnd series instance number → IsAll series instance last number
over series instance number None none ended = inr ended
over series instance number (Some last) none ended = absurd (no_last last none)

-- the file has no more instances
pub come_to_end : (series : Series) (instance : List ℕ) (texts rest : BesideData)
    (steps number : ℕ) (writer : DeviceUse)
    → Progress series instance texts rest steps writer.before writer.after
    → number ≡ series.span.first + steps → IsAtEnd series instance number
    → WritesAll series instance texts writer
come_to_end series instance texts rest steps number writer done at ended = record {
  lines = done.lines;
  rest = rest;
  entries = done.entries;
  all = subst (λ (n : ℕ). IsAll series instance series.span.last n)
      (here_is series.span.first number steps (length done.lines) at done.count)
      (over series instance number series.span.last ended.to_end ended);
  written = done.written;
}

is_asked : (last : Option ℕ) (first steps : ℕ) → steps < unwrap_or last 4294967295 + 1 - first
    → IfSome last (λ last. first + steps ≤ last)
is_asked None first steps within = tt
is_asked (Some last) first steps within = omega (arith, within)

-- the instance whose turn it is, and its beside
cut_at : (series : Series) (instance : List ℕ) (texts rest beside after : BesideData) (steps : ℕ)
    (before now : Option (List ℕ)) → (done : Progress series instance texts rest steps before now)
    → steps < unwrap_or series.span.last 4294967295 + 1 - series.span.first → AreNext series.told rest beside after
    → IsCutAt series instance texts done.lines beside
cut_at series instance texts rest beside after steps before now done within next = record {
  rest = rest;
  entries = done.entries;
  asked = subst (λ (n : ℕ). IfSome series.span.last (λ last. series.span.first + n ≤ last))
      (sym done.count) (is_asked series.span.last series.span.first steps within);
  after = after;
  next = next;
}

-- the instance whose turn it is has no line
stops_here : (series : Series) (instance : List ℕ) (texts rest beside after : BesideData)
    (steps number : ℕ)
    (writer : DeviceUse) (stop : Stop)
    → Progress series instance texts rest steps writer.before writer.after
    → number ≡ series.span.first + steps
    → steps < unwrap_or series.span.last 4294967295 + 1 - series.span.first → AreNext series.told rest beside after
    → IsStopAt series instance beside number stop → IsStopped series instance texts writer stop
stops_here series instance texts rest beside after steps number writer stop done at within next is =
    record {
      lines = done.lines;
      beside = beside;
      cut = cut_at series instance texts rest beside after steps writer.before writer.after done
          within next;
      is = subst (λ (n : ℕ). IsStopAt series instance beside n stop)
          (here_is series.span.first number steps (length done.lines) at done.count) is;
      written = done.written;
    }

pub stopped : (series : Series) (instance : List ℕ) (texts rest beside after : BesideData)
    (steps number : ℕ)
    (writer : DeviceUse) (stop : Stop)
    → Progress series instance texts rest steps writer.before writer.after
    → number ≡ series.span.first + steps
    → steps < unwrap_or series.span.last 4294967295 + 1 - series.span.first → AreNext series.told rest beside after
    → IsStopAt series instance beside number stop → WritesUntil series instance texts writer stop
stopped series instance texts rest beside after steps number writer stops.Memory done at within next is =
    stops_here series instance texts rest beside after steps number writer stops.Memory done at
    within next is
stopped series instance texts rest beside after steps number writer stops.Unwritten done at within next is =
    absurd is
stopped series instance texts rest beside after steps number writer (stops.Ended status said) done at within next is =
    stops_here series instance texts rest beside after steps number writer (stops.Ended status said)
    done at within next is

-- the line of the instance whose turn it is was not written whole
pub cut_off : (series : Series) (instance : List ℕ) (texts rest beside after : BesideData)
    (line : List ℕ) (steps number : ℕ) (now : Option (List ℕ)) (writer : DeviceUse) (stop : Stop)
    → Progress series instance texts rest steps writer.before now
    → number ≡ series.span.first + steps
    → steps < unwrap_or series.span.last 4294967295 + 1 - series.span.first → AreNext series.told rest beside after
    → IsEntry series instance beside number line
    → IsUnwritten (record { before = now; after = writer.after; failed = writer.failed }) line stop
    → WritesUntil series instance texts writer stop
cut_off series instance texts rest beside after line steps number now writer stops.Memory done at within next is kept =
    record {
      lines = done.lines;
      beside = beside;
      cut = cut_at series instance texts rest beside after steps writer.before now done within next;
      is = tt;
      written = Appends-kept writer.before now writer.after (joined done.lines) done.written kept;
    }
cut_off series instance texts rest beside after line steps number now writer stops.Unwritten done at within next is (failed, part) =
    record {
      lines = done.lines;
      beside = beside;
      cut = cut_at series instance texts rest beside after steps writer.before now done within next;
      line = line;
      is = subst (λ (n : ℕ). IsEntry series instance beside n line)
          (here_is series.span.first number steps (length done.lines) at done.count) is;
      failed = failed;
      taken = part.0;
      within = part.1;
      written = Appends-trans writer.before now writer.after (joined done.lines) (take part.0 line)
          done.written part.2;
    }
cut_off series instance texts rest beside after line steps number now writer (stops.Ended status said) done at within next is none =
    absurd none
