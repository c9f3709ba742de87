use Rattle.std.proofs.Common.{List, ℕ, Bor, Some, ap, inl, inr, subst, codes, ◌≡◌, ◌∙◌}
use Rattle.std.specs.declared.alloc.Global.{Global}
use Rattle.tf_text.specs.Counted.{inner_of, use_of}
use Rattle.tf_text.specs.declared.answer.layout.Layout.TheVariants.{Two}
use Rattle.tf_asked.specs.Asking.{requested}
use Rattle.tf_orders.specs.declared.run_orders.OrderForm.{OrderForm}
use Rattle.tf_command.specs.Ending.{EndsRating, SaysLine}
use Rattle.tf_command.specs.Performing.{AreOthers, EndsMeasuring}
use Rattle.tf_command.specs.Recorded.{bytes_left}
use Rattle.tf_command.specs.declared.recorded.Recorded.{Recorded}
use Rattle.std.specs.Io.KnownBytes.{Keeps}
use Rattle.std.proofs.KnownBytes.{Keeps-refl}
use Rattle.tf_command.proofs.Saying.{says_alone}
use Rattle.tf_command.proofs.rating.rate_measured.Goals as goal

pub returns : goal.returns
returns g c =
    let texts = g.S.Sources.text_of c.args.sources.now in
    let options = c.args.options.now in
    let others = c.in-Ok-others_in.others in
    let left = bytes_left (λ (s : Bor (List ℕ)). Some s.now) in
    let reader = use_of left c.new-instance-2.result c.rate.new.instance in
    let orders = use_of left c.new-orders-2.result c.rate.new.orders in
    let given = λ (r : Recorded (Bor (List ℕ))). Some r.inner.now in
    let offer = c.args.aids.offered in
    let done = subst (λ (form : OrderForm). EndsRating Global form offer (requested options Two) others
    reader orders
    (use_of g.W.Write.contents c.source_text.new.console.writer c.rate.new.console.writer)
    (SaysLine g.E.Write.contents options.telling.explain c.source_text.new.console.errors
    c.rate.new.console.errors) c.rate.result) c.source_form.ensures c.rate.ensures in
    inl
    (subst (λ console. EndsMeasuring texts options c.args.source offer
    (use_of g.W.Write.contents console.writer c.rate.new.console.writer)
    (SaysLine g.E.Write.contents options.telling.explain console.errors c.rate.new.console.errors)
    c.rate.result) (c.in-Ok-source_text.ensures.kept ∙ c.in-Ok.ensures.kept)
    (record {
      instance = c.in-Ok.text.items;
      is_file = c.in-Ok.ensures.text;
      text = c.in-Ok-source_text.text.items;
      is_source = c.in-Ok-source_text.ensures.text;
      others = others;
      are_others = subst (λ (text : List ℕ). AreOthers (requested options Two) text others)
          c.deref.ensures.value c.in-Ok-others_in.ensures;
      reader = reader;
      reads = ap given c.new-instance-2.ensures.inner
          ∙ ap (λ (s : Bor (List ℕ)). Some s.now) c.new-instance.ensures
          ∙ ap Some c.as_slice.ensures.value;
      orders = orders;
      reads_orders = ap given c.new-orders-2.ensures.inner
          ∙ ap (λ (s : Bor (List ℕ)). Some s.now) c.new-orders.ensures
          ∙ ap Some c.as_slice-2.ensures.value;
      done = done;
    }))

pub returns-in_default : goal.returns-in_default
returns-in_default g c =
    let options = c.args.options.now in
    inr (inr (subst (λ console. (c.say_memory.result ≡ 3)
    × Keeps (g.W.Write.contents (inner_of console.writer))
    (g.W.Write.contents (inner_of c.source_text.new.console.writer))
    × SaysLine g.E.Write.contents options.telling.explain console.errors c.say_memory.new.writer
    (codes "threefield: want of memory\n"))
    (c.in-Ok-source_text.ensures.kept ∙ c.in-Ok.ensures.kept)
    (c.say_memory.ensures.status, Keeps-refl _, says_alone c.say_memory.ensures.line)))
