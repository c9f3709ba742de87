-- Adding to an object or an array, item after item.
use Rattle.std.proofs.Common.{◌≡◌, ℕ, Bool, true, false, ◌&&◌, List, [], ◌∷◌, ◌++◌, refl, sym, ap, subst, ◌∙◌, append_assoc, append-nil}
use Rattle.std.specs.List.{join_with_byte}
use Rattle.tf_export.specs.Json.{string, member, object}
use Rattle.tf_export.specs.Adds.{Adds, comma, listed, is_none}
use Rattle.tf_export.specs.declared.json.Json.{Json}

-- some items, and then others
listed-append : (first : Bool) (xs ys : List (List ℕ))
    → listed first (xs ++ ys) ≡ listed first xs ++ listed (first && is_none xs) ys
unfolding listed
listed-append true [] ys = refl
listed-append false [] ys = refl
listed-append true (x ∷ xs) ys =
    ap (λ text. x ++ text) (listed-append false xs ys)
    ∙ sym (append_assoc x (listed false xs) (listed false ys))
listed-append false (x ∷ xs) ys =
    ap (λ text. 44 ∷ (x ++ text)) (listed-append false xs ys)
    ∙ ap (λ text. 44 ∷ text) (sym (append_assoc x (listed false xs) (listed false ys)))

still_first : (first : Bool) (xs ys : List (List ℕ))
    → ((first && is_none xs) && is_none ys) ≡ (first && is_none (xs ++ ys))
still_first true [] ys = refl
still_first false [] ys = refl
still_first true (x ∷ xs) ys = refl
still_first false (x ∷ xs) ys = refl

-- all items of an array or an object
pub joined : (xs : List (List ℕ)) → listed true xs ≡ join_with_byte 44 xs
unfolding listed
joined [] = refl
joined (x ∷ []) = append-nil x
joined (x ∷ y ∷ ys) = ap (λ text. x ++ 44 ∷ text) (joined (y ∷ ys))

and_true : (first : Bool) → first ≡ (first && true)
and_true true = refl
and_true false = refl

and_false : (first : Bool) → false ≡ (first && false)
and_false true = refl
and_false false = refl

none_listed : (first : Bool) (text : List ℕ) → text ≡ text ++ listed first []
unfolding listed
none_listed first text = sym (append-nil text)

one_listed : (first : Bool) (item : List ℕ) → listed first (item ∷ []) ≡ comma first ++ item
unfolding listed
one_listed first item = ap (λ text. comma first ++ text) (append-nil item)

-- nothing is added
pub none : (a : Json) → Adds a a []
none a = record {
  text = none_listed a.is_first a.text.items;
  first = and_true a.is_first;
}

pub nothing : (a : Json) (items : List (List ℕ)) → items ≡ [] → Adds a a items
nothing a items is = subst (Adds a a) (sym is) (none a)

-- some items, and then others
pub both : (a b c : Json) (xs ys : List (List ℕ)) → Adds a b xs → Adds b c ys
    → Adds a c (xs ++ ys)
both a b c xs ys p q = record {
  text = q.text
      ∙ ap (λ (first : Bool). b.text.items ++ listed first ys) p.first
      ∙ ap (λ (text : List ℕ). text ++ listed (a.is_first && is_none xs) ys) p.text
      ∙ append_assoc a.text.items (listed a.is_first xs) (listed (a.is_first && is_none xs) ys)
      ∙ ap (λ (text : List ℕ). a.text.items ++ text) (sym (listed-append a.is_first xs ys));
  first = q.first
      ∙ ap (λ (first : Bool). first && is_none ys) p.first
      ∙ still_first a.is_first xs ys;
}

-- one item
pub one : (a b : Json) (item t1 : List ℕ) → t1 ≡ a.text.items ++ comma a.is_first
    → b.text.items ≡ t1 ++ item → b.is_first ≡ false → Adds a b (item ∷ [])
one a b item t1 e1 e2 first = record {
  text = e2
      ∙ ap (λ (text : List ℕ). text ++ item) e1
      ∙ append_assoc a.text.items (comma a.is_first) item
      ∙ ap (λ (text : List ℕ). a.text.items ++ text) (sym (one_listed a.is_first item));
  first = first ∙ and_false a.is_first;
}

-- a name and a value
pub named : (a b : Json) (name value t1 : List ℕ)
    → t1 ≡ a.text.items ++ (comma a.is_first ++ (string name ++ 58 ∷ []))
    → b.text.items ≡ t1 ++ value → b.is_first ≡ false → Adds a b (member name value ∷ [])
named a b name value t1 e1 e2 first =
    let front : List ℕ = a.text.items ++ comma a.is_first in
    let begun : t1 ≡ front ++ (string name ++ 58 ∷ []) = e1
    ∙ sym (append_assoc a.text.items (comma a.is_first) (string name ++ 58 ∷ [])) in
    let whole : b.text.items ≡ front ++ member name value = e2
    ∙ ap (λ (text : List ℕ). text ++ value) begun
    ∙ append_assoc front (string name ++ 58 ∷ []) value
    ∙ ap (λ (text : List ℕ). front ++ text) (append_assoc (string name) (58 ∷ []) value) in
    one a b (member name value) front refl whole first

-- items in brackets
pub bracketed : (t1 t4 : List ℕ) (b c : Json) (before behind : ℕ) (items : List (List ℕ))
    → b.text.items ≡ t1 ++ before ∷ [] → b.is_first ≡ true → Adds b c items
    → t4 ≡ c.text.items ++ behind ∷ [] → t4 ≡ t1 ++ before ∷ (join_with_byte 44 items ++ behind ∷ [])
bracketed t1 t4 b c before behind items e2 first adds e4 =
    let inner : c.text.items ≡ (t1 ++ before ∷ []) ++ join_with_byte 44 items = adds.text
    ∙ ap (λ (f : Bool). b.text.items ++ listed f items) first
    ∙ ap (λ (text : List ℕ). b.text.items ++ text) (joined items)
    ∙ ap (λ (text : List ℕ). text ++ join_with_byte 44 items) e2 in
    e4
    ∙ ap (λ (text : List ℕ). text ++ behind ∷ []) inner
    ∙ append_assoc (t1 ++ before ∷ []) (join_with_byte 44 items) (behind ∷ [])
    ∙ append_assoc t1 (before ∷ []) (join_with_byte 44 items ++ behind ∷ [])

-- a whole object, and a line feed
pub whole : (b c : Json) (t4 : List ℕ) (items : List (List ℕ)) → b.text.items ≡ 123 ∷ []
    → b.is_first ≡ true → Adds b c items → t4 ≡ c.text.items ++ 125 ∷ 10 ∷ []
    → t4 ≡ object items ++ 10 ∷ []
whole b c t4 items begun first adds is =
    is
    ∙ sym (append_assoc c.text.items (125 ∷ []) (10 ∷ []))
    ∙ ap (λ (text : List ℕ). text ++ 10 ∷ [])
    (bracketed [] (c.text.items ++ 125 ∷ []) b c 123 125 items begun first adds refl)

-- of the items of all, these are left
abbrev pub Remains : Json → List (List ℕ) → Json → List (List ℕ) → Type 0
Remains start all now left = (end : Json) → Adds now end left → Adds start end all

pub next : (start a b : Json) (all left items more : List (List ℕ)) → left ≡ items ++ more
    → Adds a b items → Remains start all a left → Remains start all b more
next start a b all left items more is adds remains = λ end rest.
    remains end (subst (Adds a end) (sym is) (both a b end items more adds rest))

pub done : (start a : Json) (all left : List (List ℕ)) → left ≡ []
    → Remains start all a left → Adds start a all
done start a all left is remains = remains a (subst (Adds a a) (sym is) (none a))
