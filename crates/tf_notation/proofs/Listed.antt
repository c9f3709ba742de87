-- One condition and its divider, of a list of conditions.
use Rattle.std.proofs.Common.{◌≡◌, ℕ, Bool, true, false, cond, List, [], ◌∷◌, Some, None, Result, Ok, Err, refl, ap, ◌∙◌}
use Rattle.std.specs.Option.{option_map_or}
use Rattle.tf_model.specs.declared.problem.Problem.{Problem}
use Rattle.tf_notation.specs.Spelling.{meaning, dividers, adds}
use Rattle.tf_notation.specs.Tokens.{Token}
use Rattle.tf_notation.specs.Reading.{expect, listed, behind_condition}

abbrev pub Read : Type 0 → Type 0
Read A = Result (A × List Token) ℕ

pub after : ℕ → Read Problem → Read Problem
after end (Ok x) = behind_condition end x.0 x.1
after end (Err e) = Err e

pub divided : ℕ → Problem → Read Bool → Read Problem
divided end named (Ok x) = cond x.0 (listed end named x.1) (Ok (named, x.1))
divided end named (Err e) = Err e

next_condition : (end : ℕ) (named : Problem) (ts : List Token)
    → listed end named ts ≡ after end (expect (adds named) end ts)
unfolding listed expect after
next_condition end named [] = refl
next_condition end named (t ∷ ts) =
    elim (adds named t.bytes) as
    (λ o. option_map_or (λ more. behind_condition end more ts) o (Err t.start)
    ≡ after end (option_map_or (λ x. Ok (x, ts)) o (Err t.start))) [ None ↦ refl | Some x ↦ refl ]

next_divider : (end : ℕ) (named : Problem) (ts : List Token)
    → behind_condition end named ts ≡ divided end named (expect (meaning dividers) end ts)
unfolding listed expect divided
next_divider end named [] = refl
next_divider end named (t ∷ ts) =
    elim (meaning dividers t.bytes) as
    (λ o. option_map_or (λ another. cond another (listed end named ts) (Ok (named, ts))) o
    (Err t.start) ≡ divided end named (option_map_or (λ x. Ok (x, ts)) o (Err t.start))) [
      | None ↦
          refl
      | Some x ↦ refl
    ]

pub fault_condition : (end : ℕ) (named : Problem) (ts : List Token) (e : ℕ)
    → expect (adds named) end ts ≡ Err e → listed end named ts ≡ Err e
unfolding after
fault_condition end named ts e h = next_condition end named ts ∙ ap (after end) h

pub read_on : (end : ℕ) (named more : Problem) (ts us : List Token)
    → expect (adds named) end ts ≡ Ok (more, us)
    → listed end named ts ≡ divided end more (expect (meaning dividers) end us)
unfolding after
read_on end named more ts us h = next_condition end named ts ∙ ap (after end) h
    ∙ next_divider end more us

pub fault_divider : (end : ℕ) (named more : Problem) (ts us : List Token) (e : ℕ)
    → expect (adds named) end ts ≡ Ok (more, us) → expect (meaning dividers) end us ≡ Err e
    → listed end named ts ≡ Err e
unfolding divided
fault_divider end named more ts us e h k = read_on end named more ts us h ∙ ap (divided end more) k

pub last : (end : ℕ) (named more : Problem) (ts us vs : List Token) (b : Bool)
    → expect (adds named) end ts ≡ Ok (more, us) → expect (meaning dividers) end us ≡ Ok (b, vs)
    → b ≡ false → listed end named ts ≡ Ok (more, vs)
unfolding divided
last end named more ts us vs b h k e = read_on end named more ts us h ∙ ap (divided end more) k
    ∙ rw e refl

pub another : (end : ℕ) (named more : Problem) (ts us vs : List Token) (b : Bool)
    → expect (adds named) end ts ≡ Ok (more, us) → expect (meaning dividers) end us ≡ Ok (b, vs)
    → b ≡ true → listed end named ts ≡ listed end more vs
unfolding divided
another end named more ts us vs b h k e = read_on end named more ts us h ∙ ap (divided end more) k
    ∙ rw e refl
