-- What `allocate` answers: a block at some place, or that there is none. Assumes `Logic`.
use Rattle.std.proofs.Common.{ℕ, [], ◌∷◌, true, false, Option, None, Some, Ok, Err}
use Rattle.std.proofs.alloc.Calls.{Answer, answer_val, Answer-typed, Answer-Ok, Answer-err}
use Rattle.std.specs.Allocator.{block_if_ok}
use lib.Dec.{T}
use seplogic.Ra.Ura.{Ura}
use mir.Syntax.{Ty}
use mir.Val.{Val, has_ty, WT}
use base.Logic.{ent, emp, id⊢}
use base.Fml.{Fml, ftrue, fsep, froom}
use types.Logic.{Logic, sem}
use types.Kit.{‵, ◌$◌, ◌∵◌, !, qed, move, use0, use1, fjoin, done}
use denote.Param.{layout}
use denote.RawPtr.{block_ptr}
use denote.Steps.{nothing}

-- the place of the block, if there is one
abbrev pub Grant : Type 0
Grant = Option (ℕ × ℕ)

-- the answer, the word that holds it, and the room that goes with it
abbrev pub answer : Grant → Answer.Denot
answer None = Err (record {})
answer (Some (b, o)) = Ok (block_ptr b o)

abbrev pub word : Grant → Val
word None = answer_val false 0 0
word (Some (b, o)) = answer_val true b o

abbrev pub room_of : Ty → Grant → Fml
room_of τ None = ftrue
room_of τ (Some (b, o)) = froom τ b o

pub is_typed : (g : Grant) → T (has_ty (layout Answer) (word g)) × WT (word g)
is_typed None = Answer-typed false 0 0
is_typed (Some (b, o)) = Answer-typed true b o

-- what the caller gets of the room: nothing is owed for giving it back
abbrev pub given_of : Ty → Grant → Fml
given_of τ g = block_if_ok (λ _ _. ftrue) τ (answer g)

abbrev pub held_as : Grant → Fml
held_as g = Answer.own_val (answer g) (word g ∷ [])

module _ {M : Type 1} {𝓤 : Ura M} (𝓛 : Logic 𝓤) where
  made : (g : Grant) → ent 𝓤 (emp 𝓤) (sem 𝓛 (held_as g))
  made None = Answer-err 𝓛
  made (Some (b, o)) = Answer-Ok 𝓛 b o

  owed : (τ : Ty) (g : Grant) → ent 𝓤 (sem 𝓛 (room_of τ g)) (sem 𝓛 (given_of τ g))
  owed τ None = id⊢ 𝓤 _
  owed τ (Some (b, o)) =
      qed 𝓛 (‵ (froom τ b o) ∷ []) ∵ nothing ! $ move ! (1 ∷ 0 ∷ []) $ fjoin ! $ done !

  -- from room at its place an answer is made
  pub answers : (τ : Ty) (g : Grant) → ent 𝓤 (sem 𝓛 (room_of τ g)) (sem 𝓛 (fsep (held_as g) (given_of τ g)))
  answers τ g =
      qed 𝓛 (‵ (room_of τ g) ∷ []) ∵
      use1 𝓛 (‵ (given_of τ g)) (owed τ g) $ use0 𝓛 (‵ (held_as g)) (made g) $ fjoin ! $ done !
