-- It does nothing, and so what it is given is lost. Assumes `Logic`.
use Rattle.std.proofs.Common.{◌≡◌, List, [], ◌∷◌, refl, w64}
use Rattle.std.proofs.raw_atomic.Walks.{proved}
use seplogic.Ra.Ura.{Ura}
use mir.Val.{Val, vunit}
use base.Logic.{SProp, ent, sep}
use base.Fml.{ftrue, flft}
use prog.Memory.{Memory, size, align, capped}
use prog.Routine.{Routine}
use contract.Monad.{Fun, fact}
use types.Logic.{Logic, sem}
use types.Kit.{‵, raw, ◌⊛◌, ◌$◌, ◌∵◌, !, qed, by, done, keep, move, use1, split, join, feq_i, suffices, group}
use types.Run.{enter, of_opd, unit_lit, returns}
use types.ByLocal.{alloc_all, pass_all, free_all, look_at, sets}
use denote.Builtin.{usize, RawPtr, RefOf}
use denote.Exit.{yes}
use denote.Plain.{uint_vals, uint_Tells}
use denote.RattleType.{owns}
use denote.RawPtr.{room_for, rawptr_vals, rawptr_Tells, rawptr_Lawful}
use denote.Ref.{shr_vals}
use denote.Signature.{Slot, plain, types_at}
use denote.Steps.{nothing}
use denote.Triple.Walked.{Stays, walk_of, stay_dropped, Goes-dropped, ends_at}
use Rattle.tf_reply.specs.contracts.reserve.Reserve as R
use Rattle.tf_reply.specs.contracts.reserve.ReserveAllocator.deallocate as f
use Rattle.tf_reply.proofs.reserve.ReserveAllocator.deallocate.Statement.{statement}
use Rattle.tf_reply.proofs.reserve.ReserveAllocator.deallocate.Code as code

abbrev lent : Slot 1
lent = RefOf (0 ∷ []) tt (plain (λ _. R.the_row)) (λ _. tt)

-- nothing is had of the four parameters at the return
abbrev gone : Stays f.ended.signature.params f.ended.kept
gone = (stay_dropped lent yes, (stay_dropped _ yes, (stay_dropped _ yes, (stay_dropped _ yes, tt))))

module _ {M : Type 1} {𝓤 : Ura M} (𝓛 : Logic 𝓤) (mem : Memory → SProp 𝓤) (run : Routine → Fun 𝓤)
    (y : (walk_of 𝓛 f.ended gone (f.clauses 𝓛 mem run)).Ghost) where
  -- the block is let go before the body begins
  forgets : ent 𝓤 ((walk_of 𝓛 f.ended gone (f.clauses 𝓛 mem run)).pre y)
      (sep 𝓤 (sem 𝓛 (flft y.0.0.0 y.0.1.0)) (sem 𝓛 ftrue))
  forgets =
      qed 𝓛 (((‵ (flft y.0.0.0 y.0.1.0) ⊛ ‵ ftrue) ⊛ ‵ (owns (types_at f.signature.params y.0.0) y.0.3 y.0.4)) ∷
      (raw (fact 𝓤 ((capped (size y.1) ≡ y.0.3.1.1.0) × (capped (align y.1) ≡ y.0.3.1.1.1.0)))
      ⊛ ‵ (room_for y.1 y.0.3.1.0) ⊛ ‵ ftrue) ∷ []) ∵
      split ! $ keep ! (0 ∷ []) $ done !

  -- and nothing more is wanted at the return
  leaves : ent 𝓤 (sep 𝓤 (sem 𝓛 (flft y.0.0.0 y.0.1.0)) (sem 𝓛 ftrue))
      ((walk_of 𝓛 f.ended gone (f.clauses 𝓛 mem run)).post y vunit)
  leaves =
      qed 𝓛 ((‵ (flft y.0.0.0 y.0.1.0) ⊛ ‵ ftrue) ∷ []) ∵
      suffices ! _ (ends_at 𝓛 f.ended gone (f.clauses 𝓛 mem run) y vunit tt
      (tt, (tt, (tt, (tt, tt)))) (tt, (tt, (tt, (tt, tt))))) $
      nothing ! $ feq_i ! (List Val) (vunit ∷ []) (vunit ∷ []) refl $ nothing ! $
      nothing ! $ join ! $ nothing ! $ join ! $ nothing ! $ join ! $ nothing ! $ join ! $
      move ! (3 ∷ []) $ group ! 3 $ done !

pub deallocate_spec : {M : Type 1} → statement M
deallocate_spec 𝓤 𝓛 𝓜 𝓡 wired =
    let W = walk_of 𝓛 f.ended gone (f.clauses 𝓛 𝓜.mem 𝓡.returns) in
    let number = Goes-dropped 𝓛 1 (plain (λ _. usize)) yes (λ κs x w. refl) in
    let pointer = Goes-dropped 𝓛 1 (plain (λ _. RawPtr)) yes (λ κs x w. refl) in
    proved 𝓛 f.ended gone (f.clauses 𝓛 𝓜.mem 𝓡.returns) 𝓜 𝓡
    (Goes-dropped 𝓛 1 lent yes (λ κs x w. refl), (pointer, (number, (number, tt))))
    f.Key.name code.function
    (code.unfolded 𝓤 𝓛.H 𝓜 𝓡 wired) (λ κs. (shr_vals, (rawptr_vals, (uint_vals w64, (uint_vals w64, tt)))))
    (λ κs. ((λ r vs s. s.0), (rawptr_Tells, (uint_Tells w64, (uint_Tells w64, tt)))))
    (λ κs qs bounds a τ are.
    let y : W.Ghost =
    ((κs, qs, bounds, a, (shr_vals a.0, (rawptr_vals a.1.0, (uint_vals w64 a.1.1.0, (uint_vals w64 a.1.1.1.0, tt))))), τ) in
    qed 𝓛 (raw (W.pre y) ∷ []) ∵
    use1 𝓛 (‵ (flft κs.0 qs.0) ⊛ ‵ ftrue) (forgets 𝓛 𝓜.mem 𝓡.returns y) $ enter ! _ _ _ _ _ $
    alloc_all ! (λ l. pass_all ! refl (
      (tt, tt),
      (
        ((rawptr_Lawful 𝓛).typed a.1.0 _ refl).0,
        ((tt, record { fits = are.1.1.0.1 }), ((tt, record { fits = are.1.1.1.0.1 }), tt)),
      ),
    ) $
    sets ! (of_opd ! (unit_lit !)) refl (tt, tt) $ returns ! (look_at ! 0 refl) $
    free_all ! refl $ keep ! (0 ∷ []) $ by ! (leaves 𝓛 𝓜.mem 𝓡.returns y)))
