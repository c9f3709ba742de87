-- It gives what `take` has given. Assumes `Logic`.
use Rattle.std.proofs.Common.{◌≡◌, ℕ, ◌*◌, ◌^◌, ◌<◌, ◌≤◌, [], ◌∷◌, IfSome, None, Some, refl, sym, lit<, w64}
use native.Mathlib.Nat.{suc-ne-zero}
use Rattle.std.proofs.VecSteps.Shapes.{after}
use Rattle.std.proofs.raw_atomic.Walks.{proved}
use seplogic.Ra.Ura.{Ura}
use base.Logic.{SProp, ent, sep, id⊢}
use base.Fml.{ftrue, flft}
use prog.Memory.{Memory, size, align, capped}
use prog.Routine.{Routine}
use contract.Monad.{Fun, fact}
use contract.Running.{tables}
use types.Logic.{Logic, sem}
use types.Kit.{‵, raw, ◌⊛◌, some, later, at_ret, ◌$◌, ◌∵◌, !, qed, by, done, keep, move, drop, use1, split, split3, join, suffices, group, pick, await}
use types.Run.{enter, of_opd, lit, no_more, and_then, stop, fld, first, switches, exec, returns}
use types.Part.{whole, sub, agg}
use types.Match.{vrt, in_variant}
use types.ByLocal.{alloc_all, pass_all, free_all, look_at, get, get_in, get_tag, sets, sets_last, lands_as, env}
use denote.Builtin.{usize, RefOf}
use denote.Exit.{yes}
use denote.Plain.{uint_vals, uint_Tells}
use denote.Ref.{shr_vals}
use denote.Signature.{Slot, plain}
use denote.Steps.{nothing, heard}
use denote.Triple.Call.{calls_at}
use denote.Triple.Clauses.{lasts}
use denote.Triple.Spec.{triple_of}
use denote.Triple.Table.{framed}
use denote.Triple.Walked.{Stays, walk_of, stay_dropped, Goes-dropped, ends_at}
use Rattle.tf_reply.specs.contracts.reserve.Reserve as R
use Rattle.tf_reply.specs.contracts.reserve.ReserveAllocator.allocate as f
use Rattle.tf_reply.proofs.reserve.ReserveAllocator.allocate.Statement.{statement}
use Rattle.tf_reply.proofs.reserve.ReserveAllocator.allocate.Code as code
use Rattle.tf_reply.specs.contracts.reserve.Reserve.take as g
use Rattle.tf_reply.proofs.reserve.Reserve.take.Met.{met}
use Rattle.tf_reply.proofs.Taken.{Rooms, taken}
use Rattle.tf_reply.proofs.Granted.{Grant, answer, word, room_of, is_typed, given_of, held_as, answers}

abbrev lent : Slot 1
lent = RefOf (0 ∷ []) tt (plain (λ _. R.the_row)) (λ _. tt)

-- nothing is had of the three parameters at the return
abbrev gone : Stays f.ended.signature.params f.ended.kept
gone = (stay_dropped lent yes, (stay_dropped _ yes, (stay_dropped _ yes, tt)))

module _ {M : Type 1} {𝓤 : Ura M} (𝓛 : Logic 𝓤) (mem : Memory → SProp 𝓤) (run : Routine → Fun 𝓤)
    (y : (walk_of 𝓛 f.ended gone (f.clauses 𝓛 mem run)).Ghost) where
  -- the size that is asked for, and what is said of it
  abbrev asked : ℕ
  asked = y.0.3.1.0

  abbrev Sized : Type 0
  Sized = (capped (size y.1) ≡ asked) × (capped (align y.1) ≡ y.0.3.1.1.0)

  -- what is picked for the call of `take`
  abbrev at_take : (triple_of 𝓛 g.signature (g.spec 𝓛 mem run)).Ghost
  at_take =
      ((y.0.0, y.0.1, y.0.2, (y.0.3.0, (asked, tt)), (y.0.4.0, (y.0.4.1.0, tt))), tt)

  asks : ent 𝓤 ((walk_of 𝓛 f.ended gone (f.clauses 𝓛 mem run)).pre y)
      (sep 𝓤 (fact 𝓤 Sized) ((triple_of 𝓛 g.signature (g.spec 𝓛 mem run)).pre at_take))
  asks =
      qed 𝓛 (((‵ (flft y.0.0.0 y.0.1.0) ⊛ ‵ ftrue) ⊛ ‵ ((lent.row y.0.0).own_val y.0.3.0 y.0.4.0)
      ⊛ ‵ (usize.own_val asked y.0.4.1.0) ⊛ ‵ (usize.own_val y.0.3.1.1.0 y.0.4.1.1.0) ⊛ ‵ ftrue) ∷ raw (fact 𝓤 Sized) ∷ []) ∵
      split3 ! $ move ! (2 ∷ []) $ split ! $ keep ! (0 ∷ 2 ∷ 3 ∷ 4 ∷ []) $
      nothing ! $ move ! (1 ∷ 0 ∷ []) $ join ! $ move ! (2 ∷ 0 ∷ []) $ join ! $ move ! (1 ∷ 0 ∷ []) $ join ! $
      nothing ! $ move ! (1 ∷ 0 ∷ []) $ join ! $ move ! (1 ∷ 0 ∷ []) $ join ! $ done !

  -- an answer ends the walk, where the room that goes with it is there
  leaves : (grant : Grant)
      → ent 𝓤 (sep 𝓤 (sem 𝓛 (room_of y.1 grant)) (sep 𝓤 (sem 𝓛 (flft y.0.0.0 y.0.1.0)) (sem 𝓛 ftrue)))
      ((walk_of 𝓛 f.ended gone (f.clauses 𝓛 mem run)).post y (word grant))
  leaves grant =
      qed 𝓛 (‵ (room_of y.1 grant) ∷ (‵ (flft y.0.0.0 y.0.1.0) ⊛ ‵ ftrue) ∷ []) ∵
      use1 𝓛 (‵ (held_as grant) ⊛ ‵ (given_of y.1 grant)) (answers 𝓛 y.1 grant) $ split ! $
      suffices ! _ (ends_at 𝓛 f.ended gone (f.clauses 𝓛 mem run) y (word grant) (answer grant)
      (tt, (tt, (tt, tt))) (tt, (tt, (tt, tt)))) $
      nothing ! $ nothing ! $ join ! $ nothing ! $ join ! $ nothing ! $ join ! $
      move ! (3 ∷ []) $ group ! 3 $ done !

pub allocate_spec : {M : Type 1} → statement M
allocate_spec 𝓤 𝓛 𝓜 𝓡 wired =
    let 𝓣 = tables 𝓤 𝓛.H 𝓜 𝓡 𝓡.env in
    let Take = triple_of 𝓛 g.signature (g.spec 𝓛 𝓜.mem 𝓡.returns) in
    let W = walk_of 𝓛 f.ended gone (f.clauses 𝓛 𝓜.mem 𝓡.returns) in
    let number = Goes-dropped 𝓛 1 (plain (λ _. usize)) yes (λ κs x w. refl) in
    proved 𝓛 f.ended gone (f.clauses 𝓛 𝓜.mem 𝓡.returns) 𝓜 𝓡
    (Goes-dropped 𝓛 1 lent yes (λ κs x w. refl), (number, (number, tt)))
    f.Key.name code.function
    (code.unfolded 𝓤 𝓛.H 𝓜 𝓡 wired) (λ κs. (shr_vals, (uint_vals w64, (uint_vals w64, tt))))
    (λ κs. ((λ r vs s. s.0), (uint_Tells w64, (uint_Tells w64, tt))))
    (λ κs qs bounds a τ are.
    let y : W.Ghost =
    ((κs, qs, bounds, a, (shr_vals a.0, (uint_vals w64 a.1.0, (uint_vals w64 a.1.1.0, tt)))), τ) in
    let z : Take.Ghost = at_take 𝓛 𝓜.mem 𝓡.returns y in
    let sized = Sized 𝓛 𝓜.mem 𝓡.returns y in
    let done_with = λ (grant : Grant). leaves 𝓛 𝓜.mem 𝓡.returns y grant in
    qed 𝓛 (raw (W.pre y) ∷ []) ∵
    use1 𝓛 (raw (fact 𝓤 sized) ⊛ raw (Take.pre z)) (asks 𝓛 𝓜.mem 𝓡.returns y) $ split ! $
    heard ! sized (λ fits. enter ! _ _ _ _ _ $
    alloc_all ! (λ l. pass_all ! refl
    ((tt, tt), ((tt, record { fits = are.1.0.1 }), ((tt, record { fits = are.1.1.0.1 }), tt))) $
    calls_at ! (framed 𝓤 𝓛.H 𝓜 𝓣) Take (met 𝓤 𝓛 𝓜 𝓡 (code.calls-tf_reply::reserve::Reserve::take 𝓡.env wired)) z
    (and_then ! (get ! refl) (and_then ! (get ! refl) (no_more !))) (λ v.
    use1 𝓛 (later (some (λ (r : Rooms.Denot).
    ((‵ (flft κs.0 qs.0) ⊛ ‵ ftrue) ⊛ ‵ (Rooms.own_val r (v ∷ []))) ⊛
    some (λ (ws : Unit {0} × (Unit {0} × Unit {0})). ‵ (lasts g.ended κs z.0.3 ws) ⊛
    raw (fact 𝓤 (IfSome r (λ x. (a.1.0 ≤ x.units * 16) × (x.units < 2 ^ 59)))))))) (id⊢ 𝓤 _) $
    await ! tt $ pick ! (λ r. split ! $ split ! $ move ! (2 ∷ []) $
    pick ! (λ ws. split ! $ drop ! $ heard ! _ (λ told. move ! (1 ∷ []) $
    taken ! τ a.1.0 fits.0 r v told
    (λ b o is. let block : Grant = Some (b, o) in
    lands_as ! is refl (tt, (record { fits = lit< tt }, ((tt, tt), tt))) $
    first ! $ switches ! (get_tag ! (vrt ! refl (fld ! refl (stop !))) (whole !)) (
      (λ _. sets ! (of_opd ! (get_in ! (vrt ! refl (fld ! refl (fld ! refl (stop !))))
          (sub ! 0 refl (in_variant ! 1 0 refl refl (whole !))))) refl (tt, tt) $
          sets_last ! (agg ! (and_then ! (lit ! tt) (and_then ! (get ! refl) (no_more !)))) refl
          (is_typed block) $
          exec ! 𝓣.C 𝓣.Λ (env code.function.locals l) (after 2 (code.function).body) (at_ret _ (W.post y)) $
          sets ! (of_opd ! (get ! refl)) refl (is_typed block) $ returns ! (look_at ! 0 refl) $
          free_all ! refl $ keep ! (0 ∷ 1 ∷ []) $ by ! (done_with block)),
      ((λ no. absurd (suc-ne-zero 0 no)), (λ no. absurd (no.0.1 refl))),
    ))
    (λ is. lands_as ! is refl (tt, (record { fits = lit< tt }, tt)) $
    first ! $ switches ! (get_tag ! (vrt ! refl (fld ! refl (stop !))) (whole !)) (
      (λ no. absurd (suc-ne-zero 0 (sym no))),
      (
        (λ _. sets ! (agg ! (no_more !)) refl (tt, tt) $
            sets_last ! (agg ! (and_then ! (lit ! tt) (and_then ! (get ! refl) (no_more !)))) refl
            (is_typed None) $
            exec ! 𝓣.C 𝓣.Λ (env code.function.locals l) (after 2 (code.function).body) (at_ret _ (W.post y)) $
            sets ! (of_opd ! (get ! refl)) refl (is_typed None) $ returns ! (look_at ! 0 refl) $
            free_all ! refl $ keep ! (0 ∷ []) $ nothing ! $ by ! (done_with None)),
        (λ no. absurd (no.1 refl)),
      ),
    )))))))))
