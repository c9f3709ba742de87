-- What `take` gave, at a walk: room for the type that is asked for, or nothing. Assumes `Logic`.
use Rattle.std.proofs.Common.{◌≡◌, ℕ, ◌*◌, ◌^◌, ◌<◌, ◌≤◌, List, [], ◌∷◌, ◌++◌, IfSome, None, Some, ap, ◌∙◌}
use Rattle.tf_reply.proofs.Narrows.{fits}
use seplogic.Ra.Ura.{Ura}
use mir.Syntax.{Ty}
use mir.Val.{Val, vptr, vstruct, vcons, vnil, of_list}
use base.Logic.{SProp, ent, emp, ex, guard, id⊢}
use base.Fml.{froom}
use prog.Memory.{size, capped}
use types.Logic.{Logic, sem}
use types.Kit.{Item, Goal, Seq, ‵, raw, some, given, ◌$◌, ◌∵◌, !, qed, by, use1, move, keep, drop, fsplit, fpick, feq_l, pick, learn, show, check, done}
use types.Match.{live}
use contract.Monad.{fact, fact_i}
use denote.Laws.{shows}
use denote.RattleType.{RattleType}
use denote.RawPtr.{Ptr, in_a_block}
use denote.Steps.{only, peeks, heard}
use Rattle.std.specs.contracts.option.Option as option
use Rattle.tf_reply.specs.declared.space.Room.{Room}
use Rattle.tf_reply.specs.contracts.space.Room as room
use Rattle.tf_reply.proofs.space.Room.TheLaws.{lowers}
use Rattle.tf_reply.specs.Units.{room_of_units}

-- room, if there was some
abbrev pub Rooms : RattleType
Rooms = option.the_row room.the_row

-- the values of the two cases
abbrev pub some_val : ℕ → ℕ → Val
some_val b o = live 1 (vcons (vstruct (vcons (vptr b o) vnil)) vnil)

abbrev pub none_val : Val
none_val = live 0 vnil

module _ {M : Type 1} {𝓤 : Ura M} (𝓛 : Logic 𝓤) (v : Val) where
  -- room for the type, at a place that the value names
  abbrev Found : Ty → SProp 𝓤
  Found τ = ex 𝓤 (λ (p : ℕ × ℕ). guard 𝓤 (v ≡ some_val p.0 p.1) (sem 𝓛 (froom τ p.0 p.1)))

  finds : (τ : Ty) (n : ℕ) → capped (size τ) ≡ n → (r : Room) → n ≤ r.units * 16 → r.units < 2 ^ 59
      → ent 𝓤 (sem 𝓛 (Rooms.own_val (Some r) (v ∷ []))) (Found τ)
  finds τ n asked r enough short =
      qed 𝓛 (‵ (Rooms.own_val (Some r) (v ∷ [])) ∷ []) ∵
      fpick ! (λ us. fsplit ! $ feq_l ! (λ tagged. fpick ! (λ vss. fsplit ! $ feq_l ! (λ alone.
      fsplit ! $ move ! (1 ∷ []) $ drop ! $ peeks ! room.the_row _ (shows 𝓛 room.the_row) r vss.0 (λ lies.
      fsplit ! $ drop ! $ in_a_block ! r.start (λ (p : Ptr). room_of_units p r.units) (id⊢ 𝓤 _) (λ b o at.
      use1 𝓛 (‵ (froom τ b o)) (fits 𝓛 b o τ n r.units asked enough short) $
      let start = lowers.val_is r vss.0 lies
      ∙ ap (λ (p : Ptr). lowers.lowered (record r { start = p }) ∷ []) at in
      show ! (λ (p : ℕ × ℕ). guard 𝓤 (v ≡ some_val p.0 p.1) (sem 𝓛 (froom τ p.0 p.1))) (b, o) $
      check ! (ap only tagged ∙ ap (λ (ws : List Val). live 1 (of_list ws))
      (alone ∙ ap (λ (ws : List Val). ws ++ []) start)) $ done !))))))

  lacks : ent 𝓤 (sem 𝓛 (Rooms.own_val None (v ∷ []))) (fact 𝓤 (v ≡ none_val))
  lacks =
      qed 𝓛 (‵ (Rooms.own_val None (v ∷ [])) ∷ []) ∵
      fpick ! (λ us. fsplit ! $ feq_l ! (λ tagged. fpick ! (λ vss. fsplit ! $ feq_l ! (λ blank. keep ! [] $
      by ! (fact_i 𝓤 (v ≡ none_val) (emp 𝓤)
      (ap only tagged ∙ ap (λ (ws : List Val). live 0 (of_list ws)) blank))))))

module _ {M : Type 1} {𝓤 : Ura M} {𝓛 : Logic 𝓤} {K : Type 0} {Γ : List (Item 𝓤)} {G : Goal 𝓤 𝓛.H} where
  pub taken : K → (τ : Ty) (n : ℕ) → capped (size τ) ≡ n → (x : Rooms.Denot) (v : Val)
      → IfSome x (λ r. (n ≤ r.units * 16) × (r.units < 2 ^ 59))
      → ((b o : ℕ) → v ≡ some_val b o → Seq K 𝓛 (‵ (froom τ b o) ∷ Γ) G) → (v ≡ none_val → Seq K 𝓛 Γ G)
      → Seq K 𝓛 (‵ (Rooms.own_val x (v ∷ [])) ∷ Γ) G
  taken t τ n asked None v told some_next none_next =
      use1 𝓛 (raw (fact 𝓤 (v ≡ none_val))) (lacks 𝓛 v) $ heard t (v ≡ none_val) none_next
  taken t τ n asked (Some r) v told some_next none_next =
      use1 𝓛 (some (λ (p : ℕ × ℕ). given (v ≡ some_val p.0 p.1) (‵ (froom τ p.0 p.1))))
      (finds 𝓛 v τ n asked r told.0 told.1) $ pick t (λ p. learn t (λ is. some_next p.0 p.1 is))
