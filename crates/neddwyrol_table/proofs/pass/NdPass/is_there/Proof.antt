-- `is_there` compares the pointer with null: a handle that leads to something may free a block, so its pointer is the block's start.
use Rattle.std.proofs.Common.{◌≡◌, List, [], ◌∷◌, refl, sym, lit<}
use Rattle.std.proofs.raw_atomic.Walks.{proved}
use Rattle.std.proofs.GlobalToken.{dealloc_token-Testable}
use mathlib.Core.Bool.{Bool, true, false, not}
use lib.Dec.{T}
use seplogic.Ra.Ura.{Ura}
use mir.Syntax.{ty_ptr, ptr_eq, named}
use mir.Val.{Val, vbool, vnull, op2_val, has_ty, WT}
use mir.Raw.{raw as bare}
use base.Fml.{ftrue, flft}
use base.Fraction.{full_share}
use base.Logic.{ent, via, snd∗}
use types.Logic.{Logic, sem}
use contract.Monad.{fact, fact_i}
use contract.Running.{tables}
use types.Kit.{‵, ◌⊛◌, ◌$◌, ◌∵◌, !, qed, done, move, keep, split, join, fsplit3, feq_i, rewrite, suffices, frame, group}
use types.Part.{whole, sub, look_in}
use types.Run.{enter, of_opd, load, stop, fld, bin, un, lit, returns}
use types.ByLocal.{alloc_all, pass_all, free_all, look_at, get, is, sets, through}
use denote.Laws.{shows}
use denote.Memory.{cell_at, lone}
use denote.RawPtr.{Ptr, block_ptr, null_ptr, ptr_val, InBlock, Testable, tests_null, lies_at}
use denote.Ref.{MutRef, mut_vals, mut_Tells}
use denote.Signature.{plain}
use denote.Struct.Owning.{shape, to}
use denote.Struct.Struct.{Struct}
use denote.Steps.{nothing, opens, closes, peeks}
use denote.Triple.Walked.{says, Stays, walk_of, stay_ref, Goes-ref, ends_at}
use Rattle.std.specs.Prelude.{MatchBool}
use Rattle.std_heap.specs.contracts.GlobalAllocator.TheImpl.{ghosts}
use Rattle.neddwyrol_table.specs.Owned.{held_owns}
use Rattle.neddwyrol_table.specs.contracts.held.Held as Held
use Rattle.neddwyrol_table.specs.contracts.pass.NdPass.{the_row as R, the_type}
use Rattle.neddwyrol_table.specs.contracts.pass.NdPass.is_there as f
use Rattle.neddwyrol_table.proofs.pass.NdPass.TheLaws.{lowers}
use Rattle.neddwyrol_table.proofs.pass.NdPass.is_there.Statement.{statement}
use Rattle.neddwyrol_table.proofs.pass.NdPass.is_there.Code as code

abbrev stayed : Stays f.ended.signature.params f.ended.kept
stayed = (stay_ref (0 ∷ []) tt (plain (λ _. R)), tt)

abbrev May : R.Denot → List Val → Type 0
May h vs = Testable h.at

typed : (p : Ptr) → T (has_ty ty_ptr (ptr_val p)) × WT (ptr_val p)
typed (block_ptr b o) = (tt, tt)
typed null_ptr = (tt, record { fits = lit< tt })

answer : (p : Ptr) → (y : Bool) × (op2_val ptr_eq (ptr_val p) vnull ≡ vbool y) × MatchBool (not y) (InBlock p) (p ≡ null_ptr)
answer (block_ptr b o) = (false, refl, tt)
answer null_ptr = (true, refl, refl)

module _ {M : Type 1} {𝓤 : Ura M} (𝓛 : Logic 𝓤) where
  owned_tells : (h : R.Denot) (p : Ptr) → ent 𝓤 (sem 𝓛 (held_owns h.alloc p h.held)) (fact 𝓤 (Testable p))
  owned_tells h (block_ptr b o) =
      via 𝓤 _ (snd∗ 𝓤 (sem 𝓛 (lies_at Held.the_row full_share (block_ptr b o) h.held)) (sem 𝓛 (ghosts.dealloc_token h.alloc (bare (lone Held.the_row.mir)) (block_ptr b o))))
      (dealloc_token-Testable 𝓛 h.alloc (bare (lone Held.the_row.mir)) (block_ptr b o))
  owned_tells h null_ptr = fact_i 𝓤 (Testable null_ptr) (sem 𝓛 ftrue) (lit< tt)

  tells : (h : R.Denot) (vs : List Val) → ent 𝓤 (sem 𝓛 (R.own_val h vs)) (fact 𝓤 (May h vs))
  tells h vs =
      let owns = sem 𝓛 (held_owns h.alloc h.at h.held) in
      via 𝓤 owns (snd∗ 𝓤 (sem 𝓛 ((Struct (shape the_type)).own_val (to the_type h) vs)) owns) (owned_tells h h.at)

pub is_there_spec : {M : Type 1} → statement M
is_there_spec 𝓤 𝓛 𝓜 𝓡 wired =
    let c = f.clauses 𝓛 𝓜.mem 𝓡.returns in let W = walk_of 𝓛 f.ended stayed c in let 𝓣 = tables 𝓤 𝓛.H 𝓜 𝓡 𝓡.env in
    proved 𝓛 f.ended stayed c 𝓜 𝓡 (Goes-ref 𝓛 1 0 tt (plain (λ _. R)), tt)
    f.Key.name code.function (code.unfolded 𝓤 𝓛.H 𝓜 𝓡 wired)
    (λ κs. (mut_vals, tt)) (λ κs. (mut_Tells (named 0) κs.0 R, tt)) (λ κs qs bounds a _ are.
    let b = a.0.ref_ptr.0 in let o = a.0.ref_ptr.1 in let h = a.0.now in let vs = mut_vals a.0 in let y = answer h.at in
    let z : W.Ghost = ((κs, qs, bounds, a, (vs, tt)), tt) in
    qed 𝓛 (((‵ (flft κs.0 qs.0) ⊛ ‵ ftrue) ⊛ ‵ ((MutRef (named 0) κs.0 R).own_val a.0 vs) ⊛ ‵ ftrue) ∷ ‵ ftrue ∷ []) ∵
    split ! $ split ! $ move ! (2 ∷ []) $ split ! $ keep ! (0 ∷ 2 ∷ []) $
    enter ! _ _ _ _ _ $ alloc_all ! (λ l. pass_all ! refl ((tt, tt), tt) $
    fsplit3 ! $ move ! (1 ∷ 2 ∷ 3 ∷ []) $ opens ! tt R b o (λ us.
    move ! (1 ∷ []) $ peeks ! R May (tells 𝓛) h us (λ may. peeks ! R _ (shows 𝓛 R) h us (λ is_word.
    let word = lowers.val_is h us is_word in
    let Cell = λ (ws : List Val). ‵ (cell_at full_share R.mir ws b o) in
    rewrite ! 1 Cell word refl $
    -- [what the handle owns; its cell; the open borrow, in three entries]
    sets ! (of_opd ! (load ! (through ! refl (fld ! refl (stop !))) (look_in ! 1 (sub ! 0 refl (whole !))))) refl (typed h.at) $
    sets ! (is ! (bin ! (get ! refl) (lit ! tt) (tests_null h.at may)) y.1) refl (tt, tt) $
    sets ! (un ! (get ! refl) tt) refl (tt, tt) $
    rewrite ! 1 Cell (sym word) refl $
    move ! (1 ∷ []) $ closes ! tt R h us b o $
    -- [two parts of self; the token; self's first part]
    returns ! (look_at ! 0 refl) $ free_all ! refl $ move ! (3 ∷ []) $
    suffices ! _ (ends_at 𝓛 f.ended stayed c z (vbool (not y.0)) (not y.0) (h, tt) (tt, tt)) $ says ! (refl, y.2) $
    group ! 3 $ nothing ! $ move ! (1 ∷ 0 ∷ []) $ join ! $ nothing ! $ move ! (2 ∷ 0 ∷ []) $ join ! $ frame ! $ frame ! $
    feq_i ! _ (vbool (not y.0) ∷ []) _ refl $ done !)))))
