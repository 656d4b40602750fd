-- `as_mut` lends what the box holds, and the handle follows it.
use mathlib.Core.Path.{◌≡◌, refl}
use Rattle.std.specs.Prelude.{Option, Some, None, ◌≢◌}
use mathlib.Core.List.{List, [], ◌∷◌}
use Prim.Native.Nat.{ℕ}
use seplogic.Ra.Ura.{Ura}
use base.Fraction.{full_share}
use mir.Syntax.{Body, named, seq, assign, return, place, copy, rv_opd}
use mir.Raw.{raw as bare}
use mir.Val.{Val, vptr}
use base.Logic.{SProp, ent, sep, id⊢}
use base.Fml.{GName, Fml, ftrue, fsep, flft}
use prog.Memory.{Memory}
use prog.Routine.{Routine}
use prog.Wp.{Env, WpFn, Tables}
use types.Logic.{Logic, sem}
use contract.Monad.{Fun, fact}
use contract.Running.{tables, tables_of}
use sound.WpLaws.{WpFn-mono}
use types.Kit.{‵, raw, ◌⊛◌, some, later, at_ret, ◌$◌, ◌∵◌, !, qed, move, keep, drop, use1, join, split, group, pick, rewrite, fsplit, fsplit3, fjoin, fpack, suffices, await, frame, done}
use types.Part.{whole, sub, look_in}
use types.Run.{stop, fld, addr, load, of_opd, first, blocks, exec, returns, enter}
use types.ByLocal.{alloc_all, pass_all, free_all, look_at, get, through, sets, sets_last, env}
use denote.RattleType.{RattleType, owns}
use denote.Exit.{no}
use denote.Memory.{part_at, part_of, mem, cell_at}
use denote.RawPtr.{block_ptr}
use denote.Ref.{MutRef, mut_vals, mut_Tells}
use denote.Signature.{plain, mut_ref_to}
use denote.Steps.{nothing, heard, opens}
use denote.Follow.{follows, Part, lends_Part}
use denote.Triple.Clauses.{Clauses}
use denote.Triple.Spec.{triple_of}
use denote.Triple.Table.{entered}
use denote.Triple.Walked.{says, Stays, stay_dropped, walk_of, ends_at, walked, walk_Meets, Goes-spent_ref}
use Rattle.core.proofs.alloc.Calls.{token}
use Rattle.std_alloc.proofs.BoxSteps.Form.{D, R, B, X, τ, word, handle}
use Rattle.std_alloc.proofs.BoxSteps.Steps.{box_out, box_in}
use Rattle.lockrun_c.proofs.AsBox.{E}
use Rattle.lockrun_c.specs.contracts.held.Held as Sealed
use Rattle.lockrun_c.specs.contracts.held.Held.as_mut as F
use Rattle.lockrun_c.specs.contracts.held.Held.as_mut.Key.{name as #self}
use Rattle.lockrun_c.proofs.held.Held.as_mut.Statement as stated
use Rattle.lockrun_c.proofs.held.Held.as_mut.Code as code

some_of : {A : Type 0} → (o : Option A) → o ≢ None → (x : A) × (o ≡ Some x)
some_of None never = absurd (never refl)
some_of (Some x) there = (x, refl)

abbrev Seal : RattleType
Seal = Sealed.the_row

-- the handle with that content, and the same as a box
abbrev holding : Seal.Denot → Option (X E) → Seal.Denot
holding h o = record { ptr = h.ptr; alloc = h.alloc; home = o }

abbrev as_box : Seal.Denot → X E → D E
as_box h x = record { ptr = h.ptr; alloc = h.alloc; value = x }

abbrev stayed : Stays (F.ended).signature.params (F.ended).kept
stayed = (stay_dropped (mut_ref_to (0 ∷ []) tt (plain (λ _. Seal))) no, tt)

abbrev rest : Body
rest = seq (assign (place 0 []) (rv_opd (copy (place 2 [])))) return

module _ {M : Type 1} {𝓤 : Ura M} (𝓛 : Logic 𝓤) (at_mem : Memory → SProp 𝓤) (run : Routine → Fun 𝓤)
    (𝓣 : Tables 𝓤 𝓛.H) where
  open 𝓛 use {H}

  abbrev held : Clauses 𝓤 F.ended
  held = F.clauses 𝓛 at_mem run

  module _ (h : Seal.Denot) (rb ro b o : ℕ) (hv : Val) where
    -- all of the handle but what its box holds
    abbrev Rest : Fml
    Rest = fsep (fsep (token E.al h.alloc (bare (τ E)) (block_ptr b o)) (handle E h.alloc hv))
        (cell_at full_share Seal.mir (word E hv b o ∷ []) rb ro)

    back : h.ptr ≡ block_ptr b o → (w : X E) → ent 𝓤 (sep 𝓤 (sem 𝓛 ((mem (R E)).own_at w b o)) (sem 𝓛 Rest))
        (sem 𝓛 ((mem Seal).own_at (holding h (Some w)) rb ro))
    unfolding part_of
    back at_b w =
        qed 𝓛 (‵ (part_at (R E) full_share w b o) ∷ ‵ Rest ∷ []) ∵ move ! (1 ∷ []) $ fsplit ! $ fsplit !
        $ move ! (3 ∷ []) $
        box_in E ! (as_box h w) b o w at_b refl $ use1 𝓛 (‵ (Seal.own_val (holding h (Some w)) (word E hv b o ∷ [])))
        (id⊢ 𝓤 _) $ move ! (1 ∷ 0 ∷ []) $ fjoin ! $
        fpack ! (List Val) (λ us. fsep (cell_at full_share Seal.mir us rb ro) (Seal.own_val (holding h (Some w)) us))
        (word E hv b o ∷ []) $ done !

  abbrev at : (walk_of 𝓛 F.ended stayed held).Ghost → (walk_of 𝓛 F.ended stayed held).Ghost
  at y = ((y.0.0, y.0.1, y.0.2, y.0.3, (mut_vals y.0.3.0, tt)), y.1)

  walk : (y : (walk_of 𝓛 F.ended stayed held).Ghost) → ent 𝓤 ((walk_of 𝓛 F.ended stayed held).pre (at y))
      (WpFn 𝓤 H 𝓣.C 𝓣.Λ code.function (mut_vals y.0.3.0) ((walk_of 𝓛 F.ended stayed held).post (at y)))
  walk y =
      let self = y.0.3.0 in let Post = (walk_of 𝓛 F.ended stayed held).post (at y) in
      let κ = y.0.0.0 in
      let q = y.0.1.0 in
      let h = self.now in
      let rb = self.ref_ptr.0 in
      let ro = self.ref_ptr.1 in
      let γ = self.ghost_name in
      let c = Seal.coded.code h in
      qed 𝓛 (((‵ (flft κ q) ⊛ ‵ ftrue) ⊛ ‵ (owns (MutRef (named 0) κ Seal ∷ []) (self, tt) (vptr rb ro ∷ [], tt)))
      ∷ raw (fact 𝓤 (h.home ≢ None)) ∷ []) ∵
      move ! (1 ∷ []) $ heard ! (h.home ≢ None) (λ is_there.
      let got = some_of h.home is_there in let x = got.0 in
      enter ! 𝓣.C 𝓣.Λ code.function (vptr rb ro ∷ []) _
      $ alloc_all ! (λ ls. pass_all ! refl ((tt, tt), tt) $ let En : Env 𝓤 H = env (code.function).locals ls in
      split ! $ move ! (1 ∷ []) $ fsplit ! $ fsplit3 ! $ drop ! $ move ! (3 ∷ []) $ split ! $ move ! (2 ∷ 3 ∷ 0 ∷ []) $
      opens ! tt Seal {h = h} rb ro (λ vs. move ! (1 ∷ []) $
      rewrite ! 0 (λ (p : Option (X E)). ‵ (Seal.own_val (holding h p) vs)) got.1 refl
      $ use1 𝓛 (‵ ((B E).own_val (as_box h x) vs)) (id⊢ 𝓤 _) $
      box_out E ! (as_box h x) vs (λ b o hv at_b ws fa. move ! (1 ∷ 2 ∷ []) $ fjoin ! $ move ! (1 ∷ [])
      $ rewrite ! 2 (λ (us : List Val). ‵ (cell_at full_share Seal.mir us rb ro)) ws refl $
      -- [the content; the token with the handle; the word; the open borrow; obs; auth]
      first ! $ blocks ! $ sets !
      (of_opd ! (load ! (through ! refl (fld ! refl (stop !))) (look_in ! 2 (sub ! 0 refl (whole !))))) refl (tt, tt)
      $ sets ! (of_opd ! (get ! refl)) refl (tt, tt) $
      sets_last ! (addr ! (through ! refl (stop !))) refl (tt, tt) $ exec ! 𝓣.C 𝓣.Λ En rest (at_ret En Post)
      $ sets ! (of_opd ! (get ! refl)) refl (tt, tt) $
      move ! (1 ∷ 2 ∷ []) $ fjoin ! $ move ! (2 ∷ 3 ∷ 4 ∷ 1 ∷ 0 ∷ []) $ group ! 5 $
      use1 𝓛 (later (some (λ (γ' : GName). raw (Part 𝓛 Seal (R E) (λ w. holding h (Some w)) (named 0) κ q rb ro b o γ
      (sem 𝓛 (Rest h rb ro b o hv)) (back h rb ro b o hv at_b) x γ'))))
      (lends_Part 𝓛 Seal (R E) (λ w. holding h (Some w)) (named 0) κ q rb ro b o γ (sem 𝓛 (Rest h rb ro b o hv))
      (back h rb ro b o hv at_b) c c x) $ await ! tt $ pick ! (λ γ'.
      returns ! (look_at ! 0 refl) $ free_all ! refl $
      use1 𝓛
      (‵ ((MutRef (named 0) κ (R E)).own_val (record { ref_ptr = (b, o); ghost_name = γ'; now = x }) (vptr b o ∷ [])) ⊛
      ‵ (flft κ q) ⊛ ‵ (follows Seal (R E) γ γ' (λ w. holding h (Some w)))) (id⊢ 𝓤 _) $
      keep ! (0 ∷ []) $ split ! $ move ! (1 ∷ []) $ split ! $ move ! (2 ∷ 0 ∷ 1 ∷ []) $
      suffices ! _ (ends_at 𝓛 F.ended stayed held (at y) (vptr b o)
      (record { ref_ptr = (b, o); ghost_name = γ'; now = x }) (tt, tt) (tt, tt)) $
      nothing ! $ nothing ! $ fjoin ! $ join ! $ nothing ! $ move ! (2 ∷ 0 ∷ []) $ join ! $ join ! $ frame !
      $ says ! got.1 $ done !)))))

pub as_mut_spec : {M : Type 1} → stated.statement M
unfolding tables_of
as_mut_spec 𝓤 𝓛 𝓜 𝓡 wired =
    let 𝓣 : Tables 𝓤 𝓛.H = tables_of 𝓤 𝓛.H 𝓜 (tables 𝓤 𝓛.H 𝓜 𝓡 𝓡.env) in
    let held' = held 𝓛 𝓜.mem 𝓡.returns 𝓣 in
    entered 𝓤 𝓛.H (triple_of 𝓛 F.signature (F.spec 𝓛 𝓜.mem 𝓡.returns)) 𝓣.C 𝓣.Λ #self code.function
    (code.unfolded 𝓤 𝓛.H 𝓜 𝓡 wired)
    (walk_Meets 𝓛 F.ended stayed (Goes-spent_ref 𝓛 1 (0 ∷ []) tt (plain (λ _. Seal)), tt) held'
    (WpFn 𝓤 𝓛.H 𝓣.C 𝓣.Λ code.function) (WpFn-mono 𝓤 𝓛.H 𝓛.laws 𝓣 code.function)
    (walked 𝓛 F.ended stayed held' (WpFn 𝓤 𝓛.H 𝓣.C 𝓣.Λ code.function) (λ κs. (mut_vals, tt))
    (λ κs. (mut_Tells (named 0) κs.0 Seal, tt))
    (λ κs qs bounds a g are. walk 𝓛 𝓜.mem 𝓡.returns 𝓣 ((κs, qs, bounds, a, (mut_vals a.0, tt)), g))))
