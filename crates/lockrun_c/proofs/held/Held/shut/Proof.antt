-- `shut` makes a seal of a pointer that owns nothing.
use mathlib.Core.Path.{refl, sym, subst}
use Rattle.std.specs.Prelude.{None}
use mathlib.Core.List.{List, [], ◌∷◌, ◌++◌}
use lib.Dec.{T, lit<}
use mathlib.Core.Bool.{true, ◌&&◌}
use seplogic.Ra.Ura.{Ura}
use mir.Syntax.{ty_ptr}
use mir.Val.{Val, vstruct, of_list, has_ty, WT}
use base.Logic.{SProp, ent, emp, id⊢}
use base.Fml.{ftrue, fsep}
use prog.Memory.{Memory}
use prog.Routine.{Routine}
use prog.Wp.{WpFn, Tables}
use types.Logic.{Logic}
use contract.Monad.{Fun}
use contract.Running.{tables, tables_of}
use sound.WpLaws.{WpFn-mono}
use types.Kit.{Item, ‵, raw, ◌⊛◌, ◌$◌, ◌∵◌, !, qed, by, move, drop, use1, join, split, fsplit, fjoin, fpack, feq_l, feq_i, suffices, done}
use types.Part.{agg}
use types.Run.{no_more, and_then, returns, enter}
use types.ByLocal.{alloc_all, pass_all, free_all, look_at, get, sets}
use denote.Exit.{yes}
use denote.RattleType.{Valss}
use denote.Param.{layout}
use Rattle.std_alloc.proofs.ResultValues.{and_tt}
use denote.RawPtr.{Ptr, RawPtr, block_ptr, null_ptr, ptr_val}
use denote.Signature.{plain}
use denote.Steps.{nothing}
use denote.Struct.Struct.{within}
use denote.Struct.Owning.{shape}
use denote.Triple.Spec.{triple_of}
use denote.Triple.Table.{entered}
use denote.Triple.Walked.{says, Stays, stay_dropped, walk_of, ends_at, Goes-dropped, walk_Meets}
use Rattle.core.proofs.alloc.Calls.{Fits, handle_tells}
use Rattle.std_alloc.proofs.BoxSteps.Form.{P, owning}
use Rattle.std_heap.specs.contracts.Global as Heap
use Rattle.lockrun_c.proofs.AsBox.{E}
use Rattle.lockrun_c.specs.contracts.held.Held as Sealed
use Rattle.lockrun_c.specs.contracts.held.Held.shut as F
use Rattle.lockrun_c.specs.contracts.held.Held.shut.Key.{name as #self}
use Rattle.lockrun_c.proofs.held.Held.shut.Statement as stated
use Rattle.lockrun_c.proofs.held.Held.shut.Code as code

abbrev stayed : Stays (F.ended).signature.params (F.ended).kept
stayed = (stay_dropped (plain (λ _. RawPtr)) yes, (stay_dropped (plain (λ _. Heap.the_row)) yes, tt))

ptr_good : (p : Ptr) → T (has_ty ty_ptr (ptr_val p)) × WT (ptr_val p)
ptr_good (block_ptr b o) = (tt, tt)
ptr_good null_ptr = (tt, record { fits = lit< tt })

seal_good : (p : Ptr) (h : Val) → Fits E.al h
    → T (has_ty ty_ptr (ptr_val p) && (has_ty (layout Heap.the_row) h && true))
    × WT (vstruct (of_list (ptr_val p ∷ h ∷ [])))
seal_good (block_ptr b o) h fits = (and_tt (has_ty (layout Heap.the_row) h) fits.0, (tt, (fits.1, tt)))
seal_good null_ptr h fits = (and_tt (has_ty (layout Heap.the_row) h) fits.0, (record { fits = lit< tt }, (fits.1, tt)))

module _ {M : Type 1} {𝓤 : Ura M} (𝓛 : Logic 𝓤) (at_mem : Memory → SProp 𝓤) (run : Routine → Fun 𝓤)
    (𝓣 : Tables 𝓤 𝓛.H) where
  open 𝓛 use {H}

  walk : (z : (walk_of 𝓛 F.ended stayed (F.clauses 𝓛 at_mem run)).Ghost)
      → ent 𝓤 ((walk_of 𝓛 F.ended stayed (F.clauses 𝓛 at_mem run)).pre z) (WpFn 𝓤 H 𝓣.C 𝓣.Λ code.function
      (z.0.4.0 ++ (z.0.4.1.0 ++ [])) ((walk_of 𝓛 F.ended stayed (F.clauses 𝓛 at_mem run)).post z))
  walk z =
      let Post = (walk_of 𝓛 F.ended stayed (F.clauses 𝓛 at_mem run)).post z in
      let p = z.0.3.0 in let a = z.0.3.1.0 in
      let made : Sealed.the_row.Denot = record { ptr = p; alloc = a; home = None } in
      qed 𝓛 ((‵ ftrue ⊛ ‵ (fsep (RawPtr.own_val p z.0.4.0) (fsep (Heap.the_row.own_val a z.0.4.1.0) ftrue)))
      ∷ raw (emp 𝓤) ∷ []) ∵ split ! $ drop ! $ fsplit ! $ feq_l ! (λ ep. fsplit ! $
      handle_tells E.al ! a z.0.4.1.0 (λ hv ea fa.
      let w : Val = vstruct (of_list (ptr_val p ∷ hv ∷ [])) in
      let Γ : List (Item 𝓤) = ‵ ((P E).own_val a (hv ∷ [])) ∷ ‵ ftrue ∷ [] in
      move ! (2 ∷ []) $ drop ! $ by !
      (subst (λ (us : List Val). ent 𝓤 (types.Kit.⋆ 𝓛 Γ) (WpFn 𝓤 H 𝓣.C 𝓣.Λ code.function us Post))
      (λ i. (sym ep) i ++ ((sym ea) i ++ []))
      (qed 𝓛 Γ ∵ enter ! 𝓣.C 𝓣.Λ code.function (ptr_val p ∷ hv ∷ []) _
      $ alloc_all ! (λ ls. pass_all ! refl (ptr_good p, (fa, tt)) $
      sets ! (agg ! (and_then ! (get ! refl) (and_then ! (get ! refl) (no_more !)))) refl (seal_good p hv fa)
      $ returns ! (look_at ! 0 refl) $ free_all ! refl $
      nothing ! $ move ! (1 ∷ 0 ∷ []) $ fjoin ! $ feq_i ! (List Val) (ptr_val p ∷ []) (ptr_val p ∷ []) refl $ fjoin !
      $ feq_i ! (List Val) (w ∷ []) (w ∷ []) refl $ fjoin ! $
      fpack ! (Valss (RawPtr ∷ P E ∷ [])) (within (shape (owning E)) (p, (a, tt)) (w ∷ []))
      (ptr_val p ∷ [], (hv ∷ [], tt)) $ fjoin ! $ use1 𝓛 (‵ (Sealed.the_row.own_val made (w ∷ []))) (id⊢ 𝓤 _)
      $ move ! (1 ∷ []) $ drop ! $
      suffices ! _ (ends_at 𝓛 F.ended stayed (F.clauses 𝓛 at_mem run) z w made (tt, (tt, tt)) (tt, (tt, tt)))
      $ says ! refl $
      nothing ! $ nothing ! $ fjoin ! $ nothing ! $ fjoin ! $ join ! $ nothing ! $ join ! $ done !)))))

pub shut_spec : {M : Type 1} → stated.statement M
unfolding tables_of
shut_spec 𝓤 𝓛 𝓜 𝓡 wired =
    let 𝓣 : Tables 𝓤 𝓛.H = tables_of 𝓤 𝓛.H 𝓜 (tables 𝓤 𝓛.H 𝓜 𝓡 𝓡.env) in
    entered 𝓤 𝓛.H (triple_of 𝓛 F.signature (F.spec 𝓛 𝓜.mem 𝓡.returns)) 𝓣.C 𝓣.Λ #self code.function
    (code.unfolded 𝓤 𝓛.H 𝓜 𝓡 wired)
    (walk_Meets 𝓛 F.ended stayed (
      Goes-dropped 𝓛 0 (plain (λ _. RawPtr)) yes (λ κs x f. refl),
      (Goes-dropped 𝓛 0 (plain (λ _. Heap.the_row)) yes (λ κs x f. refl), tt),
    ) (F.clauses 𝓛 𝓜.mem 𝓡.returns) (WpFn 𝓤 𝓛.H 𝓣.C 𝓣.Λ code.function) (WpFn-mono 𝓤 𝓛.H 𝓛.laws 𝓣 code.function)
    (walk 𝓛 𝓜.mem 𝓡.returns 𝓣))
