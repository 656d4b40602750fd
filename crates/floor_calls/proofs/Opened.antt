-- The passes of a floor as they are made, and its threads.
use Rattle.floor_calls.proofs.Names
use Names.{ℕ, List, length, map, sym, ap, subst, arith, get_or-map, All, slice_index_or, Knowledge, Description}
use Names.{ready_first, Floor, Pass, first_pass, first_thread, thread_at_rest, Stands, Thread, AtRest}
use Rattle.std.proofs.Common.{◌≡◌, ◌<◌, ◌∙◌}

-- these are the passes of a floor as it is made
abbrev pub AreFirst : Floor Description → List (Pass Knowledge) → Type 0
AreFirst f ps =
    (t : ℕ) (d : Pass Knowledge) → t < length ps → slice_index_or ps t d ≡ first_pass f.table f.description t

-- as the making of the floor tells of them, found through another path
pub are_first : (f g : Floor Description) (floor : Description) (ps : List (Pass Knowledge)) → f ≡ g
    → g.description ≡ floor → length ps ≡ length floor.threads
    → ((t : ℕ) (d : Pass Knowledge) → t < length floor.threads
    → slice_index_or ps t d ≡ first_pass g.table floor t)
    → AreFirst f ps
are_first f g floor ps same about count each t d lt =
    subst (λ (h : Floor Description). slice_index_or ps t d ≡ first_pass h.table h.description t) (sym same)
    (subst (λ (x : Description). slice_index_or ps t d ≡ first_pass g.table x t) (sym about)
    (each t d (omega (arith, lt, count))))

-- each stands at rest, and holds nothing
pub stand_all : (f : Floor Description) (ps : List (Pass Knowledge)) → AreFirst f ps
    → All (λ (p : Pass Knowledge). Stands f AtRest p) ps
stand_all f ps first t d lt =
    subst (Stands f AtRest) (sym (first t d lt)) (record { at = ready_first f t; room = omega arith })

pub threads_all : (f : Floor Description) (ps : List (Pass Knowledge)) → AreFirst f ps → (t : ℕ) (d : Thread)
    → t < length ps → slice_index_or (map (thread_at_rest f) ps) t d ≡ first_thread f t
threads_all f ps first t d lt =
    let p : Pass Knowledge = first_pass f.table f.description t in
    get_or-map (thread_at_rest f) ps t p d lt ∙ ap (thread_at_rest f) (first t p lt)
