-- The printed text of a profile: a line for each lock, a line for each pair of classes, and a last line that says how
-- the run ended.
use Rattle.std.specs.Prelude.{ℕ, List, [], ◌∷◌, ◌++◌, codes, decimal, flat_map, zip}
use Rattle.lock_model.specs.Text.{Ending, ending_word, line_of, class_name}
use Rattle.lock_model.specs.declared.plan.LockDecl.{LockDecl}
use Rattle.lock_model.specs.declared.plan.Plan.{Plan}
use Rattle.hold_profile.specs.declared.lines.LockLine.{LockLine}
use Rattle.hold_profile.specs.declared.lines.OrderLine.{OrderLine}
use Rattle.hold_profile.specs.declared.lines.Profile.{Profile}

-- a lock's name, its class, and its counts
abbrev pub lock_words : Plan → LockDecl → LockLine → List (List ℕ)
lock_words plan d x =
    d.name ∷ codes "class" ∷ class_name plan d.class.0
    ∷ codes "holds" ∷ decimal x.holds ∷ codes "total" ∷ decimal x.total
    ∷ codes "longest" ∷ decimal x.longest ∷ codes "together" ∷ decimal x.together
    ∷ codes "busy" ∷ decimal x.busy ∷ codes "waits" ∷ decimal x.waits
    ∷ codes "halted" ∷ decimal x.halted ∷ []

abbrev pub lock_text : Plan → LockDecl × LockLine → List ℕ
lock_text plan d = line_of (codes "lock") (lock_words plan d.0 d.1)

-- the names of two classes, and how often a lock of the first was held when one of the second was gained
abbrev pub order_text : Plan → OrderLine → List ℕ
order_text plan o =
    line_of (codes "order")
    (class_name plan o.first.0 ∷ class_name plan o.second.0 ∷ decimal o.count ∷ [])

-- the text of a profile with a line for each lock of the plan, of a run that ended so
unfoldable pub profile_text : Plan → Profile → Ending → List ℕ
profile_text plan x ending =
    flat_map (lock_text plan) (zip plan.locks x.locks)
    ++ (flat_map (order_text plan) x.orders
    ++ line_of (ending_word ending) [])
