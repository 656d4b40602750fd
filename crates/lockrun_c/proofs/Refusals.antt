-- What the numbers of refusals stand for.
use Rattle.std.proofs.Common.{◌≡◌, ◌≢◌, ℕ, Option, Some, None, refl, sym, ap, subst, ◌∙◌}
use Rattle.std.specs.Prelude.{◌==◌, if◌then◌else◌, List, Err}
use Rattle.floor_calls.specs.First.{IsFirst}
use Rattle.floor_calls.specs.Fitting.{Spoils, all_unfit}
use Rattle.floor_calls.specs.Openings.{unfit_in}
use Rattle.floor_calls.specs.declared.opening.NotOpened.{NotOpened}
use Rattle.floor_calls.specs.declared.opening.NotOpened.TheVariants.{NoMemory, Unfit as IsUnfit}
use Rattle.floor_calls.specs.declared.unfit.Unfit.{Unfit}
use Rattle.floor_calls.specs.declared.unfit.Unfit.TheVariants.{ManyThreads, ManyLocks, ManyChannels, HighClass, ManyKeys, UnsortedKeys, MuchRoom, NotOneChain}
use Rattle.floor_table.specs.declared.description.Description.{Description}
use Rattle.lock_model.specs.declared.plan.Plan.{Plan}
use Rattle.lockrun_c.specs.Misfits.{code_of_refused, code_of_unfit}
use Rattle.lockrun_c.specs.Naming.{IsNamedFor}
use Rattle.lockrun_c.specs.Openings.{IsRefusedFor, description_of}
use Rattle.lockrun_c.specs.declared.misfits.Misfit.TheVariants.{Memory, NoName, NameTwice, NoKind, NoLock, ManyClasses}
use Rattle.lockrun_c.specs.declared.misfits.Refused.{Refused}
use Rattle.lockrun_c.specs.declared.misfits.Refused.TheVariants.{Rows, Floor}
use Rattle.lockrun_c.specs.declared.rows.ChanRow.{ChanRow}
use Rattle.lockrun_c.specs.declared.rows.KeyRow.{KeyRow}
use Rattle.lockrun_c.specs.declared.rows.LockRow.{LockRow}
use Rattle.lockrun_c.specs.declared.rows.ThreadRow.{ThreadRow}

-- the reason that a number stands for
abbrev unfit_at : ℕ → Option Unfit
unfit_at n =
    if n == 69 then Some ManyThreads
    else (if n == 70 then Some ManyLocks
    else (if n == 71 then Some ManyChannels
    else (if n == 72 then Some HighClass
    else (if n == 73 then Some ManyKeys
    else (if n == 74 then Some UnsortedKeys
    else (if n == 75 then Some MuchRoom
    else (if n == 76 then Some NotOneChain
    else None)))))))

read : (why : Unfit) → unfit_at (code_of_unfit why) ≡ Some why
read ManyThreads = refl
read ManyLocks = refl
read ManyChannels = refl
read HighClass = refl
read ManyKeys = refl
read UnsortedKeys = refl
read MuchRoom = refl
read NotOneChain = refl

-- another number is none of them
pub no_reason : (n : ℕ) (why : Unfit) → unfit_at n ≡ None → n ≡ code_of_unfit why → ⊥
no_reason n why none h = absurd (let z : None ≡ Some why = sym none ∙ ap unfit_at h ∙ read why in cc)

pub not_opened : (n : ℕ) (why : Unfit) → (n ≢ 0 → n ≡ 16) → n ≡ code_of_unfit why → ⊥
not_opened n why others h =
    no_reason 16 why refl (sym (others (λ z. no_reason 0 why refl (sym z ∙ h))) ∙ h)

pub is_unfit : (r : Refused) (why : Unfit) → code_of_refused r ≡ code_of_unfit why → r ≡ Floor (IsUnfit why)
is_unfit (Rows Memory) why h = absurd (no_reason 16 why refl h)
is_unfit (Rows NoName) why h = absurd (no_reason 64 why refl h)
is_unfit (Rows NameTwice) why h = absurd (no_reason 65 why refl h)
is_unfit (Rows NoKind) why h = absurd (no_reason 66 why refl h)
is_unfit (Rows NoLock) why h = absurd (no_reason 67 why refl h)
is_unfit (Rows ManyClasses) why h = absurd (no_reason 68 why refl h)
is_unfit (Floor NoMemory) why h = absurd (no_reason 16 why refl h)
is_unfit (Floor (IsUnfit u)) why h = let z : Some u ≡ Some why = sym (read u) ∙ ap unfit_at h ∙ read why in cc

-- a floor that isn't opened for what rows describe
pub refused_for : (threads : List ThreadRow) (locks : List LockRow) (chans : List ChanRow)
    (keys : List KeyRow) (names : Plan) (floor : Description) (o : NotOpened) → IsNamedFor threads locks chans names
    → floor ≡ description_of names threads keys
    → IsFirst (λ r. Spoils r floor) all_unfit (unfit_in {A = Unit {0}} (Err o))
    → IsRefusedFor threads locks chans keys (Floor o)
refused_for threads locks chans keys names floor NoMemory named same first = tt
refused_for threads locks chans keys names floor (IsUnfit why) named same first =
    (names, named, subst (λ d. IsFirst (λ r. Spoils r d) all_unfit (Some why)) same first)
