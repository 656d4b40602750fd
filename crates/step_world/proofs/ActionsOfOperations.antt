-- The action of a running thread's operation, and for one that only makes an entry.
use Rattle.step_world.proofs.Names
use Names.{ℕ, Bool, true, [], length, slice_get, Option, Some, None, option_map, refl, sym, ap, subst, eq-eqb, IsTrue}
use Names.{unwrap_or, list_any, none-some, slice_get-map, any_passes_from_place, config_of, operations_of, op_names}
use Names.{plan_names, IsProper, Run, notes, operates, Op, Plan, ThreadDecl, Event, Idle, IsAtOperation, Notes, sets}
use Names.{adds, gets, changes_base, shows, makes_operation, is_noted, awake, Machine, HasKey, IsRunOf, IsNote, IsMade}
use Names.{Does, get, value_at, LockNo, Prio, EndTry, Get, Show, Thread}
use Rattle.std.proofs.Common.{◌≡◌, ◌<◌, ◌&&◌, ◌∙◌}
use Rattle.std.specs.Prelude.{◌==◌}
use Rattle.step_world.proofs.Turning.{Begins, begins, made_still}
use Rattle.lock_model.specs.declared.event.Event.TheVariants as event
use Rattle.lock_laws.proofs.Derived as derived

-- 1. Keys

abbrev op_same : ℕ → ℕ → ℕ → ℕ → Bool
op_same k n l key = (k == l) && (n == key)

-- an operation of the thread that names a key
named : (plan : Plan) (t next l key : ℕ) (op : Op) → slice_get (operations_of plan t) next ≡ Some op
    → op_names l key op ≡ true → IsTrue (plan_names plan l key)
named plan t next l key op e i = go (slice_get plan.threads t) refl
  where
    test : ThreadDecl → Bool
    test d = list_any (op_names l key) d.ops

    go : (o : Option ThreadDecl) → slice_get plan.threads t ≡ o → IsTrue (plan_names plan l key)
    go None f = absurd (none-some op (let ops : operations_of plan t ≡ [] = ap (λ x. unwrap_or x [])
        (slice_get-map (λ d. d.ops) plan.threads t ∙ ap (option_map (λ (d : ThreadDecl). d.ops)) f) in rw ops at e))
    go (Some d) f =
        let ops : operations_of plan t ≡ d.ops = ap (λ x. unwrap_or x [])
        (slice_get-map (λ d. d.ops) plan.threads t ∙ ap (option_map (λ (d : ThreadDecl). d.ops)) f) in
        any_passes_from_place test plan.threads t d f
        (any_passes_from_place (op_names l key) d.ops next op (rw ops at e) i)

both_same : (l key : ℕ) → op_same l key l key ≡ true
both_same l key = rw (eq-eqb l l refl, eq-eqb key key refl)

-- 2. Which operations only make an entry

-- there is room for the key that the entry edits
pub has_key : {plan : Plan} {m : Machine} {r : Run} {t : ℕ} (op : Op) (e : Event) → IsRunOf plan m r
    → IsAtOperation plan r t (Some op) → Notes r t op e → HasKey m e
has_key {plan} {m} {r} {t} op _ h at (sets l key value) =
    h.shows.keys l.0 key (named plan t (r.next_op t) l.0 key op at.next (both_same l.0 key))
has_key {plan} {m} {r} {t} op _ h at (adds l key amount) =
    h.shows.keys l.0 key (named plan t (r.next_op t) l.0 key op at.next (both_same l.0 key))
has_key op _ h at (gets l key) = tt
has_key op _ h at (changes_base prio) = tt
has_key op _ h at shows = tt

makes_it : (plan : Plan) {r : Run} {t : ℕ} (op : Op) (e : Event) → Notes r t op e
    → operates (config_of plan) r t (Some op) ≡ notes r t e
makes_it plan _ _ (sets l key value) = refl
makes_it plan _ _ (adds l key amount) = refl
makes_it plan _ _ (gets l key) = refl
makes_it plan _ _ (changes_base prio) = refl
makes_it plan _ _ shows = refl

pub is_note : {plan : Plan} {m : Machine} {r : Run} {t : ℕ} {op : Op} {e : Event} → IsProper plan
    → t < length plan.threads → IsRunOf plan m r → IsAtOperation plan r t (Some op) → Notes r t op e → IsNote plan r t e
is_note {plan} {m} {r} {t} {op} {e} p lt h at n =
    let noted = is_noted plan r t p h.on_track lt op e n at in
    record {
      op = op;
      at = at;
      noted = makes_it plan op e n;
      holds_on = rw (at.uncut, awake plan r t h.on_track op at.next noted.no_wait) noted.same;
    }

-- 3. A running thread's operation, and what it reads

-- the operation that was read
pub is_at : {plan : Plan} {r : Run} {t : ℕ} {op other : Op} → op ≡ other → IsAtOperation plan r t (Some op)
    → IsAtOperation plan r t (Some other)
is_at {plan} {r} {t} e at = subst (λ (o : Op). IsAtOperation plan r t (Some o)) e at

module _ {plan : Plan} {m : Machine} {r : Run} {t : ℕ} {op : Op} (p : IsProper plan) (lt : t < length plan.threads)
    (h : IsRunOf plan m r) (at : IsAtOperation plan r t (Some op)) where
  -- an endtry does nothing, and no thread comes to it
  pub ends_try : op ≡ EndTry → IsMade plan r t m (Does Idle)
  ends_try e =
      let b = begins p lt h (makes_operation plan r t EndTry (is_at e at)) in
      made_still b b.turning refl refl refl

  -- what is read from the tables
  pub got : {l : LockNo} {key : ℕ} {found : Option ℕ} → op ≡ Get l key → found ≡ get m.tables.present (l.0, key)
      → IsNote plan r t (event.Got l key found)
  unfolding value_at
  got {l} {key} e i =
      let is : _ ≡ r.state.table l.0 key = i ∙ ap (λ x. get x (l.0, key)) h.shows.shows.tables
      ∙ sym (derived.tables (config_of plan) r.state l.0 key h.on_track.lawful.lawful) in
      subst (λ (v : Option ℕ). IsNote plan r t (event.Got l key v)) (sym is) (is_note p lt h (is_at e at) (gets l key))

  -- what is read from the thread's record
  pub shown : {th : Thread} {base effective : Prio} → op ≡ Show → slice_get m.threads.items t ≡ Some th → base.0
      ≡ th.record.value.base → effective.0 ≡ th.record.value.effective → IsNote plan r t (event.Shown base effective)
  shown {th} {base} {effective} e is b f =
      let old = h.shows.shows.threads.thread t th is in
      subst (λ (n : ℕ). IsNote plan r t (event.Shown (record { 0 = n }) effective))
      (sym (b ∙ ap (λ x. x.its_record.base) old.columns))
      (subst (λ (n : ℕ). IsNote plan r t (event.Shown (record { 0 = r.state.base t }) (record { 0 = n })))
      (sym (f ∙ ap (λ x. x.its_record.effective) old.columns)) (is_note p lt h (is_at e at) shows))

-- 4. The action of an operation that only makes an entry

pub notes_action : {plan : Plan} {m : Machine} {r : Run} {t : ℕ} {e : Event} → IsProper plan → t < length plan.threads
    → IsRunOf plan m r → IsNote plan r t e → Begins plan r t m (notes r t e)
notes_action {plan} {r = r} {t = t} p lt h n = begins p lt h (makes_operation plan r t n.op n.at ∙ n.noted)
