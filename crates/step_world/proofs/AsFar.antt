-- How far a thread is where its run has gone on: as far as it was, or further.
use Rattle.step_world.proofs.Names
use Names.{ℕ, true, false, length, take, Option, Some, None, IsSomeAnd, refl, sym, ap, subst, none-some, config_of}
use Names.{Config, of_sleep, fell_asleep, is_reversal, has_reversal, State, Running, Queued, OrderRefused, Stamps}
use Names.{after, MayStamp, after_stamp, entry_of, Run, turn_of, run_behind, waits_on, was_cut, Event, Plan, put_same}
use Names.{IsAwake, own_steps, other_next, all_leave, Progress, IsAsFar, held_at, IsBehind, arith}
use Rattle.std.proofs.Common.{◌≡◌, ◌≢◌, ◌||◌, ◌∷◌, ◌∙◌}
use Rattle.lock_model.specs.declared.event.Event.TheVariants as event
use Rattle.run_laws.proofs.Actions as actions

-- 1. A value that there is

pub that_is : {A : Type 0} {P : A → Type 0} (o : Option A) → IsSomeAnd o P → (x : A) × (o ≡ Some x) × P x
that_is e h = grind arith

pub is_such : {A : Type 0} (P : A → Type 0) {o : Option A} (x : A) → o ≡ Some x → P x → IsSomeAnd o P
is_such P x e h = subst (λ o. IsSomeAnd o P) (sym e) h

pub so_is : {A : Type 0} {P Q : A → Type 0} (o : Option A) → ((x : A) → P x → Q x) → IsSomeAnd o P → IsSomeAnd o Q
so_is e f h = grind arith

-- 2. What says how far a thread is

pub record SameFar (r n : Run) (t : ℕ) : Type 0 where
  pub next_op : n.next_op t ≡ r.next_op t
  pub held : n.state.held t ≡ r.state.held t
  pub listed : n.state.held_locks t ≡ r.state.held_locks t
  pub log : n.state.log t ≡ r.state.log t

module _ {plan : Plan} {r n : Run} {t : ℕ} {a : Progress} where
  pub still_as_far : SameFar r n t → IsAsFar plan r t a → IsAsFar plan n t a
  still_as_far e h = record {
    next_op = h.next_op ∙ sym e.next_op;
    held = rw (e.next_op, e.held, e.listed, e.log) h.held;
    left = rw (e.next_op, e.held, e.log) h.left;
  }

  -- a thread whose operation is still to make,
  pub behind_still : SameFar r n t → IsAsFar plan r t a → IsBehind plan r n t a
  behind_still e h = let f = still_as_far e h in record { next_op = h.next_op; as_far = assumption f }

  -- one that has made it, and waits for nothing,
  pub behind_made : IsAwake n.state t → a.next_op ≡ r.next_op t → a.held ≡ held_at plan t (n.next_op t)
      → IsBehind plan r n t a
  behind_made up next held = record {
    next_op = next;
    as_far = record {
      next_op = refl;
      held = rw (up.uncut, up.no_wait) held;
      left = λ l e. absurd (let z : None ≡ Some l = rw up.no_wait at e in cc);
    };
  }

  -- and one that was cut
  pub behind_cut : was_cut n.state t ≡ true → waits_on (n.state.log t) ≡ None → a.next_op ≡ r.next_op t
      → a.held ≡ take (length (n.state.held_locks t)) (held_at plan t (n.next_op t)) → IsBehind plan r n t a
  behind_cut cut none next held = record {
    next_op = next;
    as_far = record {
      next_op = refl;
      held = rw cut held;
      left = λ l e. absurd (let z : None ≡ Some l = rw none at e in cc);
    };
  }

-- of the other threads nothing changes that says it
pub others_still : (plan : Plan) (r : Run) (t u : ℕ) → u ≢ t → SameFar r (run_behind plan r t) u
unfolding run_behind
others_still plan r t u n =
    let ne : t ≡ u → ⊥ = λ e. n (sym e) in
    let share = all_leave (config_of plan) u t r.state (turn_of plan r t).steps ne
    (own_steps plan r t (turn_of plan r t) (actions.fits plan r t)) in
    assumption (other_next plan r t u ne (turn_of plan r t).next, share.held_locks, share)

-- 3. Entries

-- on which channel a thread waits behind its entry
pub waits_behind : (c : Config) (s : State) (t : ℕ) (e : Event)
    → waits_on ((after c s (Stamps t e)).log t) ≡ fell_asleep (of_sleep e)
unfolding after_stamp
waits_behind c s t e =
    let at : (after_stamp c s t e).log t ≡ _ = put_same s.log t (entry_of s t e ∷ s.log t) in
    rw at refl

-- and whether it was cut
pub cut_behind : (c : Config) (s : State) (t : ℕ) (e : Event)
    → was_cut (after c s (Stamps t e)) t ≡ (is_reversal e || was_cut s t)
unfolding after_stamp
cut_behind c s t e = ap has_reversal (put_same s.log t (entry_of s t e ∷ s.log t))

-- a running thread's entry is not that it goes to sleep
pub runs_on : (c : Config) (s : State) (t : ℕ) (e : Event) → MayStamp c s t e → s.wait t ≡ Running
    → fell_asleep (of_sleep e) ≡ None
runs_on c s t other g w = grind arith

-- and where it has nothing to note it isn't the refusal of a take
none_refused : (c : Config) (s : State) (t : ℕ) (e : Event) → MayStamp c s t e → s.noted t ≡ None
    → is_reversal e ≡ false
none_refused c s t other g none = grind arith

-- so it is awake
pub awake_behind : (c : Config) (s : State) (t : ℕ) (e : Event) → MayStamp c s t e → s.wait t ≡ Running
    → s.noted t ≡ None → was_cut s t ≡ false → IsAwake (after c s (Stamps t e)) t
awake_behind c s t e g runs none uncut =
    record {
      no_wait = waits_behind c s t e ∙ runs_on c s t e g runs;
      uncut = cut_behind c s t e ∙ rw (none_refused c s t e g none, uncut) refl;
    }
