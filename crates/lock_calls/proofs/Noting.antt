-- A take notes that it gained the lock: the entry may be made, and the thread is at rest again.
use Rattle.lock_calls.proofs.Names
use Names.{ℕ, [], refl, sym, ap, subst, arith, Event, Locked, Held, LockNo, Mode, Stamps, config_in, Description, Makes}
use Names.{MayMake, Knowledge, seeing, TakeAt, IsAtRest, gained, entry_by, stamped, may_note_locked, rest_locked}
use Names.{rest_seeing, as_taken, HasTaken, TakeEnd, at_check, in_round, in_section, kept_at, Kept, kept_of, IsCalling}
use Names.{HasGained}
use Rattle.std.proofs.Common.{◌≡◌, ◌+◌, ◌≤◌, ◌∷◌, ◌++◌, ◌∙◌}
use Rattle.lock_floor.proofs.Calling as floor_calling

-- where a take gains, it isn't asleep
pub calling_at_end : (floor : Description) (l : LockNo) (mode : Mode) (at : TakeAt) (old new : Knowledge)
    → TakeEnd floor l mode at old new → IsCalling floor (kept_at at old) → IsCalling floor (kept_of old)
calling_at_end floor l mode at old new (at_check each) k = k
calling_at_end floor l mode at old new (in_round left some each) k = k
calling_at_end floor l mode at old new (in_section seen gain is each) k = k

module _ (floor : Description) (l : LockNo) (mode : Mode) (old v : Knowledge) (k : IsCalling floor (kept_of old))
    (room : 1 ≤ old.spare) (g : HasGained l mode old v) where
  abbrev hold : Held
  hold = as_taken l mode

  abbrev locked : Event
  locked = Locked l mode

  -- what the thread knew before the gain
  abbrev u : Knowledge
  u = g.before

  calling : floor_calling.IsCalling floor u
  calling =
      let there : IsCalling floor (kept_of u) = subst (IsCalling floor) (sym g.kept) k in
      assumption (g.gaining, there)

  pub its_thread : v.thread ≡ old.thread
  its_thread = ap (λ (x : Knowledge). x.thread) g.view ∙ ap (λ (x : Kept). x.thread) g.kept

  pub may_note_lock : MayMake floor v (λ s. Unit {0}) (Stamps v.thread locked ∷ [])
  may_note_lock =
      subst (λ (x : Knowledge). MayMake floor x (λ s. Unit {0}) (Stamps x.thread locked ∷ [])) (sym g.view)
      (may_note_locked floor u l mode calling g.gaining.takes g.gaining.unheld v.seen)

  pub room_to_note : 1 ≤ v.spare
  room_to_note = omega (arith, room, ap (λ (x : Knowledge). x.spare) g.view, ap (λ (x : Kept). x.spare) g.kept)

  module _ (new : Knowledge) (ticket : ℕ)
      (says : new ≡ seeing new.seen (stamped (config_in floor) v (entry_by v.thread ticket locked)))
      (step : Makes floor (Stamps v.thread locked ∷ []) v new) where
    pub note_step : Makes floor (Stamps old.thread locked ∷ []) v new
    note_step = subst (λ t. Makes floor (Stamps t locked ∷ []) v new) its_thread step

    pub taken : HasTaken floor l mode old new
    taken =
        let is : new ≡ seeing new.seen (stamped (config_in floor) (gained u hold) (entry_by u.thread ticket locked)) =
        says ∙ ap (λ (x : Knowledge). seeing new.seen (stamped (config_in floor) x (entry_by x.thread ticket locked)))
        g.view in
        record {
          rest = subst (IsAtRest floor) (sym is)
              (rest_seeing floor (stamped (config_in floor) (gained u hold) (entry_by u.thread ticket locked)) new.seen
              (rest_locked floor u l mode calling g.gaining.takes g.gaining.unheld ticket));
          entry = record {
            ticket = ticket;
            log = ap (λ (x : Knowledge). x.share.log) is
                ∙ ap (λ (x : Kept). entry_by x.thread ticket locked ∷ x.log) g.kept;
            held = ap (λ (x : Knowledge). x.share.held) is ∙ ap (λ (x : Kept). x.held ++ hold ∷ []) g.kept;
            spare = ap (λ (x : Knowledge). x.spare + 1) is
                ∙ omega (arith, room, ap (λ (x : Kept). x.spare) g.kept);
            thread = ap (λ (x : Knowledge). x.thread) is ∙ ap (λ (x : Kept). x.thread) g.kept;
            before = v;
            behind = new;
            of = its_thread;
            step = note_step;
            log_before = ap (λ (x : Knowledge). x.share.log) g.view ∙ ap (λ (x : Kept). x.log) g.kept;
            log_behind = refl;
          };
        }
