-- A thread at rest makes a blocking call that gains its lock outside the lock's chain: what stays through the call's
-- looks and the begin of its round, and that the entry of its gain leaves the thread at rest again.
use Rattle.lock_floor.proofs.Names
use Names.{ℕ, false, true, cond, eqb, Some, None, List, [], refl, sym, ap, eq-eqb, same_Some, gained_order-push}
use Names.{hold_in-push, Config, NotHeld, Holds, hold_in, Word, Event, Locked, Held, LockNo, Mode, State, NoWalk}
use Names.{gained_order, Step, Stamps, HasOutForEntry, Asks, Begins, IsGainedLast, is_taking_back, config_in}
use Names.{Description, ShareColumns, is_among, Fits, MayMake, Runs, Knowledge, seeing, IsGoing, IsAtRest, looked}
use Names.{sought, gained, others, entry_by, stamped}
use Rattle.std.proofs.Common.{◌≡◌, ◌∷◌, ◌∙◌}
use Rattle.lock_floor.proofs.May.{own_log, may_stamp_end}
use Rattle.lock_floor.proofs.Resting.{Sectioned, Begun, at_rest, gain_section, gain_begun, begun_gained}

-- 1. What stays: the thread runs, is awake and has nothing out, no walk and nobody to mark, has nothing to note and
-- doesn't sleep in its log; the sections open there are of just its locks

pub record IsCalling (floor : Description) (v : Knowledge) : Type 0 where
  pub runs : v.pose ≡ Runs
  pub nothing_out : v.out ≡ []
  pub no_walk : v.share.doing.walk ≡ NoWalk
  pub unmarked : v.share.doing.marked ≡ []
  pub uncounted : v.share.doing.counting ≡ None
  pub unnoted : v.share.doing.noted ≡ None
  pub going : IsGoing v
  pub no_wait : is_taking_back v.share.log ≡ false
  pub sections : Sectioned floor v
  pub begun : Begun v

pub calls : (floor : Description) (v : Knowledge) → IsAtRest floor v → IsCalling floor v
calls floor v r = assumption r

-- 2. The gain of the lock that is being taken, and its entry

module _ (floor : Description) (v : Knowledge) (l : LockNo) (mode : Mode) (k : IsCalling floor v)
    (takes : v.share.doing.taking ≡ Some l.0) (unheld : hold_in v.share.held l.0 ≡ NotHeld) where
  abbrev c : Config
  c = config_in floor

  abbrev t : ℕ
  t = v.thread

  abbrev h : Held
  h = record { l = l; mode = mode; by_try = false }

  abbrev e : Event
  e = Locked l mode

  module _ (seen : List Step) where
    abbrev w : Knowledge
    w = seeing seen (gained v h)

    pushed : hold_in w.share.held l.0 ≡ Holds mode
    pushed = hold_in-push v.share.held h l.0 unheld
        ∙ ap (λ b. cond b (Holds mode) (hold_in v.share.held l.0)) (eq-eqb l.0 l.0 refl)

    asks : (s : State) → Fits floor w s → Asks c s t e × HasOutForEntry floor.chains s t e
    asks s f =
        let begins : Begins c s t l.0 (Holds mode) = record {
          held = sym (ap (λ (x : ShareColumns). x.held l.0) f.share.columns) ∙ pushed;
          closed = own_log floor w s f l.0 ∙ k.sections l.0 ∙ unheld;
        } in
        let last : IsGainedLast s t l.0 false = record {
          others = gained_order v.share.held;
          last = sym (ap (λ (x : ShareColumns). x.held_locks) f.share.columns) ∙ gained_order-push v.share.held h;
        } in
        ((begins, last), tt)

    pub may_note_locked : MayMake floor w (λ s. Unit {0}) (Stamps t e ∷ [])
    may_note_locked =
        may_stamp_end floor w e asks tt
        (λ q. absurd (let z : false ≡ true = sym k.no_wait ∙ q in cc))
        k.runs (assumption k.going)
        (λ j q. (same_Some l.0 j (sym takes ∙ q), k.no_wait))

  pub rest_locked : (ticket : ℕ)
      → IsAtRest floor (stamped (config_in floor) (gained v h) (entry_by v.thread ticket (Locked l mode)))
  rest_locked ticket =
      at_rest floor (stamped c (gained v h) (entry_by t ticket e)) (assumption k) refl
      (λ j. gain_section floor v h ticket j ∙ ap (cond (eqb l.0 j) (Holds mode)) (k.sections j)
      ∙ sym (hold_in-push v.share.held h j unheld))
      (λ j held. ap (is_among j) (begun_gained floor v h (others l.0 v.share.begun))
      ∙ gain_begun floor v h k.begun unheld j held)
