-- Calls that wait for a record or a cell, over their tries: a thread that found the item out so far is ready still, and
-- what a try makes then it makes from what the thread knew before.
use Rattle.lock_floor.proofs.Names.{ℕ, [], sym, subst, Event, TakesItem, Item, Description, MakesEach, Knowledge}
use Rattle.lock_floor.proofs.Names.{seeing, sooner, Floor, Pass, IsAtRest, IsReady, MakesEntry, with_item, arith}
use Rattle.std.proofs.Common.{◌≡◌, ◌∷◌}
use Rattle.lock_floor.specs.Passes.{IsOf}
use Rattle.lock_floor.proofs.Resting.{rest_seeing}
use Rattle.lock_floor.proofs.Taking.{HasWaited}

-- a pass that was ready is ready behind a try that found the item out
pub ready_still : (f : Floor Description) (p q : Pass Knowledge) → IsReady f p → IsOf f q
    → q.view ≡ seeing q.view.seen p.view → IsReady f q
ready_still f p q ready own left = grind arith

module _ (floor : Description) (old mid new : Knowledge) (h : HasWaited old mid) where
  -- the entry
  pub entry_then : (e : Event) → MakesEntry floor e mid.share.held mid new → MakesEntry floor e old.share.held old new
  entry_then e made =
      let m : MakesEntry floor e old.share.held (seeing mid.seen old) new =
      subst (λ (k : Knowledge). MakesEntry floor e k.share.held k new) h.view made in
      record {
        ticket = m.ticket;
        log = m.log;
        held = m.held;
        spare = m.spare;
        thread = m.thread;
        before = m.before;
        behind = m.behind;
        of = m.of;
        step = m.step;
        log_before = m.log_before;
        log_behind = m.log_behind;
      }

  -- and the steps, about an item or the thread's own
  pub steps_then : (i : ℕ → Item) (e : Event) → MakesEach floor (with_item mid.thread (i mid.thread) e) mid new
      → MakesEach floor (with_item old.thread (i old.thread) e) old new
  steps_then i e each =
      let s : MakesEach floor (with_item old.thread (i old.thread) e) (seeing mid.seen old) new =
      subst (λ (k : Knowledge). MakesEach floor (with_item k.thread (i k.thread) e) k new) h.view each in
      (s.0, sooner floor (TakesItem old.thread (i old.thread) ∷ []) mid.seen old s.0 h.since s.1, s.2)
