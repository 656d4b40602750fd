-- Whether a thread is Queued, as its wait word says it at the moment at which it is loaded.
use Rattle.lock_floor.proofs.Names
use Names.{ℕ, eqb, Bool, length, refl, sym, ap, subst, arith, eq-eqb, eqb-true, Me, keeps, Allows, BySignal, ByAbort}
use Names.{State, Wait, Running, Queued, Woken, Description, Slot, IsSeenBy, spot, wait_line, wait_word, Board}
use Names.{wait_number, FloorHolds, Knowledge, OfThread, seeing, Finds, Steps, allows, none_made, FindsWhetherQueued}
use Rattle.std.proofs.Common.{◌≡◌, ◌<◌, ◌∙◌}
use Rattle.lock_floor.proofs.Taking.{HasWaited}

-- what it tells
abbrev pub FoundQueued : Description → ℕ → Me Slot Knowledge → ℕ → Me Slot Knowledge → Type 0
FoundQueued floor t me found behind =
    (behind ≡ (seeing behind.0.seen me.0, me.1)) × FindsWhetherQueued floor t (eqb found 1) me.0 behind.0

-- the number of a queued thread is no other's
its_number : (y : Wait) → wait_number y ≡ 1 → y ≡ Queued
its_number f e = grind arith

module _ (floor : Description) (me : Me Slot Knowledge) (was : me.0.role ≡ OfThread) (t : ℕ)
    (low : t < length floor.threads) where
  abbrev v : Knowledge
  v = me.0

  abbrev at : ℕ
  at = spot (wait_line t)

  loads : (b : Board) (h : Finds floor v b)
      → Steps floor me at (wait_word b.words t) (wait_word b.words t) (FoundQueued floor t me) b
  loads b h =
      let seen = none_made floor b v h was at me.1 in
      let found : ℕ = wait_word b.words t in
      let number : found ≡ wait_number (seen.1.state.wait t) =
      h.represents.words.waits t low ∙ ap (λ (s : State). wait_number (s.wait t)) (sym seen.2) in
      let finds : FindsWhetherQueued floor t (eqb found 1) v (seeing h.past v) = record {
        moment = seen.1;
        queued = (
          λ e. its_number (seen.1.state.wait t) (sym number ∙ eqb-true found 1 e),
          λ q. eq-eqb found 1 (number ∙ ap wait_number q),
        );
      } in
      (seeing h.past v, keeps, tt, seen.0, (refl, finds))

  pub find_allowed : (slots id : ℕ) → Allows (FloorHolds floor) slots id me at (λ n. n) (FoundQueued floor t me)
  find_allowed slots id = allows floor slots id me at (λ n. n) (FoundQueued floor t me) was (λ b h small. loads b h)

-- who finds that out has waited
pub found_waits : (floor : Description) (o : ℕ) (queued : Bool) (old new : Knowledge) → new ≡ seeing new.seen old
    → FindsWhetherQueued floor o queued old new → HasWaited old new
found_waits floor o queued old new view found =
    let m = found.moment in
    record { view = view; since = subst (IsSeenBy old.thread old.seen) (sym m.seen) m.since }
