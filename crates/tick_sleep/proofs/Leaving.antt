-- A sleep queue on which nobody sleeps any more.
use Rattle.std.proofs.Common.{◌≡◌, ℕ, ◌+◌, false, eqb, List, [], ◌∷◌, length, Option, None, Some, IfNone, refl, sym, ap, arith, length-append, ◌∙◌, inl, inr, eq-eqb}
use Rattle.std.proofs.lemmas.Bool.{cases_eq, ne_eqb}
use Rattle.std.proofs.lemmas.Bool.Decides.{nat_tests}
use Rattle.lock_model.specs.Counts.{one}
use Rattle.lock_model.specs.Queues.{Waiter, times_waiting, one_or_none, entry_of}
use Rattle.sleep_queues.specs.Seen.{SleepQueue, Contents, Place}
use Rattle.sleep_queues.specs.Changes.{all_waiters, waits, AreTaken}
use Rattle.tick_sleep.specs.declared.who.Who.{Who}
use Rattle.tick_sleep.specs.Tables.{off}
use Rattle.wait_objects.specs.Changes.{IsWellFormed, IsLeft}
use Rattle.wait_objects.specs.contracts.sleeping.SleepingOwn.TheImpl.{ghosts}

no_item : {A : Type 0} (xs : List A) → length xs ≡ 0 → xs ≡ []
no_item [] e = refl
no_item (x ∷ xs) e = absurd (omega arith)

pub none_free : (h : SleepQueue) → IsWellFormed false h.contents → all_waiters h.contents ≡ [] → h.contents.free ≡ []
none_free h fits nobody =
    let n : length h.contents.exclusive + length h.contents.shared ≡ 0 =
    sym (length-append h.contents.exclusive h.contents.shared) ∙ ap length nobody in
    no_item h.contents.free (omega (arith, n, fits.one_free_less))

pub left_idle : (h : SleepQueue) → IsWellFormed false h.contents → all_waiters h.contents ≡ [] → h.next ≡ []
    → IsLeft ghosts h
left_idle h fits nobody bare =
    let n : length h.contents.exclusive + length h.contents.shared ≡ 0 =
    sym (length-append h.contents.exclusive h.contents.shared) ∙ ap length nobody in record {
      no_exclusive = no_item h.contents.exclusive (omega (arith, n));
      no_shared = no_item h.contents.shared (omega (arith, n));
      no_free = none_free h fits nobody;
      own = refl;
      no_next = bare;
    }

-- where nobody is taken
pub nothing_taken : (who : Who) (c d : Contents) (ps : List Place) → ps ≡ [] → off who c.exclusive ≡ []
    → AreTaken (off who c.exclusive) c d ps
nothing_taken who c d ps none e = rw (none, e) (record {
  taken = refl;
  others = tt;
  last = (λ h. absurd h, λ h. absurd (h.0 refl));
})

pub if_none : {X : Type 0} (o : Option X) (P : Type 0) → o ≡ None → IfNone o P → P
if_none None P e h = h
if_none (Some x) P e h = absurd cc

pub no_entry : (t : ℕ) (ws : List Waiter) → times_waiting t ws ≡ 0 → one_or_none (entry_of t ws) ≡ []
no_entry t [] e = refl
no_entry t (w ∷ ws) e = elim (cases_eq t w.thread) [
  | inl i ↦ absurd (let o : one (eqb t w.thread) ≡ 1 = ap one (eq-eqb t w.thread i) in omega (arith, o, e))
  | inr ne ↦ rw (ne_eqb t w.thread ne) (no_entry t ws (omega (arith, e)))
]

pub doesnt_wait : (t : ℕ) (c : Contents) → waits t c ≡ false → times_waiting t c.exclusive ≡ 0
doesnt_wait t c e = grind (arith, nat_tests, e)
