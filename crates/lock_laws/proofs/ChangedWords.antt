-- A step that changes a lock's word leaves its thread with no last look; and an abort that changes none leaves it the
-- last look that it had.
use Rattle.lock_laws.proofs.Names
use Names.{ℕ, true, false, not, List, [], Option, None, refl, sym, ap, arith, Config, is_empty, Waiter, Lists, list_of}
use Names.{times_waiting, without, Word, with_bit, LockNo, QueueName, Lock, Chan, Side, X, S, Lawful, BitsShowWaiters}
use Names.{ShowsItsWaiters, State, Look, after_seek, after_look, after_gain, after_drop, after_stamp, after_ready}
use Names.{after_unready, after_enter, after_open, after_mark, after_resume, MayAbort, look_leaving, word_showing}
use Names.{after_enter_sleep, after_open_sleep, after_add, after_wake, after_abort, after_claim, after_lend}
use Names.{after_shift, after_end_walk, after_take, after_give, after_admit, after_refuse, after_count_out}
use Names.{after_count_in, after_count_self_in, after_count_end, after_halt, Step, Gains, Drops, Enters, Opens}
use Names.{EntersSleepQueue, OpensSleepQueue, Claims, Aborts, May, after, kind_of}
use Rattle.std.proofs.Common.{◌≡◌, ◌≢◌, ◌<◌, ◌∷◌, ◌∙◌}
use Rattle.lock_laws.proofs.Kit.{put_same, put_back}

-- 1. The word of a lock, where somebody stands on a side

pub some_there : (u : ℕ) (ws : List Waiter) → 0 < times_waiting u ws → is_empty ws ≡ false
some_there u ws here = grind arith

-- it has the side's bit,
bit_stays : (side : Side) (w : Word) (q : Lists) → ShowsItsWaiters w q → is_empty (list_of side q) ≡ false
    → with_bit w side true ≡ w
bit_stays X w q shows some = λ i. record w { exclusive_waiters = (ap not (sym some) ∙ sym shows.exclusive) i }
bit_stays S w q shows some = λ i. record w { shared_waiters = (ap not (sym some) ∙ sym shows.shared) i }

-- and without it is another
bit_falls : (side : Side) (w : Word) (q : Lists) → ShowsItsWaiters w q → is_empty (list_of side q) ≡ false
    → with_bit w side false ≢ w
bit_falls X w q shows some e =
    let z : false ≡ true = ap (λ (x : Word). x.exclusive_waiters) e ∙ shows.exclusive ∙ ap not some in cc
bit_falls S w q shows some e =
    let z : false ≡ true = ap (λ (x : Word). x.shared_waiters) e ∙ shows.shared ∙ ap not some in cc

module _ (s : State) (l : LockNo) (side : Side) (bits : BitsShowWaiters s.word s.lists)
    (some : is_empty (list_of side (s.lists (Lock l))) ≡ false) where
  -- so where others are left there, it stays
  pub word_stays : (left : List Waiter) → is_empty left ≡ false → word_showing (Lock l) side left s.word ≡ s.word
  unfolding BitsShowWaiters
  word_stays left others =
      put_back s.word l.0 (with_bit (s.word l.0) side (not (is_empty left)))
      (sym (ap (λ b. with_bit (s.word l.0) side (not b)) others
      ∙ bit_stays side (s.word l.0) (s.lists (Lock l)) (bits l.0) some))

  -- and where nobody is, it doesn't
  word_falls : word_showing (Lock l) side [] s.word l.0 ≢ s.word l.0
  unfolding BitsShowWaiters
  word_falls e = bit_falls side (s.word l.0) (s.lists (Lock l)) (bits l.0) some (sym (put_same s.word l.0 _) ∙ e)

-- 2. An abort

module _ (s : State) (side : Side) (bits : BitsShowWaiters s.word s.lists) where
  forgets : (q : QueueName) → is_empty (list_of side (s.lists q)) ≡ false → (left : List Waiter) (k : ℕ)
      → word_showing q side left s.word k ≢ s.word k → (look : Option Look) → look_leaving q left look ≡ None
  forgets (Lock l) some [] k changed look = refl
  forgets (Lock l) some (w ∷ ws) k changed look =
      absurd (changed (ap (λ f. f k) (word_stays s l side bits some (w ∷ ws) refl)))
  forgets (Chan d) some left k changed look = absurd (changed refl)

  remembers : (q : QueueName) → is_empty (list_of side (s.lists q)) ≡ false → (left : List Waiter)
      → ((k : ℕ) → word_showing q side left s.word k ≡ s.word k) → (look : Option Look)
      → look_leaving q left look ≡ look
  remembers (Lock l) some [] same look = absurd (word_falls s l side bits some (same l.0))
  remembers (Lock l) some (w ∷ ws) same look = refl
  remembers (Chan d) some left same look = refl

module _ (c : Config) (s : State) (t : ℕ) (q : QueueName) (side : Side) (u : ℕ) (g : MayAbort c s t q side u)
    (h : Lawful c s) where
  some : is_empty (list_of side (s.lists q)) ≡ false
  some = some_there u (list_of side (s.lists q)) g.stands

  abbrev left : List Waiter
  left = without u (list_of side (s.lists q))

  abort_forgets : (k : ℕ) → (after_abort s t q side u).word k ≢ s.word k
      → (after_abort s t q side u).last_look t ≡ None
  unfolding after_abort
  abort_forgets k changed =
      put_same s.last_look t _ ∙ forgets s side h.queues.bits_show_waiters q some left k changed (s.last_look t)

  pub abort_remembers : ((k : ℕ) → (after_abort s t q side u).word k ≡ s.word k)
      → (after_abort s t q side u).last_look t ≡ s.last_look t
  unfolding after_abort
  abort_remembers same =
      put_same s.last_look t _ ∙ remembers s side h.queues.bits_show_waiters q some left same (s.last_look t)

-- 3. Each step

pub forgotten : (c : Config) (s : State) (step : Step) (l : ℕ) → Lawful c s → May c s step
    → (after c s step).word l ≢ s.word l → (after c s step).last_look (kind_of step).thread ≡ None
unfolding after_seek after_look after_gain after_drop after_stamp after_ready after_unready after_enter after_open
    after_mark after_resume after_enter_sleep after_open_sleep after_add after_wake after_claim after_lend after_shift
    after_end_walk after_admit after_refuse after_count_out after_count_in after_count_self_in after_count_end
    after_halt after_take after_give
forgotten c s (Gains t k mode by_try) l h g changed = put_same s.last_look t None
forgotten c s (Drops t k mode) l h g changed = put_same s.last_look t None
forgotten c s (Enters t k mode x) l h g changed = put_same s.last_look t None
forgotten c s (Opens t k mode) l h g changed = put_same s.last_look t None
forgotten c s (EntersSleepQueue t k mode x) l h g changed = put_same s.last_look t None
forgotten c s (OpensSleepQueue t k mode) l h g changed = put_same s.last_look t None
forgotten c s (Claims t k x by_try) l h g changed = put_same s.last_look t None
forgotten c s (Aborts t q side u) l h g changed = abort_forgets c s t q side u g h l changed
forgotten c s other l h g changed = absurd (changed refl)
