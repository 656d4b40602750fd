-- A walk begins at a turnstile and goes on to turnstiles.
use Rattle.run_laws.proofs.Names
use Names.{ℕ, Bool, true, false, List, [], Option, Config, lock_queue, is_turnstile, owner_of, State, Walk, NoWalk}
use Names.{AtLock, put, Step, Enters, Lends, Shifts, EndsWalk, May, MayAll, after, after_all, after_take, after_give}
use Names.{after_seek, after_look, after_gain, after_drop, after_stamp, after_ready, after_unready, walk_up}
use Names.{after_enter, after_open, after_mark, after_resume, after_enter_sleep, after_open_sleep, after_add}
use Names.{after_wake, after_abort, walk_to, after_claim, after_lend, after_shift, after_end_walk, after_admit}
use Names.{after_refuse, after_count_out, after_count_in, after_count_self_in, after_count_end, after_halt}
use Names.{WalksAtTurnstiles, at_put, arith}
use Rattle.std.proofs.Common.{◌≡◌, ◌∷◌}

module _ (c : Config) (s : State) (h : WalksAtTurnstiles c s.walk) where
  -- one thread's walk goes on
  moved : (t : ℕ) (w : Walk) → ((l : ℕ) → w ≡ AtLock l → is_turnstile (c.kind l) ≡ true)
      → WalksAtTurnstiles c (put s.walk t w)
  moved t w here u l =
      at_put (λ v x. x ≡ AtLock l → is_turnstile (c.kind l) ≡ true) s.walk t w (here l) (λ v ne. h v l) u

  up : (k : ℕ) (o : Option ℕ) → is_turnstile (c.kind k) ≡ true → (l : ℕ) → walk_up k o ≡ AtLock l
      → is_turnstile (c.kind l) ≡ true
  up k o e l i = grind arith

  to : (o : ℕ) (b : Bool) (l : ℕ) → walk_to o b ≡ AtLock l → is_turnstile (c.kind l) ≡ true
  to o true l i = absurd cc
  to o false l i = absurd cc

  keeps : (step : Step) → May c s step → WalksAtTurnstiles c (after c s step).walk
  unfolding after_seek after_look after_take after_give after_gain after_drop after_stamp after_ready after_unready
      after_enter after_open after_mark after_resume after_enter_sleep after_open_sleep after_add after_wake after_claim
      after_lend after_shift after_end_walk after_admit after_refuse after_count_out after_count_in after_count_self_in
      after_count_end after_halt after_abort
  keeps (Enters t l mode x) g = moved t _ (up l (owner_of (s.word l).holder) g.turnstile)
  keeps (Lends t l o x) g = moved t _ (to o _)
  keeps (Shifts t o l) g = moved t _ (up l (s.owner (lock_queue l)) g.turnstile)
  keeps (EndsWalk t) g = moved t NoWalk (λ l i. absurd cc)
  keeps other g = h

pub walks_keep : (c : Config) (s : State) (steps : List Step) → MayAll c s steps → WalksAtTurnstiles c s.walk
    → WalksAtTurnstiles c (after_all c s steps).walk
walks_keep c s [] g h = h
walks_keep c s (step ∷ steps) g h = walks_keep c (after c s step) steps g.1 (keeps c s h step g.0)
