-- A look finds the word that the lock has in the state to which all steps before it lead.
use Rattle.lock_floor.proofs.Names
use Names.{ℕ, Bool, Some, List, [], refl, sym, ap, subst, arith, CanBeSeen, put_same, can_be_seen, NotHeld, hold_in}
use Names.{State, Step, Looks, after, after_all, IsReachable, begins, goes_on, after_look, config_in, Description}
use Names.{LeadsTo, none, more, IsSeatOf, RepresentsShare, thread_in, ShareColumns, IsSound, Makes, Knowledge}
use Names.{sound_kept}
use Rattle.std.proofs.Common.{◌≡◌, ◌∷◌, ◌∙◌}

-- 1. Steps lead to one state

one_state : (floor : Description) {past : List Step} {s n : State} → LeadsTo floor past s → LeadsTo floor past n → s ≡ n
one_state floor none none = refl
one_state floor (more step r p) (more again q k) = ap (λ x. after (config_in floor) x step) (one_state floor r q)

pub same_state : (floor : Description) (steps others : List Step) (u v x y : Knowledge) (m : Makes floor steps u v)
    (k : Makes floor others x y) → m.past ≡ k.past → m.state ≡ k.state
same_state floor steps others u v x y m k e =
    one_state floor (subst (λ past. LeadsTo floor past m.state) e m.sound.reached) k.sound.reached

-- 2. What a thread's seat knows is so in the state in which it makes steps, and behind them

pub share_then : (floor : Description) (steps : List Step) (old new : Knowledge) (m : Makes floor steps old new)
    → RepresentsShare old.share m.state old.thread
share_then floor steps old new m =
    let its : IsSeatOf (thread_in m.before.views old.thread) m.state old.thread =
    m.represents.seats.thread old.thread (ap (λ (k : Knowledge). k.role) m.was ∙ m.role) in
    subst (λ (k : Knowledge). RepresentsShare k.share m.state old.thread) m.was its.share

pub share_behind : (floor : Description) (steps : List Step) (old new : Knowledge) (m : Makes floor steps old new)
    → RepresentsShare new.share (after_all (config_in floor) m.state steps) old.thread
share_behind floor steps old new m =
    let n : State = after_all (config_in floor) m.state steps in
    let its : IsSeatOf (thread_in m.behind.views old.thread) n old.thread =
    m.represents_behind.seats.thread old.thread (ap (λ (k : Knowledge). k.role) m.is ∙ m.role_behind) in
    subst (λ (k : Knowledge). RepresentsShare k.share n old.thread) m.is its.share

pub held_then : (floor : Description) (steps : List Step) (old new : Knowledge) (m : Makes floor steps old new) (l : ℕ)
    → m.state.held old.thread l ≡ hold_in old.share.held l
held_then floor steps old new m l =
    sym (ap (λ (x : ShareColumns). x.held l) (share_then floor steps old new m).columns)

-- 3. What a look finds

-- the state was reached by steps
reachable : (floor : Description) {past : List Step} {s : State} → LeadsTo floor past s
    → IsReachable (config_in floor) s
reachable floor none = begins
reachable floor (more step r allowed) = goes_on (reachable floor r) (step, allowed.fits.may, refl)

module _ (floor : Description) (l : ℕ) (counts : Bool) (old new : Knowledge)
    (m : Makes floor (Looks old.thread l counts ∷ []) old new) where
  abbrev n : State
  n = after_look m.state old.thread l counts

  pub finds_word : new.share.doing.last_look ≡ Some (record { lock = l; word = m.state.word l })
  unfolding after_look
  finds_word =
      ap (λ (x : ShareColumns). x.doing.last_look)
      (share_behind floor (Looks old.thread l counts ∷ []) old new m).columns
      ∙ put_same m.state.last_look old.thread (Some (record { lock = l; word = m.state.word l }))

  behind : IsSound floor (Looks old.thread l counts ∷ m.past) n
  behind =
      let steps : List Step = Looks old.thread l counts ∷ [] in
      sound_kept floor m.state steps m.may m.sound

  -- the word of a lock that the thread doesn't hold is one that such a thread can see
  pub finds_of_others : hold_in old.share.held l ≡ NotHeld → CanBeSeen ((config_in floor).kind l) (m.state.word l)
  finds_of_others unheld =
      let g = m.may.0.fits.may in
      can_be_seen (config_in floor) m.state old.thread l
      (omega (arith, m.represents.sizes.sized.threads)) g.thread
      (held_then floor (Looks old.thread l counts ∷ []) old new m l ∙ unheld) (reachable floor m.sound.reached)

  -- a look leaves the words, so one right behind it finds the same
  pub finds_it_again : (again : Bool) (last : Knowledge) (k : Makes floor (Looks new.thread l again ∷ []) new last)
      → k.past ≡ new.seen → k.state.word l ≡ m.state.word l
  unfolding after_look
  finds_it_again again last k e =
      let reached : LeadsTo floor (Looks old.thread l counts ∷ m.past) k.state =
      subst (λ past. LeadsTo floor past k.state) (e ∙ m.seen) k.sound.reached in
      ap (λ (s : State). s.word l) (one_state floor reached behind.reached)

pub same_look : (floor : Description) (l : ℕ) (first second : Bool) (u v w : Knowledge)
    (m : Makes floor (Looks u.thread l first ∷ []) u v) (k : Makes floor (Looks v.thread l second ∷ []) v w)
    → k.past ≡ v.seen → w.share.doing.last_look ≡ v.share.doing.last_look
same_look floor l first second u v w m k e =
    finds_word floor l second v w k
    ∙ ap (λ y. Some (record { lock = l; word = y })) (finds_it_again floor l first u v m second w k e)
    ∙ sym (finds_word floor l first u v m)
