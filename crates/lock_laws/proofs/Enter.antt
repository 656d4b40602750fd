-- An enter on a turnstile keeps each fact.
use Rattle.lock_laws.proofs.Names
use Names.{ℕ, true, Option, refl, sym, ap, inl, inr, arith, cases_eq, Config, Holder, is_turnstile, owner_of, Waiter}
use Names.{Lists, lock_queue, side_of, list_of, with_list, insert, head_with, X, Mode, QueueName, State, Walk}
use Names.{put_queue, MayEnter, after_enter, walk_up, owner_with, Lawful, OwnersHold, ChannelsHaveNoOwner}
use Names.{LoansAreLeast, LoansAreWithOwners, LoansAreOnHeads, KeptIsEffective, EffectiveIsKnown, KeptIsKnown, IsKept}
use Names.{IsKnown, EachOf, walkers_at_lock, walkers_at_thread, at_lock, at_thread, owner_if}
use Rattle.std.proofs.Common.{◌≡◌, ◌∙◌}
use Rattle.lock_laws.proofs.Kit.{columns, at_locks, put_lock_same, put_lock_other, put_queue_other, sum_below-put}
use Rattle.lock_laws.proofs.Owners.{owners_put}
use Rattle.lock_laws.proofs.Words.{entered_holder}
use Rattle.lock_laws.proofs.Lending.{at_thread-walk_up, walk_up-there, each-insert, each_of-map, each_of-with}
use Rattle.lock_laws.proofs.ComingToStand.{IsOfMutex, MayStand, before_greater, comes_to_stand}
use Rattle.lock_laws.proofs.LockQueues.{entered_lock}

-- the owner behind an enter, of a first waiter's turnstile and of one that stands there, is the word's exclusive holder
owner_is : (head o : Option ℕ) (y : Holder) → o ≡ owner_if true head y
    → owner_with head o y ≡ owner_of y
owner_is head o y e = grind arith

owner_behind : (head : Option ℕ) (x : ℕ) (y : Holder)
    → owner_if true (head_with head x) y ≡ owner_of y
owner_behind head x y = grind arith

module _ (c : Config) (s : State) (t l : ℕ) (mode : Mode) (x : ℕ) (g : MayEnter c s t l mode x) (h : Lawful c s) where
  abbrev n : State
  n = after_enter s t l mode x

  abbrev q : QueueName
  q = lock_queue l

  abbrev new : Waiter
  new = record { thread = t; kept = s.effective t }

  abbrev lists : Lists
  lists = with_list (side_of mode) (insert new (list_of (side_of mode) (s.lists q))) (s.lists q)

  abbrev owner : Option ℕ
  owner = owner_with (s.head q) (s.owner q) (s.word l).holder

  abbrev walk : Walk
  walk = walk_up l (owner_of (s.word l).holder)

  exclusive : IsOfMutex c q → side_of mode ≡ X
  exclusive m = ap side_of (g.mutex m)

  may_stand : MayStand c s t q true (side_of mode) x
  may_stand = assumption exclusive

  -- 1. The owner

  is_owner : owner ≡ owner_of (s.word l).holder
  unfolding OwnersHold
  is_owner =
      let e = h.loans.owners_hold l in
      let f = rw g.turnstile at e in
      owner_is (s.head q) (s.owner q) (s.word l).holder f

  owners : OwnersHold c n.owner n.head n.word
  unfolding after_enter
  owners = owners_put h l owner (head_with (s.head q) x) _ (rw (g.turnstile, entered_holder, owner_behind) is_owner)

  channels : ChannelsHaveNoOwner n.owner
  unfolding after_enter ChannelsHaveNoOwner put_queue
  channels d = h.loans.channels_have_no_owner d

  -- 2. Loans and kept priorities

  loans_least : LoansAreLeast c n.owner n.walk n.loan n.lists
  unfolding after_enter LoansAreLeast walkers_at_lock OwnersHold
  loans_least k o e w =
      let a = sum_below-put c.threads (at_lock k) s.walk t walk g.waits.thread in
      let b = ap (at_lock k) g.waits.no_walk in
      elim (cases_eq l k) [
        | inl i ↦
            let f = sym (put_lock_same s.owner l owner) ∙ (let y = rw (← i) at e in y) in
            let d = walk_up-there l (owner_of (s.word l).holder) o (sym is_owner ∙ f) in
            let d2 = ap (λ j. at_lock j walk) i in
            absurd (omega arith)
        | inr i ↦
            let f = sym (put_lock_other s.owner l owner k i) ∙ e in
            rw (put_lock_other s.lists l lists k i) (h.loans.loans_are_least k o f (omega arith))
      ]

  loans_owned : LoansAreWithOwners n.loan n.owner
  unfolding after_enter LoansAreWithOwners OwnersHold
  loans_owned u k p = grind (arith, columns, h.loans.loans_are_with_owners u k p, h.loans.owners_hold l)

  loans_on_heads : LoansAreOnHeads n.loan n.head
  unfolding after_enter LoansAreOnHeads
  loans_on_heads u k p = grind (arith, columns, h.loans.loans_are_on_heads u k p)

  same_walks : (o : ℕ) → walkers_at_thread c n.walk o ≡ walkers_at_thread c s.walk o
  unfolding after_enter walkers_at_thread
  same_walks o =
      let a = sum_below-put c.threads (at_thread o) s.walk t walk g.waits.thread in
      let b = ap (at_thread o) g.waits.no_walk in
      omega (arith, at_thread-walk_up o l (owner_of (s.word l).holder))

  kept : KeptIsEffective c n.walk n.effective n.lists
  unfolding after_enter KeptIsEffective
  kept =
      let P : Waiter → Type 0 = IsKept c s.walk s.effective in
      let Q : Waiter → Type 0 = IsKept c n.walk s.effective in
      at_locks (λ k. is_turnstile (c.kind k) ≡ true) (EachOf Q) s.lists q lists
      (λ k e i. each_of-with Q (side_of mode) _ (s.lists q) (each-insert Q new _ (λ z. refl)))
      (λ k i. each_of-map P Q (s.lists (lock_queue k)) (λ w j p z. p (sym (same_walks w.thread) ∙ z))
      (h.loans.kept_is_effective k i))

  kept_known : KeptIsKnown c n.lists n.history
  unfolding after_enter KeptIsKnown EffectiveIsKnown
  kept_known =
      let P : Waiter → Type 0 = λ w. IsKnown c s.history w.kept in
      let own = h.loans.effective_is_known t g.waits.thread in
      at_locks (λ k. is_turnstile (c.kind k) ≡ true) (EachOf P) s.lists q lists
      (λ k e i. each_of-with P (side_of mode) _ (s.lists q) (each-insert P new _ own)) h.loans.kept_is_known

  pub lawful : Lawful c n
  unfolding after_enter
  lawful = assumption (
    comes_to_stand before_greater (s.effective t) may_stand h (put_queue s.owner q owner)
        (put_queue_other s.owner q owner),
    entered_lock before_greater (s.effective t) may_stand h g.waits.held g.waits.wants,
    owners,
    channels,
    loans_least,
    loans_owned,
    loans_on_heads,
    kept,
    kept_known,
  )
