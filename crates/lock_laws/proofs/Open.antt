-- An open of a turnstile keeps each fact.
use Rattle.lock_laws.proofs.Names
use Names.{ℕ, Bool, true, false, [], Option, Some, None, refl, sym, ap, inl, inr, arith, cases_eq, Config, is_empty}
use Names.{Word, Free, is_turnstile, shows_waiters, side_woken, Waiter, Lists, lock_queue, list_of, stands, Kind, Mode}
use Names.{QueueName, Mtx, State, Loan, put_at, put_queue, MayOpen, after_open, Lawful, OneNodeEach, StandsOnce}
use Names.{EffectiveIsLeast, OwnersHold, ChannelsHaveNoOwner, LoansAreLeast, LoansAreWithOwners, LoansAreOnHeads}
use Names.{KeptIsEffective, EffectiveIsKnown, LoansAreKnown, KeptIsKnown, ShowsItsWaiters, at_queue, IsKept, IsKnown}
use Names.{EachOf, owner_if}
use Rattle.std.proofs.Common.{◌≡◌, ◌∙◌}
use Rattle.lock_laws.proofs.Kit.{columns, at_locks, put_at_same, put_at_other, put_at_beside, put_lock_same, put_lock_other, put_queue_other}
use Rattle.lock_laws.proofs.Lending.{each_of-elsewhere, each_of-with, effective-put}
use Rattle.lock_laws.proofs.Owners.{owners_put}
use Rattle.lock_laws.proofs.Sections.{apart}
use Rattle.lock_laws.proofs.Shown.{lent_held}
use Rattle.lock_laws.proofs.Nodes.{node_returned, loan_known, changed_known}
use Rattle.lock_laws.proofs.LockQueues as lock_queues
use Rattle.lock_laws.proofs.LockQueues.{side_opened, lists_left, head_left, whole_side, opened_lock}
use Rattle.lock_laws.proofs.TakingOff.{by_signal}

-- the woken side isn't empty
pub side_shown : (kind : Kind) (w : Word) (q : Lists) → is_turnstile kind ≡ true
    → ShowsItsWaiters w q → shows_waiters w ≡ true → (kind ≡ Mtx → q.shared ≡ [])
    → is_empty (list_of (side_woken kind w) q) ≡ false
side_shown kind w q turnstile i = lock_queues.side_shown kind w q i

no_owner : (b : Bool) (h : Option ℕ) → owner_if b h Free ≡ None
no_owner b h = grind arith

module _ (c : Config) (s : State) (t l : ℕ) (mode : Mode) (g : MayOpen c s t l mode) (h : Lawful c s) where
  abbrev n : State
  n = after_open c s t l

  abbrev q : QueueName
  q = lock_queue l

  nodes : OneNodeEach c n.loan_home n.loan
  unfolding after_open
  nodes = node_returned c s.loan_home s.loan t l g.releases.thread g.releases.lock h.queues.one_node_each

  owners : OwnersHold c n.owner n.head n.word
  unfolding after_open
  owners = owners_put h l None (head_left c s l) _ (sym (no_owner (is_turnstile (c.kind l)) (head_left c s l)))

  channels : ChannelsHaveNoOwner n.owner
  unfolding after_open ChannelsHaveNoOwner put_queue
  channels d = h.loans.channels_have_no_owner d

  least : EffectiveIsLeast c n.effective n.base n.loan
  unfolding after_open
  least = effective-put c s.effective s.base s.loan t l None h.loans.effective_is_least

  -- a loan that is left is for another lock
  still : (u k : ℕ) (x : Loan) → put_at s.loan t l None u k ≡ Some x
      → (l ≡ k → ⊥) × (s.loan u k ≡ Some x)
  still u k x e =
      elim (cases_eq l k) [
        | inl i ↦ absurd (gone (ap (put_at s.loan t l None u) i ∙ e))
        | inr i ↦ (i, sym (put_at_beside s.loan t l None u k i) ∙ e)
      ]
    where
      gone : put_at s.loan t l None u l ≡ Some x → ⊥
      gone f =
          elim (cases_eq t u) [
            | inl i ↦
                let g = ap (λ j. put_at s.loan t l None j l) i ∙ f in
                let z : None ≡ Some x = sym (put_at_same s.loan t l None) ∙ g in
                absurd cc
            | inr i ↦
                let r = lent_held c s h u l x (sym (put_at_other s.loan t l None u l i) ∙ f) in
                i (sym (apart c s h u t l mode r.1 g.releases.held))
          ]

  loans_least : LoansAreLeast c n.owner n.walk n.loan n.lists
  unfolding after_open LoansAreLeast
  loans_least k o = grind (arith, columns, h.loans.loans_are_least k o)

  loans_owned : LoansAreWithOwners n.loan n.owner
  unfolding after_open LoansAreWithOwners
  loans_owned u k x e =
      let r = still u k x e in
      rw (put_lock_other s.owner l None k r.0) (h.loans.loans_are_with_owners u k x r.1)

  loans_on_heads : LoansAreOnHeads n.loan n.head
  unfolding after_open LoansAreOnHeads
  loans_on_heads u k x e =
      let r = still u k x e in
      rw (put_lock_other s.head l (head_left c s l) k r.0) (h.loans.loans_are_on_heads u k x r.1)

  nowhere : (k : ℕ) → is_turnstile (c.kind k) ≡ true → stands t (s.lists (lock_queue k)) ≡ 0
  unfolding StandsOnce
  nowhere k i = let a = off (s.blocked_on t) refl in omega (arith, h.waits.stands_once t (lock_queue k))
    where
      off : (o : Option QueueName) → s.blocked_on t ≡ o → at_queue (lock_queue k) o ≡ 0
      off o y = grind arith

  kept : KeptIsEffective c n.walk n.effective n.lists
  unfolding after_open KeptIsEffective
  kept =
      let Q : Waiter → Type 0 = IsKept c s.walk n.effective in
      at_locks (λ k. is_turnstile (c.kind k) ≡ true) (EachOf Q) s.lists q (lists_left c s l)
      (λ k e i. each_of-with Q (side_opened c s l) [] (s.lists q) (λ z. tt))
      (λ k i. each_of-elsewhere c s.walk s.effective t _ (s.lists (lock_queue k)) (nowhere k i)
      (h.loans.kept_is_effective k i))

  effective_known : EffectiveIsKnown c n.effective n.history
  unfolding after_open
  effective_known = changed_known c s h t l None g.releases.thread (λ x e. absurd cc)

  loans_known : LoansAreKnown c n.loan n.history
  unfolding after_open
  loans_known = loan_known c s h t l None (λ x e. absurd cc)

  kept_known : KeptIsKnown c n.lists n.history
  unfolding after_open KeptIsKnown
  kept_known =
      let P : Waiter → Type 0 = λ w. IsKnown c s.history w.kept in
      at_locks (λ k. is_turnstile (c.kind k) ≡ true) (EachOf P) s.lists q (lists_left c s l)
      (λ k e i. each_of-with P (side_opened c s l) [] (s.lists q) (λ z. tt)) h.loans.kept_is_known

  pub lawful : Lawful c n
  unfolding after_open
  lawful = assumption (
    by_signal (whole_side g.releases h) h g.releases.unmarked (put_queue s.owner q None)
        (put_queue_other s.owner q None)
        (λ e. put_lock_same s.owner l None),
    opened_lock g.releases h,
    nodes,
    owners,
    channels,
    least,
    loans_least,
    loans_owned,
    loans_on_heads,
    kept,
    effective_known,
    loans_known,
    kept_known,
  )
