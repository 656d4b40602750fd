-- A claim keeps each fact.
use Rattle.lock_laws.proofs.Names
use Names.{ℕ, Bool, true, Option, Some, None, refl, sym, ap, inl, inr, arith, cases_eq, at_option, Free, HeldBy}
use Names.{is_turnstile, claimed, State, Loan, put_at, put_queue, Config, Holds, MayClaim, after_claim, loan_of}
use Names.{lock_queue, stands, least_of, Lawful, OneNodeEach, HeadsFitWaiters, BitsShowWaiters, StandsOnce, CalledWants}
use Names.{FreeWordHasCalled, FreeMutexShowsNone, WordsMatchHolders, EffectiveIsLeast, OwnersHold, ChannelsHaveNoOwner}
use Names.{LoansAreLeast, LoansAreWithOwners, LoansAreOnHeads, KeptIsEffective, EffectiveIsKnown, LoansAreKnown}
use Names.{KeptIsKnown, HeadFits, callers, owner_if, IsKnown, Excl, QueueName}
use Rattle.std.proofs.Common.{◌≡◌, ◌∙◌}
use Rattle.lock_laws.proofs.Kit.{columns, put_same, put_other, put_at_same, put_at_other, put_at_beside, put_lock_same, put_lock_other, sum_below-put, at_put_queue}
use Rattle.lock_laws.proofs.Gain.{gained_lock}
use Rattle.lock_laws.proofs.Words.{free_is, all_match-put, matches-claim}
use Rattle.lock_laws.proofs.Lending.{each_of-elsewhere, effective-put}
use Rattle.lock_laws.proofs.Nodes.{prio_loan_of, number_loan_of, loan_of_known, node_lent, loan_known, changed_known}
use Rattle.lock_laws.proofs.Listed as listed

head_keeps : (o p : Option ℕ) (h : Option ℕ) (x : ℕ) → h ≡ Some x → h ≡ None → p ≡ None
head_keeps o p h x e f = absurd (let z : Some x ≡ None = sym e ∙ f in cc)

no_owner_here : (b : Bool) (x : Option ℕ) (t : ℕ) → owner_if b x Free ≡ Some t → ⊥
no_owner_here b x t e = grind arith

owner_claimed : (b : Bool) (h : Option ℕ) (x t : ℕ) → b ≡ true → h ≡ Some x → Some t ≡ owner_if b h (HeldBy t)
owner_claimed b h x t e f = rw (e, f) refl

module _ (c : Config) (s : State) (t l x : ℕ) (by_try : Bool) (g : MayClaim c s t l x) (h : Lawful c s) where
  abbrev n : State
  n = after_claim c s t l x by_try

  abbrev q : QueueName
  q = lock_queue l

  abbrev new : Option Loan
  new = loan_of x (least_of (s.lists q))

  turnstile : is_turnstile (c.kind l) ≡ true
  turnstile = rw g.kind refl

  -- nobody has a loan for a free lock
  no_loans : (u : ℕ) (y : Loan) → s.loan u l ≡ Some y → ⊥
  unfolding LoansAreWithOwners OwnersHold
  no_loans u y e =
      let a = sym (h.loans.owners_hold l) ∙ h.loans.loans_are_with_owners u l y e in
      let b = rw (free_is (s.word l).holder g.free) at a in
      no_owner_here (is_turnstile (c.kind l)) (s.head q) u b

  nodes : OneNodeEach c n.loan_home n.loan
  unfolding after_claim
  nodes = node_lent c s h t l x g.thread g.lock turnstile g.head (λ u y e. absurd (no_loans u y e))

  -- 1. The queue

  heads : HeadsFitWaiters n.lists n.free_list n.head n.owner
  unfolding after_claim HeadsFitWaiters
  heads =
      let fits = h.queues.heads_fit_waiters q in
      at_put_queue (λ r o. HeadFits (s.lists r) (s.free_list r) (s.head r) o) s.owner q (Some t) (record {
        balanced = fits.balanced;
        no_free = fits.no_free;
        no_owner = head_keeps None (Some t) (s.head q) x g.head;
      }) (λ r ne. h.queues.heads_fit_waiters r)

  bits : BitsShowWaiters n.word n.lists
  unfolding after_claim BitsShowWaiters
  bits k = grind (arith, columns, h.queues.bits_show_waiters k)

  -- 2. Wanting and calling

  called : FreeWordHasCalled c n.word n.marked n.wait n.called
  unfolding after_claim FreeWordHasCalled callers CalledWants
  called k =
      let a = sum_below-put c.threads (at_option k) s.called t None g.thread in
      grind (arith, columns, h.waits.free_word_has_called k, h.waits.called_wants t)

  free_mutex : FreeMutexShowsNone c n.word
  unfolding after_claim FreeMutexShowsNone
  free_mutex k e = grind (arith, columns, h.waits.free_mutex_shows_none k e)

  -- 3. Words and owners

  holders : WordsMatchHolders c n.word n.held
  unfolding after_claim WordsMatchHolders
  holders = all_match-put c s.word s.held t l _ (Holds Excl) h.words.words_match_holders
      (matches-claim c (s.word l) s.held t l g.thread g.free g.unheld (h.words.words_match_holders l))

  owners : OwnersHold c n.owner n.head n.word
  unfolding after_claim OwnersHold
  owners k =
      elim (cases_eq l k) [
        | inl e ↦ rw (← e)
            (simp (put_same, put_lock_same) (owner_claimed (is_turnstile (c.kind l)) (s.head q) x t turnstile g.head))
        | inr e ↦ rw (put_other s.word l (claimed (s.word l) t) k e, put_lock_other s.owner l (Some t) k e)
            (h.loans.owners_hold k)
      ]

  channels : ChannelsHaveNoOwner n.owner
  unfolding after_claim ChannelsHaveNoOwner put_queue
  channels d = h.loans.channels_have_no_owner d

  -- 4. Loans and kept priorities

  least : EffectiveIsLeast c n.effective n.base n.loan
  unfolding after_claim
  least = effective-put c s.effective s.base s.loan t l new h.loans.effective_is_least

  loans_least : LoansAreLeast c n.owner n.walk n.loan n.lists
  unfolding after_claim LoansAreLeast
  loans_least k o e w =
      elim (cases_eq l k) [
        | inl i ↦
            let j : t ≡ o = (let y = sym (put_lock_same s.owner l (Some t))
            ∙ ap (λ z. put_queue s.owner q (Some t) (lock_queue z)) i ∙ e in cc) in
            rw (← i, ← j, put_at_same s.loan t l new) (prio_loan_of x (least_of (s.lists q)))
        | inr i ↦ rw (put_at_beside s.loan t l new o k i)
            (h.loans.loans_are_least k o (sym (put_lock_other s.owner l (Some t) k i) ∙ e) w)
      ]

  -- a loan for the lock is the new one
  only_new : (u : ℕ) (y : Loan) → put_at s.loan t l new u l ≡ Some y → (t ≡ u) × (new ≡ Some y)
  only_new u y e =
      elim (cases_eq t u) [
        | inl i ↦ (i, sym (put_at_same s.loan t l new) ∙ ap (λ z. put_at s.loan t l new z l) i ∙ e)
        | inr i ↦ absurd (no_loans u y (sym (put_at_other s.loan t l new u l i) ∙ e))
      ]

  loans_owned : LoansAreWithOwners n.loan n.owner
  unfolding after_claim LoansAreWithOwners
  loans_owned u k y e =
      elim (cases_eq l k) [
        | inl i ↦ let r = only_new u y (ap (put_at s.loan t l new u) i ∙ e) in
            rw (← i, put_lock_same s.owner l (Some t)) (ap Some r.0)
        | inr i ↦ rw (put_lock_other s.owner l (Some t) k i)
            (h.loans.loans_are_with_owners u k y (sym (put_at_beside s.loan t l new u k i) ∙ e))
      ]

  loans_on_heads : LoansAreOnHeads n.loan n.head
  unfolding after_claim LoansAreOnHeads
  loans_on_heads u k y e =
      elim (cases_eq l k) [
        | inl i ↦ let r = only_new u y (ap (put_at s.loan t l new u) i ∙ e) in
            rw (← i) (g.head ∙ ap Some (number_loan_of x (least_of (s.lists q)) y r.1))
        | inr i ↦ h.loans.loans_are_on_heads u k y (sym (put_at_beside s.loan t l new u k i) ∙ e)
      ]

  nowhere : (k : ℕ) → stands t (s.lists (lock_queue k)) ≡ 0
  unfolding StandsOnce
  nowhere k = grind (arith, h.waits.stands_once t (lock_queue k), g.acting.unnamed)

  kept : KeptIsEffective c n.walk n.effective n.lists
  unfolding after_claim KeptIsEffective
  kept k i =
      each_of-elsewhere c s.walk s.effective t _ (s.lists (lock_queue k)) (nowhere k) (h.loans.kept_is_effective k i)

  new_known : (y : Loan) → new ≡ Some y → IsKnown c s.history y.prio
  unfolding KeptIsKnown
  new_known y e = loan_of_known c s.history (s.lists q) x (h.loans.kept_is_known l turnstile) y e

  effective_known : EffectiveIsKnown c n.effective n.history
  unfolding after_claim
  effective_known = changed_known c s h t l new g.thread new_known

  loans_known : LoansAreKnown c n.loan n.history
  unfolding after_claim
  loans_known = loan_known c s h t l new new_known

  pub lawful : Lawful c n
  unfolding after_claim
  lawful = assumption (
    listed.gained s t l h.words.held_are_listed Excl by_try,
    nodes,
    heads,
    bits,
    called,
    free_mutex,
    holders,
    owners,
    channels,
    least,
    loans_least,
    loans_owned,
    loans_on_heads,
    kept,
    effective_known,
    loans_known,
    gained_lock c s t l Excl g.thread g.unheld g.acting h,
  )
