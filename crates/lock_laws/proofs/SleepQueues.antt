-- A change on a sleep queue, of an sx lock or of a channel, leaves what is said of turnstiles, loans and mutexes.
use Rattle.lock_laws.proofs.Names
use Names.{ℕ, true, false, Option, Some, None, sym, ap, inl, inr, cases_Bool, Config, Lists, is_queue}
use Names.{is_turnstile_queue, lock_queue, chan_queue, Word, Holder, is_turnstile, QueueName, Lock, Chan, State, put}
use Names.{put_queue, Lawful, LoanFacts, BitsShowWaiters, OwnersHold, ChannelsHaveNoOwner, LoansAreLeast}
use Names.{LoansAreWithOwners, LoansAreOnHeads, KeptIsEffective, KeptIsKnown, owner_if, arith}
use Rattle.std.proofs.Common.{◌≡◌, ◌∙◌}
use Rattle.lock_laws.proofs.Kit.{put_other, put_queue_other, is_queue_true}

no_owner : (h : Option ℕ) (y : Holder) → owner_if false h y ≡ None
no_owner h y = grind arith

-- a sleep queue has no owner
pub unowned : {c : Config} {s : State} → Lawful c s → (q : QueueName)
    → is_turnstile_queue c q ≡ false → s.owner q ≡ None
unfolding OwnersHold ChannelsHaveNoOwner
unowned {s} h (Lock l) e = h.loans.owners_hold l.0 ∙ rw e (no_owner (s.head (Lock l)) (s.word l.0).holder)
unowned h (Chan d) e = h.loans.channels_have_no_owner d.0

module _ {c : Config} {s : State} (h : Lawful c s) (q : QueueName) (sleeps : is_turnstile_queue c q ≡ false) where
  -- a turnstile is another queue
  other : (l : ℕ) → is_turnstile (c.kind l) ≡ true → is_queue q (lock_queue l) ≡ false
  other l e =
      elim (cases_Bool (is_queue q (lock_queue l))) [
        | inl i ↦
            let f = ap (is_turnstile_queue c) (is_queue_true q (lock_queue l) i) in
            let z : true ≡ false = sym e ∙ (sym f ∙ sleeps) in
            absurd cc
        | inr i ↦ i
      ]

  elsewhere : {A : Type 0} (f : QueueName → A) (v : A) (l : ℕ) → is_turnstile (c.kind l) ≡ true
      → put_queue f q v (lock_queue l) ≡ f (lock_queue l)
  elsewhere f v l e = put_queue_other f q v (lock_queue l) (other l e)

  -- what has an owner is a turnstile
  owned : (l o : ℕ) → s.owner (lock_queue l) ≡ Some o → is_turnstile (c.kind l) ≡ true
  owned l o e =
      elim (cases_Bool (is_turnstile (c.kind l))) [
        | inl i ↦ i
        | inr i ↦ absurd (let z : None ≡ Some o = sym (unowned h (lock_queue l) i) ∙ e in cc)
      ]

  pub loans_stay : (lists : Lists) (head : Option ℕ) (word : ℕ → Word)
      → ((l : ℕ) → is_turnstile (c.kind l) ≡ true → word l ≡ s.word l)
      → LoanFacts c (record s {
        lists = put_queue s.lists q lists;
        head = put_queue s.head q head;
        word = word;
      })
  unfolding OwnersHold LoansAreLeast LoansAreWithOwners LoansAreOnHeads KeptIsEffective KeptIsKnown
  loans_stay lists head word same = record {
    effective_is_least = h.loans.effective_is_least;
    owners_hold = λ l.
        elim (cases_Bool (is_turnstile (c.kind l))) [
          | inl e ↦ rw (elsewhere s.head head l e, same l e) (h.loans.owners_hold l)
          | inr e ↦
              let n = no_owner (put_queue s.head q head (lock_queue l)) (word l).holder in
              unowned h (lock_queue l) e ∙ rw e (sym n)
        ];
    channels_have_no_owner = h.loans.channels_have_no_owner;
    loans_are_least = λ l o e i. rw (elsewhere s.lists lists l (owned l o e)) (h.loans.loans_are_least l o e i);
    loans_are_with_owners = h.loans.loans_are_with_owners;
    loans_are_on_heads = λ t l x e.
        let turnstile = owned l t (h.loans.loans_are_with_owners t l x e) in
        rw (elsewhere s.head head l turnstile) (h.loans.loans_are_on_heads t l x e);
    kept_is_effective = λ l e. rw (elsewhere s.lists lists l e) (h.loans.kept_is_effective l e);
    effective_is_known = h.loans.effective_is_known;
    loans_are_known = h.loans.loans_are_known;
    kept_is_known = λ l e. rw (elsewhere s.lists lists l e) (h.loans.kept_is_known l e);
  }

-- an sx lock's word is no turnstile's, and a channel has none
pub sx_word : (c : Config) (word : ℕ → Word) (l : ℕ) (w : Word) → is_turnstile (c.kind l) ≡ false
    → (k : ℕ) → is_turnstile (c.kind k) ≡ true → put word l w k ≡ word k
sx_word c word l w sleeps k e =
    put_other word l w k (λ i. let z = rw (← i) at e in let y : true ≡ false = sym z ∙ sleeps in cc)

pub bits_stay : {c : Config} {s : State} → Lawful c s → (d : ℕ) (lists : Lists)
    → BitsShowWaiters s.word (put_queue s.lists (chan_queue d) lists)
unfolding put_queue BitsShowWaiters
bits_stay h d lists l = h.queues.bits_show_waiters l
