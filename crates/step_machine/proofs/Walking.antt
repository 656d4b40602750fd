-- The hops of a lending walk: the owner of a lock is lent the best priority of those who wait, and one who waits is
-- sorted anew.
use Rattle.step_machine.proofs.Names
use Names.{ℕ, List, get_or, slice_get, slice_set, Option, Some, refl, sym, ap, with_value, with_item, Config}
use Names.{lock_queue, names_turnstile, least_of, QueueName, State, Loan, put, Lawful, effective_of, walk_up, MayLend}
use Names.{after_lend, MayShift, after_shift, loan_of, walk_to, put_other, put_at_other, owner_thread, standing_thread}
use Names.{Turnstile, Record, Walk, RepresentsQueues, RepresentsRecord, queue_in, record_in, walk_of, Machine, Thread}
use Names.{Represents, RepresentsThreads, thread_in, KeepsProgress, sleepers_stay, shift_changes}
use Rattle.std.proofs.Common.{◌≡◌, ◌<◌, ◌∙◌}
use Rattle.std.specs.Prelude.{◌==◌, ◌&&◌, not}
use Rattle.step_machine.proofs.Kit.{OthersStay, thread_changed, read, aside_stays, shown_by}

-- the thread with another record in its box, and with another walk
abbrev pub with_record : Thread → Record → Thread
with_record th r = record th { «record» = with_value th.record r }

abbrev pub with_walk : Thread → Walk → Thread
with_walk th w = record th { walk = w }

-- 1. A lend: the owner is lent to, and the walk goes on

module _ {m : Machine} {c : Config} {s : State} {t l o h : ℕ} (shown : Represents c m s) (lawful : Lawful c s)
    (g : MayLend c s t l o h) where
  abbrev n : State
  n = after_lend c s t l o h

  -- the loan, and the owner's effective priority with it
  abbrev new_loan : Option Loan
  new_loan = loan_of h (least_of (s.lists (lock_queue l)))

  abbrev new_effective : ℕ
  new_effective = effective_of c (put (s.loan o) l new_loan) (s.base o)

  -- the state with the loan alone
  abbrev lent : State
  lent = record n { walk = s.walk }

  pub is_owner : o < c.threads
  is_owner = owner_thread c s l o lawful g.owned

  not_lent : OthersStay s lent o
  unfolding after_lend
  not_lent u d = λ i. record (thread_in s u) {
    its_record = record (record_in s u) {
      loan = λ k. put_at_other s.loan o l new_loan u k (λ e. d (sym e)) i;
      effective = put_other s.effective o new_effective u (λ e. d (sym e)) i;
    };
  }

  not_walking : OthersStay lent n t
  unfolding after_lend
  not_walking u d = λ i. record (thread_in lent u) {
    walk = put_other s.walk t (walk_to o (not (new_effective == s.effective o) && names_turnstile c (s.blocked_on o))) u
        (λ e. d (sym e)) i;
  }

  module _ {th : Thread} {r : Record} (at : slice_get m.threads.items o ≡ Some th)
      (rec : RepresentsRecord r (record_in n o)) where
    first_changed : RepresentsThreads (slice_set m.threads.items o (with_record th r)) c lent
    unfolding after_lend
    first_changed =
        let old = shown.threads.thread o th at in
        thread_changed lent (with_record th r) shown.threads is_owner (record {
          columns = λ i. record (old.columns i) { its_record = rec.columns i };
          one_loan_each = rec.one_loan_each;
          held = old.held;
          marked = old.marked;
        }) not_lent

    -- the walking thread, which may be the owner, is read behind the first change
    pub read_behind : (i j : ℕ) (w : Thread) → j ≡ o → i ≡ t
        → w ≡ get_or (slice_set m.threads.items j (with_record th r)) i w
        → slice_get (slice_set m.threads.items o (with_record th r)) t ≡ Some w
    read_behind i j w a b seen =
        read first_changed g.thread b (seen ∙ ap (λ x. get_or (slice_set m.threads.items x (with_record th r)) i w) a)

    pub lend_shown : {w : Thread} {chain : List (QueueName × Turnstile)} (walk : Walk)
        → slice_get (slice_set m.threads.items o (with_record th r)) t ≡ Some w
        → RepresentsQueues c chain (queue_in n) n.loan_home → walk_of walk ≡ n.walk t
        → Represents c (record m {
          chain = chain;
          threads = with_item (with_item m.threads o (with_record th r)) t (with_walk w walk);
        }) n
    unfolding after_lend
    lend_shown {w = w} walk behind queues goes =
        let old = first_changed.thread t w behind in
        shown_by n shown refl refl shown.words queues shown.sleepers
        (thread_changed n (with_walk w walk) first_changed g.thread (record {
          columns = λ i. record (old.columns i) { walk = goes i };
          one_loan_each = old.one_loan_each;
          held = old.held;
          marked = old.marked;
        }) not_walking)

-- what no column tells stays
pub asides_stay : (m : Machine) (t o : ℕ) (th w : Thread) (r : Record) (walk : Walk)
    (chain : List (QueueName × Turnstile)) → slice_get m.threads.items o ≡ Some th
    → slice_get (slice_set m.threads.items o (with_record th r)) t ≡ Some w
    → KeepsProgress m
    (record m { chain = chain; threads = with_item (with_item m.threads o (with_record th r)) t (with_walk w walk) })
asides_stay m t o th w r walk chain at behind u =
    aside_stays _ _ _ behind refl u ∙ aside_stays _ _ _ at refl u

-- 2. A shift

module _ {m : Machine} {c : Config} {s : State} {t o l : ℕ} (shown : Represents c m s) (lawful : Lawful c s)
    (g : MayShift c s t o l) where
  pub is_waiter : o < c.threads
  is_waiter = standing_thread c s o (lock_queue l) lawful g.stands

  others : OthersStay s (after_shift s t o l) t
  unfolding after_shift
  others u d = λ i.
      record (thread_in s u) { walk = put_other s.walk t (walk_up l (s.owner (lock_queue l))) u (λ e. d (sym e)) i }

  pub shift_shown : {w : Thread} {chain : List (QueueName × Turnstile)} (walk : Walk)
      → slice_get m.threads.items t ≡ Some w
      → RepresentsQueues c chain (queue_in (after_shift s t o l)) (after_shift s t o l).loan_home
      → walk_of walk ≡ (after_shift s t o l).walk t
      → Represents c (record m { chain = chain; threads = with_item m.threads t (with_walk w walk) })
      (after_shift s t o l)
  unfolding after_shift
  shift_shown {w = w} walk at queues goes =
      let old = shown.threads.thread t w at in
      shown_by (after_shift s t o l) shown refl refl shown.words queues
      (sleepers_stay c s (after_shift s t o l) (lock_queue l) _ (shift_changes s t l o) g.turnstile shown.sleepers)
      (thread_changed (after_shift s t o l) (with_walk w walk) shown.threads g.thread (record {
        columns = λ i. record (old.columns i) { walk = goes i };
        one_loan_each = old.one_loan_each;
        held = old.held;
        marked = old.marked;
      }) others)
