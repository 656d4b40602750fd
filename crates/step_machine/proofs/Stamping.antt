-- An entry of the history is made, with what it says of a table, of a thread's base priority, of its wait, or of its
-- being cut.
use Rattle.step_machine.proofs.Names
use Names.{ℕ, Bool, List, [], length, reverse, slice_get, slice_set, Option, Some, None, option_map, refl, sym, ap}
use Names.{subst, reverse-append, length-reverse, with_value, Lawful, NextIsNew, edited, tables_of, MayStamp}
use Names.{after_stamp, effective_of, entry_of, Config, State, of_sleep, fell_asleep, new_base, is_reversal}
use Names.{has_reversal, waits_on, was_cut, ChanNo, Prio, ThreadNo, Entry, Event, Base, put_same, put_other, loans_for}
use Names.{Record, with_base, with_given_base, RepresentsQueues, RepresentsSleepers, RepresentsRecord, queue_in}
use Names.{sleepers_in, record_in, columns_of, with_other_base, none_beyond, Machine, Thread, IsNoted, RepresentsGraph}
use Names.{Represents, RepresentsWords, RepresentsThread, RepresentsThreads, thread_in, thread_of, progress_of, arith}
use Rattle.std.proofs.Common.{◌≡◌, ◌<◌, ◌≤◌, ◌||◌, ◌∷◌, ◌++◌, ◌∙◌}
use Rattle.step_machine.proofs.Kit.{OthersStay, thread_changed, record_of, aside_stays}

-- 1. The thread

-- the thread with another record in its box, with another channel on which it waits, and cut or not
abbrev pub noted : Thread → Option ChanNo → Bool → Record → Thread
noted th waits_on cut r = record th { «record» = with_value th.record r; waits_on = waits_on; cut = cut }

pub is_noted : (e : Event) (t i : ℕ) (ths : List Thread) (th : Thread) (w : Option ChanNo) (b : Bool) (r : Record)
    → i ≡ t → slice_get ths t ≡ Some th → option_map (λ d. d.0) w ≡ fell_asleep (of_sleep e)
    → b ≡ (is_reversal e || th.cut) → r ≡ with_given_base (new_base e) th.record.value
    → IsNoted e t ths (slice_set ths i (noted th w b r))
is_noted e t i ths th w b r at was waits cut new = record {
  before = th;
  behind = noted th w b r;
  was = was;
  is = ap (λ (j : ℕ). slice_set ths j (noted th w b r)) at;
  its_record = new;
  waits_on = waits;
  its_cut = cut;
  others = refl;
}

-- an event that gives a base sets that of the record, and any other event leaves the record as it is
pub base_set : (e : Event) (o : Option Prio) (p : Prio) (r : Record) → option_map (λ q. q.0) o ≡ new_base e → o ≡ Some p
    → with_base p.0 r ≡ with_given_base (new_base e) r
base_set e o p r given is = ap (λ b. with_given_base b r) (sym (ap (option_map (λ q. q.0)) is) ∙ given)

pub no_base_set : (e : Event) (o : Option Prio) (r : Record) → option_map (λ q. q.0) o ≡ new_base e
    → ((p : Prio) → o ≡ Some p → ⊥) → r ≡ with_given_base (new_base e) r
no_base_set e f r given none = grind arith

module _ (c : Config) (s : State) (t : ℕ) where
  others : (e : Event) → OthersStay s (after_stamp c s t e) t
  unfolding after_stamp
  others (Base p) u ne = λ i. record (thread_in s u) {
    its_record = record (record_in s u) {
      base = put_other s.base t p.0 u (λ e. ne (sym e)) i;
      effective = put_other s.effective t (effective_of c (s.loan t) p.0) u (λ e. ne (sym e)) i;
    };
    chan = waits_on (put_other s.log t (entry_of s t (Base p) ∷ s.log t) u (λ e. ne (sym e)) i);
    cut = has_reversal (put_other s.log t (entry_of s t (Base p) ∷ s.log t) u (λ e. ne (sym e)) i);
  }
  others e u ne = λ i. record (thread_in s u) {
    chan = waits_on (put_other s.log t (entry_of s t e ∷ s.log t) u (λ e. ne (sym e)) i);
    cut = has_reversal (put_other s.log t (entry_of s t e ∷ s.log t) u (λ e. ne (sym e)) i);
  }

  -- the record behind an event shows the columns behind it
  record_noted : (e : Event) (b r : Record) → Lawful c s → RepresentsRecord b (record_in s t)
      → r ≡ with_given_base (new_base e) b → RepresentsRecord r (record_in (after_stamp c s t e) t)
  unfolding after_stamp
  record_noted (Base p) b r lawful old is =
      let rec = with_other_base c p.0 (none_beyond c s t lawful) old in
      record {
        columns = ap columns_of is ∙ rec.columns ∙ sym (λ j. record (record_in s t) {
          base = put_same s.base t p.0 j;
          effective = put_same s.effective t (effective_of c (s.loan t) p.0) j;
        });
        one_loan_each = λ l. subst (λ (v : Record). loans_for l v.loans ≤ 1) (sym is) (old.one_loan_each l);
      }
  record_noted e b r lawful old is = subst (λ (v : Record). RepresentsRecord v (record_in s t)) (sym is) old

  -- of the other columns only those of the channel and of its being cut change
  columns_noted : (e : Event) → thread_in (after_stamp c s t e) t ≡ record (thread_in s t) {
    its_record = record_in (after_stamp c s t e) t;
    chan = fell_asleep (of_sleep e);
    cut = is_reversal e || was_cut s t;
  }
  unfolding after_stamp
  columns_noted e = λ i. record (thread_in s t) {
    its_record = record_in (after_stamp c s t e) t;
    chan = waits_on (put_same s.log t (entry_of s t e ∷ s.log t) i);
    cut = has_reversal (put_same s.log t (entry_of s t e ∷ s.log t) i);
  }

  thread_noted : (e : Event) (old new : List Thread) (h : IsNoted e t old new) → Lawful c s
      → RepresentsThread h.before c s t → RepresentsThread h.behind c (after_stamp c s t e) t
  thread_noted e old new h lawful shows =
      let rec = record_noted e h.before.record.value h.behind.record.value lawful (record_of shows) h.its_record in
      record {
        columns = (λ i. record ((ap thread_of h.others ∙ (λ j. record (shows.columns j) {
          its_record = columns_of h.behind.record.value;
          chan = option_map (λ (d : ChanNo). d.0) h.behind.waits_on;
          cut = h.behind.cut;
        })) i) {
          its_record = rec.columns i;
          chan = h.waits_on i;
          cut = (h.its_cut ∙ ap (λ b. is_reversal e || b) (ap (λ x. x.cut) shows.columns)) i;
        }) ∙ sym (columns_noted e);
        one_loan_each = rec.one_loan_each;
        held = rw h.others shows.held;
        marked = rw h.others shows.marked;
      }

  noted_all : (e : Event) (old new : List Thread) → IsNoted e t old new → t < c.threads → Lawful c s
      → RepresentsThreads old c s → RepresentsThreads new c (after_stamp c s t e)
  noted_all e old new h lt lawful shows =
      subst (λ (ths : List Thread). RepresentsThreads ths c (after_stamp c s t e)) (sym h.is)
      (thread_changed (after_stamp c s t e) h.behind shows lt
      (thread_noted e old new h lawful (shows.thread t h.before h.was)) (others e))

-- what no column tells of a thread stays
pub asides_kept : (e : Event) (t : ℕ) (old new : List Thread) → IsNoted e t old new → (u : ℕ)
    → option_map progress_of (slice_get new u) ≡ option_map progress_of (slice_get old u)
asides_kept e t old new h u = ap (λ (ths : List Thread). option_map progress_of (slice_get ths u)) h.is
    ∙ aside_stays _ _ _ h.was (ap progress_of h.others) u

-- 2. The history

history_seen : (log : List Entry) (s : State) (t : ThreadNo) (e : Event) (ticket : ℕ) → log ≡ reverse s.history
    → ticket ≡ length log → NextIsNew s.next s.history
    → log ++ (record { ticket = ticket; thread = t; event = e }) ∷ [] ≡ reverse (entry_of s t.0 e ∷ s.history)
unfolding NextIsNew
history_seen log s t e ticket shows is new =
    let next : ticket ≡ s.next = is ∙ ap length shows ∙ length-reverse s.history ∙ sym new in
    ap (λ (k : ℕ). log ++ (record { ticket = k; thread = t; event = e }) ∷ []) next
    ∙ ap (λ es. es ++ entry_of s t.0 e ∷ []) shows ∙ sym (reverse-append (entry_of s t.0 e ∷ []) s.history)

pub stamped : (m n : Machine) (c : Config) (s : State) (t : ThreadNo) (e : Event) (ticket : ℕ)
    → n ≡ record m { threads = n.threads; log = n.log; tables = n.tables }
    → IsNoted e t.0 m.threads.items n.threads.items → n.tables.present ≡ edited e m.tables.present
    → n.log.entries ≡ m.log.entries ++ (record { ticket = ticket; thread = t; event = e }) ∷ []
    → ticket ≡ length m.log.entries
    → Represents c m s → Lawful c s → MayStamp c s t.0 e → Represents c n (after_stamp c s t.0 e)
unfolding after_stamp tables_of
stamped m n c s t e ticket same threads tables log is h lawful g = record {
  within = h.within;
  words = subst (λ (k : Machine). RepresentsWords k.words.items c s.word) (sym same) h.words;
  sleepers = subst (λ (k : Machine). RepresentsSleepers c k.sleepers (sleepers_in s)) (sym same) h.sleepers;
  queues = subst (λ (k : Machine). RepresentsQueues c k.chain (queue_in s) s.loan_home) (sym same) h.queues;
  threads = noted_all c s t.0 e m.threads.items n.threads.items threads g.thread lawful h.threads;
  history = log ∙ history_seen m.log.entries s t e ticket h.history is lawful.books.next_is_new;
  tables = tables ∙ ap (edited e) h.tables;
  orders = subst (λ (k : Machine). RepresentsGraph c k.orders s.edges) (sym same) h.orders;
}
