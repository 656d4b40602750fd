-- How the parts of a machine show a state's columns when one thread or one word changes.
use Rattle.step_machine.proofs.Names
use Names.{ℕ, Bool, List, length, reverse, slice_set, slice_index_or, get_or, slice_get, Some, option_map, refl, sym}
use Names.{ap, subst, inl, inr, arith, cases_eq, cases_lt, eq-eqb, ne_eqb, get_or-set_same, get_or-set_other}
use Names.{length-set, get_or_read, slice_get-get_or, slice_get_within, slice_get_past, slice_get_read, same_Some, Vec}
use Names.{Word, word_of, IsPossible, tables_of, QueueName, Config, State, put, after_look, Lawful, put_same, put_other}
use Names.{possible_holder, RepresentsRecord, RepresentsQueues, RepresentsSleepers, queue_in, sleepers_in, record_in}
use Names.{Turnstile, SleepQueue, Thread, Progress, progress_of, Machine, RepresentsGraph, Represents, RepresentsWords}
use Names.{RepresentsThread, RepresentsThreads, thread_in}
use Rattle.std.proofs.Common.{◌≡◌, ◌≢◌, ◌<◌, ◌==◌, if◌then◌else◌, ◌∙◌}

-- 1. Lists

-- the item that was put
pub set_same : {A : Type 0} (xs : List A) (i : ℕ) (x : A) → i < length xs → slice_get (slice_set xs i x) i ≡ Some x
set_same xs i x l = slice_get-get_or (slice_set xs i x) i x (rw (length-set xs i x) l)
    ∙ ap Some (get_or-set_same xs i x x l)

-- and the others
pub set_other : {A : Type 0} (xs : List A) (i j : ℕ) (x : A) → j ≢ i → slice_get (slice_set xs i x) j ≡ slice_get xs j
set_other xs i j x n =
    elim (cases_lt j (length xs)) [
      | inl l ↦ slice_get-get_or (slice_set xs i x) j x (rw (length-set xs i x) l)
          ∙ ap Some (get_or-set_other xs i j x x n) ∙ sym (slice_get-get_or xs j x l)
      | inr l ↦ slice_get_past (slice_set xs i x) j (rw (length-set xs i x) l) ∙ sym (slice_get_past xs j l)
    ]

-- 2. Threads

-- of all threads but one the columns stay
abbrev pub OthersStay : State → State → ℕ → Type 0
OthersStay s n t = (u : ℕ) → u ≢ t → thread_in n u ≡ thread_in s u

pub stays : {th : Thread} {c : Config} {s n : State} {u : ℕ} → thread_in n u ≡ thread_in s u → RepresentsThread th c s u
    → RepresentsThread th c n u
stays e h = assumption (h.columns ∙ sym e, h)

-- one thread changes
pub thread_changed : {ths : List Thread} {c : Config} {s : State} {t : ℕ} (n : State) (th : Thread)
    → RepresentsThreads ths c s → t < c.threads → RepresentsThread th c n t → OthersStay s n t
    → RepresentsThreads (slice_set ths t th) c n
thread_changed {ths = ths} {c = c} {s = s} {t = t} n th h l new same = record {
  threads = length-set ths t th ∙ h.threads;
  thread = λ u old e. elim (cases_eq u t) [
    | inl i ↦ subst (λ (v : ℕ). RepresentsThread old c n v) (sym i) (subst (λ (o : Thread). RepresentsThread o c n t)
        (same_Some th old (sym (set_same ths t th (rw h.threads l)) ∙ ap (slice_get (slice_set ths t th)) (sym i) ∙ e))
        new)
    | inr i ↦ stays (same u i) (h.thread u old (sym (set_other ths t u th i) ∙ e))
  ];
}

-- no column of a thread changes
pub threads_stay : {ths : List Thread} {c : Config} {s : State} (n : State) → RepresentsThreads ths c s
    → ((u : ℕ) → thread_in n u ≡ thread_in s u) → RepresentsThreads ths c n
threads_stay n h same = record { threads = h.threads; thread = λ u th e. stays (same u) (h.thread u th e) }

-- the record of a thread
pub record_of : {th : Thread} {c : Config} {s : State} {t : ℕ} → RepresentsThread th c s t
    → RepresentsRecord th.record.value (record_in s t)
record_of h = record { columns = ap (λ x. x.its_record) h.columns; one_loan_each = h.one_loan_each }

-- 3. Words

-- one word changes
pub word_changed : (ws : List ℕ) (c : Config) (column : ℕ → Word) (l w : ℕ) (v : Word) → RepresentsWords ws c column
    → l < c.locks → word_of w ≡ v → RepresentsWords (slice_set ws l w) c (put column l v)
word_changed ws c column l w v h i e = record {
  locks = length-set ws l w ∙ h.locks;
  word = λ k j. elim (cases_eq k l) [
    | inl a ↦ rw a (ap word_of (get_or-set_same ws l w 0 (rw h.locks i)) ∙ e ∙ sym (put_same column l v))
    | inr a ↦ ap word_of (get_or-set_other ws l k w 0 a) ∙ h.word k j ∙ sym (put_other column l v k (λ b. a (sym b)))
  ];
}

-- the word that was read at the place of a number
pub word_read : {ws : List ℕ} {c : Config} {column : ℕ → Word} {l i w : ℕ} → i ≡ l → RepresentsWords ws c column
    → l < c.locks → w ≡ get_or ws i w → word_of w ≡ column l
word_read {ws = ws} {l = l} {w = w} e h k is = ap word_of
    (get_or_read ws l w (subst (λ n. l < n) (sym h.locks) k) (is ∙ ap (λ (j : ℕ). get_or ws j w) e) 0) ∙ h.word l k

-- it can be
pub possible_read : {m : Machine} {c : Config} {s : State} {l i w : ℕ} → Represents c m s → Lawful c s → l < c.locks
    → i ≡ l → w ≡ get_or m.words.items i w → IsPossible (word_of w).holder
possible_read {c = c} {s = s} {l = l} h lawful lt e is =
    subst (λ v. IsPossible v.holder) (sym (word_read e h.words lt is))
    (possible_holder c s l lawful (omega (arith, h.within.few_threads)))

-- 4. What no column tells

-- one thread changes
pub aside_changed : (ths : List Thread) (t : ℕ) (th : Thread) {old : Thread} (f : Progress → Progress)
    → slice_get ths t ≡ Some old → progress_of th ≡ f (progress_of old)
    → (u : ℕ) → option_map progress_of (slice_get (slice_set ths t th) u) ≡ (if u
    == t then option_map f (option_map progress_of (slice_get ths u)) else option_map progress_of (slice_get ths u))
aside_changed ths t th {old} f e same u =
    elim (cases_eq u t) [
      | inl i ↦ rw (i, eq-eqb t t refl, set_same ths t th (slice_get_within ths t old e), e) (ap Some same)
      | inr i ↦ rw (ne_eqb u t i, set_other ths t u th i) refl
    ]

-- and what is aside of it stays
pub aside_stays : (ths : List Thread) (t : ℕ) (th : Thread) {old : Thread} → slice_get ths t ≡ Some old
    → progress_of th ≡ progress_of old
    → (u : ℕ) → option_map progress_of (slice_get (slice_set ths t th) u) ≡ option_map progress_of (slice_get ths u)
aside_stays ths t th {old} e same u =
    elim (cases_eq u t) [
      | inl i ↦ rw (i, set_same ths t th (slice_get_within ths t old e), e) (ap Some same)
      | inr i ↦ rw (set_other ths t u th i) refl
    ]

-- the thread of a number
pub thread_at : (ths : List Thread) (t : ℕ) (d : Thread) → t < length ths
    → slice_get ths t ≡ Some (slice_index_or ths t d)
thread_at ths t d l = slice_get-get_or ths t d l

-- the thread that was read at the place of a number
pub read : {ths : List Thread} {c : Config} {s : State} {t i : ℕ} {th : Thread} → RepresentsThreads ths c s
    → t < c.threads → i ≡ t → th ≡ get_or ths i th → slice_get ths t ≡ Some th
read {ths = ths} {c = c} {t = t} {th = th} h l e is =
    slice_get_read ths c.threads t th (sym h.threads) l (is ∙ ap (λ (j : ℕ). get_or ths j th) e)

-- 5. Steps that make no entry

pub shown_by : {m : Machine} {c : Config} {s : State} {words : Vec ℕ} {chain : List (QueueName × Turnstile)}
    {sleepers : List (QueueName × SleepQueue)} {threads : Vec Thread} (n : State) → Represents c m s
    → n.history ≡ s.history → n.edges ≡ s.edges
    → RepresentsWords words.items c n.word → RepresentsQueues c chain (queue_in n) n.loan_home
    → RepresentsSleepers c sleepers (sleepers_in n) → RepresentsThreads threads.items c n
    → Represents c (record m { words = words; chain = chain; sleepers = sleepers; threads = threads }) n
shown_by {m = m} {c = c} n h same edges words_seen queues_seen sleepers_seen threads_seen = record {
  within = h.within;
  words = words_seen;
  queues = queues_seen;
  sleepers = sleepers_seen;
  threads = threads_seen;
  history = h.history ∙ ap (λ es. reverse es) (sym same);
  tables = h.tables ∙ ap tables_of (sym same);
  orders = subst (RepresentsGraph c m.orders) (sym edges) h.orders;
}

-- no object tells of a look
pub looked : {m : Machine} {c : Config} {s : State} (t l : ℕ) (counts : Bool) → Represents c m s
    → Represents c m (after_look s t l counts)
unfolding after_look
looked {s = s} t l counts h =
    shown_by (after_look s t l counts) h refl refl h.words h.queues h.sleepers
    (threads_stay (after_look s t l counts) h.threads (λ u. refl))
