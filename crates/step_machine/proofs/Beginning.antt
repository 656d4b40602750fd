-- How the objects of a run begin: the threads are new, and the machine shows the run's start.
use Rattle.step_machine.proofs.Names
use Names.{ℕ, List, [], length, map, get_or, slice_get, replicate, Some, IsSome, unwrap_or, option_map, refl, sym, ap}
use Names.{subst, inl, inr, arith, IsTrue, Contains, IsSomeAnd, empty, cases_eq, get_or_push, get_or_append_left}
use Names.{length_push, get_or-replicate, length-replicate, All-nil, All-get_or, slice_get-get_or, slice_get-map}
use Names.{slice_get_within, slice_get_cases, same_Some, tables_of, plan_names, IsProper, operations_in_all, hold_in}
use Names.{config_of, declared_base, lock_class, start_run, Config, start_state, word_of, free_word, ChanNo, LockDecl}
use Names.{Plan, QueueName, ThreadDecl, Graph, loans_for, Record, made, AreNew, IsNew, IsAsFar, RepresentsRun, holds_of}
use Names.{places_of, AreOfKind, Marked, Waiters, Sleepers, AbortedSleepers, columns_of, mark_of, walk_of, wait_of}
use Names.{Represents, RepresentsWords, RepresentsThread, RepresentsThreads, progress, Machine, Thread}
use Rattle.std.proofs.Common.{◌≡◌, ◌*◌, ◌<◌, ◌∷◌, ◌++◌, ◌∙◌}
use Rattle.turnstile_core.specs.Seen.{Place}

-- 1. Threads

-- the item behind a list,
slice_get-pushed : {A : Type 0} (xs : List A) (x : A) → slice_get (xs ++ x ∷ []) (length xs) ≡ Some x
slice_get-pushed xs x = slice_get-get_or (xs ++ x ∷ []) (length xs) x (omega (arith, length_push xs x))
    ∙ ap Some (get_or_push xs x x (length xs) refl)

-- and those in front of it
slice_get-in_front : {A : Type 0} (xs : List A) (x : A) (i : ℕ) → i < length xs
    → slice_get (xs ++ x ∷ []) i ≡ slice_get xs i
slice_get-in_front xs x i l =
    slice_get-get_or (xs ++ x ∷ []) i x (omega (arith, length_push xs x))
    ∙ ap Some (get_or_append_left xs (x ∷ []) x i l) ∙ sym (slice_get-get_or xs i x l)

-- each thread is new
abbrev pub EachIsNew : List ThreadDecl → List Thread → Type 0
EachIsNew decls ths = (t : ℕ) (th : Thread) (d : ThreadDecl) → slice_get ths t ≡ Some th → slice_get decls t ≡ Some d
    → IsNew t d.base.0 th

-- one thread more
pub new_pushed : (decls : List ThreadDecl) (ths : List Thread) (n : ℕ) (th : Thread) (d : ThreadDecl) → length ths ≡ n
    → slice_get decls n ≡ Some d → IsNew n d.base.0 th
    → EachIsNew decls ths → EachIsNew decls (ths ++ th ∷ [])
new_pushed decls ths n th d long at new each t u e is_u is_e =
    elim (cases_eq t n) [
      | inl i ↦
          let same_thread : th ≡ u = same_Some th u
          (sym (slice_get-pushed ths th) ∙ ap (slice_get (ths ++ th ∷ [])) (long ∙ sym i) ∙ is_u) in
          let same_decl : d ≡ e = same_Some d e (sym at ∙ ap (slice_get decls) (sym i) ∙ is_e) in
          rw (i, ← same_thread, ← same_decl) new
      | inr ne ↦ each t u e (sym
          (slice_get-in_front ths th t (omega (arith, length_push ths th, slice_get_within (ths ++ th ∷ []) t u is_u)))
          ∙ is_u) is_e
    ]

-- 2. The machine

-- whom nobody took off is of any kind
no_kind : (c : Config) (q : QueueName) (marked : Marked) → places_of marked ≡ [] → AreOfKind c marked q
no_kind c q e none = grind arith

-- what a new thread shows
shown : (plan : Plan) (t : ℕ) (th : Thread) (d : ThreadDecl) → slice_get plan.threads t ≡ Some d → IsNew t d.base.0 th
    → RepresentsThread th (config_of plan) (start_state (config_of plan)) t
unfolding start_state
shown plan t th d at new =
    let base : d.base.0 ≡ declared_base plan t = sym (ap (λ o. unwrap_or o 0) (slice_get-map
    (λ (e : ThreadDecl). e.base.0) plan.threads t ∙ ap (option_map (λ (e : ThreadDecl). e.base.0)) at)) in
    record {
      columns = λ i. record {
        its_record = (ap columns_of new.its_record
            ∙ (λ j. record (columns_of (made t d.base.0)) { base = base j; effective = base j })) i;
        wait = wait_of (new.running i);
        walk = walk_of (new.no_walk i);
        held = hold_in (new.holds_none i);
        marked = map (mark_of th.marked_from) (new.unmarked i);
        chan = option_map (λ (d : ChanNo). d.0) (new.awake i);
        wants = new.wants_none i;
        cut = new.uncut i;
      };
      one_loan_each = λ l. omega (arith, ap (λ (r : Record). loans_for l r.loans) new.its_record);
      held = record { once = λ l. omega (arith, ap (λ hs. holds_of l hs) new.holds_none); room = new.held_room };
      marked = record {
        filled = rw new.unmarked (All-nil (λ (p : Place). IsSome p.object));
        kind = no_kind (config_of plan) th.marked_from th.marked new.unmarked;
        by_signal = λ some. absurd (some new.unmarked);
      };
    }

-- the declaration of a thread
decl_of : (decls : List ThreadDecl) (ths : List Thread) (t : ℕ) → AreNew decls ths → t < length ths
    → (d : ThreadDecl) × (slice_get decls t ≡ Some d)
decl_of decls ths t new l =
    elim ((slice_get_cases decls t).1) [
      | inl h ↦ (h.0, h.2)
      | inr h ↦ absurd (omega (arith, h.0, l, new.number))
    ]

-- the objects at the begin
pub record IsBegun (plan : Plan) (m : Machine) : Type 0 where
  pub free : m.words.items ≡ replicate (length plan.locks) 0
  pub no_queue : m.chain ≡ []
  pub no_sleepers : m.sleepers ≡ []
  pub new : AreNew plan.threads m.threads.items
  pub no_entry : m.log.entries ≡ []
  pub room : m.log.spare ≡ 2 * operations_in_all plan
  pub no_key : m.tables.present ≡ empty
  pub keys : (l key : ℕ) → IsTrue (plan_names plan l key) → Contains m.tables.places (l, key)
  pub no_order : m.orders ≡ record { classes = length plan.classes; edges = [] }

module _ (plan : Plan) (m : Machine) (p : IsProper plan) (b : IsBegun plan m) where
  abbrev c : Config
  c = config_of plan

  words : RepresentsWords m.words.items c (λ l. free_word)
  words = record {
    locks = ap (λ (ws : List ℕ). length ws) b.free ∙ length-replicate (length plan.locks) 0;
    word = λ l i. ap (λ (ws : List ℕ). word_of (get_or ws l 0)) b.free
        ∙ ap word_of (get_or-replicate (length plan.locks) l 0 0 i);
  }

  threads : RepresentsThreads m.threads.items c (start_state c)
  threads = record {
    threads = b.new.number;
    thread = λ t th e.
        let d = decl_of plan.threads m.threads.items t b.new (slice_get_within m.threads.items t th e) in
        shown plan t th d.0 d.1 (b.new.each t th d.0 e d.1);
  }

  -- the class of each lock is one of the plan's
  its_class : (l : ℕ) → l < length plan.locks → lock_class plan l < length plan.classes
  its_class l i =
      elim ((slice_get_cases plan.locks l).1) [
        | inl h ↦
            let is : lock_class plan l ≡ h.0.class.0 = ap (λ o. unwrap_or o 0) (slice_get-map
            (λ (d : LockDecl). d.class.0) plan.locks l ∙ ap (option_map (λ (d : LockDecl). d.class.0)) h.2) in
            rw is (subst (λ (d : LockDecl). d.class.0 < length plan.classes) h.3
            (All-get_or (λ (d : LockDecl). d.class.0 < length plan.classes) plan.locks l h.0 h.1 p.lock_classes))
        | inr h ↦ absurd (omega (arith, h.0, i))
      ]

  shows : Represents c m (start_state c)
  unfolding start_state tables_of
  shows = record {
    within = record { few_locks = p.locks; few_threads = p.threads; few_channels = p.chans };
    words = words;
    queues = record { lock = λ l k. rw b.no_queue refl };
    sleepers = record { queue = λ q k. rw b.no_sleepers refl };
    threads = threads;
    history = b.no_entry;
    tables = b.no_key;
    orders = record {
      classes = λ l i. subst (λ (g : Graph). lock_class plan l < g.classes) (sym b.no_order) (its_class l i);
      edges = λ x y. rw b.no_order refl;
    };
  }

  its_aside : (t : ℕ) → t < length plan.threads → IsSomeAnd (progress m t) (IsAsFar plan (start_run c) t)
  unfolding start_state
  its_aside t l =
      elim ((slice_get_cases m.threads.items t).1) [
        | inl h ↦
            let d = decl_of plan.threads m.threads.items t b.new h.1 in
            let new = b.new.each t h.0 d.0 h.2 d.1 in
            rw h.2 (record { next_op = new.at_begin; held = new.holds_none; left = λ k waits free. absurd cc })
        | inr h ↦ absurd (omega (arith, h.0, l, b.new.number))
      ]

  pub begun : RepresentsRun plan m (start_run c)
  unfolding start_state
  begun = record {
    shows = shows;
    progress = its_aside;
    room = rw (b.no_entry, b.room) (omega arith);
    keys = b.keys;
  }
