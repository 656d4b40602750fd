-- What is left of a floor that is closed.
use Rattle.lock_floor.proofs.Names
use Names.{ℕ, Bool, true, false, cond, List, [], length, map, reverse, get_or, None, refl, sym, ap, subst, arith, get}
use Names.{same_map, All, list_any, Global, Box, Final, Seen, place_total, place_exact, legal_so_far, may_halt}
use Names.{by_chain, one, value_at, tables_of, RecordColumns, RepresentsRecord, record_in, TablesReplay, NextIsNew}
use Names.{UnhaltedBefore, State, ThreadRec, config_in, Description, Slot, Recorded, Cell, Turnstiles, SleepQueues}
use Names.{Graph, is_cell, word_at, halt_line, FloorHolds, Knowledge, IsClosing, Closing}
use Rattle.std.proofs.Common.{◌≡◌, ◌+◌, ◌<◌, ◌∙◌}
use Rattle.std.specs.Prelude.{◌↔◌}
use mathlib.Core.Option.{some, some-injective}
use lib.ListN.{get_elem?}
use Rattle.busy_laws.proofs.Keeping as busy
use Rattle.count_laws.proofs.Explaining as halts
use Rattle.order_laws.proofs.TakeFacts.Whole as whole
use Rattle.lock_objects.specs.Represents.{columns_of}
use Rattle.lock_floor.proofs.CellPlaces.{no_cell}
use Rattle.lock_floor.proofs.Closed as closed

recorded : Slot → Box ThreadRec Global → Box ThreadRec Global
recorded (Recorded b) d = b
recorded (Cell value) d = d
recorded (Turnstiles chain) d = d
recorded (SleepQueues chain) d = d
recorded (Graph b) d = d

same_record : (b c : Box ThreadRec Global) → some (Recorded b) ≡ some (Recorded c) → b ≡ c
unfolding recorded
same_record b c e = ap (λ x. recorded x b) (some-injective (Recorded b) (Recorded c) e)

-- two that are true where the other is are the same
same_truth : (b c : Bool) → (b ≡ true → c ≡ true) → (c ≡ true → b ≡ true) → b ≡ c
same_truth true c to from = sym (to refl)
same_truth false true to from = from refl
same_truth false false to from = refl

one_is : (b : Bool) → one b ≡ 1 → b ≡ true
one_is true e = refl
one_is false e = absurd cc

-- the last table, of which the keeper's seat, the first, tells
pub last : (floor : Description) (v : Knowledge) (i : ℕ) (ws : List ℕ) (xs : List Slot) → i ≡ 0
    → Final (Seen (FloorHolds floor) i v) ws xs → Final (Seen (FloorHolds floor) 0 v) ws xs
last floor v i ws xs first final = subst (λ k. Final (Seen (FloorHolds floor) k v) ws xs) first final

module _ (floor : Description) (v : Knowledge) (ws : List ℕ) (xs : List Slot)
    (final : Final (Seen (FloorHolds floor) 0 v) ws xs) (all : length v.gathered ≡ length floor.threads) where
  abbrev s : State
  s = closed.left floor v ws xs final all

  -- the cells are in their places, however these are written
  pub cells_out : (threads : ℕ) (keys : List (ℕ × ℕ)) (ys : List Slot) → threads ≡ length floor.threads
      → keys ≡ floor.keys → ys ≡ xs
      → (i : ℕ) (d : ℕ × ℕ) → i < length keys
      → get_elem? ys (threads + i) ≡ some (Cell (s.table (get_or keys i d).0 (get_or keys i d).1))
  cells_out threads keys ys same_threads same_keys same_items =
      subst (λ (z : ℕ × List (ℕ × ℕ) × List Slot). (i : ℕ) (d : ℕ × ℕ) → i < length z.1
      → get_elem? z.2 (z.0 + i) ≡ some (Cell (s.table (get_or z.1 i d).0 (get_or z.1 i d).1)))
      (λ j. (sym same_threads j, sym same_keys j, sym same_items j)) (closed.cell_home floor v ws xs final all)

  -- what the records, the locks' tables and the logs have then
  pub record HasAll (x : Closing) : Type 0 where
    pub logs : map (λ b. b.entries) x.logs.items ≡ map (λ g. reverse g.1.log) v.gathered
    pub count : length x.recs.items ≡ length floor.threads
    pub records : (t : ℕ) (d : Box ThreadRec Global) → t < length floor.threads
        → get_elem? xs t ≡ some (Recorded (get_or x.recs.items t d))
    pub values : (l key : ℕ)
        → get x.tables.present (l, key) ≡ cond (list_any (is_cell l key) floor.keys) (s.table l key) None
    pub none_taken : All (λ g. g.1.doing.taking ≡ None) v.gathered
    pub none_held : All (λ g. g.1.held ≡ []) v.gathered
    pub halted : (x.halted ≡ true) ↔ (word_at ws halt_line ≡ 1)

  module _ (x : Closing) (h : HasAll x) where
    its_record : (t : ℕ) (d : Box ThreadRec Global) → t < length floor.threads
        → RepresentsRecord (get_or x.recs.items t d).value (record_in s t)
    its_record t d low =
        let p = closed.record_home floor v ws xs final all t low in
        let same : p.0 ≡ get_or x.recs.items t d =
        same_record p.0 (get_or x.recs.items t d) (sym p.1 ∙ h.records t d low) in
        subst (λ (b : Box ThreadRec Global). RepresentsRecord b.value (record_in s t)) same p.2

    value : (l key : ℕ) (b : Bool) → list_any (is_cell l key) floor.keys ≡ b
        → cond b (s.table l key) None ≡ s.table l key
    value l key true e = refl
    value l key false e =
        sym ((closed.represents floor v ws xs final all).objects.unnamed l key (no_cell floor l key e))

    replayed : (q : ℕ × ℕ) → get x.tables.present q ≡ get (tables_of s.history) q
    unfolding TablesReplay value_at
    replayed q = h.values q.0 q.1 ∙ value q.0 q.1 (list_any (is_cell q.0 q.1) floor.keys) refl
        ∙ (closed.sound floor v ws xs final all).facts.lawful.books.tables_replay_logs q.0 q.1

    few_entries : length s.history < 4294967296
    unfolding NextIsNew
    few_entries = omega (
      arith,
      (closed.sound floor v ws xs final all).facts.lawful.books.next_is_new,
      (closed.represents floor v ws xs final all).room,
    )

    part_differs : {A : Type 0} (part : RecordColumns → A)
        → ((t u : ℕ) → t < length floor.threads → u < length floor.threads → part (record_in s t) ≡ part (record_in s u)
        → t ≡ u)
        → (t u : ℕ) (d : Box ThreadRec Global) → t < length x.recs.items → u < length x.recs.items
        → part (columns_of (get_or x.recs.items t d).value) ≡ part (columns_of (get_or x.recs.items u d).value)
        → t ≡ u
    part_differs part apart t u d i j e =
        let i' : t < length floor.threads = omega (arith, i, h.count) in
        let j' : u < length floor.threads = omega (arith, j, h.count) in
        apart t u i' j' (ap part (sym (its_record t d i').columns) ∙ e ∙ ap part (its_record u d j').columns)

    -- the halt word is 1 exactly where the last state is halted
    its_halt : x.halted ≡ s.halted
    its_halt = same_truth x.halted s.halted
        (λ e. one_is s.halted (sym (closed.halt_word floor v ws xs final all) ∙ h.halted.0 e))
        (λ e. h.halted.1 (closed.halt_word floor v ws xs final all ∙ ap one e))

    pub is_closing : (left : IsClosing floor (map (λ g. g.0) v.gathered) x) × (left.past ≡ v.seen)
    unfolding UnhaltedBefore
    is_closing =
        let sound = closed.sound floor v ws xs final all in
        let running = closed.running floor v ws xs final all in
        let left : IsClosing floor (map (λ g. g.0) v.gathered) x = record {
          history = s.history;
          logs = record {
            parts = h.logs ∙ closed.parts floor v ws xs final all;
            once = closed.once floor v ws xs final all;
            no_other = closed.no_other floor v ws xs final all;
          };
          legal = legal_so_far (by_chain floor.chains s) (config_in floor) s true sound.facts.lawful sound.sleepers
              (may_halt s.history);
          orders_are_legal = whole.legal (config_in floor) s sound.ordered sound.taken
              (closed.takes_nothing floor v ws xs final all h.none_taken);
          halts_are_honest = halts.honest (config_in floor) s sound.facts.lawful sound.explained;
          busies_are_explained = busy.explained (config_in floor) s sound.busy_words
              (busy.unheld_begun (config_in floor) s sound.facts.lawful
              (λ t low. closed.holds_nothing floor v ws xs final all h.none_held t));
          few = few_entries;
          count = h.count;
          home = λ t d low. closed.home_of floor s sound running t (get_or x.recs.items t d).value (its_record t d low);
          turnstiles_differ = part_differs (λ r. r.turnstile) (closed.turnstiles_differ floor s sound running);
          sleep_queues_differ = part_differs (λ r. r.sleep_queue) (closed.sleep_queues_differ floor s sound running);
          tables = same_map place_total place_exact x.tables.present (tables_of s.history) replayed;
          past = closed.steps floor v ws xs final all;
          last = s;
          sound = sound;
          left = refl;
          halted = its_halt;
          unhalted = λ e. sound.explained.unhalted_before (sym its_halt ∙ e);
        } in
        (left, closed.all_seen floor v ws xs final all)
