-- The rule when a floor is made, and when a pass is.
use Rattle.lock_floor.proofs.Names
use Names.{ℕ, zero, suc, Option, Some, None, true, List, [], length, get_or, set, drop, map, replicate, refl, sym, ap}
use Names.{subst, inl, inr, arith, length-set, length-append, get_or-set_same, get_or-set_other, append-nil}
use Names.{length-replicate, length-map, get_or-replicate, get_or_append_left, get_or-append-add, All-nil, All-head}
use Names.{All-tail, cases_eq, cases_lt, sum_by-cons, All, IsDistinct, list_any, opening, Splits, word_of, most_classes}
use Names.{HaveSameEdges, RepresentsRecord, Turnstile, SleepQueue, RepresentsGraph, State, start_state, Step, Item}
use Names.{TurnstileChain, SleepChain, RecordOf, CellOf, ClassGraph, item_with, made, config_in, room_for, room_in_all}
use Names.{IsSized, Description, LockPart, ThreadPart, Slot, Recorded, Cell, Turnstiles, SleepQueues, Graph, maker}
use Names.{IsSeen, IsSeenBy, AreSeen, spot, lock_line, wait_line, latch_line, ticket_line, awake_line, ended_line}
use Names.{halt_line, words_for, slots_for, slot_of, taker, latch_word, word_at, home_at, Share, Shelves, OfThread}
use Names.{OfNobody, Knowledge, nothing, keeper, Board, words_in, RepresentsWords, RepresentsLatches, taken_from}
use Names.{HasNames, RepresentsTurnstiles, RepresentsSleepChain, RepresentsObjects, IsOf, objects_in, seat, keeper_in}
use Names.{thread_in, total, spare, live, IsSeatOf, IsTakenIn, IsPosed, RepresentsSeats, Represents, FloorHolds}
use Names.{record_place, its_part, place_low, inside, at_or, or_past, snoc_before, snoc_there, total_set, sound_begins}
use Names.{AreFirstWords, IsFirst, with_pass_made, new_pass}
use Rattle.std.proofs.Common.{◌≡◌, ◌≢◌, ◌+◌, ◌-◌, ◌<◌, ◌≤◌, ◌∷◌, ◌++◌, ◌∙◌, unwrap_or}
use Rattle.std.specs.Prelude.{◌==◌, slice_get}
use lib.ListN.{get_elem?}
use mathlib.Core.Option.{some, some-ne-none}
use Rattle.witness_orders.specs.Graph as orders
use Rattle.thread_records.specs.Records.{Record}

-- 1. A pass more

total_snoc : (f : Knowledge → ℕ) (vs : List Knowledge) (x : Knowledge) → total f (vs ++ x ∷ []) ≡ total f vs + f x
total_snoc f [] x = omega arith
total_snoc f (v ∷ vs) x = let p = total_snoc f vs x in omega arith

module _ (floor : Description) (b : Board) (s : State) (r : Represents floor b s) (v : Knowledge)
    (at : get_elem? b.views 0 ≡ some v) (few : v.made < length floor.threads) (mine : v.description ≡ floor) where
  abbrev vs : List Knowledge
  vs = b.views

  abbrev left : Knowledge
  left = with_pass_made v

  abbrev right : Knowledge
  right = new_pass v

  abbrev new : List Knowledge
  new = set vs 0 left ++ right ∷ []

  old_keeper : keeper_in vs ≡ v
  old_keeper = at_or vs 0 v nothing at

  size : length (set vs 0 left) ≡ suc v.made
  size = length-set vs 0 left ∙ r.seats.made ∙ ap (λ (k : Knowledge). suc k.made) old_keeper

  new_keeper : keeper_in new ≡ left
  new_keeper = snoc_before (set vs 0 left) right nothing 0 (omega (arith, size))
      ∙ get_or-set_same vs 0 left nothing (inside vs 0 v at)

  new_thread : thread_in new v.made ≡ right
  new_thread = ap (seat new) (sym size) ∙ snoc_there (set vs 0 left) right nothing

  longer : length new ≡ suc (suc v.made)
  longer = length-append (set vs 0 left) (right ∷ []) ∙ (omega (arith, size))

  -- the other threads' seats stay
  others_stay : (t : ℕ) → t ≢ v.made → thread_in new t ≡ thread_in vs t
  others_stay t ne =
      elim (cases_lt t v.made) [
        | inl low ↦ snoc_before (set vs 0 left) right nothing (suc t) (omega (arith, size, low))
            ∙ get_or-set_other vs 0 (suc t) left nothing (λ e. omega (arith, e))
        | inr past ↦ or_past new (suc t) nothing (omega (arith, longer, past, ne))
            ∙ sym (or_past vs (suc t) nothing (omega (arith, size, length-set vs 0 left, past)))
      ]

  -- a field that a new pass has as nobody has it
  field_stays : {B : Type 0} (f : Knowledge → B) → f right ≡ f nothing → (t : ℕ)
      → f (thread_in new t) ≡ f (thread_in vs t)
  field_stays f same t =
      elim (cases_eq t v.made) [
        | inl e ↦ ap (λ u. f (thread_in new u)) e ∙ ap f new_thread ∙ same
            ∙ sym (ap f (or_past vs (suc t) nothing (omega (arith, size, length-set vs 0 left, e))))
        | inr ne ↦ ap f (others_stay t ne)
      ]

  its_share : IsSeatOf right s v.made
  its_share = record {
    thread = refl;
    share = record {
      columns = sym (r.seats.unmade v.made (omega (arith, ap (λ (k : Knowledge). k.made) old_keeper)));
      held_once = λ l. omega arith;
    };
  }

  thread_stays : (t : ℕ) → (thread_in new t).role ≡ OfThread → IsSeatOf (thread_in new t) s t
  thread_stays t role =
      elim (cases_eq t v.made) [
        | inl e ↦ subst (λ u. IsSeatOf (thread_in new u) s u) (sym e)
            (subst (λ (k : Knowledge). IsSeatOf k s v.made) (sym new_thread) its_share)
        | inr ne ↦ subst (λ (k : Knowledge). IsSeatOf k s t) (sym (others_stay t ne))
            (r.seats.thread t (ap (λ (k : Knowledge). k.role) (sym (others_stay t ne)) ∙ role))
      ]

  old_made : (keeper_in vs).made ≡ v.made
  old_made = ap (λ (k : Knowledge). k.made) old_keeper

  new_made : (keeper_in new).made ≡ suc v.made
  new_made = ap (λ (k : Knowledge). k.made) new_keeper

  same_gathered : (keeper_in new).gathered ≡ (keeper_in vs).gathered
  same_gathered = ap (λ (k : Knowledge). k.gathered) new_keeper ∙ sym (ap (λ (k : Knowledge). k.gathered) old_keeper)

  taken_stays : (t : ℕ) (x : Share) → IsTakenIn vs s t x → IsTakenIn new s t x
  taken_stays t x h =
      let ne : t ≢ v.made = λ e. omega (arith, e, h.made, old_made) in
      record {
        made = omega (arith, h.made, old_made, new_made);
        gone = λ e. h.gone (ap (λ (k : Knowledge). k.role) (sym (others_stay t ne)) ∙ e);
        share = h.share;
      }

  seats_with : RepresentsSeats floor new s
  seats_with = record {
    keeper = ap (λ (k : Knowledge). k.role) new_keeper ∙ sym (ap (λ (k : Knowledge). k.role) old_keeper)
        ∙ r.seats.keeper;
    made = longer ∙ ap suc (sym new_made);
    few = omega (arith, new_made, few);
    thread = thread_stays;
    unmade = λ t past. r.seats.unmade t (omega (arith, past, old_made, new_made));
    taken_in = λ i d low. subst (λ gs. IsTakenIn new s (get_or gs i d).0 (get_or gs i d).1) (sym same_gathered)
        (taken_stays _ _ (r.seats.taken_in i d (subst (λ gs. i < length gs) same_gathered low)));
    each = λ t low gone. elim (cases_eq t v.made) [
      | inl e ↦ absurd (gone (ap (λ u. (thread_in new u).role) e ∙ ap (λ (k : Knowledge). k.role) new_thread))
      | inr ne ↦ subst (λ gs. list_any (λ g. g.0 == t) gs ≡ true) (sym same_gathered)
          (r.seats.each t (omega (arith, low, new_made, old_made, ne))
          (λ e. gone (ap (λ (k : Knowledge). k.role) (others_stay t ne) ∙ e)))
    ];
    none_out = λ t gone. elim (cases_eq t v.made) [
      | inl e ↦ absurd (gone (ap (λ u. (thread_in new u).role) e ∙ ap (λ (k : Knowledge). k.role) new_thread))
      | inr ne ↦ ap (λ (k : Knowledge). k.out) (others_stay t ne)
          ∙ r.seats.none_out t (λ e. gone (ap (λ (k : Knowledge). k.role) (others_stay t ne) ∙ e))
    ];
    counted =
        let sums = total_set live vs 0 v left at in
        let snoc = total_snoc live (set vs 0 left) right in
        let n = ap length same_gathered in
        omega (arith, sums, snoc, n, old_made, new_made, r.seats.counted);
    poses = λ t. subst (λ p. IsPosed p (s.wait t) (s.blocked_on t))
        (sym (field_stays (λ (k : Knowledge). k.pose) refl t)) (r.seats.poses t);
    runs = λ t gone. elim (cases_eq t v.made) [
      | inl e ↦ absurd (gone (ap (λ u. (thread_in new u).role) e ∙ ap (λ (k : Knowledge). k.role) new_thread))
      | inr ne ↦ ap (λ (k : Knowledge). k.pose) (others_stay t ne)
          ∙ r.seats.runs t (λ e. gone (ap (λ (k : Knowledge). k.role) (others_stay t ne) ∙ e))
    ];
  }

  represents_with : room_for v.description v.made ≤ v.spare
      → Represents floor (record { words = b.words; homes = b.homes; views = new }) s
  represents_with fits = record {
    sizes = assumption r.sizes;
    words = r.words;
    room =
        let sums = total_set spare vs 0 v left at in
        let snoc = total_snoc spare (set vs 0 left) right in
        omega (arith, sums, snoc, r.room, fits);
    latches = r.latches;
    content = r.content;
    shelves = subst (λ o. Shelves (slots_for floor) (latch_word b.words) (home_at b.homes) o r.content)
        (λ i t. sym (field_stays (λ (k : Knowledge). k.out) refl t) i) r.shelves;
    objects = r.objects;
    seats = seats_with;
  }

  -- the new pass has seen none of the steps, of which its thread made none
  fresh : (past : List Step) → AreSeen vs past → IsSeenBy v.made [] past
  fresh past h = record {
    later = past;
    is = sym (append-nil past);
    of_others = h.unmade v.made (omega (arith, old_made));
  }

  same_seen : (keeper_in vs).seen ≡ (keeper_in new).seen
  same_seen = ap (λ (k : Knowledge). k.seen) old_keeper ∙ sym (ap (λ (k : Knowledge). k.seen) new_keeper)

  seen_with : (past : List Step) → AreSeen vs past → AreSeen new past
  seen_with past h = record {
    keeper = subst (λ xs. IsSeen xs past) same_seen h.keeper;
    thread = λ t role. elim (cases_eq t v.made) [
      | inl e ↦ subst (λ u. IsSeenBy u (thread_in new u).seen past) (sym e)
          (subst (λ (k : Knowledge). IsSeenBy v.made k.seen past) (sym new_thread) (fresh past h))
      | inr ne ↦ subst (λ (k : Knowledge). IsSeenBy t k.seen past) (sym (others_stay t ne))
          (h.thread t (ap (λ (k : Knowledge). k.role) (sym (others_stay t ne)) ∙ role))
    ];
    taken_in = λ t low gone.
        let ne : t ≢ v.made = λ e.
        gone (ap (λ u. (thread_in new u).role) e ∙ ap (λ (k : Knowledge). k.role) new_thread) in
        subst (λ xs. IsSeenBy t xs past) same_seen
        (h.taken_in t (omega (arith, low, ne, old_made, new_made))
        (λ e. gone (ap (λ (k : Knowledge). k.role) (others_stay t ne) ∙ e)));
    unmade = λ t after. h.unmade t (omega (arith, after, old_made, new_made));
  }

pub forks : (floor : Description) (v : Knowledge) → v.description ≡ floor → v.made < length floor.threads
    → room_for v.description v.made ≤ v.spare → Splits (FloorHolds floor) 0 v (with_pass_made v) (new_pass v)
forks floor v mine few fits b holds at = record {
  past = holds.past;
  state = holds.state;
  sound = holds.sound;
  represents = represents_with floor b holds.state holds.represents v at few mine fits;
  seen = seen_with floor b holds.state holds.represents v at few mine holds.past holds.seen;
}

-- 2. The start

all_zero : (n i : ℕ) → get_or {A = ℕ} (replicate n 0) i 0 ≡ 0
all_zero zero i = refl
all_zero (suc n) zero = refl
all_zero (suc n) (suc i) = all_zero n i

-- zeros, with the number of threads in the awake word
pub words_at_first : (threads slots : ℕ)
    → AreFirstWords threads slots (set (replicate (words_for slots) 0) (spot awake_line) threads)
words_at_first threads slots =
    let ws : List ℕ = replicate (words_for slots) 0 in
    let long : length ws ≡ words_for slots = length-replicate {A = ℕ} (words_for slots) 0 in
    record {
      count = length-set ws (spot awake_line) threads ∙ long;
      awake = get_or-set_same ws (spot awake_line) threads 0 (omega (arith, long));
      others = λ i ne. get_or-set_other ws (spot awake_line) i threads 0 ne ∙ all_zero (words_for slots) i;
    }

all_home : (xs : List Slot) (j : ℕ) (d : Slot) → j < length xs → home_at (map some xs) j ≡ some (get_or xs j d)
all_home [] j d h = absurd (omega arith)
all_home (x ∷ xs) zero d h = refl
all_home (x ∷ xs) (suc j) d h = all_home xs j d (omega arith)

none_out : (floor : Description) (i : Item) → item_with (start_state (config_in floor)) i ≡ None
unfolding start_state
none_out floor e = grind arith

none_taken : (latch : ℕ → ℕ) → ((j : ℕ) → latch j ≡ 0) → (o : Option ℕ) → taken_from latch o ≡ None
none_taken latch free e = grind arith

module _ (floor : Description) where
  abbrev start : State
  start = start_state (config_in floor)

  first_record : (t : ℕ) (r : Record) → r ≡ made t ((config_in floor).declared_base t)
      → RepresentsRecord r ((objects_in start).record_of t)
  unfolding start_state
  first_record t r e = grind arith

  -- a chain without a name
  no_names : (H : Type 0) (i : Item) → HasNames {H = H} floor i []
  unfolding IsDistinct
  no_names H i = record { distinct = tt; own = λ k d low. absurd (omega arith) }

  first_turnstiles : (k : ℕ) → RepresentsTurnstiles floor k [] (objects_in start)
  unfolding start_state
  first_turnstiles k = record { names = no_names Turnstile (TurnstileChain k); queue = λ q there. refl }

  first_sleep_queues : (k : ℕ) → RepresentsSleepChain floor k [] (objects_in start)
  unfolding start_state
  first_sleep_queues k = record { names = no_names SleepQueue (SleepChain k); queue = λ q there. refl }

  first_graph : (g : orders.Graph) → ((l : ℕ) → l < length floor.locks → (config_in floor).class l < g.classes)
      → g.edges ≡ [] → RepresentsGraph (config_in floor) g (objects_in start).edges
  unfolding start_state
  first_graph g classes none =
      record { classes = classes; edges = subst (λ es. HaveSameEdges es []) (sym none) (λ a b. refl) }

  -- each sort of value is where its sort of item is
  first_value : (i : Item) (j : ℕ) (x : Slot) → slot_of floor i ≡ Some j → IsFirst floor j x
      → IsOf floor (objects_in start) i x
  unfolding start_state
  first_value (RecordOf t) j (Recorded b) e h =
      let p = record_place floor t j e in
      first_record t b.value (subst (λ u. b.value ≡ made u ((config_in floor).declared_base u)) (sym p.1) h.1)
  first_value (CellOf l key) j (Cell value) e h = h.2
  first_value (TurnstileChain k) j (Turnstiles chain) e h =
      subst (λ ch. RepresentsTurnstiles floor k ch (objects_in start)) (sym h.2) (first_turnstiles k)
  first_value (SleepChain k) j (SleepQueues chain) e h =
      subst (λ ch. RepresentsSleepChain floor k ch (objects_in start)) (sym h.2) (first_sleep_queues k)
  first_value ClassGraph j (Graph b) e h = first_graph b.value h.2 h.1
  first_value (RecordOf t) j (Cell value) e h =
      absurd (let p = its_part floor (RecordOf t) j e in omega (arith, p.0, p.1, h.0, h.1))
  first_value (RecordOf t) j (Turnstiles chain) e h =
      absurd (let p = its_part floor (RecordOf t) j e in omega (arith, p.0, p.1, h.0, h.1))
  first_value (RecordOf t) j (SleepQueues chain) e h =
      absurd (let p = its_part floor (RecordOf t) j e in omega (arith, p.0, p.1, h.0, h.1))
  first_value (RecordOf t) j (Graph b) e h =
      absurd (let p = its_part floor (RecordOf t) j e in omega (arith, p.0, p.1, h.0))
  first_value (CellOf l key) j (Recorded b) e h =
      absurd (let p = its_part floor (CellOf l key) j e in omega (arith, p.0, p.1, h.0))
  first_value (CellOf l key) j (Turnstiles chain) e h =
      absurd (let p = its_part floor (CellOf l key) j e in omega (arith, p.0, p.1, h.0, h.1))
  first_value (CellOf l key) j (SleepQueues chain) e h =
      absurd (let p = its_part floor (CellOf l key) j e in omega (arith, p.0, p.1, h.0, h.1))
  first_value (CellOf l key) j (Graph b) e h =
      absurd (let p = its_part floor (CellOf l key) j e in omega (arith, p.0, p.1, h.0))
  first_value (TurnstileChain k) j (Recorded b) e h =
      absurd (let p = its_part floor (TurnstileChain k) j e in omega (arith, p.0, p.1, h.0))
  first_value (TurnstileChain k) j (Cell value) e h =
      absurd (let p = its_part floor (TurnstileChain k) j e in omega (arith, p.0, p.1, h.0, h.1))
  first_value (TurnstileChain k) j (SleepQueues chain) e h =
      absurd (let p = its_part floor (TurnstileChain k) j e in omega (arith, p.0, p.1, h.0, h.1))
  first_value (TurnstileChain k) j (Graph b) e h =
      absurd (let p = its_part floor (TurnstileChain k) j e in omega (arith, p.0, p.1, h.0))
  first_value (SleepChain k) j (Recorded b) e h =
      absurd (let p = its_part floor (SleepChain k) j e in omega (arith, p.0, p.1, h.0))
  first_value (SleepChain k) j (Cell value) e h =
      absurd (let p = its_part floor (SleepChain k) j e in omega (arith, p.0, p.1, h.0, h.1))
  first_value (SleepChain k) j (Turnstiles chain) e h =
      absurd (let p = its_part floor (SleepChain k) j e in omega (arith, p.0, p.1, h.0, h.1))
  first_value (SleepChain k) j (Graph b) e h =
      absurd (let p = its_part floor (SleepChain k) j e in omega (arith, p.0, p.1, h.0))
  first_value ClassGraph j (Recorded b) e h =
      absurd (let p = its_part floor ClassGraph j e in omega (arith, p.0, p.1, h.0))
  first_value ClassGraph j (Cell value) e h =
      absurd (let p = its_part floor ClassGraph j e in omega (arith, p.0, p.1, h.0, h.1))
  first_value ClassGraph j (Turnstiles chain) e h =
      absurd (let p = its_part floor ClassGraph j e in omega (arith, p.0, p.1, h.0, h.1))
  first_value ClassGraph j (SleepQueues chain) e h =
      absurd (let p = its_part floor ClassGraph j e in omega (arith, p.0, p.1, h.0, h.1))

  first_seats : RepresentsSeats floor (keeper floor ∷ []) start
  unfolding start_state
  first_seats = grind arith

  module _ (ws : List ℕ) (xs : List Slot) (sized : IsSized floor) (long : length xs ≡ slots_for floor)
      (words : AreFirstWords (length floor.threads) (slots_for floor) ws)
      (first : (j : ℕ) (d : Slot) → j < length xs → IsFirst floor j (get_or xs j d)) where
    abbrev opened : Board
    opened = opening ws xs (keeper floor)

    no_word : (line : ℕ) → line ≢ awake_line → word_at ws line ≡ 0
    no_word line ne = words.others (spot line) (λ e. ne (omega arith))

    first_words : RepresentsWords floor ws (words_in start)
    unfolding start_state
    first_words = record {
      locks = λ l low. ap word_of (no_word (lock_line l) (λ e. omega (arith, e, low, sized.locks)));
      waits = λ t low. no_word (wait_line t) (λ e. omega (arith, e, low, sized.threads));
      ticket = no_word ticket_line (λ e. omega (arith, e));
      awake = words.awake;
      ended = no_word ended_line (λ e. omega (arith, e));
      halted = no_word halt_line (λ e. omega (arith, e));
    }

    free_turn : (j : ℕ) → latch_word ws j ≡ 0
    free_turn j = no_word (latch_line j) (λ e. omega (arith, e))

    free_latches : RepresentsLatches floor (latch_word ws) (item_with start)
    unfolding RepresentsLatches
    free_latches = λ i. none_out floor i ∙ sym (none_taken (latch_word ws) free_turn (slot_of floor i))

    first_shelves : Shelves (slots_for floor) (latch_word ws) (home_at (map some xs))
        (λ t. (thread_in (keeper floor ∷ []) t).out) (λ j. get_or xs j (Cell None))
    first_shelves = record {
      at_home = λ j low free. all_home xs j (Cell None) (omega (arith, long, low));
      away = λ j t low out. absurd (let z = free_turn j in omega (arith, z, out));
      taken = λ j t x e. absurd (some-ne-none x (sym e));
      apart = λ t. tt;
    }

    first_objects : RepresentsObjects floor (λ j. get_or xs j (Cell None)) (objects_in start)
    unfolding start_state
    first_objects = record {
      each = λ i j place. first_value i j (get_or xs j (Cell None)) place
          (first j (Cell None) (omega (arith, long, place_low floor i j place)));
      unnamed = λ l key e. refl;
    }

    represents_first : Represents floor opened start
    unfolding start_state
    represents_first = record {
      sizes = record {
        words = words.count;
        slots = length-map xs some ∙ long;
        sized = sized;
      };
      words = first_words;
      room = omega (arith, sized.room);
      latches = free_latches;
      content = λ j. get_or xs j (Cell None);
      shelves = first_shelves;
      objects = first_objects;
      seats = first_seats;
    }

    none_seen : AreSeen (keeper floor ∷ []) []
    none_seen = record {
      keeper = record { later = []; is = refl };
      thread = λ t role. absurd (let e : OfNobody ≡ OfThread = role in cc);
      taken_in = λ t low gone. absurd (omega (arith, low));
      unmade = λ t after. All-nil (λ step. maker step ≢ t);
    }

    pub opens : FloorHolds floor opened
    opens = record {
      past = [];
      state = start;
      sound = sound_begins floor;
      represents = represents_first;
      seen = none_seen;
    }

-- 3. The values, as they are laid out

-- so many are there, each as it is at first
pub record LaidOut (floor : Description) (m : ℕ) (xs : List Slot) : Type 0 where
  pub count : length xs ≡ m
  pub each : (j : ℕ) (d : Slot) → j < length xs → IsFirst floor j (get_or xs j d)

-- and more of one sort behind them
pub laid_more : (floor : Description) {n : ℕ} (m k : ℕ) (xs zs : List Slot) (y : Slot) → zs ≡ xs ++ replicate n y
    → n ≡ k → ((j : ℕ) → m ≤ j → j < m + k → IsFirst floor j y) → LaidOut floor m xs → LaidOut floor (m + k) zs
laid_more floor {n} m k xs zs y is same fits h =
    subst (LaidOut floor (m + k)) (sym is) record { count = omega (arith, long, many, same, h.count); each = each }
  where
    long : length (xs ++ replicate n y) ≡ length xs + length (replicate n y)
    long = length-append xs (replicate n y)

    many : length (replicate n y) ≡ n
    many = length-replicate n y

    each : (j : ℕ) (d : Slot) → j < length (xs ++ replicate n y) → IsFirst floor j (get_or (xs ++ replicate n y) j d)
    each j d low = elim (cases_lt j (length xs)) [
      | inl before ↦ subst (IsFirst floor j) (sym (get_or_append_left xs (replicate n y) d j before))
          (h.each j d before)
      | inr past ↦
          let i : ℕ = j - length xs in
          let there : length xs + i ≡ j = omega (arith, past) in
          let small : i < n = omega (arith, low, long, many, there) in
          subst (λ q. IsFirst floor q (get_or (xs ++ replicate n y) q d)) there
          (subst (IsFirst floor (length xs + i))
          (sym (get_or-append-add xs (replicate n y) i d ∙ get_or-replicate n i y d small))
          (fits (length xs + i) (omega (arith, h.count)) (omega (arith, h.count, small, same))))
    ]

-- and one
pub laid_one : (floor : Description) (m : ℕ) (xs zs : List Slot) (y : Slot) → zs ≡ xs ++ y ∷ [] → IsFirst floor m y
    → LaidOut floor m xs → LaidOut floor (suc m) zs
laid_one floor m xs zs y is first h =
    let done = laid_more floor {n = 1} m 1 xs zs y is refl
    (λ j past low. subst (λ q. IsFirst floor q y) (omega (arith, past, low)) first) h in
    record { count = done.count ∙ omega arith; each = done.each }

-- the class of each lock is one of as many classes as there may be
pub classes_fit : (floor : Description) → IsSized floor → (n : ℕ) → n ≡ most_classes → (l : ℕ) → l < length floor.locks
    → (config_in floor).class l < n
classes_fit floor sized n all l low =
    subst (λ k. (config_in floor).class l < k) (sym all) (go floor.locks l sized.classes low)
  where
    go : (xs : List LockPart) (i : ℕ) → All (λ x. x.class.0 < most_classes) xs → i < length xs
        → unwrap_or (slice_get (map (λ (x : LockPart). x.class.0) xs) i) 0 < most_classes
    go [] i h low = absurd (omega arith)
    go (x ∷ xs) zero h low = All-head (λ (y : LockPart). y.class.0 < most_classes) x xs h
    go (x ∷ xs) (suc i) h low = go xs i (All-tail (λ (y : LockPart). y.class.0 < most_classes) x xs h) (omega arith)

-- 4. Room for the entries of threads

-- of those whose passes are yet to come
abbrev pub rooms_from : Description → ℕ → ℕ
rooms_from floor t = room_in_all (drop t floor.threads)

one_room : (xs : List ThreadPart) (t : ℕ) (d : ThreadPart) → t < length xs
    → room_in_all (drop t xs) ≡ (get_or xs t d).room + room_in_all (drop (suc t) xs)
one_room [] t d h = absurd (omega arith)
one_room (x ∷ xs) zero d h = sum_by-cons (λ (n : ℕ). n) x.room (map (λ (y : ThreadPart). y.room) xs)
one_room (x ∷ xs) (suc t) d h = one_room xs t d (omega arith)

its_room : (xs : List ThreadPart) (t : ℕ) (d : ThreadPart) → t < length xs
    → unwrap_or (slice_get (map (λ (y : ThreadPart). y.room) xs) t) 0 ≡ (get_or xs t d).room
its_room [] t d h = absurd (omega arith)
its_room (x ∷ xs) zero d h = refl
its_room (x ∷ xs) (suc t) d h = its_room xs t d (omega arith)

-- what a pass more takes of it
pub next_room : (floor : Description) (t : ℕ) (d : ThreadPart) → t < length floor.threads
    → (rooms_from floor t ≡ room_for floor t + rooms_from floor (suc t))
    × (room_for floor t ≡ (get_or floor.threads t d).room)
next_room floor t d h =
    let room : room_for floor t ≡ (get_or floor.threads t d).room = its_room floor.threads t d h in
    (one_room floor.threads t d h ∙ ap (λ n. n + rooms_from floor (suc t)) (sym room), room)

-- 5. Passes, as they are handed out

pub each_more : {A : Type 0} (xs : List A) (x : A) (t : ℕ) (f : ℕ → A) → length xs ≡ t → x ≡ f t
    → ((k : ℕ) (d : A) → k < t → get_or xs k d ≡ f k) → (k : ℕ) (d : A) → k < t + 1 → get_or (xs ++ x ∷ []) k d ≡ f k
each_more xs x t f long is each k d low =
    elim (cases_lt k t) [
      | inl before ↦ snoc_before xs x d k (omega (arith, long, before)) ∙ each k d before
      | inr past ↦
          let here : k ≡ length xs = omega (arith, long, past, low) in
          ap (λ i. get_or (xs ++ x ∷ []) i d) here ∙ snoc_there xs x d ∙ is ∙ ap f (sym long ∙ sym here)
    ]
