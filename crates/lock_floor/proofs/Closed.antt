-- A floor whose passes were all taken in: nobody has anything out, so that all values are in their places.
use Rattle.lock_floor.proofs.Names
use Names.{ℕ, zero, suc, Bool, true, false, cond, List, [], length, map, reverse, get_or, Option, Some, None, refl, sym}
use Names.{ap, subst, inl, inr, arith, eq-eqb, cases_eq, cases_lt, ne_eqb, nat_lt, option_map, All, list_any}
use Names.{append_cancel_right, All-head, All-tail, Global, Box, Final, Seen, count, one, sum_below, at_option, times}
use Names.{entries_of, Waiter, lock_queue, times_waiting, stands, QueueName, RecordColumns, RepresentsRecord, record_in}
use Names.{OneTurnstileEach, OneSleepQueueEach, HeadsFitWaiters, LoansAreOnHeads, BasesReplay, LogsAreParts}
use Names.{turnstile_places, sleep_queue_places, State, Loan, Running, gained_order, Step, maker, RecordOf, CellOf}
use Names.{sum_below-two, one_same, standing_named, loan_for, ThreadRec, Terms, config_in, Description, Slot, Recorded}
use Names.{Cell, Turnstiles, SleepQueues, Graph, AreOfOthers, slots_for, latch_word, word_at, halt_line, Share}
use Names.{ShareColumns, start_share, share_in, columns_of, OfThread, Runs, Knowledge, nothing, Board, IsOf, objects_in}
use Names.{seat, keeper_in, thread_in, total, live, one_thread, IsTakenIn, IsPosed, Represents, FloorHolds, found}
use Names.{IsSound, place_low, stands_nowhere, has_turnstile, has_sleep_queue, at_or, or_at, IsHome}
use Rattle.std.proofs.Common.{◌≡◌, ◌≢◌, ◌+◌, ◌<◌, ◌≤◌, ◌∷◌, ◌++◌, ◌∙◌}
use Rattle.std.specs.Prelude.{◌==◌}
use Rattle.std.specs.Option.{IsSome}
use mathlib.Core.Option.{some, none, some-ne-none}
use lib.ListN.{get_elem?}
use Rattle.lock_objects.specs.Represents.{loan_of}
use Rattle.thread_records.specs.Records.{Record}
use Rattle.lock_floor.proofs.CellPlaces.{cell_at}
use Rattle.lock_floor.proofs.Taking.{record_at}
use Rattle.lock_floor.proofs.Counting.{stands_once, stands_there}

-- 1. A record at home

no_loans : (ts : List Terms) → ((l : ℕ) → option_map loan_of (loan_for l ts) ≡ None) → ts ≡ []
no_loans [] h = refl
no_loans (t ∷ ts) h =
    let first : loan_for t.lock (t ∷ ts) ≡ Some t =
    ap (λ b. cond b (Some t) (loan_for t.lock ts)) (eq-eqb t.lock t.lock refl) in
    absurd (let z : Some (loan_of t) ≡ None = sym (ap (option_map loan_of) first) ∙ h t.lock in cc)

-- a list in which nobody waits is empty
none_waits : (ws : List Waiter) → ((t : ℕ) → times_waiting t ws ≡ 0) → length ws ≡ 0
none_waits [] h = refl
none_waits (w ∷ ws) h =
    let here : one (w.thread == w.thread) ≡ 1 = ap one (eq-eqb w.thread w.thread refl) in
    absurd (let none = h w.thread in omega (arith, here, none))

unlent : (head : Option ℕ) (o : Option Loan) → count head ≡ 0 → ((x : Loan) → o ≡ Some x → head ≡ Some x.number)
    → o ≡ None
unlent head f e h = grind arith

module _ (floor : Description) {past : List Step} (s : State) (sound : IsSound floor past s)
    (running : (t : ℕ) → s.wait t ≡ Running) where
  nowhere_at : (t : ℕ) → s.blocked_on t ≡ None
  nowhere_at t = stands_nowhere (config_in floor) s sound.facts.lawful t Runs refl (running t)

  -- so nobody waits on a queue, which then has no turnstile to lend
  stands_none : (q : QueueName) (t : ℕ) → stands t (s.lists q) ≡ 0
  stands_none q t = go (stands t (s.lists q)) refl
    where
      go : (n : ℕ) → stands t (s.lists q) ≡ n → n ≡ 0
      go zero e = refl
      go (suc n) e = absurd
          (let z : None ≡ Some q = sym (nowhere_at t)
          ∙ standing_named (config_in floor) s t q sound.facts.lawful (omega (arith, e)) in cc)

  no_head : (q : QueueName) → count (s.head q) ≡ 0
  unfolding HeadsFitWaiters
  no_head q =
      let first = none_waits (s.lists q).exclusive (λ t. let n = stands_none q t in omega (arith, n)) in
      let second = none_waits (s.lists q).shared (λ t. let n = stands_none q t in omega (arith, n)) in
      let fits = (sound.facts.lawful.queues.heads_fit_waiters q).balanced in
      omega (arith, first, second, fits)

  lends_nothing : (t l : ℕ) → s.loan t l ≡ None
  unfolding LoansAreOnHeads
  lends_nothing t l = unlent (s.head (lock_queue l)) (s.loan t l) (no_head (lock_queue l))
      (sound.facts.lawful.loans.loans_are_on_heads t l)

  turnstile_at : (t : ℕ) → IsSome (s.turnstile t)
  turnstile_at t = has_turnstile (config_in floor) s sound.facts.lawful t (nowhere_at t)

  sleep_queue_at : (t : ℕ) → IsSome (s.sleep_queue t)
  sleep_queue_at t = has_sleep_queue (config_in floor) s sound.facts.lawful t (nowhere_at t)

  pub home_of : (t : ℕ) (r : Record) → RepresentsRecord r (record_in s t) → IsHome floor s.history t r
  unfolding BasesReplay
  home_of t r h = record {
    thread = ap (λ (x : RecordColumns). x.thread) h.columns;
    base = ap (λ (x : RecordColumns). x.base) h.columns ∙ sound.facts.lawful.books.bases_replay t;
    turnstile = subst IsSome (sym (ap (λ (x : RecordColumns). x.turnstile) h.columns)) (turnstile_at t);
    sleep_queue = subst IsSome (sym (ap (λ (x : RecordColumns). x.sleep_queue) h.columns)) (sleep_queue_at t);
    no_loans = no_loans r.loans (λ l. ap (λ (x : RecordColumns). x.loan l) h.columns ∙ lends_nothing t l);
    nowhere = ap (λ (x : RecordColumns). x.blocked_on) h.columns ∙ nowhere_at t;
  }

  -- 2. No two threads have one turnstile, or one sleep queue

  differ : (column : ℕ → Option ℕ) → ((n : ℕ) → sum_below (length floor.threads) (λ t. at_option n (column t)) ≤ 1)
      → ((t : ℕ) → IsSome (column t)) → (t u : ℕ) → t < length floor.threads → u < length floor.threads
      → column t ≡ column u → t ≡ u
  differ column once there t u i j same = go (column t) refl (there t)
    where
      go : (o : Option ℕ) → column t ≡ o → IsSome o → t ≡ u
      go None e h = absurd (let z : false ≡ true = h in cc)
      go (Some n) e h = elim (cases_eq t u) [
        | inl q ↦ q
        | inr ne ↦
            let first : at_option n (column t) ≡ 1 = ap (at_option n) e ∙ one_same n in
            let second : at_option n (column u) ≡ 1 = ap (at_option n) (sym same) ∙ first in
            absurd (let both = sum_below-two (length floor.threads) (λ k. at_option n (column k)) t u i j ne in
            let most = once n in omega (arith, first, second, both, most))
      ]

  most_one : (b : Bool) → one b ≤ 1
  most_one true = omega arith
  most_one false = omega arith

  pub turnstiles_differ : (t u : ℕ) → t < length floor.threads → u < length floor.threads
      → s.turnstile t ≡ s.turnstile u → t ≡ u
  unfolding OneTurnstileEach turnstile_places
  turnstiles_differ = differ s.turnstile
      (λ n. let p = sound.facts.lawful.queues.one_turnstile_each n in
      let m = most_one (nat_lt n (length floor.threads)) in omega (arith, p, m)) turnstile_at

  pub sleep_queues_differ : (t u : ℕ) → t < length floor.threads → u < length floor.threads
      → s.sleep_queue t ≡ s.sleep_queue u → t ≡ u
  unfolding OneSleepQueueEach sleep_queue_places
  sleep_queues_differ =
      differ s.sleep_queue (λ n. let p = sound.facts.lawful.queues.one_sleep_queue_each n in
      let m = most_one (nat_lt n (length floor.threads)) in omega (arith, p, m)) sleep_queue_at

-- 3. All passes are taken in

live_at : (vs : List Knowledge) (i : ℕ) → live (seat vs i) ≤ total live vs
live_at [] i = omega arith
live_at (v ∷ vs) zero = omega arith
live_at (v ∷ vs) (suc i) = let p = live_at vs i in omega (arith, p)

record_there : (floor : Description) (s : State) (t : ℕ) (x : Slot) → IsOf floor (objects_in s) (RecordOf t) x
    → (b : Box ThreadRec Global) × (x ≡ Recorded b) × RepresentsRecord b.value (record_in s t)
record_there floor s t e h = grind arith

cell_there : (floor : Description) (s : State) (l key : ℕ) (x : Slot) → IsOf floor (objects_in s) (CellOf l key) x
    → x ≡ Cell (s.table l key)
cell_there floor s l key e h = grind arith

module _ (floor : Description) (v : Knowledge) (ws : List ℕ) (xs : List Slot)
    (final : Final (Seen (FloorHolds floor) 0 v) ws xs) (all : length v.gathered ≡ length floor.threads) where
  abbrev b : Board
  b = final.0

  abbrev pub left : State
  left = final.1.0.state

  abbrev pub steps : List Step
  steps = final.1.0.past

  abbrev pub sound : IsSound floor steps left
  sound = final.1.0.sound

  abbrev pub represents : Represents floor b left
  represents = final.1.0.represents

  -- the halt word is 1 exactly where it was set
  pub halt_word : word_at ws halt_line ≡ one left.halted
  halt_word = ap (λ (words : List ℕ). word_at words halt_line) (sym final.2) ∙ represents.words.halted

  keeper : keeper_in b.views ≡ v
  keeper = at_or b.views 0 v nothing final.1.1

  gathered : (keeper_in b.views).gathered ≡ v.gathered
  gathered = ap (λ (k : Knowledge). k.gathered) keeper

  all_made : ((keeper_in b.views).made ≡ length floor.threads) × (total live b.views ≡ 0)
  all_made = let n = ap length gathered in let seats = represents.seats in
      (omega (arith, n, all, seats.counted, seats.few), omega (arith, n, all, seats.counted, seats.few))

  nobody : (t : ℕ) → (thread_in b.views t).role ≢ OfThread
  nobody t e = let p = live_at b.views (suc t) in let q : live (thread_in b.views t) ≡ 1 = ap one_thread e in
      omega (arith, p, q, all_made.1)

  -- so all threads run
  pub running : (t : ℕ) → left.wait t ≡ Running
  running t = subst (λ p. IsPosed p (left.wait t) (left.blocked_on t)) (represents.seats.runs t (nobody t))
      (represents.seats.poses t)

  -- and the keeper has seen all steps
  pub all_seen : steps ≡ v.seen
  all_seen = go final.1.0.seen.keeper.later final.1.0.seen.keeper.is
    where
      go : (later : List Step) → steps ≡ later ++ (keeper_in b.views).seen → steps ≡ v.seen
      go [] e = e ∙ ap (λ (k : Knowledge). k.seen) keeper
      go (step ∷ later) e = absurd (elim (cases_lt (maker step) (keeper_in b.views).made) [
        | inl low ↦
            let its = final.1.0.seen.taken_in (maker step) low (nobody (maker step)) in
            let same : its.later ≡ step ∷ later =
            append_cancel_right its.later (step ∷ later) (keeper_in b.views).seen (sym its.is ∙ e) in
            subst (AreOfOthers (maker step)) same its.of_others 0 step (omega arith) refl
        | inr past ↦
            subst (AreOfOthers (maker step)) e (final.1.0.seen.unmade (maker step) past) 0 step (omega arith) refl
      ])

  free : (j : ℕ) → j < slots_for floor → latch_word b.words j ≡ 0
  free j low = go (latch_word b.words j) refl
    where
      go : (n : ℕ) → latch_word b.words j ≡ n → n ≡ 0
      go zero e = refl
      go (suc t) e = absurd
          (some-ne-none (represents.content j)
          (sym (represents.shelves.away j t low e) ∙ ap (found j) (represents.seats.none_out t (nobody t))))

  in_place : (j : ℕ) → j < slots_for floor → get_elem? xs j ≡ some (represents.content j)
  in_place j low = final.4 j (represents.content j)
      (or_at b.homes j none (omega (arith, low, represents.sizes.slots))
      ∙ ap some (represents.shelves.at_home j low (free j low)))

  pub record_home : (t : ℕ) → t < length floor.threads → (b : Box ThreadRec Global)
      × (get_elem? xs t ≡ some (Recorded b)) × RepresentsRecord b.value (record_in left t)
  record_home t low =
      let place = record_at floor t low in
      let p = record_there floor left t (represents.content t) (represents.objects.each (RecordOf t) t place) in
      (p.0, in_place t (place_low floor (RecordOf t) t place) ∙ ap some p.1, p.2)

  pub cell_home : (i : ℕ) (d : ℕ × ℕ) → i < length floor.keys
      → get_elem? xs (length floor.threads + i) ≡ some
      (Cell (left.table (get_or floor.keys i d).0 (get_or floor.keys i d).1))
  cell_home i d low =
      let x : ℕ × ℕ = get_or floor.keys i d in
      let j : ℕ = length floor.threads + i in
      let place = cell_at floor represents.sizes.sized i d low in
      in_place j (place_low floor (CellOf x.0 x.1) j place)
      ∙ ap some (cell_there floor left x.0 x.1 (represents.content j)
      (represents.objects.each (CellOf x.0 x.1) j place))

  pub places : length xs ≡ slots_for floor
  places = sym final.3 ∙ represents.sizes.slots

  -- 4. Logs

  taken_in : All (λ g. IsTakenIn b.views left g.0 g.1) v.gathered
  taken_in = subst (All (λ g. IsTakenIn b.views left g.0 g.1)) gathered represents.seats.taken_in

  below : All (λ (g : ℕ × Share). g.0 < length floor.threads) v.gathered
  below i d low = let h = taken_in i d low in subst (λ n. (get_or v.gathered i d).0 < n) all_made.0 h.made

  named : (t : ℕ) → t < length floor.threads → list_any (λ (g : ℕ × Share). g.0 == t) v.gathered ≡ true
  named t low = subst (λ gs. list_any (λ (g : ℕ × Share). g.0 == t) gs ≡ true) gathered
      (represents.seats.each t (subst (λ n. t < n) (sym all_made.0) low) (nobody t))

  -- what the share of each pass says, and that of a thread at its begin, is so of each thread
  of_each : (P : ShareColumns → Type 0) → P (columns_of start_share)
      → All (λ (g : ℕ × Share). P (columns_of g.1)) v.gathered → (t : ℕ) → P (share_in left t)
  of_each P first each t = elim (cases_lt t (length floor.threads)) [
    | inl low ↦ among v.gathered taken_in each (named t low)
    | inr past ↦ subst P (sym (represents.seats.unmade t (subst (λ n. n ≤ t) (sym all_made.0) past))) first
  ]
    where
      among : (gs : List (ℕ × Share)) → All (λ g. IsTakenIn b.views left g.0 g.1) gs
          → All (λ (g : ℕ × Share). P (columns_of g.1)) gs → list_any (λ (g : ℕ × Share). g.0 == t) gs ≡ true
          → P (share_in left t)
      among [] h said there = absurd cc
      among (g ∷ gs) h said there = elim (cases_eq g.0 t) [
        | inl e ↦
            let its = All-head (λ k. IsTakenIn b.views left k.0 k.1) g gs h in
            subst P (its.share.columns ∙ ap (share_in left) e)
            (All-head (λ (k : ℕ × Share). P (columns_of k.1)) g gs said)
        | inr ne ↦ among gs (All-tail (λ k. IsTakenIn b.views left k.0 k.1) g gs h)
            (All-tail (λ (k : ℕ × Share). P (columns_of k.1)) g gs said)
            (let z = rw (ne_eqb g.0 t ne) at there in z)
      ]

  -- no thread takes a lock,
  pub takes_nothing : All (λ g. g.1.doing.taking ≡ None) v.gathered → (t : ℕ) → left.taking t ≡ None
  takes_nothing idle = of_each (λ y. y.doing.taking ≡ None) refl idle

  -- and none holds one
  pub holds_nothing : All (λ g. g.1.held ≡ []) v.gathered → (t : ℕ) → left.held_locks t ≡ []
  holds_nothing bare = of_each (λ y. y.held_locks ≡ []) refl (λ i d low. ap gained_order (bare i d low))

  pub once : (t : ℕ) → times t (map (λ g. g.0) v.gathered) ≤ 1
  once = stands_once (λ (g : ℕ × Share). g.0) (length floor.threads) v.gathered all below named

  its_log : (t : ℕ) (x : Share) → IsTakenIn b.views left t x → x.log ≡ entries_of left.history t
  unfolding LogsAreParts
  its_log t x h = ap (λ (y : ShareColumns). y.log) h.share.columns ∙ sound.facts.lawful.books.logs_are_parts t

  pub no_other : (t : ℕ) → entries_of left.history t ≢ [] → times t (map (λ g. g.0) v.gathered) ≡ 1
  unfolding LogsAreParts
  no_other t some_entry = elim (cases_lt t (length floor.threads)) [
    | inl low ↦ stands_there (λ (g : ℕ × Share). g.0) (length floor.threads) v.gathered all below named t low
    | inr past ↦ absurd (some_entry
        (sym (sound.facts.lawful.books.logs_are_parts t)
        ∙ ap (λ (y : ShareColumns). y.log) (represents.seats.unmade t (subst (λ n. n ≤ t) (sym all_made.0) past))))
  ]

  pub parts : map (λ g. reverse g.1.log) v.gathered ≡ map (λ t. reverse (entries_of left.history t))
      (map (λ g. g.0) v.gathered)
  parts = go v.gathered taken_in
    where
      go : (gs : List (ℕ × Share)) → All (λ g. IsTakenIn b.views left g.0 g.1) gs
          → map (λ g. reverse g.1.log) gs ≡ map (λ t. reverse (entries_of left.history t)) (map (λ g. g.0) gs)
      go [] h = refl
      go (g ∷ gs) h = λ i. reverse (its_log g.0 g.1 (All-head (λ k. IsTakenIn b.views left k.0 k.1) g gs h) i) ∷ go gs
          (All-tail (λ k. IsTakenIn b.views left k.0 k.1) g gs h) i
