-- What was counted, entry by entry, and the profile that comes of it.
use Rattle.std.proofs.Common.{◌≡◌, ◌≢◌, ℕ, zero, suc, ◌+◌, ◌^◌, ◌<◌, ◌≤◌, Bool, false, eqb, Some, None, List, [], ◌∷◌, ◌++◌, length, map, take, get_or, refl, sym, ap, subst, ◌∙◌, inl, inr, arith, add-zero}
use Rattle.std.specs.Prelude.{OnOk, Result, Ok, Err}
use Rattle.std.specs.Global.{Vec}
use Rattle.std.specs.List.{filter, flat_map, range_with_len, sum_by, All}
use Rattle.std.proofs.lemmas.Bool.{cases_eq, ne_eqb, and_right}
use Rattle.std.proofs.lemmas.List.{length_push, length-take-le, take_more, get_or-take, get_or_default}
use Rattle.std.proofs.lemmas.List.Elements.{All-nil, All-cons, All-push, All-weaker}
use Rattle.std.proofs.lemmas.Nat.{mul-le}
use Rattle.lock_model.specs.Config.{Config}
use Rattle.lock_model.specs.Plans.{config_of}
use Rattle.lock_model.specs.declared.numbers.LockNo.{LockNo}
use Rattle.lock_model.specs.declared.event.Entry.{Entry}
use Rattle.lock_model.specs.declared.plan.Plan.{Plan}
use Rattle.lock_history.specs.Tickets.{InOrder}
use Rattle.hold_profile.specs.AtLocks.{at_lock}
use Rattle.hold_profile.specs.Sections.{sections_of}
use Rattle.hold_profile.specs.Profiles.{lock_line, pairs_of, order_line, order_lines, is_seen, profile_of}
use Rattle.hold_profile.specs.Counting.{no_line, open_at, held_by, lasted, with_lengths, line_after, held_after, pairs_by, line_in_end, row_at, counted_line, row_lines, IsTally, IsCounted, IsNoted, Fits}
use Rattle.hold_profile.specs.declared.counting.Counting.{Counting}
use Rattle.hold_profile.specs.declared.events.AtLock.{AtLock}
use Rattle.hold_profile.specs.declared.lines.LockLine.{LockLine}
use Rattle.hold_profile.specs.declared.lines.OrderLine.{OrderLine}
use Rattle.hold_profile.specs.declared.lines.Profile.{Profile}
use Rattle.hold_profile.specs.declared.tally.OpenSection.{OpenSection}
use Rattle.hold_profile.specs.declared.tally.Tally.{Tally}
use Rattle.hold_profile.proofs.Sums.{flat_map-range, map-range}
use Rattle.hold_profile.proofs.Saying.{hits}
use Rattle.hold_profile.proofs.LockSteps.{tally_stays, tally_noted, line_in_end_is, opens_since, opens_few, total_few, line_fits}
use Rattle.hold_profile.proofs.PairSteps.{held_stays, held_unnoted, held_noted, pairs_unnoted, pairs_noted, pairs_few, held_few}

-- 1. Lists by their places

pub All-from_each : {X : Type 0} (P : X → Type 0) (xs : List X)
    → ((i : ℕ) (d : X) → i < length xs → P (get_or xs i d)) → All P xs
All-from_each P [] h = All-nil P
All-from_each P (x ∷ xs) h =
    All-cons P x xs (h 0 x (omega arith)) (All-from_each P xs (λ i d lt. h (suc i) d (omega arith)))

pub get_or-map : {X Y : Type 0} (f : X → Y) (xs : List X) (i : ℕ) (d : X) (e : Y) → i < length xs
    → get_or (map f xs) i e ≡ f (get_or xs i d)
get_or-map f [] i d e lt = absurd (omega arith)
get_or-map f (x ∷ xs) zero d e lt = refl
get_or-map f (x ∷ xs) (suc i) d e lt = get_or-map f xs i d e (omega arith)

some_of : {X : Type 0} (xs : List X) → 0 < length xs → X
some_of [] h = absurd (omega arith)
some_of (x ∷ xs) h = x

map_by_place : {X Y : Type 0} (g : X → Y) (f : ℕ → Y) (a : ℕ) (xs : List X)
    → ((i : ℕ) (d : X) → i < length xs → g (get_or xs i d) ≡ f (a + i))
    → map g xs ≡ map f (range_with_len a (length xs))
map_by_place g f a [] h = refl
map_by_place g f a (x ∷ xs) h =
    let rest = map_by_place g f (a + 1) xs (λ i d lt. h (suc i) d (omega arith) ∙ ap f (omega arith)) in
    ap (λ y. y ∷ map g xs) (h 0 x (omega arith) ∙ ap f (add-zero a)) ∙ ap (λ ys. f a ∷ ys) rest

abbrev pair_line : ℕ → ℕ → ℕ → OrderLine
pair_line a b n = record { first = record { 0 = a }; second = record { 0 = b }; count = n }

-- 2. Entry by entry

-- nothing was counted of no entries
pub counted_nothing : (plan : Plan) (x : Counting) → length x.locks.items ≡ length plan.locks
    → ((l : ℕ) (d : Tally) → l < length plan.locks → (get_or x.locks.items l d).line ≡ no_line)
    → ((l : ℕ) (d : Tally) → l < length plan.locks → (get_or x.locks.items l d).sections.items ≡ [])
    → length x.held.items ≡ length plan.threads
    → ((t : ℕ) (d : Vec LockNo) → t < length plan.threads → (get_or x.held.items t d).items ≡ [])
    → length x.orders.items ≡ length plan.classes
    → ((b : ℕ) (d : Vec ℕ) → b < length plan.classes → length (get_or x.orders.items b d).items ≡ length plan.classes)
    → ((a b : ℕ) (d : Vec ℕ) → a < length plan.classes → b < length plan.classes
    → get_or (get_or x.orders.items b d).items a 0 ≡ 0)
    → IsCounted plan [] x
unfolding sections_of lock_line pairs_of
counted_nothing plan x locks line sections threads held classes rows zeros = record {
  lock_count = locks;
  locks =
      λ l d lt. record {
        its_line = line l d lt;
        its_sections = sections l d lt;
        within = omega (arith, ap length (sections l d lt));
      };
  thread_count = threads;
  held = held;
  class_count = classes;
  row_counts = rows;
  orders = zeros;
}

module _ (plan : Plan) (es : List Entry) (e : Entry) (x : Counting) (at_end : e.ticket ≡ length es)
    (before : All (λ (z : Entry). z.ticket < length es) es) (k : IsCounted plan es x) where
  abbrev c : Config
  c = config_of plan

  abbrev more : List Entry
  more = es ++ e ∷ []

  pub counted_unnoted : at_lock plan e.event ≡ None → IsCounted plan more x
  counted_unnoted is = record {
    lock_count = k.lock_count;
    locks = λ l d lt. tally_stays plan es e at_end before l _ _ (λ f. ap (λ o. hits f o l) is) (k.locks l d lt);
    thread_count = k.thread_count;
    held = λ t d lt. k.held t d lt ∙ sym (held_unnoted plan es e is t);
    class_count = k.class_count;
    row_counts = k.row_counts;
    orders = λ a b d la lb. k.orders a b d la lb ∙ sym (pairs_unnoted plan es e at_end before a b is);
  }

  module _ (l : LockNo) (what : AtLock) (is : at_lock plan e.event ≡ Some (l, what)) where
    -- of other locks nothing is counted
    apart : (j : ℕ) → j ≢ l.0 → (f : AtLock → Bool) → hits f (at_lock plan e.event) j ≡ false
    apart j n f = ap (λ o. hits f o j) is ∙ and_right (f what) (eqb l.0 j) (ne_eqb l.0 j (λ z. n (sym z)))

    pub counted_noted : (y : Counting) → e.thread.0 < length plan.threads → IsNoted plan what l e x y
        → IsCounted plan more y
    counted_noted y its_thread n = record {
      lock_count = n.lock_count ∙ k.lock_count;
      locks = locks;
      thread_count = n.thread_count ∙ k.thread_count;
      held = held;
      class_count = n.class_count ∙ k.class_count;
      row_counts = λ b d lb. n.row_counts b d (omega (arith, k.class_count)) ∙ k.row_counts b d lb;
      orders = λ a b d la lb. orders a b d la lb;
    }
      where
        locks : (j : ℕ) (d : Tally) → j < length plan.locks
            → IsTally c more j (get_or y.locks.items j d).line (get_or y.locks.items j d).sections.items
        locks j d lt =
            elim (cases_eq j l.0) [
              | inl same ↦ (let here : l.0 < length plan.locks = omega (arith, same) in
                  let there : l.0 < length x.locks.items = omega (arith, k.lock_count) in
                  subst (λ i. IsTally c more i (get_or y.locks.items i d).line
                  (get_or y.locks.items i d).sections.items) (sym same)
                  (tally_noted plan es e at_end before l what _ _ _ _ is (k.locks l.0 d here) (n.line d there)
                  (n.sections d there)))
              | inr other ↦ subst (λ (z : Tally). IsTally c more j z.line z.sections.items)
                  (sym (n.other_locks j d other))
                  (tally_stays plan es e at_end before j _ _ (apart j other) (k.locks j d lt))
            ]

        held : (t : ℕ) (d : Vec LockNo) → t < length plan.threads → (get_or y.held.items t d).items ≡ held_by c more t
        held t d lt =
            elim (cases_eq t e.thread.0) [
              | inl same ↦ (let there : e.thread.0 < length x.held.items = omega (arith, k.thread_count) in
                  subst (λ i. (get_or y.held.items i d).items ≡ held_by c more i) (sym same)
                  (n.held d there ∙ ap (held_after what l) (k.held e.thread.0 d its_thread)
                  ∙ sym (held_noted plan es e l what is)))
              | inr other ↦ ap (λ (z : Vec LockNo). z.items) (n.other_threads t d other) ∙ k.held t d lt
                  ∙ sym (held_stays c es e t other)
            ]

        orders : (a b : ℕ) (d : Vec ℕ) → a < length plan.classes → b < length plan.classes
            → get_or (get_or y.orders.items b d).items a 0 ≡ pairs_of c more a b
        orders a b d la lb =
            let f : Vec LockNo = some_of x.held.items (omega (arith, k.thread_count)) in
            n.orders a b d f (omega (arith, k.class_count)) (omega (arith, k.row_counts b d lb))
            ∙ ap (λ m. m + pairs_by plan what l (get_or x.held.items e.thread.0 f).items a b) (k.orders a b d la lb)
            ∙ ap (λ ks. pairs_of c es a b + pairs_by plan what l ks a b) (k.held e.thread.0 f its_thread)
            ∙ sym (pairs_noted plan es e at_end before a b l what is)

    -- what noting it needs: the line fits, there is room for a section more, and so do the pairs
    module _ (few : length es < 40000) where
      count : length more ≡ length es + 1
      count = length_push es e

      all_before : All (λ (z : Entry). z.ticket < length more) more
      all_before =
          All-push (λ (z : Entry). z.ticket < length more) es e
          (All-weaker (λ (z : Entry). z.ticket < length es) (λ (z : Entry). z.ticket < length more)
          (λ z h. omega (arith, count)) es before) (omega (arith, count))

      pub ready_since : (d : Tally) → l.0 < length x.locks.items
          → All (λ (o : OpenSection). o.since ≤ e.ticket) (get_or x.locks.items l.0 d).sections.items
      ready_since d lt =
          subst (All (λ (o : OpenSection). o.since ≤ e.ticket))
          (sym (k.locks l.0 d (omega (arith, k.lock_count))).its_sections)
          (All-weaker (λ (o : OpenSection). o.since < length es) (λ (o : OpenSection). o.since ≤ e.ticket)
          (λ o h. omega arith) (open_at c es l.0) (opens_since c es l.0 before))

      pub ready_fits : (d : Tally) → l.0 < length x.locks.items
          → Fits (line_after what e.thread.0 e.ticket (get_or x.locks.items l.0 d).sections.items
          (get_or x.locks.items l.0 d).line)
      ready_fits d lt =
          let noted = tally_noted plan es e at_end before l what _ _ _ _ is
          (k.locks l.0 d (omega (arith, k.lock_count))) refl refl in
          subst Fits (sym noted.its_line) (line_fits c more l.0 all_before (omega (arith, count)))

      pub ready_room : (d : Tally) → l.0 < length x.locks.items
          → length (get_or x.locks.items l.0 d).sections.items + 1 < 2 ^ 32
      ready_room d lt =
          omega (arith, ap length (k.locks l.0 d (omega (arith, k.lock_count))).its_sections, opens_few c es l.0)

      pub ready_pairs : e.thread.0 < length plan.threads → (b : ℕ) (d : Vec ℕ) (f : Vec LockNo)
          → b < length x.orders.items
          → All (λ m. m + length (get_or x.held.items e.thread.0 f).items < 2 ^ 32) (get_or x.orders.items b d).items
      ready_pairs its_thread b d f lb a z la =
          let inside : b < length plan.classes = omega (arith, k.class_count) in
          let known : a < length plan.classes = omega (arith, k.row_counts b d inside) in
          let held : length (get_or x.held.items e.thread.0 f).items ≤ length es =
          omega (arith, ap length (k.held e.thread.0 f its_thread), held_few c es e.thread.0) in
          let same = get_or_default (get_or x.orders.items b d).items a z 0 la in
          omega (
            arith,
            same,
            k.orders a b d known inside,
            pairs_few c es a b,
            mul-le (length es) (length es) 40000
                40000 (omega arith) (omega arith),
            held,
          )

-- 3. The entry at a place of a history

module _ (plan : Plan) (h : List Entry) (place : ℕ) (x : Counting) (d : Entry) (lt : place < length h)
    (few : length h ≤ 40000) (tickets : InOrder h) (threads : All (λ (z : Entry). z.thread.0 < length plan.threads) h)
    (k : IsCounted plan (take place h) x) where
  abbrev here : List Entry
  here = take place h

  abbrev entry : Entry
  entry = get_or h place d

  long : length here ≡ place
  long = length-take-le place h (omega arith)

  last : entry.ticket ≡ length here
  last = tickets place d lt ∙ sym long

  here_before : All (λ (z : Entry). z.ticket < length here) here
  here_before i z l =
      let at : i < place = omega (arith, long) in
      let its : (get_or here i z).ticket ≡ i =
      ap (λ (y : Entry). y.ticket) (get_or-take place h i z at) ∙ tickets i z (omega arith) in
      omega (arith, its, long)

  grown : take (place + 1) h ≡ here ++ entry ∷ []
  grown = take_more h place d lt

  short : length here < 40000
  short = omega (arith, long)

  pub entered_unnoted : at_lock plan entry.event ≡ None → IsCounted plan (take (place + 1) h) x
  entered_unnoted is =
      subst (λ es. IsCounted plan es x) (sym grown) (counted_unnoted plan here entry x last here_before k is)

  module _ (l : LockNo) (what : AtLock) (is : at_lock plan entry.event ≡ Some (l, what)) where
    pub entered_noted : (y : Counting) → IsNoted plan what l entry x y → IsCounted plan (take (place + 1) h) y
    entered_noted y n =
        subst (λ es. IsCounted plan es y) (sym grown)
        (counted_noted plan here entry x last here_before k l what is y (threads place d lt) n)

    pub enter_since : (t : Tally) → l.0 < length x.locks.items
        → All (λ (o : OpenSection). o.since ≤ entry.ticket) (get_or x.locks.items l.0 t).sections.items
    enter_since = ready_since plan here entry x last here_before k l what is short

    pub enter_fits : (t : Tally) → l.0 < length x.locks.items
        → Fits (line_after what entry.thread.0 entry.ticket (get_or x.locks.items l.0 t).sections.items
        (get_or x.locks.items l.0 t).line)
    enter_fits = ready_fits plan here entry x last here_before k l what is short

    pub enter_room : (t : Tally) → l.0 < length x.locks.items
        → length (get_or x.locks.items l.0 t).sections.items + 1 < 2 ^ 32
    enter_room = ready_room plan here entry x last here_before k l what is short

    pub enter_pairs : (b : ℕ) (row : Vec ℕ) (held : Vec LockNo) → b < length x.orders.items
        → All (λ m. m + length (get_or x.held.items entry.thread.0 held).items < 2 ^ 32)
        (get_or x.orders.items b row).items
    enter_pairs = ready_pairs plan here entry x last here_before k l what is short (threads place d lt)

-- the tickets of a history are below its length
pub tickets_below : (es : List Entry) → InOrder es → All (λ (z : Entry). z.ticket < length es) es
tickets_below es h i d lt = let its : (get_or es i d).ticket ≡ i = h i d lt in omega arith

-- what holds where a call went well, and follows from that
pub OnOk_then : {A E : Type 0} (r : Result A E) {P Q : Type 0} → OnOk r P → (P → Q) → OnOk r Q
OnOk_then (Ok a) h f = f h
OnOk_then (Err e) h f = tt

-- 4. In the end

module _ (plan : Plan) (es : List Entry) (x : Counting) (before : All (λ (z : Entry). z.ticket < length es) es)
    (few : length es ≤ 40000) (k : IsCounted plan es x) where
  abbrev its : Config
  its = config_of plan

  -- each tally ends as the line of its lock
  ends_as : (l : ℕ) (d : Tally) → l < length plan.locks
      → line_in_end (length es) (get_or x.locks.items l d) ≡ lock_line its es l
  ends_as l d lt =
      ap (λ os. with_lengths (lasted (length es)) os (get_or x.locks.items l d).line) (k.locks l d lt).its_sections
      ∙ ap (with_lengths (lasted (length es)) (open_at its es l)) (k.locks l d lt).its_line
      ∙ line_in_end_is its es l

  pub lines_since : All (λ (t : Tally). All (λ (o : OpenSection). o.since ≤ length es) t.sections.items) x.locks.items
  lines_since =
      All-from_each (λ (t : Tally). All (λ (o : OpenSection). o.since ≤ length es) t.sections.items) x.locks.items
      (λ l d lt. subst (All (λ (o : OpenSection). o.since ≤ length es))
      (sym (k.locks l d (omega (arith, k.lock_count))).its_sections)
      (All-weaker (λ (o : OpenSection). o.since < length es) (λ (o : OpenSection). o.since ≤ length es)
      (λ o h. omega arith) (open_at its es l) (opens_since its es l before)))

  pub lines_total : All (λ (t : Tally). t.line.total + sum_by (lasted (length es)) t.sections.items < 2 ^ 64)
      x.locks.items
  lines_total =
      All-from_each (λ (t : Tally). t.line.total + sum_by (lasted (length es)) t.sections.items < 2 ^ 64) x.locks.items
      (λ l d lt. let here = ap (λ (z : LockLine). z.total) (ends_as l d (omega (arith, k.lock_count))) in
      omega (arith, here, total_few its es l before, mul-le (length es) (length es) 40000 40000 few few))

  pub lines_are : map (line_in_end (length es)) x.locks.items
      ≡ map (lock_line its es) (range_with_len 0 (length plan.locks))
  lines_are =
      map_by_place (line_in_end (length es)) (lock_line its es) 0 x.locks.items
      (λ i d lt. ends_as i d (omega (arith, k.lock_count)) ∙ ap (lock_line its es) (omega arith))
      ∙ ap (λ n. map (lock_line its es) (range_with_len 0 n)) k.lock_count

  pub orders_are : flat_map (row_lines x.orders.items (length plan.classes)) (range_with_len 0 (length plan.classes))
      ≡ order_lines its es (length plan.classes)
  orders_are = flat_map-range _ _ 0 (length plan.classes)
      (λ a la. ap (filter is_seen)
      (map-range (counted_line x.orders.items a) (order_line its es a) 0 (length plan.classes)
      (λ b lb. ap (λ n. pair_line a b n) (same a b (omega arith) (omega arith)))))
    where
      same : (a b : ℕ) → a < length plan.classes → b < length plan.classes
          → get_or (row_at x.orders.items b) a 0 ≡ pairs_of its es a b
      same a b la lb =
          let d : Vec ℕ = some_of x.orders.items (omega (arith, k.class_count)) in
          let there : b < length x.orders.items = omega (arith, k.class_count) in
          ap (λ (row : List ℕ). get_or row a 0) (get_or-map (λ (row : Vec ℕ). row.items) x.orders.items b d [] there)
          ∙ k.orders a b d la lb

-- what a profile is made of
pub profile_made : (plan : Plan) (es : List Entry) (x : Counting) (tickets : InOrder es) (few : length es ≤ 40000)
    (k : IsCounted plan es x) (p : Profile)
    → p.locks ≡ map (line_in_end (length es)) x.locks.items
    → p.orders ≡ flat_map (row_lines x.orders.items (length plan.classes)) (range_with_len 0 (length plan.classes))
    → p ≡ profile_of plan es
profile_made plan es x tickets few k p locks orders =
    made (locks ∙ lines_are plan es x (tickets_below es tickets) few k)
    (orders ∙ orders_are plan es x (tickets_below es tickets) few k)
  where
    made : p.locks ≡ (profile_of plan es).locks → p.orders ≡ (profile_of plan es).orders → p ≡ profile_of plan es
    made u v = λ i. record { locks = u i; orders = v i }
