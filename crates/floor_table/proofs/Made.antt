-- A step of a thread, on whatever table its seat is at: what is asked of the step on a table that represents a sound
-- state, and what it tells then.
use Rattle.std.proofs.Common.{◌≡◌, ◌≢◌, ℕ, suc, ◌<◌, Bool, eqb, Option, Some, None, List, [], ◌∷◌, length, set, refl, sym, ap, ◌∙◌, subst, inl, inr, arith, length-set, get_or-set_same}
use Rattle.std.proofs.lemmas.Bool.{cases_lt}
use Rattle.std.proofs.lemmas.List.{set-get_or}
use Rattle.std.proofs.lemmas.List.Elements.{All-nil}
use Rattle.std.specs.Prelude.{slice_index}
use mathlib.Core.Option as slots
use mathlib.Core.Option.{some}
use lib.ListN.{get_elem?}
use prog.Atomic.{either}
use Rattle.atomic_table.specs.Table.{Me, Act, keeps, takes, gives, put_back, homes_after, Valid, Allows, stepped, carried_after}
use Rattle.atomic_table.proofs.Lists.{exchanged}
use Rattle.lock_model.specs.Counts.{one}
use Rattle.lock_model.specs.Words.{Word, word_of}
use Rattle.lock_state.specs.State.{State, Wait, put}
use Rattle.lock_state.specs.Steps.Items.{Item, item_with}
use Rattle.lock_laws.proofs.Kit.{put_same, put_back as put_again}
use Rattle.lock_laws.proofs.Items.{with_then}
use Rattle.lock_state.specs.Steps.{Step, after_all, maker}
use Rattle.floor_table.specs.Descriptions.{config_in}
use Rattle.floor_table.specs.declared.description.Description.{Description}
use Rattle.floor_table.specs.declared.slot.Slot.{Slot}
use Rattle.floor_table.specs.Views.{OfThread, OfNobody, Pose, Knowledge, nothing, seeing}
use Rattle.floor_table.specs.Places.{spot, lock_line, wait_line, ticket_line, awake_line, ended_line, halt_line, latch_line, word_at, lock_word, latch_word, slots_for, slot_of, home_at}
use Rattle.floor_table.specs.Shares.{share_in}
use Rattle.floor_table.specs.Shelves.{found, Shelves}
use Rattle.floor_table.specs.Past.{past_with, IsSeenBy, AreSeen}
use Rattle.floor_table.specs.Represents.{Board, WordColumns, words_in, wait_number, RepresentsWords, RepresentsLatches, RepresentsObjects, objects_in, IsSeatOf, IsPosed, Represents, keeper_in, thread_in}
use Rattle.floor_table.specs.Steps.{IsSound, FitAll, Fits, Makes}
use Rattle.floor_table.specs.Rule.{FloorHolds}
use Rattle.floor_table.proofs.Lists.{inside, at_or, or_at, or_past, field_set}
use Rattle.floor_table.proofs.Known.{fits_of, seen_of}
use Rattle.floor_table.proofs.Seen.{AreOf, seen_on, seen_stepped}
use Rattle.floor_table.proofs.Sound.{sound_kept}
use Rattle.floor_table.proofs.Items.{place_low, latches_changed}
use Rattle.floor_table.proofs.Shelved.{put_twice, found_first, shelf_taken, shelf_given, shelf_changed}
use Rattle.floor_table.proofs.Stepped.{lock_stepped, wait_stepped, ticket_stepped, count_stepped, latch_stepped, seat_stepped}
use Rattle.floor_table.proofs.Words.{awake_written, ended_written, halt_written}

-- 1. What a step owes

-- on one table, of a sound state, with a word found
abbrev pub Steps : Description → Me Slot Knowledge → ℕ → ℕ → ℕ → (ℕ → Me Slot Knowledge → Type 0) → Board → Type 0
Steps floor me i found new told b =
    (w : Knowledge) × (act : Act Slot) × Valid b.homes me.1 act
    × FloorHolds floor (stepped b i new (suc me.0.thread) me.1 w act) × told found (w, carried_after me.1 act)

-- a table that the step may find
pub record Finds (floor : Description) (v : Knowledge) (b : Board) : Type 0 where
  pub past : List Step
  pub state : State
  pub sound : IsSound floor past state
  pub represents : Represents floor b state
  pub seen : AreSeen b.views past
  pub fits : Fits floor v state
  pub there : get_elem? b.views (suc v.thread) ≡ some v

pub finds : (floor : Description) (b : Board) (i : ℕ) (v : Knowledge) → FloorHolds floor b
    → get_elem? b.views i ≡ some v → v.role ≡ OfThread → (i ≡ suc v.thread) × Finds floor v b
finds floor b i v holds at is =
    let p = fits_of floor b holds.state i v holds.sound holds.represents holds.seen at is in (
      p.0,
      record {
        past = holds.past;
        state = holds.state;
        sound = holds.sound;
        represents = holds.represents;
        seen = holds.seen;
        fits = p.1;
        there = subst (λ j. get_elem? b.views j ≡ some v) p.0 at;
      },
    )

-- so it may be made on each table
pub allows : (floor : Description) (slots id : ℕ) (me : Me Slot Knowledge) (i : ℕ) (f : ℕ → ℕ)
    (told : ℕ → Me Slot Knowledge → Type 0) → me.0.role ≡ OfThread
    → ((b : Board) → Finds floor me.0 b → slice_index b.words i < 18446744073709551616
    → Steps floor me i (slice_index b.words i) (f (slice_index b.words i)) told b)
    → Allows (FloorHolds floor) slots id me i f told
allows floor slots id me i f told is step b holds deep at small =
    let p = finds floor b id me.0 holds at is in
    let q = step b p.1 small in (
      q.0,
      q.1,
      q.2,
      subst (λ j. FloorHolds floor (stepped b i (f (slice_index b.words i)) j me.1 q.0 q.1)) (sym p.0)
          q.3,
      q.4,
    )

-- an exchange hits, or misses and changes no word
pub exchange_allows : (floor : Description) (slots id : ℕ) (me : Me Slot Knowledge) (i old new : ℕ)
    (told : ℕ → Me Slot Knowledge → Type 0) → me.0.role ≡ OfThread
    → ((b : Board) → Finds floor me.0 b → slice_index b.words i ≡ old
    → Steps floor me i (slice_index b.words i) new told b)
    → ((b : Board) → Finds floor me.0 b → slice_index b.words i ≢ old → slice_index b.words i < 18446744073709551616
    → Steps floor me i (slice_index b.words i) (slice_index b.words i) told b)
    → Allows (FloorHolds floor) slots id me i (λ n. either (eqb n old) new n) told
exchange_allows floor slots id me i old new told is hit miss =
    allows floor slots id me i (λ n. either (eqb n old) new n) told is (λ b h small.
    exchanged (slice_index b.words i) old new (λ y. Steps floor me i (slice_index b.words i) y told b) (λ e. hit b h e)
    (λ ne. miss b h ne small))

-- 2. What it tells

-- what a thread's seat knows behind its steps, and that the others' shares stay, and what others' seats know of where
-- their threads are stays so
pub record OwnSteps (v w : Knowledge) (past steps : List Step) (s n : State) : Type 0 where
  pub role : w.role ≡ OfThread
  pub seen : w.seen ≡ past_with past steps
  pub makers : AreOf v.thread steps
  pub seat : IsSeatOf w n v.thread
  pub others : (u : ℕ) → u ≢ v.thread → share_in n u ≡ share_in s u
  pub pose : IsPosed w.pose (n.wait v.thread) (n.blocked_on v.thread)
  pub other_poses : (u : ℕ) → u ≢ v.thread → (p : Pose) → IsPosed p (s.wait u) (s.blocked_on u)
      → IsPosed p (n.wait u) (n.blocked_on u)

-- where the table then represents the state behind steps that may be made, the rule holds, and the thread made them
pub made : (floor : Description) (steps : List Step) (b behind : Board) (v w : Knowledge) (h : Finds floor v b)
    → v.role ≡ OfThread → FitAll floor h.state steps
    → OwnSteps v w h.past steps h.state (after_all (config_in floor) h.state steps)
    → behind.views ≡ set b.views (suc v.thread) w
    → Represents floor behind (after_all (config_in floor) h.state steps)
    → FloorHolds floor behind × Makes floor steps v w
made floor steps b behind v w h role may own views r =
    let here : thread_in b.views v.thread ≡ v = at_or b.views (suc v.thread) v nothing h.there in
    let low : v.thread < (keeper_in b.views).made = let p = inside b.views (suc v.thread) v h.there in
    omega (arith, p, h.represents.seats.made) in (
      record {
        past = past_with h.past steps;
        state = after_all (config_in floor) h.state steps;
        sound = sound_kept floor h.state steps may h.sound;
        represents = r;
        seen = subst (λ vs. AreSeen vs (past_with h.past steps)) (sym views)
            (seen_stepped b.views v.thread v w h.past steps h.there low own.seen own.role own.makers h.seen);
      },
      record {
        role = role;
        role_behind = own.role;
        past = h.past;
        since = seen_of b.views h.past v here h.seen role;
        own = own.makers;
        seen = own.seen;
        before = b;
        behind = behind;
        state = h.state;
        sound = h.sound;
        represents = h.represents;
        may = may;
        represents_behind = r;
        was = here;
        is = ap (λ vs. thread_in vs v.thread) views
            ∙ get_or-set_same b.views (suc v.thread) w nothing (inside b.views (suc v.thread) v h.there);
      },
    )

-- 3. By kind of word

-- the states differ at most in what words say and in shares
pub record SameRest (s n : State) : Type 0 where
  pub items : item_with n ≡ item_with s
  pub objects : objects_in n ≡ objects_in s

module _ (floor : Description) (steps : List Step) (b : Board) (v w : Knowledge) (h : Finds floor v b)
    (was : v.role ≡ OfThread) (may : FitAll floor h.state steps)
    (own : OwnSteps v w h.past steps h.state (after_all (config_in floor) h.state steps)) (cs : List (ℕ × Slot)) where
  abbrev s : State
  s = h.state

  abbrev n : State
  n = after_all (config_in floor) h.state steps

  abbrev outs : ℕ → List (ℕ × Slot)
  outs u = (thread_in b.views u).out

  pub own_out : outs v.thread ≡ v.out
  own_out = ap (λ (k : Knowledge). k.out) (at_or b.views (suc v.thread) v nothing h.there)

  -- where nothing goes out or comes home
  pub outs_stay : w.out ≡ v.out → outs ≡ put outs v.thread w.out
  outs_stay e = sym (put_again outs v.thread w.out (own_out ∙ sym e))

  -- a word of a lock changes, and with it values that are out
  pub lock_made_with : (l x : ℕ) (y : Word) (content : ℕ → Slot) → l < length floor.locks → word_of x ≡ y
      → words_in n ≡ record (words_in s) { word = put s.word l y } → item_with n ≡ item_with s → w.spare ≡ v.spare
      → Shelves (slots_for floor) (latch_word b.words) (home_at b.homes) (put outs v.thread w.out) content
      → RepresentsObjects floor content (objects_in n)
      → FloorHolds floor (stepped b (spot (lock_line l)) x (suc v.thread) cs w keeps) × Makes floor steps v w
  lock_made_with l x y content low says columns items spares shelves objects =
      let behind : Board = stepped b (spot (lock_line l)) x (suc v.thread) cs w keeps in
      made floor steps b behind v w h was may own refl
      (lock_stepped floor b s n h.represents v.thread v w h.there was own.role own.seat own.others own.pose
      own.other_poses cs l x y content low says columns items spares shelves objects)

  -- and none of them
  pub lock_made : (l x : ℕ) (y : Word) → l < length floor.locks → word_of x ≡ y
      → words_in n ≡ record (words_in s) { word = put s.word l y } → SameRest s n → w.spare ≡ v.spare → w.out ≡ v.out
      → FloorHolds floor (stepped b (spot (lock_line l)) x (suc v.thread) cs w keeps) × Makes floor steps v w
  lock_made l x y low says columns rest spares out =
      let r = h.represents in
      lock_made_with l x y r.content low says columns rest.items spares
      (subst (λ o. Shelves (slots_for floor) (latch_word b.words) (home_at b.homes) o r.content) (outs_stay out)
      r.shelves)
      (subst (RepresentsObjects floor r.content) (sym rest.objects) r.objects)

  -- the word stays
  pub lock_seen : (l : ℕ) → l < length floor.locks → words_in n ≡ words_in s → SameRest s n → w.spare ≡ v.spare
      → w.out ≡ v.out
      → FloorHolds floor (stepped b (spot (lock_line l)) (lock_word b.words l) (suc v.thread) cs w keeps)
      × Makes floor steps v w
  lock_seen l low columns rest spares out =
      lock_made l (lock_word b.words l) (s.word l) low (h.represents.words.locks l low)
      (columns ∙ ap (λ (f : ℕ → Word). record (words_in s) { word = f }) (sym (put_again s.word l (s.word l) refl)))
      rest spares out

  -- the wait word of a thread changes, and with it values that are out
  pub wait_made : (u x : ℕ) (y : Wait) (content : ℕ → Slot) → u < length floor.threads → x ≡ wait_number y
      → words_in n ≡ record (words_in s) { wait = put s.wait u y } → item_with n ≡ item_with s → w.spare ≡ v.spare
      → Shelves (slots_for floor) (latch_word b.words) (home_at b.homes) (put outs v.thread w.out) content
      → RepresentsObjects floor content (objects_in n)
      → FloorHolds floor (stepped b (spot (wait_line u)) x (suc v.thread) cs w keeps) × Makes floor steps v w
  wait_made u x y content low says columns items spares shelves objects =
      let behind : Board = stepped b (spot (wait_line u)) x (suc v.thread) cs w keeps in
      made floor steps b behind v w h was may own refl
      (wait_stepped floor b s n h.represents v.thread v w h.there was own.role own.seat own.others own.pose
      own.other_poses cs u x y content low says columns items spares shelves objects)

  -- an entry is made, by which values that are out may change
  pub ticket_made : (x : ℕ) (content : ℕ → Slot) → x ≡ suc (word_at b.words ticket_line)
      → words_in n ≡ record (words_in s) { next = suc s.next } → item_with n ≡ item_with s → suc w.spare ≡ v.spare
      → Shelves (slots_for floor) (latch_word b.words) (home_at b.homes) (put outs v.thread w.out) content
      → RepresentsObjects floor content (objects_in n)
      → FloorHolds floor (stepped b (spot ticket_line) x (suc v.thread) cs w keeps) × Makes floor steps v w
  ticket_made x content more columns items spares shelves objects =
      let behind : Board = stepped b (spot ticket_line) x (suc v.thread) cs w keeps in
      made floor steps b behind v w h was may own refl
      (ticket_stepped floor b s n h.represents v.thread v w h.there was own.role own.seat own.others own.pose
      own.other_poses cs x content more columns items spares shelves objects)

  -- a count of threads, or the halt word, changes, and none of the values that are out
  count_made : (line x : ℕ) (y : WordColumns) → line < 128 → y.next ≡ s.next
      → RepresentsWords floor (set b.words (spot line) x) y → words_in n ≡ y → SameRest s n → w.spare ≡ v.spare
      → w.out ≡ v.out → FloorHolds floor (stepped b (spot line) x (suc v.thread) cs w keeps) × Makes floor steps v w
  count_made line x y low same says columns rest spares out =
      let r = h.represents in
      let behind : Board = stepped b (spot line) x (suc v.thread) cs w keeps in
      made floor steps b behind v w h was may own refl
      (count_stepped floor b s n r v.thread v w h.there was own.role own.seat own.others own.pose own.other_poses cs
      line x y r.content low same says columns rest.items spares
      (subst (λ o. Shelves (slots_for floor) (latch_word b.words) (home_at b.homes) o r.content) (outs_stay out)
      r.shelves)
      (subst (RepresentsObjects floor r.content) (sym rest.objects) r.objects))

  -- how many threads are awake,
  pub awake_made : (x : ℕ) → words_in n ≡ record (words_in s) { awake = x } → SameRest s n → w.spare ≡ v.spare
      → w.out ≡ v.out
      → FloorHolds floor (stepped b (spot awake_line) x (suc v.thread) cs w keeps)
      × (m : Makes floor steps v w) × (m.state ≡ h.state)
  unfolding count_made made
  awake_made x columns rest spares out =
      let z = h.represents.sizes in
      let done = count_made awake_line x (record (words_in s) { awake = x }) (omega arith) refl
      (awake_written floor z.sized b.words (words_in s) h.represents.words x (omega (arith, z.words))) columns rest
      spares out in
      (done.0, done.1, refl)

  -- how many have ended,
  pub ended_made : (x : ℕ) → words_in n ≡ record (words_in s) { ended = x } → SameRest s n → w.spare ≡ v.spare
      → w.out ≡ v.out
      → FloorHolds floor (stepped b (spot ended_line) x (suc v.thread) cs w keeps) × Makes floor steps v w
  ended_made x columns =
      let z = h.represents.sizes in
      count_made ended_line x (record (words_in s) { ended = x }) (omega arith) refl
      (ended_written floor z.sized b.words (words_in s) h.represents.words x (omega (arith, z.words))) columns

  -- and whether a finder halts others
  pub halt_made : (x : Bool) → words_in n ≡ record (words_in s) { halted = x } → SameRest s n → w.spare ≡ v.spare
      → w.out ≡ v.out
      → FloorHolds floor (stepped b (spot halt_line) (one x) (suc v.thread) cs w keeps) × Makes floor steps v w
  halt_made x columns =
      let z = h.represents.sizes in
      count_made halt_line (one x) (record (words_in s) { halted = x }) (omega arith) refl
      (halt_written floor z.sized b.words (words_in s) h.represents.words x (omega (arith, z.words))) columns

  -- a latch is read, and with it values that are out change
  pub latch_seen_with : (j : ℕ) (content : ℕ → Slot) → j < slots_for floor → words_in n ≡ words_in s
      → item_with n ≡ item_with s → w.spare ≡ v.spare
      → Shelves (slots_for floor) (latch_word b.words) (home_at b.homes) (put outs v.thread w.out) content
      → RepresentsObjects floor content (objects_in n)
      → FloorHolds floor (stepped b (spot (latch_line j)) (latch_word b.words j) (suc v.thread) cs w keeps)
      × Makes floor steps v w
  latch_seen_with j content low columns items spares shelves objects =
      let r = h.represents in
      let behind : Board = stepped b (spot (latch_line j)) (latch_word b.words j) (suc v.thread) cs w keeps in
      let same : put (latch_word b.words) j (latch_word b.words j) ≡ latch_word b.words =
      put_again (latch_word b.words) j (latch_word b.words j) refl in
      made floor steps b behind v w h was may own refl
      (latch_stepped floor b s n r v.thread v w h.there was own.role own.seat own.others own.pose own.other_poses cs j
      (latch_word b.words j) keeps content low refl columns spares
      (subst (λ (z : (ℕ → ℕ) × (Item → Option ℕ)). RepresentsLatches floor z.0 z.1) (λ i. (sym same i, sym items i))
      r.latches)
      (subst (λ (z : ℕ → ℕ). Shelves (slots_for floor) z (home_at b.homes) (put outs v.thread w.out) content) (sym same)
      shelves) objects)

  -- the states differ at most in who has an item out
  pub record SameButOut (i : Item) (o : Option ℕ) : Type 0 where
    pub words : words_in n ≡ words_in s
    pub items : item_with n ≡ with_then s i o
    pub objects : objects_in n ≡ objects_in s

  -- the value of a free latch goes out
  pub take_made : (i : Item) (j : ℕ) → slot_of floor i ≡ Some j → latch_word b.words j ≡ 0
      → SameButOut i (Some v.thread) → w.spare ≡ v.spare → w.out ≡ (j, h.represents.content j) ∷ v.out
      → FloorHolds floor (stepped b (spot (latch_line j)) (suc v.thread) (suc v.thread) cs w
      (takes j (h.represents.content j))) × Makes floor steps v w
  take_made i j place free rest spares out =
      let r = h.represents in
      let x : Slot = r.content j in
      let behind : Board = stepped b (spot (latch_line j)) (suc v.thread) (suc v.thread) cs w (takes j x) in
      let low = place_low floor i j place in
      let fits : j < length b.homes = omega (arith, low, r.sizes.slots) in
      made floor steps b behind v w h was may own refl
      (latch_stepped floor b s n r v.thread v w h.there was own.role own.seat own.others own.pose own.other_poses cs j
      (suc v.thread) (takes j x) r.content low (length-set b.homes j slots.none) rest.words spares
      (subst (RepresentsLatches floor (put (latch_word b.words) j (suc v.thread))) (sym rest.items)
      (latches_changed floor s (latch_word b.words) i j (suc v.thread) (Some v.thread) place refl r.latches))
      (subst (λ (z : (ℕ → slots.Option Slot) × List (ℕ × Slot)). Shelves (slots_for floor)
      (put (latch_word b.words) j (suc v.thread)) z.0 (put outs v.thread z.1) r.content)
      (λ k. (
        sym (field_set (λ (o : slots.Option Slot). o) b.homes j slots.none slots.none fits) k,
        (ap (λ os. (j, x) ∷ os) own_out ∙ sym out) k,
      ))
      (shelf_taken (slots_for floor) (latch_word b.words) (home_at b.homes) outs r.content r.shelves j v.thread
      low free))
      (subst (RepresentsObjects floor r.content) (sym rest.objects) r.objects))

  -- the value taken last comes home, after it was changed where it was
  pub give_made_with : (i : Item) (j : ℕ) (x y : Slot) (xs more : List (ℕ × Slot)) → slot_of floor i ≡ Some j
      → cs ≡ (j, y) ∷ more → v.out ≡ (j, x) ∷ xs → words_in n ≡ words_in s → item_with n ≡ with_then s i None
      → w.spare ≡ v.spare → w.out ≡ xs → RepresentsObjects floor (put h.represents.content j y) (objects_in n)
      → FloorHolds floor (stepped b (spot (latch_line j)) 0 (suc v.thread) cs w gives) × Makes floor steps v w
  give_made_with i j x y xs more place carried was_out words items spares out objects =
      let r = h.represents in
      let content : ℕ → Slot = put r.content j y in
      let behind : Board = stepped b (spot (latch_line j)) 0 (suc v.thread) cs w gives in
      let low = place_low floor i j place in
      let fits : j < length b.homes = omega (arith, low, r.sizes.slots) in
      let homes : homes_after b.homes cs gives ≡ set b.homes j (some y) = ap (put_back b.homes) carried in
      let changed : Shelves (slots_for floor) (latch_word b.words) (home_at b.homes) (put outs v.thread ((j, y) ∷ xs))
      content =
      shelf_changed (slots_for floor) (latch_word b.words) (home_at b.homes) outs r.content r.shelves j v.thread x y xs
      (own_out ∙ was_out) in
      let given = shelf_given (slots_for floor) (latch_word b.words) (home_at b.homes)
      (put outs v.thread ((j, y) ∷ xs)) content changed j v.thread y xs (put_same outs v.thread ((j, y) ∷ xs)) in
      made floor steps b behind v w h was may own refl
      (latch_stepped floor b s n r v.thread v w h.there was own.role own.seat own.others own.pose own.other_poses cs j 0
      gives content low (ap (λ hs. length hs) homes ∙ length-set b.homes j (some y)) words spares
      (subst (RepresentsLatches floor (put (latch_word b.words) j 0)) (sym items)
      (latches_changed floor s (latch_word b.words) i j 0 None place refl r.latches))
      (subst (λ (z : (ℕ → slots.Option Slot) × (ℕ → List (ℕ × Slot))). Shelves (slots_for floor)
      (put (latch_word b.words) j 0) z.0 z.1 content)
      (λ k. (
        sym (ap home_at homes ∙ field_set (λ (o : slots.Option Slot). o) b.homes j (some y) slots.none fits) k,
        (put_twice outs v.thread ((j, y) ∷ xs) xs ∙ ap (put outs v.thread) (sym out)) k,
      ))
      given)
      objects)

  -- or as it was
  pub give_made : (i : Item) (j : ℕ) (x : Slot) (xs more : List (ℕ × Slot)) → slot_of floor i ≡ Some j
      → cs ≡ (j, x) ∷ more → v.out ≡ (j, x) ∷ xs → SameButOut i None → w.spare ≡ v.spare → w.out ≡ xs
      → FloorHolds floor (stepped b (spot (latch_line j)) 0 (suc v.thread) cs w gives) × Makes floor steps v w
  give_made i j x xs more place carried was_out rest spares out =
      let r = h.represents in
      let its : x ≡ r.content j =
      (r.shelves.taken j v.thread x (ap (found j) (own_out ∙ was_out) ∙ found_first j x xs)).2 in
      give_made_with i j x x xs more place carried was_out rest.words rest.items spares out
      (subst (λ z. RepresentsObjects floor z (objects_in n)) (sym (put_again r.content j x (sym its)))
      (subst (RepresentsObjects floor r.content) (sym rest.objects) r.objects))

-- 4. No step

-- an exchange that misses, or a load: the seat has seen all steps that were made before it
pub none_made : (floor : Description) (b : Board) (v : Knowledge) (h : Finds floor v b) → v.role ≡ OfThread
    → (i : ℕ) (cs : List (ℕ × Slot))
    → FloorHolds floor (stepped b i (slice_index b.words i) (suc v.thread) cs (seeing h.past v) keeps)
    × (m : Makes floor [] v (seeing h.past v)) × (m.state ≡ h.state)
unfolding made
none_made floor b v h was i cs =
    let w : Knowledge = seeing h.past v in
    let behind : Board = stepped b i (slice_index b.words i) (suc v.thread) cs w keeps in
    let own : OwnSteps v w h.past [] h.state h.state = record {
      role = was;
      seen = refl;
      makers = All-nil (λ step. maker step ≡ v.thread);
      seat = record { thread = refl; share = h.fits.share };
      others = λ u ne. refl;
      pose = h.fits.pose;
      other_poses = λ u ne p k. k;
    } in
    let r : Represents floor (record { words = b.words; homes = b.homes; views = set b.views (suc v.thread) w })
    h.state = seat_stepped floor b h.state h.represents v.thread v w h.there was was own.seat refl refl refl in
    let done = made floor [] b behind v w h was tt own refl
    (subst (λ ws. Represents floor (record { words = ws; homes = b.homes; views = set b.views (suc v.thread) w })
    h.state) (sym (set-get_or b.words i 0)) r) in
    (done.0, done.1, refl)

-- a step of a thread that saw more since its last one is a step from what it knew before
pub sooner : (floor : Description) (steps seen : List Step) (old new : Knowledge) → IsSeenBy old.thread old.seen seen
    → Makes floor steps (seeing seen old) new → Makes floor steps old new
sooner floor steps seen old new since m =
    let t = old.thread in
    let vs : List Knowledge = m.before.views in
    let is : (thread_in vs t).role ≡ OfThread = ap (λ (k : Knowledge). k.role) m.was ∙ m.role in
    let low : suc t < length vs = seat_low vs t is in
    let its = subst (λ (k : Knowledge). IsSeatOf k m.state t) m.was (m.represents.seats.thread t is) in
    record {
      role = m.role;
      role_behind = m.role_behind;
      past = m.past;
      since = seen_on t old.seen seen m.past since m.since;
      own = m.own;
      seen = m.seen;
      before = record { words = m.before.words; homes = m.before.homes; views = set vs (suc t) old };
      behind = m.behind;
      state = m.state;
      sound = m.sound;
      represents = seat_stepped floor m.before m.state m.represents t (seeing seen old) old
          (or_at vs (suc t) nothing low ∙ ap some m.was) m.role m.role
          (record { thread = its.thread; share = its.share }) refl refl refl;
      may = m.may;
      represents_behind = m.represents_behind;
      was = get_or-set_same vs (suc t) old nothing low;
      is = m.is;
    }
  where
    seat_low : (vs : List Knowledge) (t : ℕ) → (thread_in vs t).role ≡ OfThread → suc t < length vs
    seat_low vs t is = elim (cases_lt (suc t) (length vs)) [
      | inl l ↦ l
      | inr past ↦ absurd (let z : OfNobody ≡ OfThread = ap (λ (k : Knowledge). k.role)
          (sym (or_past vs (suc t) nothing past)) ∙ is in cc)
    ]
