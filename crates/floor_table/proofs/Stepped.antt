-- A table in which a step of a thread changed one word represents the state behind the step: one lemma for each kind of
-- word. What the step did to the thread's share, to where it is, to its item or to the next ticket is asked; all else
-- stays.
use Rattle.std.proofs.Common.{◌≡◌, ◌≢◌, ℕ, suc, ◌+◌, ◌<◌, Option, List, length, set, refl, sym, ap, ◌∙◌, subst, inl, inr, arith, length-set, get_or-set_same, get_or-set_other}
use Rattle.std.proofs.lemmas.Bool.{cases_eq}
use mathlib.Core.Option.{some}
use lib.ListN.{get_elem?}
use Rattle.atomic_table.specs.Table.{Act, keeps, stepped, homes_after}
use Rattle.lock_model.specs.Words.{Word, word_of}
use Rattle.lock_state.specs.State.{State, Wait, put}
use Rattle.lock_state.specs.Steps.Items.{Item, item_with}
use Rattle.lock_laws.proofs.Kit.{put_same, put_other, put_back as put_again}
use Rattle.floor_table.specs.declared.description.Description.{Description}
use Rattle.floor_table.specs.declared.slot.Slot.{Slot}
use Rattle.floor_table.specs.Places.{spot, lock_line, wait_line, ticket_line, latch_line, latch_word, word_at, slots_for, home_at}
use Rattle.floor_table.specs.Shares.{share_in}
use Rattle.floor_table.specs.Shelves.{Shelves}
use Rattle.floor_table.specs.Views.{OfThread, Pose, Knowledge, nothing}
use Rattle.floor_table.specs.Represents.{Board, WordColumns, words_in, wait_number, RepresentsWords, RepresentsLatches, RepresentsObjects, objects_in, thread_in, spare, IsSeatOf, IsPosed, Represents}
use Rattle.floor_table.proofs.Lists.{inside, at_or}
use Rattle.floor_table.proofs.Words.{lock_written, wait_written, ticket_written, latch_written, latches_stay, latch_changes}
use Rattle.floor_table.proofs.Seats.{total_set, seats_stepped}

-- what is out with each thread, after a write of one seat
pub outs_after : (vs : List Knowledge) (t : ℕ) (w : Knowledge) → suc t < length vs
    → (λ u. (thread_in (set vs (suc t) w) u).out) ≡ put (λ u. (thread_in vs u).out) t w.out
outs_after vs t w fits = λ k u. at u k
  where
    at : (u : ℕ) → (thread_in (set vs (suc t) w) u).out ≡ put (λ u. (thread_in vs u).out) t w.out u
    at u = elim (cases_eq t u) [
      | inl e ↦ subst (λ j. (thread_in (set vs (suc t) w) j).out ≡ put (λ u. (thread_in vs u).out) t w.out j) e
          (ap (λ (x : Knowledge). x.out) (get_or-set_same vs (suc t) w nothing fits)
          ∙ sym (put_same (λ u. (thread_in vs u).out) t w.out))
      | inr ne ↦ ap (λ (x : Knowledge). x.out) (get_or-set_other vs (suc t) (suc u) w nothing (λ e. ne (omega arith)))
          ∙ sym (put_other (λ u. (thread_in vs u).out) t w.out u ne)
    ]

module _ (floor : Description) (b : Board) (s n : State) (r : Represents floor b s) (t : ℕ) (v w : Knowledge)
    (at : get_elem? b.views (suc t) ≡ some v) (was : v.role ≡ OfThread) (is : w.role ≡ OfThread) (mine : IsSeatOf w n t)
    (others : (u : ℕ) → u ≢ t → share_in n u ≡ share_in s u)
    (pose : IsPosed w.pose (n.wait t) (n.blocked_on t))
    (other_poses : (u : ℕ) → u ≢ t → (p : Pose) → IsPosed p (s.wait u) (s.blocked_on u)
    → IsPosed p (n.wait u) (n.blocked_on u)) (cs : List (ℕ × Slot)) where
  abbrev outs : ℕ → List (ℕ × Slot)
  outs u = (thread_in b.views u).out

  seats_fit : suc t < length b.views
  seats_fit = inside b.views (suc t) v at

  -- 1. Any word. What the words and the latches then say is asked, and that no room for entries is lost

  word_stepped : (i x : ℕ) (act : Act Slot) (content : ℕ → Slot) → length (homes_after b.homes cs act) ≡ length b.homes
      → RepresentsWords floor (set b.words i x) (words_in n) → n.next + w.spare ≡ s.next + v.spare
      → RepresentsLatches floor (latch_word (set b.words i x)) (item_with n)
      → Shelves (slots_for floor) (latch_word (set b.words i x)) (home_at (homes_after b.homes cs act))
      (put outs t w.out) content → RepresentsObjects floor content (objects_in n)
      → Represents floor (stepped b i x (suc t) cs w act) n
  word_stepped i x act content homes words spares latches shelves objects = record {
    sizes = record {
      words = length-set b.words i x ∙ r.sizes.words;
      slots = homes ∙ r.sizes.slots;
      sized = r.sizes.sized;
    };
    words = words;
    room = let p = total_set spare b.views (suc t) v w at in omega (arith, p, r.room, spares);
    latches = latches;
    content = content;
    shelves = subst (λ (z : ℕ → List (ℕ × Slot)). Shelves (slots_for floor) (latch_word (set b.words i x))
        (home_at (homes_after b.homes cs act)) z content) (sym (outs_after b.views t w seats_fit)) shelves;
    objects = objects;
    seats = seats_stepped floor b.views s r.seats n t v w at was is mine others pose other_poses;
  }

  -- a word that is no latch's, where no value goes out or comes home
  below_turns : (line x : ℕ) (content : ℕ → Slot) → line < 128
      → RepresentsWords floor (set b.words (spot line) x) (words_in n) → n.next + w.spare ≡ s.next + v.spare
      → item_with n ≡ item_with s
      → Shelves (slots_for floor) (latch_word b.words) (home_at b.homes) (put outs t w.out) content
      → RepresentsObjects floor content (objects_in n)
      → Represents floor (stepped b (spot line) x (suc t) cs w keeps) n
  below_turns line x content low words spares items shelves objects =
      let latches : latch_word (set b.words (spot line) x) ≡ latch_word b.words = latches_stay b.words line x low in
      word_stepped (spot line) x keeps content refl words spares
      (subst (λ (z : (ℕ → ℕ) × (Item → Option ℕ)). RepresentsLatches floor z.0 z.1) (λ i. (sym latches i, sym items i))
      r.latches)
      (subst (λ (z : ℕ → ℕ). Shelves (slots_for floor) z (home_at b.homes) (put outs t w.out) content) (sym latches)
      shelves)
      objects

  -- 2. The word of a lock

  pub lock_stepped : (l x : ℕ) (y : Word) (content : ℕ → Slot) → l < length floor.locks → word_of x ≡ y
      → words_in n ≡ record (words_in s) { word = put s.word l y } → item_with n ≡ item_with s → w.spare ≡ v.spare
      → Shelves (slots_for floor) (latch_word b.words) (home_at b.homes) (put outs t w.out) content
      → RepresentsObjects floor content (objects_in n)
      → Represents floor (stepped b (spot (lock_line l)) x (suc t) cs w keeps) n
  lock_stepped l x y content low says columns items spares shelves objects =
      let few = r.sizes.sized.locks in
      let fits : spot (lock_line l) < length b.words = omega (arith, r.sizes.words, few, low) in
      let next = ap (λ (k : WordColumns). k.next) columns in
      below_turns (lock_line l) x content (omega (arith, few, low))
      (subst (RepresentsWords floor (set b.words (spot (lock_line l)) x)) (sym columns)
      (lock_written floor r.sizes.sized b.words (words_in s) r.words l x y low fits says))
      (omega (arith, next, spares)) items shelves objects

  -- 3. The wait word of a thread

  pub wait_stepped : (u x : ℕ) (y : Wait) (content : ℕ → Slot) → u < length floor.threads → x ≡ wait_number y
      → words_in n ≡ record (words_in s) { wait = put s.wait u y } → item_with n ≡ item_with s → w.spare ≡ v.spare
      → Shelves (slots_for floor) (latch_word b.words) (home_at b.homes) (put outs t w.out) content
      → RepresentsObjects floor content (objects_in n)
      → Represents floor (stepped b (spot (wait_line u)) x (suc t) cs w keeps) n
  wait_stepped u x y content low says columns items spares shelves objects =
      let few = r.sizes.sized.threads in
      let fits : spot (wait_line u) < length b.words = omega (arith, r.sizes.words, few, low) in
      let next = ap (λ (k : WordColumns). k.next) columns in
      below_turns (wait_line u) x content (omega (arith, few, low))
      (subst (RepresentsWords floor (set b.words (spot (wait_line u)) x)) (sym columns)
      (wait_written floor r.sizes.sized b.words (words_in s) r.words u x y low fits says))
      (omega (arith, next, spares)) items shelves objects

  -- 4. The ticket word, by which an entry is made

  pub ticket_stepped : (x : ℕ) (content : ℕ → Slot) → x ≡ suc (word_at b.words ticket_line)
      → words_in n ≡ record (words_in s) { next = suc s.next } → item_with n ≡ item_with s → suc w.spare ≡ v.spare
      → Shelves (slots_for floor) (latch_word b.words) (home_at b.homes) (put outs t w.out) content
      → RepresentsObjects floor content (objects_in n)
      → Represents floor (stepped b (spot ticket_line) x (suc t) cs w keeps) n
  ticket_stepped x content more columns items spares shelves objects =
      let fits : spot ticket_line < length b.words = omega (arith, r.sizes.words) in
      let next = ap (λ (k : WordColumns). k.next) columns in
      let its : x ≡ suc s.next = more ∙ ap suc r.words.ticket in
      below_turns ticket_line x content (omega arith)
      (subst (RepresentsWords floor (set b.words (spot ticket_line) x))
      (ap (λ (k : ℕ). record (words_in s) { next = k }) its ∙ sym columns)
      (ticket_written floor r.sizes.sized b.words (words_in s) r.words x fits))
      (omega (arith, next, spares)) items shelves objects

  -- 5. A count of threads, or the halt word: what the words say then is asked

  pub count_stepped : (line x : ℕ) (y : WordColumns) (content : ℕ → Slot) → line < 128 → y.next ≡ s.next
      → RepresentsWords floor (set b.words (spot line) x) y → words_in n ≡ y → item_with n ≡ item_with s
      → w.spare ≡ v.spare
      → Shelves (slots_for floor) (latch_word b.words) (home_at b.homes) (put outs t w.out) content
      → RepresentsObjects floor content (objects_in n)
      → Represents floor (stepped b (spot line) x (suc t) cs w keeps) n
  count_stepped line x y content low same says columns items spares shelves objects =
      let next = ap (λ (k : WordColumns). k.next) columns in
      below_turns line x content low (subst (RepresentsWords floor (set b.words (spot line) x)) (sym columns) says)
      (omega (arith, next, same, spares)) items shelves objects

  -- 6. A latch, by which a value goes out or comes home

  pub latch_stepped : (j x : ℕ) (act : Act Slot) (content : ℕ → Slot) → j < slots_for floor
      → length (homes_after b.homes cs act) ≡ length b.homes → words_in n ≡ words_in s → w.spare ≡ v.spare
      → RepresentsLatches floor (put (latch_word b.words) j x) (item_with n)
      → Shelves (slots_for floor) (put (latch_word b.words) j x) (home_at (homes_after b.homes cs act))
      (put outs t w.out) content → RepresentsObjects floor content (objects_in n)
      → Represents floor (stepped b (spot (latch_line j)) x (suc t) cs w act) n
  latch_stepped j x act content low homes columns spares latched shelves objects =
      let fits : spot (latch_line j) < length b.words = omega (arith, r.sizes.words, low) in
      let latches : latch_word (set b.words (spot (latch_line j)) x) ≡ put (latch_word b.words) j x =
      latch_changes b.words j x fits in
      let next = ap (λ (k : WordColumns). k.next) columns in
      word_stepped (spot (latch_line j)) x act content homes
      (subst (RepresentsWords floor (set b.words (spot (latch_line j)) x)) (sym columns)
      (latch_written floor r.sizes.sized b.words (words_in s) r.words j x))
      (omega (arith, next, spares))
      (subst (λ (z : ℕ → ℕ). RepresentsLatches floor z (item_with n)) (sym latches) latched)
      (subst (λ (z : ℕ → ℕ). Shelves (slots_for floor) z (home_at (homes_after b.homes cs act)) (put outs t w.out)
      content) (sym latches) shelves)
      objects

-- 7. No word: a seat has seen more, and its share, what it has out, its room for entries and where it is stay

module _ (floor : Description) (b : Board) (s : State) (r : Represents floor b s) (t : ℕ) (v w : Knowledge)
    (at : get_elem? b.views (suc t) ≡ some v) (was : v.role ≡ OfThread) (is : w.role ≡ OfThread) (mine : IsSeatOf w s t)
    (spares : w.spare ≡ v.spare) (out : w.out ≡ v.out) (pose : w.pose ≡ v.pose) where
  abbrev old_outs : ℕ → List (ℕ × Slot)
  old_outs u = (thread_in b.views u).out

  outs_stay : (λ u. (thread_in (set b.views (suc t) w) u).out) ≡ old_outs
  outs_stay =
      let mine_was : old_outs t ≡ w.out = ap (λ (x : Knowledge). x.out) (at_or b.views (suc t) v nothing at)
      ∙ sym out in
      outs_after b.views t w (inside b.views (suc t) v at) ∙ put_again old_outs t w.out mine_was

  its_pose : IsPosed w.pose (s.wait t) (s.blocked_on t)
  its_pose =
      subst (λ p. IsPosed p (s.wait t) (s.blocked_on t))
      (ap (λ (x : Knowledge). x.pose) (at_or b.views (suc t) v nothing at) ∙ sym pose) (r.seats.poses t)

  pub seat_stepped : Represents floor (record { words = b.words; homes = b.homes; views = set b.views (suc t) w }) s
  seat_stepped = record {
    sizes = record {
      words = r.sizes.words;
      slots = r.sizes.slots;
      sized = r.sizes.sized;
    };
    words = r.words;
    room = let p = total_set spare b.views (suc t) v w at in omega (arith, p, r.room, spares);
    latches = r.latches;
    content = r.content;
    shelves = subst (λ (z : ℕ → List (ℕ × Slot)). Shelves (slots_for floor) (latch_word b.words) (home_at b.homes) z
        r.content) (sym outs_stay) r.shelves;
    objects = r.objects;
    seats = seats_stepped floor b.views s r.seats s t v w at was is mine (λ u ne. refl) its_pose (λ u ne p h. h);
  }
