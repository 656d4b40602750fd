-- A thread at rest is at rest again behind its calls: behind an entry, behind the use of an item, behind a busy try,
-- behind a gain with its entry, and behind a release with its entry.
use Rattle.lock_floor.proofs.Names
use Names.{ℕ, Bool, true, false, cond, eqb, Option, None, Some, List, [], refl, sym, ap, subst, inl, inr, arith, eq-eqb}
use Names.{cases_eq, ne_eqb, rest, hold_in-push, own_section, sections_stay, Config, Sections, open_in, sections_in}
use Names.{sections_by, replaced, Hold, NotHeld, Holds, hold_in, without_lock, Word, Entry, Event, Locked, Tried, Busy}
use Names.{Unlocked, Sleeps, Woke, HaltedChan, HaltedLock, WokeOne, WokeAll, Held, LockNo, Mode, State, NoWalk, Round}
use Names.{Wake, start_state, Step, Stamps, GivesItem, NotesInRound, HasOutForEntry, Item, is_chain, in_its_chain}
use Names.{seen_after, Asks, is_sleep, is_taking_back, changes_sections, looks_after, round_after, taking_after}
use Names.{unstamped_after, after_stamp, config_in, Description, Slot, slot_of, Doing, ShareColumns, is_among, Fits}
use Names.{MayMake, Makes, MakesEach, Runs, Knowledge, seeing, changed, last_changed, stamped_change, Floor, Pass}
use Names.{IsGoing, IsAtRest, IsReady, MakesEntry, with_item, Takes, looked, others, gained, put_down, begun_by, took}
use Names.{gave, entry_by, stamped}
use Rattle.std.proofs.Common.{◌≡◌, ◌≢◌, ◌+◌, ◌≤◌, ◌||◌, ◌∷◌, ◌++◌, ◌∙◌}
use Rattle.lock_floor.specs.Passes.{IsOf}
use Rattle.lock_floor.proofs.May.{is_record_or_cell, own_log, may_stamp, may_give}
use Rattle.lock_floor.proofs.Shares.{among_stays}

-- 1. What the thread is about, beside the locks that it holds

pub record IsIdle (v : Knowledge) : Type 0 where
  pub runs : v.pose ≡ Runs
  pub nothing_out : v.out ≡ []
  pub no_walk : v.share.doing.walk ≡ NoWalk
  pub unmarked : v.share.doing.marked ≡ []
  pub uncounted : v.share.doing.counting ≡ None
  pub wants_nothing : v.share.doing.wanted ≡ None
  pub takes_nothing : v.share.doing.taking ≡ None
  pub no_round : v.share.doing.round ≡ None
  pub no_looks : v.share.doing.looks ≡ 0
  pub unnoted : v.share.doing.noted ≡ None
  pub going : IsGoing v
  pub no_wait : is_taking_back v.share.log ≡ false

abbrev pub idle : (floor : Description) (v : Knowledge) → IsAtRest floor v → IsIdle v
idle floor v r = assumption r

-- the sections open in its log are of just its locks, and each began since its lock was gained
abbrev pub Sectioned : Description → Knowledge → Type 0
Sectioned floor v = (l : ℕ) → open_in (config_in floor) v.share.log v.thread l ≡ hold_in v.share.held l

abbrev pub Begun : Knowledge → Type 0
Begun v = (l : ℕ) → hold_in v.share.held l ≢ NotHeld → is_among l v.share.begun ≡ true

pub at_rest : (floor : Description) (v : Knowledge) → IsIdle v → v.share.doing.last_look ≡ None → Sectioned floor v
    → Begun v → IsAtRest floor v
at_rest floor v i unseen sections begun = assumption (unseen, sections, begun, i)

-- whatever steps its seat has seen
pub rest_seeing : (floor : Description) (v : Knowledge) (steps : List Step) → IsAtRest floor v
    → IsAtRest floor (seeing steps v)
rest_seeing floor v steps r = assumption r

-- 2. Behind an entry

taking_gone : (e : Event) (l : Option ℕ) → l ≡ None → taking_after e l ≡ None
taking_gone other k is = grind arith

pub wake_gone : (e : Event) (w : Option Wake) → w ≡ None → unstamped_after e w ≡ None
wake_gone other w is = grind arith

no_sleep : (e : Event) → changes_sections e ≡ false → is_sleep e ≡ false
no_sleep other quiet = grind arith

begun_kept : (c : Config) (e : Event) (ks : List ℕ) → changes_sections e ≡ false → begun_by c e ks ≡ ks
begun_kept c other ks quiet = grind arith

-- a state with just that history
abbrev pub behind : Config → List Entry → ℕ → State
behind c log ticket = record (start_state c) { history = log; next = ticket }

same_section : (c : Config) (log : List Entry) (t ticket l : ℕ) (e : Event) → changes_sections e ≡ false
    → open_in c (entry_by t ticket e ∷ log) t l ≡ open_in c log t l
unfolding after_stamp
same_section c log t ticket l e quiet =
    ap (λ (x : Sections). x.now) (sections_stay c (behind c log ticket) t e t l quiet)

module _ (floor : Description) (v : Knowledge) where
  abbrev c : Config
  c = config_in floor

  abbrev t : ℕ
  t = v.thread

  pub idle_stamped : (ticket : ℕ) (e : Event) → is_sleep e ≡ false → IsIdle v
      → IsIdle (stamped c v (entry_by t ticket e))
  idle_stamped ticket e wakeful i = grind arith

  -- of an event that begins and ends no section
  pub rest_noted : (ticket : ℕ) (e : Event) → changes_sections e ≡ false → IsIdle v → Sectioned floor v → Begun v
      → IsAtRest floor (stamped c v (entry_by t ticket e))
  rest_noted ticket e quiet i sections begun =
      at_rest floor (stamped c v (entry_by t ticket e)) (idle_stamped ticket e (no_sleep e quiet) i) refl
      (λ l. same_section c v.share.log t ticket l e quiet ∙ sections l)
      (λ l held. ap (is_among l) (begun_kept c e v.share.begun quiet) ∙ begun l held)

  pub rest_stamped : (ticket : ℕ) (e : Event) → changes_sections e ≡ false → IsAtRest floor v
      → IsAtRest floor (stamped c v (entry_by t ticket e))
  rest_stamped ticket e quiet r = rest_noted ticket e quiet (idle floor v r) r.sections r.begun

  -- 3. Behind a look, and the entry of a try that found its lock busy: it ends the looks that count

  pub rest_busy : (ticket : ℕ) (l : LockNo) (seen : ℕ) (word : Word) → IsAtRest floor v
      → IsAtRest floor (stamped c (looked v l.0 word) (entry_by t ticket (Busy l seen)))
  rest_busy ticket l seen word r =
      let e : Event = Busy l seen in
      at_rest floor (stamped c (looked v l.0 word) (entry_by t ticket e))
      (assumption (
        taking_gone e v.share.doing.taking r.takes_nothing,
        wake_gone e v.share.doing.unstamped r.going.stamped,
        r,
      ))
      refl (λ k. same_section c v.share.log t ticket k e refl ∙ r.sections k)
      (λ k held. ap (is_among k) (begun_kept c e v.share.begun refl) ∙ r.begun k held)

-- 4. What it may note, whatever it has out: with nothing out it is at rest

module _ (floor : Description) (a : Knowledge) (r : IsAtRest floor (record a { out = [] })) where
  -- the sections that it has open are of what it holds
  pub open_as_held : (s : State) → Fits floor a s → (l : ℕ)
      → open_in (config_in floor) s.history a.thread l ≡ s.held a.thread l
  open_as_held s f l = own_log floor a s f l ∙ r.sections l ∙ ap (λ (x : ShareColumns). x.held l) f.share.columns

  pub may_note : (e : Event)
      → ((s : State) → Fits floor a s → Asks (config_in floor) s a.thread e × HasOutForEntry floor.chains s a.thread e)
      → MayMake floor a (λ s. Unit {0}) (Stamps a.thread e ∷ [])
  may_note e asks =
      may_stamp floor a e asks (subst (λ o. NotesInRound o e) (sym r.no_round) tt)
      (λ q. absurd (let z : true ≡ false = sym q ∙ r.no_wait in cc))
      r.runs r.going r.takes_nothing

-- with an item that it took
pub rest_with : (floor : Description) (v a : Knowledge) (i : Item) (j : ℕ) → is_chain i ≡ false → IsAtRest floor v
    → Takes floor i j v a → IsAtRest floor (record a { out = [] })
rest_with floor v a i j plain r taken =
    let no_round = ap (λ b. cond b (in_its_chain v.share.doing.round) v.share.doing.round) plain ∙ r.no_round in
    subst (λ (w : Knowledge). IsAtRest floor (record w { out = [] })) (sym taken.view) (assumption (no_round, r))

-- 5. Behind the use of an item: it is taken, an entry is made, and it is given back

-- the value may have changed meanwhile
pub used_is : (c : Config) (v : Knowledge) (entry : Entry) (i : Item) (j k : ℕ) (x y : Slot) → is_chain i ≡ false
    → gave (record (stamped c (took v i j x) entry) { out = (k, y) ∷ v.out }) i ≡ stamped c v entry
used_is c v entry i j k x y plain =
    let w : Knowledge = stamped c v entry in
    let d : Doing = w.share.doing in
    ap (λ b. record w {
      share = record w.share {
        doing = record d {
          seen_in_section = seen_after b (seen_after b v.share.doing.seen_in_section);
          round = round_after entry.event (cond b (in_its_chain v.share.doing.round) v.share.doing.round);
        };
      };
    }) plain

-- what it took last
pub taken_out : (floor : Description) (v a : Knowledge) (i : Item) (j : ℕ) (taken : Takes floor i j v a)
    → a.out ≡ (j, taken.value) ∷ rest a.out
taken_out floor v a i j taken = subst (λ (w : Knowledge). w.out ≡ (j, taken.value) ∷ rest w.out) (sym taken.view) refl

-- a call that did that, on a pass that was ready, leaves it ready
pub record Used (f : Floor Description) (i : Item) (e : Event) (p q : Pass Knowledge) : Type 0 where
  pub ready : IsReady f q
  pub entry : MakesEntry f.description e p.view.share.held p.view q.view
  pub steps : MakesEach f.description (with_item p.view.thread i e) p.view q.view

-- what the thread knows behind the entry: the value of the item may be another then
abbrev pub Noted : Description → ℕ → Event → ℕ → Slot → Knowledge → Knowledge → Type 0
Noted floor ticket e j y old new =
    new ≡ seeing new.seen
    (record (stamped (config_in floor) old (entry_by old.thread ticket e)) { out = (j, y) ∷ rest old.out })

-- what it took last may be given back then
pub record MayGiveBack (floor : Description) (j : ℕ) (v : Knowledge) : Type 0 where
  pub last : (x : Slot) × (v.out ≡ (j, x) ∷ rest v.out)
  pub may : (i : Item) × (slot_of floor i ≡ Some j) × MayMake floor v (λ s. Unit {0}) (GivesItem v.thread i ∷ [])

module _ (floor : Description) (i : Item) (j : ℕ) (e : Event) (v a b : Knowledge) (ticket : ℕ)
    (taken : Takes floor i j v a) where
  noted_same : b ≡ seeing b.seen (stamped (config_in floor) a (entry_by a.thread ticket e))
      → Noted floor ticket e j taken.value a b
  noted_same noted =
      noted ∙ ap (λ o. seeing b.seen (record (stamped (config_in floor) a (entry_by a.thread ticket e)) { out = o }))
      (taken_out floor v a i j taken)

  noted_changed : b ≡ seeing b.seen (stamped_change (config_in floor) a (entry_by a.thread ticket e))
      → Noted floor ticket e j (changed e taken.value) a b
  noted_changed noted =
      noted ∙ ap (λ o. seeing b.seen
      (record (stamped (config_in floor) a (entry_by a.thread ticket e)) { out = last_changed e o }))
      (taken_out floor v a i j taken)

  with_entry : (y : Slot) → Noted floor ticket e j y a b → b ≡ seeing b.seen
      (record (stamped (config_in floor) (took v i j taken.value) (entry_by v.thread ticket e)) {
        out = (j, y) ∷ v.out;
      })
  with_entry y noted =
      noted ∙ ap (λ (w : Knowledge). seeing b.seen
      (record (stamped (config_in floor) w (entry_by w.thread ticket e)) { out = (j, y) ∷ rest w.out })) taken.view

  module _ (place : slot_of floor i ≡ Some j) (kind : is_record_or_cell i ≡ true) (r : IsAtRest floor v) where
    gives_it : (y : Slot) → Noted floor ticket e j y a b → MayGiveBack floor j b
    gives_it y noted =
        let is = with_entry y noted in
        let out : b.out ≡ (j, y) ∷ rest b.out =
        subst (λ o. o ≡ (j, y) ∷ rest o) (sym (ap (λ (w : Knowledge). w.out) is)) refl in
        record {
          last = (y, out);
          may = (
            i,
            place,
            may_give floor b i j y place out kind (ap (λ (w : Knowledge). w.pose) is ∙ r.runs)
                (ap (λ (w : Knowledge). w.share.doing.phase) is ∙ r.going.awake)
                (ap (λ (w : Knowledge). w.share.doing.unstamped) is
                ∙ wake_gone e v.share.doing.unstamped r.going.stamped)
                (ap (λ (w : Knowledge). w.share.doing.counting) is ∙ r.uncounted),
          );
        }

    pub gives_back : b ≡ seeing b.seen (stamped (config_in floor) a (entry_by a.thread ticket e))
        → MayGiveBack floor j b
    gives_back noted = gives_it taken.value (noted_same noted)

    -- where the entry changed the value
    pub gives_changed : b ≡ seeing b.seen (stamped_change (config_in floor) a (entry_by a.thread ticket e))
        → MayGiveBack floor j b
    gives_changed noted = gives_it (changed e taken.value) (noted_changed noted)

module _ (f : Floor Description) (i : Item) (j : ℕ) (e : Event) (plain : is_chain i ≡ false)
    (quiet : changes_sections e ≡ false) where
  pub uses_changed : (p a b q : Pass Knowledge) (ticket : ℕ) (y : Slot) → IsReady f p → 1 ≤ p.view.spare
      → Takes f.description i j p.view a.view
      → Noted f.description ticket e j y a.view b.view → Makes f.description (Stamps a.view.thread e ∷ []) a.view b.view
      → IsOf f q → q.view ≡ seeing q.view.seen (gave b.view i)
      → Makes f.description (GivesItem b.view.thread i ∷ []) b.view q.view → Used f i e p q
  uses_changed p a b q ticket y ready room taken noted stamps own given gives =
      let v : Knowledge = p.view in
      let made : Entry = entry_by v.thread ticket e in
      let with_it = with_entry f.description i j e v a.view b.view ticket taken y noted in
      let is : q.view ≡ seeing q.view.seen (stamped (config_in f.description) v made) =
      given ∙ ap (λ (w : Knowledge). seeing q.view.seen (gave w i)) with_it
      ∙ ap (seeing q.view.seen) (used_is (config_in f.description) v made i j j taken.value y plain) in
      let its : a.view.thread ≡ v.thread = ap (λ (w : Knowledge). w.thread) taken.view in
      let its_then : b.view.thread ≡ v.thread = ap (λ (w : Knowledge). w.thread) with_it in
      let step : Makes f.description (Stamps v.thread e ∷ []) a.view b.view =
      subst (λ t. Makes f.description (Stamps t e ∷ []) a.view b.view) its stamps in
      let back : Makes f.description (GivesItem v.thread i ∷ []) b.view q.view =
      subst (λ t. Makes f.description (GivesItem t i ∷ []) b.view q.view) its_then gives in
      record {
        ready = record {
          own = own;
          rest = subst (IsAtRest f.description) (sym is)
              (rest_seeing f.description (stamped (config_in f.description) v made) q.view.seen
              (rest_stamped f.description v ticket e quiet ready.rest));
        };
        entry = record {
          ticket = ticket;
          log = ap (λ (w : Knowledge). w.share.log) is;
          held = ap (λ (w : Knowledge). w.share.held) is;
          spare = ap (λ (w : Knowledge). w.spare + 1) is ∙ omega (arith, room);
          thread = ap (λ (w : Knowledge). w.thread) is;
          before = a.view;
          behind = b.view;
          of = its;
          step = step;
          log_before = ap (λ (w : Knowledge). w.share.log) taken.view;
          log_behind = sym (ap (λ (w : Knowledge). w.share.log) given);
        };
        steps = (a.view, taken.step, (b.view, step, (q.view, back, refl)));
      }

  pub uses : (p a b q : Pass Knowledge) (ticket : ℕ) → IsReady f p → 1 ≤ p.view.spare
      → Takes f.description i j p.view a.view
      → b.view ≡ seeing b.view.seen (stamped (config_in f.description) a.view (entry_by a.view.thread ticket e))
      → Makes f.description (Stamps a.view.thread e ∷ []) a.view b.view
      → IsOf f q → q.view ≡ seeing q.view.seen (gave b.view i)
      → Makes f.description (GivesItem b.view.thread i ∷ []) b.view q.view → Used f i e p q
  uses p a b q ticket ready room taken noted =
      uses_changed p a b q ticket taken.value ready room taken
      (noted_same f.description i j e p.view a.view b.view ticket taken noted)

  -- the same where the entry changed the value
  pub uses_change : (p a b q : Pass Knowledge) (ticket : ℕ) → IsReady f p → 1 ≤ p.view.spare
      → Takes f.description i j p.view a.view
      → b.view ≡ seeing b.view.seen (stamped_change (config_in f.description) a.view (entry_by a.view.thread ticket e))
      → Makes f.description (Stamps a.view.thread e ∷ []) a.view b.view → IsOf f q
      → q.view ≡ seeing q.view.seen (gave b.view i)
      → Makes f.description (GivesItem b.view.thread i ∷ []) b.view q.view → Used f i e p q
  uses_change p a b q ticket ready room taken noted =
      uses_changed p a b q ticket (changed e taken.value) ready room taken
      (noted_changed f.description i j e p.view a.view b.view ticket taken noted)

-- 6. Behind a gain with its entry

-- the entry of a gain
abbrev pub gain_event : Held → Event
gain_event h = cond h.by_try (Tried h.l h.mode) (Locked h.l h.mode)

idle_gained : (v : Knowledge) (h : Held) → IsIdle v → IsIdle (gained v h)
idle_gained v h i = assumption i

-- a section that begins, or else the one before
begins_or : (b : Bool) (mode : Mode) (x : Hold) → replaced (cond b (Holds mode) NotHeld) x ≡ cond b (Holds mode) x
begins_or true mode x = refl
begins_or false mode x = refl

module _ (floor : Description) (v : Knowledge) (h : Held) where
  abbrev gc : Config
  gc = config_in floor

  pub gain_section : (ticket k : ℕ)
      → open_in gc (entry_by v.thread ticket (gain_event h) ∷ v.share.log) v.thread k ≡ cond (eqb h.l.0 k)
      (Holds h.mode) (open_in gc v.share.log v.thread k)
  unfolding after_stamp
  gain_section ticket k = own_section gc (behind gc v.share.log ticket) v.thread (gain_event h) k ∙ go h.by_try
    where
      go : (b : Bool) → (sections_by gc (cond b (Tried h.l h.mode) (Locked h.l h.mode)) k
          (sections_in gc v.share.log v.thread k)).now ≡ cond (eqb h.l.0 k) (Holds h.mode)
          (open_in gc v.share.log v.thread k)
      go true = begins_or (eqb h.l.0 k) h.mode (open_in gc v.share.log v.thread k)
      go false = begins_or (eqb h.l.0 k) h.mode (open_in gc v.share.log v.thread k)

  pub gain_begun : Begun v → hold_in v.share.held h.l.0 ≡ NotHeld → (k : ℕ)
      → hold_in (v.share.held ++ h ∷ []) k ≢ NotHeld → is_among k (h.l.0 ∷ others h.l.0 v.share.begun) ≡ true
  gain_begun begun unheld k held =
      elim (cases_eq h.l.0 k) [
        | inl e ↦ ap (λ b. b || is_among k (others h.l.0 v.share.begun)) (eq-eqb h.l.0 k e)
        | inr ne ↦
            let before : hold_in (v.share.held ++ h ∷ []) k ≡ hold_in v.share.held k =
            hold_in-push v.share.held h k unheld
            ∙ ap (λ b. cond b (Holds h.mode) (hold_in v.share.held k)) (ne_eqb h.l.0 k ne) in
            ap (λ b. b || is_among k (others h.l.0 v.share.begun)) (ne_eqb h.l.0 k ne)
            ∙ among_stays h.l.0 k v.share.begun ne ∙ begun k (λ q. held (before ∙ q))
      ]

  pub begun_gained : (ks : List ℕ) → begun_by gc (gain_event h) ks ≡ h.l.0 ∷ ks
  begun_gained ks = grind arith

  no_sleep_gained : is_sleep (gain_event h) ≡ false
  no_sleep_gained = go h.by_try
    where
      go : (b : Bool) → is_sleep (cond b (Tried h.l h.mode) (Locked h.l h.mode)) ≡ false
      go true = refl
      go false = refl

  pub rest_gained : (ticket : ℕ) → IsAtRest floor v → hold_in v.share.held h.l.0 ≡ NotHeld
      → IsAtRest floor (stamped (config_in floor) (gained v h) (entry_by v.thread ticket (gain_event h)))
  rest_gained ticket r unheld =
      at_rest floor (stamped gc (gained v h) (entry_by v.thread ticket (gain_event h)))
      (idle_stamped floor (gained v h) ticket (gain_event h) no_sleep_gained (idle_gained v h (idle floor v r)))
      refl
      (λ k. gain_section ticket k ∙ ap (cond (eqb h.l.0 k) (Holds h.mode)) (r.sections k)
      ∙ sym (hold_in-push v.share.held h k unheld))
      (λ k held. ap (is_among k) (begun_gained (others h.l.0 v.share.begun)) ∙ gain_begun r.begun unheld k held)

-- 7. Behind a release: its entry is made first, and then the lock is put down, maybe after looks

-- a thread that has noted the release of a lock and holds it still
pub record IsLeaving (floor : Description) (l : ℕ) (mode : Mode) (v : Knowledge) : Type 0 where
  pub about : IsIdle v
  pub held : hold_in v.share.held l ≡ Holds mode
  pub closed : open_in (config_in floor) v.share.log v.thread l ≡ NotHeld
  pub beside : (k : ℕ) → l ≢ k → open_in (config_in floor) v.share.log v.thread k ≡ hold_in v.share.held k
  pub begun : Begun v

-- without a lock the others are held as before
held_beside : (l : ℕ) (hs : List Held) (k : ℕ) → l ≢ k → hold_in (without_lock l hs) k ≡ hold_in hs k
held_beside l [] k ne = refl
held_beside l (h ∷ hs) k ne =
    elim (cases_eq h.l.0 l) [
      | inl e ↦ rw (eq-eqb h.l.0 l e, ne_eqb h.l.0 k (λ q. ne (sym e ∙ q))) refl
      | inr n ↦ rw (ne_eqb h.l.0 l n) (ap (cond (eqb h.l.0 k) (Holds h.mode)) (held_beside l hs k ne))
    ]

module _ (floor : Description) (v : Knowledge) (l : LockNo) (mode : Mode) where
  abbrev lc : Config
  lc = config_in floor

  release_section : (ticket k : ℕ)
      → open_in lc (entry_by v.thread ticket (Unlocked l mode) ∷ v.share.log) v.thread k ≡ cond (eqb l.0 k) NotHeld
      (open_in lc v.share.log v.thread k)
  unfolding after_stamp
  release_section ticket k = own_section lc (behind lc v.share.log ticket) v.thread (Unlocked l mode) k

  pub leaves : (ticket : ℕ) → IsAtRest floor v → hold_in v.share.held l.0 ≡ Holds mode
      → IsLeaving floor l.0 mode (stamped (config_in floor) v (entry_by v.thread ticket (Unlocked l mode)))
  leaves ticket r held = record {
    about = idle_stamped floor v ticket (Unlocked l mode) refl (idle floor v r);
    held = held;
    closed = release_section ticket l.0
        ∙ ap (λ b. cond b NotHeld (open_in lc v.share.log v.thread l.0)) (eq-eqb l.0 l.0 refl);
    beside = λ k ne. release_section ticket k
        ∙ ap (λ b. cond b NotHeld (open_in lc v.share.log v.thread k)) (ne_eqb l.0 k ne) ∙ r.sections k;
    begun = r.begun;
  }

module _ (floor : Description) (l : ℕ) (mode : Mode) (v : Knowledge) (h : IsLeaving floor l mode v) where
  -- once it has put the lock down it is at rest
  module _ (steps : List Step) where
    abbrev left : Knowledge
    left = seeing steps (put_down v l)

    pub rest_left : hold_in (without_lock l v.share.held) l ≡ NotHeld → IsAtRest floor left
    rest_left unheld =
        let i = h.about in
        at_rest floor left (assumption i) refl sections begun
      where
        sections : Sectioned floor left
        sections k =
            elim (cases_eq l k) [
              | inl e ↦ subst (λ m. open_in (config_in floor) v.share.log v.thread m ≡ hold_in
                  (without_lock l v.share.held) m) e (h.closed ∙ sym unheld)
              | inr ne ↦ h.beside k ne ∙ sym (held_beside l v.share.held k ne)
            ]

        begun : Begun left
        begun k held =
            elim (cases_eq l k) [
              | inl e ↦ absurd (held (subst (λ m. hold_in (without_lock l v.share.held) m ≡ NotHeld) e unheld))
              | inr ne ↦ h.begun k (λ q. held (held_beside l v.share.held k ne ∙ q))
            ]
