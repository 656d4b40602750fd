-- The actions of a running thread that takes, tries or releases a lock, by what it reads.
use Rattle.step_world.proofs.Names
use Names.{ℕ, suc, Bool, true, false, cond, List, [], length, take, length-append, slice_get, get_or, Option, Some}
use Names.{None, IsSomeAnd, refl, sym, ap, subst, arith, vec_len, take_all, take_more, none-some, same_Some}
use Names.{slice_get-get_or, config_of, IsProper, hold_in, without_lock, most_held, Config, NotHeld, Holds, lock_queue}
use Names.{has_reversal, word_of, bits_of, IsWellFormed, admits, is_plain, is_drop, is_turnstile, State, HeldLock}
use Names.{put_at, gained_order, Lawful, Step, Looks, Gains, Claims, Stamps, Readies, Enters, EntersSleepQueue, Drops}
use Names.{Opens, OpensSleepQueue, MayMake, MayAll, after, after_all, without_held, MayStamp, after_gain, after_drop}
use Names.{after_look, after_ready, after_stamp, after_enter, after_open, after_enter_sleep, after_open_sleep}
use Names.{after_claim, Run, ends, does, blocks, takes, operates, mode_held, waits_on, held_now, LockNo, Held, Kind}
use Names.{Mode, Excl, Shared, Op, Try, Release, Plan, Lock, Event, StepKind, Did, Idle, IsAtOperation, well_formed}
use Names.{keeps, put_same, held_few, try_passes, release_fits, gained_order-push, awake, before, behind, fit, IsAwake}
use Names.{Taking, anew, back, Gaining, by_taking, by_trying, makes_operation, goes_by_wait, Finds, finds, Machine}
use Names.{Thread, Makes, HoldsFew, Progress, progress, ChangesProgress, KeepsBooks, with_released, enters, opens, Does}
use Names.{Ends, Skips, HasState, IsRunOf, IsTurn, IsMade, IsTake, IsGain, IsGivingUp, GivesBack, MayGiveBack}
use Names.{MayUnlock, Unlocks, back_in, unlocks, IsAsFar, word_read}
use Rattle.std.proofs.Common.{◌≡◌, ◌≢◌, ◌+◌, ◌-◌, ◌<◌, ◌∷◌, ◌++◌, ◌∙◌, unwrap_or}
use Rattle.std.specs.Prelude.{IfSome}
use Rattle.lock_model.specs.declared.event.Event.TheVariants as event
use Rattle.lock_model.specs.declared.turn.StepKind.TheVariants as kinds
use Rattle.run_laws.proofs.TurnsOfReleases as releases
use Rattle.step_machine.specs.Represents.{Represents}
use Rattle.step_world.proofs.AsFar.{waits_behind, cut_behind, awake_behind, behind_cut}
use Rattle.step_world.proofs.Turning.{SameRoom, of_books, IsTurning, goes, all_made, Begins, begins, made, made_behind, made_still, still, stays}
use Rattle.step_world.proofs.Ends.{aside_is}

-- 1. The word of a lock

-- it is there,
pub is_word : (c : Config) (m : Machine) (s : State) (l : ℕ) → Represents c m s → l < c.locks → l < vec_len m.words
is_word c m s l h lt = omega (arith, m.words.ok.0, h.words.locks, lt)

-- and well formed
pub is_well_formed : {c : Config} {m : Machine} {s : State} (l w : ℕ) → Represents c m s → Lawful c s
    → word_of w ≡ s.word l → IsWellFormed (word_of w)
is_well_formed {c} {s = s} l w h lawful e =
    subst IsWellFormed (sym e) (well_formed c s l lawful (omega (arith, h.within.few_threads)))

pub ruleset words = (is_word, word_read)

-- its bits are those that it was read from
bits_again : (w : ℕ) → bits_of (word_of w) ≡ w
bits_again w = grind arith

-- the state of a run is one
pub state_of : {plan : Plan} {m : Machine} {r : Run} → IsRunOf plan m r → HasState plan m (λ s. Unit)
state_of {r = r} h = (r.state, h.shows.shows, h.on_track.lawful.lawful, tt)

-- 2. What a gain changes of what the thread holds

abbrev pub holding : LockNo → Mode → Bool → Progress → Progress
holding l mode by_try a = record a { held = a.held ++ (record { l = l; mode = mode; by_try = by_try }) ∷ [] }

-- the last of what is held
pub last_of : (hs : List Held) {x : Held} → Some x ≡ slice_get hs (length hs - 1)
    → hs ≡ take (length hs - 1) hs ++ x ∷ []
last_of [] e = absurd cc
last_of (h ∷ hs) {x} e =
    let n = length hs in
    let last : length (h ∷ hs) - 1 ≡ n = omega arith in
    let there : n < length (h ∷ hs) = omega arith in
    let read : get_or (h ∷ hs) n x
    ≡ x = same_Some _ x (sym (slice_get-get_or (h ∷ hs) n x there) ∙ sym (e ∙ ap (slice_get (h ∷ hs)) last)) in
    sym (take_all (n + 1) (h ∷ hs) (omega arith)) ∙ take_more (h ∷ hs) n x there
    ∙ ap (λ y. take n (h ∷ hs) ++ y ∷ []) read ∙ ap (λ k. take k (h ∷ hs) ++ x ∷ []) (sym last)

pub none_last : (hs : List Held) → None ≡ slice_get hs (length hs - 1) → hs ≡ []
none_last [] e = refl
none_last (h ∷ hs) e = absurd (none-some _ (e ∙ slice_get-get_or (h ∷ hs) (length (h ∷ hs) - 1) h (omega arith)))

-- as a state lists it
abbrev listed : Held → HeldLock
listed x = record { lock = x.l.0; by_try = x.by_try }

-- 3. Giving a lock back

-- who gives back what it holds
pub record Gives (c : Config) (s : State) (t l : ℕ) (mode : Mode) : Type 0 where
  pub thread : t < c.threads
  pub lock : l < c.locks
  pub held : s.held t l ≡ Holds mode

module _ (c : Config) (s : State) (t l : ℕ) (mode : Mode) where
  pub it_gives : MayGiveBack c s t l mode → Gives c s t l mode
  it_gives = go (is_drop (s.word l)) (is_turnstile (c.kind l))
    where
      go : (b k : Bool) → MayMake c s (cond {A = StepKind × Step} b (kinds.Drop, Drops t l mode)
          (kinds.OpenUp, cond k (Opens t l mode) (OpensSleepQueue t l mode))).1 → Gives c s t l mode
      go true k g = assumption g
      go false true g = assumption g.releases
      go false false g = assumption g.releases

  -- by a drop,
  pub may_drop : is_drop (s.word l) ≡ true → MayGiveBack c s t l mode → MayMake c s (Drops t l mode)
  may_drop e g = rw e at g

  pub dropped : {m : Machine} → is_drop (s.word l) ≡ true → Represents c m (after c s (Drops t l mode))
      → (kinds.Drop ≡ (back_in c s t l mode).0) × Represents c m (after c s (back_in c s t l mode).1)
  dropped e h = rw e (refl, h)

  -- or by an open
  pub may_open : is_drop (s.word l) ≡ false → MayGiveBack c s t l mode → MayMake c s (opens (c.kind l) t l mode)
  may_open e g = rw e at g

  pub opened : {m : Machine} → is_drop (s.word l) ≡ false → Represents c m (after c s (opens (c.kind l) t l mode))
      → (kinds.OpenUp ≡ (back_in c s t l mode).0) × Represents c m (after c s (back_in c s t l mode).1)
  opened e h = rw e (refl, h)

  -- which makes no entry,
  pub back_keeps_log : (after c s (back_in c s t l mode).1).log t ≡ s.log t
  unfolding after_drop after_open after_open_sleep
  back_keeps_log = grind arith

  -- takes the lock off the list of those that are held,
  pub back_lists : (after c s (back_in c s t l mode).1).held_locks t ≡ without_held l (s.held_locks t)
  unfolding after_drop after_open after_open_sleep
  back_lists = go (is_drop (s.word l)) (is_turnstile (c.kind l))
    where
      go : (b k : Bool) → (after c s (cond {A = StepKind × Step} b (kinds.Drop, Drops t l mode)
          (kinds.OpenUp, cond k (Opens t l mode) (OpensSleepQueue t l mode))).1).held_locks t
          ≡ without_held l (s.held_locks t)
      go true k = put_same s.held_locks t (without_held l (s.held_locks t))
      go false true = put_same s.held_locks t (without_held l (s.held_locks t))
      go false false = put_same s.held_locks t (without_held l (s.held_locks t))

  -- and is of this lock alone
  pub back_puts : (after c s (back_in c s t l mode).1).held ≡ put_at s.held t l NotHeld
  unfolding after_drop after_open after_open_sleep
  back_puts = grind arith

  -- the mode is the one that was read of the thread
  pub mode_read : {m : Machine} {th : Thread} {read : Mode} → Represents c m s → slice_get m.threads.items t ≡ Some th
      → read ≡ mode_held (hold_in th.held.items l) → MayGiveBack c s t l mode → mode ≡ read
  mode_read {th = th} h is e g =
      sym (e ∙ ap (λ x. mode_held (x.held l)) (h.threads.thread t th is).columns ∙ ap mode_held (it_gives g).held)

-- as the last step of a turn
module _ {plan : Plan} {r : Run} {t : ℕ} {m n : Machine} {s : State} {a : Progress} {kind : StepKind} (l : ℕ)
    (mode : Mode)
    (h : IsTurning plan r t m s a ((back_in (config_of plan) s t l mode).1 ∷ []))
    (gave : GivesBack plan m n t l kind) where
  -- the word is the same in any state that the machine represents
  same : (x : State) → Represents (config_of plan) m x
      → back_in (config_of plan) x t l mode ≡ back_in (config_of plan) s t l mode
  same x shows =
      let lt = (it_gives (config_of plan) s t l mode h.may.0).lock in
      let e : x.word l ≡ s.word l = sym (shows.words.word l lt) ∙ h.shows.words.word l lt in
      rw e refl

  pub kind_is : kind ≡ (back_in (config_of plan) s t l mode).0
  kind_is = (gave s mode h.shows h.lawful h.may.0).0

  pub given : ChangesProgress m n t (with_released l) → KeepsBooks m n
      → IsTurning plan r t n (after (config_of plan) s (back_in (config_of plan) s t l mode).1) (with_released l a) []
  given moves books = goes h (record {
    makes = λ x shows lawful may.
        subst (λ (b : StepKind × Step). Represents (config_of plan) n (after (config_of plan) x b.1)) (same x shows)
        (gave x mode shows lawful
        (subst (λ (b : StepKind × Step). MayMake (config_of plan) x b.1) (sym (same x shows)) may)).1;
    moves = moves;
    room = of_books books;
  })

-- behind the entry of the release, in the mode that was read of the thread
module _ (plan : Plan) {m : Machine} {s : State} {t : ℕ} {l : LockNo} {mode : Mode}
    (h : Represents (config_of plan) m s) (lawful : Lawful (config_of plan) s)
    (may : MayUnlock (config_of plan) s t l mode) {th : Thread} {read : Mode}
    (is : slice_get m.threads.items t ≡ Some th) (its : read ≡ mode_held (hold_in th.held.items l.0)) where
  abbrev noted_by : Mode → State
  noted_by x = after_stamp (config_of plan) s t (event.Unlocked l x)

  its_read : mode ≡ read
  its_read = sym (its ∙ ap (λ x. mode_held (x.held l.0)) (h.threads.thread t th is).columns ∙ ap mode_held may.held)

  pub may_note : MayStamp (config_of plan) s t (event.Unlocked l read)
  may_note = subst (λ x. MayStamp (config_of plan) s t (event.Unlocked l x)) its_read may.may.0

  noted_lawful : Lawful (config_of plan) (noted_by mode)
  noted_lawful = keeps (config_of plan) s (Stamps t (event.Unlocked l mode)) may.may.0 lawful

  module _ {n : Machine} (makes : Makes m n (Stamps t (event.Unlocked l read))) where
    noted_shown : Represents (config_of plan) n (noted_by mode)
    noted_shown = subst (λ x. Represents (config_of plan) n (noted_by x)) (sym its_read)
        (makes (config_of plan) s h lawful may_note)

    pub may_give_then : HasState plan n (λ x. (y : Mode) × MayGiveBack (config_of plan) x t l.0 y)
    unfolding after_stamp
    may_give_then = (noted_by mode, noted_shown, noted_lawful, (mode, may.may.1.0))

    pub gave_then : {x : Machine} {kind : StepKind} → GivesBack plan n x t l.0 kind
        → (kind ≡ (back_in (config_of plan) s t l.0 mode).0)
        × Represents (config_of plan) x (after_all (config_of plan) s (unlocks (config_of plan) s t l mode))
    unfolding after_stamp
    gave_then gave = gave (noted_by mode) mode noted_shown noted_lawful may.may.1.0

-- 4. What a taking, a try and a release find

module _ {plan : Plan} {m : Machine} {t : ℕ} {r : Run} (p : IsProper plan) (lt : t < length plan.threads)
    (h : IsRunOf plan m r) where
  abbrev c : Config
  c = config_of plan

  abbrev s : State
  s = r.state

  -- with one lock more there still are few
  few_so : (x : Held) → held_now plan r t ++ x ∷ [] ≡ behind plan r t → length (held_now plan r t) < most_held
  few_so x e =
      omega (arith, length-append (held_now plan r t) (x ∷ []), ap length e, held_few plan p t (suc (r.next_op t)))

  its : {l : LockNo} {mode : Mode} {op : Op} {by_try : Bool} {e : Event} → Gaining plan r t l mode op by_try e
      → IsAtOperation plan r t (Some op) → Finds plan r t l mode by_try e
  its by at = finds plan r t p h.on_track lt by at

  -- a take, or a taking back after a wait
  pub is_take : {l : LockNo} {mode : Mode} {op : Op} {e : Event} → Taking plan r t l mode op e
      → IsAtOperation plan r t (Some op) → IsTake plan r t l mode e
  is_take {l} {mode} {op} {e} by at =
      let f = its (by_taking by) at in
      record {
        op = op;
        at = at;
        taken = action by;
        lock = f.lock;
        kind = f.mutex;
        few = few_so _ f.adds;
        holds_more = f.adds;
      }
    where
      action : {k : LockNo} {x : Mode} {o : Op} {v : Event} → Taking plan r t k x o v
          → operates c r t (Some o) ≡ takes c r t k x v
      action (anew k x n w) = rw w refl
      action (back d b w) = rw w refl

  -- gains the lock where its word admits the mode
  pub takes_it : {l : LockNo} {mode : Mode} {e : Event} → IsTake plan r t l mode e
      → admits (c.kind l.0) (s.word l.0) mode ≡ true → IsGain plan r t l mode false e
  takes_it g a = record {
    op = g.op;
    at = g.at;
    gained = g.taken ∙ rw a refl;
    lock = g.lock;
    few = g.few;
    holds_more = g.holds_more;
  }

  pub tried : {l : LockNo} {mode : Mode} {past : ℕ} → IsAtOperation plan r t (Some (Try l mode past))
      → Finds plan r t l mode true (event.Tried l mode)
  tried {l} {mode} {past} at = its (by_trying l mode past) at

  pub tries_it : {l : LockNo} {mode : Mode} {past : ℕ} → IsAtOperation plan r t (Some (Try l mode past))
      → admits (c.kind l.0) (s.word l.0) mode ≡ true → IsGain plan r t l mode true (event.Tried l mode)
  tries_it {l} {mode} {past} at a =
      let f = tried at in
      record {
        op = Try l mode past;
        at = at;
        gained = rw a refl;
        lock = f.lock;
        few = few_so _ f.adds;
        holds_more = f.adds;
      }

  -- 5. A gain

  module _ {l : LockNo} {mode : Mode} {by_try : Bool} {e : Event} (g : IsGain plan r t l mode by_try e) where
    -- there is room for it among what is held
    pub few : HoldsFew m t
    few = go (progress m t) (h.shows.progress t lt)
      where
        go : (o : Option Progress) → IsSomeAnd o (IsAsFar plan r t) → IfSome o (λ (a : Progress). length a.held < 8)
        go None f = absurd f
        go (Some a) f = subst (λ (hs : List Held). length hs < 8) (sym f.held) g.few

    -- plainly,
    pub gains_action : is_plain (c.kind l.0) (s.word l.0) mode ≡ true
        → Begins plan r t m (ends r t kinds.Gain (Gains t l.0 mode by_try ∷ Stamps t e ∷ []))
    gains_action i = begins p lt h (makes_operation plan r t g.op g.at ∙ g.gained ∙ rw i refl)

    pub gained : {n : Machine} (i : is_plain (c.kind l.0) (s.word l.0) mode ≡ true)
        → IsTurning plan r t n (after_all c s (Gains t l.0 mode by_try ∷ Stamps t e ∷ []))
        (holding l mode by_try (gains_action i).at) [] → IsMade plan r t n (Ends kinds.Gain)
    unfolding after_gain
    gained i now =
        let b = gains_action i in
        let up = awake_behind c (after_gain s t l.0 mode by_try) t e b.turning.may.1.0 g.at.running
        (h.on_track.unnoted t) g.at.uncut in
        made_behind (Ends kinds.Gain) (suc (r.next_op t)) refl b now up b.as_far.next_op (ap
        (λ (hs : List Held). hs ++ (record { l = l; mode = mode; by_try = by_try }) ∷ []) b.as_far.held ∙ g.holds_more)

    -- or by a claim, which is exclusive
    abbrev head : ℕ
    head = unwrap_or (s.head (lock_queue l.0)) t

    pub claims_action : is_plain (c.kind l.0) (s.word l.0) mode ≡ false
        → Begins plan r t m (ends r t kinds.Claim (Claims t l.0 head by_try ∷ Stamps t e ∷ []))
    claims_action i = begins p lt h (makes_operation plan r t g.op g.at ∙ g.gained ∙ rw i refl)

    pub claimed : {n : Machine} (i : is_plain (c.kind l.0) (s.word l.0) mode ≡ false)
        → IsTurning plan r t n (after_all c s (Claims t l.0 head by_try ∷ Stamps t e ∷ []))
        (holding l Excl by_try (claims_action i).at) [] → IsMade plan r t n (Ends kinds.Claim)
    unfolding after_claim
    claimed i now =
        let b = claims_action i in
        let up = awake_behind c (after_claim c s t l.0 head by_try) t e b.turning.may.1.0 g.at.running
        (h.on_track.unnoted t) g.at.uncut in
        made_behind (Ends kinds.Claim) (suc (r.next_op t)) refl b now up b.as_far.next_op
        (ap (λ (hs : List Held). hs ++ (record { l = l; mode = Excl; by_try = by_try }) ∷ []) b.as_far.held ∙ ap
        (λ (x : Mode). held_now plan r t ++ (record { l = l; mode = x; by_try = by_try }) ∷ []) (sym (exclusive mode i))
        ∙ g.holds_more)
      where
        exclusive : (x : Mode) → is_plain (c.kind l.0) (s.word l.0) x ≡ false → x ≡ Excl
        exclusive Excl j = refl
        exclusive Shared j = absurd cc

  -- 6. A taking that isn't admitted blocks

  module _ {l : LockNo} {mode : Mode} {e : Event} (kind : Kind) (k : kind ≡ c.kind l.0) (g : IsTake plan r t l mode e)
      (a : admits (c.kind l.0) (s.word l.0) mode ≡ false) where
    -- the object with which it goes to stand on the queue
    abbrev own : ℕ
    own = cond (is_turnstile kind) (unwrap_or (s.turnstile t) t) (unwrap_or (s.sleep_queue t) t)

    abbrev blocking : List Step
    blocking = Readies t (Lock l) ∷ enters kind t l.0 mode own ∷ []

    blocks_by : blocks c r t l mode ≡ does kinds.Enter blocking
    blocks_by = rw k (ap (λ x. does kinds.Enter (Readies t (Lock l) ∷ x ∷ [])) (go (is_turnstile (c.kind l.0)) _ _))
      where
        go : (b : Bool) (x y : ℕ) → cond b (Enters t l.0 mode x) (EntersSleepQueue t l.0 mode y)
            ≡ cond b (Enters t l.0 mode (cond b x y)) (EntersSleepQueue t l.0 mode (cond b x y))
        go true x y = refl
        go false x y = refl

    pub blocks_action : Begins plan r t m (does kinds.Enter blocking)
    blocks_action = begins p lt h (makes_operation plan r t g.op g.at ∙ g.taken ∙ rw a blocks_by)

    pub blocked : {n : Machine} → IsTurning plan r t n (after_all c s blocking) blocks_action.at []
        → IsMade plan r t n (Does (Did kinds.Enter))
    unfolding after_ready after_enter after_enter_sleep
    blocked now = made_still blocks_action now (ap (λ f. f t) stays.0) (ap (λ f. f t) stays.1) (ap (λ f. f t) stays.2)
      where
        by_kind : (b : Bool) (x : ℕ)
            → let n = after c (after_ready s t) (cond b (Enters t l.0 mode x) (EntersSleepQueue t l.0 mode x)) in
            (n.held ≡ s.held) × (n.held_locks ≡ s.held_locks) × (n.log ≡ s.log)
        by_kind true x = (refl, refl, refl)
        by_kind false x = (refl, refl, refl)

        stays : ((after_all c s blocking).held ≡ s.held) × ((after_all c s blocking).held_locks ≡ s.held_locks)
            × ((after_all c s blocking).log ≡ s.log)
        stays = by_kind (is_turnstile kind) own

  -- 7. A try that isn't admitted finds the lock busy, with the word that it saw

  module _ {l : LockNo} {mode : Mode} {past : ℕ} (w : ℕ) (at : IsAtOperation plan r t (Some (Try l mode past)))
      (a : admits (c.kind l.0) (s.word l.0) mode ≡ false) (e : word_of w ≡ s.word l.0) where
    abbrev busy : List Step
    busy = Looks t l.0 false ∷ Stamps t (event.Busy l w) ∷ []

    pub busy_action : Begins plan r t m (record { answer = Did kinds.Note; steps = busy; next = Some past })
    busy_action = begins p lt h (makes_operation plan r t (Try l mode past) at ∙ rw (a, ← e, bits_again w) refl)

    pub found_busy : {n : Machine} → IsTurning plan r t n (after_all c s busy) busy_action.at []
        → IsMade plan r t n (Skips past)
    unfolding after_look
    found_busy now =
        let b = busy_action in
        let none = awake plan r t h.on_track (Try l mode past) at.next refl in
        let up = awake_behind c (after_look s t l.0 false) t (event.Busy l w) b.turning.may.1.0 at.running
        (h.on_track.unnoted t) at.uncut in
        made_behind (Skips past) past refl b now up b.as_far.next_op
        (b.as_far.held ∙ rw (at.uncut, none) refl ∙ sym (try_passes plan p t (r.next_op t) l mode past at.next).leaves)

  -- 8. A release that is noted

  module _ (l : LockNo) (mode : Mode) where
    abbrev noted : State
    noted = after_stamp c s t (event.Unlocked l mode)

    abbrev its_back : StepKind × Step
    its_back = back_in c s t l.0 mode

    -- it may be made where its steps may,
    pub may_unlock : MayAll c s (unlocks c s t l mode) → MayUnlock c s t l mode
    unfolding after_stamp
    may_unlock may = record { held = (it_gives c noted t l.0 mode may.1.0).held; may = may }

    abbrev then : State
    then = after_all c s (unlocks c s t l mode)

    -- and gives the lock back behind its entry
    log_then : then.log t ≡ noted.log t
    unfolding after_stamp
    log_then = back_keeps_log c noted t l.0 mode

    listed_then : then.held_locks t ≡ without_held l.0 (s.held_locks t)
    unfolding after_stamp
    listed_then = back_lists c noted t l.0 mode

    abbrev gone : Progress → Progress
    gone = with_released l.0

    module _ {n : Machine} {kind : StepKind} {a : Progress} (b : IsTurning plan r t m s a (unlocks c s t l mode))
        (gave : Unlocks plan m n t l kind) where
      pub unlocked_as : kind ≡ its_back.0
      unlocked_as = (gave s mode b.shows b.lawful (may_unlock b.may)).0

      pub unlocked : ChangesProgress m n t gone → SameRoom m n → IsTurning plan r t n then (gone a) []
      unlocked moves room = all_made gone b (gave s mode b.shows b.lawful (may_unlock b.may)).1 moves room

  -- 9. An operation that releases

  module _ {l : LockNo} (at : IsAtOperation plan r t (Some (Release l))) where
    abbrev mode : Mode
    mode = mode_held (s.held t l.0)

    pub releases_action : Begins plan r t m (ends r t (back_in c s t l.0 mode).0 (unlocks c s t l mode))
    releases_action = begins p lt h (makes_operation plan r t (Release l) at)

    pub released : {n : Machine} {kind : StepKind} → Unlocks plan m n t l kind
        → ChangesProgress m n t (with_released l.0) → SameRoom m n → IsMade plan r t n (Ends kind)
    released {n} gave moves room =
        let b = releases_action in
        let none = awake plan r t h.on_track (Release l) at.next refl in
        let noted_up = awake_behind c s t (event.Unlocked l mode) b.turning.may.0 at.running
        (h.on_track.unnoted t) at.uncut in
        let log = log_then l mode in
        let up : IsAwake (after_all c s (unlocks c s t l mode)) t =
        record { no_wait = ap waits_on log ∙ noted_up.no_wait; uncut = ap has_reversal log ∙ noted_up.uncut } in
        subst (λ (y : StepKind). IsMade plan r t n (Ends y)) (sym (unlocked_as l mode b.turning gave))
        (made_behind (Ends (back_in c s t l.0 mode).0) (suc (r.next_op t)) refl b
        (unlocked l mode b.turning gave moves room) up b.as_far.next_op
        (ap (without_lock l.0) (b.as_far.held ∙ rw (at.uncut, none) refl)
        ∙ (release_fits plan l _ _ (fit plan r t p (Release l) at.next)).1))

  -- 10. A thread that was cut gives back what it gained last

  module _ (g : IsGivingUp plan r t) {th : Thread} (is : slice_get m.threads.items t ≡ Some th) where
    -- what it holds still
    left_held : th.held.items ≡ take (length (s.held_locks t)) (before plan r t)
    left_held = (aside_is plan m r t th h lt is).held ∙ rw g.cut.cut refl

    still_listed : s.held_locks t ≡ gained_order th.held.items
    still_listed = rw g.cut.cut at (h.on_track.listed t) ∙ ap gained_order (sym left_held)

    -- nothing,
    pub nothing_held : th.held.items ≡ [] → IsTurn plan r t m Idle
    nothing_held none = still plan r t Idle (goes_by_wait plan r t g.going g.cut.free
        ∙ rw (g.cut.running, g.cut.cut, still_listed ∙ ap gained_order none) refl) h.shows

    -- or a last one
    module _ (hs : List Held) (x : Held) (held : th.held.items ≡ hs ++ x ∷ []) where
      abbrev mode_of_last : Mode
      mode_of_last = mode_held (s.held t x.l.0)

      listed_last : s.held_locks t ≡ listed x ∷ gained_order hs
      listed_last = still_listed ∙ ap gained_order held ∙ gained_order-push hs x

      pub some_left : s.held_locks t ≢ []
      some_left z = absurd (let e : [] ≡ listed x ∷ gained_order hs = sym z ∙ listed_last in cc)

      pub gives_last_action : Begins plan r t m
          (does (back_in c s t x.l.0 mode_of_last).0 (unlocks c s t x.l mode_of_last))
      gives_last_action = begins p lt h
          (goes_by_wait plan r t g.going g.cut.free ∙ rw (g.cut.running, g.cut.cut, listed_last) refl)

      pub gave_last : {n : Machine} {kind : StepKind} → Unlocks plan m n t x.l kind
          → ChangesProgress m n t (with_released x.l.0) → SameRoom m n → IsTurn plan r t n (Did kind)
      gave_last {n} gave moves room =
          let b = gives_last_action in
          let log = log_then x.l mode_of_last in
          let noted_cut = cut_behind c s t (event.Unlocked x.l mode_of_last) ∙ g.cut.cut in
          let noted_awake = waits_behind c s t (event.Unlocked x.l mode_of_last) in
          let last = releases.last plan r t p h.on_track lt (listed x) (gained_order hs) g.cut listed_last in
          let fewer = listed_then x.l mode_of_last in
          subst (λ (y : StepKind). IsTurn plan r t n (Did y)) (sym (unlocked_as x.l mode_of_last b.turning gave))
          (stays (made (Does (Did (back_in c s t x.l.0 mode_of_last).0)) b
          (unlocked x.l mode_of_last b.turning gave moves room)
          (behind_cut (ap has_reversal log ∙ noted_cut) (ap waits_on log ∙ noted_awake) b.as_far.next_op
          (ap (without_lock x.l.0) (b.as_far.held ∙ rw g.cut.cut refl) ∙ last.without ∙ sym
          (ap (λ n. take n (before plan r t))
          (ap length (fewer ∙ ap (without_held x.l.0) (still_listed ∙ ap gained_order left_held))) ∙ last.left)))))
