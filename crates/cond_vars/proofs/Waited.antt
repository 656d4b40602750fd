-- A wait, part after part: what it has made since it began, at each place, and that its last part makes the whole.
use Rattle.std.proofs.Common.{◌≡◌, ℕ, ◌<◌, false, List, [], ◌∷◌, ◌++◌, length, sym, ap, ◌∙◌, subst}
use Rattle.lock_laws.proofs.HeldLists.{Apart}
use Rattle.lock_model.specs.History.{left_in}
use Rattle.lock_model.specs.Holds.{NotHeld, Holds}
use Rattle.lock_model.specs.Operations.{hold_in, without_lock}
use Rattle.lock_model.specs.Queues.{Cause, BySignal, ByAbort, chan_queue}
use Rattle.lock_model.specs.declared.event.Event.TheVariants.{Sleeps}
use Rattle.lock_model.specs.declared.event.Held.{Held}
use Rattle.lock_model.specs.declared.numbers.ChanNo.{ChanNo}
use Rattle.lock_model.specs.declared.numbers.LockNo.{LockNo}
use Rattle.lock_model.specs.declared.plan.Mode.{Mode}
use Rattle.lock_model.specs.declared.plan.QueueName.{QueueName}
use Rattle.lock_state.specs.State.{Last}
use Rattle.lock_state.specs.Steps.{Step, TakesItem, Stamps, CountsOut, Resumes}
use Rattle.lock_state.specs.Steps.Items.{RecordOf}
use Rattle.floor_table.specs.Descriptions.{config_in}
use Rattle.floor_table.specs.Past.{IsSeenBy}
use Rattle.floor_table.specs.Steps.{Makes, MakesEach}
use Rattle.floor_table.specs.Views.{Knowledge, StandsOn, seeing}
use Rattle.floor_table.specs.declared.description.Description.{Description}
use Rattle.floor_table.proofs.Made.{sooner}
use Rattle.floor_table.proofs.Seen.{seen_on}
use Rattle.lock_floor.specs.declared.queues.HaltAt.{HaltAt}
use Rattle.lock_floor.specs.Latches.{Takes}
use Rattle.lock_floor.specs.Passes.{MakesEntry}
use Rattle.lock_floor.specs.Relocks.{GivesUp, MayRelease, MayRetake, TakesBack}
use Rattle.lock_floor.specs.Resumes.{FindsQueued, RunsAgain, cause_of}
use Rattle.lock_floor.specs.Views.{entry_by}
use Rattle.lock_floor.specs.Waits.{its_chain, chain_place}
use Rattle.lock_floor.proofs.Taking.{HasWaited, takes_then, waits_none, waits_on}
use Rattle.halting.specs.Halts.{CountsItselfOut, Kept, kept_of, nobody_is_awake, somebody_is_awake}
use Rattle.halting.proofs.Whole.{HaltsSince, begins_whole, goes_on, is_done}
use Rattle.cond_vars.specs.declared.parts.WaitAt.{WaitAt}
use Rattle.cond_vars.specs.declared.parts.WaitAt.TheVariants as places
use Rattle.cond_vars.specs.declared.parts.WaitNext.{WaitNext}
use Rattle.cond_vars.specs.declared.parts.WaitNext.TheVariants as next
use Rattle.cond_vars.specs.Parts.{HasReleased, IsThen, IsToRelease, IsToTakeBack, IsWaiting, WaitPart}
use Rattle.cond_vars.specs.Parts as parts
use Rattle.cond_vars.specs.Sleeping.{LiesThere, NotesEnd}
use Rattle.cond_vars.specs.Waits.{MayWait, Waits, lock_of, lies_down, lies_there, ended_by}
use Rattle.cond_vars.proofs.HeldLocks.{apart, its_lock, held_at_end}

-- 1. What it has made since it began

-- the steps by which a lock is released, and by which it is taken back
abbrev pub ReleaseSteps : Type 1
ReleaseSteps = Description → ℕ → Knowledge → Knowledge → Type 0

abbrev pub RetakeSteps : Type 1
RetakeSteps = Description → ℕ → Mode → Knowledge → Knowledge → Type 0

-- it lay down on the channel's queue, and noted that it sleeps
pub record HasLain (floor : Description) (d : ChanNo) (begun v : Knowledge) : Type 0 where
  pub own : ℕ
  pub lies : MakesEach floor (lies_down floor begun.thread d own) begun v
  pub slept : MakesEntry floor (Sleeps d) begun.share.held begun v

-- it released the lock since
pub record HasLeft (Releases : ReleaseSteps) (floor : Description) (d : ChanNo) (mode : Mode) (begun v : Knowledge) :
    Type 0 where
  pub asleep : Knowledge
  pub lain : HasLain floor d begun asleep
  pub left : left_in (config_in floor) asleep.share.log asleep.thread (lock_of floor d.0) ≡ Holds mode
  pub releases : Releases floor (lock_of floor d.0) asleep v
  pub unheld : hold_in v.share.held (lock_of floor d.0) ≡ NotHeld
  pub held : v.share.held ≡ without_lock (lock_of floor d.0) begun.share.held
  pub log : v.share.log ≡ asleep.share.log
  pub thread : v.thread ≡ begun.thread
  pub spare : v.spare ≡ asleep.spare

-- it counted itself out then, which left nobody awake, and halts others
pub record HaltsThere (Releases : ReleaseSteps) (floor : Description) (d : ChanNo) (mode : Mode) (begun : Knowledge)
    (there : HaltAt) (v : Knowledge) : Type 0 where
  pub without : Knowledge
  pub has_left : HasLeft Releases floor d mode begun without
  pub last : Knowledge
  pub counts : Makes floor (CountsOut without.thread ∷ []) without last
  pub kept : kept_of last ≡ kept_of without
  pub nobody : last.share.doing.phase ≡ Last
  pub halts : HaltsSince floor last there v

-- it counted itself out then, has nobody left to halt, and wasn't woken so far
pub record SleepsThere (Releases : ReleaseSteps) (floor : Description) (d : ChanNo) (mode : Mode)
    (begun v : Knowledge) : Type 0 where
  pub without : Knowledge
  pub has_left : HasLeft Releases floor d mode begun without
  pub parked : Knowledge
  pub counts : CountsItselfOut floor without parked
  pub kept : kept_of parked ≡ kept_of without
  pub waited : HasWaited parked v

-- it was woken by that cause, and ran again
pub record HasRun (Releases : ReleaseSteps) (floor : Description) (d : ChanNo) (mode : Mode) (begun : Knowledge)
    (cause : Cause) (v : Knowledge) : Type 0 where
  pub without : Knowledge
  pub has_left : HasLeft Releases floor d mode begun without
  pub parked : Knowledge
  pub counts : CountsItselfOut floor without parked
  pub resumes : Makes floor (Resumes begun.thread (chan_queue d.0) cause ∷ []) parked v
  pub held : v.share.held ≡ without_lock (lock_of floor d.0) begun.share.held
  pub log : v.share.log ≡ has_left.asleep.share.log
  pub thread : v.thread ≡ begun.thread
  pub spare : v.spare ≡ has_left.asleep.spare

-- it took the lock back since
pub record HasRetaken (Releases : ReleaseSteps) (Retakes : RetakeSteps) (floor : Description) (d : ChanNo)
    (mode : Mode) (begun : Knowledge) (cause : Cause) (v : Knowledge) : Type 0 where
  pub awake : Knowledge
  pub ran : HasRun Releases floor d mode begun cause awake
  pub retakes : Retakes floor (lock_of floor d.0) mode awake v
  pub held : v.share.held ≡ begun.share.held
  pub log : v.share.log ≡ ran.has_left.asleep.share.log
  pub thread : v.thread ≡ begun.thread
  pub spare : v.spare ≡ ran.has_left.asleep.spare

-- so at each place
abbrev pub WaitsSince : ReleaseSteps → RetakeSteps → Description → ChanNo → Mode → Knowledge → WaitAt → Knowledge
    → Type 0
WaitsSince Releases Retakes floor d mode begun places.ComesTo v = HasWaited begun v
WaitsSince Releases Retakes floor d mode begun places.ComesIn v =
    (u : Knowledge) × Takes floor (its_chain floor (chan_queue d.0)) (chain_place floor (chan_queue d.0)) begun u
    × HasWaited u v
WaitsSince Releases Retakes floor d mode begun places.Parks v = HasLeft Releases floor d mode begun v
WaitsSince Releases Retakes floor d mode begun (places.Halts there) v = HaltsThere Releases floor d mode begun there v
WaitsSince Releases Retakes floor d mode begun places.Sleeps v = SleepsThere Releases floor d mode begun v
WaitsSince Releases Retakes floor d mode begun (places.Notes aborted) v =
    HasRetaken Releases Retakes floor d mode begun (cause_of aborted) v

-- and where its caller is to do that next
abbrev pub MadeSince : ReleaseSteps → RetakeSteps → Description → ChanNo → Mode → Knowledge → WaitNext → Knowledge
    → Type 0
MadeSince Releases Retakes floor d mode begun next.Done v = Waits Releases Retakes floor d BySignal begun v
MadeSince Releases Retakes floor d mode begun next.Halted v = Waits Releases Retakes floor d ByAbort begun v
MadeSince Releases Retakes floor d mode begun (next.Again to) v = WaitsSince Releases Retakes floor d mode begun to v
MadeSince Releases Retakes floor d mode begun next.Sleep v = SleepsThere Releases floor d mode begun v
MadeSince Releases Retakes floor d mode begun (next.Wake t to) v =
    (t.0 < length floor.threads) × WaitsSince Releases Retakes floor d mode begun to v
MadeSince Releases Retakes floor d mode begun next.Release v = HasLain floor d begun v
MadeSince Releases Retakes floor d mode begun (next.TakeBack aborted) v =
    HasRun Releases floor d mode begun (cause_of aborted) v

-- 2. It lies down

has_lain : (floor : Description) (d : ChanNo) (begun u : Knowledge)
    (taken : Takes floor (its_chain floor (chan_queue d.0)) (chain_place floor (chan_queue d.0)) begun u)
    (v : Knowledge) (own : Takes floor (RecordOf u.thread) u.thread u v) (new : Knowledge) → LiesThere floor d v new
    → HasLain floor d begun new
has_lain floor d begun u taken v own new lies =
    let u_thread : u.thread ≡ begun.thread = ap (λ (k : Knowledge). k.thread) taken.view in
    let v_thread : v.thread ≡ begun.thread = ap (λ (k : Knowledge). k.thread) own.view ∙ u_thread in
    let log : v.share.log ≡ begun.share.log =
    ap (λ (k : Knowledge). k.share.log) own.view ∙ ap (λ (k : Knowledge). k.share.log) taken.view in
    let e = lies.entry in
    record {
      own = lies.own;
      lies = (
        u,
        taken.step,
        (
          v,
          subst (λ (t : ℕ). Makes floor (TakesItem t (RecordOf t) ∷ []) u v) u_thread own.step,
          subst (λ t. MakesEach floor (lies_there floor t d lies.own) v new) v_thread lies.steps,
        ),
      );
      slept = record {
        ticket = e.ticket;
        log = e.log ∙ (λ i. entry_by (v_thread i) e.ticket (Sleeps d) ∷ log i);
        held = e.held ∙ ap (λ (k : Knowledge). k.share.held) own.view ∙ ap (λ (k : Knowledge). k.share.held)
            taken.view;
        spare = e.spare ∙ ap (λ (k : Knowledge). k.spare) own.view ∙ ap (λ (k : Knowledge). k.spare) taken.view;
        thread = e.thread ∙ v_thread;
        before = e.before;
        behind = e.behind;
        of = e.of ∙ v_thread;
        step = subst (λ t. Makes floor (Stamps t (Sleeps d) ∷ []) e.before e.behind) v_thread e.step;
        log_before = e.log_before ∙ log;
        log_behind = e.log_behind;
      };
    }

-- 3. Each part comes behind what it has made

-- who finds itself queued has waited
waits_queued : (floor : Description) (old mid new : Knowledge) → HasWaited old mid → new ≡ seeing new.seen mid
    → FindsQueued floor mid new → HasWaited old new
waits_queued floor old mid new h view found =
    let m = found.moment in
    let same : mid.thread ≡ old.thread = ap (λ (k : Knowledge). k.thread) h.view in
    let since : IsSeenBy old.thread mid.seen new.seen =
    subst (λ (z : ℕ × List Step). IsSeenBy z.0 mid.seen z.1) (λ k. (same k, sym m.seen k)) m.since in
    record {
      view = view ∙ ap (seeing new.seen) h.view;
      since = seen_on old.thread old.seen mid.seen new.seen h.since since;
    }

module _ (Releases : ReleaseSteps) (Retakes : RetakeSteps) (floor : Description) (d : ChanNo) (begun : Knowledge)
    (mode : Mode) where
  abbrev k : ℕ
  k = lock_of floor d.0

  abbrev q : QueueName
  q = chan_queue d.0

  module _ (v w : Knowledge) where
    lay_down : (u mid : Knowledge) → Takes floor (its_chain floor q) (chain_place floor q) begun u → HasWaited u v
        → Takes floor (RecordOf v.thread) v.thread v mid → LiesThere floor d mid w → HasLain floor d begun w
    lay_down u mid taken waited own lies =
        has_lain floor d begun u taken mid
        (takes_then floor (RecordOf u.thread) u.thread u v mid waited
        (subst (λ t. Takes floor (RecordOf t) t v mid) (ap (λ (x : Knowledge). x.thread) waited.view) own)) w lies

    ran_again : (cause : Cause) → SleepsThere Releases floor d mode begun v → HasReleased floor d (kept_of v)
        → RunsAgain floor cause v w → HasRun Releases floor d mode begun cause w
    ran_again cause s h r =
        let its_queue : r.queue ≡ q = (let same : StandsOn r.queue ≡ StandsOn q = sym r.stands ∙ h.stands in cc) in
        let kept : kept_of v ≡ kept_of s.without = ap kept_of s.waited.view ∙ s.kept in
        let its : v.thread ≡ begun.thread = ap (λ (x : Kept). x.thread) kept ∙ s.has_left.thread in
        let steps : List Step = Resumes begun.thread q cause ∷ [] in
        let ran : Makes floor steps v w =
        subst (λ (p : ℕ × QueueName). Makes floor (Resumes p.0 p.1 cause ∷ []) v w) (λ i. (its i, its_queue i)) r.step
        in
        record {
          without = s.without;
          has_left = s.has_left;
          parked = s.parked;
          counts = s.counts;
          resumes = sooner floor steps v.seen s.parked w s.waited.since
              (subst (λ (x : Knowledge). Makes floor steps x w) s.waited.view ran);
          held = ap (λ (x : Knowledge). x.share.held) r.view ∙ ap (λ (x : Kept). x.held) kept ∙ s.has_left.held;
          log = ap (λ (x : Knowledge). x.share.log) r.view ∙ ap (λ (x : Kept). x.log) kept ∙ s.has_left.log;
          thread = ap (λ (x : Knowledge). x.thread) r.view ∙ its;
          spare = ap (λ (x : Knowledge). x.spare) r.view ∙ ap (λ (x : Kept). x.spare) kept ∙ s.has_left.spare;
        }

    waits : hold_in begun.share.held k ≡ Holds mode → (cause : Cause)
        → HasRetaken Releases Retakes floor d mode begun cause v → NotesEnd floor d cause v w
        → Waits Releases Retakes floor d cause begun w
    waits held cause s n =
        let left = s.ran.has_left in
        let same : v.thread ≡ left.asleep.thread = s.thread ∙ sym left.lain.slept.thread in
        let e = n.entry in
        record {
          mode = mode;
          held = held;
          own = left.lain.own;
          asleep = left.asleep;
          lies = left.lain.lies;
          slept = left.lain.slept;
          without = s.ran.without;
          releases = left.releases;
          unheld = left.unheld;
          parked = s.ran.parked;
          counts = s.ran.counts;
          awake = s.awake;
          resumes = s.ran.resumes;
          again = v;
          takes_back = s.retakes;
          notes = n.notes;
          ended = record {
            ticket = e.ticket;
            log = e.log ∙ (λ i. entry_by (same i) e.ticket (ended_by cause d) ∷ s.log i);
            held = e.held ∙ s.held;
            spare = e.spare ∙ s.spare;
            thread = e.thread ∙ same;
            before = e.before;
            behind = e.behind;
            of = e.of ∙ same;
            step = subst (λ t. Makes floor (Stamps t (ended_by cause d) ∷ []) e.before e.behind) same e.step;
            log_before = e.log_before ∙ s.log;
            log_behind = e.log_behind;
          };
          halt_word = n.halt_word;
        }

    made : hold_in begun.share.held k ≡ Holds mode → (there : WaitAt) (then : WaitNext)
        → WaitPart floor d there then v w → IsWaiting floor d there v → IsThen floor d then w
        → WaitsSince Releases Retakes floor d mode begun there v → MadeSince Releases Retakes floor d mode begun then w
    made held there then (parts.takes_chain taken) at is s =
        (w, takes_then floor (its_chain floor q) (chain_place floor q) begun v w s taken, waits_none w)
    made held there then (parts.misses_chain view finds) at is s =
        waits_on floor (its_chain floor q) begun v w s view finds
    made held there then (parts.lies_down {mid = mid} own lies) at is s = lay_down s.0 mid s.1 s.2 own lies
    made held there then (parts.misses_record view finds) at is s =
        (s.0, s.1, waits_on floor (RecordOf v.thread) s.0 v w s.2 view finds)
    made held there then (parts.leaves_some counts kept asleep) at is s = record {
      without = v;
      has_left = s;
      parked = w;
      counts = somebody_is_awake counts asleep;
      kept = kept;
      waited = waits_none w;
    }
    made held there then (parts.is_last counts kept nobody) at is s = record {
      without = v;
      has_left = s;
      last = w;
      counts = counts;
      kept = kept;
      nobody = nobody;
      halts = begins_whole floor w is.1;
    }
    made held there then (parts.halts_on from to on nobody) at is s = record {
      without = s.without;
      has_left = s.has_left;
      last = s.last;
      counts = s.counts;
      kept = s.kept;
      nobody = s.nobody;
      halts = goes_on floor s.last v w from s.halts to on;
    }
    made held there then (parts.halts_one from to t of_floor on other) at is s = (
      of_floor,
      record {
        without = s.without;
        has_left = s.has_left;
        last = s.last;
        counts = s.counts;
        kept = s.kept;
        nobody = s.nobody;
        halts = goes_on floor s.last v w from s.halts to on;
      },
    )
    made held there then (parts.has_halted from e) at is s =
        let done = is_done floor s.last v w from s.halts e in
        record {
          without = s.without;
          has_left = s.has_left;
          parked = w;
          counts = nobody_is_awake s.counts s.nobody done.1;
          kept = done.0.kept ∙ s.kept;
          waited = waits_none w;
        }
    made held there then (parts.is_queued view found) at is s = record {
      without = s.without;
      has_left = s.has_left;
      parked = s.parked;
      counts = s.counts;
      kept = s.kept;
      waited = waits_queued floor s.parked v w s.waited view found;
    }
    made held there then (parts.runs_again aborted r) at is s = ran_again (cause_of aborted) s at.0 r
    made held there then (parts.woke n) at is s = waits held BySignal s n
    made held there then (parts.was_halted n) at is s = waits held ByAbort s n

    -- the same of a call that is told what to do next
    pub told : hold_in begun.share.held k ≡ Holds mode → (there : WaitAt) (answer then : WaitNext) → answer ≡ then
        → WaitPart floor d there answer v w → IsWaiting floor d there v → IsThen floor d answer w
        → WaitsSince Releases Retakes floor d mode begun there v
        → IsThen floor d then w × MadeSince Releases Retakes floor d mode begun then w
    told held there answer then is part at after s =
        let now = subst (λ n. IsThen floor d n w) is after in
        (now, made held there then (subst (λ n. WaitPart floor d there n v w) is part) at now s)

  -- 4. The release of the lock, and the taking back

  module _ (l : LockNo) (its : l.0 ≡ k) (held : hold_in begun.share.held k ≡ Holds mode) where
    -- the lock is one of the floor's
    pub low : (v : Knowledge) → HasLain floor d begun v → l.0 < length floor.locks
    low v h = subst (λ j. j < length floor.locks) (sym its)
        (its_lock floor (TakesItem begun.thread (its_chain floor q) ∷ []) begun h.lies.0 h.lies.1 k mode held)

    module _ (v w : Knowledge) where
      pub may_release : IsToRelease floor d v → MayRelease floor l.0 v
      may_release h = subst (λ j. MayRelease floor j v) (sym its) h.may

      pub gives_its : GivesUp l.0 v w → GivesUp k v w
      gives_its gives = subst (λ j. GivesUp j v w) its gives

      pub has_left : HasLain floor d begun v → IsToRelease floor d v → GivesUp l.0 v w → Releases floor l.0 v w
          → HasReleased floor d (kept_of w) → HasLeft Releases floor d mode begun w
      has_left lain h gives releases released = record {
        asleep = v;
        lain = lain;
        left = h.left ∙ ap (λ hs. hold_in hs k) lain.slept.held ∙ held;
        releases = subst (λ j. Releases floor j v w) its releases;
        unheld = released.unheld;
        held = gives.held ∙ (λ i. without_lock (its i) (lain.slept.held i));
        log = gives.keeps.log;
        thread = gives.keeps.thread ∙ lain.slept.thread;
        spare = gives.keeps.spare;
      }

      module _ (cause : Cause) (s : HasRun Releases floor d mode begun cause v) where
        -- the mode in which it left the lock
        pub its_mode : left_in (config_in floor) v.share.log v.thread k ≡ Holds mode
        its_mode = (λ i. left_in (config_in floor) (s.log i)
            ((s.thread ∙ sym s.has_left.lain.slept.thread) i) k) ∙ s.has_left.left

        pub may_retake : IsToTakeBack floor d cause v → MayRetake floor l.0 mode v
        may_retake h = subst (λ j. MayRetake floor j mode v) (sym its) (h.may mode its_mode)

        abbrev as_held : Held
        as_held = record { l = record { 0 = k }; mode = mode; by_try = false }

        pub has_retaken : MayWait floor d.0 begun → TakesBack l mode v w → Retakes floor l.0 mode v w
            → HasRetaken Releases Retakes floor d mode begun cause w
        has_retaken may back retakes =
            let lies = s.has_left.lain.lies in
            let own : Apart begun.share.held =
            apart floor (TakesItem begun.thread (its_chain floor q) ∷ []) begun lies.0 lies.1 in
            record {
              awake = v;
              ran = s;
              retakes = subst (λ j. Retakes floor j mode v w) its retakes;
              held = back.held
                  ∙ (λ i. s.held i ++ record { l = record { 0 = its i }; mode = mode; by_try = false } ∷ [])
                  ∙ held_at_end k mode begun.share.held may.last own held;
              log = back.keeps.log ∙ s.log;
              thread = back.keeps.thread ∙ s.thread;
              spare = back.keeps.spare ∙ s.spare;
            }
