-- A take from its begin on: what the thread has made so far where the take stands, and that its parts together are a
-- take.
use Rattle.lock_calls.proofs.Names
use Names.{ℕ, Bool, true, false, List, [], length, replicate, Option, Some, None, refl, sym, ap, subst, inl, inr, arith}
use Names.{replicate-append-replicate, Cause, BySignal, ByAbort, lock_queue, Word, Event, Reversal, LockNo, Kind, Mode}
use Names.{walk_of, Walk, NoWalk, AtLock, AtThread, Last, Step, Seeks, Looks, Gains, Admits, Refuses, Readies}
use Names.{CountsOut, Resumes, Stamps, TakesItem, Item, RecordOf, ClassGraph, is_taking_back, config_in, Description}
use Names.{Makes, MakesEach, Knowledge, seeing, TakeAt, Checks, Spins, ComesIn, Contends, Walks, Hops, Halts, Sleeps}
use Names.{FindsOut, Takes, checks, MakesEntry, entry_by, its_chain, CanWalk, HopsOn, IsHop, turnstiles}
use Names.{turnstiles_place, walked, no_hop, one_more, waits_queued, HasWaited, waits_none, waits_on, hops_all}
use Names.{CountsItselfOut, somebody_is_awake, nobody_is_awake, HaltsSince, begins_whole, is_done, IsGain}
use Names.{HasMissedFirst, MissesFirst, none_missed, one_missed, as_taken, begins_round, enters_by, gains_checked}
use Names.{gains_at_once, refuses, comes_there, gives_both, runs_on, enters_there, IsInRound, Acquires, LooksOn}
use Names.{looks_alone, tries_too, IsTaking, IsUnderTake, LeavesLooks, again, for_claim, owner_queued, AwaitsInTake}
use Names.{TakesOn, TakeLeg, TakeEnd, IsRefused, IsHalted, WasHalted, kept_at, admitted, at_check, looks, takes_chain}
use Names.{comes_in, looks_there, enters, takes_turnstiles, hops, counts_out, is_last, halts_on, has_halted, resumes}
use Names.{finds_out, is_queued, in_round, in_section, Kept, kept_of, IsCalling}
use Rattle.std.proofs.Common.{◌≡◌, ◌⊎◌, ◌+◌, ◌-◌, ◌≤◌, ◌∷◌, ◌++◌, ◌∙◌}
use Rattle.lock_floor.specs.Walks as walks
use Rattle.halting.proofs.Whole as whole
use Rattle.lock_calls.specs.Steps as steps
use Rattle.lock_calls.specs.Steps.{gains_there, gains_in_round}
use Rattle.lock_calls.proofs.Attempts.{misses_bare, misses_few}
use Rattle.lock_calls.proofs.Halted.{halt_is_set}
use Rattle.lock_calls.proofs.Looks.{each_append}
use Rattle.lock_calls.proofs.Refused.{bare_admitted}
use Rattle.lock_calls.proofs.Spun.{asking_waits, fewer_left, looks_in_it}
use Rattle.lock_calls.proofs.Standing.{walk_still}
use Rattle.lock_calls.proofs.Waited.{makes_sooner, each_sooner, takes_sooner, before_waiting}

-- 1. So far

-- it is in a round with so many looks, behind the last of which it may have to look no more
pub record HasLookedInRound (floor : Description) (l : ℕ) (mode : Mode) (back : Bool) (begun now : Knowledge) : Type 0
  where
    pub last : Option Word
    pub looks : ℕ
    pub round : IsInRound floor l mode back last looks begun now

-- it took the lock's chain behind at most 100
pub record HasTakenChain (floor : Description) (l : ℕ) (mode : Mode) (back : Bool)
    (begun now : Knowledge) : Type 0 where
  pub looked : Knowledge
  pub rounds : HasLookedInRound floor l mode back begun looked
  pub few : rounds.looks ≤ 100
  pub took : Makes floor (TakesItem begun.thread (its_chain floor (lock_queue l)) ∷ []) looked now

-- it came to the section, and looked so often there
pub record HasComeThere (floor : Description) (l : ℕ) (mode : Mode) (back : Bool) (begun now : Knowledge) : Type 0 where
  pub looked : Knowledge
  pub rounds : HasLookedInRound floor l mode back begun looked
  pub few : rounds.looks ≤ 100
  pub there : Knowledge
  pub come : MakesEach floor (comes_there floor begun.thread l) looked there
  pub m : ℕ
  pub each : MakesEach floor (replicate m (Looks begun.thread l false ∷ [])) there now

-- it came to stand on the queue, and made hops
pub record HasStood (floor : Description) (l : ℕ) (mode : Mode) (back : Bool) (begun now : Knowledge) : Type 0 where
  pub looked : Knowledge
  pub rounds : HasLookedInRound floor l mode back begun looked
  pub few : rounds.looks ≤ 100
  pub stands : Knowledge
  pub m : ℕ
  pub x : ℕ
  pub each : MakesEach floor (enters_there floor begun.thread l mode m x) looked stands
  pub walked : walks.Walks floor stands now
  pub thread : stands.thread ≡ begun.thread

-- and it took the chain of turnstiles for another
pub record HasBegunHop (floor : Description) (l : ℕ) (mode : Mode) (back : Bool) (begun now : Knowledge) : Type 0 where
  pub before : Knowledge
  pub stood : HasStood floor l mode back begun before
  pub can : CanWalk floor before
  pub taken : Takes floor turnstiles (turnstiles_place floor) before now

-- or its walk ended there, and its counting out left nobody awake
pub record HasBeenLast (floor : Description) (l : ℕ) (mode : Mode) (back : Bool) (begun now : Knowledge) : Type 0 where
  pub before : Knowledge
  pub stood : HasStood floor l mode back begun before
  pub counts : Makes floor (CountsOut before.thread ∷ []) before now
  pub last : now.share.doing.phase ≡ Last

-- or it counted itself out, and has halted others where that left nobody awake
pub record HasCountedOut (floor : Description) (l : ℕ) (mode : Mode) (back : Bool) (begun now : Knowledge) : Type 0
  where
    pub before : Knowledge
    pub stood : HasStood floor l mode back begun before
    pub counts : CountsItselfOut floor before now

-- so at each place
abbrev pub HasCome : Description → ℕ → Mode → Bool → Knowledge → TakeAt → Knowledge → Type 0
HasCome floor l mode back begun Checks now =
    (missed : ℕ) × HasMissedFirst floor l mode missed begun now × (back ≡ false)
HasCome floor l mode back begun (Spins left) now =
    (r : HasLookedInRound floor l mode back begun now) × (r.looks + (left + left) ≤ 100)
    × (1 ≤ left → IsInRound floor l mode back None r.looks begun now)
HasCome floor l mode back begun ComesIn now = HasTakenChain floor l mode back begun now
HasCome floor l mode back begun (Contends seen) now = HasComeThere floor l mode back begun now
HasCome floor l mode back begun (Walks there) now = HasStood floor l mode back begun now
HasCome floor l mode back begun (Hops there) now = HasBegunHop floor l mode back begun now
HasCome floor l mode back begun (Halts at) now = HasBeenLast floor l mode back begun now
HasCome floor l mode back begun Sleeps now = HasCountedOut floor l mode back begun now

-- since it came there it may have found out what it needs; and it may have gone on with its halting
abbrev pub Since : Description → TakeAt → Knowledge → Knowledge → Type 0
Since floor Checks came now = HasWaited came now
Since floor (Spins left) came now = HasWaited came now
Since floor ComesIn came now = HasWaited came now
Since floor (Contends seen) came now = HasWaited came now
Since floor (Walks there) came now = HasWaited came now
Since floor (Hops there) came now = HasWaited came now
Since floor (Halts at) came now = HaltsSince floor came at now
Since floor Sleeps came now = HasWaited came now

pub record IsAt (floor : Description) (l : ℕ) (mode : Mode) (back : Bool) (begun : Knowledge) (at : TakeAt)
    (now : Knowledge) : Type 0
  where
    pub came : Knowledge
    pub has_come : HasCome floor l mode back begun at came
    pub since : Since floor at came now

-- who finds out what it needs has waited on
waits_longer : (floor : Description) (l : ℕ) (at : TakeAt) (i : Item) (came now new : Knowledge)
    → AwaitsInTake floor now l at i → Since floor at came now → new ≡ seeing new.seen now → FindsOut floor i now new
    → Since floor at came new
waits_longer floor l Checks i came now new needs since view finds = waits_on floor i came now new since view finds
waits_longer floor l (Spins left) i came now new needs since view finds =
    waits_on floor i came now new since view finds
waits_longer floor l ComesIn i came now new needs since view finds = waits_on floor i came now new since view finds
waits_longer floor l (Contends seen) i came now new needs since view finds = absurd needs
waits_longer floor l (Walks there) i came now new needs since view finds =
    waits_on floor i came now new since view finds
waits_longer floor l (Hops there) i came now new needs since view finds =
    waits_on floor i came now new since view finds
waits_longer floor l (Halts at) i came now new needs since view finds = absurd needs
waits_longer floor l Sleeps i came now new needs since view finds = absurd needs

-- of what isn't taken back no sleep is ended by an abort
only_signals : (cause : Cause) → (cause ≡ ByAbort → true ≡ false) → cause ≡ BySignal
only_signals BySignal never = refl
only_signals ByAbort never = absurd (let z : true ≡ false = never refl in cc)

-- a hop's rest is never nothing
hop_goes_on : (t : ℕ) (w : Walk) → IsHop t w ((TakesItem t turnstiles ∷ []) ∷ []) → ⊥
hop_goes_on t NoWalk hop = hop
hop_goes_on t (AtLock l) (inl x) = let z : 1 ≡ 5 = ap length x.1.1 in absurd (omega (arith, z))
hop_goes_on t (AtLock l) (inr e) = let z : 1 ≡ 3 = ap length e in absurd (omega (arith, z))
hop_goes_on t (AtThread o) x = let z : 1 ≡ 5 = ap length x.2 in absurd (omega (arith, z))

-- so it leads on from what the thread knew before it waited
hops_sooner : (floor : Description) (w : Walk) (old mid new : Knowledge) → HasWaited old mid → HopsOn floor w mid new
    → HopsOn floor w old new
hops_sooner floor w old mid new h x = record {
  steps = x.steps;
  hop = hop;
  each = go x.steps x.each hop;
  view = x.view ∙ ap (λ (k : Knowledge). seeing new.seen (record (walked k w) { out = [] })) h.view;
  on_floor = x.on_floor;
}
  where
    hop : IsHop old.thread old.share.doing.walk ((TakesItem old.thread turnstiles ∷ []) ∷ x.steps)
    hop = subst (λ (k : Knowledge). IsHop k.thread k.share.doing.walk ((TakesItem k.thread turnstiles ∷ []) ∷ x.steps))
        h.view x.hop

    go : (xs : List (List Step)) → MakesEach floor xs mid new
        → IsHop old.thread old.share.doing.walk ((TakesItem old.thread turnstiles ∷ []) ∷ xs)
        → MakesEach floor xs old new
    go [] each only = absurd (hop_goes_on old.thread old.share.doing.walk only)
    go (s ∷ ss) each only = each_sooner floor s ss old mid new h each

-- an entry that leaves the locks that the thread holds is one since the begin
note_since : (floor : Description) (e : Event) (at : TakeAt) (begun now new : Knowledge)
    → kept_at at now ≡ kept_of begun → MakesEntry floor e now.share.held now new
    → MakesEntry floor e begun.share.held begun new
note_since floor e at begun now new kept x = record {
  ticket = x.ticket;
  log = x.log ∙ ap (λ (k : Kept). entry_by k.thread x.ticket e ∷ k.log) kept;
  held = x.held ∙ ap (λ (k : Kept). k.held) kept;
  spare = x.spare ∙ ap (λ (k : Kept). k.spare) kept;
  thread = x.thread ∙ ap (λ (k : Kept). k.thread) kept;
  before = x.before;
  behind = x.behind;
  of = x.of ∙ ap (λ (k : Kept). k.thread) kept;
  step = subst (λ t. Makes floor (Stamps t e ∷ []) x.before x.behind) (ap (λ (k : Kept). k.thread) kept) x.step;
  log_before = x.log_before ∙ ap (λ (k : Kept). k.log) kept;
  log_behind = x.log_behind;
}

-- 2. The begin

pub begins_at : (floor : Description) (l : ℕ) (mode : Mode) (begun now : Knowledge) (missed : ℕ)
    → HasMissedFirst floor l mode missed begun now → IsAt floor l mode false begun Checks now
begins_at floor l mode begun now missed first = record {
  came = now;
  has_come = (missed, first, refl);
  since = waits_none now;
}

-- a taking back is in a round from its begin
pub begins_back : (floor : Description) (l : ℕ) (mode : Mode) (left : ℕ) (begun : Knowledge) → left ≤ 48
    → IsAt floor l mode true begun (Spins left) begun
begins_back floor l mode left begun few = record {
  came = begun;
  has_come = (
    record { last = None; looks = 0; round = steps.is_in_one refl },
    omega (arith, few),
    λ some. steps.is_in_one refl,
  );
  since = waits_none begun;
}

-- who made none knows what it knew
none_made : (floor : Description) (l : ℕ) (mode : Mode) (missed : ℕ) (next : Word) (old new : Knowledge)
    → MissesFirst floor l mode missed next old new → (old ≡ new) ⊎ (1 ≤ missed)
none_made floor l mode missed next old new none_missed = inl refl
none_made floor l mode missed next old new (one_missed n from found before plain look saw other) = inr (omega arith)

-- 3. From one place to the next

module _ (floor : Description) (l : LockNo) (mode : Mode) (back : Bool) (begun : Knowledge) where
  abbrev look : List Step
  look = Looks begun.thread l.0 true ∷ []

  abbrev kind : Kind
  kind = (config_in floor).kind l.0

  abbrev look_there : List Step
  look_there = Looks begun.thread l.0 false ∷ []

  more_there : (now w : Knowledge) → HasComeThere floor l.0 mode back begun now → Makes floor look_there now w
      → HasComeThere floor l.0 mode back begun w
  more_there now w h step = record {
    looked = h.looked;
    rounds = h.rounds;
    few = h.few;
    there = h.there;
    come = h.come;
    m = h.m + 1;
    each = subst (λ xs. MakesEach floor xs h.there w) (replicate-append-replicate h.m 1 look_there)
        (each_append floor (replicate h.m look_there) (replicate 1 look_there) h.there now w h.each (w, step, refl));
  }

  look_sooner : (old mid new : Knowledge) → HasWaited old mid → Makes floor (Looks mid.thread l.0 true ∷ []) mid new
      → Makes floor (Looks old.thread l.0 true ∷ []) old new
  look_sooner old mid new h step =
      makes_sooner floor (Looks old.thread l.0 true ∷ []) old mid new h
      (subst (λ t. Makes floor (Looks t l.0 true ∷ []) mid new) (ap (λ (k : Knowledge). k.thread) h.view) step)

  -- it counts itself out from what it knew before it waited
  out_sooner : (old mid new : Knowledge) → HasWaited old mid → Makes floor (CountsOut mid.thread ∷ []) mid new
      → Makes floor (CountsOut old.thread ∷ []) old new
  out_sooner old mid new h step =
      makes_sooner floor (CountsOut old.thread ∷ []) old mid new h
      (subst (λ t. Makes floor (CountsOut t ∷ []) mid new) (ap (λ (k : Knowledge). k.thread) h.view) step)

  -- it looks from what it knew before it waited
  looks_sooner : (n : ℕ) (word : Word) (old mid new : Knowledge) → HasWaited old mid
      → LooksOn floor l.0 mode n word mid new → LooksOn floor l.0 mode n word old new
  looks_sooner n word old mid new h (looks_alone w course step saw) =
      looks_alone w course (look_sooner old mid new h step) saw
  looks_sooner n word old mid new h (tries_too tried from found course step saw miss found_it other) =
      tries_too tried from found course (look_sooner old mid tried h step) saw
      (subst (λ t. Makes floor (Looks t l.0 true ∷ []) tried new) (ap (λ (k : Knowledge). k.thread) h.view) miss)
      found_it other

  -- behind a look that saw the word it looks no more,
  looks_no_more : (all : ℕ) (word : Word) (seen : Knowledge) → IsInRound floor l.0 mode back (Some word) all begun seen
      → all ≤ 100 → HasCome floor l.0 mode back begun (Spins 0) seen
  looks_no_more all word seen round few = (
    record { last = Some word; looks = all; round = round },
    omega (arith, few),
    λ none. absurd (omega (arith, none)),
  )

  -- or may look so often
  looks_lead : (all left rest : ℕ) (word : Word) (seen new : Knowledge)
      → IsInRound floor l.0 mode back (Some word) all begun seen
      → LeavesLooks floor kind mode word left rest seen new → all + (rest + rest) ≤ 100
      → IsAt floor l.0 mode back begun (Spins rest) new
  looks_lead all left rest word seen new round (again x) few =
      let on : IsInRound floor l.0 mode back None all begun new = steps.may_look_again all word round x in
      record {
        came = new;
        has_come = (record { last = None; looks = all; round = on }, few, λ some. on);
        since = waits_none new;
      }
  looks_lead all left rest word seen new round (for_claim by_claim) few = record {
    came = seen;
    has_come = looks_no_more all word seen round (omega (arith, few));
    since = waits_none seen;
  }
  looks_lead all left rest word seen new round (owner_queued mutex asked) few = record {
    came = seen;
    has_come = looks_no_more all word seen round (omega (arith, few));
    since = asking_waits floor word true seen new asked;
  }

  module _ (now new : Knowledge) (its : now.thread ≡ begun.thread) (its_then : new.thread ≡ begun.thread) where
    -- 4. Each leg

    pub goes_on : (at to : TakeAt) → is_taking_back now.share.log ≡ back → IsTaking floor l.0 at now
        → IsAt floor l.0 mode back begun at now → TakeLeg floor l mode at to now new
        → IsAt floor l.0 mode back begun to new
    goes_on at to log there h (admitted seen left rest found few each saw other leaves) =
        let c = h.has_come in
        let round : List (List Step) = (Seeks begun.thread l.0 false ∷ look) ∷ [] in
        let made : MakesEach floor (begins_round begun.thread l.0) h.came seen =
        each_sooner floor (TakesItem begun.thread ClassGraph ∷ []) ((Admits begun.thread l.0 ∷ []) ∷ round) h.came now
        seen
        h.since
        (subst (λ t. MakesEach floor (checks t l.0 None ++ (Seeks t l.0 false ∷ Looks t l.0 true ∷ []) ∷ []) now seen)
        its
        each) in
        let fewer : rest ≤ left - 1 = fewer_left floor kind mode found left rest seen new leaves in
        looks_lead (c.0 + 1) left rest found seen new (steps.begins c.0 found c.2 c.1 made saw other) leaves
        (omega (arith, few, fewer, misses_few kind begun.share.held c.0 c.1.first))
    goes_on at to log there h (looks seen left n rest word some on leaves) =
        let r = h.has_come.0 in
        let two : n ≤ 2 = (looks_in_it floor l.0 mode n word now seen on).1 in
        let fewer : rest ≤ left - 1 = fewer_left floor kind mode word left rest seen new leaves in
        looks_lead (r.looks + n) left rest word seen new
        (steps.looks_on r.looks n word (h.has_come.2 some) (looks_sooner n word h.came now seen h.since on)) leaves
        (omega (arith, h.has_come.1, some, two, fewer))
    goes_on at to log there h (takes_chain step) = record {
      came = new;
      has_come = record {
        looked = h.came;
        rounds = h.has_come.0;
        few = omega (arith, h.has_come.1);
        took = makes_sooner floor (TakesItem begun.thread (its_chain floor (lock_queue l.0)) ∷ []) h.came now new
            h.since
            (subst (λ t. Makes floor (TakesItem t (its_chain floor (lock_queue l.0)) ∷ []) now new) its step);
      };
      since = waits_none new;
    }
    goes_on at to log there h (comes_in seen each) =
        let made : MakesEach floor ((TakesItem begun.thread (RecordOf begun.thread) ∷ [])
        ∷ (Readies begun.thread (lock_queue l.0) ∷ []) ∷ look_there ∷ []) h.came new =
        each_sooner floor (TakesItem begun.thread (RecordOf begun.thread) ∷ [])
        ((Readies begun.thread (lock_queue l.0) ∷ []) ∷ look_there ∷ []) h.came now new h.since
        (subst (λ t. MakesEach floor ((TakesItem t (RecordOf t) ∷ []) ∷ (Readies t (lock_queue l.0) ∷ [])
        ∷ (Looks t l.0 false ∷ []) ∷ []) now new) its each) in
        record {
          came = new;
          has_come = record {
            looked = h.has_come.looked;
            rounds = h.has_come.rounds;
            few = h.has_come.few;
            there = made.2.0;
            come = (h.came, h.has_come.took, (made.0, made.1, (made.2.0, made.2.1, refl)));
            m = 1;
            each = made.2.2;
          };
          since = waits_none new;
        }
    goes_on at to log there h (looks_there seen found other step) = record {
      came = new;
      has_come = more_there h.came new h.has_come
          (makes_sooner floor look_there h.came now new h.since
          (subst (λ t. Makes floor (Looks t l.0 false ∷ []) now new) its step));
      since = waits_none new;
    }
    goes_on at to log there h (enters seen x w each) =
        let enter : List Step = enters_by kind begun.thread l.0 mode x ∷ [] in
        let made : MakesEach floor (enter ∷ gives_both floor begun.thread l.0) h.came new =
        each_sooner floor enter (gives_both floor begun.thread l.0) h.came now new h.since
        (subst (λ t. MakesEach floor ((enters_by kind t l.0 mode x ∷ []) ∷ gives_both floor t l.0) now new) its each) in
        let c = h.has_come in
        let behind_looks : MakesEach floor (replicate c.m look_there ++ enter ∷ []) c.there made.0 =
        each_append floor (replicate c.m look_there) (enter ∷ []) c.there h.came made.0
        c.each (made.0, made.1, refl) in
        record {
          came = new;
          has_come = record {
            looked = c.looked;
            rounds = c.rounds;
            few = c.few;
            stands = new;
            m = c.m;
            x = x;
            each = each_append floor (comes_there floor begun.thread l.0)
                ((replicate c.m look_there ++ enter ∷ []) ++ gives_both floor begun.thread l.0) c.looked c.there new
                c.come
                (each_append floor (replicate c.m look_there ++ enter ∷ []) (gives_both floor begun.thread l.0) c.there
                made.0 new behind_looks made.2);
            walked = no_hop;
            thread = its_then;
          };
          since = waits_none new;
        }
    goes_on at to log there h (takes_turnstiles w taken) = record {
      came = new;
      has_come = record {
        before = h.came;
        stood = h.has_come;
        can = walk_still floor now h.came (before_waiting h.came now h.since) there.1;
        taken = takes_sooner floor turnstiles (turnstiles_place floor) h.came now new h.since taken;
      };
      since = waits_none new;
    }
    goes_on at to log there h (hops w t on) =
        let c = h.has_come in
        let hop = hops_all floor (walk_of t) c.before h.came new c.can c.taken
        (hops_sooner floor (walk_of t) h.came now new h.since on) in
        record {
          came = new;
          has_come = record {
            looked = c.stood.looked;
            rounds = c.stood.rounds;
            few = c.stood.few;
            stands = c.stood.stands;
            m = c.stood.m;
            x = c.stood.x;
            each = c.stood.each;
            walked = one_more (walk_of t) c.stood.walked hop;
            thread = c.stood.thread;
          };
          since = waits_none new;
        }
    goes_on at to log there h (counts_out step asleep) = record {
      came = new;
      has_come = record {
        before = h.came;
        stood = h.has_come;
        counts = somebody_is_awake (out_sooner h.came now new h.since step) asleep;
      };
      since = waits_none new;
    }
    goes_on at to log there h (is_last step last) = record {
      came = new;
      has_come = record {
        before = h.came;
        stood = h.has_come;
        counts = out_sooner h.came now new h.since step;
        last = last.last;
      };
      since = begins_whole floor new last;
    }
    goes_on at to log there h (halts_on a b on) = record {
      came = h.came;
      has_come = h.has_come;
      since = whole.goes_on floor h.came now new a h.since b on;
    }
    goes_on at to log there h (has_halted a end) = record {
      came = new;
      has_come = record {
        before = h.has_come.before;
        stood = h.has_come.stood;
        counts = nobody_is_awake h.has_come.counts h.has_come.last
            (is_done floor h.came now new a h.since end).1;
      };
      since = waits_none new;
    }
    goes_on at to log there h (resumes left cause few back_too step) =
        let o = h.has_come in
        let c = o.stood in
        let r = c.rounds in
        let resume : Makes floor (Resumes begun.thread (lock_queue l.0) cause ∷ []) h.came new =
        makes_sooner floor (Resumes begun.thread (lock_queue l.0) cause ∷ []) h.came now new h.since
        (subst (λ t. Makes floor (Resumes t (lock_queue l.0) cause ∷ []) now new) its step) in
        let on : IsInRound floor l.0 mode back None 0 begun new =
        steps.sleeps r.last r.looks c.m c.x cause r.round c.few c.each
        (λ taken. only_signals cause (λ e. sym (back_too e) ∙ log ∙ taken))
        (record {
          walked = o.before;
          walk = c.walked;
          parked = h.came;
          counts = o.counts;
          resumes = subst (λ t. Makes floor (Resumes t (lock_queue l.0) cause ∷ []) h.came new) (sym c.thread) resume;
        }) in
        record {
          came = new;
          has_come = (record { last = None; looks = 0; round = on }, omega (arith, few), λ more. on);
          since = waits_none new;
        }
    goes_on at to log there h (finds_out a i needs view finds) = record {
      came = h.came;
      has_come = h.has_come;
      since = waits_longer floor l.0 a i h.came now new needs h.since view finds;
    }
    goes_on at to log there h (is_queued view queued) = record {
      came = h.came;
      has_come = h.has_come;
      since = waits_queued floor h.came now new h.since view queued;
    }

  -- 5. The end

  module _ (now new : Knowledge) (its : now.thread ≡ begun.thread) where
    pub ends : (at : TakeAt) → IsAt floor l.0 mode back begun at now → TakeEnd floor l mode at now new
        → Acquires floor l.0 mode back begun new
    ends at h (at_check each) =
        let c = h.has_come in
        let gain : List Step = gains_at_once begun.thread l.0 mode in
        let made : MakesEach floor (gains_checked begun.thread l.0 mode) h.came new =
        each_sooner floor (TakesItem begun.thread ClassGraph ∷ []) ((Admits begun.thread l.0 ∷ []) ∷ gain ∷ [])
        h.came now new h.since
        (subst (λ t. MakesEach floor (gains_checked t l.0 mode) now new) its each) in
        steps.checked c.0 c.2 c.1 made
    ends at h (in_round left some each) =
        let made : MakesEach floor (look ∷ (Gains begun.thread l.0 mode false ∷ []) ∷ []) h.came new =
        each_sooner floor look ((Gains begun.thread l.0 mode false ∷ []) ∷ []) h.came now new h.since
        (subst (λ t. MakesEach floor (gains_in_round t l.0 mode) now new) its each) in
        let r = h.has_come.0 in
        steps.in_round r.looks (h.has_come.2 some) (omega (arith, h.has_come.1, some)) made
    ends at h (in_section seen gain is each) =
        let c = h.has_come in
        let r = c.rounds in
        let made : MakesEach floor ((gain ∷ []) ∷ runs_on floor begun.thread l.0) h.came new =
        each_sooner floor (gain ∷ []) (runs_on floor begun.thread l.0) h.came now new h.since
        (subst (λ t. MakesEach floor ((gain ∷ []) ∷ runs_on floor t l.0) now new) its each) in
        let gains : MakesEach floor (replicate c.m look_there ++ (gain ∷ []) ∷ []) c.there made.0 =
        each_append floor (replicate c.m look_there) ((gain ∷ []) ∷ []) c.there h.came made.0 c.each
        (made.0, made.1, refl) in
        let there : MakesEach floor (gains_there floor begun.thread l.0 gain c.m) c.looked new =
        each_append floor (comes_there floor begun.thread l.0)
        ((replicate c.m look_there ++ (gain ∷ []) ∷ []) ++ runs_on floor begun.thread l.0) c.looked c.there new
        c.come
        (each_append floor (replicate c.m look_there ++ (gain ∷ []) ∷ []) (runs_on floor begun.thread l.0) c.there
        made.0 new gains made.2) in
        steps.in_section r.last r.looks c.m gain r.round c.few (subst (λ t. IsGain t l.0 mode false gain) its is) there

-- or its sleep was ended
module _ (floor : Description) (l : LockNo) (mode : Mode) (begun now new : Knowledge) (its : now.thread ≡ begun.thread)
  where
    pub halts : (at : TakeAt) → IsAt floor l.0 mode false begun at now → kept_at at now ≡ kept_of begun
        → IsHalted floor l at now new → WasHalted floor l mode begun new
    halts at h kept x =
        let s : IsAt floor l.0 mode false begun Sleeps now =
        subst (λ a. IsAt floor l.0 mode false begun a now) x.slept h in
        let o : HasCountedOut floor l.0 mode false begun s.came = s.has_come in
        let c = o.stood in
        let r = c.rounds in
        let resumed : Makes floor (Resumes begun.thread (lock_queue l.0) ByAbort ∷ []) s.came x.runs =
        makes_sooner floor (Resumes begun.thread (lock_queue l.0) ByAbort ∷ []) s.came now x.runs s.since
        (subst (λ t. Makes floor (Resumes t (lock_queue l.0) ByAbort ∷ []) now x.runs) its x.resumes) in
        let noted : Makes floor (Stamps begun.thread (Event.HaltedLock l) ∷ []) x.runs new =
        subst (λ t. Makes floor (Stamps t (Event.HaltedLock l) ∷ []) x.runs new) its x.notes in
        record {
          sleeps = x.sleeps;
          rest = x.rest;
          entry = note_since floor (Event.HaltedLock l) at begun now new kept x.entry;
          ends = record {
            last = r.last;
            looks = r.looks;
            looked = c.looked;
            rounds = r.round;
            few = c.few;
            m = c.m;
            x = c.x;
            stands = c.stands;
            enters = c.each;
            runs = x.runs;
            sleeps = record {
              walked = o.before;
              walk = c.walked;
              parked = s.came;
              counts = o.counts;
              resumes = subst (λ t. Makes floor (Resumes t (lock_queue l.0) ByAbort ∷ []) s.came x.runs)
                  (sym c.thread) resumed;
            };
            notes = noted;
            halt_word = halt_is_set floor l begun.thread x.runs new noted;
          };
        }

-- 6. What the whole take leaves

-- its entry is one since the begin
pub entry_since : (floor : Description) (l : LockNo) (mode : Mode) (at : TakeAt) (begun now new : Knowledge)
    → kept_at at now ≡ kept_of begun
    → MakesEntry floor (Event.Locked l mode) (now.share.held ++ as_taken l mode ∷ []) now new
    → MakesEntry floor (Event.Locked l mode) (begun.share.held ++ as_taken l mode ∷ []) begun new
entry_since floor l mode at begun now new kept e = record {
  ticket = e.ticket;
  log = e.log ∙ ap (λ (k : Kept). entry_by k.thread e.ticket (Event.Locked l mode) ∷ k.log) kept;
  held = e.held ∙ ap (λ (k : Kept). k.held ++ as_taken l mode ∷ []) kept;
  spare = e.spare ∙ ap (λ (k : Kept). k.spare) kept;
  thread = e.thread ∙ ap (λ (k : Kept). k.thread) kept;
  before = e.before;
  behind = e.behind;
  of = e.of ∙ ap (λ (k : Kept). k.thread) kept;
  step = subst (λ t. Makes floor (Stamps t (Event.Locked l mode) ∷ []) e.before e.behind)
      (ap (λ (k : Kept). k.thread) kept) e.step;
  log_before = e.log_before ∙ ap (λ (k : Kept). k.log) kept;
  log_behind = e.log_behind;
}

-- what is under way stays so
pub under_take_on : (floor : Description) (l : LockNo) (mode : Mode) (at to : TakeAt) (old new : Knowledge)
    → IsUnderTake floor l mode at old → TakesOn floor l mode at to old new → IsUnderTake floor l mode to new
under_take_on floor l mode at to old new u on = record {
  covered = u.covered;
  calling = subst (IsCalling floor) (sym on.kept) u.calling;
  room = omega (arith, u.room, ap (λ (k : Kept). k.spare) on.kept);
  there = on.there;
}

-- so is that of a refusal, before which the thread made no exchange, since it holds a lock
pub refused_since : (floor : Description) (l : LockNo) (mode : Mode) (at : TakeAt) (begun now new : Knowledge)
    (r : Reversal) → kept_at at now ≡ kept_of begun → IsAt floor l.0 mode false begun Checks now
    → IsRefused floor l r now new
    → IsRefused floor l r begun new
refused_since floor l mode at begun now new r kept h x =
    record {
      wanted = x.wanted;
      rest = x.rest;
      entry = note_since floor (Event.Reversed l r.held) at begun now new kept x.entry;
      steps = elim (none_made floor l.0 mode h.has_come.0 h.has_come.1.next begun h.came h.has_come.1.misses) [
        | inl none ↦ subst (λ k. MakesEach floor (refuses begun.thread l r.held) k new) (sym none) made
        | inr some ↦ absurd (bare_admitted floor l r.held now new
            (ap (λ (k : Kept). k.held) kept
            ∙ misses_bare ((config_in floor).kind l.0) begun.share.held h.has_come.0 h.has_come.1.first some) x.steps)
      ];
    }
  where
    made : MakesEach floor (refuses begun.thread l r.held) h.came new
    made =
        each_sooner floor (TakesItem begun.thread ClassGraph ∷ [])
        ((Refuses begun.thread l.0 r.held.0 ∷ []) ∷ (Stamps begun.thread (Event.Reversed l r.held) ∷ []) ∷ []) h.came
        now
        new h.since
        (subst (λ t. MakesEach floor (refuses t l r.held) now new) (ap (λ (k : Kept). k.thread) kept) x.steps)
