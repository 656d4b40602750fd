-- A release from its begin on: what the thread has made so far where the release stands, and that its parts together
-- are a release.
use Rattle.lock_calls.proofs.Names
use Names.{ℕ, Bool, true, false, List, [], replicate, refl, sym, ap, subst, arith, replicate-append-replicate}
use Names.{without_lock, Mark, lock_queue, word_of, is_drop, Entry, Event, Held, LockNo, Kind, Mode, Excl, Shared, Step}
use Names.{Looks, Drops, TakesItem, GivesItem, CountsIn, Marks, Item, RecordOf, config_in, Description, Makes}
use Names.{MakesEach, Knowledge, seeing, ReleaseAt, ComesTo, Frees, Wakes, WakesFirst, wakes, marking, MakesEntry}
use Names.{its_chain, HasWaited, waits_none, waits_on, outside, AwaitsInRelease, ReleaseLeg, misses, makes_free}
use Names.{ReleaseEnd, puts_down, nobody_left, Release, ByDrop, InSection, IsReleaseIn, frees, gives_both, releases_by}
use Rattle.std.proofs.Common.{◌≡◌, ◌+◌, ◌≤◌, ◌∷◌, ◌++◌, ◌∙◌}
use Rattle.std.specs.Prelude.{if◌then◌else◌}
use Rattle.lock_floor.specs.declared.calls.ReleaseAt.TheVariants as places
use Rattle.lock_floor.specs.declared.calls.ReleaseAt.TheVariants.{ComesIn}
use Rattle.lock_calls.specs.Releases.{takes_chain, comes_in, looks, finds_out}
use Rattle.lock_calls.proofs.Looks.{each_append}
use Rattle.lock_calls.proofs.Waited.{makes_sooner, each_sooner}

-- 1. So far

-- what stays of the entry of a release
pub record Noted : Type 0 where
  pub thread : ℕ
  pub spare : ℕ
  pub log : List Entry

abbrev pub noted_of : Knowledge → Noted
noted_of v = record { thread = v.thread; spare = v.spare; log = v.share.log }

-- What a thread t has made of a release since a moment, behind its entry where it has one, at which it held these
-- locks. Outside the section of the lock's chain it looked or made exchanges that missed, which were looks: one at
-- least, and of a lock that is held exclusively so many at most
pub record HasMissed (floor : Description) (l : LockNo) (mode : Mode) (most t : ℕ) (begun now : Knowledge) : Type 0
  where
    pub k : ℕ
    pub some : 1 ≤ k
    pub few : mode ≡ Excl → k ≤ most
    pub each : MakesEach floor (replicate k (Looks t l.0 false ∷ [])) begun now

-- then it took the lock's chain
pub record HasTakenChain (floor : Description) (l : LockNo) (mode : Mode) (most t : ℕ) (begun now : Knowledge) : Type 0
  where
    pub missed : Knowledge
    pub begins : HasMissed floor l mode most t begun missed
    pub took : Makes floor (TakesItem t (its_chain floor (lock_queue l.0)) ∷ []) missed now

-- and its own record, and looked so often
pub record HasComeIn (floor : Description) (l : LockNo) (mode : Mode) (most t : ℕ)
    (begun now : Knowledge) : Type 0 where
  pub chain : Knowledge
  pub has_chain : HasTakenChain floor l mode most t begun chain
  pub there : Knowledge
  pub took : Makes floor (TakesItem t (RecordOf t) ∷ []) chain there
  pub n : ℕ
  pub each : MakesEach floor (replicate n (Looks t l.0 false ∷ [])) there now

-- so often it looked or missed outside the section, of a lock that is held exclusively
abbrev pub IsSoOften : ℕ → Mode → Release → Type 0
IsSoOften most mode (ByDrop k) = (1 ≤ k) × (mode ≡ Excl → k + 1 ≤ most)
IsSoOften most mode (InSection k n opens ms) = (1 ≤ k) × (mode ≡ Excl → k ≤ most)

-- where one exchange is made at most it is a release of its mode
pub release_in : (mode : Mode) (how : Release) → IsSoOften 1 mode how → IsReleaseIn mode how
release_in Excl (ByDrop k) often = omega (arith, often.0, often.1 refl)
release_in Excl (InSection k n opens ms) often = omega (arith, often.0, often.1 refl)
release_in Shared (ByDrop k) often = tt
release_in Shared (InSection k n opens ms) often = often.0

-- the lock is free, and once it has woken those who are left it has made a whole release
pub record HasFreed (floor : Description) (l : LockNo) (mode : Mode) (most t : ℕ) (begun now : Knowledge) : Type 0 where
  pub how : Release
  pub is_so : IsSoOften most mode how
  pub whole : (z : Knowledge) → MakesEach floor (marking t now.share.doing.marked) now z
      → MakesEach floor (releases_by floor t l.0 mode how) begun z

-- so at each place
abbrev pub HasLet : Description → LockNo → Mode → ℕ → ℕ → Knowledge → ReleaseAt → Knowledge → Type 0
HasLet floor l mode most t begun (places.Drops seen) now =
    (m : HasMissed floor l mode most t begun now) × (mode ≡ Excl → m.k + 1 ≤ most)
HasLet floor l mode most t begun ComesTo now = HasMissed floor l mode most t begun now
HasLet floor l mode most t begun ComesIn now = HasTakenChain floor l mode most t begun now
HasLet floor l mode most t begun (Frees seen) now = HasComeIn floor l mode most t begun now
HasLet floor l mode most t begun Wakes now = HasFreed floor l mode most t begun now

-- the locks that it holds then
abbrev pub held_at : LockNo → List Held → ReleaseAt → List Held
held_at l hs (places.Drops seen) = hs
held_at l hs ComesTo = hs
held_at l hs ComesIn = hs
held_at l hs (Frees seen) = hs
held_at l hs Wakes = without_lock l.0 hs

-- and it may have found out since what it needs
pub record IsAt (floor : Description) (l : LockNo) (mode : Mode) (most t : ℕ) (hs : List Held) (begun : Knowledge)
    (at : ReleaseAt) (now : Knowledge) :
    Type 0 where
  pub came : Knowledge
  pub has_let : HasLet floor l mode most t begun at came
  pub waited : HasWaited came now
  pub held : now.share.held ≡ held_at l hs at
  pub settled : at ≡ Wakes → now.share.doing.marked ≡ [] → now ≡ came

-- who found out what it needs to wake somebody has somebody to wake
nobody_waits : (floor : Description) (l : ℕ) (at : ReleaseAt) (i : Item) (old new : Knowledge)
    → AwaitsInRelease floor l at old i → new ≡ seeing new.seen old → at ≡ Wakes → new.share.doing.marked ≡ [] → ⊥
nobody_waits floor l (places.Drops seen) i old new needs view is nobody = needs
nobody_waits floor l ComesTo i old new needs view is nobody = let z : ComesTo ≡ Wakes = is in cc
nobody_waits floor l ComesIn i old new needs view is nobody = let z : ComesIn ≡ Wakes = is in cc
nobody_waits floor l (Frees seen) i old new needs view is nobody = needs
nobody_waits floor l Wakes i old new needs view is nobody =
    let z : needs.0 ∷ needs.1 ≡ [] =
    sym needs.2 ∙ sym (ap (λ (k : Knowledge). k.share.doing.marked) view) ∙ nobody in
    cc

-- where it stands behind an exchange that missed
pub at_outside : (floor : Description) (l : LockNo) (mode : Mode) (most t : ℕ) (hs : List Held) (begun new : Knowledge)
    (found : ℕ) → HasMissed floor l mode most t begun new → new.share.held ≡ hs
    → IsAt floor l mode most t hs begun (outside mode found) new
at_outside floor l Excl most t hs begun new found h held = record {
  came = new;
  has_let = h;
  waited = waits_none new;
  held = held;
  settled = λ e nobody. refl;
}
at_outside floor l Shared most t hs begun new found h held = go (is_drop (word_of found))
  where
    go : (b : Bool) → IsAt floor l Shared most t hs begun (if b then places.Drops found else ComesTo) new
    go true = record {
      came = new;
      has_let = (h, λ e. absurd (let z : Shared ≡ Excl = e in cc));
      waited = waits_none new;
      held = held;
      settled = λ e nobody. refl;
    }
    go false = record { came = new; has_let = h; waited = waits_none new; held = held; settled = λ e nobody. refl }

-- 2. From one place to the next

module _ (floor : Description) (l : LockNo) (mode : Mode) (most t : ℕ) (hs : List Held) (begun : Knowledge) where
  abbrev kind : Kind
  kind = (config_in floor).kind l.0

  abbrev look : List Step
  look = Looks t l.0 false ∷ []

  more_looks : (now w : Knowledge) → HasComeIn floor l mode most t begun now → Makes floor look now w
      → HasComeIn floor l mode most t begun w
  more_looks now w h step = record {
    chain = h.chain;
    has_chain = h.has_chain;
    there = h.there;
    took = h.took;
    n = h.n + 1;
    each = subst (λ xs. MakesEach floor xs h.there w) (replicate-append-replicate h.n 1 look)
        (each_append floor (replicate h.n look) (replicate 1 look) h.there now w h.each (w, step, refl));
  }

  module _ (now new : Knowledge) (its : now.thread ≡ t) where
    pub goes_on : (at to : ReleaseAt) → IsAt floor l mode most t hs begun at now → ReleaseLeg floor l mode at to now new
        → IsAt floor l mode most t hs begun to new
    goes_on at to h (misses seen found other held saw step) =
        let m = h.has_let.0 in
        at_outside floor l mode most t hs begun new found
        (record {
          k = m.k + 1;
          some = omega arith;
          few = h.has_let.1;
          each = subst (λ xs. MakesEach floor xs begun new) (replicate-append-replicate m.k 1 look)
              (each_append floor (replicate m.k look) (replicate 1 look) begun h.came new m.each (
                new,
                makes_sooner floor look h.came now new h.waited
                    (subst (λ u. Makes floor (Looks u l.0 false ∷ []) now new) its step),
                refl,
              ));
        })
        (held ∙ h.held)
    goes_on at to h (takes_chain held step) = record {
      came = new;
      has_let = record {
        missed = h.came;
        begins = h.has_let;
        took = makes_sooner floor (TakesItem t (its_chain floor (lock_queue l.0)) ∷ []) h.came now new h.waited
            (subst (λ u. Makes floor (TakesItem u (its_chain floor (lock_queue l.0)) ∷ []) now new) its step);
      };
      waited = waits_none new;
      held = held ∙ h.held;
      settled = λ e nobody. refl;
    }
    goes_on at to h (comes_in seen held each) =
        let made : MakesEach floor ((TakesItem t (RecordOf t) ∷ []) ∷ look ∷ []) h.came new =
        each_sooner floor (TakesItem t (RecordOf t) ∷ []) (look ∷ []) h.came now new h.waited
        (subst (λ u. MakesEach floor ((TakesItem u (RecordOf u) ∷ []) ∷ (Looks u l.0 false ∷ []) ∷ []) now new) its
        each)
        in
        record {
          came = new;
          has_let = record {
            chain = h.came;
            has_chain = h.has_let;
            there = made.0;
            took = made.1;
            n = 1;
            each = made.2;
          };
          waited = waits_none new;
          held = held ∙ h.held;
          settled = λ e nobody. refl;
        }
    goes_on at to h (looks seen found other held step) = record {
      came = new;
      has_let = more_looks h.came new h.has_let
          (makes_sooner floor look h.came now new h.waited
          (subst (λ u. Makes floor (Looks u l.0 false ∷ []) now new) its step));
      waited = waits_none new;
      held = held ∙ h.held;
      settled = λ e nobody. refl;
    }
    goes_on at to h (makes_free seen opens held each) =
        let made : MakesEach floor ((frees kind t l.0 mode opens ∷ []) ∷ gives_both floor t l.0) h.came new =
        each_sooner floor (frees kind t l.0 mode opens ∷ []) (gives_both floor t l.0) h.came now new h.waited
        (subst (λ u. MakesEach floor ((frees kind u l.0 mode opens ∷ []) ∷ gives_both floor u l.0) now new) its each) in
        let c = h.has_let in
        let k = c.has_chain in
        let marks : List Mark = new.share.doing.marked in
        record {
          came = new;
          has_let = record {
            how = InSection k.begins.k c.n opens marks;
            is_so = (k.begins.some, k.begins.few);
            whole = λ z woken.
                each_append floor (replicate k.begins.k look)
                ((TakesItem t (its_chain floor (lock_queue l.0)) ∷ []) ∷ (TakesItem t (RecordOf t) ∷ [])
                ∷ ((replicate c.n look ++ (frees kind t l.0 mode opens ∷ []) ∷ [])
                ++ (gives_both floor t l.0 ++ marking t marks))) begun k.missed z k.begins.each (
                  c.chain,
                  k.took,
                  (
                    c.there,
                    c.took,
                    each_append floor (replicate c.n look ++ (frees kind t l.0 mode opens ∷ []) ∷ [])
                        (gives_both floor t l.0 ++ marking t marks) c.there made.0 z
                        (each_append floor (replicate c.n look) ((frees kind t l.0 mode opens ∷ []) ∷ []) c.there h.came
                        made.0
                        c.each (made.0, made.1, refl))
                        (each_append floor (gives_both floor t l.0) (marking t marks) made.0 new z made.2 woken),
                  ),
                );
          };
          waited = waits_none new;
          held = held ∙ ap (without_lock l.0) h.held;
          settled = λ e nobody. refl;
        }
    goes_on at to h (finds_out a i needs view finds) = record {
      came = h.came;
      has_let = h.has_let;
      waited = waits_on floor i h.came now new h.waited view finds;
      held = ap (λ (k : Knowledge). k.share.held) view ∙ h.held;
      settled = λ e nobody. absurd (nobody_waits floor l.0 a i now new needs view e nobody);
    }

    -- one more was woken
    pub wakes_on : (u : ℕ) → IsAt floor l mode most t hs begun Wakes now → WakesFirst floor u now new
        → IsAt floor l mode most t hs begun Wakes new
    wakes_on u h x =
        let left : new.share.doing.marked ≡ x.others = ap (λ (k : Knowledge). k.share.doing.marked) x.view in
        let all : h.came.share.doing.marked ≡ x.mark ∷ x.others =
        sym (ap (λ (k : Knowledge). k.share.doing.marked) h.waited.view) ∙ x.marked in
        let made : MakesEach floor (wakes t x.mark x.others) h.came new =
        each_sooner floor (TakesItem t (RecordOf x.mark.thread) ∷ [])
        ((CountsIn t x.mark.thread ∷ []) ∷ (Marks t x.mark x.others ∷ [])
        ∷ (GivesItem t (RecordOf x.mark.thread) ∷ []) ∷ []) h.came now new h.waited
        (subst (λ n. MakesEach floor (wakes n x.mark x.others) now new) its x.steps) in
        record {
          came = new;
          has_let = record {
            how = h.has_let.how;
            is_so = h.has_let.is_so;
            whole = λ z woken. h.has_let.whole z
                (subst (λ ms. MakesEach floor (marking t ms) h.came z) (sym all)
                (each_append floor (wakes t x.mark x.others) (marking t x.others) h.came new z made
                (subst (λ ms. MakesEach floor (marking t ms) new z) left woken)));
          };
          waited = waits_none new;
          held = ap (λ (k : Knowledge). k.share.held) x.view ∙ h.held;
          settled = λ e nobody. refl;
        }

-- 3. The end

-- what it has made at its end, and which locks the thread holds then
pub record HasEnded (floor : Description) (l : LockNo) (mode : Mode) (most t : ℕ) (hs : List Held)
    (begun new : Knowledge) : Type 0 where
  pub held : new.share.held ≡ without_lock l.0 hs
  pub how : Release
  pub is_so : IsSoOften most mode how
  pub steps : MakesEach floor (releases_by floor t l.0 mode how) begun new

module _ (floor : Description) (l : LockNo) (mode : Mode) (most t : ℕ) (hs : List Held) (begun now : Knowledge) where
  module _ (h : IsAt floor l mode most t hs begun Wakes now) (nobody : now.share.doing.marked ≡ []) where
    none_left : h.came.share.doing.marked ≡ []
    none_left = sym (ap (λ (k : Knowledge). k.share.doing.marked) h.waited.view) ∙ nobody

    ends : MakesEach floor (releases_by floor t l.0 mode h.has_let.how) begun now
    ends = subst (λ k. MakesEach floor (releases_by floor t l.0 mode h.has_let.how) begun k)
        (sym (h.settled refl nobody))
        (h.has_let.whole h.came
        (subst (λ ms. MakesEach floor (marking t ms) h.came h.came) (sym none_left) refl))

  pub ends_at : (new : Knowledge) (at : ReleaseAt) → now.thread ≡ t → IsAt floor l mode most t hs begun at now
      → ReleaseEnd floor l mode at now new → HasEnded floor l mode most t hs begun new
  ends_at new at its h (puts_down seen held step) =
      let drop : List Step = Drops t l.0 mode ∷ [] in
      let m = h.has_let.0 in
      record {
        held = held ∙ ap (without_lock l.0) h.held;
        how = ByDrop m.k;
        is_so = (m.some, h.has_let.1);
        steps = each_append floor (replicate m.k (Looks t l.0 false ∷ [])) (drop ∷ []) begun h.came new m.each (
          new,
          makes_sooner floor drop h.came now new h.waited
              (subst (λ u. Makes floor (Drops u l.0 mode ∷ []) now new) its step),
          refl,
        );
      }
  ends_at new at its h (nobody_left nobody) = record {
    held = h.held;
    how = h.has_let.how;
    is_so = h.has_let.is_so;
    steps = ends h nobody;
  }

-- the release is noted since then
pub record HasNoted (floor : Description) (l : LockNo) (mode : Mode) (begun now : Knowledge) : Type 0 where
  pub first : Knowledge
  pub entry : MakesEntry floor (Event.Unlocked l mode) begun.share.held begun first
  pub still : noted_of now ≡ noted_of first

-- the entry of the release is one since the begin
pub entry_since : (floor : Description) (l : LockNo) (mode : Mode) (begun first now : Knowledge)
    → MakesEntry floor (Event.Unlocked l mode) begun.share.held begun first → noted_of now ≡ noted_of first
    → now.share.held ≡ without_lock l.0 begun.share.held
    → MakesEntry floor (Event.Unlocked l mode) (without_lock l.0 begun.share.held) begun now
entry_since floor l mode begun first now e noted held = record {
  ticket = e.ticket;
  log = ap (λ (k : Noted). k.log) noted ∙ e.log;
  held = held;
  spare = ap (λ (k : Noted). k.spare + 1) noted ∙ e.spare;
  thread = ap (λ (k : Noted). k.thread) noted ∙ e.thread;
  before = e.before;
  behind = e.behind;
  of = e.of;
  step = e.step;
  log_before = e.log_before;
  log_behind = e.log_behind ∙ sym (ap (λ (k : Noted). k.log) noted);
}
