-- A try from its begin on: what the thread has made so far where the try stands, and that its parts together are a try.
use Rattle.lock_calls.proofs.Names
use Names.{ℕ, zero, suc, true, false, List, [], replicate, refl, sym, ap, subst, arith, replicate-append-replicate}
use Names.{lock_queue, Word, word_of, Event, Held, LockNo, Mode, Step, Looks, Gains, Stamps, TakesItem, GivesItem}
use Names.{RecordOf, config_in, Description, Makes, MakesEach, Knowledge, TryAt, Tries, Decides, Pass, MakesEntry}
use Names.{entry_by, its_chain, HasWaited, waits_none, waits_on, course, TryNext, IsGain, gives_both, LooksOn}
use Names.{looks_alone, tries_too, HasSeen, as_tried, seeks_try, tries_there, GainsAndNotes, WasBusyFor, IsUnderTry}
use Names.{TryLeg, TriesOn, GainsAt, gains_in_round, gains_there, FindsBusyAt, busy_in_round, busy_there, HasTried}
use Names.{HasFoundBusy, BeginsTry, StandsInTry, HasBegunTry, GoesOnTrying, EndsBusy, Kept, kept_of, IsCalling}
use Rattle.std.proofs.Common.{◌≡◌, ◌+◌, ◌<◌, ◌≤◌, ◌∷◌, ◌++◌, ◌∙◌}
use Rattle.lock_floor.specs.declared.calls.Call.TheVariants as calls
use Rattle.lock_floor.specs.declared.calls.TryAt.TheVariants.{ComesIn}
use Rattle.lock_calls.specs.declared.trying.TryNext.TheVariants as next
use Rattle.lock_calls.specs.Tries as tries
use Rattle.lock_calls.specs.Tries.{looks, takes_chain, comes_in, looks_there, finds_out}
use Rattle.lock_calls.proofs.Looks.{each_append}
use Rattle.lock_calls.proofs.Spun.{looks_in_it}
use Rattle.lock_calls.proofs.TriedOn.{fewer_left}
use Rattle.lock_calls.proofs.Waited.{makes_sooner, each_sooner}

-- looks in the round saw that word last
looks_saw : (floor : Description) (l : ℕ) (mode : Mode) (n : ℕ) (word : Word) (old new : Knowledge)
    → LooksOn floor l mode n word old new → HasSeen l word new
looks_saw floor l mode n word old new (looks_alone w other look saw) = saw
looks_saw floor l mode n word old new (tries_too mid from found plainly look saw miss last other) = last

-- 1. So far

-- it took the lock's chain, behind at most 100 looks in its round
pub record HasTakenChain (floor : Description) (l : ℕ) (begun now : Knowledge) : Type 0 where
  pub n : ℕ
  pub few : n ≤ 99
  pub looked : Knowledge
  pub each : MakesEach floor (seeks_try begun.thread l n) begun looked
  pub took : Makes floor (TakesItem begun.thread (its_chain floor (lock_queue l)) ∷ []) looked now

-- and its own record, and looked so often there
pub record HasComeThere (floor : Description) (l : ℕ) (begun now : Knowledge) : Type 0 where
  pub n : ℕ
  pub few : n ≤ 99
  pub looked : Knowledge
  pub each : MakesEach floor (seeks_try begun.thread l n) begun looked
  pub m : ℕ
  pub some : 1 ≤ m
  pub there : MakesEach floor
      ((TakesItem begun.thread (its_chain floor (lock_queue l)) ∷ [])
      ∷ (TakesItem begun.thread (RecordOf begun.thread) ∷ []) ∷ replicate m (Looks begun.thread l false ∷ []))
      looked now

-- so at each place; before the chain it makes at most 99 looks behind its first exchange, with twice as many as are
-- still allowed
abbrev pub HasCome : Description → ℕ → Knowledge → TryAt → Knowledge → Type 0
HasCome floor l begun (Tries left) now =
    (n : ℕ) × (n + (left + left) ≤ 99) × MakesEach floor (seeks_try begun.thread l n) begun now
HasCome floor l begun ComesIn now = HasTakenChain floor l begun now
HasCome floor l begun (Decides seen) now = HasComeThere floor l begun now

-- and it may have found out since what it needs
pub record IsAt (floor : Description) (l : ℕ) (begun : Knowledge) (at : TryAt) (now : Knowledge) : Type 0 where
  pub came : Knowledge
  pub has_come : HasCome floor l begun at came
  pub waited : HasWaited came now
  pub looked : begun.share.doing.looks_in_all < now.share.doing.looks_in_all

-- 2. From one place to the next

module _ (floor : Description) (l : LockNo) (mode : Mode) (begun : Knowledge) where
  abbrev look : List Step
  look = Looks begun.thread l.0 true ∷ []

  abbrev look_there : List Step
  look_there = Looks begun.thread l.0 false ∷ []

  abbrev own : List Step
  own = TakesItem begun.thread (RecordOf begun.thread) ∷ []

  abbrev chain : List Step
  chain = TakesItem begun.thread (its_chain floor (lock_queue l.0)) ∷ []

  -- looks behind looks
  more_looks : (n k : ℕ) (now w : Knowledge) → MakesEach floor (seeks_try begun.thread l.0 n) begun now
      → MakesEach floor (replicate k look) now w → MakesEach floor (seeks_try begun.thread l.0 (n + k)) begun w
  more_looks n k now w each more = (
    each.0,
    each.1,
    subst (λ xs. MakesEach floor xs each.0 w) (replicate-append-replicate n k look)
        (each_append floor (replicate n look) (replicate k look) each.0 now w each.2 more),
  )

  -- the first look of several is made from what it knew before it waited
  looks_sooner : (n : ℕ) (old mid new : Knowledge) → 1 ≤ n → HasWaited old mid
      → MakesEach floor (replicate n look) mid new → MakesEach floor (replicate n look) old new
  looks_sooner zero old mid new some h each = absurd (omega (arith, some))
  looks_sooner (suc n) old mid new some h each = each_sooner floor look (replicate n look) old mid new h each

  -- one look more there
  more_there : (m : ℕ) (looked now w : Knowledge) → MakesEach floor (chain ∷ own ∷ replicate m look_there) looked now
      → Makes floor look_there now w → MakesEach floor (chain ∷ own ∷ replicate (m + 1) look_there) looked w
  more_there m looked now w there step =
      let owned = there.2 in (
        there.0,
        there.1,
        (
          owned.0,
          owned.1,
          subst (λ xs. MakesEach floor xs owned.0 w) (replicate-append-replicate m 1 look_there)
              (each_append floor (replicate m look_there) (replicate 1 look_there) owned.0 now w owned.2
              (w, step, refl)),
        ),
      )

  -- the whole way to the section, with the looks there
  there_so : (now : Knowledge) → (c : HasComeThere floor l.0 begun now)
      → MakesEach floor (tries_there floor begun.thread l.0 c.n c.m) begun now
  there_so now c =
      each_append floor (seeks_try begun.thread l.0 c.n) (chain ∷ own ∷ replicate c.m look_there) begun c.looked now
      c.each c.there

  module _ (now new : Knowledge) (its : now.thread ≡ begun.thread) where
    goes : (at to : TryAt) → (h : IsAt floor l.0 begun at now) → TryLeg floor l mode at to now new
        → (came : Knowledge) × HasCome floor l.0 begun to came × HasWaited came new
    goes at to h (looks left n rest word some on leaves) =
        let s = looks_in_it floor l.0 mode n word now new on in
        let two : n ≤ 2 = s.1 in
        let less = fewer_left (course ((config_in floor).kind l.0) word mode) left rest some leaves in
        let made : MakesEach floor (replicate n look) h.came new =
        looks_sooner n h.came now new s.0 h.waited
        (subst (λ t. MakesEach floor (replicate n (Looks t l.0 true ∷ [])) now new) its s.2) in
        let c = h.has_come in (
          new,
          (c.0 + n, omega (arith, c.1, less, two), more_looks c.0 n h.came new c.2 made),
          waits_none new,
        )
    goes at to h (takes_chain step) =
        let c = h.has_come in (
          new,
          record {
            n = c.0;
            few = omega (arith, c.1);
            looked = h.came;
            each = c.2;
            took = makes_sooner floor chain h.came now new h.waited
                (subst (λ t. Makes floor (TakesItem t (its_chain floor (lock_queue l.0)) ∷ []) now new) its step);
          },
          waits_none new,
        )
    goes at to h (comes_in seen each) =
        let c = h.has_come in
        let made : MakesEach floor (own ∷ look_there ∷ []) h.came new =
        each_sooner floor own (look_there ∷ []) h.came now new h.waited
        (subst (λ t. MakesEach floor ((TakesItem t (RecordOf t) ∷ []) ∷ (Looks t l.0 false ∷ []) ∷ []) now new) its
        each) in (
          new,
          record {
            n = c.n;
            few = c.few;
            looked = c.looked;
            each = c.each;
            m = 1;
            some = omega arith;
            there = (h.came, c.took, made);
          },
          waits_none new,
        )
    goes at to h (looks_there seen found other step) =
        let c = h.has_come in
        let made : Makes floor look_there h.came new = makes_sooner floor look_there h.came now new h.waited
        (subst (λ t. Makes floor (Looks t l.0 false ∷ []) now new) its step) in (
          new,
          record {
            n = c.n;
            few = c.few;
            looked = c.looked;
            each = c.each;
            m = c.m + 1;
            some = omega arith;
            there = more_there c.m c.looked h.came new c.there made;
          },
          waits_none new,
        )
    goes at to h (finds_out a i needs view finds) =
        (h.came, h.has_come, waits_on floor i h.came now new h.waited view finds)

    pub goes_on : (at to : TryAt) → IsAt floor l.0 begun at now → TriesOn floor l mode at to now new
        → IsAt floor l.0 begun to new
    goes_on at to h on =
        let g = goes at to h on.leg in
        record { came = g.0; has_come = g.1; waited = g.2; looked = omega (arith, h.looked, on.looked) }

    -- 3. The end

    pub ends_gained : (at : TryAt) → IsAt floor l.0 begun at now → GainsAt floor l mode at now new
        → GainsAndNotes floor l mode begun new
    ends_gained at h (gains_in_round left some each) =
        let c = h.has_come in
        let gain : List Step = Gains begun.thread l.0 mode true ∷ [] in
        let stamp : List Step = Stamps begun.thread (Event.Tried l mode) ∷ [] in
        let made : MakesEach floor (look ∷ gain ∷ stamp ∷ []) h.came new =
        each_sooner floor look (gain ∷ stamp ∷ []) h.came now new h.waited
        (subst (λ t. MakesEach floor ((Looks t l.0 true ∷ []) ∷ (Gains t l.0 mode true ∷ [])
        ∷ (Stamps t (Event.Tried l mode) ∷ []) ∷ []) now new) its each) in
        let behind = made.2 in
        record {
          gained = behind.0;
          gains = tries.in_round (c.0 + 1) (omega (arith, c.1, some))
              (each_append floor (seeks_try begun.thread l.0 (c.0 + 1)) (gain ∷ []) begun made.0 behind.0
              (more_looks c.0 1 h.came made.0 c.2 (made.0, made.1, refl)) (behind.0, behind.1, refl));
          notes = subst (λ k. Makes floor stamp behind.0 k) behind.2.2 behind.2.1;
        }
    ends_gained at h (gains_there seen gain is each) =
        let c = h.has_come in
        let stamp : List Step = Stamps begun.thread (Event.Tried l mode) ∷ [] in
        let made : MakesEach floor ((gain ∷ []) ∷ (gives_both floor begun.thread l.0 ++ stamp ∷ [])) h.came new =
        each_sooner floor (gain ∷ []) (gives_both floor begun.thread l.0 ++ stamp ∷ []) h.came now new h.waited
        (subst (λ t. MakesEach floor ((gain ∷ []) ∷ (gives_both floor t l.0
        ++ (Stamps t (Event.Tried l mode) ∷ []) ∷ [])) now new) its each) in
        let record_back = made.2 in
        let chain_back = record_back.2 in
        let back : MakesEach floor ((gain ∷ []) ∷ gives_both floor begun.thread l.0) h.came chain_back.0 =
        (made.0, made.1, (record_back.0, record_back.1, (chain_back.0, chain_back.1, refl))) in
        record {
          gained = chain_back.0;
          gains = tries.in_section c.n c.m gain c.few c.some (subst (λ t. IsGain t l.0 mode true gain) its is)
              (each_append floor (tries_there floor begun.thread l.0 c.n c.m)
              ((gain ∷ []) ∷ gives_both floor begun.thread l.0) begun h.came chain_back.0 (there_so h.came c)
              back);
          notes = subst (λ k. Makes floor stamp chain_back.0 k) chain_back.2.2 chain_back.2.1;
        }

    pub ends_busy : (at : TryAt) (seen : ℕ) → IsAt floor l.0 begun at now
        → FindsBusyAt floor l mode seen at now new → HasFoundBusy floor l mode seen now new
        → WasBusyFor floor l mode seen begun new
    ends_busy at seen h (busy_in_round v left n some on note) b =
        let s = looks_in_it floor l.0 mode n (word_of seen) now v on in
        let two : n ≤ 2 = s.1 in
        let c = h.has_come in
        let made : MakesEach floor (replicate n look) h.came v =
        looks_sooner n h.came now v s.0 h.waited
        (subst (λ t. MakesEach floor (replicate n (Looks t l.0 true ∷ [])) now v) its s.2) in
        record {
          between = v;
          looks = tries.looks_in_round (c.0 + n) (omega (arith, c.1, some, two)) (more_looks c.0 n h.came v c.2 made);
          saw = looks_saw floor l.0 mode n (word_of seen) now v on;
          word = b.word;
          note = subst (λ t. Makes floor (Stamps t (Event.Busy l seen) ∷ []) v new) its note;
          looked = omega (arith, h.looked, b.looked);
          no_last_look = b.rest.no_last_look;
        }
    ends_busy at seen h (busy_there v each saw note) b =
        let c = h.has_come in
        let made : MakesEach floor (gives_both floor begun.thread l.0) h.came v =
        each_sooner floor (GivesItem begun.thread (RecordOf begun.thread) ∷ [])
        ((GivesItem begun.thread (its_chain floor (lock_queue l.0)) ∷ []) ∷ []) h.came now v h.waited
        (subst (λ t. MakesEach floor (gives_both floor t l.0) now v) its each) in
        record {
          between = v;
          looks = tries.looks_in_section c.n c.m c.few c.some
              (each_append floor (tries_there floor begun.thread l.0 c.n c.m) (gives_both floor begun.thread l.0) begun
              h.came v (there_so h.came c) made);
          saw = saw;
          word = b.word;
          note = subst (λ t. Makes floor (Stamps t (Event.Busy l seen) ∷ []) v new) its note;
          looked = omega (arith, h.looked, b.looked);
          no_last_look = b.rest.no_last_look;
        }

-- 4. What the whole try leaves

-- an entry is one since the begin
entry_since : (floor : Description) (e : Event) (held held_then : List Held) (begun now new : Knowledge)
    → kept_of now ≡ kept_of begun → held ≡ held_then → MakesEntry floor e held now new
    → MakesEntry floor e held_then begun new
entry_since floor e held held_then begun now new kept same x = record {
  ticket = x.ticket;
  log = x.log ∙ ap (λ (k : Kept). entry_by k.thread x.ticket e ∷ k.log) kept;
  held = x.held ∙ same;
  spare = x.spare ∙ ap (λ (k : Kept). k.spare) kept;
  thread = x.thread ∙ ap (λ (k : Kept). k.thread) kept;
  before = x.before;
  behind = x.behind;
  of = x.of ∙ ap (λ (k : Kept). k.thread) kept;
  step = subst (λ t. Makes floor (Stamps t e ∷ []) x.before x.behind) (ap (λ (k : Kept). k.thread) kept) x.step;
  log_before = x.log_before ∙ ap (λ (k : Kept). k.log) kept;
  log_behind = x.log_behind;
}

-- where it stands
pub record StandsSince (floor : Description) (l : LockNo) (mode : Mode) (begun : Knowledge) (p : Pass Knowledge) :
    Type 0 where
  pub at : TryAt
  pub call : p.call ≡ calls.Try l mode at
  pub under : IsUnderTry floor l mode at p.view
  pub kept : kept_of p.view ≡ kept_of begun
  pub is_at : IsAt floor l.0 begun at p.view

-- what it is and has made, where it gained the lock
pub record HasGained (floor : Description) (l : LockNo) (mode : Mode) (begun new : Knowledge) : Type 0 where
  pub tried : HasTried floor l mode begun new
  pub gains : GainsAndNotes floor l mode begun new

module _ (floor : Description) (l : LockNo) (mode : Mode) (came : TryNext) (p q : Pass Knowledge)
    (b : HasBegunTry floor l mode came p q) where
  pub gained_at_once : came ≡ next.Gained → HasGained floor l mode p.view q.view
  gained_at_once is =
      let d = subst (λ n. HasBegunTry floor l mode n p q) is b in record { tried = d.1; gains = d.2 }

  pub busy_at_once : (seen : ℕ) → came ≡ next.Busy seen → EndsBusy floor l mode seen p.view q.view
  busy_at_once seen is = (subst (λ n. HasBegunTry floor l mode n p q) is b).1

  pub stands_begun : came ≡ next.Again → StandsSince floor l mode p.view q
  stands_begun is =
      let d : BeginsTry floor l mode p q = subst (λ n. HasBegunTry floor l mode n p q) is b in
      let few = fewer_left (course ((config_in floor).kind l.0) d.word mode) 50 d.left (omega arith) d.leaves in
      record {
        at = Tries d.left;
        call = d.call;
        under = d.there;
        kept = d.kept;
        is_at = record {
          came = q.view;
          has_come = (0, omega (arith, few), (q.view, d.step, refl));
          waited = waits_none q.view;
          looked = d.looked;
        };
      }

module _ (floor : Description) (l : LockNo) (mode : Mode) (begun : Knowledge) (p : Pass Knowledge)
    (s : StandsSince floor l mode begun p) (came : TryNext) (q : Pass Knowledge)
    (w : GoesOnTrying floor l mode s.at came p q) where
  its_own : p.view.thread ≡ begun.thread
  its_own = ap (λ (k : Kept). k.thread) s.kept

  pub gained : came ≡ next.Gained → HasGained floor l mode begun q.view
  gained is =
      let d = subst (λ n. GoesOnTrying floor l mode s.at n p q) is w in
      assumption (
        entry_since floor (Event.Tried l mode) (p.view.share.held ++ as_tried l mode ∷ [])
            (begun.share.held ++ as_tried l mode ∷ []) begun p.view q.view s.kept
            (ap (λ (k : Kept). k.held ++ as_tried l mode ∷ []) s.kept) d.1.entry,
        ends_gained floor l mode begun p.view q.view its_own s.at s.is_at d.2,
        d.1,
      )

  pub busy : (seen : ℕ) → came ≡ next.Busy seen → EndsBusy floor l mode seen begun q.view
  busy seen is =
      let d = subst (λ n. GoesOnTrying floor l mode s.at n p q) is w in
      assumption (
        entry_since floor (Event.Busy l seen) p.view.share.held begun.share.held begun p.view q.view s.kept
            (ap (λ (k : Kept). k.held) s.kept) d.1.entry,
        ends_busy floor l mode begun p.view q.view its_own s.at seen s.is_at d.2 d.1,
        d.1,
      )

  pub stands_on : came ≡ next.Again → StandsSince floor l mode begun q
  stands_on is =
      let d : StandsInTry floor l mode s.at p q = subst (λ n. GoesOnTrying floor l mode s.at n p q) is w in
      record {
        at = d.to;
        call = d.call;
        under = record {
          covered = s.under.covered;
          calling = subst (IsCalling floor) (sym d.on.kept) s.under.calling;
          room = omega (arith, s.under.room, ap (λ (k : Kept). k.spare) d.on.kept);
          there = d.on.there;
        };
        kept = d.on.kept ∙ s.kept;
        is_at = goes_on floor l mode begun p.view q.view its_own s.at d.to s.is_at d.on;
      }
