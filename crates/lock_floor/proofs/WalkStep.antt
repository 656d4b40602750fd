-- The steps of a walk: where each leaves the walk, and what it leaves of other values.
use Rattle.lock_floor.proofs.Names
use Names.{ℕ, Bool, true, false, Option, Some, None, IfSome, List, [], length, refl, sym, ap, subst, Me, head_of}
use Names.{without, head_lock, standing_head, put_same, put_other, put_at_other, put_queue_other, Config, lock_queue}
use Names.{is_turnstile, QueueName, record_in, queue_in, is_queue-other, Lawful, State, Walk, AtLock, Step, Item}
use Names.{TurnstileChain, SleepChain, RecordOf, CellOf, ClassGraph, after_lend, walk_to, MayShift, after_shift}
use Names.{walk_up, Turnstile, config_in, Description, Slot, StandsIn, HasNames, objects_in, sleepers, Makes, Knowledge}
use Names.{seeing, SaySame, its_chain, IsOnFloor, hopped, turnstiles}
use Rattle.std.proofs.Common.{◌≡◌, ◌≢◌, ◌<◌, ◌∷◌, ◌∙◌}
use Rattle.lock_floor.proofs.ChainNames.{names_placed}
use Rattle.lock_floor.proofs.WalkChains.{lock_chain, only_chain}

-- what each tells: the thread made it with the values that it has out, and the walk is there
pub record Hopped (floor : Description) (step : Step) (w : Walk) (me behind : Me Slot Knowledge) : Type 0 where
  pub is : behind ≡ (seeing behind.0.seen (hopped me.0 w me.1), me.1)
  pub made : Makes floor (step ∷ []) me.0 behind.0
  pub on_floor : IsOnFloor floor w

-- 1. Where a walk goes on

on_to : (floor : Description) (o : ℕ) (b : Bool) → o < length floor.threads → IsOnFloor floor (walk_to o b)
on_to floor o true low = low
on_to floor o false low = tt

on_up : (floor : Description) (l : ℕ) (o : Option ℕ) → IsOnFloor floor (AtLock l) → IsOnFloor floor (walk_up l o)
on_up floor l None low = tt
on_up floor l (Some o) low = low

pub lend_on_floor : (floor : Description) (s : State) (t l o h : ℕ) → o < length floor.threads
    → IsOnFloor floor ((after_lend (config_in floor) s t l o h).walk t)
unfolding after_lend
lend_on_floor floor s t l o h low = subst (IsOnFloor floor) (sym (put_same s.walk t _)) (on_to floor o _ low)

pub shift_on_floor : (floor : Description) (s : State) (t o l : ℕ) → Lawful (config_in floor) s
    → MayShift (config_in floor) s t o l → IsOnFloor floor ((after_shift s t o l).walk t)
unfolding after_shift
shift_on_floor floor s t o l lawful g =
    let head = standing_head (config_in floor) s o (lock_queue l) lawful g.stands in
    subst (IsOnFloor floor) (sym (put_same s.walk t _))
    (on_up floor l (s.owner (lock_queue l))
    (head_lock (config_in floor) s l head.0 lawful g.turnstile head.1, g.turnstile))

-- 2. What other values say

module _ (floor : Description) (one : floor.chains ≡ 1) (s : State) (t l o : ℕ) where
  abbrev c : Config
  c = config_in floor

  lend_record_stays : (h u : ℕ) → u ≢ o → record_in (after_lend c s t l o h) u ≡ record_in s u
  unfolding after_lend
  lend_record_stays h u ne =
      let effective_is : (after_lend c s t l o h).effective u ≡ s.effective u =
      put_other s.effective o _ u (λ e. ne (sym e)) in
      let loan_is : (k : ℕ) → (after_lend c s t l o h).loan u k ≡ s.loan u k =
      λ k. put_at_other s.loan o l _ u k (λ e. ne (sym e)) in
      λ i. record (record_in s u) { loan = λ k. loan_is k i; effective = effective_is i }

  pub lend_says : (h : ℕ) (k : Item) → k ≢ RecordOf o → k ≢ turnstiles
      → SaySame floor (objects_in s) (objects_in (after_lend c s t l o h)) k
  unfolding after_lend
  lend_says h (TurnstileChain k) no_record no_chain = λ q there. absurd (no_chain (only_chain floor one k q there))
  lend_says h (SleepChain k) no_record no_chain = λ q there. refl
  lend_says h (RecordOf u) no_record no_chain = lend_record_stays h u (λ e. no_record (ap RecordOf e))
  lend_says h (CellOf k key) no_record no_chain = refl
  lend_says h ClassGraph no_record no_chain = refl

  module _ (turnstile : is_turnstile (c.kind l) ≡ true) where
    shift_sleepers : (k : ℕ) (q : QueueName) → StandsIn floor (SleepChain k) q
        → sleepers (queue_in (after_shift s t o l) q) ≡ sleepers (queue_in s q)
    unfolding after_shift
    shift_sleepers k q there =
        let ne : lock_queue l ≢ q = λ e.
        let z : turnstiles ≡ SleepChain k = sym (lock_chain floor one l turnstile) ∙ there_of e in cc in
        let lists_are : (after_shift s t o l).lists q ≡ s.lists q =
        put_queue_other s.lists (lock_queue l) _ q (is_queue-other (lock_queue l) q ne) in
        λ i. record (sleepers (queue_in s q)) { lists = lists_are i }
      where
        there_of : lock_queue l ≡ q → its_chain floor (lock_queue l) ≡ SleepChain k
        there_of e = subst (λ (r : QueueName). StandsIn floor (SleepChain k) r) (sym e) there

    pub shift_says : (k : Item) → k ≢ turnstiles → SaySame floor (objects_in s) (objects_in (after_shift s t o l)) k
    unfolding after_shift
    shift_says (TurnstileChain k) no_chain = λ q there. absurd (no_chain (only_chain floor one k q there))
    shift_says (SleepChain k) no_chain = λ q there. shift_sleepers k q there
    shift_says (RecordOf u) no_chain = refl
    shift_says (CellOf k key) no_chain = refl
    shift_says ClassGraph no_chain = refl

-- a chain keeps its names where the turnstile of a lock changes
pub names_stay : (floor : Description) (one : floor.chains ≡ 1) (l : ℕ) → is_turnstile ((config_in floor).kind l) ≡ true
    → (chain new : List (QueueName × Turnstile)) (d : Turnstile) (f : Turnstile → Turnstile)
    → head_of (lock_queue l) chain ≡ Some d → HasNames floor turnstiles chain
    → IfSome (head_of (lock_queue l) chain) (λ h. new ≡ (lock_queue l, f h) ∷ without (lock_queue l) chain)
    → HasNames floor turnstiles new
names_stay floor one l turnstile chain new d f head names made =
    let is : new ≡ (lock_queue l, f d) ∷ without (lock_queue l) chain =
    subst (λ (x : Option Turnstile). IfSome x (λ h. new ≡ (lock_queue l, f h) ∷ without (lock_queue l) chain)) head
    made in
    subst (HasNames floor turnstiles) (sym is)
    (names_placed floor turnstiles (lock_queue l) chain names (f d) (lock_chain floor one l turnstile))
