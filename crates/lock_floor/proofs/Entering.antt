-- An enter: an exchange of a lock's word by which the thread comes to stand on the lock's turnstile. Its record and the
-- chain of the lock's queue, which it has out, are then what the work on them will make of them.
use Rattle.lock_floor.proofs.Names
use Names.{ℕ, eqb, ltb, true, Option, Some, None, List, [], length, refl, sym, ap, subst, inl, with_value, Global, Box}
use Names.{same_Some, Me, keeps, Allows, carried_after, head_of, put_same, put_other, put_queue_other, home_nowhere}
use Names.{Config, Waiter, lock_queue, side_of, stands, word_of, owner_of, Mode, QueueName, Lock, Chan}
use Names.{RepresentsRecord, RepresentsQueue, RecordColumns, QueueColumns, record_in, queue_in, CanStand, CanLend}
use Names.{waiter_of, record_entered, head_entered, chain_entered, is_queue-other, can_lend, head_shown, entered_record}
use Names.{SameQueue, somebody_stands, Lawful, State, Step, Looks, Enters, Item, TurnstileChain, SleepChain, RecordOf}
use Names.{CellOf, ClassGraph, after_enter, ThreadRec, lists_of, Turnstile, config_in, Description, Slot, Record, Cell}
use Names.{Turnstiles, SleepQueues, Graph, spot, lock_line, lock_word, Board, RepresentsTurnstiles, IsPosed, objects_in}
use Names.{sleepers, FloorHolds, found, MayMake, Makes, Knowledge, OfThread, seeing, Finds, Steps, exchange_allows}
use Names.{OwnSteps, SaySame, one_own, counts, both_out, out_entered, entered}
use Rattle.std.proofs.Common.{◌≡◌, ◌≢◌, ◌<◌, ◌%◌, ◌∷◌, ◌∙◌}
use prog.Atomic.{either}
use Rattle.lock_model.specs.Words as words
use Rattle.lock_floor.proofs.BothChanged.{record_says, chain_says, both_made}
use Rattle.lock_floor.proofs.ChainChanges.{chain_of_lock, its_own, turnstiles_same, sleepers_same, chain_placed}
use Rattle.lock_floor.proofs.Gaining.{Changed, missed}
use Rattle.lock_floor.proofs.Looking.{Looked, found_word}
use Rattle.lock_floor.proofs.Waiting.{enter_own, enter_others}

-- the number of what a queue is of
abbrev number_of : QueueName → ℕ
number_of (Lock l) = l.0
number_of (Chan d) = d.0

-- 1. What the columns say behind it

module _ (floor : Description) (l : ℕ) (turnstile : words.is_turnstile ((config_in floor).kind l) ≡ true) where
  module _ (s : State) (t : ℕ) (mode : Mode) (x : ℕ) where
    abbrev n : State
    n = after_enter s t l mode x

    -- the other queues and records stay
    queue_other : (q : QueueName) → q ≢ lock_queue l → queue_in n q ≡ queue_in s q
    unfolding after_enter
    queue_other q ne =
        let other = is_queue-other (lock_queue l) q (λ e. ne (sym e)) in
        let head_is : n.head q ≡ s.head q = put_queue_other s.head (lock_queue l) _ q other in
        let lists_are : n.lists q ≡ s.lists q = put_queue_other s.lists (lock_queue l) _ q other in
        let free_list_is : n.free_list q ≡ s.free_list q = put_queue_other s.free_list (lock_queue l) _ q other in
        let owner_is : n.owner q ≡ s.owner q = put_queue_other s.owner (lock_queue l) _ q other in
        λ i. record { head = head_is i; lists = lists_are i; free_list = free_list_is i; owner = owner_is i }

    others : (k : ℕ) → k ≢ l → words.is_turnstile ((config_in floor).kind k) ≡ true
        → SameQueue (queue_in s) (queue_in n) s.loan_home n.loan_home (lock_queue k)
    unfolding after_enter
    others k ne its = record { queue = queue_other (lock_queue k) (λ e. ne (ap number_of e)); loan_home = λ y e. refl }

    record_other : (u : ℕ) → u ≢ t → record_in n u ≡ record_in s u
    unfolding after_enter
    record_other u ne = λ i. record (record_in s u) {
      turnstile = put_other s.turnstile t None u (λ e. ne (sym e)) i;
      blocked_on = put_other s.blocked_on t (Some (lock_queue l)) u (λ e. ne (sym e)) i;
    }

    says_same : (k : Item) → k ≢ RecordOf t → k ≢ chain_of_lock floor l turnstile
        → SaySame floor (objects_in s) (objects_in n) k
    unfolding after_enter
    says_same (TurnstileChain k) no_record no_chain = turnstiles_same floor l turnstile s n others k no_chain
    says_same (SleepChain k) no_record no_chain =
        sleepers_same floor l turnstile s n (λ q ne. ap sleepers (queue_other q ne)) k
    says_same (RecordOf u) no_record no_chain = record_other u (λ e. no_record (ap RecordOf e))
    says_same (CellOf k key) no_record no_chain = refl
    says_same ClassGraph no_record no_chain = refl

    -- 2. The chain with the thread on the lock's turnstile

    chain_shown : (owner : Option ℕ) → owner ≡ owner_of (s.word l).holder → CanLend (config_in floor) s t l x
        → (box : Box ThreadRec Global) → RepresentsRecord box.value (record_in s t)
        → (chain : List (QueueName × Turnstile)) → RepresentsTurnstiles floor (l % floor.chains) chain (objects_in s)
        → RepresentsTurnstiles floor (l % floor.chains)
        (chain_entered l (side_of mode) x owner (waiter_of box.value) chain) (objects_in n)
    chain_shown owner is can box rec chain shows =
        let w : waiter_of box.value ≡ record { thread = t; kept = s.effective t } =
        λ i. record { thread = (rec.columns i).thread; kept = (rec.columns i).effective } in
        let there : Option Turnstile = head_of (lock_queue l) chain in
        subst (λ (z : Option ℕ × Waiter). RepresentsTurnstiles floor (l % floor.chains)
        (chain_entered l (side_of mode) x z.0 z.1 chain) (objects_in n)) (λ i. (sym is i, sym w i))
        (chain_placed floor l turnstile s n others chain shows
        (head_entered l (side_of mode) x (owner_of (s.word l).holder) (record { thread = t; kept = s.effective t })
        there)
        (head_shown s t l mode x there can (shows.queue (lock_queue l) (its_own floor l turnstile))))

  -- a thread with its turnstile at home can stand on that of a lock
  can_stand : (s : State) (t x : ℕ) → Lawful (config_in floor) s → s.turnstile t ≡ Some x → (o : Option Turnstile)
      → RepresentsQueue o (queue_in s (lock_queue l)) s.loan_home → CanStand t o
  can_stand s t x lawful own None h = tt
  can_stand s t x lawful own (Some d) h =
      let lists : s.lists (lock_queue l) ≡ lists_of d.contents = ap (λ (k : QueueColumns). k.lists) h.queue in (
        somebody_stands (config_in floor) s (lock_queue l) lawful d.contents (ap (λ (k : QueueColumns). k.head) h.queue)
            lists,
        ap (ltb 0) (ap (stands t) (sym lists) ∙ home_nowhere (config_in floor) s t l x lawful own turnstile),
      )

-- 3. The step

-- where the seen word was found, the thread stands on the queue, and its record and the chain are such that the work on
-- them can be done; and else it looked
abbrev pub Entered : Description → ℕ → Mode → ℕ → ℕ → Box ThreadRec Global → List (QueueName × Turnstile)
    → Me Slot Knowledge → ℕ → Me Slot Knowledge → Type 0
Entered floor l mode x seen b chain me found behind =
    Changed floor l seen (λ me. entered me.0 l (owner_of (word_of seen).holder)
    (out_entered floor me.0.thread l mode x (owner_of (word_of seen).holder) b chain))
    (λ me. Enters me.0.thread l mode x ∷ []) me found behind
    × (found ≡ seen → CanStand b.value.thread (head_of (lock_queue l) chain))

module _ (floor : Description) (me : Me Slot Knowledge) (was : me.0.role ≡ OfThread) (slots id seen new : ℕ) (l : ℕ)
    (mode : Mode) (x : ℕ) (box : Box ThreadRec Global) (chain : List (QueueName × Turnstile))
    (low : l < length floor.locks) (out : me.0.out ≡ both_out floor me.0.thread l box chain) where
  abbrev v : Knowledge
  v = me.0

  abbrev owner : Option ℕ
  owner = owner_of (word_of seen).holder

  enters : word_of new ≡ words.entered (word_of seen) (side_of mode)
      → MayMake floor v (λ s. s.word l ≡ word_of seen) (Enters v.thread l mode x ∷ [])
      → (b : Board) (h : Finds floor v b) → lock_word b.words l ≡ seen
      → Steps floor me (spot (lock_line l)) (lock_word b.words l) new (Entered floor l mode x seen box chain me) b
  unfolding after_enter
  enters says may b h same =
      let s : State = h.state in
      let c : Config = config_in floor in
      let t : ℕ = v.thread in
      let n : State = after_enter s t l mode x in
      let step : Step = Enters t l mode x in
      let after : List (ℕ × Slot) = out_entered floor t l mode x owner box chain in
      let w : Knowledge = seeing (step ∷ h.past) (entered v l owner after) in
      let its_word : s.word l ≡ word_of seen = sym (found_word floor b v h l low).0 ∙ ap word_of same in
      let its_owner : owner ≡ owner_of (s.word l).holder = ap (λ y. owner_of y.holder) (sym its_word) in
      let allowed = may s h.fits its_word in
      let g = allowed.0.fits.may in
      let rec : RepresentsRecord box.value (record_in s t) = record_says floor b v h (lock_queue l)
      (chain_of_lock floor l g.turnstile) (its_own floor l g.turnstile) box (Turnstiles chain) out in
      let shows : RepresentsTurnstiles floor (l % floor.chains) chain (objects_in s) =
      chain_says floor b v h (lock_queue l) (chain_of_lock floor l g.turnstile) (its_own floor l g.turnstile) box
      (Turnstiles chain) out in
      let lend = can_lend c s t l x h.sound.facts.lawful h.fits.thread g.turnstile g.own in
      let own : OwnSteps v w h.past (step ∷ []) s n = record {
        role = was;
        seen = refl;
        makers = one_own t step refl;
        seat = record { thread = refl; share = enter_own s v h.fits.share l mode x owner after its_owner };
        others = λ u ne. enter_others s t u ne l mode x;
        pose = inl (g.waits.queued, put_same s.blocked_on t (Some (lock_queue l)));
        other_poses = λ u ne p z. subst (λ on. IsPosed p (s.wait u) on)
            (sym (put_other s.blocked_on t (Some (lock_queue l)) u (λ e. ne (sym e)))) z;
      } in
      let says_now : word_of new ≡ words.entered (s.word l) (side_of mode) = says
      ∙ ap (λ y. words.entered y (side_of mode)) (sym its_word) in
      let made = both_made floor b v h (lock_queue l) (chain_of_lock floor l g.turnstile) (its_own floor l g.turnstile)
      box (Turnstiles chain) out step w was allowed own me.1 (with_value box (record_entered l box.value))
      (Turnstiles (chain_entered l (side_of mode) x owner (waiter_of box.value) chain)) refl l new
      (words.entered (s.word l) (side_of mode)) low says_now refl refl refl
      (says_same floor l g.turnstile s t mode x) refl (entered_record s t l mode x refl rec)
      (chain_shown floor l g.turnstile s t mode x owner its_owner lend box rec chain shows) in (
        w,
        keeps,
        tt,
        made.0,
        (
          (λ e. (refl, made.1), λ ne. absurd (ne same)),
          λ e. subst (λ u. CanStand u (head_of (lock_queue l) chain))
              (sym (ap (λ (k : RecordColumns). k.thread) rec.columns))
              (can_stand floor l g.turnstile s t x h.sound.facts.lawful g.own (head_of (lock_queue l) chain)
              (shows.queue (lock_queue l) (its_own floor l g.turnstile))),
        ),
      )

  pub enter_allowed : word_of new ≡ words.entered (word_of seen) (side_of mode)
      → MayMake floor v (λ s. s.word l ≡ word_of seen) (Enters v.thread l mode x ∷ [])
      → MayMake floor v (λ s. Unit {0}) (Looks v.thread l (counts v l) ∷ [])
      → Allows (FloorHolds floor) slots id me (spot (lock_line l)) (λ n. either (eqb n seen) new n)
      (Entered floor l mode x seen box chain me)
  enter_allowed says may may_look =
      exchange_allows floor slots id me (spot (lock_line l)) seen new (Entered floor l mode x seen box chain me) was
      (enters says may)
      (λ b h ne small. let m = missed floor me was slots id seen new l
      (λ me. entered me.0 l owner (out_entered floor me.0.thread l mode x owner box chain))
      (λ me. Enters me.0.thread l mode x ∷ []) low may_look b h ne in
      (m.0, m.1, m.2, m.3, (m.4, λ e. absurd (ne e))))

-- 4. The same, whatever the values that are out are called

abbrev pub EnteredAny : Description → ℕ → Mode → ℕ → Me Slot Knowledge → ℕ → Me Slot Knowledge → Type 0
EnteredAny floor l mode seen me found behind =
    (x : ℕ) (b : Box ThreadRec Global) (chain : List (QueueName × Turnstile))
    → me.0.out ≡ both_out floor me.0.thread l b chain → b.value.turnstile ≡ Some x
    → Entered floor l mode x seen b chain me found behind

record_or : Box ThreadRec Global → List (ℕ × Slot) → Box ThreadRec Global
record_or d [] = d
record_or d (y ∷ ys) = of y.1
  where
    of : Slot → Box ThreadRec Global
    of (Record b) = b
    of (Cell value) = d
    of (Turnstiles chain) = d
    of (SleepQueues chain) = d
    of (Graph b) = d

chain_or : List (QueueName × Turnstile) → List (ℕ × Slot) → List (QueueName × Turnstile)
chain_or d [] = d
chain_or d (y ∷ []) = d
chain_or d (y ∷ z ∷ ys) = of z.1
  where
    of : Slot → List (QueueName × Turnstile)
    of (Record b) = d
    of (Cell value) = d
    of (Turnstiles chain) = chain
    of (SleepQueues chain) = d
    of (Graph b) = d

any_of : (floor : Description) (l : ℕ) (mode : Mode) (x seen : ℕ) (b : Box ThreadRec Global)
    (chain : List (QueueName × Turnstile)) (me behind : Me Slot Knowledge) (found : ℕ)
    → me.0.out ≡ both_out floor me.0.thread l b chain → b.value.turnstile ≡ Some x
    → Entered floor l mode x seen b chain me found behind
    → EnteredAny floor l mode seen me found behind
unfolding record_or chain_or
any_of floor l mode x seen b chain me behind n out own h y d other at its =
    let same : both_out floor me.0.thread l b chain ≡ both_out floor me.0.thread l d other = sym out ∙ at in
    let boxes : b ≡ d = ap (record_or b) same in
    let chains : chain ≡ other = ap (chain_or chain) same in
    let numbers : x ≡ y = same_Some x y (sym own ∙ ap (λ (k : Box ThreadRec Global). k.value.turnstile) boxes ∙ its) in
    subst (λ (z : ℕ × Box ThreadRec Global × List (QueueName × Turnstile)). Entered floor l mode z.0 seen z.1 z.2 me n
    behind) (λ i. (numbers i, boxes i, chains i)) h

pub enter_any : (floor : Description) (me : Me Slot Knowledge) → me.0.role ≡ OfThread
    → (slots id seen new l : ℕ) (mode : Mode) (x : ℕ) (b : Box ThreadRec Global) (chain : List (QueueName × Turnstile))
    → l < length floor.locks → me.0.out ≡ both_out floor me.0.thread l b chain → b.value.turnstile ≡ Some x
    → word_of new ≡ words.entered (word_of seen) (side_of mode)
    → MayMake floor me.0 (λ s. s.word l ≡ word_of seen) (Enters me.0.thread l mode x ∷ [])
    → MayMake floor me.0 (λ s. Unit {0}) (Looks me.0.thread l (counts me.0 l) ∷ [])
    → Allows (FloorHolds floor) slots id me (spot (lock_line l)) (λ n. either (eqb n seen) new n)
    (EnteredAny floor l mode seen me)
enter_any floor me was slots id seen new l mode x b chain low out own says may may_look s holds deep at small =
    let p = enter_allowed floor me was slots id seen new l mode x b chain low out says may may_look s holds deep at
    small in
    (p.0, p.1, p.2, p.3, any_of floor l mode x seen b chain me (p.0, carried_after me.1 p.1) _ out own p.4)

-- 5. What a call needs, and what it was told

-- the record and the chain are out, and the thread may enter
abbrev pub Need : Description → Knowledge → ℕ → Mode → ℕ → Type 0
Need floor v l mode seen =
    (x : ℕ) × (b : Box ThreadRec Global) × (chain : List (QueueName × Turnstile))
    × (v.out ≡ both_out floor v.thread l b chain) × (b.value.turnstile ≡ Some x)
    × MayMake floor v (λ s. s.word l ≡ word_of seen) (Enters v.thread l mode x ∷ [])

pub told_missed : (floor : Description) (l : ℕ) (mode : Mode) (seen n : ℕ) (me behind : Me Slot Knowledge)
    → Need floor me.0 l mode seen → EnteredAny floor l mode seen me n behind → n ≢ seen → Looked floor l me n behind
told_missed floor l mode seen n me behind need told ne = (told need.0 need.1 need.2 need.3 need.4).0.1 ne

-- the seat, and what is out, behind an enter whose work isn't done yet
pub told_entered : (floor : Description) (l : ℕ) (mode : Mode) (seen n : ℕ) (me behind : Me Slot Knowledge)
    (need : Need floor me.0 l mode seen) → EnteredAny floor l mode seen me n behind → n ≡ seen
    → (behind ≡ (
      seeing behind.0.seen
          (entered me.0 l (owner_of (word_of seen).holder)
          (out_entered floor me.0.thread l mode need.0 (owner_of (word_of seen).holder) need.1 need.2)),
      me.1,
    ))
    × Makes floor (Enters me.0.thread l mode need.0 ∷ []) me.0 behind.0
    × CanStand need.1.value.thread (head_of (lock_queue l) need.2)
told_entered floor l mode seen n me behind need told e =
    let h = told need.0 need.1 need.2 need.3 need.4 in
    let hit = h.0.0 e in
    (hit.0, hit.1, h.1 e)
