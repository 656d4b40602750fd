-- A claim: an exchange of a lock's word by which a thread gains the free lock and owns its turnstile. Its record and
-- the chain of the lock's queue, which it has out, are then what the work on them will make of them: what those who
-- wait lend is its loan with the exchange.
use Rattle.lock_floor.proofs.Names
use Names.{ℕ, eqb, Bool, true, Some, List, [], length, refl, sym, ap, subst, same_Some, with_value, Global, Box, Me}
use Names.{keeps, Allows, head_of, shown_head, put_other, put_at_other, Config, NotHeld, lock_queue, least_of, word_of}
use Names.{is_turnstile, shows_waiters, LockNo, QueueName, CanBeLent, record_claimed, head_claimed, chain_claimed}
use Names.{RepresentsRecord, QueueColumns, record_in, queue_in, claimed_others, can_claim_it, claimed_head}
use Names.{claimed_record, IsHead, there, Lawful, State, Step, Looks, Claims, Item, TurnstileChain, SleepChain}
use Names.{RecordOf, CellOf, ClassGraph, MayClaim, loan_of, after_claim, after_gain, ThreadRec, Turnstile, config_in}
use Names.{Description, Slot, Turnstiles, spot, lock_line, lock_word, Board, RepresentsTurnstiles, RepresentsShare}
use Names.{objects_in, sleepers, FloorHolds, share_in, found, MayMake, Makes, Knowledge, OfThread, seeing, Finds, Steps}
use Names.{exchange_allows, OwnSteps, SaySame, one_own, MayClaimIt, as_claimed, claimed, out_claimed, HasBothOut}
use Names.{counts}
use Rattle.std.proofs.Common.{◌≡◌, ◌≢◌, ◌<◌, ◌%◌, ◌∷◌, ◌∙◌}
use prog.Atomic.{either}
use Rattle.lock_model.specs.Words as words
use Rattle.lock_floor.proofs.BothChanged.{record_says, chain_says, both_made}
use Rattle.lock_floor.proofs.ChainChanges.{chain_of_lock, its_own, turnstiles_same, sleepers_same, chain_placed}
use Rattle.lock_floor.proofs.Looking.{Looked, looks, found_word}
use Rattle.lock_floor.proofs.Shares.{gain_own, gain_others}

-- 1. The shares behind it are those behind a gain

module _ (c : Config) (l : LockNo) (h : ℕ) (by_try : Bool) (s : State) where
  claim_own : (v : Knowledge) → RepresentsShare v.share s v.thread → (out : List (ℕ × Slot))
      → s.held v.thread l.0 ≡ NotHeld
      → RepresentsShare (claimed v (as_claimed l by_try) out).share (after_claim c s v.thread l.0 h by_try) v.thread
  unfolding after_gain after_claim
  claim_own v fit out unheld =
      let gain = gain_own s v fit (as_claimed l by_try) unheld in
      assumption gain

  claim_others : (t u : ℕ) → u ≢ t → share_in (after_claim c s t l.0 h by_try) u ≡ share_in s u
  unfolding after_gain after_claim
  claim_others t u other = gain_others s t u other (as_claimed l by_try)

-- 2. What the columns say behind it

module _ (floor : Description) (s : State) (t l h : ℕ) (by_try : Bool) (lawful : Lawful (config_in floor) s)
    (g : MayClaim (config_in floor) s t l h) where
  abbrev c : Config
  c = config_in floor

  abbrev n : State
  n = after_claim c s t l h by_try

  turnstile : is_turnstile (c.kind l) ≡ true
  turnstile = ap is_turnstile g.kind

  sleepers_stay : (q : QueueName) → q ≢ lock_queue l → sleepers (queue_in n q) ≡ sleepers (queue_in s q)
  unfolding after_claim
  sleepers_stay q ne = refl

  record_other : (u : ℕ) → u ≢ t → record_in n u ≡ record_in s u
  unfolding after_claim
  record_other u ne =
      let effective_is : n.effective u ≡ s.effective u = put_other s.effective t _ u (λ e. ne (sym e)) in
      λ i. record (record_in s u) {
        loan = λ k. put_at_other s.loan t l (loan_of h (least_of (s.lists (lock_queue l)))) u k (λ e. ne (sym e)) i;
        effective = effective_is i;
      }

  says_same : (k : Item) → k ≢ RecordOf t → k ≢ chain_of_lock floor l turnstile
      → SaySame floor (objects_in s) (objects_in n) k
  unfolding after_claim
  says_same (TurnstileChain k) no_record no_chain =
      turnstiles_same floor l turnstile s n (claimed_others c s t l h by_try lawful g) k no_chain
  says_same (SleepChain k) no_record no_chain = sleepers_same floor l turnstile s n sleepers_stay k
  says_same (RecordOf u) no_record no_chain = record_other u (λ e. no_record (ap RecordOf e))
  says_same (CellOf k key) no_record no_chain = refl
  says_same ClassGraph no_record no_chain = refl

  module _ (box : Box ThreadRec Global) (rec : RepresentsRecord box.value (record_in s t))
      (chain : List (QueueName × Turnstile))
      (shows : RepresentsTurnstiles floor (l % floor.chains) chain (objects_in s)) where
    -- the lock has a turnstile there,
    abbrev its_head : IsHead (queue_in s (lock_queue l)) s.loan_home (head_of (lock_queue l) chain)
    its_head = there (head_of (lock_queue l) chain) (queue_in s (lock_queue l)) s.loan_home h
        (shows.queue (lock_queue l) (its_own floor l turnstile)) g.head

    -- which the thread can own, and owns then
    can_own : CanBeLent l box.value its_head.0
    can_own = can_claim_it c s t l h by_try lawful g rec its_head.0 its_head.2

    chain_shown : RepresentsTurnstiles floor (l % floor.chains) (chain_claimed l box.value.thread its_head.0 chain)
        (objects_in n)
    chain_shown =
        chain_placed floor l turnstile s n (claimed_others c s t l h by_try lawful g) chain shows
        (head_claimed box.value.thread its_head.0)
        (claimed_head c s t l h by_try lawful g rec its_head.0 its_head.2)

    record_shown : RepresentsRecord (record_claimed l its_head.0 box.value) (record_in n t)
    record_shown = claimed_record c s t l h by_try lawful g rec its_head.0 its_head.2

-- 3. The step

-- what it tells where the seen word was found: the thread gained the lock, and its record and the chain are such that
-- the work on them can be done
pub record ClaimsWord (floor : Description) (l : LockNo) (by_try : Bool) (me behind : Me Slot Knowledge) : Type 0 where
  pub both : HasBothOut floor l.0 me.0
  pub turnstile : Turnstile
  pub there : head_of (lock_queue l.0) both.chain ≡ Some turnstile
  pub can : CanBeLent l.0 both.box.value turnstile
  pub is : behind ≡ (
    seeing behind.0.seen
        (claimed me.0 (as_claimed l by_try)
        (out_claimed floor me.0.thread l.0 both.box both.chain turnstile)),
    me.1,
  )
  pub step : Makes floor (Claims me.0.thread l.0 turnstile.contents.number by_try ∷ []) me.0 behind.0

abbrev pub Claimed : Description → LockNo → Bool → ℕ → Me Slot Knowledge → ℕ → Me Slot Knowledge → Type 0
Claimed floor l by_try seen me found behind =
    (found ≡ seen → ClaimsWord floor l by_try me behind) × (found ≢ seen → Looked floor l.0 me found behind)

module _ (floor : Description) (me : Me Slot Knowledge) (was : me.0.role ≡ OfThread) (slots id seen new : ℕ)
    (l : LockNo) (by_try : Bool) (low : l.0 < length floor.locks) (shown : shows_waiters (word_of seen) ≡ true)
    (may : MayClaimIt floor l.0 by_try (word_of seen) me.0) where
  abbrev v : Knowledge
  v = me.0

  abbrev box : Box ThreadRec Global
  box = may.both.box

  abbrev chain : List (QueueName × Turnstile)
  chain = may.both.chain

  claims : word_of new ≡ words.claimed (word_of seen) v.thread
      → (b : Board) (f : Finds floor v b) → lock_word b.words l.0 ≡ seen
      → Steps floor me (spot (lock_line l.0)) (lock_word b.words l.0) new (Claimed floor l by_try seen me) b
  unfolding after_claim
  claims says b f same =
      let c : Config = config_in floor in
      let s : State = f.state in
      let t : ℕ = v.thread in
      let k : ℕ = l.0 in
      let lawful : Lawful c s = f.sound.facts.lawful in
      let its_word : s.word k ≡ word_of seen = sym (found_word floor b v f k low).0 ∙ ap word_of same in
      let stands = shown_head c s k lawful (ap shows_waiters its_word ∙ shown) in
      let number : ℕ = stands.0 in
      let step : Step = Claims t k number by_try in
      let n : State = after_claim c s t k number by_try in
      let allowed = may.may number s f.fits (its_word, stands.1) in
      let g = allowed.0.fits.may in
      let kind = turnstile floor s t k number by_try lawful g in
      let rec : RepresentsRecord box.value (record_in s t) = record_says floor b v f (lock_queue k)
      (chain_of_lock floor k kind) (its_own floor k kind) box (Turnstiles chain) may.both.out in
      let shows : RepresentsTurnstiles floor (k % floor.chains) chain (objects_in s) =
      chain_says floor b v f (lock_queue k) (chain_of_lock floor k kind) (its_own floor k kind) box (Turnstiles chain)
      may.both.out in
      let head = its_head floor s t k number by_try lawful g box rec chain shows in
      let h : Turnstile = head.0 in
      let after : List (ℕ × Slot) = out_claimed floor t k box chain h in
      let w : Knowledge = seeing (step ∷ f.past) (claimed v (as_claimed l by_try) after) in
      let own : OwnSteps v w f.past (step ∷ []) s n = record {
        role = was;
        seen = refl {a = step ∷ f.past};
        makers = one_own t step refl;
        seat = record { thread = refl; share = claim_own c l number by_try s v f.fits.share after g.unheld };
        others = λ u ne. claim_others c l number by_try s t u ne;
        pose = f.fits.pose;
        other_poses = λ u ne p z. z;
      } in
      let says_now : word_of new ≡ words.claimed (s.word k) t = says ∙ ap (λ y. words.claimed y t) (sym its_word) in
      let made = both_made floor b v f (lock_queue k) (chain_of_lock floor k kind) (its_own floor k kind) box
      (Turnstiles chain) may.both.out step w was allowed own me.1 (with_value box (record_claimed k h box.value))
      (Turnstiles (chain_claimed k box.value.thread h chain)) refl k new (words.claimed (s.word k) t) low says_now refl
      refl refl (says_same floor s t k number by_try lawful g) refl
      (record_shown floor s t k number by_try lawful g box rec chain shows)
      (chain_shown floor s t k number by_try lawful g box rec chain shows) in
      let named : number ≡ h.contents.number =
      same_Some number h.contents.number (sym g.head ∙ ap (λ (x : QueueColumns). x.head) head.2.queue) in
      let told : ClaimsWord floor l by_try me (w, me.1) = record {
        both = may.both;
        turnstile = h;
        there = head.1;
        can = can_own floor s t k number by_try lawful g box rec chain shows;
        is = refl {a = (w, me.1)};
        step = subst (λ x. Makes floor (Claims t k x by_try ∷ []) v w) named made.1;
      } in (
        w,
        keeps,
        tt,
        made.0,
        (λ e. told, λ ne. absurd {A = Looked floor k me (lock_word b.words k) (w, me.1)} (ne same)),
      )

  pub claim_allowed : word_of new ≡ words.claimed (word_of seen) v.thread
      → MayMake floor v (λ s. Unit {0}) (Looks v.thread l.0 (counts v l.0) ∷ [])
      → Allows (FloorHolds floor) slots id me (spot (lock_line l.0)) (λ n. either (eqb n seen) new n)
      (Claimed floor l by_try seen me)
  claim_allowed says may_look =
      exchange_allows floor slots id me (spot (lock_line l.0)) seen new (Claimed floor l by_try seen me) was
      (claims says)
      (λ b f ne small. let look = looks floor me l.0 was low b f (may_look f.state f.fits tt) in
      (look.0, look.1, look.2, look.3, (λ e. absurd (ne e), λ _. look.4)))
