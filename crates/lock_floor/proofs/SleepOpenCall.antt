-- What the call that releases an sx lock with waiters needs of its parts, leaves of the pass, and tells of it.
use Rattle.lock_floor.proofs.Names
use Names.{ℕ, Bool, true, false, IfSome, List, [], refl, sym, ap, subst, vec_capacity, Vec, Global, Box, Me, rest}
use Names.{turned, head_of, Book, without_lock, lock_queue, word_of, side_woken, is_turnstile, Held, QueueName, Side}
use Names.{chain_woken, Marked, Sleepers, OpensSleepQueue, all_waiters, SleepQueue, Place, ThreadRec, config_in, Makes}
use Names.{Knowledge, seeing, Description, Slot, Record, SleepQueues, AreMarked, OpensSleepers, opened_sleepers}
use Names.{sleepers_opened, IsTied, chain_place}
use Rattle.std.proofs.Common.{◌≡◌, ◌≢◌, ◌≤◌, ◌∷◌, ◌∙◌}
use Rattle.lock_objects.specs.Sleeps.{woken_of}
use Rattle.lock_floor.proofs.SleepOpenStep.{ToldOpened, OpensWord}
use Rattle.lock_floor.proofs.Tied.{tied_then}

module _ (floor : Description) (me behind : Me Slot Knowledge) (l seen found : ℕ) (side : Side)
    (its_side : side ≡ side_woken ((config_in floor).kind l) (word_of seen))
    (tells : ToldOpened floor l (side_woken ((config_in floor).kind l) (word_of seen)) seen me found behind)
    (hit : found ≡ seen) (at : ℕ) (at_is : at ≡ chain_place floor (lock_queue l)) (out : me.1 ≡ me.0.out)
    (turn : Me Slot Knowledge) (turns : turn ≡ (behind.0, turned behind.1)) where
  abbrev q : QueueName
  q = lock_queue l

  abbrev pub told : OpensWord floor l side seen me behind
  told = subst (λ k. OpensWord floor l k seen me behind) (sym its_side) (tells.0 hit)

  abbrev box : Box ThreadRec Global
  box = told.may.both.box

  abbrev chain : List (QueueName × SleepQueue)
  chain = told.may.both.chain

  abbrev ps : List Place
  ps = sleepers_opened floor l side me.0 told.may.both

  both_behind : behind.1 ≡ (me.0.thread, Record box) ∷ (at, SleepQueues chain) ∷ []
  both_behind = ap (λ (m : Me Slot Knowledge). m.1) told.is ∙ out ∙ told.may.both.out
      ∙ (λ i. (me.0.thread, Record box) ∷ (sym at_is i, SleepQueues chain) ∷ [])

  -- the chain comes first
  chain_first : turn.1 ≡ (at, SleepQueues chain) ∷ (me.0.thread, Record box) ∷ []
  chain_first = ap (λ (m : Me Slot Knowledge). m.1) turns ∙ ap turned both_behind

  chain_last : turn.1 ≡ (at, SleepQueues chain) ∷ rest turn.1
  chain_last = chain_first ∙ ap (λ xs. (at, SleepQueues chain) ∷ xs) (sym (ap rest chain_first))

  -- before the work on it
  pub before : (x : List (QueueName × SleepQueue)) × (turn.1 ≡ (at, SleepQueues x) ∷ rest turn.1)
      × IfSome (head_of q x) (λ h. all_waiters h.contents ≢ [])
  before = (chain, chain_last, told.can)

  -- behind it
  module _ (mid : Me Slot Knowledge) (woken : List Place) (view : mid.0 ≡ turn.0)
      (outs : (x : List (QueueName × SleepQueue)) → turn.1 ≡ (at, SleepQueues x) ∷ rest turn.1
      → (mid.1 ≡ (at, SleepQueues (chain_woken q true side (head_of q x) x)) ∷ rest turn.1)
      × (woken ≡ woken_of true side (head_of q x)))
      (new : Me Slot Knowledge) (back : new ≡ (mid.0, turned mid.1)) where
    woken_are : woken ≡ ps
    woken_are = (outs chain chain_last).1

    abbrev then : Knowledge
    then = opened_sleepers floor l side me.0 told.may.both

    same : new.0 ≡ behind.0
    same = ap (λ (m : Me Slot Knowledge). m.0) back ∙ view ∙ ap (λ (m : Me Slot Knowledge). m.0) turns

    pub call_view : new.0 ≡ seeing new.0.seen then
    call_view = same ∙ ap (λ (m : Me Slot Knowledge). m.0) told.is
        ∙ ap (λ xs. seeing xs then) (ap (λ (k : Knowledge). k.seen) (sym same))

    new_out : new.1 ≡ new.0.out
    new_out =
        ap (λ (m : Me Slot Knowledge). m.1) back
        ∙ ap turned ((outs chain chain_last).0
        ∙ ap (λ xs. (at, SleepQueues (chain_woken q true side (head_of q chain) chain)) ∷ xs) (ap rest chain_first))
        ∙ (λ i. (me.0.thread, Record box)
        ∷ (at_is i, SleepQueues (chain_woken q true side (head_of q chain) chain)) ∷ [])
        ∙ sym (ap (λ (k : Knowledge). k.out) call_view)

    pub call_tied : (who : ℕ) (locks left : Vec Held) (marked : Marked) (book : Book) (fin : Bool) → fin ≡ false
        → IsTied who locks marked book fin me → me.0.description ≡ floor
        → is_turnstile ((config_in floor).kind l) ≡ false
        → left.items ≡ without_lock l locks.items → 8 ≤ vec_capacity left
        → IsTied who left (Sleepers woken) book fin new
    call_tied who locks left marked book fin going h mine sleeps items room =
        let are : AreMarked floor (Sleepers ps) then.share.doing.marked = record {
          queue = q;
          same = refl;
          kind = λ some. sleeps;
          held = told.held;
          of_floor = told.of_floor;
        } in
        subst (λ (xs : List Place). IsTied who left (Sleepers xs) book fin new) (sym woken_are)
        (tied_then who locks left marked (Sleepers ps) book fin me new then going h call_view new_out refl
        (items ∙ ap (without_lock l) h.held) room
        (subst (λ (k : Description). AreMarked k (Sleepers ps) then.share.doing.marked) (sym mine) are))

    pub call_opens : OpensSleepers floor l (word_of seen) me.0 new.0
    call_opens = record {
      both = told.may.both;
      mode = told.may.mode;
      side = side;
      told = its_side;
      view = call_view;
      step = subst (λ (k : Knowledge). Makes floor (OpensSleepQueue me.0.thread l told.may.mode ∷ []) me.0 k) (sym same)
          told.step;
    }
