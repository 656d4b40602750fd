-- What the call that wakes sleepers of a channel leaves of the pass, and tells of it.
use Rattle.lock_floor.proofs.Names
use Names.{ℕ, Bool, false, IfSome, List, [], map, refl, sym, ap, subst, Vec, Me, rest, head_of, Book, chan_queue, Held}
use Names.{QueueName, X, mark_of, chain_woken, Marked, Sleepers, Wakes, bits_of_threads, SleepQueue, Place, all_waiters}
use Names.{Makes, Knowledge, seeing, Description, Slot, SleepQueues, AreMarked, WakesSleepers, sleepers_woken}
use Names.{out_woken, woke, IsTied, chain_place}
use Rattle.std.proofs.Common.{◌≡◌, ◌≢◌, ◌<◌, ◌^◌, ◌∷◌, ◌∙◌}
use Rattle.lock_objects.specs.Sleeps.{woken_of}
use Rattle.lock_floor.proofs.Tied.{tied_then}
use Rattle.lock_floor.proofs.WakeUpStep.{WokenOff}

module _ (floor : Description) (me behind : Me Slot Knowledge) (d : ℕ) (all : Bool)
    (told : WokenOff floor d all me behind) (at : ℕ) (at_is : at ≡ chain_place floor (chan_queue d))
    (out : me.1 ≡ me.0.out) where
  abbrev q : QueueName
  q = chan_queue d

  abbrev chain : List (QueueName × SleepQueue)
  chain = told.sleepers.chain

  abbrev ps : List Place
  ps = sleepers_woken d all chain

  -- before the work on the chain
  last : behind.1 ≡ (at, SleepQueues chain) ∷ rest behind.1
  last =
      let same : behind.1 ≡ me.0.out = ap (λ (m : Me Slot Knowledge). m.1) told.is ∙ out in
      same ∙ told.sleepers.last ∙ (λ i. (sym at_is i, SleepQueues chain) ∷ rest (sym same i))

  pub before : (c : List (QueueName × SleepQueue)) × (behind.1 ≡ (at, SleepQueues c) ∷ rest behind.1)
      × IfSome (head_of q c) (λ h. all_waiters h.contents ≢ [])
  before = (chain, last, told.can)

  -- behind it
  module _ (new : Me Slot Knowledge) (woken : List Place) (view : new.0 ≡ behind.0)
      (outs : (c : List (QueueName × SleepQueue)) → behind.1 ≡ (at, SleepQueues c) ∷ rest behind.1
      → (new.1 ≡ (at, SleepQueues (chain_woken q all X (head_of q c) c)) ∷ rest behind.1)
      × (woken ≡ woken_of all X (head_of q c))) where
    pub woken_are : woken ≡ ps
    woken_are = (outs chain last).1

    abbrev then : Knowledge
    then = woke me.0 d all ps (out_woken floor d all chain me.0.out)

    pub call_view : new.0 ≡ seeing new.0.seen then
    call_view = view ∙ ap (λ (m : Me Slot Knowledge). m.0) told.is
        ∙ ap (λ xs. seeing xs then) (ap (λ (k : Knowledge). k.seen) (sym view))

    new_out : new.1 ≡ new.0.out
    new_out =
        let same : behind.1 ≡ me.0.out = ap (λ (m : Me Slot Knowledge). m.1) told.is ∙ out in
        (outs chain last).0
        ∙ (λ i. (at_is i, SleepQueues (chain_woken q all X (head_of q chain) chain)) ∷ rest (same i))
        ∙ sym (ap (λ (k : Knowledge). k.out) call_view)

    pub few_bits : bits_of_threads (map (λ p. p.thread) woken) < 2 ^ 64
    few_bits = subst (λ (xs : List Place). bits_of_threads (map (λ p. p.thread) xs) < 2 ^ 64)
        (sym woken_are) told.few

    pub call_tied : (who : ℕ) (locks : Vec Held) (marked : Marked) (book : Book) (fin : Bool) → fin ≡ false
        → IsTied who locks marked book fin me → me.0.description ≡ floor
        → IsTied who locks (Sleepers woken) book fin new
    call_tied who locks marked book fin going h mine =
        let are : AreMarked floor (Sleepers ps) (map (mark_of q) ps) = record {
          queue = q;
          same = refl;
          kind = λ some. refl;
          held = told.held;
          of_floor = told.of_floor;
        } in
        subst (λ (xs : List Place). IsTied who locks (Sleepers xs) book fin new) (sym woken_are)
        (tied_then who locks locks marked (Sleepers ps) book fin me new then going h call_view new_out refl h.held
        h.room (subst (λ (k : Description). AreMarked k (Sleepers ps) (map (mark_of q) ps)) (sym mine) are))

    pub call_wakes : (bits : ℕ) → bits ≡ bits_of_threads (map (λ p. p.thread) woken)
        → WakesSleepers floor d all bits me.0 new.0
    call_wakes bits are = record {
      sleepers = told.sleepers;
      view = call_view;
      answer = are ∙ ap (λ (xs : List Place). bits_of_threads (map (λ p. p.thread) xs)) woken_are;
      step = subst (λ (k : Knowledge). Makes floor (Wakes me.0.thread d all ∷ []) me.0 k) (sym view) told.step;
    }
