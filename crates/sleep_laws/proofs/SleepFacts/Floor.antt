-- On a running floor who has a channel's chain out is at work on it: each step of a thread of the floor asks of
-- sleepers what it must, and only where a chain is taken or given back another is at work.
use Rattle.sleep_laws.proofs.Names
use Names.{ℕ, Bool, true, false, Some, None, refl, sym, ap, inl, inr, arith, subst, Config, one, some, is_halted_chan}
use Names.{Event, Woke, HaltedChan, State, Lawful, is_chan_halt, aborted, is_taking_back, MayStamp, after_seek}
use Names.{after_look, after_gain, after_drop, after_stamp, after_ready, after_unready, after_enter, after_open}
use Names.{after_mark, after_resume, after_enter_sleep, after_open_sleep, after_add, after_wake, after_abort}
use Names.{after_claim, after_lend, after_shift, after_end_walk, Item, SleepChain, IsDoneWith, MayTake, MayGive}
use Names.{item_with, after_take, after_give, after_admit, after_refuse, after_count_out, after_count_in}
use Names.{after_count_self_in, after_count_end, after_halt, Step, TakesItem, GivesItem, Stamps, May, HasOut, HasSeen}
use Names.{AsksOfThread, ends_sleep, after, IsFloorStep, AsksOfSleepers, SleepersFit, NamedAreWoken, AbortedSleep}
use Names.{AsleepAreOnTheirWay, by_chain, off, beside}
use Rattle.std.proofs.Common.{◌≡◌, ◌⊎◌, ◌%◌, ◌≤◌, ◌∙◌}
use Rattle.sleep_laws.proofs.SleepFacts.Moves.{moves}
use Rattle.sleep_laws.proofs.SleepFacts.Steps as core

one_most : (b : Bool) → one b ≤ 1
one_most true = omega arith
one_most false = omega arith

module _ (chains : ℕ) (c : Config) (s : State) where
  -- 1. What a step asks

  asks : (step : Step) → HasOut chains c s step → HasSeen chains c s step → AsksOfThread s step
      → AsksOfSleepers (by_chain chains s) s step
  asks step o x a = grind arith

  -- the next entry of a thread that sleeps in its log ends that sleep, and of one that was aborted it tells of the halt
  module _ (h : SleepersFit (by_chain chains s) c s) (t : ℕ) (k : 1 ≤ is_chan_halt (s.noted t)) where
    halted : 1 ≤ off c s t
    unfolding aborted
    halted = omega (arith, k)

    back : (b : Bool) → is_taking_back (s.log t) ≡ b → is_taking_back (s.log t) ≡ true
    unfolding AbortedSleep
    back true i = i
    back false i = absurd (let z = ap one i in omega (arith, halted, h.aborted_sleep t))

    tells : (e : Event) → MayStamp c s t e → ends_sleep e ≡ true → is_halted_chan e ≡ true
    unfolding NamedAreWoken AbortedSleep
    tells (Woke d) g i = absurd (
        let z = ap some g.asks.1 in
        let y = one_most (is_taking_back (s.log t)) in
        omega (arith, h.named_are_woken t, halted, h.aborted_sleep t))
    tells (HaltedChan d) g i = refl
    tells other g i = absurd cc

  notes : SleepersFit (by_chain chains s) c s → (step : Step) → May c s step → HasSeen chains c s step
      → core.NotesHalts s step
  notes h (Stamps t e) g x = λ k. tells h t k e g (x.asleep (back h t k (is_taking_back (s.log t)) refl))
  notes h other g x = tt

  -- 2. Who is at work behind it

  abbrev Keeps : State → Type 0
  Keeps n = (u k : ℕ) → s.sleep_chain_with k ≡ Some u → n.sleep_chain_with k ≡ Some u

  -- no chain that is out is taken
  taken : (t : ℕ) (i : Item) → MayTake c s t i → Keeps (after_take s t i)
  unfolding after_take
  taken t i g u k e = elim (beside s i (Some t) (SleepChain k)) [
    | inl x ↦ absurd (let z : None ≡ Some u = sym g.home ∙ ap (item_with s) x ∙ e in cc)
    | inr x ↦ x ∙ e
  ]

  -- and one that is out is given back only where its thread is done with it
  given : (t : ℕ) (i : Item) → MayGive c s t i → (u k : ℕ) → s.sleep_chain_with k ≡ Some u
      → IsDoneWith s u (SleepChain k) ⊎ ((after_give s t i).sleep_chain_with k ≡ Some u)
  unfolding after_give
  given t i g u k e = elim (beside s i None (SleepChain k)) [
    | inl x ↦
        let z : Some t ≡ Some u = sym g.out ∙ ap (item_with s) x ∙ e in
        let same : t ≡ u = cc in
        inl (subst (λ v. IsDoneWith s v (SleepChain k)) same (subst (IsDoneWith s t) x g.done))
    | inr x ↦ inr (x ∙ e)
  ]

  moved : (step : Step) → May c s step → SleepersFit (by_chain chains s) c (after c s step)
      → SleepersFit (by_chain chains (after c s step)) c (after c s step)
  unfolding AsleepAreOnTheirWay after_seek after_look after_gain after_drop after_stamp after_ready after_unready
      after_enter after_open after_mark after_resume after_enter_sleep after_open_sleep after_add after_wake after_claim
      after_lend after_shift after_end_walk after_admit after_refuse after_take after_give after_count_out
      after_count_in after_count_self_in after_count_end after_halt after_abort
  moved (TakesItem t i) g n =
      let after = after_take s t i in
      moves (by_chain chains s) (by_chain chains after) c after n
      (λ u d a z b. taken t i g u (d % chains)) (λ u w e. taken t i g u (w.chan % chains))
  moved (GivesItem t i) g n =
      let after = after_give s t i in
      moves (by_chain chains s) (by_chain chains after) c after n
      (λ u d a z b e. elim (given t i g u (d % chains) e) [
        | inl done ↦ absurd (done.2 (n.asleep_are_on_their_way u d a z b).0 b)
        | inr out ↦ out
      ])
      (λ u w f e. elim (given t i g u (w.chan % chains) e) [
        | inl done ↦ absurd (let z : None ≡ Some w = sym done.1 ∙ f in cc)
        | inr out ↦ out
      ])
  moved other g n = n

pub keeps : (chains : ℕ) (c : Config) (s n : State) → IsFloorStep chains c s n → Lawful c s
    → SleepersFit (by_chain chains s) c s → SleepersFit (by_chain chains n) c n
keeps chains c s n p l h =
    let asked = asks chains c s p.0 p.1.has_out p.1.has_seen p.1.asks_of_thread in
    let noted = notes chains c s h p.0 p.1.may p.1.has_seen in
    let there = core.keeps (by_chain chains s) c s p.0 p.1.may asked noted l h in
    subst (λ m. SleepersFit (by_chain chains m) c m) (sym p.2) (moved chains c s p.0 p.1.may there)
