-- At most 100 looks of a thread count in an acquiring round, and before it at most two: its call's first exchanges.
use Rattle.lock_laws.proofs.Names
use Names.{ℕ, suc, Bool, true, false, not, cond, Option, Some, None, refl, sym, ap, subst, inl, inr, arith, eq-eqb}
use Names.{Config, Event, Hold, NotHeld, Holds, State, Round, put, start_state, looks_after, round_after, after_seek}
use Names.{after_look, after_gain, after_drop, after_stamp, after_ready, after_unready, after_enter, after_open}
use Names.{after_mark, after_resume, after_enter_sleep, after_open_sleep, after_add, after_wake, after_abort}
use Names.{after_claim, after_lend, after_shift, after_end_walk, after_take, after_give, after_admit, after_refuse}
use Names.{after_count_out, after_count_in, after_count_self_in, after_count_end, after_halt, Step, Seeks, Looks}
use Names.{TakesItem, Gains, Stamps, Enters, EntersSleepQueue, Resumes, Claims, Admits, LooksInRound, IsHalting, seeks}
use Names.{is_first, is_with, chain_of, May, HasSeen, after, IsReachable, begins, goes_on, IsFloorStep, item_with}
use Names.{is_chain, in_its_chain, FirstExchangesAreFew}
use Rattle.std.proofs.Common.{◌≡◌, ◌≢◌, ◌<◌, ◌≤◌, ◌||◌, ◌&&◌, ◌∙◌}
use Rattle.lock_laws.proofs.Kit.{at_put, columns}

AreFew : (ℕ → ℕ) → Type 0
AreFew looks = (u : ℕ) → looks u ≤ 100

changed : (looks : ℕ → ℕ) (t n : ℕ) → n ≤ 100 → AreFew looks → AreFew (put looks t n)
unfolding AreFew
changed looks t n l h = at_put (λ u k. k ≤ 100) looks t n l (λ u ne. h u)

one_more : (counts : Bool) (n : ℕ) → (counts ≡ true → n < 100) → n ≤ 100 → cond counts (suc n) n ≤ 100
one_more true n room l = let r = room refl in omega arith
one_more false n room l = l

noted : (e : Event) (n : ℕ) → n ≤ 100 → looks_after e n ≤ 100
noted e n h = grind arith

kept : (c : Config) (s : State) (step : Step) → May c s step → AreFew s.looks → AreFew (after c s step).looks
unfolding AreFew after_seek after_look after_gain after_drop after_stamp after_ready after_unready after_enter
    after_open after_mark after_resume after_enter_sleep after_open_sleep after_add after_wake after_claim after_lend
    after_shift after_end_walk after_admit after_refuse after_count_out after_count_in after_count_self_in
    after_count_end after_halt after_abort after_take after_give
kept c s (Seeks t l by_try) g h = changed s.looks t 0 (omega arith) h
kept c s (Looks t l counts) g h = changed s.looks t _ (one_more counts (s.looks t) g.room (h t)) h
kept c s (Gains t l mode by_try) g h = changed s.looks t 0 (omega arith) h
kept c s (Stamps t e) g h = changed s.looks t _ (noted e (s.looks t) (h t)) h
kept c s (Resumes t q cause) g h = changed s.looks t 0 (omega arith) h
kept c s (Claims t l x by_try) g h = changed s.looks t 0 (omega arith) h
kept c s other g h = h

at_start : (c : Config) → AreFew (start_state c).looks
unfolding AreFew start_state
at_start c u = omega arith

few : (c : Config) (s : State) → IsReachable c s → AreFew s.looks
few c s begins = at_start c
few c n (goes_on {s} r p) = subst (λ m. AreFew m.looks) (sym p.2) (kept c s p.0 p.1 (few c s r))

pub looks_few : (c : Config) (s : State) (t : ℕ) → IsReachable c s → s.looks t ≤ 100
unfolding AreFew
looks_few c s t r = few c s r t

-- First exchanges

module _ (s : State) (t : ℕ) (h : FirstExchangesAreFew s.round s.wanted s.looks) where
  here : s.round t ≡ None → s.wanted t ≡ None → s.looks t ≤ 2
  unfolding FirstExchangesAreFew
  here = h t

  -- what is said of the others stays
  module _ (round : Option Round) (wanted : Option ℕ) (looks : ℕ) (few : round ≡ None → wanted ≡ None → looks ≤ 2) where
    put_three : FirstExchangesAreFew (put s.round t round) (put s.wanted t wanted) (put s.looks t looks)
    unfolding FirstExchangesAreFew
    put_three u r w = grind (arith, columns, h u, few, r, w)

  of_round_and_looks : (round : Option Round) (looks : ℕ) → (round ≡ None → s.wanted t ≡ None → looks ≤ 2)
      → FirstExchangesAreFew (put s.round t round) s.wanted (put s.looks t looks)
  unfolding FirstExchangesAreFew
  of_round_and_looks round looks few u r w = grind (arith, columns, h u, few, r, w)

  of_looks : (looks : ℕ) → (s.round t ≡ None → s.wanted t ≡ None → looks ≤ 2)
      → FirstExchangesAreFew s.round s.wanted (put s.looks t looks)
  unfolding FirstExchangesAreFew
  of_looks looks few u r w = grind (arith, columns, h u, few, r, w)

  of_round : (round : Option Round) → (round ≡ None → s.round t ≡ None)
      → FirstExchangesAreFew (put s.round t round) s.wanted s.looks
  unfolding FirstExchangesAreFew
  of_round round same u r w = grind (arith, columns, h u, same, r, w)

  -- who wants a lock makes no first exchange
  of_wanted : (l : ℕ) → FirstExchangesAreFew s.round (put s.wanted t (Some l)) s.looks
  unfolding FirstExchangesAreFew
  of_wanted l u r w = grind (arith, columns, h u, r, w)

  of_waiting : (l : ℕ) → FirstExchangesAreFew (put s.round t None) (put s.wanted t (Some l)) s.looks
  unfolding FirstExchangesAreFew
  of_waiting l u r w = grind (arith, columns, h u, r, w)

not_both : (b : Bool) → b && false ≡ false
not_both true = refl
not_both false = refl

module _ (chains : ℕ) (c : Config) (s : State) (t l : ℕ) (counts : Bool) (x : LooksInRound chains c s t l counts)
    (h : FirstExchangesAreFew s.round s.wanted s.looks) where
  abbrev there : Bool
  there = is_with t (item_with s (chain_of chains c l))

  abbrev then : ℕ
  then = cond counts (suc (s.looks t)) (s.looks t)

  -- a look at a lock that is held doesn't count outside a round,
  held_counts_not : (hold : Hold) → s.round t ≡ None → s.held t l ≡ hold → hold ≢ NotHeld → counts ≡ false
  held_counts_not NotHeld none is ne = absurd (ne refl)
  held_counts_not (Holds mode) none is ne =
      x.counts ∙ (λ i. (seeks l (none i) || is_first (none i) (is i)) && not there)

  -- nor does one of a thread that halts others
  halting_counts_not : IsHalting s t → counts ≡ false
  halting_counts_not e =
      let out : there ≡ true = ap (is_with t) (x.halting e) ∙ eq-eqb t t refl in
      x.counts ∙ ap (λ b. (seeks l (s.round t) || is_first (s.round t) (s.held t l)) && not b) out
      ∙ not_both (seeks l (s.round t) || is_first (s.round t) (s.held t l))

  stays : counts ≡ false → s.round t ≡ None → s.wanted t ≡ None → then ≤ 2
  stays e none wants = subst (λ b. cond b (suc (s.looks t)) (s.looks t) ≤ 2) (sym e) (here s t h none wants)

  at_most : (b : Bool) (n : ℕ) → n ≤ 1 → cond b (suc n) n ≤ 2
  at_most true n m = omega arith
  at_most false n m = omega arith

  looked : (hold : Hold) → s.held t l ≡ hold → s.round t ≡ None → s.wanted t ≡ None → then ≤ 2
  looked NotHeld is none wants = elim (x.outside_first none is) [
    | inl first ↦ at_most counts (s.looks t) (let e = first.first in omega arith)
    | inr (inl second) ↦ at_most counts (s.looks t) (let e = second.once in omega arith)
    | inr (inr halts) ↦ stays (halting_counts_not halts) none wants
  ]
  looked (Holds mode) is none wants = stays (held_counts_not (Holds mode) none is (λ e. cc)) none wants

-- an entry leaves the looks, or ends them with its round
noted_few : (e : Event) (round : Option Round) (wanted : Option ℕ) (n : ℕ) → (round ≡ None → wanted ≡ None → n ≤ 2)
    → round_after e round ≡ None → wanted ≡ None → looks_after e n ≤ 2
noted_few e round wanted n few r w = grind arith

-- a round that takes its chain goes on
in_chain_still : (b : Bool) (round : Option Round) → cond b (in_its_chain round) round ≡ None → round ≡ None
in_chain_still true None e = refl
in_chain_still true (Some r) e = absurd cc
in_chain_still false round e = e

few_first : (chains : ℕ) (c : Config) (s : State) (step : Step) → May c s step → HasSeen chains c s step
    → FirstExchangesAreFew s.round s.wanted s.looks
    → FirstExchangesAreFew (after c s step).round (after c s step).wanted (after c s step).looks
unfolding after_seek after_look after_gain after_drop after_stamp after_ready after_unready after_enter
    after_open after_mark after_resume after_enter_sleep after_open_sleep after_add after_wake after_claim after_lend
    after_shift after_end_walk after_admit after_refuse after_count_out after_count_in after_count_self_in
    after_count_end after_halt after_abort after_take after_give
few_first chains c s (Seeks t l by_try) g x h = of_round_and_looks s t h _ 0 (λ r w. omega arith)
few_first chains c s (Looks t l counts) g x h =
    of_looks s t h _ (looked chains c s t l counts x h (s.held t l) refl)
few_first chains c s (TakesItem t i) g x h = of_round s t h _ (in_chain_still (is_chain i) (s.round t))
few_first chains c s (Gains t l mode by_try) g x h = put_three s t h None None 0 (λ r w. omega arith)
few_first chains c s (Stamps t e) g x h =
    of_round_and_looks s t h _ _ (noted_few e (s.round t) (s.wanted t) (s.looks t) (here s t h))
few_first chains c s (Enters t l mode y) g x h = of_waiting s t h l
few_first chains c s (EntersSleepQueue t l mode y) g x h = of_waiting s t h l
few_first chains c s (Resumes t q cause) g x h = put_three s t h _ _ 0 (λ r w. omega arith)
few_first chains c s (Claims t l y by_try) g x h = put_three s t h None None 0 (λ r w. omega arith)
few_first chains c s (Admits t l) g x h = of_wanted s t h l
few_first chains c s other g x h = h

pub first_begins : (c : Config)
    → FirstExchangesAreFew (start_state c).round (start_state c).wanted (start_state c).looks
unfolding FirstExchangesAreFew start_state
first_begins c t r w = omega arith

pub first_kept : (chains : ℕ) (c : Config) (s n : State) → IsFloorStep chains c s n
    → FirstExchangesAreFew s.round s.wanted s.looks → FirstExchangesAreFew n.round n.wanted n.looks
first_kept chains c s n p h =
    subst (λ m. FirstExchangesAreFew m.round m.wanted m.looks) (sym p.2)
    (few_first chains c s p.0 p.1.may p.1.has_seen h)
