-- Acquiring rounds on a running floor: who took a lock's chain in a blocking call keeps it until it gains, claims or
-- enters.
use Rattle.lock_laws.proofs.Names
use Names.{ℕ, Bool, true, false, cond, Option, Some, None, refl, sym, ap, inl, inr, arith, subst, cases_eq, Config}
use Names.{is_turnstile, Cause, Event, QueueName, State, Round, Running, Queued, Woken, put, start_state, Lawful}
use Names.{round_after, round_of, is_woken, after_seek, after_look, after_gain, after_drop, after_stamp, after_ready}
use Names.{after_unready, bound_to, round_for, after_enter, after_open, after_mark, after_resume, after_enter_sleep}
use Names.{after_open_sleep, after_add, after_wake, after_abort, after_claim, after_lend, after_shift, after_end_walk}
use Names.{Item, TurnstileChain, SleepChain, MayTake, MayGive, IsDoneWith, item_with, out_with, is_chain, is_bound}
use Names.{in_its_chain, after_take, after_give, after_admit, after_refuse, after_count_out, after_count_in}
use Names.{after_count_self_in, after_count_end, after_halt, Step, Seeks, TakesItem, GivesItem, Gains, Stamps, Readies}
use Names.{Unreadies, Enters, EntersSleepQueue, Adds, Marks, Resumes, Claims, Admits, Refuses, May, after, chain_of}
use Names.{IsOfRound, FitsRound, NotesInRound, HasOut, HasSeen, IsFloorStep, EndsRound, IsBoundTo, BoundHasChain}
use Names.{RoundsAreActing, LawfulRounds}
use Rattle.std.proofs.Common.{◌≡◌, ◌⊎◌, ◌%◌, ◌∙◌}
use Rattle.lock_laws.proofs.Kit.{columns, put_same, put_other}
use Rattle.lock_laws.proofs.Items.{with_then, at_itself, beside}
use Rattle.lock_laws.proofs.Mark as mark
use Rattle.lock_laws.proofs.Resume as resume

-- 1. The chain of a round

abbrev lock_of : Option Round → ℕ
lock_of None = 0
lock_of (Some r) = r.lock

abbrev took_chain : Option Round → Bool
took_chain None = false
took_chain (Some r) = r.in_chain

-- a round that is bound once a chain was taken was of the lock before
sought : (o : Option Round) (l : ℕ) (i : Item) → in_its_chain o ≡ Some (bound_to l) → (chains : ℕ) (c : Config)
    → IsOfRound chains c o i → is_chain i ≡ true → i ≡ chain_of chains c l
sought o l i e chains c f x = grind arith

module _ (chains : ℕ) (c : Config) (s : State) (h : BoundHasChain chains c s.round (item_with s)) where
  -- a round that isn't bound asks nothing
  round_put : (t : ℕ) (o : Option Round) → ((l : ℕ) → o ≡ Some (bound_to l) → ⊥)
      → BoundHasChain chains c (put s.round t o) (item_with s)
  unfolding BoundHasChain
  round_put t o free u l e =
      elim (cases_eq t u) [
        | inl x ↦ absurd (free l (sym (put_same s.round t o) ∙ ap (put s.round t o) x ∙ e))
        | inr x ↦ h u l (sym (put_other s.round t o u x) ∙ e)
      ]

  -- what was home is no bound round's chain
  others_stay : (i : Item) (t : ℕ) → item_with s i ≡ None → (u l : ℕ) → IsBoundTo s u l
      → with_then s i (Some t) (chain_of chains c l) ≡ Some u
  unfolding BoundHasChain
  others_stay i t home u l e =
      let out : item_with s (chain_of chains c l) ≡ Some u = h u l e in
      elim (beside s i (Some t) (chain_of chains c l)) [
        | inl x ↦ absurd (let z : None ≡ Some u = sym home ∙ ap (item_with s) x ∙ out in cc)
        | inr x ↦ x ∙ out
      ]

  taken : (t : ℕ) (i : Item) → MayTake c s t i → IsOfRound chains c (s.round t) i → (b : Bool) → is_chain i ≡ b
      → BoundHasChain chains c (put s.round t (cond b (in_its_chain (s.round t)) (s.round t))) (with_then s i (Some t))
  unfolding BoundHasChain
  taken t i g fits false x u l e =
      elim (cases_eq t u) [
        | inl y ↦ others_stay i t g.home u l
            (ap s.round (sym y) ∙ sym (put_same s.round t (s.round t)) ∙ ap (put s.round t (s.round t)) y ∙ e)
        | inr y ↦ others_stay i t g.home u l (sym (put_other s.round t (s.round t) u y) ∙ e)
      ]
  taken t i g fits true x u l e =
      let o : Option Round = in_its_chain (s.round t) in
      elim (cases_eq t u) [
        | inl y ↦
            let mine : i ≡ chain_of chains c l = sought (s.round t) l i
            (sym (put_same s.round t o) ∙ ap (put s.round t o) y ∙ e) chains c fits x in
            ap (with_then s i (Some t)) (sym mine) ∙ at_itself s i (Some t) ∙ ap Some y
        | inr y ↦ others_stay i t g.home u l (sym (put_other s.round t o u y) ∙ e)
      ]

  unbound : (t l : ℕ) → IsDoneWith s t (chain_of chains c l) → is_bound (s.round t) ≡ false
  unbound t l d = grind arith

  given : (t : ℕ) (i : Item) → MayGive c s t i → BoundHasChain chains c s.round (with_then s i None)
  unfolding BoundHasChain
  given t i g u l e =
      let out : item_with s (chain_of chains c l) ≡ Some u = h u l e in
      elim (beside s i None (chain_of chains c l)) [
        | inl x ↦
            let same : Some t ≡ Some u = sym g.out ∙ ap (item_with s) x ∙ out in
            let mine : t ≡ u = cc in
            let free = unbound t l (subst (IsDoneWith s t) x g.done) in
            absurd (let z : true ≡ false = sym (ap is_bound (ap s.round mine ∙ e)) ∙ free in cc)
        | inr x ↦ x ∙ out
      ]

  -- the class graph is no chain
  graph_home : BoundHasChain chains c s.round
      (out_with s.turnstile_chain_with s.sleep_chain_with s.record_with s.cell_with None)
  unfolding BoundHasChain
  graph_home u l e = go (is_turnstile (c.kind l)) (h u l e)
    where
      go : (b : Bool) → item_with s (cond b (TurnstileChain (l % chains)) (SleepChain (l % chains))) ≡ Some u
          → out_with s.turnstile_chain_with s.sleep_chain_with s.record_with s.cell_with None
          (cond b (TurnstileChain (l % chains)) (SleepChain (l % chains))) ≡ Some u
      go true x = x
      go false x = x

no_bound_sought : (l k : ℕ) (by_try : Bool) → ◌≡◌ {A = Option Round} (Some (round_of k by_try)) (Some (bound_to l)) → ⊥
no_bound_sought l k by_try e = (let z = ap took_chain e in cc)

no_bound_none : (l : ℕ) → ◌≡◌ {A = Option Round} None (Some (bound_to l)) → ⊥
no_bound_none l e = cc

no_bound_resumed : (l : ℕ) (o : Option ℕ) → round_for o ≡ Some (bound_to l) → ⊥
no_bound_resumed l o e = grind arith

-- no entry is made in a blocking call's round
no_bound_noted : (o : Option Round) (e : Event) (l : ℕ) → NotesInRound o e → round_after e o ≡ Some (bound_to l) → ⊥
no_bound_noted o e l f g = grind arith

chain_kept : (chains : ℕ) (c : Config) (s : State) (step : Step) → May c s step → HasOut chains c s step
    → HasSeen chains c s step → BoundHasChain chains c s.round (item_with s)
    → BoundHasChain chains c (after c s step).round (item_with (after c s step))
unfolding after_seek after_look after_gain after_drop after_stamp after_ready after_unready after_enter after_open
    after_mark after_resume after_enter_sleep after_open_sleep after_add after_wake after_claim after_lend after_shift
    after_end_walk after_admit after_refuse after_count_out after_count_in after_count_self_in after_count_end
    after_halt after_abort after_take after_give
chain_kept chains c s (Seeks t l by_try) g o x h =
    round_put chains c s h t (Some (round_of l by_try)) (λ k. no_bound_sought k l by_try)
chain_kept chains c s (TakesItem t i) g o x h = taken chains c s h t i g o.1 (is_chain i) refl
chain_kept chains c s (GivesItem t i) g o x h = given chains c s h t i g
chain_kept chains c s (Gains t l mode by_try) g o x h = round_put chains c s h t None no_bound_none
chain_kept chains c s (Stamps t e) g o x h =
    round_put chains c s h t (round_after e (s.round t)) (λ k. no_bound_noted (s.round t) e k x.in_round)
chain_kept chains c s (Enters t l mode y) g o x h = round_put chains c s h t None no_bound_none
chain_kept chains c s (EntersSleepQueue t l mode y) g o x h = round_put chains c s h t None no_bound_none
chain_kept chains c s (Resumes t q cause) g o x h = round_put chains c s h t _ (λ k. no_bound_resumed k _)
chain_kept chains c s (Claims t l y by_try) g o x h = round_put chains c s h t None no_bound_none
chain_kept chains c s (Admits t l) g o x h = graph_home chains c s h
chain_kept chains c s (Refuses t l k) g o x h = graph_home chains c s h
chain_kept chains c s other g o x h = h

-- 2. Who is in a round acts

in_chain_of : (b : Bool) (o : Option Round) (r : Round) → cond b (in_its_chain o) o ≡ Some r
    → (q : Round) × (o ≡ Some q)
in_chain_of b o r e = grind arith

noted_of : (e : Event) (o : Option Round) (r : Round) → round_after e o ≡ Some r → (q : Round) × (o ≡ Some q)
noted_of e o r f = grind arith

module _ (s : State) (h : RoundsAreActing s.round s.blocked_on s.wait) where
  -- a round that begins is that of a thread that acts
  acting_put : (t : ℕ) (o : Option Round)
      → ((r : Round) → o ≡ Some r → (s.blocked_on t ≡ None) × (is_woken (s.wait t) ≡ false))
      → RoundsAreActing (put s.round t o) s.blocked_on s.wait
  unfolding RoundsAreActing
  acting_put t o acts u r e =
      elim (cases_eq t u) [
        | inl x ↦ subst (λ v. (s.blocked_on v ≡ None) × (is_woken (s.wait v) ≡ false)) x
            (acts r (sym (put_same s.round t o) ∙ ap (put s.round t o) x ∙ e))
        | inr x ↦ h u r (sym (put_other s.round t o u x) ∙ e)
      ]

  acting_ready : (t : ℕ) → RoundsAreActing s.round s.blocked_on (put s.wait t Queued)
  unfolding RoundsAreActing
  acting_ready t u r e = grind (arith, columns, h u r e)

  acting_unready : (t : ℕ) → RoundsAreActing s.round s.blocked_on (put s.wait t Running)
  unfolding RoundsAreActing
  acting_unready t u r e = grind (arith, columns, h u r e)

  -- a thread that comes to stand on a queue is in no round
  acting_stands : (t : ℕ) (q : QueueName) → RoundsAreActing (put s.round t None) (put s.blocked_on t (Some q)) s.wait
  unfolding RoundsAreActing
  acting_stands t q u r e =
      elim (cases_eq t u) [
        | inl x ↦ absurd (let z : None ≡ Some r = sym (put_same s.round t None) ∙ ap (put s.round t None) x ∙ e in cc)
        | inr x ↦ rw (put_other s.blocked_on t (Some q) u x) (h u r (sym (put_other s.round t None u x) ∙ e))
      ]

  acting_sleeps : (t : ℕ) (q : QueueName) → s.round t ≡ None
      → RoundsAreActing s.round (put s.blocked_on t (Some q)) s.wait
  unfolding RoundsAreActing
  acting_sleeps t q f u r e =
      elim (cases_eq t u) [
        | inl x ↦ absurd (let z : None ≡ Some r = sym f ∙ ap s.round x ∙ e in cc)
        | inr x ↦ rw (put_other s.blocked_on t (Some q) u x) (h u r e)
      ]

  -- so is one that is woken
  acting_marked : (t : ℕ) (q : QueueName) (cause : Cause) → s.blocked_on t ≡ Some q
      → RoundsAreActing s.round (put s.blocked_on t None) (put s.wait t (Woken q cause))
  unfolding RoundsAreActing
  acting_marked t q cause f u r e =
      elim (cases_eq t u) [
        | inl x ↦ absurd (let z : None ≡ Some q = sym ((h t r (ap s.round x ∙ e)).0) ∙ f in cc)
        | inr x ↦ rw (put_other s.blocked_on t None u x, put_other s.wait t (Woken q cause) u x) (h u r e)
      ]

  acting_resumed : (t : ℕ) (o : Option Round) → s.blocked_on t ≡ None
      → RoundsAreActing (put s.round t o) s.blocked_on (put s.wait t Running)
  unfolding RoundsAreActing
  acting_resumed t o f u r e =
      elim (cases_eq t u) [
        | inl x ↦ (
          ap s.blocked_on (sym x) ∙ f,
          ap (λ v. is_woken (put s.wait t Running v)) (sym x) ∙ ap is_woken (put_same s.wait t Running),
        )
        | inr x ↦ rw (put_other s.wait t Running u x) (h u r (sym (put_other s.round t o u x) ∙ e))
      ]

acting_kept : (chains : ℕ) (c : Config) (s : State) (step : Step) → May c s step → HasSeen chains c s step → Lawful c s
    → RoundsAreActing s.round s.blocked_on s.wait
    → RoundsAreActing (after c s step).round (after c s step).blocked_on (after c s step).wait
unfolding RoundsAreActing after_seek after_look after_gain after_drop after_stamp after_ready after_unready after_enter
    after_open after_mark after_resume after_enter_sleep after_open_sleep after_add after_wake after_claim after_lend
    after_shift after_end_walk after_admit after_refuse after_count_out after_count_in after_count_self_in
    after_count_end after_halt after_abort after_take after_give
acting_kept chains c s (Seeks t l by_try) g x w h =
    acting_put s h t (Some (round_of l by_try)) (λ r e. (g.acting.unnamed, g.acting.unwoken))
acting_kept chains c s (TakesItem t i) g x w h =
    acting_put s h t _ (λ r e. let p = in_chain_of (is_chain i) (s.round t) r e in h t p.0 p.1)
acting_kept chains c s (Gains t l mode by_try) g x w h = acting_put s h t None (λ r e. absurd cc)
acting_kept chains c s (Stamps t e) g x w h =
    acting_put s h t (round_after e (s.round t)) (λ r f. let p = noted_of e (s.round t) r f in h t p.0 p.1)
acting_kept chains c s (Readies t q) g x w h = acting_ready s h t
acting_kept chains c s (Unreadies t q) g x w h = acting_unready s h t
acting_kept chains c s (Enters t l mode y) g x w h = acting_stands s h t _
acting_kept chains c s (EntersSleepQueue t l mode y) g x w h = acting_stands s h t _
acting_kept chains c s (Adds t d y) g x w h = acting_sleeps s h t _ x.no_round
acting_kept chains c s (Marks t m ms) g x w h =
    acting_marked s h m.thread m.queue m.cause (mark.blocked_on c s t m ms g w)
acting_kept chains c s (Resumes t q cause) g x w h =
    acting_resumed s h t _ (nowhere (s.blocked_on t) (resume.unnamed c s t q cause g w))
  where
    nowhere : (o : Option QueueName) → ((r : QueueName) → o ≡ Some r → ⊥) → o ≡ None
    nowhere o f = grind arith
acting_kept chains c s (Claims t l y by_try) g x w h = acting_put s h t None (λ r e. absurd cc)
acting_kept chains c s other g x w h = h

-- 3. Both

pub begins : (chains : ℕ) (c : Config) → LawfulRounds chains c (start_state c)
unfolding start_state BoundHasChain RoundsAreActing
begins chains c = record { bound_has_chain = λ t l e. absurd cc; rounds_are_acting = λ t r e. absurd cc }

pub rounds_keep : (chains : ℕ) (c : Config) (s n : State) → IsFloorStep chains c s n → Lawful c s
    → LawfulRounds chains c s → LawfulRounds chains c n
rounds_keep chains c s n p w h =
    let there : LawfulRounds chains c (after c s p.0) =
    record {
      bound_has_chain = chain_kept chains c s p.0 p.1.may p.1.has_out p.1.has_seen h.bound_has_chain;
      rounds_are_acting = acting_kept chains c s p.0 p.1.may p.1.has_seen w h.rounds_are_acting;
    } in
    subst (LawfulRounds chains c) (sym p.2) there

-- 4. How a round ends

-- another thread's step leaves a round
left : (s : State) (u t l : ℕ) (o : Option Round) (E : Type 0) → IsBoundTo s t l → (u ≡ t → E)
    → (put s.round u o t ≡ Some (bound_to l)) ⊎ E
left s u t l o E e f = elim (cases_eq u t) [ inl x ↦ inr (f x) | inr x ↦ inl (put_other s.round u o t x ∙ e) ]

fits_bound : (o : Option Round) (l k : ℕ) (by_try : Bool) → o ≡ Some (bound_to l) → FitsRound o k by_try → k ≡ l
fits_bound o l k by_try e f = grind arith

taken_bound : (b : Bool) (o : Option Round) (l : ℕ) → o ≡ Some (bound_to l)
    → cond b (in_its_chain o) o ≡ Some (bound_to l)
taken_bound true o l e = rw e refl
taken_bound false o l e = e

nothing_noted : (o : Option Round) (e : Event) (l : ℕ) → o ≡ Some (bound_to l) → NotesInRound o e → ⊥
nothing_noted o e l x f = grind arith

entered_bound : (o : Option Round) (l k : ℕ) → o ≡ Some (bound_to l) → o ≡ Some (bound_to k) → k ≡ l
entered_bound None l k e f = absurd cc
entered_bound (Some r) l k e f = sym (ap lock_of f) ∙ ap lock_of e

pub ends : (chains : ℕ) (c : Config) (s : State) (step : Step) (t l : ℕ) → May c s step → HasSeen chains c s step
    → LawfulRounds chains c s → IsBoundTo s t l → IsBoundTo (after c s step) t l ⊎ EndsRound step t l
unfolding RoundsAreActing after_seek after_look after_gain after_drop after_stamp after_ready after_unready after_enter
    after_open after_mark after_resume after_enter_sleep after_open_sleep after_add after_wake after_claim after_lend
    after_shift after_end_walk after_admit after_refuse after_count_out after_count_in after_count_self_in
    after_count_end after_halt after_abort after_take after_give
ends chains c s (Seeks u k by_try) t l g x h e =
    left s u t l _ ⊥ e (λ i. let z : None ≡ Some (bound_to l) = sym g.no_round ∙ ap s.round i ∙ e in cc)
ends chains c s (TakesItem u i) t l g x h e =
    inl (elim (cases_eq u t) [
      | inl y ↦ ap (put s.round u _) (sym y) ∙ put_same s.round u _
          ∙ taken_bound (is_chain i) (s.round u) l (ap s.round y ∙ e)
      | inr y ↦ put_other s.round u _ t y ∙ e
    ])
ends chains c s (Gains u k mode by_try) t l g x h e =
    left s u t l _ _ e (λ i. (i, fits_bound (s.round u) l k by_try (ap s.round i ∙ e) x.fits))
ends chains c s (Stamps u k) t l g x h e =
    left s u t l _ ⊥ e (λ i. nothing_noted (s.round u) k l (ap s.round i ∙ e) x.in_round)
ends chains c s (Enters u k mode y) t l g x h e =
    left s u t l _ _ e (λ i. (i, entered_bound (s.round u) l k (ap s.round i ∙ e) x.round))
ends chains c s (EntersSleepQueue u k mode y) t l g x h e =
    left s u t l _ _ e (λ i. (i, entered_bound (s.round u) l k (ap s.round i ∙ e) x.round))
ends chains c s (Resumes u q cause) t l g x h e = left s u t l _ ⊥ e (λ i.
    let z : false ≡ true = sym ((h.rounds_are_acting u (bound_to l) (ap s.round i ∙ e)).1) ∙ ap is_woken g.woken in cc)
ends chains c s (Claims u k y by_try) t l g x h e =
    left s u t l _ _ e (λ i. (i, fits_bound (s.round u) l k by_try (ap s.round i ∙ e) x.fits))
ends chains c s other t l g x h e = inl e
