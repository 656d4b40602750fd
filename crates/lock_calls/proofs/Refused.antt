-- A take that was refused by the order of locks: it notes that, and the thread is at rest again. A thread that holds
-- nothing is never refused.
use Rattle.lock_calls.proofs.Names
use Names.{ℕ, zero, suc, true, false, List, Some, None, [], refl, sym, ap, subst, arith, All-head, Config}
use Names.{IsFirstToForbid, Event, Reversal, ClassNo, LockNo, State, HeldLock, gained_order, Step, Stamps, TakesItem}
use Names.{Refuses, NotesInRound, HasOutForEntry, maker, ClassGraph, after_take, Asks, held_classes, config_in}
use Names.{Description, Doing, ShareColumns, Fits, Makes, MakesEach, MayMake, Knowledge, seeing, settled, checks}
use Names.{ChecksOrder, IsAtRest, entry_by, stamped, share_then, share_behind, may_stamp, rest_seeing, rest_stamped}
use Names.{refuses, IsRefused, kept_of, IsCalling, IsChecking}
use Rattle.std.proofs.Common.{◌≡◌, ◌+◌, ◌≤◌, ◌∷◌, ◌∙◌}
use Rattle.lock_model.specs.declared.event.Event.TheVariants as event
use Rattle.lock_calls.proofs.Looks.{each_append}

-- 1. Nothing is refused a thread that holds nothing

-- behind the taking of the class graph the thread holds what it held
listed_behind : (floor : Description) (old new : Knowledge)
    (m : Makes floor (TakesItem old.thread ClassGraph ∷ []) old new)
    → gained_order new.share.held ≡ gained_order old.share.held
unfolding after_take
listed_behind floor old new m =
    let steps : List Step = TakesItem old.thread ClassGraph ∷ [] in
    ap (λ (x : ShareColumns). x.held_locks) (share_behind floor steps old new m).columns
    ∙ sym (ap (λ (x : ShareColumns). x.held_locks) (share_then floor steps old new m).columns)

pub bare_admitted : (floor : Description) (l : LockNo) (k : ClassNo) (old new : Knowledge) → old.share.held ≡ []
    → MakesEach floor (refuses old.thread l k) old new → ⊥
bare_admitted floor l k old new bare each =
    let c : Config = config_in floor in
    let mid : Knowledge = each.0 in
    let take : Makes floor (TakesItem old.thread ClassGraph ∷ []) old mid = each.1 in
    let settle : Makes floor (Refuses old.thread l.0 k.0 ∷ []) mid each.2.0 = each.2.1 in
    let none : settle.state.held_locks mid.thread ≡ [] =
    sym (ap (λ (x : ShareColumns). x.held_locks)
    (share_then floor (Refuses old.thread l.0 k.0 ∷ []) mid each.2.0 settle).columns)
    ∙ listed_behind floor old mid take ∙ ap gained_order bare in
    let own : old.thread ≡ mid.thread =
    All-head (λ step. maker step ≡ mid.thread) (Refuses old.thread l.0 k.0) [] settle.own in
    let refused :
    IsFirstToForbid settle.state.edges (held_classes c (settle.state.held_locks old.thread)) (c.class l.0) k.0 =
    settle.may.0.fits.may.refused in
    subst (λ (hs : List HeldLock). IsFirstToForbid settle.state.edges (held_classes c hs) (c.class l.0) k.0)
    (ap settle.state.held_locks own ∙ none) refused

-- 2. The entry of a refusal

-- the thread but for the look that it remembers
forgets : Knowledge → Knowledge
forgets v =
    let after : Doing = record v.share.doing { last_look = None } in
    record v { share = record v.share { doing = after } }

none_counts : (n : ℕ) → (1 ≤ n → ⊥) → n ≡ 0
none_counts zero none = refl
none_counts (suc n) none = absurd (none (omega arith))

-- where no look counts, it is at rest but for that look
rests : (floor : Description) (l : ℕ) (v : Knowledge) → IsCalling floor (kept_of v) → IsChecking floor l v
    → v.share.doing.looks ≡ 0 → IsAtRest floor (forgets v)
unfolding forgets
rests floor l v k there no_looks = assumption (no_looks, there, k)

module _ (floor : Description) (l : LockNo) (r : Reversal) (old v : Knowledge) (k : IsCalling floor (kept_of old))
    (there : IsChecking floor l.0 old) (checked : ChecksOrder floor l.0 (Some r.held.0) old v) where
  abbrev c : Config
  c = config_in floor

  abbrev e : Event
  e = event.Reversed l r.held

  abbrev w : Knowledge
  w = seeing v.seen (settled old l.0 (Some r.held.0))

  asks : (s : State) → Fits floor w s → Asks c s old.thread e × HasOutForEntry floor.chains s old.thread e
  asks s f = (sym (ap (λ (x : ShareColumns). x.doing.noted) f.share.columns), tt)

  pub may_note_refusal : MayMake floor v (λ s. Unit {0}) (Stamps v.thread e ∷ [])
  may_note_refusal =
      subst (λ (x : Knowledge). MayMake floor x (λ s. Unit {0}) (Stamps x.thread e ∷ [])) (sym checked.view)
      (may_stamp floor w e asks (subst (λ o. NotesInRound o e) (sym there.may.no_round) tt)
      (λ q. absurd (let z : false ≡ true = sym k.no_wait ∙ q in cc))
      there.may.runs
      (assumption there.may.going)
      there.may.takes_nothing)

  pub room_for_refusal : 1 ≤ old.spare → 1 ≤ v.spare
  room_for_refusal room = subst (λ (x : Knowledge). 1 ≤ x.spare) (sym checked.view) room

  pub is_refused : 1 ≤ old.spare → r.wanted.0 ≡ c.class l.0 → (new : Knowledge) (ticket : ℕ)
      → new ≡ seeing new.seen (stamped c v (entry_by v.thread ticket e))
      → Makes floor (Stamps v.thread e ∷ []) v new → IsRefused floor l r old new
  unfolding forgets
  is_refused room wanted new ticket says step =
      let its : v.thread ≡ old.thread = ap (λ (x : Knowledge). x.thread) checked.view in
      let is : new ≡ seeing new.seen (stamped c old (entry_by old.thread ticket e)) =
      says ∙ ap (λ (x : Knowledge). seeing new.seen (stamped c x (entry_by x.thread ticket e))) checked.view in
      let noted : Makes floor (Stamps old.thread e ∷ []) v new =
      subst (λ t. Makes floor (Stamps t e ∷ []) v new) its step in
      let each : MakesEach floor (refuses old.thread l r.held) old new =
      each_append floor (checks old.thread l.0 (Some r.held.0)) ((Stamps old.thread e ∷ []) ∷ []) old v new
      checked.steps (new, noted, refl) in
      let no_looks : old.share.doing.looks ≡ 0 =
      none_counts old.share.doing.looks (λ some. bare_admitted floor l r.held old new (there.bare some) each) in
      record {
        wanted = wanted;
        rest = subst (IsAtRest floor) (sym is)
            (rest_seeing floor (stamped c (forgets old) (entry_by old.thread ticket e)) new.seen
            (rest_stamped floor (forgets old) ticket e refl (rests floor l.0 old k there no_looks)));
        entry = record {
          ticket = ticket;
          log = ap (λ (x : Knowledge). x.share.log) is;
          held = ap (λ (x : Knowledge). x.share.held) is;
          spare = ap (λ (x : Knowledge). x.spare + 1) is ∙ omega (arith, room);
          thread = ap (λ (x : Knowledge). x.thread) is;
          before = v;
          behind = new;
          of = its;
          step = noted;
          log_before = ap (λ (x : Knowledge). x.share.log) checked.view;
          log_behind = refl;
        };
        steps = each;
      }
