-- What the call that releases a lock with waiters needs of its parts, and what it was told.
use Rattle.lock_floor.proofs.Names
use Names.{ℕ, Bool, true, false, cond, Option, None, Some, List, [], refl, sym, ap, subst, vec_capacity, same_Some}
use Names.{with_value, Vec, Global, Box, Me, head_of, Book, without_lock, lock_queue, Word, word_of, is_drop}
use Names.{is_turnstile, side_woken, side_opened, Held, Kind, QueueName, Side, CanOpen, record_opened, chain_opened}
use Names.{woken_of, Marked, Waiters, Opens, ThreadRec, Turnstile, config_in, Knowledge, Description, Slot, Record}
use Names.{Turnstiles, AreMarked, OpensUp, marks_opened, opened_up, out_opened, IsTied, chain_place}
use Rattle.std.proofs.Common.{◌≡◌, ◌≤◌, ◌∷◌, ◌∙◌}
use Rattle.turnstile_core.specs.Seen.{Place}
use Rattle.lock_floor.proofs.BothChanged.{out_before, worked}
use Rattle.lock_floor.proofs.OpenStep.{Opened, OpensWord}
use Rattle.lock_floor.proofs.Opened.{last_shown}
use Rattle.lock_floor.proofs.Tied.{tied_then}

-- the side that the word of a lock tells where its release is an open
pub side_told : (floor : Description) (l : ℕ) (kind : Kind) (w : Word) (o : Option Side) (side : Side)
    → o ≡ side_opened kind w → o ≡ Some side → is_drop w ≡ false → kind ≡ (config_in floor).kind l
    → side ≡ side_woken ((config_in floor).kind l) w
side_told floor l kind w o side e f opens its =
    same_Some side (side_woken kind w)
    (sym f ∙ e ∙ ap (λ b. cond b (Some (side_woken kind w)) None) (last_shown w opens).1) ∙ ap (λ k. side_woken k w) its

module _ (floor : Description) (me behind : Me Slot Knowledge) (l seen found : ℕ) (side : Side)
    (its_side : side ≡ side_woken ((config_in floor).kind l) (word_of seen))
    (tells : Opened floor l (side_woken ((config_in floor).kind l) (word_of seen)) seen me found behind)
    (hit : found ≡ seen) (own at : ℕ) (own_is : own ≡ me.0.thread) (at_is : at ≡ chain_place floor (lock_queue l))
    (out : me.1 ≡ me.0.out) where
  abbrev pub told : OpensWord floor l side me behind
  told = subst (λ k. OpensWord floor l k me behind) (sym its_side) (tells.0 hit)

  abbrev woken : List Place
  woken = woken_of l side told.both.box.value told.turnstile.contents

  abbrev then : Knowledge
  then = opened_up me.0 l (marks_opened l side told.both.box told.turnstile)
      (out_opened floor me.0.thread l side told.both.box told.both.chain told.turnstile)

  before : behind.1 ≡ (own, Record told.both.box) ∷ (at, Turnstiles told.both.chain) ∷ []
  before = out_before floor (lock_queue l) me behind then told.is out told.both.box (Turnstiles told.both.chain)
      told.both.out own at own_is at_is

  -- before the work on them
  pub side_out : (b : Box ThreadRec Global) × (chain : List (QueueName × Turnstile)) × (h : Turnstile)
      × (behind.1 ≡ (own, Record b) ∷ (at, Turnstiles chain) ∷ []) × (head_of (lock_queue l) chain ≡ Some h)
      × CanOpen l side b.value h
  side_out = (told.both.box, told.both.chain, told.turnstile, before, told.there, told.can)

  -- behind it
  module _ (turnstile : is_turnstile ((config_in floor).kind l) ≡ true) (new : Me Slot Knowledge) (ps : List Place)
      (view : new.0 ≡ behind.0)
      (outs : (b : Box ThreadRec Global) (chain : List (QueueName × Turnstile)) (h : Turnstile)
      → head_of (lock_queue l) chain ≡ Some h → behind.1 ≡ (own, Record b) ∷ (at, Turnstiles chain) ∷ []
      → new.1 ≡ (own, Record (with_value b (record_opened l b.value))) ∷
      (at, Turnstiles (chain_opened l side b.value h chain)) ∷ [])
      (wakes : (b : Box ThreadRec Global) (chain : List (QueueName × Turnstile)) (h : Turnstile)
      → head_of (lock_queue l) chain ≡ Some h → behind.1 ≡ (own, Record b) ∷ (at, Turnstiles chain) ∷ []
      → ps ≡ woken_of l side b.value h.contents) where
    pub its_work : (o : OpensUp floor l (word_of seen) me.0 new.0) × (new.1 ≡ new.0.out)
        × AreMarked floor (Waiters ps) (marks_opened l o.side o.both.box o.turnstile)
    its_work =
        let work = worked floor (lock_queue l) me behind then told.is out told.both.box
        (Turnstiles told.both.chain) told.both.out own at own_is at_is (Opens me.0.thread l told.mode ∷ []) new
        (with_value told.both.box (record_opened l told.both.box.value))
        (Turnstiles (chain_opened l side told.both.box.value told.turnstile told.both.chain)) told.step view
        (outs told.both.box told.both.chain told.turnstile told.there before) refl in
        let are : AreMarked floor (Waiters woken) (marks_opened l side told.both.box told.turnstile) = record {
          queue = lock_queue l;
          same = refl;
          kind = λ some. turnstile;
          held = told.held;
          of_floor = told.of_floor;
        } in (
          record {
            mode = told.mode;
            both = told.both;
            turnstile = told.turnstile;
            there = told.there;
            side = side;
            told = its_side;
            view = work.view;
            step = work.step;
          },
          work.out,
          subst (λ qs. AreMarked floor (Waiters qs) (marks_opened l side told.both.box told.turnstile))
              (sym (wakes told.both.box told.both.chain told.turnstile told.there before)) are,
        )

-- the pass stays tied: without the lock, and with those who were taken off
pub tied_opened : (floor : Description) (l : ℕ) (word : Word) (me new : Me Slot Knowledge) (ps : List Place)
    (o : OpensUp floor l word me.0 new.0) → new.1 ≡ new.0.out
    → AreMarked floor (Waiters ps) (marks_opened l o.side o.both.box o.turnstile) → (who : ℕ) (locks left : Vec Held)
    (marked : Marked) (book : Book) (fin : Bool) → fin ≡ false → IsTied who locks marked book fin me
    → me.0.description ≡ floor → left.items ≡ without_lock l locks.items → 8 ≤ vec_capacity left
    → IsTied who left (Waiters ps) book fin new
tied_opened floor l word me new ps o out are who locks left marked book fin going h mine items room =
    let then : Knowledge = opened_up me.0 l (marks_opened l o.side o.both.box o.turnstile)
    (out_opened floor me.0.thread l o.side o.both.box o.both.chain o.turnstile) in
    tied_then who locks left marked (Waiters ps) book fin me new then going h o.view out refl
    (items ∙ ap (without_lock l) h.held) room
    (subst (λ (d : Description). AreMarked d (Waiters ps) (marks_opened l o.side o.both.box o.turnstile)) (sym mine)
    are)
