-- What a thread's seat knows of its share behind an enter, and that the other threads' shares stay.
use Rattle.lock_floor.proofs.Names
use Names.{ℕ, Option, Some, None, List, sym, ap, put_same, put_other, owner_of, Mode, State, after_enter, walk_up, Slot}
use Names.{columns_of, share_in, Knowledge, RepresentsShare, entered}
use Rattle.std.proofs.Common.{◌≡◌, ◌≢◌, ◌∙◌}

module _ (s : State) (v : Knowledge) (fit : RepresentsShare v.share s v.thread) where
  abbrev t : ℕ
  t = v.thread

  abbrev e : columns_of v.share ≡ share_in s t
  e = fit.columns

  pub enter_own : (l : ℕ) (mode : Mode) (x : ℕ) (owner : Option ℕ) (out : List (ℕ × Slot))
      → owner ≡ owner_of (s.word l).holder → RepresentsShare (entered v l owner out).share (after_enter s t l mode x) t
  unfolding after_enter
  enter_own l mode x owner out is = record {
    columns = λ i. record (e i) {
      doing = record (e i).doing {
        wanted = sym (put_same s.wanted t (Some l)) i;
        called = sym (put_same s.called t None) i;
        round = sym (put_same s.round t None) i;
        last_look = sym (put_same s.last_look t None) i;
        walk = (ap (walk_up l) is ∙ sym (put_same s.walk t (walk_up l (owner_of (s.word l).holder)))) i;
      };
    };
    held_once = fit.held_once;
  }

module _ (s : State) (t u : ℕ) (other : u ≢ t) where
  ne : t ≡ u → ⊥
  ne q = other (sym q)

  pub enter_others : (l : ℕ) (mode : Mode) (x : ℕ) → share_in (after_enter s t l mode x) u ≡ share_in s u
  unfolding after_enter
  enter_others l mode x =
      let walk_is : (after_enter s t l mode x).walk u ≡ s.walk u = put_other s.walk t _ u ne in
      λ i. record (share_in s u) {
        doing = record (share_in s u).doing {
          wanted = put_other s.wanted t (Some l) u ne i;
          called = put_other s.called t None u ne i;
          round = put_other s.round t None u ne i;
          last_look = put_other s.last_look t None u ne i;
          walk = walk_is i;
        };
      }
