-- The share of a thread behind a step of its walk, and those of others: the walk alone changes.
use Rattle.lock_floor.proofs.Names
use Names.{ℕ, List, sym, put_same, put_other, Config, State, Walk, NoWalk, after_lend, after_shift, after_end_walk}
use Names.{RepresentsShare, columns_of, share_in, Knowledge, Slot, hopped, arith}
use Rattle.std.proofs.Common.{◌≡◌, ◌≢◌}

-- 1. The thread's own

module _ (s : State) (v : Knowledge) (fit : RepresentsShare v.share s v.thread) where
  abbrev its : columns_of v.share ≡ share_in s v.thread
  its = fit.columns

  pub lend_own : (c : Config) (l o h : ℕ) (w : Walk) (out : List (ℕ × Slot))
      → w ≡ (after_lend c s v.thread l o h).walk v.thread
      → RepresentsShare (hopped v w out).share (after_lend c s v.thread l o h) v.thread
  unfolding after_lend
  lend_own c l o h w out goes = grind arith

  pub shift_own : (l o : ℕ) (w : Walk) (out : List (ℕ × Slot)) → w ≡ (after_shift s v.thread o l).walk v.thread
      → RepresentsShare (hopped v w out).share (after_shift s v.thread o l) v.thread
  unfolding after_shift
  shift_own l o w out goes = grind arith

  pub end_own : (out : List (ℕ × Slot))
      → RepresentsShare (hopped v NoWalk out).share (after_end_walk s v.thread) v.thread
  unfolding after_end_walk
  end_own out = record {
    columns = λ i. record (its i) { doing = record (its i).doing { walk = sym (put_same s.walk v.thread NoWalk) i } };
    held_once = fit.held_once;
  }

-- 2. Those of others

module _ (s : State) (t u : ℕ) (other : u ≢ t) where
  ne : t ≡ u → ⊥
  ne q = other (sym q)

  pub lend_others : (c : Config) (l o h : ℕ) → share_in (after_lend c s t l o h) u ≡ share_in s u
  unfolding after_lend
  lend_others c l o h =
      let walk_is : (after_lend c s t l o h).walk u ≡ s.walk u = put_other s.walk t _ u ne in
      λ i. record (share_in s u) { doing = record (share_in s u).doing { walk = walk_is i } }

  pub shift_others : (o l : ℕ) → share_in (after_shift s t o l) u ≡ share_in s u
  unfolding after_shift
  shift_others o l =
      let walk_is : (after_shift s t o l).walk u ≡ s.walk u = put_other s.walk t _ u ne in
      λ i. record (share_in s u) { doing = record (share_in s u).doing { walk = walk_is i } }

  pub end_others : share_in (after_end_walk s t) u ≡ share_in s u
  unfolding after_end_walk
  end_others =
      let walk_is : (after_end_walk s t).walk u ≡ s.walk u = put_other s.walk t _ u ne in
      λ i. record (share_in s u) { doing = record (share_in s u).doing { walk = walk_is i } }
