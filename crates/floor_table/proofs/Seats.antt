-- The seats: whose a seat is, and what a step of a thread leaves of them.
use Rattle.std.proofs.Common.{◌≡◌, ◌≢◌, ℕ, zero, suc, ◌+◌, ◌<◌, ◌≤◌, List, [], ◌∷◌, length, get_or, set, true, sym, ap, ◌∙◌, subst, inl, inr, arith, length-set, get_or-set_same, get_or-set_other}
use Rattle.std.proofs.lemmas.Bool.{cases_eq}
use Rattle.std.specs.Prelude.{◌==◌}
use Rattle.std.specs.List.{list_any}
use mathlib.Core.Option.{some, some-injective, some-ne-none}
use lib.ListN.{get_elem?}
use Rattle.lock_state.specs.State.{State}
use Rattle.floor_table.specs.declared.description.Description.{Description}
use Rattle.floor_table.specs.Shares.{Share, share_in}
use Rattle.floor_table.specs.Views.{OfKeeper, OfThread, Pose, Knowledge, nothing}
use Rattle.floor_table.specs.Represents.{RepresentsShare, keeper_in, thread_in, total, live, one_thread, IsSeatOf, IsTakenIn, IsPosed, RepresentsSeats}
use Rattle.floor_table.proofs.Lists.{inside, at_or}

-- 1. Sums over seats

pub total_set : (f : Knowledge → ℕ) (vs : List Knowledge) (i : ℕ) (v w : Knowledge) → get_elem? vs i ≡ some v
    → total f (set vs i w) + f v ≡ total f vs + f w
total_set f [] i v w e = absurd (some-ne-none v (sym e))
total_set f (x ∷ xs) zero v w e = let p : f x ≡ f v = ap f (some-injective x v e) in omega arith
total_set f (x ∷ xs) (suc i) v w e = let p = total_set f xs i v w e in omega arith

-- 2. Whose seat it is

-- a share is known by the columns of its thread alone
pub same_share : {x : Share} {a b : State} {t : ℕ} → share_in b t ≡ share_in a t → RepresentsShare x a t
    → RepresentsShare x b t
same_share e h = record { columns = h.columns ∙ sym e; held_once = h.held_once }

module _ (floor : Description) (vs : List Knowledge) (a : State) (r : RepresentsSeats floor vs a) where
  -- a thread's seat stands behind the keeper's, at the thread's number
  pub seat_of : (i : ℕ) (v : Knowledge) → get_elem? vs i ≡ some v → v.role ≡ OfThread → (i ≡ suc v.thread)
      × (v.thread < length floor.threads) × RepresentsShare v.share a v.thread
  seat_of zero v at is = absurd
      (let e : OfKeeper ≡ OfThread = sym r.keeper ∙ ap (λ (w : Knowledge). w.role) (at_or vs 0 v nothing at) ∙ is in cc)
  seat_of (suc t) v at is =
      let here : thread_in vs t ≡ v = at_or vs (suc t) v nothing at in
      let h = r.thread t (ap (λ (w : Knowledge). w.role) here ∙ is) in
      let same : v.thread ≡ t = ap (λ (w : Knowledge). w.thread) (sym here) ∙ h.thread in
      let low : t < length floor.threads = let p = inside vs (suc t) v at in omega (arith, r.made, r.few, p) in (
        ap suc (sym same),
        subst (λ u. u < length floor.threads) (sym same) low,
        subst (λ u. RepresentsShare v.share a u) (sym same)
            (subst (λ (w : Knowledge). RepresentsShare w.share a t) here h.share),
      )

  -- 3. A step of a thread changes what its seat knows, and no share but its own. What others' seats know of where their
  -- threads are stays so

  module _ (b : State) (t : ℕ) (v w : Knowledge) (at : get_elem? vs (suc t) ≡ some v) (was : v.role ≡ OfThread)
      (is : w.role ≡ OfThread) (mine : IsSeatOf w b t) (others : (u : ℕ) → u ≢ t → share_in b u ≡ share_in a u)
      (pose : IsPosed w.pose (b.wait t) (b.blocked_on t))
      (other_poses : (u : ℕ) → u ≢ t → (p : Pose) → IsPosed p (a.wait u) (a.blocked_on u)
      → IsPosed p (b.wait u) (b.blocked_on u)) where
    abbrev new : List Knowledge
    new = set vs (suc t) w

    pub first_stays : keeper_in new ≡ keeper_in vs
    first_stays = get_or-set_other vs (suc t) 0 w nothing (λ e. omega arith)

    pub mine_is : thread_in new t ≡ w
    mine_is = get_or-set_same vs (suc t) w nothing (inside vs (suc t) v at)

    pub others_are : (u : ℕ) → u ≢ t → thread_in new u ≡ thread_in vs u
    others_are u ne = get_or-set_other vs (suc t) (suc u) w nothing (λ e. ne (omega arith))

    was_thread : (thread_in vs t).role ≡ OfThread
    was_thread = ap (λ (x : Knowledge). x.role) (at_or vs (suc t) v nothing at) ∙ was

    made_before : t < (keeper_in vs).made
    made_before = let p = inside vs (suc t) v at in omega (arith, p, r.made)

    threads_are : (u : ℕ) → (thread_in new u).role ≡ OfThread → IsSeatOf (thread_in new u) b u
    threads_are u role =
        elim (cases_eq u t) [
          | inl e ↦ subst (λ j. IsSeatOf (thread_in new j) b j) (sym e)
              (subst (λ (x : Knowledge). IsSeatOf x b t) (sym mine_is) mine)
          | inr ne ↦
              let old = r.thread u (ap (λ (x : Knowledge). x.role) (sym (others_are u ne)) ∙ role) in
              subst (λ (x : Knowledge). IsSeatOf x b u) (sym (others_are u ne))
              (record { thread = old.thread; share = same_share (others u ne) old.share })
        ]

    taken_stay : (u : ℕ) (x : Share) → IsTakenIn vs a u x → IsTakenIn new b u x
    taken_stay u x h =
        let ne : u ≢ t = λ e. h.gone (ap (λ j. (thread_in vs j).role) e ∙ was_thread) in
        record {
          made = subst (λ (k : Knowledge). u < k.made) (sym first_stays) h.made;
          gone = λ e. h.gone (ap (λ (k : Knowledge). k.role) (sym (others_are u ne)) ∙ e);
          share = same_share (others u ne) h.share;
        }

    poses_are : (u : ℕ) → IsPosed (thread_in new u).pose (b.wait u) (b.blocked_on u)
    poses_are u =
        elim (cases_eq u t) [
          | inl e ↦ subst (λ j. IsPosed (thread_in new j).pose (b.wait j) (b.blocked_on j)) (sym e)
              (subst (λ (x : Knowledge). IsPosed x.pose (b.wait t) (b.blocked_on t)) (sym mine_is) pose)
          | inr ne ↦ subst (λ (x : Knowledge). IsPosed x.pose (b.wait u) (b.blocked_on u)) (sym (others_are u ne))
              (other_poses u ne (thread_in vs u).pose (r.poses u))
        ]

    pub seats_stepped : RepresentsSeats floor new b
    seats_stepped = record {
      keeper = ap (λ (k : Knowledge). k.role) first_stays ∙ r.keeper;
      made = length-set vs (suc t) w ∙ r.made ∙ ap (λ (k : Knowledge). suc k.made) (sym first_stays);
      few = subst (λ (k : Knowledge). k.made ≤ length floor.threads) (sym first_stays) r.few;
      thread = threads_are;
      unmade = λ u past. let n : (keeper_in vs).made ≤ u = subst (λ (k : Knowledge). k.made ≤ u) first_stays past in
          others u (λ e. let m = made_before in omega arith) ∙ r.unmade u n;
      taken_in = λ i d low. let same = ap (λ (k : Knowledge). k.gathered) first_stays in
          subst (λ gs. IsTakenIn new b (get_or gs i d).0 (get_or gs i d).1) (sym same)
          (taken_stay _ _ (r.taken_in i d (subst (λ gs. i < length gs) same low)));
      each = λ u low gone. elim (cases_eq u t) [
        | inl e ↦ absurd (gone (ap (λ j. (thread_in new j).role) e ∙ ap (λ (k : Knowledge). k.role) mine_is ∙ is))
        | inr ne ↦ subst (λ (k : Knowledge). list_any (λ g. g.0 == u) k.gathered ≡ true) (sym first_stays)
            (r.each u (subst (λ (k : Knowledge). u < k.made) first_stays low)
            (λ e. gone (ap (λ (k : Knowledge). k.role) (others_are u ne) ∙ e)))
      ];
      none_out = λ u gone. elim (cases_eq u t) [
        | inl e ↦ absurd (gone (ap (λ j. (thread_in new j).role) e ∙ ap (λ (k : Knowledge). k.role) mine_is ∙ is))
        | inr ne ↦ ap (λ (k : Knowledge). k.out) (others_are u ne)
            ∙ r.none_out u (λ e. gone (ap (λ (k : Knowledge). k.role) (others_are u ne) ∙ e))
      ];
      counted =
          let sums = total_set live vs (suc t) v w at in
          let one : live v ≡ live w = ap one_thread (was ∙ sym is) in
          let n = ap (λ (k : Knowledge). length k.gathered) first_stays in
          let m = ap (λ (k : Knowledge). k.made) first_stays in
          omega (arith, sums, one, n, m, r.counted);
      poses = poses_are;
      runs = λ u gone. elim (cases_eq u t) [
        | inl e ↦ absurd (gone (ap (λ j. (thread_in new j).role) e ∙ ap (λ (k : Knowledge). k.role) mine_is ∙ is))
        | inr ne ↦ ap (λ (k : Knowledge). k.pose) (others_are u ne)
            ∙ r.runs u (λ e. gone (ap (λ (k : Knowledge). k.role) (others_are u ne) ∙ e))
      ];
    }
