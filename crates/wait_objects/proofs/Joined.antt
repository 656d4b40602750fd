-- What a waiter more makes of an object's lists.
use Rattle.std.proofs.Common.{◌≡◌, ◌≢◌, ℕ, suc, ◌+◌, ◌≤◌, ◌<◌, Bool, true, false, eqb, List, [], ◌∷◌, ◌++◌, length, refl, sym, subst, ap, ◌∙◌, inl, inr, arith, eq-eqb}
use Rattle.std.proofs.lemmas.Bool.{cases_eq, ne_eqb, ltb-false}
use Rattle.lock_model.specs.Counts.{one}
use Rattle.lock_model.specs.Queues.{Waiter as Waiting, Lists, list_of, with_list, times_waiting, stands, waiting}
use Rattle.lock_model.specs.declared.plan.Side.{Side}
use Rattle.lock_model.specs.declared.plan.Side.TheVariants.{X, S}
use Rattle.lock_model.proofs.Lists.{times_waiting-insert, times_waiting-last, length-insert, length-last}
use Rattle.wait_objects.specs.declared.own.Own.{Ghosts}
use Rattle.wait_objects.specs.declared.object.Object.TheInside.{Inside as InObject}
use Rattle.wait_objects.specs.Seen.{Node, Contents, idle_contents}
use Rattle.wait_objects.specs.Changes.{added, with_lists, with_waiters, all_waiters, waits}
use Rattle.wait_objects.specs.Inside.{waiting as waiting_at, seen_contents, AllIdle, IsSound}

added-nobody : (r : Bool) (w : Waiting) → added r w [] ≡ w ∷ []
added-nobody true w = refl
added-nobody false w = refl

times-added : (t : ℕ) (r : Bool) (w : Waiting) (ws : List Waiting)
    → times_waiting t (added r w ws) ≡ one (eqb t w.thread) + times_waiting t ws
times-added t true w ws = times_waiting-insert t w ws
times-added t false w ws = times_waiting-last t w ws

length-added : (r : Bool) (w : Waiting) (ws : List Waiting) → length (added r w ws) ≡ suc (length ws)
length-added true w ws = length-insert w ws
length-added false w ws = length-last w ws

-- the lists with one more on a side
abbrev pub more : Bool → Waiting → Side → Lists → Lists
more r w side q = with_list side (added r w (list_of side q)) q

stands-more : (t : ℕ) (r : Bool) (w : Waiting) (side : Side) (q : Lists)
    → stands t (more r w side q) ≡ one (eqb t w.thread) + stands t q
stands-more t r w X q = omega (arith, times-added t r w q.exclusive)
stands-more t r w S q = omega (arith, times-added t r w q.shared)

waiting-more : (r : Bool) (w : Waiting) (side : Side) (q : Lists) → waiting (more r w side q) ≡ suc (waiting q)
waiting-more r w X q = omega (arith, length-added r w q.exclusive)
waiting-more r w S q = omega (arith, length-added r w q.shared)

-- who comes where it isn't yet stands there once
comes_once : (r : Bool) (w : Waiting) (side : Side) (q : Lists) → stands w.thread q ≡ 0 → ((t : ℕ) → stands t q ≤ 1)
    → (t : ℕ) → stands t (more r w side q) ≤ 1
comes_once r w side q none once t =
    let all = stands-more t r w side q in
    elim (cases_eq t w.thread) [
      | inl e ↦ let here : one (eqb t w.thread) ≡ 1 = ap one (eq-eqb t w.thread e) in
          let same : stands t q ≡ 0 = rw e none in omega arith
      | inr e ↦ let other : one (eqb t w.thread) ≡ 0 = ap one (ne_eqb t w.thread e) in let l = once t in omega arith
    ]

somebody : (xs ys : List Waiting) → xs ++ ys ≢ [] → 0 < length xs + length ys
somebody [] [] ne = absurd (ne refl)
somebody [] (y ∷ ys) ne = omega arith
somebody (x ∷ xs) ys ne = omega arith

nobody_in : (xs ys : List Waiting) → xs ++ ys ≡ [] → (xs ≡ []) × (ys ≡ [])
nobody_in [] ys e = (refl, e)
nobody_in (x ∷ xs) ys e = absurd cc

nobody_on : (side : Side) (q : Lists) → q.exclusive ++ q.shared ≡ [] → list_of side q ≡ []
nobody_on X q none = (nobody_in q.exclusive q.shared none).0
nobody_on S q none = (nobody_in q.exclusive q.shared none).1

-- the node w with the priority k: by way of a reference, x and then y
pub waiting_kept : (w x y : Node) (k : ℕ) → x ≡ w → y ≡ record x { place = record x.place { kept = k } }
    → waiting_at y.place ≡ record { thread = w.place.thread; kept = k }
waiting_kept w x y k e f = rw (f, e) refl

-- a first waiter
pub started : {E : Type 0} (r : Bool) (side : Side) (w v : Waiting) (a : InObject E) (q : Lists)
    → all_waiters (seen_contents a) ≡ [] → v ≡ w → q ≡ more r v side a.lists
    → seen_contents (record a { lists = q }) ≡ with_waiters side (w ∷ []) (seen_contents a)
started r side w v a q none same e = ap (λ z. with_lists z (seen_contents a)) (e ∙ ap (λ ws. with_list side ws a.lists)
    (ap (added r v) (nobody_on side a.lists none) ∙ added-nobody r v ∙ ap (λ u. u ∷ []) same))

-- a waiter more, whose object is o
pub joins : {E : Type 0} (kind : Ghosts E) (side : Side) (v : Waiting) (o : Contents E) (a : InObject E) (q : Lists)
    (fs : List (Contents E)) → all_waiters (seen_contents a) ≢ [] → waits v.thread (seen_contents a) ≡ false
    → q ≡ more kind.RANKED v side a.lists → fs ≡ o ∷ a.free → o ≡ idle_contents kind.home o.number → IsSound kind a
    → IsSound kind (record a { lists = q; free = fs })
joins kind side v o a q fs some absent e f idle s = record {
  once = subst (λ z. (t : ℕ) → stands t z ≤ 1) (sym e)
      (comes_once kind.RANKED v side a.lists (omega (arith, ltb-false 0 (stands v.thread a.lists) absent)) s.once);
  one_free_less = rw (e, f) (let was = s.one_free_less in let one = waiting-more kind.RANKED v side a.lists in
      let l = somebody a.lists.exclusive a.lists.shared some in omega arith);
  free_idle = subst (AllIdle kind.home) (sym f) (idle, s.free_idle);
}
