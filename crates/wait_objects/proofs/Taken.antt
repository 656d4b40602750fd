-- What is left of an object's lists where some waiters go, and who of these gets an object.
use Rattle.std.proofs.Common.{◌≡◌, ◌≢◌, ℕ, zero, suc, ◌+◌, ◌-◌, ◌≤◌, ◌<◌, ◌↔◌, true, false, List, [], ◌∷◌, ◌++◌, None, Some, IfSome, option_map, map, length, drop, refl, sym, ap, ◌∙◌, subst, arith, length-append, length-drop}
use Rattle.std.specs.List.{drop-map}
use Rattle.std.proofs.lemmas.List.{length-map}
use Rattle.std.specs.declared.option.Option.{Option}
use Rattle.std.specs.declared.boxed.Box.{Box}
use Rattle.lock_model.specs.Queues.{Waiter as Waiting, Lists, list_of, with_list, times_waiting, stands, waiting, handed_out, one_or_none}
use Rattle.lock_model.specs.declared.plan.Side.{Side}
use Rattle.lock_model.specs.declared.plan.Side.TheVariants.{X, S}
use Rattle.lock_model.proofs.Lists.{times-taken, length-taken, times-entry, length-entry}
use Rattle.wait_objects.specs.declared.which.Which.{Which}
use Rattle.wait_objects.specs.declared.which.Which.TheVariants.{Best, All, Thread}
use Rattle.wait_objects.specs.Lists.{place, LastHasNone, AllButLastHold}
use Rattle.wait_objects.specs.Changes.{picked, unpicked, woken, left}
use Rattle.wait_objects.specs.declared.own.Own.{Ghosts}
use Rattle.wait_objects.specs.declared.object.Object.TheInside.{Inside as InObject}
use Rattle.wait_objects.specs.Seen.{Place, Node, Contents, IsEmpty}
use Rattle.wait_objects.specs.Linked.{linked_places}
use Rattle.wait_objects.specs.Inside.{waiting as waiting_at, seen_contents, AllIdle, IsSound}

times-picked : (t : ℕ) (which : Which) (ws : List Waiting)
    → times_waiting t (picked which ws) + times_waiting t (unpicked which ws) ≡ times_waiting t ws
times-picked t Best ws = times-taken t false ws
times-picked t All ws = times-taken t true ws
times-picked t (Thread u) ws = times-entry t u.0 ws

length-picked : (which : Which) (ws : List Waiting) → length (picked which ws) + length (unpicked which ws) ≡ length ws
length-picked Best ws = length-taken false ws
length-picked All ws = length-taken true ws
length-picked (Thread u) ws = length-entry u.0 ws

-- the lists without those who go
abbrev pub less : Which → Side → Lists → Lists
less which side q = with_list side (unpicked which (list_of side q)) q

pub stays_once : (which : Which) (side : Side) (q : Lists) → ((t : ℕ) → stands t q ≤ 1) → (t : ℕ)
    → stands t (less which side q) ≤ 1
stays_once which X q once t = let k = times-picked t which q.exclusive in let l = once t in omega arith
stays_once which S q once t = let k = times-picked t which q.shared in let l = once t in omega arith

pub waiting-less : (which : Which) (side : Side) (q : Lists)
    → length (picked which (list_of side q)) + waiting (less which side q) ≡ waiting q
waiting-less which X q = let k = length-picked which q.exclusive in omega arith
waiting-less which S q = let k = length-picked which q.shared in omega arith

-- at most one node, in no list
pub one_taken : {Z : Type 0} (o : Option (Box Node Z)) → IfSome o (λ b. IsEmpty b.value)
    → map waiting_at (linked_places o) ≡ one_or_none (option_map (λ b. waiting_at b.value.place) o)
one_taken None e = refl
one_taken (Some b) e = rw e.alone refl

-- the first free objects go to waiters
abbrev pub places : List Waiting → List ℕ → List Place
places ws ns = map place (handed_out ws ns None)

others_hold : (ws : List Waiting) (ns : List ℕ) → length ws ≤ length ns + 1 → AllButLastHold (places ws ns)
others_hold [] ns h = tt
others_hold (w ∷ []) [] h = tt
others_hold (w ∷ []) (n ∷ ns) h = tt
others_hold (w ∷ v ∷ ws) [] h = absurd (omega arith)
others_hold (w ∷ v ∷ ws) (n ∷ []) h = (refl, others_hold (v ∷ ws) [] (omega arith))
others_hold (w ∷ v ∷ ws) (n ∷ m ∷ ns) h = (refl, others_hold (v ∷ ws) (m ∷ ns) (omega arith))

last_has_none : (w : Waiting) (ws : List Waiting) (ns : List ℕ) → length ns ≡ length ws
    → LastHasNone (places (w ∷ ws) ns)
last_has_none w [] [] h = refl
last_has_none w [] (n ∷ ns) h = absurd (omega arith)
last_has_none w (v ∷ ws) [] h = absurd (omega arith)
last_has_none w (v ∷ ws) (n ∷ []) h = last_has_none v ws [] (omega arith)
last_has_none w (v ∷ ws) (n ∷ m ∷ ns) h = last_has_none v ws (m ∷ ns) (omega arith)

none_is_last : (ws : List Waiting) (ns : List ℕ) → LastHasNone (places ws ns) → length ns < length ws
none_is_last [] ns h = absurd h
none_is_last (w ∷ []) [] h = omega arith
none_is_last (w ∷ []) (n ∷ ns) h = cc
none_is_last (w ∷ v ∷ ws) [] h = omega arith
none_is_last (w ∷ v ∷ ws) (n ∷ []) h = omega arith
none_is_last (w ∷ v ∷ ws) (n ∷ m ∷ ns) h = let more = none_is_last (v ∷ ws) (m ∷ ns) h in omega arith

nobody : (xs ys : List Waiting) → length xs + length ys ≡ 0 → xs ++ ys ≡ []
nobody [] [] h = refl
nobody [] (y ∷ ys) h = absurd (omega arith)
nobody (x ∷ xs) ys h = absurd (omega arith)

pub some_places : (ws : List Waiting) (ns : List ℕ) → ws ≢ [] → places ws ns ≢ []
some_places [] ns ne = absurd (ne refl)
some_places (w ∷ ws) [] ne = λ e. cc
some_places (w ∷ ws) (n ∷ ns) ne = λ e. cc

-- the last of those who go has none exactly where nobody stays
last_is : (ws : List Waiting) (ns : List ℕ) (q : Lists) → length ns ≡ (length ws + waiting q) - 1
    → LastHasNone (places ws ns) ↔ (places ws ns ≢ []) × (q.exclusive ++ q.shared ≡ [])
last_is [] ns q few = (λ h. absurd h, λ h. h.0 refl)
last_is (w ∷ ws) ns q few = (
  λ h. (
    some_places (w ∷ ws) ns (λ e. cc),
    nobody q.exclusive q.shared (let l = none_is_last (w ∷ ws) ns h in omega arith),
  ),
  λ h. last_has_none w ws ns (let none = ap length h.1 in let both = length-append q.exclusive q.shared in omega arith),
)

-- nodes that are taken off: as many free objects go to them

rest_idle : {E : Type 0} (home : E) (n : ℕ) (cs : List (Contents E)) → AllIdle home cs → AllIdle home (drop n cs)
rest_idle home zero cs h = h
rest_idle home (suc n) [] h = tt
rest_idle home (suc n) (c ∷ cs) h = rest_idle home n cs h.1

module _ {E : Type 0} (kind : Ghosts E) (which : Which) (side : Side) (a : InObject E) (nodes : List Place) (q : Lists)
    (fs : List (Contents E)) (e : map waiting_at nodes ≡ picked which (list_of side a.lists))
    (f : q ≡ less which side a.lists) (g : fs ≡ drop (length nodes) a.free) where
  many : length nodes ≡ length (picked which (list_of side a.lists))
  many = sym (length-map nodes waiting_at) ∙ ap length e

  all : length (picked which (list_of side a.lists)) + waiting q ≡ waiting a.lists
  all = rw f (waiting-less which side a.lists)

  pub goes : IsSound kind a → IsSound kind (record a { lists = q; free = fs })
  goes s = record {
    once = subst (λ z. (t : ℕ) → stands t z ≤ 1) (sym f) (stays_once which side a.lists s.once);
    one_free_less = rw g (let fewer = length-drop (length nodes) a.free in let was = s.one_free_less in let m = many in
        let n = all in omega arith);
    free_idle = subst (AllIdle kind.home) (sym g) (rest_idle kind.home (length nodes) a.free s.free_idle);
  }

  pub contents_left : seen_contents (record a { lists = q; free = fs }) ≡ left which side (seen_contents a)
  contents_left =
      rw (f, g, many, drop-map (λ (c : Contents E). c.number) (length (picked which (list_of side a.lists))) a.free)
      refl

  free_less : IsSound kind a → length (map (λ (c : Contents E). c.number) a.free)
      ≡ (length (picked which (list_of side a.lists)) + waiting q) - 1
  free_less s = length-map a.free (λ c. c.number) ∙ s.one_free_less ∙ ap (λ n. n - 1) (sym all)

  pub others_taken : IsSound kind a → AllButLastHold (woken which side (seen_contents a))
  others_taken s = others_hold (picked which (list_of side a.lists)) (map (λ (c : Contents E). c.number) a.free)
      (let few = free_less s in omega arith)

  pub last_taken : IsSound kind a → LastHasNone (woken which side (seen_contents a))
      ↔ (woken which side (seen_contents a) ≢ []) × (q.exclusive ++ q.shared ≡ [])
  last_taken s =
      last_is (picked which (list_of side a.lists)) (map (λ (c : Contents E). c.number) a.free) q (free_less s)
