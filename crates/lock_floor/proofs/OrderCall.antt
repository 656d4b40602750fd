-- What the call that checks the order of a lock needs of its parts, and what it was told.
use Rattle.lock_floor.proofs.Names
use Names.{ℕ, Bool, false, List, [], length, map, Option, Some, None, refl, sym, ap, subst, eqb, eq-eqb, inl, inr}
use Names.{with_value, Vec, All, Global, Box, cases_Bool, All-nil, All-cons, All-head, All-tail, Me, rest, Allows, Book}
use Names.{Holds, hold_in, Held, ClassNo, Mode, Marked, OnlyLocksAreHeld, State, TakesItem, ClassGraph, after_take}
use Names.{RepresentsGraph, numbers_of, Orders, config_in, Description, Slot, Record, Cell, Turnstiles, SleepQueues}
use Names.{Graph, spot, latch_line, latch_word, home_at, graph_place, thread_in, FloorHolds, found, HasJust, Makes}
use Names.{MayMake, Knowledge, OfThread, seeing, has_just, found_first, IsOfKind, Takes, MayOrder, HasGraph, IsVerdict}
use Names.{settles, settled, Settles, ChecksOrder, IsTied, arith}
use Rattle.std.proofs.Common.{◌≡◌, ◌<◌, ◌∷◌, ◌∙◌}
use Rattle.witness_orders.specs.Graph as orders
use Rattle.lock_floor.proofs.Finding.{held_then}
use Rattle.lock_floor.proofs.May.{may_take}
use Rattle.lock_floor.proofs.OrderStep.{SettledGraph, settle_allowed}
use Rattle.lock_floor.proofs.Tied.{tied_on}

-- 1. Held locks, and their classes

-- what is true of each lock that is held is true of each of the list
pub all_held : (P : ℕ → Type 0) (hs : List Held) → ((l : ℕ) (mode : Mode) → hold_in hs l ≡ Holds mode → P l)
    → All (λ h. P h.l.0) hs
all_held P [] a = All-nil (λ (h : Held). P h.l.0)
all_held P (h ∷ hs) a = All-cons (λ (x : Held). P x.l.0) h hs (a h.l.0 h.mode first) (all_held P hs others)
  where
    first : hold_in (h ∷ hs) h.l.0 ≡ Holds h.mode
    first = rw (eq-eqb h.l.0 h.l.0 refl)

    others : (l : ℕ) (mode : Mode) → hold_in hs l ≡ Holds mode → P l
    others l mode e = elim (cases_Bool (eqb h.l.0 l)) [
      | inl i ↦ a l h.mode (rw i refl)
      | inr i ↦ a l mode (rw i e)
    ]

-- so of the classes that were written
each_class : (n : ℕ) (f : ℕ → ℕ) (cs : List ClassNo) (hs : List Held) → numbers_of cs ≡ map (λ h. f h.l.0) hs
    → All (λ h. f h.l.0 < n) hs → All (λ k. k.0 < n) cs
each_class n f [] hs e a = All-nil (λ (k : ClassNo). k.0 < n)
each_class n f (k ∷ ks) [] e a = absurd cc
each_class n f (k ∷ ks) (h ∷ hs) e a =
    let first : f h.l.0 ≡ k.0 = cc in
    let others : numbers_of ks ≡ map (λ x. f x.l.0) hs = cc in
    All-cons (λ (x : ClassNo). x.0 < n) k ks
    (subst (λ m. m < n) first (All-head (λ (x : Held). f x.l.0 < n) h hs a))
    (each_class n f ks hs others (All-tail (λ (x : Held). f x.l.0 < n) h hs a))

-- 2. Behind the taking of the graph

pub may_take_graph : (floor : Description) (l : ℕ) (v : Knowledge) → v.out ≡ [] → MayOrder floor l v
    → MayMake floor v (λ s. s.graph_with ≡ None) (TakesItem v.thread ClassGraph ∷ [])
may_take_graph floor l v empty may =
    may_take floor v ClassGraph may.runs empty may.no_round may.going (λ s f. tt)

module _ (floor : Description) (l : ℕ) (old mid : Knowledge) (empty : old.out ≡ []) (may : MayOrder floor l old)
    (taken : Takes floor ClassGraph (graph_place floor) old mid) where
  pub may_order_on : MayOrder floor l mid
  may_order_on = subst (MayOrder floor l) (sym taken.view) (assumption may)

  out_is : mid.out ≡ (graph_place floor, taken.value) ∷ []
  out_is = ap (λ (k : Knowledge). k.out) taken.view ∙ ap (λ os. (graph_place floor, taken.value) ∷ os) empty

  its_graph : (x : Slot) → IsOfKind ClassGraph x → (b : Box Orders Global) × (x ≡ Graph b)
  its_graph e is = grind arith

  graph_is : (b : Box Orders Global) × (taken.value ≡ Graph b)
  graph_is = its_graph taken.value taken.kind

  graph_out : mid.out ≡ (graph_place floor, Graph graph_is.0) ∷ []
  graph_out = out_is ∙ ap (λ x. (graph_place floor, x) ∷ []) graph_is.1

  abbrev m : Makes floor (TakesItem old.thread ClassGraph ∷ []) old mid
  m = taken.step

  -- it says what the columns of the state behind the taking say
  graph_says : RepresentsGraph (config_in floor) graph_is.0.value (after_take m.state old.thread ClassGraph).edges
  graph_says =
      let r = m.represents_behind in
      let n : State = after_take m.state old.thread ClassGraph in
      let just : HasJust floor (thread_in m.behind.views old.thread).out n old.thread =
      has_just floor n (latch_word m.behind.words) (home_at m.behind.homes) (λ t. (thread_in m.behind.views t).out)
      r.content old.thread r.latches r.shelves r.objects in
      let mine : HasJust floor mid.out n old.thread =
      subst (λ (k : Knowledge). HasJust floor k.out n old.thread) m.is just in
      (mine.each ClassGraph (graph_place floor) (Graph graph_is.0) refl
      (ap (found (graph_place floor)) graph_out ∙ found_first (graph_place floor) (Graph graph_is.0) [])).1

  pub has_graph : HasGraph floor mid
  unfolding OnlyLocksAreHeld
  has_graph = record {
    graph = graph_is.0;
    out = graph_out;
    classes = graph_says.classes;
    locks = λ k mode holds. m.sound.taken.only_locks_are_held old.thread k mode
        (held_then floor (TakesItem old.thread ClassGraph ∷ []) old mid m k
        ∙ sym (ap (λ (x : Knowledge). hold_in x.share.held k) taken.view) ∙ holds);
  }

  -- 3. The whole check

  module _ (against : Option ℕ) (new : Knowledge) (done : Settles floor l against mid new) where
    back : seeing new.seen (record (settled mid l against) { out = [] }) ≡ seeing new.seen (settled old l against)
    back =
        ap (λ (k : Knowledge). seeing new.seen (record (settled k l against) { out = [] })) taken.view
        ∙ (λ i. seeing new.seen (record (settled old l against) { out = sym empty i }))

-- 4. The check of a graph that is out, and its return

-- what the work on the graph tells
abbrev pub TellsVerdict : ℕ → List ClassNo → ClassNo → Option ℕ → Me Slot Knowledge → Me Slot Knowledge → Type 0
TellsVerdict j cs class against me me2 =
    (b : Box Orders Global) → me.1 ≡ (j, Graph b) ∷ rest me.1 → (graph : orders.Graph)
    × (me2.1 ≡ (j, Graph (with_value b graph)) ∷ rest me.1)
    × IsVerdict (numbers_of cs) class.0 against b.value graph

module _ (floor : Description) (l : ℕ) (me me2 : Me Slot Knowledge) (cs : List ClassNo) (class : ClassNo)
    (low : l < length floor.locks) (may : MayOrder floor l me.0) (has : HasGraph floor me.0) (out : me.1 ≡ me.0.out)
    (written : numbers_of cs ≡ map (λ h. (config_in floor).class h.l.0) me.0.share.held)
    (class_is : class.0 ≡ (config_in floor).class l) where
  abbrev j : ℕ
  j = graph_place floor

  carried : me.1 ≡ (j, Graph has.graph) ∷ rest me.1
  carried =
      let is : me.1 ≡ (j, Graph has.graph) ∷ [] = out ∙ has.out in
      is ∙ ap (λ os. (j, Graph has.graph) ∷ rest os) (sym is)

  pub learns_graph : (b : Box Orders Global) × (me.1 ≡ (j, Graph b) ∷ rest me.1)
      × All (λ k. k.0 < b.value.classes) cs × (class.0 < b.value.classes)
  learns_graph = (
    has.graph,
    carried,
    each_class has.graph.value.classes (config_in floor).class cs me.0.share.held written
        (all_held (λ k. (config_in floor).class k < has.graph.value.classes) me.0.share.held
        (λ k mode holds. has.classes k (has.locks k mode holds))),
    subst (λ n. n < has.graph.value.classes) (sym class_is) (has.classes l low),
  )

  module _ (against : Option ℕ) (view : me2.0 ≡ me.0)
      (told : TellsVerdict j cs class against me me2) where
    its : (graph : orders.Graph) × (me2.1 ≡ (j, Graph (with_value has.graph graph)) ∷ rest me.1)
        × IsVerdict (numbers_of cs) class.0 against has.graph.value graph
    its = told has.graph carried

    -- the same of the seat behind the work
    may2 : MayOrder floor l me2.0
    may2 = subst (MayOrder floor l) (sym view) may

    has2 : HasGraph floor me2.0
    has2 = record {
      graph = has.graph;
      out = ap (λ (k : Knowledge). k.out) view ∙ has.out;
      classes = has.classes;
      locks = λ k mode holds. has.locks k mode (ap (λ (x : Knowledge). hold_in x.share.held k) (sym view) ∙ holds);
    }

    worked : me2.1 ≡ (j, Graph (with_value has2.graph its.0)) ∷ []
    unfolding has2
    worked = its.1 ∙ ap (λ os. (j, Graph (with_value has.graph its.0)) ∷ rest os) (out ∙ has.out)

    verdict : IsVerdict (map (λ h. (config_in floor).class h.l.0) me2.0.share.held) ((config_in floor).class l) against
        has2.graph.value its.0
    unfolding has2
    verdict =
        subst (λ (z : List ℕ × ℕ). IsVerdict z.0 z.1 against has.graph.value its.0)
        (λ i. (
          (written ∙ ap (λ (k : Knowledge). map (λ h. (config_in floor).class h.l.0) k.share.held) (sym view)) i,
          class_is i,
        )) its.2

    pub call_allowed : me.0.role ≡ OfThread → (slots id : ℕ)
        → Allows (FloorHolds floor) slots id me2 (spot (latch_line j)) (λ n. 0)
        (λ n. SettledGraph floor l against me2 0)
    call_allowed was slots id =
        settle_allowed floor me2 (ap (λ (k : Knowledge). k.role) view ∙ was) l low may2 has2 its.0 worked against
        verdict slots id

    module _ (behind : Me Slot Knowledge) (settles_so : SettledGraph floor l against me2 0 behind) where
      pub call_view : behind.0 ≡ seeing behind.0.seen (record (settled me.0 l against) { out = [] })
      call_view = ap (λ (k : Me Slot Knowledge). k.0) settles_so.0
          ∙ ap (λ (k : Knowledge). seeing behind.0.seen (record (settled k l against) { out = [] })) view

      pub call_tied : (who : ℕ) (locks : Vec Held) (marked : Marked) (book : Book) (fin : Bool) → fin ≡ false
          → IsTied who locks marked book fin me → IsTied who locks marked book fin behind
      call_tied who locks marked book fin going h =
          let v = call_view in
          tied_on who locks marked book fin me behind (record (settled me.0 l against) { out = [] }) going h v
          (ap (λ (k : Me Slot Knowledge). k.1) settles_so.0 ∙ ap rest worked ∙ sym (ap (λ w. w.out) v)) refl refl
          (same_marked against)
        where
          same_marked : (o : Option ℕ) → (settled me.0 l o).share.doing.marked ≡ me.0.share.doing.marked
          same_marked None = refl
          same_marked (Some k) = refl
