-- The class graph goes home with the lock of a blocking call admitted, or refused. The work on the graph is done first,
-- where nobody else can see it.
use Rattle.lock_floor.proofs.Names
use Names.{ℕ, List, [], length, map, reverse, Option, Some, None, refl, sym, ap, subst, with_value, reverse-append}
use Names.{reverse-reverse, map-append, Me, gives, rest, Allows, put_same, put_other, Config, IsAdmitted}
use Names.{IsFirstToForbid, edges_behind, same_admitted, same_first, Held, State, HeldLock, OrderRefused, gained_order}
use Names.{put, Step, Admits, Refuses, HasItem, ChecksOutsideRounds, Item, TurnstileChain, SleepChain, RecordOf, CellOf}
use Names.{ClassGraph, is_taking_back, IsFreeToTake, held_classes, classes_held, after_admit, after_refuse}
use Names.{RepresentsGraph, graph_behind, config_in, Description, Slot, Graph, IsAllowed, spot, latch_line, latch_word}
use Names.{graph_place, Board, Objects, IsPosed, RepresentsObjects, RepresentsShare, objects_in, FloorHolds, columns_of}
use Names.{share_in, found, Fits, Makes, Knowledge, OfThread, seeing, Finds, Steps, allows, give_made_with, OwnSteps}
use Names.{SaySame, one_own, found_first, MayOrder, HasGraph, IsVerdict, settles, settled, arith}
use Rattle.std.proofs.Common.{◌≡◌, ◌≢◌, ◌<◌, ◌∷◌, ◌++◌, ◌∙◌}
use Rattle.witness_orders.specs.Graph as orders
use Rattle.lock_floor.proofs.Changing.{OnlyChanges, object_changed}
use Rattle.lock_floor.proofs.May.{column, doing_it, holds_it, own_log, goes_on}

-- 1. The classes of held locks

reverse-map : {A B : Type 0} (f : A → B) (xs : List A) → reverse (map f xs) ≡ map f (reverse xs)
reverse-map f [] = refl
reverse-map f (x ∷ xs) =
    reverse-append (f x ∷ []) (map f xs) ∙ ap (λ ys. ys ++ f x ∷ []) (reverse-map f xs)
    ∙ sym (ap (map f) (reverse-append (x ∷ []) xs) ∙ map-append f (reverse xs) (x ∷ []))

-- in order of acquisition
classes_in_order : (f : ℕ → ℕ) (hs : List Held)
    → map (λ h. f h.l.0) hs ≡ reverse (map (λ h. f h.lock) (gained_order hs))
classes_in_order f hs =
    let g : HeldLock → ℕ = λ h. f h.lock in
    let listed : Held → HeldLock = λ x. record { lock = x.l.0; by_try = x.by_try } in
    sym (reverse-map g (gained_order hs) ∙ ap (map g) (reverse-reverse (map listed hs)) ∙ go hs)
  where
    go : (xs : List Held)
        → map (λ (h : HeldLock). f h.lock) (map (λ (x : Held). record { lock = x.l.0; by_try = x.by_try }) xs)
        ≡ map (λ (h : Held). f h.l.0) xs
    go [] = refl
    go (x ∷ xs) = ap (λ ys. f x.l.0 ∷ ys) (go xs)

-- 2. The graph alone changes

graph_changes : (floor : Description) (x : Objects) (es : List (ℕ × ℕ))
    → OnlyChanges floor x (record x { edges = es }) ClassGraph
graph_changes floor x es = grind arith

-- 3. The shares behind it

module _ (s : State) (v : Knowledge) (fit : RepresentsShare v.share s v.thread) (l : ℕ) where
  abbrev its : columns_of v.share ≡ share_in s v.thread
  its = fit.columns

  admit_own : (c : Config) → RepresentsShare (settled v l None).share (after_admit c s v.thread l) v.thread
  unfolding after_admit
  admit_own c = record {
    columns = λ i. record (its i) {
      doing = record (its i).doing {
        wanted = sym (put_same s.wanted v.thread (Some l)) i;
        taking = sym (put_same s.taking v.thread (Some l)) i;
      };
    };
    held_once = fit.held_once;
  }

  refuse_own : (k : ℕ) → RepresentsShare (settled v l (Some k)).share (after_refuse s v.thread l k) v.thread
  unfolding after_refuse
  refuse_own k = record {
    columns = λ i. record (its i) {
      doing = record (its i).doing { noted = sym (put_same s.noted v.thread (Some (OrderRefused l k))) i };
    };
    held_once = fit.held_once;
  }

admit_others : (c : Config) (s : State) (t l u : ℕ) → u ≢ t → share_in (after_admit c s t l) u ≡ share_in s u
unfolding after_admit
admit_others c s t l u other =
    let ne : t ≢ u = λ q. other (sym q) in
    λ i. record (share_in s u) {
      doing = record (share_in s u).doing {
        wanted = put_other s.wanted t (Some l) u ne i;
        taking = put_other s.taking t (Some l) u ne i;
      };
    }

refuse_others : (s : State) (t l k u : ℕ) → u ≢ t → share_in (after_refuse s t l k) u ≡ share_in s u
unfolding after_refuse
refuse_others s t l k u other = λ i. record (share_in s u) {
  doing = record (share_in s u).doing {
    noted = put_other s.noted t (Some (OrderRefused l k)) u (λ q. other (sym q))
        i;
  };
}

-- 4. The step

-- what it tells: the graph is home so, and nothing is out
abbrev pub SettledGraph : Description → ℕ → Option ℕ → Me Slot Knowledge → ℕ → Me Slot Knowledge → Type 0
SettledGraph floor l against me found behind =
    (behind ≡ (seeing behind.0.seen (record (settled me.0 l against) { out = [] }), rest me.1))
    × Makes floor (settles me.0.thread l against ∷ []) me.0 behind.0

module _ (floor : Description) (me : Me Slot Knowledge) (was : me.0.role ≡ OfThread) (l : ℕ)
    (low : l < length floor.locks) (may : MayOrder floor l me.0) (has : HasGraph floor me.0) (new : orders.Graph)
    (worked : me.1 ≡ (graph_place floor, Graph (with_value has.graph new)) ∷ []) where
  abbrev c : Config
  c = config_in floor

  abbrev v : Knowledge
  v = me.0

  abbrev t : ℕ
  t = v.thread

  abbrev j : ℕ
  j = graph_place floor

  abbrev its_classes : List ℕ
  its_classes = map (λ h. c.class h.l.0) v.share.held

  abbrev Verdict : Option ℕ → Type 0
  Verdict against = IsVerdict its_classes (c.class l) against has.graph.value new

  module _ (s : State) (f : Fits floor v s) where
    same_classes : its_classes ≡ classes_held c s t
    same_classes = classes_in_order c.class v.share.held ∙ ap (held_classes c) (column floor v s f (λ x. x.held_locks))

    graph_now : HasItem s t ClassGraph × RepresentsGraph c has.graph.value s.edges
    graph_now = f.out.each ClassGraph j (Graph has.graph) refl
        (ap (found j) has.out ∙ found_first j (Graph has.graph) [])

    free : IsFreeToTake c s t l
    free = record {
      thread = f.thread;
      lock = low;
      running = subst (λ p. IsPosed p (s.wait t) (s.blocked_on t)) may.runs f.pose;
      wants = doing_it floor v s f (λ d. d.wanted) ∙ may.wants_nothing;
      takes = doing_it floor v s f (λ d. d.taking) ∙ may.takes_nothing;
      unnoted = doing_it floor v s f (λ d. d.noted) ∙ may.unnoted;
      awake = ap is_taking_back (sym (column floor v s f (λ x. x.log))) ∙ may.no_wait;
      sections = λ k mode holds. own_log floor v s f k ∙ may.sections k ∙ sym (holds_it floor v s f k) ∙ holds;
    }

    outside : ChecksOutsideRounds s t l
    outside = record {
      no_round = doing_it floor v s f (λ d. d.round) ∙ may.no_round;
      blocks = λ look e.
          let m = may.missed look (sym (doing_it floor v s f (λ d. d.last_look)) ∙ e) in
          (m.0, sym (column floor v s f (λ x. x.held_locks)) ∙ ap gained_order m.1);
    }

    may_settle : (against : Option ℕ) → Verdict against → IsAllowed floor s (settles t l against)
    may_settle None a = record {
      fits = record {
        may = record {
          free = free;
          admitted = subst (λ ks. IsAdmitted s.edges ks (c.class l)) same_classes
              (same_admitted has.graph.value.edges s.edges graph_now.1.edges its_classes (c.class l) a.0);
        };
        has_out = graph_now.0;
        has_seen = outside;
        asks_of_thread = goes_on floor v s f may.runs may.going;
      };
      keeps_order = tt;
      keeps_count = tt;
    }
    may_settle (Some k) a = record {
      fits = record {
        may = record {
          free = free;
          refused = subst (λ ks. IsFirstToForbid s.edges ks (c.class l) k) same_classes
              (same_first has.graph.value.edges s.edges graph_now.1.edges its_classes (c.class l) k a.0);
        };
        has_out = graph_now.0;
        has_seen = outside;
        asks_of_thread = goes_on floor v s f may.runs may.going;
      };
      keeps_order = tt;
      keeps_count = tt;
    }

    -- what the graph says behind it
    learnt : Verdict None → RepresentsGraph c new (edges_behind s.edges (classes_held c s t) (c.class l))
    learnt a = subst (λ ks. RepresentsGraph c new (edges_behind s.edges ks (c.class l))) same_classes
        (graph_behind c has.graph.value new s.edges graph_now.1 its_classes (c.class l) a.1 a.2)

    unlearnt : (k : ℕ) → Verdict (Some k) → RepresentsGraph c new s.edges
    unlearnt k a = subst (λ g. RepresentsGraph c g s.edges) (sym a.1) graph_now.1

  settle_step : (against : Option ℕ) → Verdict against → (b : Board) (h : Finds floor v b)
      → Steps floor me (spot (latch_line j)) (latch_word b.words j) 0 (λ found. SettledGraph floor l against me 0) b
  unfolding after_admit after_refuse
  settle_step None a b h =
      let s : State = h.state in
      let n : State = after_admit c s t l in
      let step : Step = Admits t l in
      let w : Knowledge = seeing (step ∷ h.past) (record (settled v l None) { out = [] }) in
      let own : OwnSteps v w h.past (step ∷ []) s n = record {
        role = was;
        seen = refl;
        makers = one_own t step refl;
        seat = record { thread = refl; share = admit_own s v h.fits.share l c };
        others = λ u ne. admit_others c s t l u ne;
        pose = h.fits.pose;
        other_poses = λ u ne p k. k;
      } in
      let y : Slot = Graph (with_value has.graph new) in
      let objects : RepresentsObjects floor (put h.represents.content j y) (objects_in n) =
      object_changed floor h.represents.content (objects_in s) (objects_in n) ClassGraph j y refl
      (graph_changes floor (objects_in s) n.edges) (learnt s h.fits a) h.represents.objects in
      let made = give_made_with floor (step ∷ []) b v w h was (may_settle s h.fits None a, tt) own me.1 ClassGraph j
      (Graph has.graph) y [] [] refl worked has.out refl refl refl refl objects in
      (w, gives, tt, made.0, (refl, made.1))
  settle_step (Some k) a b h =
      let s : State = h.state in
      let n : State = after_refuse s t l k in
      let step : Step = Refuses t l k in
      let w : Knowledge = seeing (step ∷ h.past) (record (settled v l (Some k)) { out = [] }) in
      let own : OwnSteps v w h.past (step ∷ []) s n = record {
        role = was;
        seen = refl;
        makers = one_own t step refl;
        seat = record { thread = refl; share = refuse_own s v h.fits.share l k };
        others = λ u ne. refuse_others s t l k u ne;
        pose = h.fits.pose;
        other_poses = λ u ne p z. z;
      } in
      let y : Slot = Graph (with_value has.graph new) in
      let objects : RepresentsObjects floor (put h.represents.content j y) (objects_in n) =
      object_changed floor h.represents.content (objects_in s) (objects_in n) ClassGraph j y refl
      (graph_changes floor (objects_in s) s.edges) (unlearnt s h.fits k a) h.represents.objects in
      let made = give_made_with floor (step ∷ []) b v w h was (may_settle s h.fits (Some k) a, tt) own me.1 ClassGraph j
      (Graph has.graph) y [] [] refl worked has.out refl refl refl refl objects in
      (w, gives, tt, made.0, (refl, made.1))

  pub settle_allowed : (against : Option ℕ) → Verdict against → (slots id : ℕ)
      → Allows (FloorHolds floor) slots id me (spot (latch_line j)) (λ n. 0) (λ n. SettledGraph floor l against me 0)
  settle_allowed against a slots id =
      allows floor slots id me (spot (latch_line j)) (λ n. 0) (λ n. SettledGraph floor l against me 0) was
      (λ b h small. settle_step against a b h)
