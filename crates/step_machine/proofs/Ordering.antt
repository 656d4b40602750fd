-- A lock is admitted to a thread behind those that it holds: the graph has their edges, and the thread has the lock to
-- gain. Or it is refused, of which no object tells before that is noted.
use Rattle.step_machine.proofs.Names
use Names.{ℕ, true, List, slice_get, Some, is_some, refl, sym, ap, subst, with_item, Config, HaveSameEdges, IsAdmitted}
use Names.{edges_behind, same_admitted, same_back, State, MayAdmit, classes_held, after_admit, after_refuse, ClassNo}
use Names.{put_same, put_other, Graph, RepresentsGraph, numbers_of, graph_behind, Machine, Thread, Represents}
use Names.{thread_in, AreClasses}
use Rattle.std.proofs.Common.{◌≡◌}
use Rattle.step_machine.proofs.Kit.{OthersStay, thread_changed, threads_stay, shown_by}

-- 1. The graph

module _ {c : Config} {graph : Graph} {s : State} {t l : ℕ} {held : List ClassNo} {class : ClassNo}
    (h : RepresentsGraph c graph s.edges) (same : AreClasses c held class s t l) where
  -- what is admitted by the column is so by the graph,
  pub admitted_in_graph : IsAdmitted s.edges (classes_held c s t) (c.class l)
      → IsAdmitted graph.edges (numbers_of held) class.0
  admitted_in_graph a =
      rw (same.held_are, same.class_is)
      (same_admitted s.edges graph.edges (same_back graph.edges s.edges h.edges) (classes_held c s t) (c.class l) a)

  -- and the graph behind it shows the column behind it
  pub orders_behind : {behind : Graph} → behind.classes ≡ graph.classes
      → HaveSameEdges behind.edges (edges_behind graph.edges (numbers_of held) class.0)
      → RepresentsGraph c behind (edges_behind s.edges (classes_held c s t) (c.class l))
  orders_behind {behind} classes edges =
      subst (λ (z : List ℕ × ℕ). RepresentsGraph c behind (edges_behind s.edges z.0 z.1))
      (λ i. (same.held_are i, same.class_is i))
      (graph_behind c graph behind s.edges h (numbers_of held) class.0 classes edges)

-- 2. The thread

-- the thread with a lock to gain
abbrev pub wanting : Thread → Thread
wanting th = record th { wants = true }

others : (c : Config) (s : State) (t l : ℕ) → OthersStay s (after_admit c s t l) t
unfolding after_admit
others c s t l u n =
    λ i. record (thread_in s u) { wants = is_some (put_other s.wanted t (Some l) u (λ e. n (sym e)) i) }

pub admission_shown : {m : Machine} {c : Config} {s : State} {t l : ℕ} {graph : Graph} (th : Thread) → Represents c m s
    → MayAdmit c s t l → slice_get m.threads.items t ≡ Some th
    → RepresentsGraph c graph (edges_behind s.edges (classes_held c s t) (c.class l))
    → Represents c (record m { orders = graph; threads = with_item m.threads t (wanting th) }) (after_admit c s t l)
unfolding after_admit
admission_shown {c = c} {s = s} {t = t} {l = l} th h g at orders =
    let old = h.threads.thread t th at in
    record {
      within = h.within;
      words = h.words;
      queues = h.queues;
      sleepers = h.sleepers;
      threads = thread_changed (after_admit c s t l) (wanting th) h.threads g.free.thread
          (record {
            columns = λ i. record (old.columns i) { wants = sym (ap is_some (put_same s.wanted t (Some l))) i };
            one_loan_each = old.one_loan_each;
            held = old.held;
            marked = old.marked;
          })
          (others c s t l);
      history = h.history;
      tables = h.tables;
      orders = orders;
    }

-- 3. A refusal

pub refusal_shown : {m : Machine} {c : Config} {s : State} (t l k : ℕ) → Represents c m s
    → Represents c m (after_refuse s t l k)
unfolding after_refuse
refusal_shown {s = s} t l k h = shown_by (after_refuse s t l k) h refl refl h.words h.queues h.sleepers
    (threads_stay (after_refuse s t l k) h.threads (λ u. refl))
