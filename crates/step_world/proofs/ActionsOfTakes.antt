-- The actions of the first turn of a take: its lock is admitted, and taken in the run behind that; or it is
-- refused.
use Rattle.step_world.proofs.Names
use Names.{ℕ, Bool, true, false, cond, List, [], length, map, reverse, slice_get, eqb, eq-eqb, Option, Some, None}
use Names.{is_some, IsSomeAnd, refl, sym, ap, subst, inl, inr, All-nil, All-cons, All-head, All-tail, unwrap_or}
use Names.{cases_Bool, reverse-append, reverse-reverse, map-append, Config, Holds, most_held, IsProper, hold_in}
use Names.{IsAdmitted, IsFirstToForbid, config_of, lock_class, lock_queue, admits, is_plain, found_none, found_first}
use Names.{same_admitted, same_first, State, HeldLock, gained_order, Gains, Claims, Admits, Stamps, MayAll, after}
use Names.{after_all, after_stamp, MayAdmit, classes_held, after_admit, after_refuse, Run, Action, does, ends, blocks}
use Names.{takes, turn_of, run_after, run_behind, held_now, ClassNo, LockNo, Event, Held, Mode, Take, Plan, Turn, Did}
use Names.{Idle, Ended, IsAtOperation, BeginsTake, admitted, first_against, gain_passes, held_few, fit, is_awake, anew}
use Names.{at_take, admitted_wants, makes_operation, numbers_of, Machine, Thread, Made, Does, May, MakesAllWhere}
use Names.{progress, KeepsProgress, KeepsBooks, AreClasses, refuses, IsRunOf, IsAside, IsMade, IsTake, IsAdmission}
use Names.{KeepsWhereIdle, answer_of, action_of, IsAsFar}
use Rattle.std.proofs.Common.{◌≡◌, ◌⊎◌, ◌<◌, ◌≤◌, ◌∷◌, ◌++◌, ◌∙◌}
use Rattle.std.specs.List.{All}
use Rattle.lock_model.specs.declared.event.Event.TheVariants as event
use Rattle.lock_model.specs.declared.turn.StepKind.TheVariants as kinds
use Rattle.run_laws.proofs.TurnsOfOrders as orders
use Rattle.step_machine.specs.Represents.{Represents}
use Rattle.step_world.proofs.AsFar.{so_is, still_as_far, cut_behind, waits_behind, behind_cut}
use Rattle.step_world.proofs.Ends.{aside_is, are_locks}
use Rattle.step_world.proofs.Turning.{SameRoom, of_books, same_room, same_keys, IsTurning, made_all, may_by, has_room, Begins, begins, made}
use Rattle.step_world.proofs.ActionsOfLocks.{is_take}

-- 1. The classes of held locks

reverse-map : {A B : Type 0} (f : A → B) (xs : List A) → reverse (map f xs) ≡ map f (reverse xs)
reverse-map f [] = refl
reverse-map f (x ∷ xs) =
    reverse-append (f x ∷ []) (map f xs) ∙ ap (λ ys. ys ++ f x ∷ []) (reverse-map f xs)
    ∙ sym (ap (map f) (reverse-append (x ∷ []) xs) ∙ map-append f (reverse xs) (x ∷ []))

-- as a state lists the locks
abbrev listed : Held → HeldLock
listed x = record { lock = x.l.0; by_try = x.by_try }

in_order : (f : ℕ → ℕ) (hs : List Held) → reverse (map (λ h. f h.lock) (gained_order hs)) ≡ map (λ h. f h.l.0) hs
in_order f hs =
    let g : HeldLock → ℕ = λ h. f h.lock in
    reverse-map g (gained_order hs) ∙ ap (map g) (reverse-reverse (map listed hs)) ∙ go hs
  where
    go : (xs : List Held) → map (λ h. f h.lock) (map listed xs) ≡ map (λ h. f h.l.0) xs
    go [] = refl
    go (x ∷ xs) = ap (λ ys. f x.l.0 ∷ ys) (go xs)

-- what is true of each lock of a list is true of its items
each_lock : (n : ℕ) (f : ℕ → ℕ) (hs : List Held) → ((l : ℕ) (mode : Mode) → hold_in hs l ≡ Holds mode → f l < n)
    → All (λ k. k < n) (map (λ h. f h.l.0) hs)
each_lock n f [] a = All-nil (λ k. k < n)
each_lock n f (h ∷ hs) a =
    All-cons (λ k. k < n) (f h.l.0) (map (λ x. f x.l.0) hs) (a h.l.0 h.mode first) (each_lock n f hs rest)
  where
    first : hold_in (h ∷ hs) h.l.0 ≡ Holds h.mode
    first = rw (eq-eqb h.l.0 h.l.0 refl)

    rest : (l : ℕ) (mode : Mode) → hold_in hs l ≡ Holds mode → f l < n
    rest l mode e = elim (cases_Bool (eqb h.l.0 l)) [
      | inl i ↦ a l h.mode (rw i refl)
      | inr i ↦ a l mode (rw i e)
    ]

-- so of the classes that were written
pub each_class : (n : ℕ) (cs : List ClassNo) (ks : List ℕ) → numbers_of cs ≡ ks → All (λ k. k < n) ks
    → All (λ c. c.0 < n) cs
each_class n [] ks e a = All-nil (λ (c : ClassNo). c.0 < n)
each_class n (c ∷ cs) [] e a = absurd cc
each_class n (c ∷ cs) (k ∷ ks) e a =
    let first : k ≡ c.0 = cc in
    let rest : numbers_of cs ≡ ks = cc in
    All-cons (λ (c : ClassNo). c.0 < n) c cs (subst (λ j. j < n) first (All-head (λ j. j < n) k ks a))
    (each_class n cs ks rest (All-tail (λ j. j < n) k ks a))

module _ {plan : Plan} {m : Machine} {t : ℕ} {r : Run} (p : IsProper plan) (lt : t < length plan.threads)
    (h : IsRunOf plan m r) where
  abbrev c : Config
  c = config_of plan

  abbrev s : State
  s = r.state

  module _ {th : Thread} (is : slice_get m.threads.items t ≡ Some th) where
    held_is : th.held.items ≡ held_now plan r t
    held_is = (aside_is plan m r t th h lt is).held

    abbrev its_classes : List ℕ
    its_classes = map (λ h. lock_class plan h.l.0) th.held.items

    pub classes_are : its_classes ≡ classes_held c s t
    classes_are = sym (ap (λ (hs : List HeldLock). reverse (map (λ h. c.class h.lock) hs))
        (h.on_track.listed t ∙ ap gained_order (sym held_is)) ∙ in_order c.class th.held.items)

    pub classes_within : All (λ k. k < m.orders.classes) its_classes
    classes_within = each_lock m.orders.classes c.class th.held.items
        (λ l mode e. h.shows.shows.orders.classes l
        (are_locks plan m r t th p h lt is l mode (subst (λ (hs : List Held). hold_in hs l ≡ Holds mode) held_is e)))

    module _ (l : LockNo) (cs : List ClassNo) (class : ClassNo) (written : numbers_of cs ≡ its_classes)
        (its : class.0 ≡ lock_class plan l.0) where
      pub are_classes : AreClasses c cs class s t l.0
      are_classes = record { held_are = written ∙ classes_are; class_is = its }

      pub within : All (λ x. x.0 < m.orders.classes) cs
      within = each_class m.orders.classes cs its_classes written classes_within

      -- by the graph the lock is admitted,
      pub admitted_so : IsAdmitted m.orders.edges (numbers_of cs) class.0
          → IsAdmitted s.edges (classes_held c s t) (c.class l.0)
      admitted_so a = same_admitted m.orders.edges s.edges h.shows.shows.orders.edges (classes_held c s t) (c.class l.0)
          (subst (λ k. IsAdmitted m.orders.edges (classes_held c s t) k) its
          (subst (λ ks. IsAdmitted m.orders.edges ks class.0) (written ∙ classes_are) a))

      -- or refused
      pub refused_so : (k : ℕ) → IsFirstToForbid m.orders.edges (numbers_of cs) class.0 k
          → first_against plan r t l ≡ Some k
      refused_so k f = found_first s.edges (c.class l.0) (classes_held c s t) k
          (same_first m.orders.edges s.edges h.shows.shows.orders.edges (classes_held c s t) (c.class l.0) k
          (subst (λ j. IsFirstToForbid m.orders.edges (classes_held c s t) j k) its
          (subst (λ ks. IsFirstToForbid m.orders.edges ks class.0 k) (written ∙ classes_are) f)))

    -- where the thread has a lock to gain, it takes that; else it begins to take it
    module _ {l : LockNo} {mode : Mode} (at : IsAtOperation plan r t (Some (Take l mode))) where
      wants_is : th.wants ≡ is_some (s.wanted t)
      wants_is = ap (λ x. x.wants) (h.shows.shows.threads.thread t th is).columns

      pub goes_on_taking : th.wants ≡ true → IsTake plan r t l mode (event.Locked l mode)
      goes_on_taking e = go (s.wanted t) refl
        where
          go : (o : Option ℕ) → s.wanted t ≡ o → IsTake plan r t l mode (event.Locked l mode)
          go (Some k) f = is_take p lt h (anew l mode k f) at
          go None f = absurd (let z : true ≡ false = sym e ∙ wants_is ∙ ap is_some f in cc)

      pub begins_take : th.wants ≡ false → BeginsTake plan r t l mode
      begins_take e = record { at = at; wants = go (s.wanted t) refl }
        where
          go : (o : Option ℕ) → s.wanted t ≡ o → o ≡ None
          go None f = refl
          go (Some k) f = absurd (let z : false ≡ true = sym e ∙ wants_is ∙ ap is_some f in cc)

  module _ {l : LockNo} {mode : Mode} (b : BeginsTake plan r t l mode) where
    -- 2. Its lock is admitted, or not

    -- it holds no more than it may
    pub few_held : {th : Thread} → slice_get m.threads.items t ≡ Some th → length th.held.items ≤ most_held
    few_held is =
        let up = is_awake plan r t h.on_track (Take l mode) b.at refl in
        rw (held_is is, up.uncut, up.no_wait) (held_few plan p t (r.next_op t))

    lock_within : l.0 < length plan.locks
    lock_within =
        let f = fit plan r t p (Take l mode) b.at.next in
        (gain_passes plan l mode false _ _ f.passes f.behind).lock

    pub class_within : {class : ClassNo} → class.0 ≡ lock_class plan l.0 → class.0 < m.orders.classes
    class_within its = rw its (h.shows.shows.orders.classes l.0 lock_within)

    abbrev admits_it : Type 0
    admits_it = IsAdmitted s.edges (classes_held c s t) (c.class l.0)

    pub may_admit : admits_it → MayAdmit c s t l.0
    may_admit a = orders.may_admit plan r t l mode p h.on_track lt b a

    pub none_against : admits_it → first_against plan r t l ≡ None
    none_against a = found_none s.edges (c.class l.0) (classes_held c s t) a

    -- then the machine represents the run behind the admission
    pub admission : {n : Machine} → admits_it → Represents c n (after c s (Admits t l.0)) → KeepsProgress m n
        → KeepsBooks m n → IsAdmission plan r t l n
    unfolding after_admit
    admission {n} a shows kept books = record {
      none_against = none_against a;
      shows = record {
        shows = record {
          shows = shows;
          progress = λ u lu. subst (λ o. IsSomeAnd o (IsAsFar plan (admitted plan r t l) u)) (sym (kept u))
              (so_is (progress m u)
              (λ x. still_as_far (record { next_op = refl; held = refl; listed = refl; log = refl }))
              (h.shows.progress u lu));
          room = same_room m n plan (of_books books) h.shows.room;
          keys = same_keys m n plan (of_books books) h.shows.keys;
        };
        on_track = orders.admitted_on_track plan r t l mode p h.on_track lt b a;
      };
    }

-- 3. The turn goes on in that run

abbrev is_did : Turn → Bool
is_did (Did kind) = true
is_did Idle = false
is_did Ended = false

module _ {plan : Plan} {t : ℕ} {r : Run} {l : LockNo} {mode : Mode} (p : IsProper plan) (lt : t < length plan.threads)
    (b : BeginsTake plan r t l mode) where
  abbrev k : Config
  k = config_of plan

  abbrev then : Run
  then = admitted plan r t l

  abbrev noted : Event
  noted = event.Locked l mode

  pub takes_on : {m : Machine} → IsRunOf plan m then → IsTake plan then t l mode noted
  takes_on h = is_take p lt h (anew l mode l.0 (admitted_wants plan r t l)) (at_take plan r t l mode b.at)

  -- its turn is a take's,
  turn_then : turn_of plan then t ≡ takes k then t l mode noted
  turn_then = makes_operation plan then t (Take l mode) (at_take plan r t l mode b.at)
      ∙ rw (admitted_wants plan r t l) refl

  -- which does something
  moving : is_did (takes k then t l mode noted).answer ≡ true
  moving = go (admits (k.kind l.0) (then.state.word l.0) mode) (is_plain (k.kind l.0) (then.state.word l.0) mode)
    where
      gain : Action
      gain = ends then t kinds.Gain (Gains t l.0 mode false ∷ Stamps t noted ∷ [])

      claim : Action
      claim = ends then t kinds.Claim
          (Claims t l.0 (unwrap_or (then.state.head (lock_queue l.0)) t) false ∷ Stamps t noted ∷ [])

      go : (a b : Bool) → is_did (cond a (cond b gain claim) (blocks k then t l mode)).answer ≡ true
      go true true = refl
      go true false = refl
      go false b = refl

  not_idle : (answer : Turn) → answer ≡ (turn_of plan then t).answer → (answer ≡ Idle) ⊎ (answer ≡ Ended) → ⊥
  not_idle answer e i =
      let did : is_did answer ≡ true = ap is_did (e ∙ ap (λ (x : Action). x.answer) turn_then) ∙ moving in
      elim i [
        | inl x ↦ let z = sym did ∙ ap is_did x in cc
        | inr x ↦ let z = sym did ∙ ap is_did x in cc
      ]

  pub moves : {m : Machine} (result : Made) (old new : Machine) → IsMade plan then t m result
      → KeepsWhereIdle (answer_of result) old new
  moves result old new g i = absurd (not_idle (answer_of result) (sym (ap (λ (x : Action). x.answer) g.action)) i)

  -- and with the admission before its steps that of the first run
  module _ {m : Machine} (result : Made) (none : first_against plan r t l ≡ None)
      (g : IsMade plan then t m result) where
    action_is : turn_of plan r t ≡ action_of result (r.next_op t) (Admits t l.0 ∷ g.steps)
    unfolding after_admit
    action_is = makes_operation plan r t (Take l mode) b.at ∙ rw (b.wants, none) refl
        ∙ ap (λ (x : Action). record x { steps = Admits t l.0 ∷ x.steps }) (sym turn_then ∙ g.action)

    same_behind : run_behind plan then t ≡ run_behind plan r t
    unfolding run_behind after_admit
    same_behind = ap (run_after plan then t) g.action ∙ sym (ap (run_after plan r t) action_is)

    pub made_admitted : IsMade plan r t m result
    unfolding after_admit
    made_admitted = record {
      steps = Admits t l.0 ∷ g.steps;
      action = action_is;
      shows = g.shows;
      aside = subst (λ (n : Run). IsAside plan r n t m) same_behind (record {
        own = so_is (progress m t) (λ x f. assumption f) g.aside.own;
        others = λ u lu ne. so_is (progress m u) (λ x f. assumption f) (g.aside.others u lu ne);
        room = g.aside.room;
        keys = g.aside.keys;
      });
    }

-- 4. Or the lock is refused

module _ {plan : Plan} {m : Machine} {t : ℕ} {r : Run} {l : LockNo} {mode : Mode} (p : IsProper plan)
    (lt : t < length plan.threads) (h : IsRunOf plan m r) (b : BeginsTake plan r t l mode) (class : ClassNo)
    (against : first_against plan r t l ≡ Some class.0) where
  pub refused_action : Begins plan r t m (does kinds.Note (refuses t l class))
  refused_action = begins p lt h (makes_operation plan r t (Take l mode) b.at ∙ rw (b.wants, against) refl)

  refused_then : {n : Machine}
      → IsTurning plan r t n (after_all (config_of plan) r.state (refuses t l class)) refused_action.at []
      → IsMade plan r t n (Does (Did kinds.Note))
  unfolding after_stamp after_refuse
  refused_then now =
      let x = refused_action in
      let up = is_awake plan r t h.on_track (Take l mode) b.at refl in
      let behind : State = after_refuse r.state t l.0 class.0 in
      made (Does (Did kinds.Note)) x now (behind_cut (cut_behind (config_of plan) behind t (event.Reversed l class))
      (waits_behind (config_of plan) behind t (event.Reversed l class)) x.as_far.next_op
      (x.as_far.held ∙ rw (up.uncut, up.no_wait) refl ∙ sym (orders.has_all plan r t l mode p h.on_track lt b)))

  -- by a machine that is the same
  module _ {old : Machine} (same : old ≡ m) where
    pub may_refuse : May old (λ d s. MayAll d s (refuses t l class))
    may_refuse = subst (λ x. May x (λ d s. MayAll d s (refuses t l class))) (sym same)
        (may_by refused_action.turning _ refused_action.turning.may)

    pub room_for_refusal : 1 ≤ old.log.spare
    room_for_refusal = subst (λ (x : Machine). 1 ≤ x.log.spare) (sym same) (has_room p lt h b.at)

    pub refused : {n : Machine} → MakesAllWhere (λ d. Unit {0}) old n (refuses t l class) → KeepsProgress old n
        → SameRoom old n → IsMade plan r t n (Does (Did kinds.Note))
    refused {n} makes kept room =
        refused_then (made_all refused_action.turning tt
        (subst (λ (x : Machine). MakesAllWhere (λ d. Unit {0}) x n (refuses t l class)) same makes)
        (subst (λ (x : Machine). KeepsProgress x n) same kept) (subst (λ (x : Machine). SameRoom x n) same room))
