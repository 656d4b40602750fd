-- A thread's turn under way: while a machine has made the first steps of the turn's action, it represents the lawful
-- state behind them, and the next step may be made. So behind the last it represents the run behind the turn.
use Rattle.step_world.proofs.Names
use Names.{ℕ, Bool, true, false, cond, List, [], length, Option, Some, None, IsSomeAnd, option_map, refl, sym, ap}
use Names.{subst, inl, inr, arith, eq-eqb, vec_len, Contains, ne_eqb, cases_eq, length-reverse, config_of}
use Names.{operations_of, IsProper, next_at, Config, State, Lawful, Step, Looks, Stamps, MayMake, MayAll, after}
use Names.{after_all, Run, Action, turn_of, next_ops, run_after, run_behind, was_cut, nothing, does, Event, Op, Plan}
use Names.{StepKind, Turn, Did, IsAtOperation, put_same, keeps, all_keep, action_may, turned, entries_below}
use Names.{cut_entries_below, next_holds, left, IsAwake, Machine, Progress, progress, May, Makes, MakesWhere}
use Names.{MakesAllWhere, KeepsProgress, ChangesProgress, KeepsBooks, looked, Made, Does, RepresentsRun, IsAsFar}
use Names.{HasRoom, HasKeys, held_at, IsRunOf, IsTurn, IsBehind, IsMade, answer_of, next_of, action_of}
use Rattle.std.proofs.Common.{◌≡◌, ◌≢◌, ◌+◌, ◌<◌, ◌≤◌, ◌==◌, ◌∷◌, ◌∙◌}
use Rattle.step_machine.specs.Represents.{Represents}
use Rattle.step_world.proofs.AsFar.{that_is, is_such, so_is, still_as_far, behind_still, behind_made, others_still}

-- 1. Room

-- as many entries in all, and room for the same keys
pub record SameRoom (m n : Machine) : Type 0 where
  pub room : length n.log.entries + n.log.spare ≡ length m.log.entries + m.log.spare
  pub places : n.tables.places ≡ m.tables.places

pub of_books : {m n : Machine} → KeepsBooks m n → SameRoom m n
of_books k = record { room = ap (λ g. length g.entries + g.spare) k.log; places = ap (λ t. t.places) k.tables }

-- the thread goes on at the k-th of the operations, or behind the endtrys that stand there
pub record GoesOn (m n : Machine) (t : ℕ) (ops : List Op) (k : ℕ) : Type 0 where
  pub shows : (c : Config) (s : State) → Represents c m s → Represents c n s
  pub progress : ChangesProgress m n t (λ a. record a { next_op = next_at ops k })
  pub books : KeepsBooks m n

-- 2. What is read

-- the thread is there
pub is_there : (c : Config) (m : Machine) (s : State) (t : ℕ) → Represents c m s → t < c.threads → t < vec_len m.threads
is_there c m s t h lt = omega (arith, m.threads.ok.0, h.threads.threads, lt)

-- 3. What a step of a thread leaves

-- the state behind it, and of what no column tells, only the thread's progress is another
pub record StepMade (c : Config) (m n : Machine) (t : ℕ) (step : Step) (f : Progress → Progress) : Type 0 where
  pub makes : (s : State) → Represents c m s → Lawful c s → MayMake c s step → Represents c n (after c s step)
  pub moves : ChangesProgress m n t f
  pub room : SameRoom m n

-- by a method that makes no entry
pub of_method : {c : Config} {m n : Machine} {t : ℕ} {step : Step} (f : Progress → Progress) → Makes m n step
    → ChangesProgress m n t f → KeepsBooks m n → StepMade c m n t step f
of_method {c} f makes moves books = record { makes = makes c; moves = moves; room = of_books books }

-- it may change not at all,
unmoved : (m n : Machine) (t : ℕ) → KeepsProgress m n → ChangesProgress m n t (λ a. a)
unmoved m n t h u = grind arith

pub of_step : {c : Config} {m n : Machine} {t : ℕ} {step : Step} → Makes m n step → KeepsProgress m n → KeepsBooks m n
    → StepMade c m n t step (λ a. a)
of_step {c} {m} {n} {t} makes kept books = of_method (λ a. a) makes (unmoved m n t kept) books

-- also where the method asks something of the configuration and the state,
pub of_step_where : {c : Config} {m n : Machine} {t : ℕ} {step : Step} {premise : Config → State → Type 0}
    → ((s : State) → Represents c m s → Lawful c s → premise c s) → MakesWhere premise m n step → KeepsProgress m n
    → KeepsBooks m n → StepMade c m n t step (λ a. a)
of_step_where {c} {m} {n} {t} so makes kept books = record {
  makes = λ s shows lawful may. makes c s (so s shows lawful) shows lawful may;
  moves = unmoved m n t kept;
  room = of_books books;
}

-- as behind a look, of which no object tells,
pub of_look : {c : Config} {m : Machine} {t l : ℕ} {counts : Bool} → StepMade c m m t (Looks t l counts) (λ a. a)
of_look {m = m} {t = t} {l = l} {counts = b} =
    record {
      makes = λ s shows lawful may. looked t l b shows;
      moves = unmoved m m t (λ u. refl);
      room = record { room = refl; places = refl };
    }

-- or behind an entry
pub of_entry : {c : Config} {m n : Machine} {t : ℕ} {e : Event} → Makes m n (Stamps t e) → KeepsProgress m n
    → n.tables.places ≡ m.tables.places → length n.log.entries + n.log.spare ≡ length m.log.entries + m.log.spare
    → StepMade c m n t (Stamps t e) (λ a. a)
of_entry {c} {m} {n} {t} makes kept places room =
    record { makes = makes c; moves = unmoved m n t kept; room = record { room = room; places = places } }

-- 4. What no column tells while a turn is under way

-- the thread's progress is this, and the others are as far as they were
pub record IsUnderWay (plan : Plan) (r : Run) (t : ℕ) (m : Machine) (a : Progress) : Type 0 where
  pub own : progress m t ≡ Some a
  pub others : (u : ℕ) → u < length plan.threads → u ≢ t → IsSomeAnd (progress m u) (IsAsFar plan r u)
  pub room : HasRoom plan m
  pub keys : HasKeys plan m

module _ (m n : Machine) where
  own_moved : (t : ℕ) (f : Progress → Progress) {a : Progress} → ChangesProgress m n t f → progress m t ≡ Some a
      → progress n t ≡ Some (f a)
  own_moved t f moves own = (let at = moves t in rw (eq-eqb t t refl) at at) ∙ ap (option_map f) own

  other_moved : (t : ℕ) (f : Progress → Progress) → ChangesProgress m n t f → (u : ℕ) → u ≢ t
      → progress n u ≡ progress m u
  other_moved t f moves u ne = let at = moves u in rw (ne_eqb u t ne) at at

  pub same_room : (plan : Plan) → SameRoom m n → HasRoom plan m → HasRoom plan n
  same_room plan same h = same.room ∙ h

  pub same_keys : (plan : Plan) → SameRoom m n → HasKeys plan m → HasKeys plan n
  same_keys plan same h l key i = subst (λ ps. Contains ps (l, key)) (sym same.places) (h l key i)

moved : {plan : Plan} {r : Run} {t : ℕ} {m n : Machine} {a : Progress} (f : Progress → Progress)
    → IsUnderWay plan r t m a → ChangesProgress m n t f → SameRoom m n → IsUnderWay plan r t n (f a)
moved {plan} {r} {t} {m} {n} f h moves same = grind arith

-- 5. A turn under way

-- A machine in the midst of the thread's turn: it represents the state, and the list's steps are still to make.
pub record IsTurning (plan : Plan) (r : Run) (t : ℕ) (m : Machine) (s : State) (a : Progress)
    (rest : List Step) : Type 0 where
  pub shows : Represents (config_of plan) m s
  pub lawful : Lawful (config_of plan) s
  pub may : MayAll (config_of plan) s rest
  pub aside : IsUnderWay plan r t m a

-- the turn is the action, whose steps are to make, and the thread is as far as the run says
pub record Begins (plan : Plan) (r : Run) (t : ℕ) (m : Machine) (action : Action) : Type 0 where
  pub is : turn_of plan r t ≡ action
  pub at : Progress
  pub as_far : IsAsFar plan r t at
  pub turning : IsTurning plan r t m r.state at action.steps

pub begins : {plan : Plan} {m : Machine} {r : Run} {t : ℕ} {action : Action} → IsProper plan → t < length plan.threads
    → IsRunOf plan m r → turn_of plan r t ≡ action → Begins plan r t m action
begins {plan} {m} {r} {t} {action} p lt h e =
    let own = that_is (progress m t) (h.shows.progress t lt) in
    record {
      is = e;
      at = own.0;
      as_far = own.2;
      turning = record {
        shows = h.shows.shows;
        lawful = h.on_track.lawful.lawful;
        may = action_may plan r t action p h.on_track lt e;
        aside =
            record { own = own.1; others = λ u l ne. h.shows.progress u l; room = h.shows.room; keys = h.shows.keys };
      };
    }

module _ {plan : Plan} {r : Run} {t : ℕ} {m : Machine} {s : State} {a : Progress} {rest : List Step} where
  -- what is asked of a method that makes a part of them,
  pub may_by : IsTurning plan r t m s a rest → (guard : Config → State → Type 0) → guard (config_of plan) s
      → May m guard
  may_by h guard g = (config_of plan, s, h.shows, h.lawful, g)

  -- or the next one
  pub may_next : {step : Step} → IsTurning plan r t m s a (step ∷ rest) → May m (λ c s. MayMake c s step)
  may_next {step} h = (config_of plan, s, h.shows, h.lawful, h.may.0)

  -- behind it the others are to make
  pub goes : {n : Machine} {step : Step} {f : Progress → Progress} → IsTurning plan r t m s a (step ∷ rest)
      → StepMade (config_of plan) m n t step f → IsTurning plan r t n (after (config_of plan) s step) (f a) rest
  goes {step = step} {f = f} h made = record {
    shows = made.makes s h.shows h.lawful h.may.0;
    lawful = keeps (config_of plan) s step h.may.0 h.lawful;
    may = h.may.1;
    aside = moved f h.aside made.moves made.room;
  }

  -- all that are left at once,
  pub all_made : {n : Machine} (f : Progress → Progress) → IsTurning plan r t m s a rest
      → Represents (config_of plan) n (after_all (config_of plan) s rest) → ChangesProgress m n t f → SameRoom m n
      → IsTurning plan r t n (after_all (config_of plan) s rest) (f a) []
  all_made f h shows moves room = record {
    shows = shows;
    lawful = all_keep (config_of plan) s rest h.may h.lawful;
    may = tt;
    aside = moved f h.aside moves room;
  }

  -- or by one method,
  pub made_all : {n : Machine} {premise : Config → Type 0} → IsTurning plan r t m s a rest → premise (config_of plan)
      → MakesAllWhere premise m n rest → KeepsProgress m n → SameRoom m n
      → IsTurning plan r t n (after_all (config_of plan) s rest) a []
  made_all {n} h so makes kept room =
      all_made (λ x. x) h (makes (config_of plan) s so h.shows h.lawful h.may) (unmoved m n t kept) room

  -- which may make no entry
  pub finished : {n : Machine} {premise : Config → Type 0} → IsTurning plan r t m s a rest → premise (config_of plan)
      → MakesAllWhere premise m n rest → KeepsProgress m n → KeepsBooks m n
      → IsTurning plan r t n (after_all (config_of plan) s rest) a []
  finished h so makes kept books = made_all h so makes kept (of_books books)

-- there is room for the entry of an operation while it isn't made
pub has_room : {plan : Plan} {r : Run} {t : ℕ} {m : Machine} {op : Op} → IsProper plan → t < length plan.threads
    → IsRunOf plan m r → IsAtOperation plan r t (Some op) → 1 ≤ m.log.spare
has_room {plan} {r} {t} {m} {op} p lt h at =
    let all = entries_below plan r t p h.on_track lt at.uncut (left plan r t op at.next) in
    let so_far = ap length h.shows.shows.history ∙ length-reverse r.state.history in
    omega (arith, all, so_far, h.shows.room)

-- and for the one of a lock that a thread gives back that was cut
pub has_room_cut : {plan : Plan} {r : Run} {t : ℕ} {m : Machine} → IsProper plan → t < length plan.threads
    → IsRunOf plan m r → was_cut r.state t ≡ true → r.state.held_locks t ≢ [] → 1 ≤ m.log.spare
has_room_cut {plan} {r} {t} {m} p lt h cut some =
    let all = cut_entries_below plan r t p h.on_track lt cut some in
    let so_far = ap length h.shows.shows.history ∙ length-reverse r.state.history in
    omega (arith, all, so_far, h.shows.room)

-- 6. Behind the last step

-- a turn that does nothing
pub still : (plan : Plan) (r : Run) (t : ℕ) {m : Machine} (answer : Turn) → turn_of plan r t ≡ nothing answer
    → RepresentsRun plan m r → IsTurn plan r t m answer
unfolding run_behind
still plan r t {m} answer e h = grind arith

-- the action is made, and the thread is as far as the run behind it says, before it goes on
pub made : {plan : Plan} {r : Run} {t : ℕ} {m n : Machine} {steps : List Step} {a : Progress} (result : Made)
    → Begins plan r t m (action_of result (r.next_op t) steps)
    → IsTurning plan r t n (after_all (config_of plan) r.state steps) a []
    → IsBehind plan r (run_after plan r t (action_of result (r.next_op t) steps)) t a → IsMade plan r t n result
unfolding run_behind
made {plan} {r} {t} {n = n} {steps = steps} {a = a} result b h far = record {
  steps = steps;
  action = b.is;
  shows = h.shows;
  aside = assumption (
    is_such (IsBehind plan r (run_behind plan r t) t) a h.aside.own
        (subst (λ (x : Action). IsBehind plan r (run_after plan r t x) t a) (sym b.is) far),
    h.aside,
  );
}

-- an action that leaves the operation to make, and what says how far the thread is,
pub made_still : {plan : Plan} {r : Run} {t : ℕ} {m n : Machine} {steps : List Step} {answer : Turn}
    (b : Begins plan r t m (action_of (Does answer) (r.next_op t) steps))
    → IsTurning plan r t n (after_all (config_of plan) r.state steps) b.at []
    → (after_all (config_of plan) r.state steps).held t ≡ r.state.held t
    → (after_all (config_of plan) r.state steps).held_locks t ≡ r.state.held_locks t
    → (after_all (config_of plan) r.state steps).log t ≡ r.state.log t → IsMade plan r t n (Does answer)
made_still {answer = answer} b h held listed log =
    made (Does answer) b h (behind_still (record { next_op = refl; held = held; listed = listed; log = log }) b.as_far)

-- and one that ends it, where the thread holds what it is to go on with
pub made_behind : {plan : Plan} {r : Run} {t : ℕ} {m n : Machine} {steps : List Step} {a : Progress} (result : Made)
    (k : ℕ) → next_of result (r.next_op t) ≡ Some k
    → Begins plan r t m (action_of result (r.next_op t) steps)
    → IsTurning plan r t n (after_all (config_of plan) r.state steps) a []
    → IsAwake (after_all (config_of plan) r.state steps) t
    → a.next_op ≡ r.next_op t → a.held ≡ held_at plan t k → IsMade plan r t n result
made_behind {plan} {r} {t} {a = a} result k next b h up same held =
    made result b h (behind_made up same (held ∙ sym (next_holds (operations_of plan t) k)
    ∙ ap (held_at plan t) (sym (ap (λ (o : Option ℕ). next_ops (operations_of plan t) r.next_op t o t) next
    ∙ put_same r.next_op t (next_at (operations_of plan t) k)))))

module _ (plan : Plan) (r : Run) (t : ℕ) (m : Machine) (result : Made) (h : IsMade plan r t m result) where
  abbrev n : Run
  n = run_behind plan r t

  abbrev ops : List Op
  ops = operations_of plan t

  -- the next operation of the thread behind the action
  next_behind : n.next_op t ≡ next_ops ops r.next_op t (next_of result (r.next_op t)) t
  unfolding run_behind
  next_behind = ap (λ (x : Action). next_ops ops r.next_op t x.next t) h.action

  -- what represents the state behind it
  shown : (w : Machine) → Represents (config_of plan) w (after_all (config_of plan) r.state h.steps)
      → Represents (config_of plan) w n.state
  unfolding run_behind
  shown w x = grind arith

  -- the other threads are as far as the run behind it says
  others : (u : ℕ) → u < length plan.threads → u ≢ t → IsSomeAnd (progress m u) (IsAsFar plan n u)
  others u l ne = so_is (progress m u) (λ a. still_as_far (others_still plan r t u ne)) (h.aside.others u l ne)

  -- the answer, and the run behind the turn, where the thread is as far as that says
  turned_to : (w : Machine) → Represents (config_of plan) w (after_all (config_of plan) r.state h.steps)
      → IsSomeAnd (progress w t) (IsAsFar plan n t)
      → ((u : ℕ) → u ≢ t → progress w u ≡ progress m u) → SameRoom m w → IsTurn plan r t w (answer_of result)
  turned_to w shows own same books = (
    sym (ap (λ (x : Action). x.answer) h.action),
    record {
      shows = shown w shows;
      progress = λ u l. elim (cases_eq u t) [
        | inl i ↦ subst (λ v. IsSomeAnd (progress w v) (IsAsFar plan n v)) (sym i) own
        | inr ne ↦ subst (λ o. IsSomeAnd o (IsAsFar plan n u)) (sym (same u ne)) (others u l ne)
      ];
      room = same_room m w plan books h.aside.room;
      keys = same_keys m w plan books h.aside.keys;
    },
  )

  -- where it goes on at another operation
  goes_further : (w : Machine) (k : ℕ) → next_of result (r.next_op t) ≡ Some k → GoesOn m w t ops k
      → IsTurn plan r t w (answer_of result)
  goes_further w k next g =
      let its = that_is (progress m t) h.aside.own in
      let there : n.next_op t ≡ next_at ops k = next_behind ∙ ap (λ (o : Option ℕ). next_ops ops r.next_op t o t) next
      ∙ put_same r.next_op t (next_at ops k) in
      turned_to w (g.shows (config_of plan) (after_all (config_of plan) r.state h.steps) h.shows)
      (is_such (IsAsFar plan n t) (record its.0 { next_op = next_at ops k })
      (own_moved m w t (λ a. record a { next_op = next_at ops k }) g.progress its.1)
      (subst (λ (i : ℕ). IsAsFar plan n t (record its.0 { next_op = i })) there its.2.as_far))
      (other_moved m w t (λ a. record a { next_op = next_at ops k }) g.progress) (of_books g.books)

-- the operation is still to make,
pub stays : {plan : Plan} {r : Run} {t : ℕ} {m : Machine} {answer : Turn} → IsMade plan r t m (Does answer)
    → IsTurn plan r t m answer
stays {plan} {r} {t} {m} {answer} h = turned_to plan r t m (Does answer) h m h.shows
    (so_is (progress m t)
    (λ a b. assumption (b.next_op ∙ sym (next_behind plan r t m (Does answer) h), b.as_far)) h.aside.own)
    (λ u ne. refl) (record { room = refl; places = refl })

-- or the thread goes on at another
pub went_on : {plan : Plan} {r : Run} {t : ℕ} {m n : Machine} {ops : List Op} (result : Made) (k : ℕ)
    → IsMade plan r t m result → next_of result (r.next_op t) ≡ Some k → ops ≡ operations_of plan t → GoesOn m n t ops k
    → IsTurn plan r t n (answer_of result)
went_on {plan} {r} {t} {m} {n} result k h next same given =
    goes_further plan r t m result h n k next (subst (λ (os : List Op). GoesOn m n t os k) same given)

-- where it goes on it has no more operations behind it than it has
pub within : {plan : Plan} {r : Run} {t : ℕ} {m n : Machine} (result : Made) (k : ℕ) → IsProper plan → IsRunOf plan m r
    → t < length plan.threads → IsMade plan r t n result → next_of result (r.next_op t) ≡ Some k
    → k ≤ length (operations_of plan t)
unfolding run_behind
within {plan} {r} {t} result k p h lt its next =
    let ops = operations_of plan t in
    let there : (run_behind plan r t).next_op t ≡ next_at ops k =
    ap (λ (x : Action). next_ops ops r.next_op t x.next t) its.action
    ∙ ap (λ (o : Option ℕ). next_ops ops r.next_op t o t) next ∙ put_same r.next_op t (next_at ops k) in
    omega (arith, (turned plan r t p h.on_track lt).within t, there)

-- 7. A turn of one step, behind which the operation is still to make

pub one_made : {plan : Plan} {r : Run} {t : ℕ} {m n : Machine} {kind : StepKind} {step : Step}
    → Begins plan r t m (does kind (step ∷ [])) → StepMade (config_of plan) m n t step (λ a. a)
    → (after (config_of plan) r.state step).held t ≡ r.state.held t → (after (config_of plan) r.state step).held_locks t
    ≡ r.state.held_locks t → (after (config_of plan) r.state step).log t ≡ r.state.log t → IsTurn plan r t n (Did kind)
one_made b step held listed log = stays (made_still b (goes b.turning step) held listed log)
