-- What is left of a halting that stands at a place, so that each part that it makes comes before it, and the whole is
-- what the loop promises. A call above that goes on with a halting part by part carries `HaltsSince`, from
-- `begins_whole` over `goes_on`, and has the whole of it from `is_done`.
use Rattle.std.proofs.Common.{◌≡◌, ◌≢◌, ◌⊎◌, ℕ, ◌+◌, Bool, true, false, ◌||◌, Some, None, List, [], ◌∷◌, refl, sym, ap, ◌∙◌, subst, inl, inr}
use Rattle.std.proofs.lemmas.Option.{same_Some}
use Rattle.lock_model.specs.Queues.{Mark, is_turnstile_queue}
use Rattle.lock_model.specs.declared.plan.QueueName.{QueueName}
use Rattle.lock_model.specs.declared.plan.Side.{Side}
use Rattle.lock_state.specs.State.{Asleep, Last}
use Rattle.lock_state.specs.Steps.{Step, TakesItem, GivesItem, CountsOut, CountsSelfIn, Halts, Aborts}
use Rattle.lock_state.specs.Steps.Items.{Item}
use Rattle.floor_table.specs.Descriptions.{config_in}
use Rattle.floor_table.specs.Past.{IsSeenBy}
use Rattle.floor_table.specs.Steps.{Makes, MakesEach}
use Rattle.floor_table.specs.Views.{Knowledge, seeing}
use Rattle.floor_table.specs.declared.description.Description.{Description}
use Rattle.floor_table.proofs.Made.{sooner}
use Rattle.lock_floor.specs.declared.queues.HaltAt.{HaltAt}
use Rattle.lock_floor.specs.declared.queues.HaltAt.TheVariants as at
use Rattle.lock_floor.specs.Ends.{FindsWhetherLeft}
use Rattle.lock_floor.specs.Latches.{FindsOut}
use Rattle.lock_floor.specs.Marks.{wakes}
use Rattle.lock_floor.specs.Queues.{queue_at}
use Rattle.lock_floor.specs.Waits.{its_chain}
use Rattle.lock_floor.proofs.Marked.{head_or}
use Rattle.halting.specs.Halts.{AbortsEach, Awaits, EndsHalting, HaltEnd, HaltLeg, HaltsOn, HaltsOthers, HasHalted, HasNoNewLook, IsAt, IsFirstOf, IsLast, Kept, Sweeps, kept_of, wakes_itself}
use Rattle.halting.specs.Halts as whole
use Rattle.halting.proofs.Finding.{no_new_look}

-- 1. What is left, to that thread

-- behind the last queue: nothing, where the thread aborted itself; or else it counts itself out, and may be the last
abbrev pub Closes : Description → ℕ → Bool → Knowledge → Knowledge → Type 0
Closes floor t true v new = v ≡ new
Closes floor t false v new =
    (Makes floor (CountsOut t ∷ []) v new × (new.share.doing.phase ≡ Asleep))
    ⊎ ((last : Knowledge) × Makes floor (CountsOut t ∷ []) v last × (last.share.doing.phase ≡ Last)
    × HaltsOthers floor last new)

-- from a queue on
pub record RestComes (floor : Description) (t over : ℕ) (itself : Bool) (v new : Knowledge) : Type 0 where
  pub more : Bool
  pub swept : Knowledge
  pub sweeps : Sweeps floor over more v swept
  pub closes : Closes floor t (itself || more) swept new

-- with its chain out
pub record RestAborts (floor : Description) (t over : ℕ) (itself : Bool) (v new : Knowledge) : Type 0 where
  pub queue : QueueName
  pub there : queue_at floor over ≡ Some queue
  pub own : Bool
  pub left : Knowledge
  pub each : AbortsEach floor queue own v left
  pub home : Knowledge
  pub gives : Makes floor (GivesItem t (its_chain floor queue) ∷ []) left home
  pub behind : RestComes floor t (over + 1) (itself || own) home new

-- with one taken off
pub record RestWakes (floor : Description) (t over : ℕ) (itself : Bool) (v new : Knowledge) : Type 0 where
  pub mark : Mark
  pub marked : v.share.doing.marked ≡ mark ∷ []
  pub next : Knowledge
  pub goes : ((mark.thread ≢ t) × MakesEach floor (wakes t mark []) v next × RestAborts floor t over itself next new)
      ⊎ ((mark.thread ≡ t) × MakesEach floor (wakes_itself t mark) v next × RestAborts floor t over true next new)

abbrev pub RestOf : Description → ℕ → HaltAt → Knowledge → Knowledge → Type 0
RestOf floor t at.Finds v new = HaltsOthers floor v new
RestOf floor t (at.Comes over itself) v new = RestComes floor t over itself v new
RestOf floor t (at.Aborts over itself) v new = RestAborts floor t over itself v new
RestOf floor t (at.Wakes over itself) v new = RestWakes floor t over itself v new

-- 2. A part comes before it

or_assoc : (a b c : Bool) → ((a || b) || c) ≡ (a || (b || c))
or_assoc true b c = refl
or_assoc false b c = refl

or_true : (a : Bool) → (a || true) ≡ true
or_true true = refl
or_true false = refl

-- the queue of a place is one
one_queue : (floor : Description) (k : ℕ) (q r : QueueName) → queue_at floor k ≡ Some q → queue_at floor k ≡ Some r
    → q ≡ r
one_queue floor k q r e f = same_Some q r (sym e ∙ f)

some_queue : (floor : Description) (k : ℕ) (q : QueueName) → queue_at floor k ≡ Some q → queue_at floor k ≡ None → ⊥
some_queue floor k q e f = let z : Some q ≡ None = sym e ∙ f in cc

one_mark : (v : Knowledge) (m k : Mark) → v.share.doing.marked ≡ m ∷ [] → v.share.doing.marked ≡ k ∷ [] → m ≡ k
one_mark v m k e f = ap (head_or m) (sym e ∙ f)

or_false : (a : Bool) → (a || false) ≡ a
or_false true = refl
or_false false = refl

module _ (floor : Description) (t : ℕ) (v w new : Knowledge) (its : v.thread ≡ t) (same : w.thread ≡ t) where
  -- the halt word is set
  begin_back : (left : Knowledge) → FindsWhetherLeft floor true v left
      → MakesEach floor ((CountsSelfIn v.thread ∷ []) ∷ (Halts v.thread ∷ []) ∷ []) left w
      → RestComes floor t 0 false w new → HaltsOthers floor v new
  begin_back left found sets rest = by rest.more rest.sweeps rest.closes
    where
      out : (n : Knowledge) → Makes floor (CountsOut t ∷ []) rest.swept n
          → Makes floor (CountsOut v.thread ∷ []) rest.swept n
      out n = subst (λ u. Makes floor (CountsOut u ∷ []) rest.swept n) (sym its)

      by : (more : Bool) → Sweeps floor 0 more w rest.swept → Closes floor t more rest.swept new
          → HaltsOthers floor v new
      by true sweeps closes = whole.halts_itself_too found sets (subst (Sweeps floor 0 true w) closes sweeps)
      by false sweeps (inl some) = whole.others_go_on found sets sweeps (out new some.0) some.1
      by false sweeps (inr last) = whole.once_more found sets sweeps (out last.0 last.1) last.2 last.3

  chain_back : (over : ℕ) (itself : Bool) (q : QueueName) → queue_at floor over ≡ Some q
      → is_turnstile_queue (config_in floor) q ≡ false
      → Makes floor (TakesItem v.thread (its_chain floor q) ∷ []) v w
      → RestAborts floor t over itself w new → RestComes floor t over itself v new
  chain_back over itself q is sleeps takes rest =
      let e : rest.queue ≡ q = one_queue floor over rest.queue q rest.there is in
      record {
        more = rest.own || rest.behind.more;
        swept = rest.behind.swept;
        sweeps = whole.halts_queue over rest.own rest.behind.more q is sleeps takes
            (subst (λ r. AbortsEach floor r rest.own w rest.left) e rest.each)
            (subst (λ (z : ℕ × QueueName). Makes floor (GivesItem z.0 (its_chain floor z.1) ∷ []) rest.left rest.home)
            (λ i. (sym its i, e i)) rest.gives)
            rest.behind.sweeps;
        closes = subst (λ b. Closes floor t b rest.behind.swept new) (or_assoc itself rest.own rest.behind.more)
            rest.behind.closes;
      }

  abort_back : (over : ℕ) (itself : Bool) (q : QueueName) (side : Side) (m : Mark) → queue_at floor over ≡ Some q
      → IsFirstOf floor q m.thread v → w.share.doing.marked ≡ m ∷ []
      → Makes floor (Aborts v.thread q side m.thread ∷ []) v w → RestWakes floor t over itself w new
      → RestAborts floor t over itself v new
  abort_back over itself q side m is first marked takes rest = elim rest.goes [
    | inl other ↦
        let r = other.2 in
        record {
          queue = r.queue;
          there = r.there;
          own = r.own;
          left = r.left;
          each = whole.one_more r.own side rest.mark (its_first r.queue r.there)
              (its_step r.queue r.there) (λ e. other.0 (e ∙ its))
              (subst (λ u. MakesEach floor (wakes u rest.mark []) w rest.next) (sym its) other.1) r.each;
          home = r.home;
          gives = r.gives;
          behind = r.behind;
        }
    | inr own ↦
        let r = own.2 in
        record {
          queue = r.queue;
          there = r.there;
          own = true;
          left = r.left;
          each = whole.itself_too r.own side rest.mark (its_first r.queue r.there)
              (its_step r.queue r.there) (own.0 ∙ sym its)
              (subst (λ u. MakesEach floor (wakes_itself u rest.mark) w rest.next) (sym its) own.1) r.each;
          home = r.home;
          gives = r.gives;
          behind = subst (λ b. RestComes floor t (over + 1) b r.home new) (sym (or_true itself)) r.behind;
        }
  ]
    where
      its_first : (r : QueueName) → queue_at floor over ≡ Some r → IsFirstOf floor r rest.mark.thread v
      its_first r there = subst (λ (z : QueueName × Mark). IsFirstOf floor z.0 z.1.thread v)
          (λ i. (one_queue floor over q r is there i, one_mark w m rest.mark marked rest.marked i)) first

      -- of that queue it took off the one that is woken
      its_step : (r : QueueName) → queue_at floor over ≡ Some r
          → Makes floor (Aborts v.thread r side rest.mark.thread ∷ []) v w
      its_step r there = subst (λ (z : QueueName × Mark). Makes floor (Aborts v.thread z.0 side z.1.thread ∷ []) v w)
          (λ i. (one_queue floor over q r is there i, one_mark w m rest.mark marked rest.marked i)) takes

  -- where it found out what it needs, the first step of the rest is one from what it knew before
  waits_back : (a : HaltAt) (i : Item) → Awaits floor a v i → w ≡ seeing w.seen v → FindsOut floor i v w
      → RestOf floor t a w new → RestOf floor t a v new
  waits_back at.Finds i needs view finds rest = absurd needs
  waits_back (at.Aborts over itself) i needs view finds rest = absurd needs
  waits_back (at.Comes over itself) i needs view finds rest =
      record {
        more = rest.more;
        swept = rest.swept;
        sweeps = go over rest.more w rest.swept needs.1 refl rest.sweeps;
        closes = rest.closes;
      }
    where
      since : IsSeenBy v.thread v.seen w.seen
      since = subst (IsSeenBy v.thread v.seen) (sym finds.moment.seen) finds.moment.since

      go : (k : ℕ) (more : Bool) (x y : Knowledge) → queue_at floor k ≡ Some needs.0 → x ≡ w
          → Sweeps floor k more x y → Sweeps floor k more v y
      go k more x y there e (whole.over_all _ none) = absurd (some_queue floor k needs.0 there none)
      go k more x y there e (whole.passes_turnstile _ b q is turnstile on) = absurd
          (let z : true ≡ false = sym turnstile ∙ ap (is_turnstile_queue (config_in floor))
          (one_queue floor k q needs.0 is there) ∙ needs.2 in cc)
      go k more x y there e
          (whole.halts_queue {out = out} {left = left} {home = home} _ b c q is sleeps takes each gives on) =
          let thread : x.thread ≡ v.thread = ap (λ (n : Knowledge). n.thread) e ∙ same ∙ sym its in
          whole.halts_queue k b c q is sleeps
          (sooner floor (TakesItem v.thread (its_chain floor q) ∷ []) w.seen v out since
          (subst (λ (z : ℕ × Knowledge). Makes floor (TakesItem z.0 (its_chain floor q) ∷ []) z.1 out)
          (λ i. (thread i, (e ∙ view) i)) takes))
          each (subst (λ u. Makes floor (GivesItem u (its_chain floor q) ∷ []) left home) thread gives) on
  waits_back (at.Wakes over itself) i needs view finds rest = record {
    mark = rest.mark;
    marked = sym (ap (λ (k : Knowledge). k.share.doing.marked) view) ∙ rest.marked;
    next = rest.next;
    goes = elim rest.goes [
      | inl other ↦ inl (other.0, each_sooner (wakes t rest.mark []) (λ e. cc) other.1, other.2)
      | inr own ↦ inr (own.0, each_sooner (wakes_itself t rest.mark) (λ e. cc) own.1, own.2)
    ];
  }
    where
      since : IsSeenBy v.thread v.seen w.seen
      since = subst (IsSeenBy v.thread v.seen) (sym finds.moment.seen) finds.moment.since

      each_sooner : (steps : List (List Step)) → (steps ≡ [] → ⊥) → MakesEach floor steps w rest.next
          → MakesEach floor steps v rest.next
      each_sooner [] some m = absurd (some refl)
      each_sooner (first ∷ more) some m = (
        m.0,
        sooner floor first w.seen v m.0 since (subst (λ k. Makes floor first k m.0) view m.1),
        m.2,
      )

  back : (there to : HaltAt) → HaltLeg floor there to v w → RestOf floor t to w new → RestOf floor t there v new
  back there to (whole.halts {mid = left} found sets) rest = begin_back left found sets rest
  back there to (whole.passes over itself q is turnstile stays) rest = record {
    more = rest.more;
    swept = rest.swept;
    sweeps = whole.passes_turnstile over rest.more q is turnstile
        (subst (λ k. Sweeps floor (over + 1) rest.more k rest.swept) stays rest.sweeps);
    closes = rest.closes;
  }
  back there to (whole.takes_chain over itself q is sleeps takes) rest =
      chain_back over itself q is sleeps takes rest
  back there to (whole.aborts over itself q side m is first marked takes) rest =
      abort_back over itself q side m is first marked takes rest
  back there to (whole.wakes_other over itself m marked other steps) rest = record {
    mark = m;
    marked = marked;
    next = w;
    goes = inl (
      λ e. other (e ∙ sym its),
      subst (λ u. MakesEach floor (wakes u m []) v w) its steps,
      rest,
    );
  }
  back there to (whole.wakes_own over itself m marked own steps) rest = record {
    mark = m;
    marked = marked;
    next = w;
    goes = inr (own ∙ its, subst (λ u. MakesEach floor (wakes_itself u m) v w) its steps, rest);
  }
  back there to (whole.gives_chain over itself q is empty gives) rest = record {
    queue = q;
    there = is;
    own = false;
    left = v;
    each = whole.nobody_else empty;
    home = w;
    gives = subst (λ u. Makes floor (GivesItem u (its_chain floor q) ∷ []) v w) its gives;
    behind = subst (λ b. RestComes floor t (over + 1) b w new) (sym (or_false itself)) rest;
  }
  back there to (whole.is_last over none counts last) rest = record {
    more = false;
    swept = v;
    sweeps = whole.over_all over none;
    closes = inr (w, subst (λ u. Makes floor (CountsOut u ∷ []) v w) its counts, last, rest);
  }
  back there to (whole.finds_out a i needs view finds) rest = waits_back a i needs view finds rest

-- 3. The whole

-- where it ends nothing is left
ends : (floor : Description) (t : ℕ) (v w : Knowledge) → v.thread ≡ t → (there : HaltAt) → HaltEnd floor there v w
    → RestOf floor t there v w
ends floor t v w its there (whole.all_ended found stays) = whole.nobody_is_left found stays
ends floor t v w its there (whole.aborted_itself over none stays) =
    record { more = false; swept = v; sweeps = whole.over_all over none; closes = sym stays }
ends floor t v w its there (whole.others_awake over none counts asleep) = record {
  more = false;
  swept = v;
  sweeps = whole.over_all over none;
  closes = inl (subst (λ u. Makes floor (CountsOut u ∷ []) v w) its counts, asleep);
}

-- who has halted has since what it knew before, where all was kept
pub halted_since : (floor : Description) (begun v w : Knowledge) → kept_of v ≡ kept_of begun → HasNoNewLook begun v
    → HasHalted floor v w → HasHalted floor begun w
halted_since floor begun v w kept look h = assumption (h.kept ∙ kept, no_new_look begun v w look h.look, h)

-- the halting began with what the thread knew, and stands there now
pub record HaltsSince (floor : Description) (begun : Knowledge) (there : HaltAt) (v : Knowledge) : Type 0 where
  pub at : IsAt floor there v
  pub kept : kept_of v ≡ kept_of begun
  pub look : HasNoNewLook begun v
  pub whole_then : (new : Knowledge) → RestOf floor begun.thread there v new → HaltsOthers floor begun new

pub begins_whole : (floor : Description) (v : Knowledge) → IsLast floor v → HaltsSince floor v at.Finds v
begins_whole floor v last = record { at = last; kept = refl; look = inl refl; whole_then = λ new rest. rest }

module _ (floor : Description) (begun v w : Knowledge) (there : HaltAt) (s : HaltsSince floor begun there v) where
  its_thread : v.thread ≡ begun.thread
  its_thread = ap (λ (k : Kept). k.thread) s.kept

  pub goes_on : (to : HaltAt) → HaltsOn floor there to v w → HaltsSince floor begun to w
  goes_on to on = record {
    at = on.at;
    kept = on.kept ∙ s.kept;
    look = no_new_look begun v w s.look on.look;
    whole_then = λ new rest. s.whole_then new
        (back floor begun.thread v w new its_thread (ap (λ (k : Kept). k.thread) on.kept ∙ its_thread) there to on.leg
        rest);
  }

  pub is_done : EndsHalting floor there v w → HasHalted floor begun w × HaltsOthers floor begun w
  is_done e = (
    halted_since floor begun v w s.kept s.look e.halted,
    s.whole_then w (ends floor begun.thread v w its_thread there e.end),
  )
