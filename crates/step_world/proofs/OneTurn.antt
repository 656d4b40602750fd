-- A course behind one turn more: who still comes, whether the round is idle, who has ended and who sleeps.
use Rattle.step_world.proofs.Names
use Names.{ℕ, Bool, true, false, not, eqb, ltb, List, [], length, option_map, Option, Some, None, IfSome, refl, sym, ap}
use Names.{ap₂, subst, inl, inr, and_right, cases_eq, cases_lt, not-false, ne_eqb, lt-ltb, le-ltb, none-some, same_Some}
use Names.{has_bit, Run, turn_of, run_behind, has_ended, is_idle, with_turn, first_turn, ThreadNo, Turn, Idle, Ended}
use Names.{IsSleeping, idle_exactly, ended_exactly, changes_nothing, ends_no_other, Machine, Course, IsCourse, IsSound}
use Names.{Sleeps, is_going, World, Represents, first_marked}
use Rattle.std.proofs.Common.{◌≡◌, ◌≢◌, ◌⊎◌, ◌↔◌, ◌<◌, ◌&&◌, ◌∷◌, ◌∙◌}
use Rattle.std.proofs.lemmas.Bool.{eq-eqb}
use Rattle.lock_state.specs.Run as run
use Rattle.step_world.proofs.Sleeping.{WakesNotNext, sleeps_on, end_alike, sleep_alike}

-- what a turn of the thread leaves of the world
pub record IsTurned (old new : World) (t : ℕ) (answer : Turn) : Type 0 where
  pub answer_is : (r : Run) → Represents old r → answer ≡ (turn_of old.plan r t).answer
  pub turn : (r : Run) → Represents old r → Represents new (run_behind old.plan r t)

-- 1. What is known of threads

-- whether the thread has ended behind its turn, and who is known to sleep then
pub record IsKnown (old new : World) (t : ℕ) (answer : Turn) (going asleep going_then asleep_then : ℕ) : Type 0 where
  pub over : Bool
  pub over_is : (r : Run) → Represents new r → over ≡ has_ended new.plan r t
  pub going_is : (u : ℕ) → has_bit u going_then ≡ (not (over && eqb t u) && has_bit u going)
  pub woken : Option ThreadNo
  pub woken_is : (r : Run) → Represents old r → option_map (λ u. u.0) woken ≡ first_marked (r.state.marked t)
  pub sleeps : Bool
  pub sleeps_is : (r : Run) → Represents new r → sleeps ≡ true ↔ IsSleeping new.plan r t
  pub own : has_bit t asleep_then ≡ true → (has_bit t asleep ≡ true) ⊎ (sleeps ≡ true)
  pub others : (u : ℕ) → u ≢ t → has_bit u asleep_then ≡ true → (has_bit u asleep ≡ true) × IfSome woken (λ v. v.0 ≢ u)

module _ (old : World) (m : Machine) (t : ℕ) (answer : Turn) (lt : t < length old.plan.threads)
    (w : IsTurned old (record old { machine = m }) t answer) where
  abbrev new : World
  new = record old { machine = m }

  module _ {schedule : List ThreadNo} {round going asleep going_then asleep_then : ℕ}
      (h : IsSound old schedule round going asleep) (k : IsKnown old new t answer going asleep going_then asleep_then)
    where
      abbrev r : Run
      r = h.run.0

      abbrev n : Run
      n = run_behind old.plan r t

      shows : Represents new n
      shows = w.turn r h.run.1

      -- who has ended
      module _ (runs : has_ended old.plan r t ≡ false) (q : Run) (s : Represents new q) where
        its_own : (not (k.over && eqb t t) && is_going old.plan r t) ≡ is_going old.plan q t
        its_own =
            let there : ltb t (length old.plan.threads) ≡ true = lt-ltb t (length old.plan.threads) lt in
            ap₂ (λ (same b : Bool). not (k.over && same) && (b && not (has_ended old.plan r t))) (eq-eqb t t refl) there
            ∙ ap (λ (b : Bool). not (k.over && true) && not b) runs
            ∙ go k.over
            ∙ ap not (k.over_is q s)
            ∙ ap (λ (b : Bool). b && not (has_ended old.plan q t)) (sym there)
          where
            go : (b : Bool) → (not (b && true) && true) ≡ not b
            go true = refl
            go false = refl

        of_other : (u : ℕ) → (t ≡ u → ⊥) → (not (k.over && eqb t u) && is_going old.plan r u) ≡ is_going old.plan q u
        of_other u ne =
            ap (λ (b : Bool). not (k.over && b) && is_going old.plan r u) (ne_eqb t u ne)
            ∙ ap (λ (b : Bool). not b && is_going old.plan r u) (and_right k.over false refl)
            ∙ elim (cases_lt u (length old.plan.threads)) [
              | inl l ↦ ap (λ (b : Bool). ltb u (length old.plan.threads) && not b)
                  (sym (end_alike new h.proper n q shows s u l ∙ ends_no_other old.plan r t u (λ e. ne (sym e))))
              | inr l ↦ let beyond : ltb u (length old.plan.threads) ≡ false = le-ltb u (length old.plan.threads) l in
                  ap (λ (b : Bool). b && not (has_ended old.plan r u)) beyond
                  ∙ ap (λ (b : Bool). b && not (has_ended old.plan q u)) (sym beyond)
            ]

        go_then : (u : ℕ) → has_bit u going_then ≡ is_going old.plan q u
        go_then u = k.going_is u ∙ ap (λ (b : Bool). not (k.over && eqb t u) && b) (h.going_are r u h.run.1)
            ∙ elim (cases_eq t u) [
              | inl e ↦ subst (λ (v : ℕ). (not (k.over && eqb t v) && is_going old.plan r v) ≡ is_going old.plan q v) e
                  its_own
              | inr ne ↦ of_other u ne
            ]

      -- who sleeps
      unwoken : (u : ℕ) → IfSome k.woken (λ v. v.0 ≢ u) → WakesNotNext r t u
      unwoken u other x xs e = go k.woken (k.woken_is r h.run.1 ∙ ap first_marked e) other
        where
          go : (o : Option ThreadNo) → option_map (λ v. v.0) o ≡ Some x.thread → IfSome o (λ v. v.0 ≢ u) → x.thread ≡ u
              → ⊥
          go None i other same = none-some x.thread i
          go (Some v) i other same = other (same_Some v.0 x.thread i ∙ same)

      -- one who sleeps already has an idle turn
      idles : has_bit t asleep ≡ true → answer ≡ Idle
      idles e = w.answer_is r h.run.1
          ∙ (idle_exactly old.plan r t h.proper h.run.1.on_track).1 ((h.sleep t e).sleeping r h.run.1)

      own_sleeps : ((answer ≡ Idle) ⊎ (answer ≡ Ended) → new ≡ old) → has_bit t asleep_then ≡ true → (q : Run)
          → Represents new q → IsSleeping old.plan q t
      own_sleeps still e q s = elim (k.own e) [
        | inl before ↦ (h.sleep t before).sleeping q
            (subst (λ (v : World). Represents v q) (still (inl (idles before))) s)
        | inr now ↦ (k.sleeps_is q s).0 now
      ]

      sleep_then : ((answer ≡ Idle) ⊎ (answer ≡ Ended) → new ≡ old) → (u : ℕ) → has_bit u asleep_then ≡ true
          → Sleeps new u
      sleep_then still u e = elim (cases_eq u t) [
        | inl i ↦ let own : has_bit t asleep_then ≡ true = subst (λ (v : ℕ). has_bit v asleep_then ≡ true) i e in
            subst (Sleeps new) (sym i) (record { thread = lt; sleeping = own_sleeps still own })
        | inr ne ↦
            let x = k.others u ne e in
            let asleep = h.sleep u x.0 in
            record {
              thread = asleep.thread;
              sleeping = λ q s. sleep_alike new h.proper n q shows s u asleep.thread
                  (sleeps_on old.plan r t u ne (unwoken u x.1) (asleep.sleeping r h.run.1));
            }
      ]

      pub sound_then : has_ended old.plan r t ≡ false → ((answer ≡ Idle) ⊎ (answer ≡ Ended) → new ≡ old)
          → IsSound new schedule round going_then asleep_then
      sound_then runs still = record {
        proper = h.proper;
        run = (n, shows);
        going_are = λ q u s. go_then runs q s u;
        sleep = sleep_then still;
        scheduled = h.scheduled;
        threads = h.threads;
        in_turn = h.in_turn;
      }

-- the same where the plan and the chains are known to stay
same_world : (old new : World) → new.plan ≡ old.plan → new.chains ≡ old.chains
    → record old { machine = new.machine } ≡ new
same_world old new p c =
    ap₂ (λ plan (chains : ℕ). record { plan = plan; chains = chains; machine = new.machine }) (sym p) (sym c)

pub sound_behind : {old new : World} {schedule : List ThreadNo} {round going asleep going_then asleep_then
    t : ℕ} {answer : Turn} → IsSound old schedule round going asleep → t < length old.plan.threads → new.plan ≡ old.plan
    → new.chains ≡ old.chains
    → IsTurned old new t answer → IsKnown old new t answer going asleep going_then asleep_then
    → ((r : Run) → Represents old r → has_ended old.plan r t ≡ false)
    → ((answer ≡ Idle) ⊎ (answer ≡ Ended) → new ≡ old)
    → IsSound new schedule round going_then asleep_then
sound_behind {old} {new} {schedule} {round} {going} {asleep} {going_then} {asleep_then} {t} {answer} h lt p c w k runs
    still =
    let same = same_world old new p c in
    let w : IsTurned old (record old { machine = new.machine }) t answer =
    subst (λ (v : World). IsTurned old v t answer) (sym same) w in
    let k : IsKnown old (record old { machine = new.machine }) t answer going asleep going_then asleep_then =
    subst (λ (v : World). IsKnown old v t answer going asleep going_then asleep_then) (sym same) k in
    subst (λ (v : World). IsSound v schedule round going_then asleep_then) same
    (sound_then old new.machine t answer lt w h k (runs h.run.0 h.run.1) (λ i. same ∙ still i))

-- 2. The course

-- the first that comes has had its turn, as the definition has it
pub turned : {old new : World} {t : ℕ} {answer : Turn} {idle after : Bool} {coming rest : List ℕ} {k : run.Course}
    → IsCourse (record { world = old; coming = coming; idle = idle }) k
    → coming ≡ t ∷ rest → IsTurned old new t answer → after ≡ (idle && is_idle answer)
    → IsCourse (record { world = new; coming = rest; idle = after }) (with_turn old.plan k.run k.coming k.idle)
turned {old} {new} {t} {answer} {idle} {after} {coming} {rest} {k} h first w idles =
    subst (λ (ts : List ℕ). IsCourse (record { world = new; coming = rest; idle = after })
    (with_turn old.plan k.run ts k.idle)) (sym (h.coming ∙ first)) (record {
      shows = w.turn k.run h.shows;
      coming = refl;
      idle = sym (idles ∙ ap (λ (b : Bool). b && is_idle answer) (sym h.idle)
          ∙ ap (λ (a : Turn). k.idle && is_idle a) (w.answer_is k.run h.shows));
    })

-- and that is what the definition says of the turn
pub told : {old new : World} {t : ℕ} {answer : Turn} {idle : Bool} {coming rest : List ℕ} {k : run.Course}
    → IsCourse (record { world = old; coming = coming; idle = idle }) k
    → coming ≡ t ∷ rest → IsTurned old new t answer → Some (t, answer) ≡ first_turn old.plan k.run k.coming
told {old} {t = t} {answer = answer} {k = k} h first w = ap (λ (a : Turn). Some (t, a)) (w.answer_is k.run h.shows)
    ∙ ap (first_turn old.plan k.run) (sym (h.coming ∙ first))

-- the same of whole courses: one who was taken off those who come has had its turn,
pub course_turned : {old first behind new : Course} {t : ℕ} {answer : Turn} {k : run.Course} → first.world ≡ old.world
    → first.idle ≡ old.idle → old.coming ≡ t ∷ first.coming
    → behind.coming ≡ first.coming → behind.idle ≡ first.idle → IsTurned first.world behind.world t answer
    → new ≡ record behind { idle = behind.idle && is_idle answer }
    → IsCourse old k → IsCourse new (with_turn old.world.plan k.run k.coming k.idle)
course_turned {old} {first} {behind} {new} {t} {answer} {k} same idle comes coming idles w is h =
    subst (λ (x : Course). IsCourse x (with_turn old.world.plan k.run k.coming k.idle)) (sym is)
    (turned {old = old.world} {new = behind.world} {idle = old.idle} {coming = old.coming} {rest = behind.coming} h
    (comes ∙ ap (λ (ts : List ℕ). t ∷ ts) (sym coming))
    (subst (λ (v : World). IsTurned v behind.world t answer) same w)
    (ap (λ (b : Bool). b && is_idle answer) (idles ∙ idle)))

pub course_told : {old : Course} (first : Course) {behind : World} {t : ℕ} {answer : Turn} {k : run.Course}
    → first.world ≡ old.world → old.coming ≡ t ∷ first.coming
    → IsTurned first.world behind t answer → IsCourse old k
    → Some (t, answer) ≡ first_turn old.world.plan k.run k.coming
course_told {old} first {behind} {t} {answer} {k} same comes w h =
    told {old = old.world} {idle = old.idle} {coming = old.coming} h comes
    (subst (λ (v : World). IsTurned v behind t answer) same w)

-- or there was nobody
pub none_turned : {old new : Course} {k : run.Course} → old.coming ≡ [] → new ≡ old → IsCourse old k
    → IsCourse new (with_turn old.world.plan k.run k.coming k.idle)
none_turned {old} {new} {k} none same h =
    subst (λ (x : Course). IsCourse x (with_turn old.world.plan k.run k.coming k.idle)) (sym same)
    (subst (λ (ts : List ℕ). IsCourse old (with_turn old.world.plan k.run ts k.idle)) (sym (h.coming ∙ none))
    (assumption (sym none, h)))

pub none_told : {old : Course} {k : run.Course} → old.coming ≡ [] → IsCourse old k
    → None ≡ first_turn old.world.plan k.run k.coming
none_told {old} {k} none h = sym (ap (first_turn old.world.plan k.run) (h.coming ∙ none))

-- 3. Turns of which nothing comes

module _ {world : World} {schedule : List ThreadNo} {round going asleep : ℕ}
    (h : IsSound world schedule round going asleep) (t : ℕ) where
  -- whoever isn't among those who haven't ended has ended,
  has_gone : t < length world.plan.threads → has_bit t going ≡ false → (r : Run) → Represents world r
      → (turn_of world.plan r t).answer ≡ Ended
  has_gone lt gone r shows =
      let there : ltb t (length world.plan.threads) ≡ true = lt-ltb t (length world.plan.threads) lt in
      let over : not (has_ended world.plan r t) ≡ false =
      ap (λ (b : Bool). b && not (has_ended world.plan r t)) (sym there) ∙ sym (h.going_are r t shows) ∙ gone in
      (ended_exactly world.plan r t).1 (not-false (has_ended world.plan r t) over)

  pub is_over_answer : t < length world.plan.threads → has_bit t going ≡ false → (r : Run) → Represents world r
      → Ended ≡ (turn_of world.plan r t).answer
  is_over_answer lt gone r shows = sym (has_gone lt gone r shows)

  pub is_over_turn : t < length world.plan.threads → has_bit t going ≡ false → (r : Run) → Represents world r
      → Represents world (run_behind world.plan r t)
  is_over_turn lt gone r shows =
      subst (Represents world) (sym (changes_nothing world.plan r t (inr (has_gone lt gone r shows)))) shows

  -- and whoever is among those who sleep is idle
  is_idle_there : has_bit t asleep ≡ true → (r : Run) → Represents world r → (turn_of world.plan r t).answer ≡ Idle
  is_idle_there there r shows =
      (idle_exactly world.plan r t h.proper shows.on_track).1 ((h.sleep t there).sleeping r shows)

  pub sleeps_answer : has_bit t asleep ≡ true → (r : Run) → Represents world r → Idle ≡ (turn_of world.plan r t).answer
  sleeps_answer there r shows = sym (is_idle_there there r shows)

  pub sleeps_turn : has_bit t asleep ≡ true → (r : Run) → Represents world r
      → Represents world (run_behind world.plan r t)
  sleeps_turn there r shows =
      subst (Represents world) (sym (changes_nothing world.plan r t (inl (is_idle_there there r shows)))) shows
