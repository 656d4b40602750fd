-- What a call answers: it was made, or something stands against it.
use Rattle.floor_calls.proofs.Names
use Names.{true, false, Option, Some, None, Result, Ok, Err, refl, sym, ap, subst, Knowledge, Pass, Answers, Does}
use Names.{HasMade, MayMake, MayCall, Says, causes, IsFirst, KeepsRoom, IsAt, Stands, Thread, thread_at, Cause, Request}
use Names.{Shared, Next, Stage, AtRest}
use Rattle.std.proofs.Common.{◌≡◌}
use Rattle.floor_calls.proofs.Room.{room_behind}
use Rattle.floor_calls.proofs.Tests.{first_is_one, may_none, none_may}

-- 1. What is answered

pub is_refused : (request : Request) (x : Thread) (cause : Cause)
    → IsFirst (λ c. Says c x) (causes request) (Some cause) → Answers request (Err cause) x x
is_refused request x cause first = record {
  floor = refl;
  may = (
    λ is. absurd (let z : false ≡ true = is in cc),
    λ m. absurd (let z = first_is_one first (may_none request x m) in cc),
  );
  cause = first;
  does = tt;
  unchanged = refl;
}

pub is_made : (request : Request) (x y : Thread) (next : Next) → MayCall request x
    → IsFirst (λ c. Says c x) (causes request) None → y.floor ≡ x.floor → Does request next x y
    → Answers request (Ok next) x y
is_made request x y next may first floor does = record {
  floor = floor;
  may = (λ _. may, λ _. refl);
  cause = first;
  does = does;
  unchanged = tt;
}

-- 2. A call is made of a thread's parts, where what is shared was found through another path

module _ {a b : Shared} (same : a ≡ b) where
  module _ {x : Thread} {p : Pass Knowledge} {s : Stage} (is : thread_at b.floor s p ≡ x) (stood : Stands b.floor s p)
    where
      -- the thread stands there too
      is_there : IsAt a.floor s p
      is_there = subst (λ (h : Shared). IsAt h.floor s p) (sym same) stood.at

      module _ (request : Request) (nothing : IsFirst (λ c. Says c x) (causes request) None) where
        may : MayCall request x
        may = none_may request x (subst (λ (y : Thread). KeepsRoom y.stage y.pass) is stood.room) nothing

        may_here : MayCall request (thread_at b.floor s p)
        may_here = subst (λ (y : Thread). MayCall request y) (sym is) may

        -- a call may be made of them against which nothing stands
        pub may_there : MayMake request (thread_at a.floor s p)
        may_there = record {
          at = is_there;
          may = subst (λ (h : Shared). MayCall request (thread_at h.floor s p)) (sym same) may_here;
        }

        did_here : (next : Next) (t : Stage) (q : Pass Knowledge)
            → Does request next (thread_at a.floor s p) (thread_at a.floor t q)
            → Does request next (thread_at b.floor s p) (thread_at b.floor t q)
        did_here next t q did =
            subst (λ (h : Shared). Does request next (thread_at h.floor s p) (thread_at h.floor t q)) same did

        -- where it was made the thread stands behind it
        pub is_back : (next : Next) {t : Stage} {q : Pass Knowledge}
            → HasMade request next (thread_at a.floor s p) (thread_at a.floor t q) → Stands b.floor t q
        is_back next {t = t} {q = q} made = record {
          at = subst (λ (h : Shared). IsAt h.floor t q) same made.at;
          room = room_behind (thread_at b.floor s p) (thread_at b.floor t q) stood.at stood.room request next may_here
              (did_here next t q made.does);
        }

        -- and the call is the thread's
        pub is_made_there : {next : Next} {t : Stage} {q : Pass Knowledge}
            → HasMade request next (thread_at a.floor s p) (thread_at a.floor t q)
            → Answers request (Ok next) x (thread_at b.floor t q)
        is_made_there {next = next} {t = t} {q = q} made =
            is_made request x (thread_at b.floor t q) next may nothing (ap (λ (y : Thread). y.floor) is)
            (subst (λ (y : Thread). Does request next y (thread_at b.floor t q)) is (did_here next t q made.does))

        -- of one that is made at once the thread is at rest, before and behind it
        module _ (rests : MayCall request (thread_at a.floor s p) → s ≡ AtRest) where
          pub may_at_rest : MayMake request (thread_at a.floor AtRest p)
          may_at_rest = subst (λ (t : Stage). MayMake request (thread_at a.floor t p)) (rests may_there.may) may_there

          module _ {next : Next} {q : Pass Knowledge}
              (made : HasMade request next (thread_at a.floor AtRest p) (thread_at a.floor AtRest q)) where
            made_there : HasMade request next (thread_at a.floor s p) (thread_at a.floor s q)
            made_there =
                subst (λ (t : Stage). HasMade request next (thread_at a.floor t p) (thread_at a.floor t q))
                (sym (rests may_there.may)) made

            pub rests_back : Stands b.floor s q
            rests_back = is_back next made_there

            pub is_made_at_once : Answers request (Ok next) x (thread_at b.floor s q)
            is_made_at_once = is_made_there made_there

-- 3. What is so of a request is so of that which it is found to be

pub against_named : (x : Thread) {request named : Request} {found : Option Cause} → request ≡ named
    → IsFirst (λ c. Says c x) (causes named) found → IsFirst (λ c. Says c x) (causes request) found
against_named x {found = found} is first =
    subst (λ (r : Request). IsFirst (λ (c : Cause). Says c x) (causes r) found) (sym is) first

pub answers_named : {x y : Thread} {request named : Request} {answer : Result Next Cause} → request ≡ named
    → Answers named answer x y → Answers request answer x y
answers_named {x = x} {y = y} {answer = answer} is answers =
    subst (λ (r : Request). Answers r answer x y) (sym is) answers
