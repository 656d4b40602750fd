-- Looks at a lock outside acquiring rounds, which change only what the thread saw last: those of a release. And the
-- first exchange of a call, which missed, may be made.
use Rattle.lock_calls.proofs.Names
use Names.{ℕ, suc, false, true, cond, Option, Some, None, List, [], length, replicate, refl, sym, ap, subst, inl, arith}
use Names.{replicate-append-replicate, Hold, NotHeld, Holds, hold_in, Word, Look, Step, Looks, Description, Makes}
use Names.{MakesEach, MayMake, Knowledge, seeing, IsAtRest, counts, looked, BeginsCall, WantsItsRound, counts_not}
use Names.{may_look, CanLook, with_looks, HasLooked}
use Rattle.std.proofs.Common.{◌≡◌, ◌+◌, ◌<◌, ◌∷◌, ◌++◌, ◌∙◌}

-- 1. Steps one behind the other

pub each_append : (floor : Description) (xs ys : List (List Step)) (u v w : Knowledge) → MakesEach floor xs u v
    → MakesEach floor ys v w → MakesEach floor (xs ++ ys) u w
each_append floor [] ys u v w e m = subst (λ x. MakesEach floor ys x w) (sym e) m
each_append floor (x ∷ xs) ys u v w m k = (m.0, m.1, each_append floor xs ys m.0 v w m.2 k)

-- the last step of several
pub last_step : (floor : Description) (step : List Step) (u v : Knowledge) → MakesEach floor (step ∷ []) u v
    → Makes floor step u v
last_step floor step u v m = subst (λ k. Makes floor step u k) m.2 m.1

-- 2. One look, which doesn't count

module _ (floor : Description) (v : Knowledge) (l : ℕ) (quiet : counts v l ≡ false) where
  pub look_knows : (word : Word) → looked v l word
      ≡ with_looks v (suc v.share.doing.looks_in_all) (Some (record { lock = l; word = word }))
      (Some (record { lock = l; word = word }))
  look_knows word =
      let look : Look = record { lock = l; word = word } in
      ap (λ b. record v {
        share = record v.share {
          doing = record v.share.doing {
            looks = cond b (suc v.share.doing.looks) v.share.doing.looks;
            looks_in_all = suc v.share.doing.looks_in_all;
            last_look = Some look;
            seen_in_section = Some look;
          };
        };
      }) quiet

  pub look_once : (word : Word) (new : Knowledge) → new ≡ seeing new.seen (looked v l word)
      → Makes floor (Looks v.thread l (counts v l) ∷ []) v new → HasLooked floor l 1 v new
  look_once word new is m = record {
    all = suc v.share.doing.looks_in_all;
    last = Some (record { lock = l; word = word });
    seen = Some (record { lock = l; word = word });
    knows = is ∙ ap (seeing new.seen) (look_knows word);
    steps = (new, subst (λ b. Makes floor (Looks v.thread l b ∷ []) v new) quiet m, refl);
  }

-- outside its rounds it is in none of another lock
pub wants_none : (v : Knowledge) → v.share.doing.round ≡ None → WantsItsRound v
wants_none v none r is blocks = absurd (let z : None ≡ Some r = sym none ∙ is in cc)

-- at a lock that it holds, or by the first exchange of a call
pub may_look_on : (floor : Description) (v : Knowledge) (l : ℕ) → v.description ≡ floor → l < length floor.locks
    → CanLook v → (hold_in v.share.held l ≡ NotHeld → BeginsCall v)
    → MayMake floor v (λ s. Unit {0}) (Looks v.thread l (counts v l) ∷ [])
may_look_on floor v l mine low k first =
    may_look floor v l mine low k.runs k.nothing_out k.going (few (hold_in v.share.held l) refl)
    (λ ne. absurd (ne k.no_round)) (λ none. k.takes_nothing) (λ none unheld. inl (first unheld))
    (wants_none v k.no_round)
  where
    few : (hold : Hold) → hold_in v.share.held l ≡ hold → counts v l ≡ true → v.share.doing.looks < 100
    few NotHeld is e = let none = (first is).no_looks in omega (arith, none)
    few (Holds mode) is e =
        absurd (let z : false ≡ true = sym (counts_not floor v l mode k.no_round is) ∙ e in cc)

-- 3. Several

-- 4. A thread at rest can look

pub rest_looks : (floor : Description) (v : Knowledge) → IsAtRest floor v → CanLook v
rest_looks floor v r =
    assumption r
