-- A take in its round, and as it takes the lock's chain and then its own record: where it stands behind each part.
use Rattle.lock_calls.proofs.Names
use Names.{ℕ, Bool, true, false, [], length, replicate, refl, ap, subst, arith, lock_queue, Word, word_of, Kind, LockNo}
use Names.{Mode, Looks, Gains, Readies, RecordOf, config_in, Description, Makes, MakesEach, Knowledge, seeing, Spins}
use Names.{ComesIn, Contends, FindsOut, Takes, IsGoing, counts, looked, its_chain, chain_place, readied, found_waits}
use Names.{HasWaited, waits_none, IsCovered, as_taken, AsksOwner, asks, nobody, LooksOn, looks_alone, tries_too}
use Names.{LooksAgain, of_mutex, of_shareable, HasChainOut, LeavesLooks, again, for_claim, owner_queued, TakesOn}
use Names.{TakeEnd, looks, takes_chain, comes_in, finds_out, in_round, kept_of, IsSeeking, HasSpun, SpinsThenGains}
use Names.{IsThere}
use Rattle.std.proofs.Common.{◌≡◌, ◌+◌, ◌-◌, ◌<◌, ◌≤◌, ◌∷◌, ◌∙◌}
use Rattle.lock_calls.proofs.Attempts.{seeking_on, looks_spun}
use Rattle.lock_calls.proofs.Looks.{each_append}
use Rattle.lock_calls.proofs.There.{seeking_still, chain_still, has_chain, come_kept, come_there, come_steps, quiet_there, contends}

-- 1. Looks

-- who asks for the owner has waited
pub asking_waits : (floor : Description) (word : Word) (queued : Bool) (old new : Knowledge)
    → AsksOwner floor word queued old new → HasWaited old new
asking_waits floor word queued old new (asks o owner view found) = found_waits floor o queued old new view found
asking_waits floor word queued old new (nobody none) = waits_none new

-- and who may look again,
pub again_waits : (floor : Description) (kind : Kind) (mode : Mode) (word : Word) (old new : Knowledge)
    → LooksAgain floor kind mode word old new → HasWaited old new
again_waits floor kind mode word old new (of_mutex mutex asked) = asking_waits floor word false old new asked
again_waits floor kind mode word old new (of_shareable no_mutex others) = waits_none new

-- and who finds out how many looks are left
pub leaving_waits : (floor : Description) (kind : Kind) (mode : Mode) (word : Word) (left rest : ℕ)
    (old new : Knowledge)
    → LeavesLooks floor kind mode word left rest old new → HasWaited old new
leaving_waits floor kind mode word left rest old new (again x) = again_waits floor kind mode word old new x
leaving_waits floor kind mode word left rest old new (for_claim by_claim) = waits_none new
leaving_waits floor kind mode word left rest old new (owner_queued mutex asked) =
    asking_waits floor word true old new asked

-- fewer looks are left then
pub fewer_left : (floor : Description) (kind : Kind) (mode : Mode) (word : Word) (left rest : ℕ) (old new : Knowledge)
    → LeavesLooks floor kind mode word left rest old new → rest ≤ left - 1
fewer_left floor kind mode word left rest old new (again x) = omega arith
fewer_left floor kind mode word left rest old new (for_claim by_claim) = omega arith
fewer_left floor kind mode word left rest old new (owner_queued mutex asked) = omega arith

-- looks in a round are one or two
pub looks_in_it : (floor : Description) (l : ℕ) (mode : Mode) (n : ℕ) (word : Word) (old seen : Knowledge)
    → LooksOn floor l mode n word old seen
    → (1 ≤ n) × (n ≤ 2) × MakesEach floor (replicate n (Looks old.thread l true ∷ [])) old seen
looks_in_it floor l mode n word old seen (looks_alone w course look saw) =
    (omega arith, omega arith, (seen, look, refl))
looks_in_it floor l mode n word old seen (tries_too mid from found course look saw miss found_it other) =
    (omega arith, omega arith, (mid, look, (seen, miss, refl)))

pub spins_on : (floor : Description) (l : LockNo) (mode : Mode) (left n rest : ℕ) (word : Word) → 1 ≤ left
    → (old seen new : Knowledge) → IsSeeking l.0 old → old.share.doing.looks + (left + left) ≤ 98
    → LooksOn floor l.0 mode n word old seen → HasSpun floor l.0 n old seen
    → LeavesLooks floor ((config_in floor).kind l.0) mode word left rest seen new
    → TakesOn floor l mode (Spins left) (Spins rest) old new
spins_on floor l mode left n rest word some old seen new m room on x leaves =
    let two : n ≤ 2 = (looks_in_it floor l.0 mode n word old seen on).1 in
    let kind = (config_in floor).kind l.0 in
    let waited = leaving_waits floor kind mode word left rest seen new leaves in
    let fewer : rest ≤ left - 1 = fewer_left floor kind mode word left rest seen new leaves in
    let all : seen.share.doing.looks ≡ n + old.share.doing.looks = looks_spun floor l.0 n old seen x in
    let same : new.share.doing.looks ≡ seen.share.doing.looks =
    ap (λ (k : Knowledge). k.share.doing.looks) waited.view in
    record {
      there = (
        seeking_still l.0 seen new waited.view (seeking_on floor l.0 n old seen x m),
        omega (arith, same, all, some, fewer, two, room),
      );
      kept = ap kept_of waited.view ∙ ap kept_of x.knows;
      leg = looks seen left n rest word some on leaves;
    }

-- the gain
pub spun_end : (floor : Description) (l : LockNo) (mode : Mode) (left : ℕ) → 1 ≤ left → (old v : Knowledge)
    → SpinsThenGains floor (as_taken l mode) 1 old v → TakeEnd floor l mode (Spins left) old v
spun_end floor l mode left some old v s =
    in_round left some
    (each_append floor (replicate 1 (Looks old.thread l.0 true ∷ [])) ((Gains old.thread l.0 mode false ∷ []) ∷ []) old
    s.between v s.spun.steps (v, s.step, refl))

-- 2. The chain

module _ (floor : Description) (l : LockNo) (mode : Mode) (old new : Knowledge) (m : IsSeeking l.0 old)
    (room : old.share.doing.looks + (0 + 0) ≤ 98) where
  pub comes_on : Takes floor (its_chain floor (lock_queue l.0)) (chain_place floor (lock_queue l.0)) old new
      → TakesOn floor l mode (Spins 0) ComesIn old new
  comes_on one = record {
    there = has_chain floor l.0 old m new one;
    kept = ap kept_of one.view;
    leg = takes_chain one.step;
  }

  pub stays_spinning : new ≡ seeing new.seen old → FindsOut floor (its_chain floor (lock_queue l.0)) old new
      → TakesOn floor l mode (Spins 0) (Spins 0) old new
  stays_spinning view finds = record {
    there = (
      seeking_still l.0 old new view m,
      omega (arith, room, ap (λ (k : Knowledge). k.share.doing.looks) view),
    );
    kept = ap kept_of view;
    leg = finds_out (Spins 0) (its_chain floor (lock_queue l.0)) (refl, refl) view finds;
  }

-- 3. The own record

pub stays_coming : (floor : Description) (l : LockNo) (mode : Mode) (who : ℕ) (old new : Knowledge) → who ≡ old.thread
    → HasChainOut floor l.0 old → new ≡ seeing new.seen old → FindsOut floor (RecordOf who) old new
    → TakesOn floor l mode ComesIn ComesIn old new
stays_coming floor l mode who old new is m view finds = record {
  there = chain_still floor l.0 old new view m;
  kept = ap kept_of view;
  leg = finds_out ComesIn (RecordOf who) (ap RecordOf is) view finds;
}

pub comes_there_on : (floor : Description) (l : LockNo) (mode : Mode) → IsCovered floor l.0 mode → floor.chains ≡ 1
    → (a : Knowledge)
    → (m : HasChainOut floor l.0 a) → (going : IsGoing a) → (who : ℕ) → who < length floor.threads
    → (is : who ≡ a.thread) → a.description ≡ floor → (b : Knowledge) → (two : Takes floor (RecordOf who) who a b)
    → (w : Knowledge) → (view : w ≡ seeing w.seen (readied true b))
    → Makes floor (Readies b.thread (lock_queue l.0) ∷ []) b w → (seen : ℕ) (z : Knowledge)
    → z ≡ seeing z.seen (looked w l.0 (word_of seen)) → Makes floor (Looks w.thread l.0 (counts w l.0) ∷ []) w z
    → TakesOn floor l mode ComesIn (Contends seen) a z
comes_there_on floor l mode covered one a m going who low is mine b two w view step seen z saw look =
    let there : IsThere floor l.0 w = come_there floor l.0 a m going who is b two w view low in
    let kept : kept_of w ≡ kept_of a = come_kept floor l.0 a m going who is b two w view in
    let its : w.description ≡ floor =
    ap (λ (k : Knowledge). k.description) view ∙ ap (λ (k : Knowledge). k.description) two.view ∙ mine in
    let some_chains : 1 ≤ floor.chains = omega (arith, one) in
    record {
      there = contends floor l.0 mode seen w z covered its some_chains there saw look;
      kept = ap kept_of saw ∙ kept;
      leg = comes_in seen
          (come_steps floor l.0 a m going who is b two w view z step
          (subst (λ c. Makes floor (Looks w.thread l.0 c ∷ []) w z)
          (quiet_there floor l.0 mode w covered there its some_chains) look));
    }
