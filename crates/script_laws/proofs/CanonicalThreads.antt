-- The lines of an open thread's operations lead, wherever its locks and channels are known, to that thread. Each line
-- that the thread adds keeps this.
use Rattle.script_laws.proofs.Names
use Names.{ℕ, zero, suc, Bool, true, false, cond, List, [], length, slice_get, slice_set, Some, refl, sym, ap, subst}
use Names.{arith, length-append, append_assoc, append-nil, codes, All, pointwise, same_Some, length-set, All-nil}
use Names.{All-cons, All-head, All-tail, All-push, most_operations, greatest_priority, of_locks, held_after}
use Names.{held_behind, held_through, may_be_held, tests_of, operation_tests, without_lock, Passes, passed, line_of}
use Names.{operation_line, operation_lines, Known, OpenThread, Block, without_block, is_same_held, Declared, LockDecl}
use Names.{ChanDecl, ThreadDecl, Op, Try, EndTry, OfLocks, NoLock, Acquires, ClosesBlock, Releases, EditsAt, ReadsAt}
use Names.{SleepsOn, WakesOn, Mode, Plan, Held, LockNo, ThreadNo}
use Rattle.std.proofs.Common.{◌≡◌, ◌+◌, ◌≤◌, ◌==◌, ◌∷◌, ◌++◌, ◌∙◌}
use Rattle.script_laws.proofs.AcceptedBlocks.{IsSoundOpen, innermost_try}
use Rattle.script_laws.proofs.CanonicalReading.{Leads, leads_nowhere, leads_on}
use Rattle.script_laws.proofs.CanonicalOperations.{IsReadable, behind, Knows, the_plan, inside, operation_leads, endtry_leads}

-- 1. Lines of operations

-- where a try goes on changes no line
lines_elsewhere : (plan : Plan) (held : List Held) (ops : List Op) (at : ℕ) (l : LockNo) (mode : Mode) (past next : ℕ)
    → slice_get ops at ≡ Some (Try l mode past)
    → operation_lines plan held (slice_set ops at (Try l mode next)) ≡ operation_lines plan held ops
lines_elsewhere plan held [] at l mode past next e = refl
lines_elsewhere plan held (o ∷ ops) zero l mode past next e =
    ap (λ (x : Op). operation_line plan held x ++ operation_lines plan (held_behind x held) ops)
    (sym (same_Some o (Try l mode past) e))
lines_elsewhere plan held (o ∷ ops) (suc at) l mode past next e =
    ap (λ (r : List ℕ). operation_line plan held o ++ r)
    (lines_elsewhere plan (held_behind o held) ops at l mode past next e)

lines_push : (plan : Plan) (held : List Held) (ops : List Op) (op : Op) → operation_lines plan held (ops ++ op ∷ [])
    ≡ operation_lines plan held ops ++ operation_line plan (held_through ops held) op
lines_push plan held [] op = append-nil (operation_line plan held op)
lines_push plan held (o ∷ ops) op =
    ap (λ (r : List ℕ). operation_line plan held o ++ r) (lines_push plan (held_behind o held) ops op)
    ∙ sym (append_assoc (operation_line plan held o) (operation_lines plan (held_behind o held) ops)
    (operation_line plan (held_through ops (held_behind o held)) op))

-- 2. A thread that its lines lead to

-- a thread as it begins
abbrev pub begun : OpenThread → OpenThread
begun t = record { name = t.name; base = t.base; ops = []; held = []; blocks = [] }

pub record IsReplayed (locks : List LockDecl) (chans : List ChanDecl) (t : OpenThread) : Type 0 where
  pub base : t.base ≤ greatest_priority
  pub may : All (λ h. may_be_held locks h.mode h.l ≡ true) t.held
  pub leads : (classes : List (List ℕ)) (declared : List ThreadDecl) (schedule : List ThreadNo)
      (names : List (List ℕ × Declared)) (threads : List ThreadDecl) (knows : Knows locks chans names) (m : ℕ)
      → m + length t.ops ≤ most_operations
      → Leads (inside locks chans classes declared schedule names threads knows m (begun t))
      (operation_lines (the_plan locks chans classes declared schedule names threads knows) [] t.ops)
      (inside locks chans classes declared schedule names threads knows (m + length t.ops) t)

pub begin_replayed : (locks : List LockDecl) (chans : List ChanDecl) (name : List ℕ) (base : ℕ) → base
    ≤ greatest_priority → IsReplayed locks chans (record { name = name; base = base; ops = []; held = []; blocks = [] })
begin_replayed locks chans name base small = record {
  base = small;
  may = All-nil _;
  leads = λ classes declared schedule names threads knows m few.
      let t : OpenThread = record { name = name; base = base; ops = []; held = []; blocks = [] } in
      let here : Known = inside locks chans classes declared schedule names threads knows m t in
      subst (λ (n : ℕ). Leads here [] (inside locks chans classes declared schedule names threads knows n t)) {x = m}
      (omega arith) (leads_nowhere here);
}

module _ (locks : List LockDecl) (chans : List ChanDecl) (t : OpenThread) (sound : IsSoundOpen locks chans t)
    (h : IsReplayed locks chans t) where
  abbrev May : Held → Type 0
  May h = may_be_held locks h.mode h.l ≡ true

  without_may : (l : ℕ) (held : List Held) → All May held → All May (without_lock l held)
  without_may l [] m = All-nil May
  without_may l (x ∷ held) m = go (x.l.0 == l) (without_may l held (All-tail May x held m))
    where
      go : (b : Bool) → All May (without_lock l held) → All May (cond b held (x ∷ without_lock l held))
      go true more = All-tail May x held m
      go false more = All-cons May x _ (All-head May x held m) more

  may_after : (o : OfLocks) → Passes (tests_of locks chans o t.held) → All May (held_after o t.held)
  may_after NoLock fits = h.may
  may_after (Acquires x) fits = All-push May t.held _ h.may (passed _ _ (passed _ _ fits).1).0
  may_after ClosesBlock fits = h.may
  may_after (Releases l) fits = without_may l.0 t.held h.may
  may_after (EditsAt l key) fits = h.may
  may_after (ReadsAt l key) fits = h.may
  may_after (SleepsOn c) fits = h.may
  may_after (WakesOn c) fits = h.may

  pub operation_replayed : (op : Op) → IsReadable t op → Passes (operation_tests locks chans op t.held)
      → IsReplayed locks chans (behind t op)
  operation_replayed op r fits = record {
    base = h.base;
    may = may_after (of_locks op) fits;
    leads = λ classes declared schedule names threads knows m few.
        let plan = the_plan locks chans classes declared schedule names threads knows in
        let at : ℕ → OpenThread → Known = inside locks chans classes declared schedule names threads knows in
        let size : length (t.ops ++ op ∷ []) ≡ length t.ops + 1 = length-append t.ops (op ∷ []) in
        let lines : operation_lines plan [] t.ops ++ operation_line plan t.held op
        ≡ operation_lines plan [] (t.ops ++ op ∷ []) =
        sym (lines_push plan [] t.ops op
        ∙ ap (λ (hs : List Held). operation_lines plan [] t.ops ++ operation_line plan hs op) sound.held) in
        let count : suc (m + length t.ops) ≡ m + length (t.ops ++ op ∷ []) = omega (arith, size) in
        let first = h.leads classes declared schedule names threads knows m (omega (arith, few, size)) in
        let next = operation_leads locks chans classes declared schedule names threads knows (m + length t.ops) t
        (omega (arith, few, size)) op h.may r fits in
        subst
        (λ (n : ℕ). Leads (at m (begun t)) (operation_lines plan [] (t.ops ++ op ∷ [])) (at n (behind t op))) count
        (subst (λ (bs : List ℕ). Leads (at m (begun t)) bs (at (suc (m + length t.ops)) (behind t op))) lines
        (leads_on (at m (begun t)) (at (m + length t.ops) t) (at (suc (m + length t.ops)) (behind t op))
        (operation_lines plan [] t.ops) (operation_line plan t.held op) first next));
  }

  -- a block is closed
  module _ (b : Block) (bs : List Block) (inside_it : t.blocks ≡ b ∷ bs)
      (same : pointwise is_same_held t.held b.before ≡ true) where
    abbrev led : Op
    led = Try b.lock b.mode (suc (length t.ops))

    abbrev closed : List Op
    closed = slice_set t.ops b.opened_at led

    lines_closed : (plan : Plan) → operation_lines plan [] closed ≡ operation_lines plan [] t.ops
    lines_closed plan =
        lines_elsewhere plan [] t.ops b.opened_at b.lock b.mode 0 (suc (length t.ops))
        (innermost_try locks chans t b bs sound inside_it)

    pub endtry_replayed : IsReplayed locks chans (without_block t (b ∷ bs))
    endtry_replayed = record {
      base = h.base;
      may = h.may;
      leads = λ classes declared schedule names threads knows m few.
          let plan = the_plan locks chans classes declared schedule names threads knows in
          let at : ℕ → OpenThread → Known = inside locks chans classes declared schedule names threads knows in
          let new : OpenThread = without_block t (b ∷ bs) in
          let size : length (closed ++ EndTry ∷ []) ≡ length t.ops + 1 = length-append closed (EndTry ∷ [])
          ∙ ap (λ (n : ℕ). n + 1) (length-set t.ops b.opened_at led) in
          let lines : operation_lines plan [] t.ops ++ line_of (codes "endtry") []
          ≡ operation_lines plan [] (closed ++ EndTry ∷ []) =
          sym (lines_push plan [] closed EndTry ∙ ap (λ (r : List ℕ). r ++ line_of (codes "endtry") []) (lines_closed plan)) in
          let count : suc (m + length t.ops) ≡ m + length (closed ++ EndTry ∷ []) = omega (arith, size) in
          let first = h.leads classes declared schedule names threads knows m (omega (arith, few, size)) in
          let next = endtry_leads locks chans classes declared schedule names threads knows (m + length t.ops) t
          (omega (arith, few, size)) b bs inside_it same in
          subst (λ (n : ℕ). Leads (at m (begun t)) (operation_lines plan [] (closed ++ EndTry ∷ [])) (at n new)) count
          (subst (λ (x : List ℕ). Leads (at m (begun t)) x (at (suc (m + length t.ops)) new)) lines
          (leads_on (at m (begun t)) (at (m + length t.ops) t) (at (suc (m + length t.ops)) new)
          (operation_lines plan [] t.ops) (line_of (codes "endtry") []) first next));
    }

-- a thread that has ended
pub record IsEnded (locks : List LockDecl) (chans : List ChanDecl) (d : ThreadDecl) : Type 0 where
  pub last : OpenThread
  pub replayed : IsReplayed locks chans last
  pub closed : last.blocks ≡ []
  pub released : last.held ≡ []
  pub its : d ≡ record { name = last.name; base = record { 0 = last.base }; ops = last.ops }
