-- The operations of a thread whose `end` hasn't come: each passes its tests on what those before it lead to, and each
-- try's block is closed by its endtry, or is one of those that are open. One operation more keeps that, and so does
-- an endtry, which closes the innermost block.
use Rattle.script_laws.proofs.Names
use Names.{ℕ, zero, suc, Bool, true, false, List, [], length, take, slice_get, slice_set, Some, None, refl, sym, ap}
use Names.{subst, inl, inr, arith, length-append, list_any, pointwise, same_Some, slice_get_within, slice_get_past}
use Names.{cases_eq, eq-eqb, ne_eqb, true≢false, or_left, or_from, take_all, take-append-le, set-append_left}
use Names.{length-set, held_behind, held_through, held_of, operation_tests, IsBlock, EndsBlock, AreNested, Fit, Passes}
use Names.{least_code, OpenThread, Block, blocks_behind, without_block, is_same_held, Held, LockNo, Mode, LockDecl}
use Names.{ChanDecl, Op, Try, EndTry}
use Rattle.std.proofs.Common.{◌≡◌, ◌≢◌, ◌+◌, ◌<◌, ◌≤◌, ◌∷◌, ◌++◌, ◌∙◌}
use Rattle.std.specs.Prelude.{◌==◌}
use Rattle.script_laws.proofs.AcceptedLists.{get_push, get_push_other, get_set, get_set_other, same_list, held_through-push}

-- 1. Operations that differ at one place

-- Operations that say what others say but at one place, and lead to what the others lead to as far as these go.
record Differ (ops new : List Op) (at : ℕ) (op : Op) : Type 0 where
  here : slice_get new at ≡ Some op
  other : (n : ℕ) → n ≢ at → slice_get new n ≡ slice_get ops n
  held : (n : ℕ) → n ≤ length ops → held_through (take n new) [] ≡ held_through (take n ops) []

-- one more,
pushed : (ops : List Op) (op : Op) → Differ ops (ops ++ op ∷ []) (length ops) op
pushed ops op = record {
  here = get_push ops op;
  other = get_push_other ops op;
  held = λ n within. ap (λ os. held_through os []) (take-append-le n ops (op ∷ []) within);
}

-- and one that lets a try go on elsewhere
led_elsewhere : (ops : List Op) (at n : ℕ) (l : LockNo) (mode : Mode) (past next : ℕ) (hs : List Held)
    → slice_get ops at ≡ Some (Try l mode past)
    → held_through (take n (slice_set ops at (Try l mode next))) hs ≡ held_through (take n ops) hs
led_elsewhere [] at n l mode past next hs e = refl
led_elsewhere (o ∷ ops) zero zero l mode past next hs e = refl
led_elsewhere (o ∷ ops) zero (suc n) l mode past next hs e =
    ap (λ (x : Op). held_through (take n ops) (held_behind x hs)) (sym (same_Some o (Try l mode past) e))
led_elsewhere (o ∷ ops) (suc at) zero l mode past next hs e = refl
led_elsewhere (o ∷ ops) (suc at) (suc n) l mode past next hs e =
    led_elsewhere ops at n l mode past next (held_behind o hs) e

gone_elsewhere : (ops : List Op) (at : ℕ) (l : LockNo) (mode : Mode) (past next : ℕ)
    → slice_get ops at ≡ Some (Try l mode past) → Differ ops (slice_set ops at (Try l mode next)) at (Try l mode next)
gone_elsewhere ops at l mode past next e = record {
  here = get_set ops at (Try l mode next) _ e;
  other = get_set_other ops at (Try l mode next);
  held = λ n within. led_elsewhere ops at n l mode past next [] e;
}

-- What the operations have at their places and the new one at its own, the new ones have at each.
each_place : (ops new : List Op) (at : ℕ) (op : Op) → Differ ops new at op → (P : ℕ → Op → Type 0) → P at op
    → ((n : ℕ) (o : Op) → n ≢ at → slice_get ops n ≡ Some o → P n o)
    → (n : ℕ) (o : Op) → slice_get new n ≡ Some o → P n o
each_place ops new at op d P here other n o e =
    elim (cases_eq n at) [
      | inl q ↦ rw q (subst (P at) (same_Some op o (sym d.here ∙ (rw q at e))) here)
      | inr q ↦ other n o q (sym (d.other n q) ∙ e)
    ]

-- what all operations lead to
all_held : (ops : List Op) → held_through (take (length ops) ops) [] ≡ held_through ops []
all_held ops = ap (λ os. held_through os []) (take_all (length ops) ops (omega arith))

-- 2. What is sound so far

-- the try at a place is that of an open block
abbrev is_open : ℕ → List Block → Bool
is_open n bs = list_any (λ b. b.opened_at == n) bs

-- the tries before a place go on at it at the furthest; an open one goes on nowhere yet, and so at 0
abbrev GoOnBefore : ℕ → List Op → Type 0
GoOnBefore at ops = (n : ℕ) (l : LockNo) (mode : Mode) (past : ℕ) → slice_get ops n ≡ Some (Try l mode past) → n < at
    → past ≤ at

-- an open block's try stands at its place, goes on nowhere yet, and finds held what the block says
record IsOpen (ops : List Op) (b : Block) : Type 0 where
  its_try : slice_get ops b.opened_at ≡ Some (Try b.lock b.mode 0)
  before : held_through (take b.opened_at ops) [] ≡ b.before
  earlier : GoOnBefore b.opened_at ops

-- so do those of all open blocks, and each stands behind the one around it
abbrev AreOpen : List Op → ℕ → List Block → Type 0
AreOpen ops n [] = Unit {0}
AreOpen ops n (b ∷ bs) = (b.opened_at < n) × IsOpen ops b × AreOpen ops b.opened_at bs

-- each operation passes its tests on what those before it lead to
abbrev EachPasses : List LockDecl → List ChanDecl → List Op → Type 0
EachPasses locks chans ops = (n : ℕ) (op : Op) → slice_get ops n ≡ Some op
    → Passes (operation_tests locks chans op (held_of ops n))

-- a try that isn't that of an open block has its block
abbrev IsClosed : List Op → List Block → ℕ → Op → Type 0
IsClosed ops bs n op = (l : LockNo) (mode : Mode) (past : ℕ) → op ≡ Try l mode past → is_open n bs ≡ false
    → IsBlock ops n past

abbrev TriesAreClosed : List Op → List Block → Type 0
TriesAreClosed ops bs = (n : ℕ) (op : Op) → slice_get ops n ≡ Some op → IsClosed ops bs n op

-- each endtry ends a block
abbrev EndtriesEnd : List Op → Type 0
EndtriesEnd ops = (n : ℕ) → slice_get ops n ≡ Some EndTry → EndsBlock ops n

-- what the open thread's lines say fits what it holds
pub record IsSoundOpen (locks : List LockDecl) (chans : List ChanDecl) (t : OpenThread) : Type 0 where
  each : EachPasses locks chans t.ops
  tries : TriesAreClosed t.ops t.blocks
  endtries : EndtriesEnd t.ops
  nested : AreNested t.ops
  all : GoOnBefore (length t.ops) t.ops
  opened : AreOpen t.ops (length t.ops) t.blocks
  pub held : held_through t.ops [] ≡ t.held

-- the try of the innermost open block
pub innermost_try : (locks : List LockDecl) (chans : List ChanDecl) (t : OpenThread) (b : Block) (bs : List Block)
    → IsSoundOpen locks chans t → t.blocks ≡ b ∷ bs → slice_get t.ops b.opened_at ≡ Some (Try b.lock b.mode 0)
innermost_try locks chans t b bs h inside = (subst (AreOpen t.ops (length t.ops)) inside h.opened).1.its_try

-- 3. What operations that differ at one place keep

module _ (ops new : List Op) (at : ℕ) (op : Op) (d : Differ ops new at op) where
  each_kept : (locks : List LockDecl) (chans : List ChanDecl) → at ≤ length ops
      → Passes (operation_tests locks chans op (held_of ops at)) → EachPasses locks chans ops
      → EachPasses locks chans new
  each_kept locks chans within here each =
      each_place ops new at op d (λ n o. Passes (operation_tests locks chans o (held_through (take n new) [])))
      (rw (d.held at within) here)
      (λ n o other e. rw (d.held n (omega (arith, slice_get_within ops n o e))) (each n o e))

  block_kept : (n past : ℕ) → slice_get ops at ≢ Some EndTry → IsBlock ops n past → IsBlock new n past
  block_kept n past no_endtry b =
      let within = slice_get_within ops b.end EndTry b.endtry in
      record {
        end = b.end;
        behind = b.behind;
        endtry = d.other b.end (λ e. no_endtry (rw (← e) b.endtry)) ∙ b.endtry;
        goes_on = b.goes_on;
        leaves = d.held b.end (omega (arith, within)) ∙ b.leaves ∙ sym (d.held n (omega (arith, within, b.behind)));
      }

  ends_kept : (n : ℕ) → ((l : LockNo) (mode : Mode) → slice_get ops at ≢ Some (Try l mode (suc n))) → EndsBlock ops n
      → EndsBlock new n
  ends_kept n no_try b = grind arith

  open_kept : (n m : ℕ) (bs : List Block) → n ≤ at → n ≤ m → AreOpen ops n bs → AreOpen new m bs
  open_kept n m [] l k h = tt
  open_kept n m (b ∷ bs) l k h = (
    omega (arith, h.0),
    record {
      its_try = d.other b.opened_at (λ e. omega (arith, h.0)) ∙ h.1.its_try;
      before = d.held b.opened_at (omega (arith, slice_get_within ops b.opened_at _ h.1.its_try)) ∙ h.1.before;
      earlier =
          λ j a mode past e i. h.1.earlier j a mode past (sym (d.other j (λ q. omega (arith, h.0, l, i, q))) ∙ e) i;
    },
    open_kept b.opened_at b.opened_at bs (omega (arith, h.0)) (omega arith) h.2,
  )

-- 4. One operation more

-- what an operation's words may say: a try that goes on nowhere yet, and no endtry
abbrev pub IsNew : Op → Type 0
IsNew (Try l mode past) = past ≡ 0
IsNew EndTry = ⊥
IsNew other = Unit {0}

-- a block more may be open, that of the operation itself
still_open : (t : OpenThread) (op : Op) (n : ℕ) → is_open n (blocks_behind t op) ≡ false → is_open n t.blocks ≡ false
still_open t op n h = grind arith

opens : (t : OpenThread) (l : LockNo) (mode : Mode) (past : ℕ)
    → is_open (length t.ops) (blocks_behind t (Try l mode past)) ≡ true
opens t l mode past =
    or_left (length t.ops == length t.ops) (is_open (length t.ops) t.blocks) (eq-eqb (length t.ops) (length t.ops) refl)

open_push : (locks : List LockDecl) (chans : List ChanDecl) (t : OpenThread) (op : Op) → IsSoundOpen locks chans t
    → IsNew op → AreOpen (t.ops ++ op ∷ []) (length (t.ops ++ op ∷ [])) (blocks_behind t op)
open_push locks chans t (Try l mode past) h is_new =
    let op : Op = Try l mode past in
    let d = pushed t.ops op in (
      omega (arith, length-append t.ops (op ∷ [])),
      record {
        its_try = d.here ∙ rw is_new refl;
        before = d.held (length t.ops) (omega arith) ∙ all_held t.ops ∙ h.held;
        earlier = λ n k m next e i. h.all n k m next (sym (d.other n (λ q. omega (arith, i, q))) ∙ e) i;
      },
      open_kept t.ops (t.ops ++ op ∷ []) (length t.ops) op d (length t.ops) (length t.ops) t.blocks (omega arith)
          (omega arith) h.opened,
    )
open_push locks chans t op h is_new =
    open_kept t.ops (t.ops ++ op ∷ []) (length t.ops) op (pushed t.ops op) (length t.ops) _ t.blocks (omega arith)
    (omega (arith, length-append t.ops (op ∷ []))) h.opened

module _ (locks : List LockDecl) (chans : List ChanDecl) (t : OpenThread) (op : Op)
    (h : IsSoundOpen locks chans t) where
  abbrev new : List Op
  new = t.ops ++ op ∷ []

  none_there : slice_get t.ops (length t.ops) ≡ None
  none_there = slice_get_past t.ops (length t.ops) (omega arith)

  each_push : Passes (operation_tests locks chans op t.held) → EachPasses locks chans new
  each_push passes =
      each_kept t.ops new (length t.ops) op (pushed t.ops op) locks chans (omega arith)
      (rw (all_held t.ops ∙ h.held) passes) h.each

  tries_push : TriesAreClosed new (blocks_behind t op)
  tries_push =
      each_place t.ops new (length t.ops) op (pushed t.ops op) (IsClosed new (blocks_behind t op))
      (λ l mode past q closed. absurd (true≢false (sym (opens t l mode past) ∙ (rw q at closed))))
      (λ n o other e l mode past q closed.
      block_kept t.ops new (length t.ops) op (pushed t.ops op) n past (λ end. cc (end, none_there))
      (h.tries n o e l mode past q (still_open t op n closed)))

  -- save for an endtry that comes
  endtries_push : (n : ℕ) → n ≢ length t.ops → slice_get new n ≡ Some EndTry → EndsBlock new n
  endtries_push n other e =
      ends_kept t.ops new (length t.ops) op (pushed t.ops op) n (λ l mode e. cc (e, none_there))
      (h.endtries n (sym (get_push_other t.ops op n other) ∙ e))

  -- where a try goes on that stands among them
  goes_on_at : IsNew op → (n : ℕ) (l : LockNo) (mode : Mode) (past : ℕ) → slice_get new n ≡ Some (Try l mode past)
      → past ≤ length t.ops
  goes_on_at is_new n l mode past e = elim (cases_eq n (length t.ops)) [
    | inl q ↦ let z = subst IsNew (same_Some op (Try l mode past) (sym (get_push t.ops op) ∙ (rw q at e))) is_new in
        omega (arith, z)
    | inr q ↦
        let there : slice_get t.ops n ≡ Some (Try l mode past) = sym (get_push_other t.ops op n q) ∙ e in
        h.all n l mode past there (slice_get_within t.ops n _ there)
  ]

  nested_push : IsNew op → AreNested new
  nested_push is_new n m l k outer inner past next e f i j =
      let z = goes_on_at is_new n l outer past e in
      let n_there : slice_get t.ops n
      ≡ Some (Try l outer past) = sym (get_push_other t.ops op n (λ q. omega (arith, q, i, j, z))) ∙ e in
      let m_there : slice_get t.ops m
      ≡ Some (Try k inner next) = sym (get_push_other t.ops op m (λ q. omega (arith, q, j, z))) ∙ f in
      h.nested n m l k outer inner past next n_there m_there i j

  pub operation_push : IsNew op → Passes (operation_tests locks chans op t.held)
      → IsSoundOpen locks chans (record t { ops = new; held = held_behind op t.held; blocks = blocks_behind t op })
  operation_push is_new passes = record {
    each = each_push passes;
    tries = tries_push;
    endtries = λ n e. elim (cases_eq n (length t.ops)) [
      | inl q ↦ absurd (subst IsNew (same_Some op EndTry (sym (get_push t.ops op) ∙ (rw q at e))) is_new)
      | inr q ↦ endtries_push n q e
    ];
    nested = nested_push is_new;
    all = λ n l mode past e i. omega (arith, goes_on_at is_new n l mode past e, length-append t.ops (op ∷ []));
    opened = open_push locks chans t op h is_new;
    held = held_through-push t.ops op [] ∙ ap (held_behind op) h.held;
  }

-- 5. A block is closed

-- an endtry of the open thread, which holds what it held before the innermost block's try
module _ (locks : List LockDecl) (chans : List ChanDecl) (t : OpenThread) (b : Block) (bs : List Block)
    (h : IsSoundOpen locks chans t) (inside : t.blocks ≡ b ∷ bs)
    (same : pointwise is_same_held t.held b.before ≡ true) where
  abbrev end : ℕ
  end = length t.ops

  -- first it comes as any operation does, and then the try goes on behind it
  abbrev ops : List Op
  ops = t.ops ++ EndTry ∷ []

  abbrev led : Op
  led = Try b.lock b.mode (suc end)

  abbrev closed : List Op
  closed = slice_set ops b.opened_at led

  size : length ops ≡ end + 1
  size = length-append t.ops (EndTry ∷ [])

  came : Differ t.ops ops end EndTry
  came = pushed t.ops EndTry

  still : AreOpen ops end (b ∷ bs)
  still = open_kept t.ops ops end EndTry came end end (b ∷ bs) (omega arith) (omega arith)
      (subst (AreOpen t.ops end) inside h.opened)

  went : Differ ops closed b.opened_at led
  went = gone_elsewhere ops b.opened_at b.lock b.mode 0 (suc end) still.1.its_try

  its_block : IsBlock closed b.opened_at (suc end)
  its_block = record {
    end = end;
    behind = still.0;
    endtry = went.other end (λ e. omega (arith, still.0, e)) ∙ came.here;
    goes_on = refl;
    leaves =
        went.held end (omega (arith, size)) ∙ came.held end (omega arith) ∙ all_held t.ops ∙ h.held
        ∙ same_list t.held b.before same
        ∙ sym (went.held b.opened_at (omega (arith, still.0, size)) ∙ still.1.before);
  }

  tries_close : TriesAreClosed closed bs
  tries_close =
      each_place ops closed b.opened_at led went (IsClosed closed bs)
      (λ l mode past q outside. let next : suc end ≡ past = cc in subst (IsBlock closed b.opened_at) next its_block)
      (λ n o other e l mode past q outside.
      let is_closed = or_from (b.opened_at == n) (is_open n bs) (ne_eqb b.opened_at n (λ e. other (sym e))) outside in
      block_kept ops closed b.opened_at led went n past (λ end. cc (end, still.1.its_try))
      (tries_push locks chans t EndTry h n o e l mode past q (rw inside is_closed)))

  endtries_close : EndtriesEnd closed
  endtries_close n e =
      elim (cases_eq n end) [
        | inl q ↦
            rw q (record { tried = b.opened_at; lock = b.lock; mode = b.mode; before = still.0; its_try = went.here })
        | inr q ↦
            each_place ops closed b.opened_at led went (λ n o. o ≡ EndTry → n ≢ end → EndsBlock closed n)
            (λ e. absurd (cc))
            (λ n o other there e q. ends_kept ops closed b.opened_at led went n
            (λ l mode e. absurd (cc (e, still.1.its_try)))
            (endtries_push locks chans t EndTry h n q (there ∙ ap (λ (x : Op). Some x) e)))
            n EndTry e refl q
      ]

  -- a try that isn't the block's stood there before
  there_before : (n : ℕ) (l : LockNo) (mode : Mode) (past : ℕ) → n ≢ b.opened_at
      → slice_get closed n ≡ Some (Try l mode past) → slice_get t.ops n ≡ Some (Try l mode past)
  there_before n l mode past other e =
      let there : slice_get ops n ≡ Some (Try l mode past) = sym (went.other n other) ∙ e in
      elim (cases_eq n end) [
        | inl q ↦ absurd (let z : Some EndTry ≡ Some (Try l mode past) = sym came.here
            ∙ subst (λ m. slice_get ops m ≡ Some (Try l mode past)) q there in cc)
        | inr q ↦ sym (came.other n q) ∙ there
      ]

  goes_behind : (l : LockNo) (mode : Mode) (past : ℕ) → slice_get closed b.opened_at ≡ Some (Try l mode past)
      → past ≡ suc end
  goes_behind l mode past e = let z : Some led ≡ Some (Try l mode past) = sym went.here ∙ e in cc

  all_close : GoOnBefore (length closed) closed
  all_close n l mode past e i = elim (cases_eq n b.opened_at) [
    | inl q ↦ omega (arith, goes_behind l mode past (rw q at e), size, length-set ops b.opened_at led)
    | inr q ↦
        let there = there_before n l mode past q e in
        omega
        (arith, h.all n l mode past there (slice_get_within t.ops n _ there), size, length-set ops b.opened_at led)
  ]

  nested_close : AreNested closed
  nested_close n m l k outer inner past next e f i j =
      elim (cases_eq n b.opened_at) [
        | inl q ↦
            let there = there_before m k inner next (λ z. omega (arith, q, z, i)) f in
            omega
            (arith, goes_behind l outer past (rw q at e), h.all m k inner next there (slice_get_within t.ops m _ there))
        | inr q ↦
            let there = there_before n l outer past q e in
            elim (cases_eq m b.opened_at) [
              | inl z ↦ absurd (omega (
                arith,
                z,
                i,
                j,
                (subst (AreOpen t.ops end) inside h.opened).1.earlier n l outer past there (omega (arith, z, i)),
              ))
              | inr z ↦ h.nested n m l k outer inner past next there (there_before m k inner next z f) i j
            ]
      ]

  each_close : EachPasses locks chans closed
  unfolding least_code
  each_close =
      let each = each_push locks chans t EndTry h refl in
      each_kept ops closed b.opened_at led went locks chans (omega (arith, still.0, size))
      (each b.opened_at _ still.1.its_try) each

  held_close : held_through closed [] ≡ t.held
  held_close =
      let all : take (length ops) closed
      ≡ closed = take_all (length ops) closed (omega (arith, length-set ops b.opened_at led)) in
      sym (ap (λ os. held_through os []) all) ∙ went.held (length ops) (omega arith) ∙ all_held ops
      ∙ held_through-push t.ops EndTry [] ∙ h.held

  pub endtry_sound : IsSoundOpen locks chans (without_block t (b ∷ bs))
  endtry_sound = subst (λ os. IsSoundOpen locks chans (record t { ops = os; blocks = bs }))
      (set-append_left t.ops (EndTry ∷ []) b.opened_at led still.0) (record {
        each = each_close;
        tries = tries_close;
        endtries = endtries_close;
        nested = nested_close;
        all = all_close;
        opened = open_kept ops closed b.opened_at led went b.opened_at _ bs (omega arith)
            (omega (arith, still.0, size, length-set ops b.opened_at led)) still.2;
        held = held_close;
      })

-- 6. From the thread's begin to its end

pub begin_sound : (locks : List LockDecl) (chans : List ChanDecl) (name : List ℕ) (base : ℕ)
    → IsSoundOpen locks chans (record { name = name; base = base; ops = []; held = []; blocks = [] })
begin_sound locks chans name base = grind arith

pub end_fits : (locks : List LockDecl) (chans : List ChanDecl) (t : OpenThread) → IsSoundOpen locks chans t
    → t.blocks ≡ [] → t.held ≡ [] → Fit locks chans t.ops
end_fits locks chans t h none released = record {
  each = h.each;
  blocks = λ n l mode past e. h.tries n (Try l mode past) e l mode past refl (ap (is_open n) none);
  endtries = h.endtries;
  nested = h.nested;
  released = all_held t.ops ∙ h.held ∙ released;
}
