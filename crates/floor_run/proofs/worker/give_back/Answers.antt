use Rattle.floor_run.proofs.Names.{suc, List, [], length, slice_get, Some, sym, ap, arith, same_Some, Held}
use Rattle.std.proofs.Common.{◌≡◌, ◌-◌, ◌∷◌, ◌++◌, ◌∙◌}
use Rattle.floor_run.proofs.Cutting.{may_give_back, gives_back, fewer_left}
use Rattle.floor_run.proofs.worker.give_back.Goals as goal

-- the locks before the last
last_of : (hs : List Held) (h : Held) → slice_get hs (length hs - 1) ≡ Some h
    → (front : List Held) × (hs ≡ front ++ h ∷ [])
last_of [] h e = absurd cc
last_of (x ∷ []) h e = ([], ap (λ y. y ∷ []) (same_Some x h e))
last_of (x ∷ y ∷ ys) h e =
    let before : suc (length (y ∷ ys) - 1) ≡ length (x ∷ y ∷ ys) - 1 = omega arith in
    let r = last_of (y ∷ ys) h (ap (slice_get (x ∷ y ∷ ys)) before ∙ e) in
    (x ∷ r.0, ap (λ zs. x ∷ zs) r.1)

pub release_held-requires-clause-may : goal.release_held-requires-clause-may
release_held-requires-clause-may g c =
    let r = last_of c.held.result.now c.in-Some.last.now (sym c.in-Some.ensures.value) in
    may_give_back c.args.plan.now c.args.floor.now c.requires.given c.requires.proper
    c.args.pass.now.view.thread c.loop-last.pass c.loop-last.invariant r.0 c.in-Some.last.now (sym c.held.ensures ∙ r.1)

pub loop-last-preserved : goal.loop-last-preserved
loop-last-preserved g c =
    let r = last_of c.held.result.now c.in-Some.last.now (sym c.in-Some.ensures.value) in
    gives_back c.args.plan.now c.args.floor.now c.requires.given c.requires.proper
    c.args.pass.now.view.thread c.loop-last.pass c.loop-last.invariant r.0 c.in-Some.last.now (sym c.held.ensures ∙ r.1)
    c.release_held.new.pass c.release_held.ensures.ready c.release_held.ensures.entry

pub loop-last-smaller : goal.loop-last-smaller
loop-last-smaller g c =
    let r = last_of c.held.result.now c.in-Some.last.now (sym c.in-Some.ensures.value) in
    fewer_left c.args.plan.now c.args.floor.now c.requires.given c.requires.proper
    c.args.pass.now.view.thread c.loop-last.pass c.loop-last.invariant r.0 c.in-Some.last.now (sym c.held.ensures ∙ r.1)
    c.release_held.new.pass c.release_held.ensures.entry
