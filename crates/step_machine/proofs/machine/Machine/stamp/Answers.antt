use Rattle.step_machine.proofs.Names.{ℕ, List, [], length, sym, ap, subst, arith, length-append, Entry, Machine}
use Rattle.std.proofs.Common.{◌≡◌, ◌+◌, ◌-◌, ◌<◌, ◌≤◌, ◌∷◌, ◌++◌, ◌∙◌}
use Rattle.step_machine.proofs.Stamping.{stamped, asides_kept}
use Rattle.step_machine.proofs.machine.Machine.stamp.Goals as goal

room_kept : (es : List Entry) (e : Entry) (spare : ℕ) → 1 ≤ spare
    → length (es ++ e ∷ []) + (spare - 1) ≡ length es + spare
room_kept es e spare some = omega (arith, length-append es (e ∷ []))

pub edit-requires-clause-thread : goal.edit-requires-clause-thread
edit-requires-clause-thread c =
    let m = c.requires.may in
    subst (λ (n : ℕ). c.args.t.0 < n) (sym m.2.threads.threads) m.4.thread

pub put-requires : goal.put-requires
put-requires c = subst (λ (n : Machine). 1 ≤ n.log.spare) (sym c.edit.ensures.others) c.requires.room

pub returns-clause-step : goal.returns-clause-step
returns-clause-step c k s h lawful g =
    let e : Entry = record { ticket = c.len-ticket.result; thread = c.args.t; event = c.args.event } in
    let kept = c.edit.ensures.others in
    let entries = ap (λ b. b.entries) c.put.ensures ∙ ap (λ (n : Machine). n.log.entries ++ e ∷ []) kept in
    let ticket = c.len-ticket.ensures.len ∙ ap (λ (n : Machine). length n.log.entries) kept in
    stamped c.args.self.now (record c.edit.new.self { log = c.put.new.self }) k s c.args.t c.args.event
    c.len-ticket.result (ap (λ (n : Machine). record n { log = c.put.new.self }) kept) c.edit.ensures.threads
    (ap (λ x. x.present) c.edit.ensures.tables) entries ticket h lawful g

pub returns-clause-progress : goal.returns-clause-progress
returns-clause-progress c = asides_kept c.args.event c.args.t.0 c.args.self.now.threads.items
    c.edit.new.self.threads.items c.edit.ensures.threads

pub returns-clause-places : goal.returns-clause-places
returns-clause-places c = ap (λ x. x.places) c.edit.ensures.tables

pub returns-clause-room : goal.returns-clause-room
returns-clause-room c =
    let e : Entry = record { ticket = c.len-ticket.result; thread = c.args.t; event = c.args.event } in
    let kept = c.edit.ensures.others in
    let log = c.edit.new.self.log in
    let some : 1 ≤ log.spare = subst (λ (n : Machine). 1 ≤ n.log.spare) (sym kept) c.requires.room in
    ap (λ b. length b.entries + b.spare) c.put.ensures ∙ room_kept log.entries e log.spare some
    ∙ ap (λ (n : Machine). length n.log.entries + n.log.spare) kept
