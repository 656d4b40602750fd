use Rattle.step_machine.proofs.Names.{Refuses, after_refuse, keeps}
use Rattle.step_machine.proofs.Ordering.{refusal_shown}
use Rattle.step_machine.proofs.machine.Machine.refuse.Goals as goal

pub stamp-requires-clause-may : goal.stamp-requires-clause-may
stamp-requires-clause-may c =
    let m = c.requires.may in
    let t = c.args.t.0 in
    let l = c.args.l.0 in
    let k = c.args.held.0 in
    (m.0, after_refuse m.1 t l k, refusal_shown t l k m.2, keeps m.0 m.1 (Refuses t l k) m.4.0 m.3, m.4.1.0)

pub returns-clause-steps : goal.returns-clause-steps
returns-clause-steps c d s u h lawful may =
    let t = c.args.t.0 in
    let l = c.args.l.0 in
    let k = c.args.held.0 in
    c.stamp.ensures.step d (after_refuse s t l k) (refusal_shown t l k h)
    (keeps d s (Refuses t l k) may.0 lawful) may.1.0
