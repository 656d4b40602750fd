use Rattle.lock_floor.proofs.Names.{position, sym, ap, held_there, none_held, Holds, holds_lock, hold_in, Knowledge}
use Rattle.lock_floor.proofs.Names.{Pass}
use Rattle.std.proofs.Common.{◌∙◌}
use Rattle.lock_floor.proofs.pass.PassOf+Slot+View+Description+Law.mode.Goals as goal

pub returns-in-Some : goal.returns-in-Some
returns-in-Some c =
    let items = c.self.inside.held.items in
    let there = ap (position (holds_lock c.args.l)) (sym c.deref.ensures.value) ∙ sym c.place_held.ensures
    ∙ c.in-Some.is in
    ap (λ h. Holds h.mode) c.index.ensures ∙ held_there c.args.l items c.in-Some.i c.index.result.now there
    ∙ ap (λ hs. hold_in hs c.args.l.0) c.self.invariant.held
    ∙ ap (λ (p : Pass Knowledge). hold_in p.view.share.held c.args.l.0) c.self.view_is

pub returns-in-None : goal.returns-in-None
returns-in-None c =
    let items = c.self.inside.held.items in
    let nowhere = ap (position (holds_lock c.args.l)) (sym c.deref.ensures.value) ∙ sym c.place_held.ensures
    ∙ c.in-None.is in
    none_held c.args.l items nowhere ∙ ap (λ hs. hold_in hs c.args.l.0) c.self.invariant.held
    ∙ ap (λ (p : Pass Knowledge). hold_in p.view.share.held c.args.l.0) c.self.view_is
