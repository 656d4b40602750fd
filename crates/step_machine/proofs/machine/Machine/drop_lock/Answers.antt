use Rattle.step_machine.proofs.Names.{ap, sym, subst, dropped, IsHeldIn, with_released}
use Rattle.std.proofs.Common.{◌∙◌}
use Rattle.step_machine.proofs.Kit.{aside_changed, read, word_read, possible_read}
use Rattle.step_machine.proofs.Holding.{lock_dropped, is_held, released}
use Rattle.step_machine.proofs.machine.Machine.drop_lock.Goals as goal

pub dropped-requires-clause-well_formed : goal.dropped-requires-clause-well_formed
dropped-requires-clause-well_formed c =
    let m = c.requires.may in
    possible_read m.2 m.3 m.4.lock c.from-i.ensures c.index.ensures

pub dropped-requires-clause-held : goal.dropped-requires-clause-held
dropped-requires-clause-held c =
    let m = c.requires.may in
    let word = word_read c.from-i.ensures m.2.words m.4.lock c.index.ensures in
    subst (λ v. IsHeldIn v.holder c.args.mode) (sym word)
    (is_held m.0 m.1 c.args.t.0 c.args.l.0 c.args.mode m.3 m.4.thread m.4.held)

pub returns-clause-step : goal.returns-clause-step
returns-clause-step c k s h lawful g =
    let th = c.index_mut-2.result.now in
    let at = read h.threads g.thread c.from.ensures c.index_mut-2.ensures.value in
    let word = word_read c.from-i.ensures h.words g.lock c.index.ensures in
    rw (c.from.ensures, c.from-i.ensures)
    (lock_dropped c.args.self.now k s c.args.t.0 c.args.l.0 c.args.mode c.dropped.result th c.put_down.new.self at
    (c.dropped.ensures.word ∙ ap dropped word) c.put_down.ensures.others c.put_down.ensures.held c.put_down.ensures.room
    h g)

pub returns-clause-progress : goal.returns-clause-progress
returns-clause-progress c =
    let m = c.requires.may in
    let th = c.index_mut-2.result.now in
    let at = read m.2.threads m.4.thread c.from.ensures c.index_mut-2.ensures.value in
    rw c.from.ensures (aside_changed _ _ _ (with_released c.args.l.0) at
    (released th c.args.l.0 c.put_down.ensures.others c.put_down.ensures.held c.put_down.ensures.left))
