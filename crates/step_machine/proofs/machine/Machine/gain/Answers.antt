use Rattle.step_machine.proofs.Names.{[], ap, sym, subst, arith, gained, Progress, progress_of}
use Rattle.std.proofs.Common.{◌++◌, ◌∷◌, ◌∙◌}
use Rattle.lock_words.specs.Views.{MayGain}
use Rattle.step_machine.proofs.Kit.{aside_changed, read, word_read, possible_read}
use Rattle.step_machine.proofs.Holding.{lock_gained, may_gain, entry_of, room_left}
use Rattle.step_machine.proofs.machine.Machine.gain.Goals as goal

pub gained-requires-clause-well_formed : goal.gained-requires-clause-well_formed
gained-requires-clause-well_formed c =
    let m = c.requires.may in
    possible_read m.2 m.3 m.4.lock c.from-i.ensures c.index.ensures

pub gained-requires-clause-may : goal.gained-requires-clause-may
gained-requires-clause-may c =
    let m = c.requires.may in
    let word = word_read c.from-i.ensures m.2.words m.4.lock c.index.ensures in
    subst (λ v. MayGain v.holder c.args.mode) (sym word)
    (may_gain m.0 m.1 c.args.l.0 m.3 (omega (arith, m.2.within.few_threads)) c.args.mode m.4.admitted)

pub pick_up-requires : goal.pick_up-requires
pick_up-requires c =
    let m = c.requires.may in
    let th = c.index_mut-2.result.now in
    let at = read m.2.threads m.4.thread c.from.ensures c.index_mut-2.ensures.value in
    room_left c.args.self.now c.args.t.0 th at c.requires.room (m.2.threads.thread c.args.t.0 th at)

pub returns-clause-step : goal.returns-clause-step
returns-clause-step c k s h lawful g =
    let at = read h.threads g.thread c.from.ensures c.index_mut-2.ensures.value in
    let word = word_read c.from-i.ensures h.words g.lock c.index.ensures in
    rw (c.from.ensures, c.from-i.ensures) (lock_gained c.args.l c.args.mode c.args.by_try c.gained.result at
    (c.gained.ensures.word ∙ ap (λ w. gained w c.args.t.0 c.args.mode) word) c.pick_up.ensures.others
    c.pick_up.ensures.held c.pick_up.ensures.room h g)

pub returns-clause-progress : goal.returns-clause-progress
returns-clause-progress c =
    let m = c.requires.may in
    let th = c.index_mut-2.result.now in
    let at = read m.2.threads m.4.thread c.from.ensures c.index_mut-2.ensures.value in
    rw c.from.ensures (aside_changed _ _ _
    (λ (a : Progress). record a { held = a.held ++ entry_of c.args.l c.args.mode c.args.by_try ∷ [] }) at
    (ap progress_of c.pick_up.ensures.others ∙ ap (λ hs. record (progress_of th) { held = hs }) c.pick_up.ensures.held))
