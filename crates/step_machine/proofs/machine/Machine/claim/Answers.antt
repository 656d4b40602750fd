use Rattle.step_machine.proofs.Names.{[], ap, sym, subst, IsSomeAnd, lock_queue, claimed, Excl, head_of, Record}
use Rattle.step_machine.proofs.Names.{CanBeLent, RepresentsRecord, record_in, can_claim, Thread, Progress, progress_of}
use Rattle.std.proofs.Common.{◌≡◌, ◌++◌, ◌∷◌, ◌∙◌}
use Rattle.step_machine.proofs.Kit.{aside_changed, read, word_read, record_of}
use Rattle.step_machine.proofs.Holding.{lock_claimed, entry_of, room_left}
use Rattle.step_machine.proofs.machine.Machine.claim.Goals as goal

pub pick_up-requires : goal.pick_up-requires
pick_up-requires c =
    let m = c.requires.may in
    let th = c.index_mut-thread.result.now in
    let at = read m.2.threads m.4.1.thread c.from.ensures c.index_mut-thread.ensures.value in
    room_left c.args.self.now c.args.t.0 th at c.requires.room (m.2.threads.thread c.args.t.0 th at)

pub claim-requires : goal.claim-requires
claim-requires c =
    let m = c.requires.may in
    let th = c.index_mut-thread.result.now in
    let at = read m.2.threads m.4.1.thread c.from.ensures c.index_mut-thread.ensures.value in
    let is : c.deref_mut.result.now ≡ th.record.value = c.deref_mut.ensures.value
    ∙ ap (λ (o : Thread). o.record.value) c.pick_up.ensures.others in
    subst (λ (r : Record). IsSomeAnd (head_of (lock_queue c.args.l.0) c.args.self.now.chain) (CanBeLent c.args.l.0 r))
    (sym is)
    (can_claim m.0 m.1 c.args.t.0 c.args.l.0 m.4.0 c.args.by_try m.3 m.4.1 m.2.queues
    (record_of (m.2.threads.thread c.args.t.0 th at)))

pub returns-clause-step : goal.returns-clause-step
returns-clause-step c h k s shown lawful g =
    let t = c.args.t.0 in
    let th = c.index_mut-thread.result.now in
    let at = read shown.threads g.thread c.from.ensures c.index_mut-thread.ensures.value in
    let word = word_read c.from-i.ensures shown.words g.lock c.index.ensures in
    let is : c.deref_mut.result.now ≡ th.record.value = c.deref_mut.ensures.value
    ∙ ap (λ (o : Thread). o.record.value) c.pick_up.ensures.others in
    let rec = subst (λ (r : Record). RepresentsRecord r (record_in s t)) (sym is)
    (record_of (shown.threads.thread t th at)) in
    rw (c.from.ensures, c.from-i.ensures)
    (lock_claimed c.args.l c.args.by_try c.claimed.result at (c.claimed.ensures.word ∙ ap (λ w. claimed w t) word)
    c.pick_up.ensures.others c.pick_up.ensures.held c.pick_up.ensures.room shown g
    (c.claim.ensures.queues k s t h c.args.by_try lawful g shown.queues rec)
    (c.claim.ensures.its_record k s t h c.args.by_try lawful g shown.queues rec))

pub returns-clause-progress : goal.returns-clause-progress
returns-clause-progress c =
    let m = c.requires.may in
    let th = c.index_mut-thread.result.now in
    let at = read m.2.threads m.4.1.thread c.from.ensures c.index_mut-thread.ensures.value in
    rw c.from.ensures
    (aside_changed _ _ _ (λ (a : Progress). record a { held = a.held ++ entry_of c.args.l Excl c.args.by_try ∷ [] }) at
    (ap progress_of c.pick_up.ensures.others ∙ ap (λ hs. record (progress_of th) { held = hs }) c.pick_up.ensures.held))
