use Rattle.step_machine.proofs.Names.{arith, sym, ap, subst, IsSomeAnd, lock_queue, names_turnstile, head_of, Record}
use Rattle.step_machine.proofs.Names.{CanHop, RepresentsRecord, record_in, can_hop}
use Rattle.std.proofs.Common.{◌∙◌}
use Rattle.step_machine.proofs.Kit.{read, record_of}
use Rattle.step_machine.proofs.Walking.{is_owner, read_behind, lend_shown, asides_stay}
use Rattle.step_machine.proofs.machine.Machine.lend_to.Goals as goal

pub index_mut-lent-requires : goal.index_mut-lent-requires
index_mut-lent-requires c =
    let x = c.requires.may in
    omega (arith, c.from.ensures, is_owner x.2 x.3 x.4.1, x.2.threads.threads, c.args.self.now.threads.ok.0)

pub lend_to_owner-walk-requires : goal.lend_to_owner-walk-requires
lend_to_owner-walk-requires c =
    let h = c.requires.may.4.0 in
    let x = c.requires.may in
    let at = read x.2.threads (is_owner x.2 x.3 x.4.1) c.from.ensures c.index_mut-lent.ensures.value in
    subst (λ (r : Record). IsSomeAnd (head_of (lock_queue c.args.l.0) c.args.self.now.chain) (CanHop c.args.l.0 r))
    (sym c.deref_mut.ensures.value)
    (can_hop x.0 x.1 c.args.t.0 c.args.l.0 c.args.owner.0 h x.3 x.4.1 x.2.queues
    (record_of (x.2.threads.thread c.args.owner.0 c.index_mut-lent.result.now at)))

pub returns-clause-step : goal.returns-clause-step
returns-clause-step c x d s tells h lawful g =
    let t = c.args.t.0 in
    let o = c.args.owner.0 in
    let at = read h.threads (is_owner h lawful g) c.from.ensures c.index_mut-lent.ensures.value in
    let rec = subst (λ (r : Record). RepresentsRecord r (record_in s o)) (sym c.deref_mut.ensures.value)
    (record_of (h.threads.thread o c.index_mut-lent.result.now at)) in
    let then = c.lend_to_owner-walk.ensures.its_record d s t o x lawful g h.queues rec in
    let behind = read_behind h lawful g at then c.from-2.result c.from.result c.index_mut.result.now c.from.ensures
    c.from-2.ensures c.index_mut.ensures.value in
    rw (c.from.ensures, c.from-2.ensures)
    (lend_shown h lawful g at then c.lend_to_owner-walk.result behind
    (c.lend_to_owner-walk.ensures.queues d s t o x lawful g h.queues) (c.lend_to_owner-walk.ensures.walk d s t o x
    lawful g h.queues rec (tells ∙ ap (names_turnstile d) (sym (ap (λ v. v.blocked_on) rec.columns)))))

pub returns-clause-progress : goal.returns-clause-progress
returns-clause-progress c =
    let y = c.requires.may in
    let t = c.args.t.0 in
    let o = c.args.owner.0 in
    let at = read y.2.threads (is_owner y.2 y.3 y.4.1) c.from.ensures c.index_mut-lent.ensures.value in
    let rec = subst (λ (r : Record). RepresentsRecord r (record_in y.1 o)) (sym c.deref_mut.ensures.value)
    (record_of (y.2.threads.thread o c.index_mut-lent.result.now at)) in
    let then = c.lend_to_owner-walk.ensures.its_record y.0 y.1 t o y.4.0 y.3 y.4.1 y.2.queues rec in
    let behind = read_behind y.2 y.3 y.4.1 at then c.from-2.result c.from.result c.index_mut.result.now c.from.ensures
    c.from-2.ensures c.index_mut.ensures.value in
    rw (c.from.ensures, c.from-2.ensures)
    (asides_stay c.args.self.now t o c.index_mut-lent.result.now c.index_mut.result.now c.lend_to_owner-walk.new.owner
    c.lend_to_owner-walk.result c.lend_to_owner-walk.new.chain at behind)
