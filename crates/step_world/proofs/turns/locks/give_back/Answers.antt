use Rattle.step_world.proofs.Names.{ap, sym, subst, config_of, is_drop, MayMake, after, Drops, opens, read}
use Rattle.std.proofs.Common.{◌∙◌}
use Rattle.step_machine.specs.Represents.{Represents}
use Rattle.step_world.proofs.Turning.{is_there}
use Rattle.step_world.proofs.ActionsOfLocks as actions
use Rattle.step_world.proofs.turns.locks.give_back.Goals as goal

pub word_at-requires-clause-lock : goal.word_at-requires-clause-lock
word_at-requires-clause-lock c = let q = c.requires.may in
    (actions.it_gives (config_of c.args.plan.now) q.0 c.args.t.0 c.args.l.0 q.3.0 q.3.1).lock

pub word_at-requires-clause-shows : goal.word_at-requires-clause-shows
word_at-requires-clause-shows c = let q = c.requires.may in (q.0, q.1, q.2, tt)

pub index-requires : goal.index-requires
index-requires c =
    let q = c.requires.may in
    let k = config_of c.args.plan.now in
    rw c.from.ensures (is_there k c.args.machine.now q.0 c.args.t.0 q.1
    (actions.it_gives k q.0 c.args.t.0 c.args.l.0 q.3.0 q.3.1).thread)

pub drop_lock-requires : goal.drop_lock-requires
drop_lock-requires c =
    let q = c.requires.may in
    let k = config_of c.args.plan.now in
    let t = c.args.t.0 in
    let l = c.args.l.0 in
    let is = read q.1.threads (actions.it_gives k q.0 t l q.3.0 q.3.1).thread
    c.from.ensures c.index.ensures in
    let drops = ap is_drop (sym (c.word_at.ensures.word q.0 q.1)) ∙ sym c.is_drop.ensures ∙ c.if-is_drop.true in
    let may = actions.may_drop k q.0 t l q.3.0 drops q.3.1 in
    record {
      may = (
        k,
        q.0,
        q.1,
        q.2,
        subst (λ mode. MayMake k q.0 (Drops t l mode))
            (actions.mode_read k q.0 t l q.3.0 q.1 is c.mode_held-mode.ensures q.3.1) may,
      );
    }

pub returns-then-is_drop-clause-step : goal.returns-then-is_drop-clause-step
returns-then-is_drop-clause-step c s mode h lawful may =
    let k = config_of c.args.plan.now in
    let t = c.args.t.0 in
    let l = c.args.l.0 in
    let is = read h.threads (actions.it_gives k s t l mode may).thread c.from.ensures
    c.index.ensures in
    let drops = ap is_drop (sym (c.word_at.ensures.word s h)) ∙ sym c.is_drop.ensures ∙ c.if-is_drop.true in
    actions.dropped k s t l mode drops
    (c.drop_lock.ensures.step k s h lawful
    (subst (λ x. MayMake k s (Drops t l x)) (actions.mode_read k s t l mode h is c.mode_held-mode.ensures may)
    (actions.may_drop k s t l mode drops may)))

pub open-requires : goal.open-requires
open-requires c =
    let q = c.requires.may in
    let k = config_of c.args.plan.now in
    let t = c.args.t.0 in
    let l = c.args.l.0 in
    let opens_it = ap is_drop (sym (c.word_at.ensures.word q.0 q.1)) ∙ sym c.is_drop.ensures ∙ c.if-is_drop.false in
    record {
      may = (
        k,
        q.0,
        q.1,
        q.2,
        (
          c.lock_kind.ensures,
          (
            q.3.0,
            subst (λ x. MayMake k q.0 (opens x t l q.3.0)) (sym c.lock_kind.ensures)
                (actions.may_open k q.0 t l q.3.0 opens_it q.3.1),
          ),
        ),
      );
    }

pub returns-else-is_drop-clause-step : goal.returns-else-is_drop-clause-step
returns-else-is_drop-clause-step c s mode h lawful may =
    let k = config_of c.args.plan.now in
    let t = c.args.t.0 in
    let l = c.args.l.0 in
    let opens_it = ap is_drop (sym (c.word_at.ensures.word s h)) ∙ sym c.is_drop.ensures ∙ c.if-is_drop.false in
    actions.opened k s t l mode opens_it
    (subst (λ x. Represents k c.open.new.self (after k s (opens x t l mode))) c.lock_kind.ensures
    (c.open.ensures.step mode k s c.lock_kind.ensures h lawful
    (subst (λ x. MayMake k s (opens x t l mode)) (sym c.lock_kind.ensures)
    (actions.may_open k s t l mode opens_it may))))
