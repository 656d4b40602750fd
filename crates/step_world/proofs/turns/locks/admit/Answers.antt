use Rattle.step_world.proofs.Names.{ℕ, List, length, map, take, refl, sym, ap, subst, err_from_is_err_and, most_held}
use Rattle.step_world.proofs.Names.{config_of, lock_class, ClassNo, Held, Plan, numbers_of}
use Rattle.std.proofs.Common.{◌≡◌, ◌≤◌, ◌∙◌}
use Rattle.step_world.proofs.ActionsOfTurns.{here}
use Rattle.step_world.proofs.ActionsOfTakes as actions
use Rattle.step_world.proofs.turns.locks.admit.Goals as goal

-- the classes that were written
written : (plan : Plan) {hs ds : List Held} (cs : List ClassNo) {n k : ℕ} → n ≡ k → length ds ≡ k → ds ≡ hs
    → numbers_of (take (length ds) cs) ≡ map (λ h. lock_class plan h.l.0) ds
    → numbers_of (take n cs) ≡ map (λ h. lock_class plan h.l.0) hs
written plan cs long as_long same e = ap (λ (i : ℕ). numbers_of (take i cs)) (long ∙ sym as_long) ∙ e
    ∙ ap (map (λ (h : Held). lock_class plan h.l.0)) same

pub put_classes-requires : goal.put_classes-requires
put_classes-requires c =
    let q = c.requires.run in
    let is = here q.1 c.requires.thread c.from.ensures c.index.ensures in
    subst (λ (hs : List Held). length hs ≤ most_held) (sym c.deref.ensures.value)
    (actions.few_held c.requires.proper c.requires.thread q.1 q.2.1 is)

pub check-requires-clause-held : goal.check-requires-clause-held
check-requires-clause-held c =
    let q = c.requires.run in
    actions.within c.requires.proper c.requires.thread q.1 (here q.1 c.requires.thread c.from.ensures c.index.ensures)
    c.args.l _ _ (written c.args.plan.now _ c.len.ensures c.deref.ensures.len c.deref.ensures.value
    c.put_classes.ensures) c.class_of-class.ensures

pub check-requires-clause-wanted : goal.check-requires-clause-wanted
check-requires-clause-wanted c = let q = c.requires.run in
    actions.class_within c.requires.proper c.requires.thread q.1 q.2.1 c.class_of-class.ensures

pub returns-in_err-check : goal.returns-in_err-check
returns-in_err-check c =
    let p = err_from_is_err_and c.from_residual.result c.from_residual.ensures.1 in
    rw (p.1, p.2) (
      refl,
      λ r h.
          actions.refused_so c.requires.proper c.requires.thread h
          (here h c.requires.thread c.from.ensures c.index.ensures) c.args.l _ _
          (written c.args.plan.now _ c.len.ensures c.deref.ensures.len c.deref.ensures.value c.put_classes.ensures)
          c.class_of-class.ensures _ c.in_err-check.ensures.0,
    )

pub admit-requires-clause-may : goal.admit-requires-clause-may
admit-requires-clause-may c =
    let q = c.requires.run in
    let is = here q.1 c.requires.thread c.from.ensures c.index.ensures in
    let a = actions.admitted_so c.requires.proper c.requires.thread q.1 is c.args.l _ _
    (written c.args.plan.now _ c.len.ensures c.deref.ensures.len c.deref.ensures.value c.put_classes.ensures)
    c.class_of-class.ensures c.in_ok-check.ensures in (
      config_of c.args.plan.now,
      q.0.state,
      q.1.shows.shows,
      q.1.on_track.lawful.lawful,
      (
        c.args.l.0,
        actions.are_classes c.requires.proper c.requires.thread q.1 is c.args.l _ _
            (written c.args.plan.now _ c.len.ensures c.deref.ensures.len c.deref.ensures.value c.put_classes.ensures)
            c.class_of-class.ensures,
        actions.may_admit c.requires.proper c.requires.thread q.1 q.2.1 a,
      ),
    )

pub admit-requires-clause-classes : goal.admit-requires-clause-classes
admit-requires-clause-classes c =
    let q = c.requires.run in
    actions.within c.requires.proper c.requires.thread q.1 (here q.1 c.requires.thread c.from.ensures c.index.ensures)
    c.args.l _ _ (written c.args.plan.now _ c.len.ensures c.deref.ensures.len c.deref.ensures.value
    c.put_classes.ensures) c.class_of-class.ensures

pub returns : goal.returns
returns c r mode h b =
    let is = here h c.requires.thread c.from.ensures c.index.ensures in
    let e = c.admit.ensures in
    let same = actions.are_classes c.requires.proper c.requires.thread h is c.args.l _ _
    (written c.args.plan.now _ c.len.ensures c.deref.ensures.len c.deref.ensures.value c.put_classes.ensures)
    c.class_of-class.ensures in
    let a = actions.admitted_so c.requires.proper c.requires.thread h is c.args.l _ _
    (written c.args.plan.now _ c.len.ensures c.deref.ensures.len c.deref.ensures.value c.put_classes.ensures)
    c.class_of-class.ensures c.in_ok-check.ensures in
    actions.admission c.requires.proper c.requires.thread h b a
    (e.step c.args.l.0 (config_of c.args.plan.now) r.state same h.shows.shows h.on_track.lawful.lawful
    (actions.may_admit c.requires.proper c.requires.thread h b a)) e.progress e.books
