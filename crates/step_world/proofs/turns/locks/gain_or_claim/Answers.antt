use Rattle.step_world.proofs.Names.{sym, subst, Excl}
use Rattle.std.proofs.Common.{◌≤◌, ◌∙◌}
use Rattle.step_world.proofs.Turning.{has_room, may_next, may_by, goes, of_method, of_entry}
use Rattle.step_world.proofs.ActionsOfLocks as actions
use Rattle.step_world.proofs.ActionsOfLocks.{holding}
use Rattle.step_world.proofs.turns.locks.gain_or_claim.Goals as goal

pub gains_plainly-requires-clause-lock : goal.gains_plainly-requires-clause-lock
gains_plainly-requires-clause-lock c = c.requires.run.2.lock

pub gains_plainly-requires-clause-run : goal.gains_plainly-requires-clause-run
gains_plainly-requires-clause-run c = let q = c.requires.run in (q.0, q.1, tt)

pub gain-requires-clause-may : goal.gain-requires-clause-may
gain-requires-clause-may c =
    let q = c.requires.run in
    may_next (actions.gains_action c.requires.proper c.requires.thread q.1 q.2
    (sym (c.gains_plainly.ensures q.0 q.1) ∙ c.if-gains_plainly.true)).turning

pub gain-requires-clause-room : goal.gain-requires-clause-room
gain-requires-clause-room c = let q = c.requires.run in actions.few c.requires.proper c.requires.thread q.1 q.2

pub stamp-requires-clause-may : goal.stamp-requires-clause-may
stamp-requires-clause-may c =
    let q = c.requires.run in
    let a = c.gain.ensures in
    let action = actions.gains_action c.requires.proper c.requires.thread q.1 q.2
    (sym (c.gains_plainly.ensures q.0 q.1) ∙ c.if-gains_plainly.true) in
    may_next (goes action.turning (of_method (holding c.args.l c.args.mode c.args.by_try) a.step a.progress a.books))

pub stamp-requires-clause-room : goal.stamp-requires-clause-room
stamp-requires-clause-room c =
    let q = c.requires.run in
    subst (λ g. 1 ≤ g.spare) (sym c.gain.ensures.books.log) (has_room c.requires.proper c.requires.thread q.1 q.2.at)

pub returns-then-gains_plainly-clause-makes : goal.returns-then-gains_plainly-clause-makes
returns-then-gains_plainly-clause-makes c r h g =
    let a = c.gain.ensures in
    let b = c.stamp.ensures in
    let plain = sym (c.gains_plainly.ensures r h) ∙ c.if-gains_plainly.true in
    let action = actions.gains_action c.requires.proper c.requires.thread h g plain in
    actions.gained c.requires.proper c.requires.thread h g plain
    (goes (goes action.turning (of_method (holding c.args.l c.args.mode c.args.by_try) a.step a.progress a.books))
    (of_entry b.step b.progress b.places b.room))

pub claim-requires-clause-may : goal.claim-requires-clause-may
claim-requires-clause-may c =
    let q = c.requires.run in
    let action = actions.claims_action c.requires.proper c.requires.thread q.1 q.2
    (sym (c.gains_plainly.ensures q.0 q.1) ∙ c.if-gains_plainly.false) in
    may_by action.turning _ (_, action.turning.may.0)

pub claim-requires-clause-room : goal.claim-requires-clause-room
claim-requires-clause-room c = let q = c.requires.run in actions.few c.requires.proper c.requires.thread q.1 q.2

pub stamp-requires-else-gains_plainly-clause-may : goal.stamp-requires-else-gains_plainly-clause-may
stamp-requires-else-gains_plainly-clause-may c =
    let q = c.requires.run in
    let a = c.claim.ensures in
    let action = actions.claims_action c.requires.proper c.requires.thread q.1 q.2
    (sym (c.gains_plainly.ensures q.0 q.1) ∙ c.if-gains_plainly.false) in
    may_next (goes action.turning (of_method (holding c.args.l Excl c.args.by_try) (a.step _) a.progress a.books))

pub stamp-requires-else-gains_plainly-clause-room : goal.stamp-requires-else-gains_plainly-clause-room
stamp-requires-else-gains_plainly-clause-room c =
    let q = c.requires.run in
    subst (λ g. 1 ≤ g.spare) (sym c.claim.ensures.books.log) (has_room c.requires.proper c.requires.thread q.1 q.2.at)

pub returns-else-gains_plainly-clause-makes : goal.returns-else-gains_plainly-clause-makes
returns-else-gains_plainly-clause-makes c r h g =
    let a = c.claim.ensures in
    let b = c.stamp-else-gains_plainly.ensures in
    let claim = sym (c.gains_plainly.ensures r h) ∙ c.if-gains_plainly.false in
    let action = actions.claims_action c.requires.proper c.requires.thread h g claim in
    actions.claimed c.requires.proper c.requires.thread h g claim
    (goes (goes action.turning (of_method (holding c.args.l Excl c.args.by_try) (a.step _) a.progress a.books))
    (of_entry b.step b.progress b.places b.room))
