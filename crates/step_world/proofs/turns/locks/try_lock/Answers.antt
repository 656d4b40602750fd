use Rattle.step_world.proofs.Names.{sym}
use Rattle.std.proofs.Common.{◌∙◌}
use Rattle.step_world.proofs.Turning.{has_room, may_next, goes, of_look, of_entry}
use Rattle.step_world.proofs.ActionsOfLocks as actions
use Rattle.step_world.proofs.turns.locks.try_lock.Goals as goal

pub is_admitted-requires-clause-lock : goal.is_admitted-requires-clause-lock
is_admitted-requires-clause-lock c = let q = c.requires.run in
    (actions.tried c.requires.proper c.requires.thread q.1 q.2).lock

pub is_admitted-requires-clause-mutex : goal.is_admitted-requires-clause-mutex
is_admitted-requires-clause-mutex c = let q = c.requires.run in
    (actions.tried c.requires.proper c.requires.thread q.1 q.2).mutex

pub is_admitted-requires-clause-run : goal.is_admitted-requires-clause-run
is_admitted-requires-clause-run c = let q = c.requires.run in (q.0, q.1, tt)

pub gain_or_claim-requires-clause-run : goal.gain_or_claim-requires-clause-run
gain_or_claim-requires-clause-run c =
    let q = c.requires.run in (
      q.0,
      q.1,
      actions.tries_it c.requires.proper c.requires.thread q.1 q.2
          (sym (c.is_admitted.ensures q.0 q.1) ∙ c.if-is_admitted.true),
    )

pub word_at-seen-requires-clause-lock : goal.word_at-seen-requires-clause-lock
word_at-seen-requires-clause-lock c = let q = c.requires.run in
    (actions.tried c.requires.proper c.requires.thread q.1 q.2).lock

pub word_at-seen-requires-clause-shows : goal.word_at-seen-requires-clause-shows
word_at-seen-requires-clause-shows c = actions.state_of c.requires.run.1

pub stamp-requires-clause-may : goal.stamp-requires-clause-may
stamp-requires-clause-may c =
    let q = c.requires.run in
    let action = actions.busy_action c.requires.proper c.requires.thread q.1 c.word_at-seen.result q.2
    (sym (c.is_admitted.ensures q.0 q.1) ∙ c.if-is_admitted.false)
    (c.word_at-seen.ensures.word q.0.state q.1.shows.shows) in
    may_next (goes action.turning of_look)

pub stamp-requires-clause-room : goal.stamp-requires-clause-room
stamp-requires-clause-room c = let q = c.requires.run in has_room c.requires.proper c.requires.thread q.1 q.2

pub returns-then-is_admitted-clause-makes : goal.returns-then-is_admitted-clause-makes
returns-then-is_admitted-clause-makes c r h at =
    c.gain_or_claim.ensures.makes r h
    (actions.tries_it c.requires.proper c.requires.thread h at
    (sym (c.is_admitted.ensures r h) ∙ c.if-is_admitted.true))

pub returns-else-is_admitted-clause-makes : goal.returns-else-is_admitted-clause-makes
returns-else-is_admitted-clause-makes c r h at =
    let a = c.stamp.ensures in
    let refused = sym (c.is_admitted.ensures r h) ∙ c.if-is_admitted.false in
    let seen = c.word_at-seen.ensures.word r.state h.shows.shows in
    let action = actions.busy_action c.requires.proper c.requires.thread h c.word_at-seen.result at refused seen in
    actions.found_busy c.requires.proper c.requires.thread h c.word_at-seen.result at refused seen
    (goes (goes action.turning of_look) (of_entry a.step a.progress a.places a.room))
