use Rattle.step_world.proofs.Names.{length, slice_get, List, ap, Held}
use Rattle.std.proofs.Common.{◌-◌, ◌∙◌}
use Rattle.step_world.proofs.Turning.{has_room_cut}
use Rattle.step_world.proofs.ActionsOfLocks as actions
use Rattle.step_world.proofs.ActionsOfTurns.{here}
use Rattle.step_world.proofs.turns.locks.give_last_back.Goals as goal

pub unlock-requires-clause-may : goal.unlock-requires-clause-may
unlock-requires-clause-may c =
    let q = c.requires.run in
    let is = here q.1 c.requires.thread c.from.ensures c.index.ensures in
    let x = c.in-Some.held.now in
    let held = actions.last_of c.index.result.now.held.items
    (c.in-Some.ensures.value ∙ ap (λ (hs : List Held). slice_get hs (length hs - 1)) c.deref.ensures.value) in
    let action = actions.gives_last_action c.requires.proper c.requires.thread q.1 q.2 is _ x held in (
      q.0.state,
      action.turning.shows,
      action.turning.lawful,
      (_, actions.may_unlock c.requires.proper c.requires.thread q.1 x.l _ action.turning.may),
    )

pub unlock-requires-clause-room : goal.unlock-requires-clause-room
unlock-requires-clause-room c =
    let q = c.requires.run in
    let is = here q.1 c.requires.thread c.from.ensures c.index.ensures in
    let held = actions.last_of c.index.result.now.held.items
    (c.in-Some.ensures.value ∙ ap (λ (hs : List Held). slice_get hs (length hs - 1)) c.deref.ensures.value) in
    has_room_cut c.requires.proper c.requires.thread q.1 q.2.cut.cut
    (actions.some_left c.requires.proper c.requires.thread q.1 q.2 is _ c.in-Some.held.now held)

pub returns-in-Some-clause-follows : goal.returns-in-Some-clause-follows
returns-in-Some-clause-follows c r h g =
    let is = here h c.requires.thread c.from.ensures c.index.ensures in
    let a = c.unlock.ensures in
    let held = actions.last_of c.index.result.now.held.items
    (c.in-Some.ensures.value ∙ ap (λ (hs : List Held). slice_get hs (length hs - 1)) c.deref.ensures.value) in
    actions.gave_last c.requires.proper c.requires.thread h g is _ c.in-Some.held.now held a.steps a.progress
    (assumption a)

pub returns-in-None-clause-follows : goal.returns-in-None-clause-follows
returns-in-None-clause-follows c r h g =
    let is = here h c.requires.thread c.from.ensures c.index.ensures in
    actions.nothing_held c.requires.proper c.requires.thread h g is
    (actions.none_last c.index.result.now.held.items
    (c.in-None.ensures.value ∙ ap (λ (hs : List Held). slice_get hs (length hs - 1)) c.deref.ensures.value))
