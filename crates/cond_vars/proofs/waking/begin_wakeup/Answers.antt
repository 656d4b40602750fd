use Rattle.std.proofs.Common.{◌≡◌, [], ◌∷◌, sym, ap, ◌∙◌, subst}
use Rattle.lock_state.specs.Steps.{Stamps}
use Rattle.lock_state.specs.Steps.LockWords.{changes_base, changes_table}
use Rattle.floor_table.specs.Descriptions.{config_in}
use Rattle.floor_table.specs.Steps.{Makes, MayMake}
use Rattle.floor_table.specs.Views.{seeing}
use Rattle.lock_floor.specs.Views.{entry_by, stamped}
use Rattle.cond_vars.proofs.Coming.{may_come}
use Rattle.cond_vars.proofs.TakenOff.{may_wake, room_for_it, may_note, keeps_base, keeps_tables, last_now, may_give, has_taken_off}
use Rattle.cond_vars.proofs.waking.begin_wakeup.Goals as goal

pub try_take_chain-requires-clause-queue : goal.try_take_chain-requires-clause-queue
try_take_chain-requires-clause-queue c = c.requires.may.chan

pub try_take_chain-requires-clause-first : goal.try_take_chain-requires-clause-first
try_take_chain-requires-clause-first c = c.requires.ready.rest.nothing_out

pub try_take_chain-requires-clause-may : goal.try_take_chain-requires-clause-may
try_take_chain-requires-clause-may c =
    may_come c.args.floor.now.description c.args.c.0 c.args.pass.now.view c.requires.ready.rest

pub wake-woken-requires-clause-chan : goal.wake-woken-requires-clause-chan
wake-woken-requires-clause-chan c = c.requires.may.chan

pub wake-woken-requires-clause-may : goal.wake-woken-requires-clause-may
wake-woken-requires-clause-may c =
    may_wake c.args.floor.now.description c.args.c c.args.all c.args.pass.now.view c.requires.ready.rest c.requires.may
    c.try_take_chain.new.pass.view (c.try_take_chain.ensures.out c.if-not-try_take_chain.false)

pub stamp-requires-clause-room : goal.stamp-requires-clause-room
stamp-requires-clause-room c =
    room_for_it c.args.floor.now.description c.args.c c.args.all c.args.pass.now.view
    c.requires.ready.rest c.requires.may c.try_take_chain.new.pass.view
    (c.try_take_chain.ensures.out c.if-not-try_take_chain.false) c.wake-woken.result c.wake-woken.new.pass.view
    c.wake-woken.ensures.wakes

pub stamp-requires-clause-base : goal.stamp-requires-clause-base
stamp-requires-clause-base c = ap changes_base c.wake_of.ensures ∙ keeps_base c.args.c c.wake-woken.result c.args.all

pub stamp-requires-clause-table : goal.stamp-requires-clause-table
stamp-requires-clause-table c = ap changes_table c.wake_of.ensures
    ∙ keeps_tables c.args.c c.wake-woken.result c.args.all

pub stamp-requires-clause-may : goal.stamp-requires-clause-may
stamp-requires-clause-may c =
    subst (λ e. MayMake c.args.floor.now.description c.wake-woken.new.pass.view (λ s. Unit {0})
    (Stamps c.wake-woken.new.pass.view.thread e ∷ [])) (sym c.wake_of.ensures)
    (may_note c.args.floor.now.description c.args.c c.args.all c.args.pass.now.view
    c.requires.ready.rest c.requires.may c.try_take_chain.new.pass.view
    (c.try_take_chain.ensures.out c.if-not-try_take_chain.false) c.wake-woken.result c.wake-woken.new.pass.view
    c.wake-woken.ensures.wakes)

pub give_chain-requires-clause-queue : goal.give_chain-requires-clause-queue
give_chain-requires-clause-queue c = c.requires.may.chan

pub give_chain-requires-clause-last : goal.give_chain-requires-clause-last
give_chain-requires-clause-last c =
    last_now c.args.floor.now.description c.args.c c.args.all c.args.pass.now.view
    c.requires.ready.rest c.requires.may c.try_take_chain.new.pass.view
    (c.try_take_chain.ensures.out c.if-not-try_take_chain.false) c.wake-woken.result c.wake-woken.new.pass.view
    c.wake-woken.ensures.wakes
    c.stamp.result c.stamp.new.pass.view
    (subst (λ e. c.stamp.new.pass.view ≡ seeing c.stamp.new.pass.view.seen
    (stamped (config_in c.args.floor.now.description) c.wake-woken.new.pass.view
    (entry_by c.wake-woken.new.pass.view.thread c.stamp.result e))) c.wake_of.ensures c.stamp.ensures.view)
    (subst (λ e. Makes c.args.floor.now.description (Stamps c.wake-woken.new.pass.view.thread e ∷ [])
    c.wake-woken.new.pass.view
    c.stamp.new.pass.view) c.wake_of.ensures c.stamp.ensures.step)

pub give_chain-requires-clause-may : goal.give_chain-requires-clause-may
give_chain-requires-clause-may c =
    may_give c.args.floor.now.description c.args.c c.args.all c.args.pass.now.view
    c.requires.ready.rest c.requires.may c.try_take_chain.new.pass.view
    (c.try_take_chain.ensures.out c.if-not-try_take_chain.false) c.wake-woken.result c.wake-woken.new.pass.view
    c.wake-woken.ensures.wakes
    c.stamp.result c.stamp.new.pass.view
    (subst (λ e. c.stamp.new.pass.view ≡ seeing c.stamp.new.pass.view.seen
    (stamped (config_in c.args.floor.now.description) c.wake-woken.new.pass.view
    (entry_by c.wake-woken.new.pass.view.thread c.stamp.result e))) c.wake_of.ensures c.stamp.ensures.view)
    (subst (λ e. Makes c.args.floor.now.description (Stamps c.wake-woken.new.pass.view.thread e ∷ [])
    c.wake-woken.new.pass.view
    c.stamp.new.pass.view) c.wake_of.ensures c.stamp.ensures.step)

pub returns-clause-off : goal.returns-clause-off
returns-clause-off c =
    has_taken_off c.args.floor.now.description c.args.c c.args.all c.args.pass.now.view
    c.requires.ready.rest c.requires.may c.try_take_chain.new.pass.view
    (c.try_take_chain.ensures.out c.if-not-try_take_chain.false) c.wake-woken.result c.wake-woken.new.pass.view
    c.wake-woken.ensures.wakes
    c.stamp.result c.stamp.new.pass.view
    (subst (λ e. c.stamp.new.pass.view ≡ seeing c.stamp.new.pass.view.seen
    (stamped (config_in c.args.floor.now.description) c.wake-woken.new.pass.view
    (entry_by c.wake-woken.new.pass.view.thread c.stamp.result e))) c.wake_of.ensures c.stamp.ensures.view)
    (subst (λ e. Makes c.args.floor.now.description (Stamps c.wake-woken.new.pass.view.thread e ∷ [])
    c.wake-woken.new.pass.view
    c.stamp.new.pass.view) c.wake_of.ensures c.stamp.ensures.step)
    c.give_chain.new.pass.view c.give_chain.ensures.view c.give_chain.ensures.step
