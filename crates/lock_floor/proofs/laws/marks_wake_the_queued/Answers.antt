use Rattle.lock_floor.proofs.Names.{marked_named, StandingIsQueued, config_in}
use Rattle.lock_floor.proofs.laws.marks_wake_the_queued.Goals as goal

pub returns : goal.returns
unfolding StandingIsQueued
returns c floor m ms old new k =
    let lawful = k.sound.facts.lawful in
    let g = k.may.0.fits.may in
    let named = marked_named (config_in floor) k.state old.thread m ms lawful g.thread g.marked in
    (lawful.waits.standing_is_queued m.thread m.queue named, named)
