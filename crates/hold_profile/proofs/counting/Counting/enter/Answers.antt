use Rattle.std.proofs.Common.{sym}
use Rattle.hold_profile.proofs.Results.{enter_since, enter_fits, enter_room, enter_pairs, entered_noted, entered_unnoted, OnOk_then}
use Rattle.hold_profile.proofs.counting.Counting.enter.Goals as goal

pub note-requires-clause-since : goal.note-requires-clause-since
note-requires-clause-since c =
    enter_since c.args.plan.now c.args.history.now c.args.place c.args.self.now _ c.requires.within c.requires.few
    c.requires.tickets c.requires.threads c.requires.counted c.in-Some.l c.in-Some.what (sym c.in-Some.ensures)

pub note-requires-clause-fits : goal.note-requires-clause-fits
note-requires-clause-fits c =
    enter_fits c.args.plan.now c.args.history.now c.args.place c.args.self.now _ c.requires.within c.requires.few
    c.requires.tickets c.requires.threads c.requires.counted c.in-Some.l c.in-Some.what (sym c.in-Some.ensures)

pub note-requires-clause-room : goal.note-requires-clause-room
note-requires-clause-room c =
    enter_room c.args.plan.now c.args.history.now c.args.place c.args.self.now _ c.requires.within c.requires.few
    c.requires.tickets c.requires.threads c.requires.counted c.in-Some.l c.in-Some.what (sym c.in-Some.ensures)

pub note-requires-clause-pairs : goal.note-requires-clause-pairs
note-requires-clause-pairs c =
    enter_pairs c.args.plan.now c.args.history.now c.args.place c.args.self.now _ c.requires.within c.requires.few
    c.requires.tickets c.requires.threads c.requires.counted c.in-Some.l c.in-Some.what (sym c.in-Some.ensures)

pub returns-in-Some : goal.returns-in-Some
returns-in-Some c = OnOk_then _ c.note.ensures
    (entered_noted c.args.plan.now c.args.history.now c.args.place c.args.self.now _ c.requires.within c.requires.few
    c.requires.tickets c.requires.threads c.requires.counted c.in-Some.l c.in-Some.what (sym c.in-Some.ensures) _)

pub returns-in-None : goal.returns-in-None
returns-in-None c = entered_unnoted c.args.plan.now c.args.history.now c.args.place c.args.self.now _ c.requires.within
    c.requires.few c.requires.tickets c.requires.threads c.requires.counted (sym c.in-None.ensures)
