use Rattle.floor_calls.proofs.Answered.{against_named}
use Rattle.floor_calls.proofs.thread.Thread.against.Goals as goal

pub returns-in-Take : goal.returns-in-Take
returns-in-Take c = against_named c.args.self.now c.in-Take.is c.against_gain.ensures

pub returns-in-Try : goal.returns-in-Try
returns-in-Try c = against_named c.args.self.now c.in-Try.is c.against_gain-in-Try.ensures

pub returns-in-Release : goal.returns-in-Release
returns-in-Release c = against_named c.args.self.now c.in-Release.is c.against_release.ensures

pub returns-in-Edit : goal.returns-in-Edit
returns-in-Edit c = against_named c.args.self.now c.in-Edit.is c.against_edit.ensures

pub returns-in-Read : goal.returns-in-Read
returns-in-Read c = against_named c.args.self.now c.in-Read.is c.against_read.ensures

pub returns-in-SetBase : goal.returns-in-SetBase
returns-in-SetBase c = against_named c.args.self.now c.in-SetBase.is c.against_priorities.ensures

pub returns-in-Show : goal.returns-in-Show
returns-in-Show c = against_named c.args.self.now c.in-Show.is c.against_priorities-in-Show.ensures

pub returns-in-WakeUp : goal.returns-in-WakeUp
returns-in-WakeUp c = against_named c.args.self.now c.in-WakeUp.is c.against_wake.ensures

pub returns-in-Wait : goal.returns-in-Wait
returns-in-Wait c = against_named c.args.self.now c.in-Wait.is c.against_wait.ensures

pub returns-in-End : goal.returns-in-End
returns-in-End c = against_named c.args.self.now c.in-End.is c.against_end.ensures

pub returns-in-GoOn : goal.returns-in-GoOn
returns-in-GoOn c = against_named c.args.self.now c.in-GoOn.is c.against_going_on.ensures
