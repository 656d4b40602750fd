use Rattle.std.proofs.Common.{◌≡◌, false}
use Rattle.lock_model.specs.Words.{word_of, is_free}
use Rattle.lock_calls.proofs.Attempts.{acquires, begins_call}
use Rattle.lock_calls.proofs.Looks.{may_look_on, rest_looks}
use Rattle.floor_table.specs.Descriptions.{config_in}
use Rattle.lock_calls.proofs.Words.{saw_held, saw_others}
use Rattle.adaptive_mutex.proofs.Tried.{may_gain_free, may_note, tried, may_note_busy, found_busy}
use Rattle.adaptive_mutex.proofs.mutex.try_lock.Goals as goal
use Rattle.adaptive_mutex.proofs.mutex.try_lock.Goals.{In-Err}

pub gain-requires-clause-may : goal.gain-requires-clause-may
gain-requires-clause-may c =
    may_gain_free c.args.floor.now.description c.args.l.0 c.args.pass.now.view c.requires.may.mutex
    (acquires c.args.floor.now.description c.args.l.0 c.args.pass.now.view c.requires.ready.rest
    c.requires.may.unheld c.requires.may.few)

pub gain-requires-clause-may_look : goal.gain-requires-clause-may_look
gain-requires-clause-may_look c =
    may_look_on c.args.floor.now.description c.args.pass.now.view c.args.l.0 c.requires.ready.own.description
    c.requires.may.mutex.lock (rest_looks c.args.floor.now.description c.args.pass.now.view c.requires.ready.rest)
    (λ unheld. begins_call c.args.floor.now.description c.args.l.0 c.args.pass.now.view
    (acquires c.args.floor.now.description c.args.l.0 c.args.pass.now.view c.requires.ready.rest
    c.requires.may.unheld c.requires.may.few))

-- 1. It gained the mutex

pub stamp-requires-clause-may : goal.stamp-requires-clause-may
stamp-requires-clause-may c =
    may_note c.args.floor.now.description c.args.l c.args.pass.now.view c.gain.new.pass.view c.requires.ready.rest
    c.requires.may c.in-Ok.ensures.view

pub returns-in-Ok : goal.returns-in-Ok
returns-in-Ok c =
    let done =
    tried c.args.floor.now.description c.args.l c.args.pass.now.view c.gain.new.pass.view c.requires.ready.rest
    c.requires.may c.in-Ok.ensures.view c.in-Ok.ensures.step c.stamp.new.pass.view c.stamp.result c.stamp.ensures.view
    c.stamp.ensures.step in
    record {
      ready = assumption (c.stamp.ensures, done);
      gained = done.entry;
      steps = done.steps;
      busy = tt;
      noted = tt;
    }

-- 2. It found it held

held : (c : In-Err) → is_free (word_of c.in-Err.seen).holder ≡ false
held c = saw_held ((config_in c.args.floor.now.description).kind c.args.l.0) c.in-Err.seen c.requires.may.mutex.kind
    c.in-Err.ensures.found.0
    (saw_others c.args.floor.now.description c.args.l.0 c.in-Err.seen c.args.pass.now.view c.gain.new.pass.view
    c.requires.may.unheld c.in-Err.ensures.looked c.in-Err.ensures.look)

pub stamp-requires-in-Err-clause-may : goal.stamp-requires-in-Err-clause-may
stamp-requires-in-Err-clause-may c =
    may_note_busy c.args.floor.now.description c.args.l c.in-Err.seen c.args.pass.now.view c.gain.new.pass.view
    c.requires.ready.rest c.requires.may
    (held (goal.at.stamp-requires-in-Err-clause-may c).In-Err) c.in-Err.ensures.looked

pub returns-in-Err : goal.returns-in-Err
returns-in-Err c =
    let done = found_busy c.args.floor.now.description c.args.l c.in-Err.seen c.args.pass.now.view c.gain.new.pass.view
    c.requires.ready.rest c.requires.may
    (held (goal.at.returns-in-Err c).In-Err) c.in-Err.ensures.looked c.in-Err.ensures.found.1 c.in-Err.ensures.look
    c.stamp-in-Err.new.pass.view c.stamp-in-Err.result c.stamp-in-Err.ensures.view c.stamp-in-Err.ensures.step in
    record {
      ready = assumption (c.stamp-in-Err.ensures, done);
      gained = tt;
      steps = tt;
      busy = done.busy;
      noted = done.entry;
    }
