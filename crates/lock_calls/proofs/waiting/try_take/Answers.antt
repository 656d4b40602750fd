use Rattle.lock_calls.proofs.TriedSince.{gained_at_once, busy_at_once, stands_begun, gained, busy, stands_on}
use Rattle.lock_calls.proofs.waiting.try_take.Goals as goal

pub returns-in-Gained : goal.returns-in-Gained
returns-in-Gained g c =
    let done = gained_at_once c.args.floor.now.description c.args.l c.args.mode c.begin_try.result c.args.pass.now
    c.begin_try.new.pass c.begin_try.ensures.begun c.in-Gained.is in
    assumption (done.tried.entry, done.gains, tt, c.begin_try.ensures, done.tried)

pub returns-in-Busy : goal.returns-in-Busy
returns-in-Busy g c =
    let done = busy_at_once c.args.floor.now.description c.args.l c.args.mode c.begin_try.result c.args.pass.now
    c.begin_try.new.pass c.begin_try.ensures.begun c.in-Busy.seen c.in-Busy.is in
    assumption (tt, done.entry, c.begin_try.ensures, done)

pub loop-init : goal.loop-init
loop-init g c = record {
  own = c.begin_try.ensures.own;
  stands = stands_begun c.args.floor.now.description c.args.l c.args.mode c.begin_try.result c.args.pass.now
      c.begin_try.new.pass c.begin_try.ensures.begun c.in-Again.is;
}

pub go_on_trying-requires-clause-under_way : goal.go_on_trying-requires-clause-under_way
go_on_trying-requires-clause-under_way g c =
    let s = c.loop.invariant.stands in
    record { l = c.args.l; mode = c.args.mode; at = s.at; call = s.call; there = s.under }

pub returns-in-Gained-go_on_trying : goal.returns-in-Gained-go_on_trying
returns-in-Gained-go_on_trying g c =
    let s = c.loop.invariant.stands in
    let done = gained c.args.floor.now.description c.args.l c.args.mode c.args.pass.now.view c.loop.pass s
    c.go_on_trying.result c.go_on_trying.new.pass
    (c.go_on_trying.ensures.went c.args.l c.args.mode s.at s.call) c.in-Gained-go_on_trying.is in
    assumption (done.tried.entry, done.gains, tt, c.go_on_trying.ensures, done.tried)

pub returns-in-Busy-go_on_trying : goal.returns-in-Busy-go_on_trying
returns-in-Busy-go_on_trying g c =
    let s = c.loop.invariant.stands in
    let done = busy c.args.floor.now.description c.args.l c.args.mode c.args.pass.now.view c.loop.pass s
    c.go_on_trying.result c.go_on_trying.new.pass
    (c.go_on_trying.ensures.went c.args.l c.args.mode s.at s.call) c.in-Busy-go_on_trying.seen
    c.in-Busy-go_on_trying.is in
    assumption (tt, done.entry, c.go_on_trying.ensures, done)

pub loop-preserved : goal.loop-preserved
loop-preserved g c =
    let s = c.loop.invariant.stands in
    assumption (
      stands_on c.args.floor.now.description c.args.l c.args.mode c.args.pass.now.view c.loop.pass s
          c.go_on_trying.result c.go_on_trying.new.pass
          (c.go_on_trying.ensures.went c.args.l c.args.mode s.at s.call) c.in-Again-go_on_trying.is,
      c.go_on_trying.ensures,
    )
