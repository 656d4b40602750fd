use Rattle.std.proofs.Common.{not, sym, ap, ◌∙◌}
use Rattle.halting.proofs.Coming.{comes, may_come, passes_on, stays_coming, wakes_nobody}
use Rattle.halting.proofs.halting.come.Goals as goal

pub leave-requires-clause-over : goal.leave-requires-clause-over
leave-requires-clause-over c = sym c.in_default.ensures.queue

pub returns-then-not-is_sleep_queue-clause-went : goal.returns-then-not-is_sleep_queue-clause-went
returns-then-not-is_sleep_queue-clause-went c = (
  passes_on c.args.floor.now.description c.args.over c.args.itself c.args.pass.now.view c.requires.there.0
      c.requires.there.1 c.requires.there.2 c.in-Some.q (sym c.in-Some.ensures.queue)
      (c.is_sleep_queue.ensures ∙ ap not c.if-not-is_sleep_queue.true),
  wakes_nobody c.args.pass.now.view c.args.pass.now.view c.requires.there.2,
)

pub try_take_chain-requires-clause-first : goal.try_take_chain-requires-clause-first
try_take_chain-requires-clause-first c = c.requires.there.1

pub try_take_chain-requires-clause-may : goal.try_take_chain-requires-clause-may
try_take_chain-requires-clause-may c =
    may_come c.args.floor.now.description c.args.over c.args.itself c.args.pass.now.view c.requires.there.0
    c.requires.there.1 c.requires.there.2 c.in-Some.q (sym c.in-Some.ensures.queue)
    (c.is_sleep_queue.ensures ∙ ap not c.if-not-is_sleep_queue.false)

pub returns-then-try_take_chain-clause-went : goal.returns-then-try_take_chain-clause-went
returns-then-try_take_chain-clause-went c = (
  comes c.args.floor.now.description c.args.over c.args.itself c.args.pass.now.view c.requires.there.0
      c.requires.there.1 c.requires.there.2 c.in-Some.q (sym c.in-Some.ensures.queue)
      (c.is_sleep_queue.ensures ∙ ap not c.if-not-is_sleep_queue.false) c.try_take_chain.new.pass.view
      (c.try_take_chain.ensures.out c.if-try_take_chain.true),
  wakes_nobody c.args.pass.now.view c.try_take_chain.new.pass.view c.requires.there.2,
)

pub returns-else-try_take_chain-clause-went : goal.returns-else-try_take_chain-clause-went
returns-else-try_take_chain-clause-went c = (
  stays_coming c.args.floor.now.description c.args.over c.args.itself c.args.pass.now.view c.requires.there.0
      c.requires.there.1 c.requires.there.2 c.in-Some.q (sym c.in-Some.ensures.queue)
      (c.is_sleep_queue.ensures ∙ ap not c.if-not-is_sleep_queue.false) c.try_take_chain.new.pass.view
      (c.try_take_chain.ensures.left c.if-try_take_chain.false)
      (c.try_take_chain.ensures.elsewhere c.if-try_take_chain.false),
  wakes_nobody c.args.pass.now.view c.try_take_chain.new.pass.view c.requires.there.2,
)
