use Rattle.std.proofs.Common.{refl}
use Rattle.std.proofs.lemmas.Bool.{iff_false}
use Rattle.lock_model.specs.declared.numbers.ClassNo.{ClassNo}
use Rattle.witness_orders.proofs.Checked.{first_at, admitted_more}
use Rattle.witness_orders.proofs.orders.Orders.check.Goals as goal

abbrev any : ClassNo
any = record { 0 = 0 }

pub returns-then-forbids : goal.returns-then-forbids
returns-then-forbids c = (
  first_at c.args.self.now.edges c.args.wanted.0 any c.args.held.now c.loop-h.h-index
      c.loop-h-test.true c.loop-h.invariant (c.forbids.ensures.0 c.if-forbids.true),
  refl,
)

pub loop-h-preserved : goal.loop-h-preserved
loop-h-preserved c =
    admitted_more c.args.self.now.edges c.args.wanted.0 any c.args.held.now c.loop-h.h-index
    c.loop-h-test.true c.loop-h.invariant (iff_false c.forbids.ensures c.if-forbids.false)
