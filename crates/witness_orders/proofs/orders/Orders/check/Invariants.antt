use Rattle.std.proofs.Common.{take}
use Rattle.lock_model.specs.Orders.{IsAdmitted}
use Rattle.witness_orders.specs.Graph.{numbers_of}
use Rattle.witness_orders.proofs.orders.Orders.check.Given as goal

abbrev pub invariant-loop-h : goal.invariant-loop-h
invariant-loop-h l = IsAdmitted l.self.edges (numbers_of (take l.h-index l.held)) l.wanted.0
