use Rattle.step_machine.proofs.Names.{drop, length, take, ap, arith, rules, tests, length-drop, YieldsList-from_slice}
use Rattle.step_machine.proofs.Names.{count_from_yields_List, YieldsList-from_take_while, take_all, is_endtry}
use Rattle.std.proofs.Common.{◌≡◌, ◌+◌, ◌-◌}
use Rattle.step_machine.proofs.machine.next_at.Goals as goal

pub returns : goal.returns
returns c =
    let ops = c.args.ops.now in
    let rest : take (length ops - c.args.n) (drop c.args.n ops)
    ≡ drop c.args.n ops = take_all _ (drop c.args.n ops) (omega (arith, length-drop c.args.n ops)) in
    ap (λ k. c.args.n + k)
    (count_from_yields_List c.take_while.result _ c.count.ensures.ran
    (YieldsList-from_take_while _ is_endtry (YieldsList-from_slice (drop c.args.n ops) (cc rest))
    c.take_while.ensures.closure c.take_while.ensures.done (λ x b q k. search (rules, tests))))
