use Rattle.std.proofs.Common.{◌≡◌, ◌^◌, ◌<◌, ◌∙◌, bit_or, get_or, refl, sym, arith}
use Rattle.witness_orders.proofs.Closed.{rows_learnt}
use Rattle.witness_orders.proofs.Rows.{known_edges}
use Rattle.witness_orders.proofs.orders.learn.Goals as goal

pub returns : goal.returns
returns c =
    let rows = c.args.reached.now in
    let w = c.args.wanted.0 in
    let gained = bit_or (get_or rows c.from.result 0) c.only.result in
    let is : gained ≡ bit_or (get_or rows w 0) (2 ^ w) = rw (c.from.ensures, c.only.ensures) refl in
    let learnt = rows_learnt c.args.edges.now rows c.args.held.now w c.set_of.result gained
    c.requires.closed c.requires.held c.requires.wanted c.requires.admitted
    c.set_of.type_inv c.set_of.ensures is c.add_edges.new.edges c.close.new.rows
    c.add_edges.auto.edges c.close.auto.rows c.add_edges.ensures c.close.ensures in
    record { closed = learnt.0; edges = learnt.1 }

pub returns-then-are_known-clause-edges : goal.returns-then-are_known-clause-edges
returns-then-are_known-clause-edges c =
    let within : c.args.wanted.0 < 64 = let m = c.requires.closed.limit in let l = c.requires.wanted in omega arith in
    known_edges c.args.edges.now c.args.held.now c.args.wanted.0 within c.requires.held
    (sym c.are_known.ensures ∙ c.if-are_known.true)
