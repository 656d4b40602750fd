use Rattle.lock_objects.proofs.Names.{rules, sym, ap, map_is_empty, bare, head_of, aborted_from, chain_aborted}
use Rattle.std.proofs.Common.{◌≡◌, ◌∙◌}
use Rattle.lock_objects.proofs.Aborts.{aborted_chain, aborted_marks}
use Rattle.lock_objects.proofs.Opens.{of_head}
use Rattle.lock_objects.proofs.aborting.abort.Goals as goal

pub put_back-requires-clause-bare : goal.put_back-requires-clause-bare
put_back-requires-clause-bare c =
    c.remove.ensures.next ∙ ap (λ v. v.next) c.deref_mut.ensures.value
    ∙ map_is_empty bare c.in-Some.head.value.next c.in-Some.ensures.bare

pub returns-clause-queues : goal.returns-clause-queues
returns-clause-queues c k s n side w its is changes shows =
    let o = c.in-Some.ensures in
    let q = c.args.q in
    let h = c.in-Some.head.value in
    let chain = c.args.chain.now in
    aborted_chain k s q side w is shows h (sym o.taken) n changes (ap (head_of q) (sym o.others) ∙ o.absent)
    (of_head (λ v. c.put_back.new.chain ≡ chain_aborted q c.args.t.0 v chain) o.taken (search rules)
    ∙ ap (λ u. chain_aborted q u h chain) (sym its))

pub returns-clause-marks : goal.returns-clause-marks
returns-clause-marks c k s side w its is shows =
    let o = c.in-Some.ensures in
    let h = c.in-Some.head.value in
    aborted_marks k s c.args.q side w is shows h (sym o.taken)
    (of_head (λ v. c.put_back.result ≡ aborted_from c.args.t.0 v.contents) o.taken (search rules)
    ∙ ap (λ u. aborted_from u h.contents) (sym its))
