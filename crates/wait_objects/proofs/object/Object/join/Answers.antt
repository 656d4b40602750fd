use Rattle.std.proofs.Common.{◌≡◌, ◌≢◌, [], false, ap, ◌∙◌, sym, subst}
use Rattle.wait_objects.specs.Changes.{all_waiters, waits}
use Rattle.wait_objects.specs.Inside.{waiting, seen_contents}
use Rattle.wait_objects.proofs.Joined.{waiting_kept, joins}
use Rattle.wait_objects.proofs.object.Object.join.Goals as goal

pub invariant_of-self : goal.invariant_of-self
invariant_of-self g c =
    let new = waiting_kept c.args.node.value c.deref_mut.result.now c.keep.new.self c.args.prio.0
    c.deref_mut.ensures.value c.keep.ensures in
    joins g.E.Own c.args.side
    (waiting c.keep.new.self.place) c.args.own.value.contents c.self.inside c.insert.new.self c.put.new.self
    (subst (λ o. all_waiters o.contents ≢ []) (sym c.self.view_is) c.requires.head)
    (ap (λ w. waits w.thread (seen_contents c.self.inside)) new
    ∙ subst (λ o. waits c.args.node.value.place.thread o.contents ≡ false) (sym c.self.view_is) c.requires.absent)
    c.insert.ensures c.put.ensures (ap (λ o. o.contents) c.requires.own) c.self.invariant
