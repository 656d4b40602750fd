use Rattle.std.proofs.Common.{◌≡◌, [], ◌∷◌, ◌∙◌, ap, sym, subst}
use Rattle.wait_objects.specs.Changes.{all_waiters, with_waiters}
use Rattle.wait_objects.specs.Inside.{seen_contents}
use Rattle.wait_objects.proofs.Joined.{waiting_kept, started}
use Rattle.wait_objects.proofs.object.Object.start.Goals as goal

pub returns-clause-contents : goal.returns-clause-contents
returns-clause-contents g c = rw (← c.self.view_is)
    (started g.E.Own.RANKED c.args.side (record { thread = c.args.node.value.place.thread; kept = c.args.prio.0 }) _
    (record c.self.inside { own = c.set_name.new.self }) c.insert.new.self
    (subst (λ o. all_waiters o.contents ≡ []) (sym c.self.view_is) c.requires.nobody)
    (waiting_kept c.args.node.value c.deref_mut.result.now c.keep.new.self c.args.prio.0 c.deref_mut.ensures.value
    c.keep.ensures) c.insert.ensures
    ∙ ap (λ o. with_waiters c.args.side (record { thread = c.args.node.value.place.thread; kept = c.args.prio.0 } ∷ [])
    (record (seen_contents c.self.inside) { own = o })) c.set_name.ensures)
