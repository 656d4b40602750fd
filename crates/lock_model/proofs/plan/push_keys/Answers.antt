use Rattle.std.proofs.Common.{eqb, [], ◌∷◌, sym, ap, ◌∙◌, arith}
use Rattle.std.proofs.lemmas.Grind.{common_steps}
use Rattle.std.proofs.lemmas.List.{append-nil}
use Rattle.lock_model.proofs.NamedKeys.{any_more}
use Rattle.lock_model.specs.Keys.{op_names}
use Rattle.lock_model.proofs.plan.push_keys.Goals as goal
use Rattle.lock_model.proofs.plan.push_keys.Goals.{in-Some+in_ok-push, in_default}

pub loop-op-preserved : goal.loop-op-preserved
loop-op-preserved c key =
    elim c.match-named_key.branch [
      | in-Some+in_ok-push w ↦ any_more (λ k. eqb k key) (op_names c.args.l.0 key) c.args.keys.now.items
          c.loop-op.keys.items (w.in-Some.key ∷ []) _ c.args.ops.now c.loop-op.op-index _ c.loop-op-test.true
          (c.loop-op.invariant key) (w.in-Some.ensures key) (ap (λ v. v.items) w.keys-is ∙ w.in_ok-push.ensures.items)
      | in_default w ↦ any_more (λ k. eqb k key) (op_names c.args.l.0 key) c.args.keys.now.items c.loop-op.keys.items []
          _ c.args.ops.now c.loop-op.op-index _ c.loop-op-test.true (c.loop-op.invariant key) (w.in_default.ensures key)
          (ap (λ v. v.items) w.keys-is ∙ sym (append-nil _))
    ]

pub returns : goal.returns
returns c key = grind (arith, common_steps, c.loop-op.invariant key)
