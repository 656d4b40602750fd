use Rattle.std.proofs.Common.{◌∙◌, ap, subst}
use Rattle.halting.specs.declared.ending.EndAt.{EndAt}
use Rattle.halting.specs.declared.ending.EndAt.TheVariants.{Takes}
use Rattle.halting.specs.declared.ending.EndNext.TheVariants.{Again}
use Rattle.halting.specs.Ends.{GoesOnEnding}
use Rattle.halting.proofs.Ended.{again, ends_kept, ends_unseen, ends_whole, halts_kept, halts_unseen, halts_whole, is_last}
use Rattle.halting.proofs.ending.end_thread.Goals as goal

pub returns-in-Done-clause-steps : goal.returns-in-Done-clause-steps
returns-in-Done-clause-steps g c =
    ends_whole c.args.floor.now.description c.args.pass.now.view c.loop.pass.view c.end.new.pass.view
    c.loop.invariant.stands
    (subst (λ n. GoesOnEnding c.args.floor.now.description Takes n c.loop.pass.view c.end.new.pass.view) c.in-Done.is
    c.end.ensures.went)

pub loop-preserved : goal.loop-preserved
loop-preserved g c = assumption (
  again c.args.floor.now.description c.args.pass.now.view c.loop.pass.view c.end.new.pass.view c.loop.invariant.stands
      (subst (λ n. GoesOnEnding c.args.floor.now.description Takes n c.loop.pass.view c.end.new.pass.view)
      (c.in-Again-Takes.is ∙ ap (λ (a : EndAt). Again a) c.in-Again-Takes.field-0-is) c.end.ensures.went).0,
  c.end.ensures,
)

pub halt_others-requires-clause-last : goal.halt_others-requires-clause-last
halt_others-requires-clause-last g c =
    is_last c.args.floor.now.description c.args.pass.now.view c.loop.pass.view c.end.new.pass.view
    c.loop.invariant.stands c.in-Again-Halts.field-0-0
    (subst (λ n. GoesOnEnding c.args.floor.now.description Takes n c.loop.pass.view c.end.new.pass.view)
    (c.in-Again-Halts.is ∙ ap (λ (a : EndAt). Again a) c.in-Again-Halts.field-0-is) c.end.ensures.went).0

pub returns-in-Again-Halts-clause-steps : goal.returns-in-Again-Halts-clause-steps
returns-in-Again-Halts-clause-steps g c =
    (halts_whole c.args.floor.now.description c.args.pass.now.view c.loop.pass.view c.end.new.pass.view
    c.loop.invariant.stands c.in-Again-Halts.field-0-0
    (subst (λ n. GoesOnEnding c.args.floor.now.description Takes n c.loop.pass.view c.end.new.pass.view)
    (c.in-Again-Halts.is ∙ ap (λ (a : EndAt). Again a) c.in-Again-Halts.field-0-is) c.end.ensures.went).0
    c.halt_others.new.pass.view c.halt_others.ensures.halted c.halt_others.ensures.steps).1

pub returns-in-Again-Halts-clause-ended : goal.returns-in-Again-Halts-clause-ended
returns-in-Again-Halts-clause-ended g c =
    (halts_whole c.args.floor.now.description c.args.pass.now.view c.loop.pass.view c.end.new.pass.view
    c.loop.invariant.stands c.in-Again-Halts.field-0-0
    (subst (λ n. GoesOnEnding c.args.floor.now.description Takes n c.loop.pass.view c.end.new.pass.view)
    (c.in-Again-Halts.is ∙ ap (λ (a : EndAt). Again a) c.in-Again-Halts.field-0-is) c.end.ensures.went).0
    c.halt_others.new.pass.view c.halt_others.ensures.halted c.halt_others.ensures.steps).0

pub returns-in-Done-clause-ended : goal.returns-in-Done-clause-ended
returns-in-Done-clause-ended g c =
    (subst (λ n. GoesOnEnding c.args.floor.now.description Takes n c.loop.pass.view c.end.new.pass.view) c.in-Done.is
    c.end.ensures.went).ended

pub returns-in-Done-clause-kept : goal.returns-in-Done-clause-kept
returns-in-Done-clause-kept g c =
    ends_kept c.args.floor.now.description c.args.pass.now.view c.loop.pass.view c.end.new.pass.view
    c.loop.invariant.stands
    (subst (λ n. GoesOnEnding c.args.floor.now.description Takes n c.loop.pass.view c.end.new.pass.view) c.in-Done.is
    c.end.ensures.went)

pub returns-in-Again-Halts-clause-kept : goal.returns-in-Again-Halts-clause-kept
returns-in-Again-Halts-clause-kept g c =
    halts_kept c.args.floor.now.description c.args.pass.now.view c.loop.pass.view c.end.new.pass.view
    c.loop.invariant.stands c.in-Again-Halts.field-0-0
    (subst (λ n. GoesOnEnding c.args.floor.now.description Takes n c.loop.pass.view c.end.new.pass.view)
    (c.in-Again-Halts.is ∙ ap (λ (a : EndAt). Again a) c.in-Again-Halts.field-0-is) c.end.ensures.went).0
    c.halt_others.new.pass.view c.halt_others.ensures.halted

pub returns-in-Done-clause-no_last_look : goal.returns-in-Done-clause-no_last_look
returns-in-Done-clause-no_last_look g c =
    ends_unseen c.args.floor.now.description c.args.pass.now.view c.loop.pass.view c.end.new.pass.view
    c.loop.invariant.stands
    (subst (λ n. GoesOnEnding c.args.floor.now.description Takes n c.loop.pass.view c.end.new.pass.view) c.in-Done.is
    c.end.ensures.went)

pub returns-in-Again-Halts-clause-no_last_look : goal.returns-in-Again-Halts-clause-no_last_look
returns-in-Again-Halts-clause-no_last_look g c =
    halts_unseen c.args.floor.now.description c.args.pass.now.view c.loop.pass.view c.end.new.pass.view
    c.loop.invariant.stands c.in-Again-Halts.field-0-0
    (subst (λ n. GoesOnEnding c.args.floor.now.description Takes n c.loop.pass.view c.end.new.pass.view)
    (c.in-Again-Halts.is ∙ ap (λ (a : EndAt). Again a) c.in-Again-Halts.field-0-is) c.end.ensures.went).0
    c.halt_others.new.pass.view c.halt_others.ensures.halted
