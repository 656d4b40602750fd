use Rattle.plan_top.proofs.top.plan.Goals as goal

pub planned-requires : goal.planned-requires
planned-requires g c = record { script = (_, c.in-Ok-read_script.ensures.accepted) }
