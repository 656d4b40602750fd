use Rattle.run_chart.proofs.lookup.entry_in.Goals as goal

pub returns : goal.returns
returns c = (c.requires.run.told.each c.args.at.now.turn c.turn_at.result c.turn_at.ensures).entry
