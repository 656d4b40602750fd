use Rattle.complaints.proofs.saying.say.Goals as goal

pub returns-in-Err-clause-said : goal.returns-in-Err-clause-said
returns-in-Err-clause-said g c = c.say_fixed.ensures.said c.args.text.now

pub returns-in-Err-clause-front : goal.returns-in-Err-clause-front
returns-in-Err-clause-front g c = c.say_fixed.ensures.front c.args.text.now
