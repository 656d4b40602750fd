use Rattle.turn_policy.proofs.Chosen.{equals, least, owing_first}
use Rattle.turn_policy.proofs.laws.the_chosen_are_most_important.Goals as goal

pub returns-clause-owing : goal.returns-clause-owing
returns-clause-owing c heeds_loans plan r last n t u e lt act owed =
    owing_first plan r heeds_loans last n t u e lt act owed

pub returns-clause-least : goal.returns-clause-least
returns-clause-least c heeds_loans plan r last n t u e lt act same = least plan r heeds_loans last n t u e lt act same

pub returns-clause-equals : goal.returns-clause-equals
returns-clause-equals c heeds_loans plan r last n t u e lt act same alike =
    equals plan r heeds_loans last n t u e lt act same alike
