use Rattle.std.proofs.Common.{ℕ, List, suc, option_map, sym, ap, subst, ◌∙◌}
use Rattle.lock_model.specs.declared.numbers.ThreadNo.{ThreadNo}
use Rattle.turn_policy.specs.Choosing.{IsBehindDraws, threads_in}
use Rattle.turn_policy.specs.Policies.{choice, drawn_from, runnable}
use Rattle.turn_policy.specs.declared.policy.Policy.{Policy}
use Rattle.turn_policy.proofs.Draws.{next_draw, this_draw}
use Rattle.turn_policy.proofs.choosing.choose.Goals as goal

pub returns-in-Chance-clause-choice : goal.returns-in-Chance-clause-choice
returns-in-Chance-clause-choice c r n h d =
    let plan = c.args.world.now.plan in
    let drawn = this_draw c.in-Chance.seed n c.args.random.now c.next_word.result c.next_word.new.self
    (subst (λ (p : Policy). IsBehindDraws p n c.args.random.now) c.in-Chance.is d) c.next_word.ensures in
    c.drawn_from.ensures.choice
    ∙ ap (λ (ts : List ℕ). drawn_from ts c.next_word.result)
    (ap threads_in c.deref-in-Chance.ensures.value ∙ (c.gather.ensures.gathered r h).threads)
    ∙ ap (drawn_from (runnable plan r)) drawn
    ∙ sym (ap (λ (p : Policy). choice p plan r (option_map (λ (t : ThreadNo). t.0) c.args.last) n) c.in-Chance.is)

pub returns-in-Chance-clause-draws : goal.returns-in-Chance-clause-draws
returns-in-Chance-clause-draws c n d =
    subst (λ (p : Policy). IsBehindDraws p (suc n) c.next_word.new.self) (sym c.in-Chance.is)
    (next_draw c.in-Chance.seed n c.args.random.now c.next_word.result c.next_word.new.self
    (subst (λ (p : Policy). IsBehindDraws p n c.args.random.now) c.in-Chance.is d) c.next_word.ensures)
