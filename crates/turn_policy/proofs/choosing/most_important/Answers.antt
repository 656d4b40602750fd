use Rattle.std.proofs.Common.{◌&&◌, ◌<◌, nat_le, length, option_map, sym, ap, ◌∙◌}
use Rattle.lock_model.specs.declared.numbers.ThreadNo.{ThreadNo}
use Rattle.turn_policy.specs.Policies.{ran_last}
use Rattle.turn_policy.specs.declared.choosing.Candidate.{Candidate}
use Rattle.turn_policy.proofs.Candidates.{found_among, important}
use Rattle.turn_policy.proofs.choosing.most_important.Goals as goal

pub returns-in_err-found-clause-choice : goal.returns-in_err-found-clause-choice
returns-in_err-found-clause-choice c priority known =
    ap (option_map (λ (t : ThreadNo). t.0)) c.from_residual-in_err-found.ensures
    ∙ ap (option_map (λ (d : Candidate). d.thread.0)) (sym c.in_err-found.was ∙ c.or.ensures)
    ∙ important priority (option_map (λ (t : ThreadNo). t.0) c.args.last) c.args.candidates.now known
    c.in_ok-least.least.0 c.in_ok-least.ensures c.copied-ran_last.result c.copied.result
    (c.copied-ran_last.ensures ∙ c.last_of_least.ensures) (c.copied.ensures ∙ c.first_of_least.ensures)

pub returns-clause-choice : goal.returns-clause-choice
returns-clause-choice c priority known =
    ap (option_map (λ (d : Candidate). d.thread.0)) (sym c.in_ok-found.was ∙ c.or.ensures)
    ∙ important priority (option_map (λ (t : ThreadNo). t.0) c.args.last) c.args.candidates.now known
    c.in_ok-least.least.0 c.in_ok-least.ensures c.copied-ran_last.result c.copied.result
    (c.copied-ran_last.ensures ∙ c.last_of_least.ensures) (c.copied.ensures ∙ c.first_of_least.ensures)

pub returns-clause-thread : goal.returns-clause-thread
returns-clause-thread c plan all =
    found_among (λ (d : Candidate). d.thread.0 < length plan.threads)
    (λ (d : Candidate). nat_le d.priority.0 c.in_ok-least.least.0 && ran_last
    (option_map (λ (t : ThreadNo). t.0) c.args.last) d.thread.0)
    (λ (d : Candidate). nat_le d.priority.0 c.in_ok-least.least.0) c.args.candidates.now c.copied-ran_last.result
    c.copied.result c.in_ok-found.found all (c.copied-ran_last.ensures ∙ c.last_of_least.ensures)
    (c.copied.ensures ∙ c.first_of_least.ensures)
    (sym c.or.ensures ∙ c.in_ok-found.was)
