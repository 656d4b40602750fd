use Rattle.lock_calls.proofs.Names.{sym, ap, word_of, course}
use Rattle.std.proofs.Common.{◌∙◌}
use Rattle.lock_calls.proofs.blocking.attempt_there.Goals as goal

pub course_of-requires-clause-well_formed : goal.course_of-requires-clause-well_formed
course_of-requires-clause-well_formed c = c.requires.seen_so.formed

pub course_of-requires-clause-mutex : goal.course_of-requires-clause-mutex
course_of-requires-clause-mutex c = λ e. c.requires.covered.mutex (sym c.kind.ensures ∙ e)

pub gain_there-requires-clause-course : goal.gain_there-requires-clause-course
gain_there-requires-clause-course c =
    sym (ap (λ k. course k (word_of c.args.seen) c.args.mode) c.kind.ensures) ∙ sym c.course_of.ensures
    ∙ c.in-Plainly.is

pub claim_there-requires-clause-course : goal.claim_there-requires-clause-course
claim_there-requires-clause-course c =
    sym (ap (λ k. course k (word_of c.args.seen) c.args.mode) c.kind.ensures) ∙ sym c.course_of.ensures
    ∙ c.in-ByClaim.is

pub enter_there-requires-clause-course : goal.enter_there-requires-clause-course
enter_there-requires-clause-course c =
    sym (ap (λ k. course k (word_of c.args.seen) c.args.mode) c.kind.ensures) ∙ sym c.course_of.ensures
    ∙ c.in-MustWait.is
