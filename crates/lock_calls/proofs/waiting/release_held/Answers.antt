use Rattle.lock_calls.proofs.Names.{sym, ap, subst, NotHeld, Holds, without_lock, Mode, hold_of, MakesEach, MakesEntry}
use Rattle.lock_calls.proofs.Names.{MayRelease, Release, IsReleaseIn, unlocks}
use Rattle.std.proofs.Common.{◌≡◌, ◌∙◌}
use Rattle.lock_model.specs.declared.event.Event.TheVariants as event
use Rattle.lock_calls.proofs.Owned.{same_mode}
use Rattle.lock_calls.proofs.waiting.release_held.Goals as goal

pub release-requires-clause-may : goal.release-requires-clause-may
release-requires-clause-may g c =
    subst (λ (m : Mode). MayRelease c.args.floor.now.description c.args.l.0 m c.args.pass.now.view)
    (same_mode c.requires.may.0 c.in-Some.mode
    (sym (sym (ap hold_of c.in-Some.is) ∙ c.mode.ensures ∙ c.requires.may.1.held))) c.requires.may.1

pub unreachable-requires : goal.unreachable-requires
unreachable-requires g c =
    let z : NotHeld ≡ Holds c.requires.may.0 =
    sym (ap hold_of c.in-None.is) ∙ c.mode.ensures ∙ c.requires.may.1.held in cc

pub returns-clause-entry : goal.returns-clause-entry
returns-clause-entry g c = λ mode held.
    subst (λ (m : Mode). MakesEntry c.args.floor.now.description (event.Unlocked c.args.l m)
    (without_lock c.args.l.0 c.args.pass.now.view.share.held) c.args.pass.now.view c.release.new.pass.view)
    (same_mode c.in-Some.mode mode (sym (ap hold_of c.in-Some.is) ∙ c.mode.ensures ∙ held)) c.release.ensures.entry

pub returns-clause-steps : goal.returns-clause-steps
returns-clause-steps g c = λ mode held.
    subst (λ (m : Mode). (how : Release) × IsReleaseIn m how × MakesEach c.args.floor.now.description
    (unlocks c.args.floor.now.description c.args.pass.now.view.thread c.args.l m how) c.args.pass.now.view
    c.release.new.pass.view)
    (same_mode c.in-Some.mode mode (sym (ap hold_of c.in-Some.is) ∙ c.mode.ensures ∙ held)) c.release.ensures.steps
