use Rattle.lock_calls.proofs.Names
use Names.{sym, ap, subst, inl, inr, word_of, Kind, Mtx, Rw, Sx, course, Course, Plainly, ByClaim, MustWait, AsksOwner}
use Names.{of_mutex, of_shareable, again, for_claim, owner_queued}
use Rattle.std.proofs.Common.{◌≡◌, ◌≢◌, ◌⊎◌, ◌∙◌}
use Rattle.lock_calls.proofs.spinning.looks_left.Goals as goal

others : (course : Course) → (course ≡ Plainly) ⊎ (course ≡ MustWait) → course ≢ ByClaim
others x (inl is) e = absurd (let z : Plainly ≡ ByClaim = sym is ∙ e in cc)
others x (inr is) e = absurd (let z : MustWait ≡ ByClaim = sym is ∙ e in cc)

no_mutex : (kind : Kind) → (kind ≡ Rw) ⊎ (kind ≡ Sx) → kind ≢ Mtx
no_mutex k (inl is) e = absurd (let z : Rw ≡ Mtx = sym is ∙ e in cc)
no_mutex k (inr is) e = absurd (let z : Sx ≡ Mtx = sym is ∙ e in cc)

pub course_of-requires-clause-mutex : goal.course_of-requires-clause-mutex
course_of-requires-clause-mutex c = λ e. c.requires.covered.mutex (sym c.kind-kind.ensures ∙ e)

pub returns-in-ByClaim-clause-leaves : goal.returns-in-ByClaim-clause-leaves
returns-in-ByClaim-clause-leaves c =
    for_claim
    (sym (ap (λ k. course k (word_of c.args.seen) c.args.mode) c.kind-kind.ensures) ∙ sym c.course_of.ensures
    ∙ c.in-ByClaim.is)

pub returns-then-owner_is_queued-clause-leaves : goal.returns-then-owner_is_queued-clause-leaves
returns-then-owner_is_queued-clause-leaves c =
    owner_queued (sym c.kind-kind.ensures ∙ c.in-Mtx.is)
    (subst (λ b. AsksOwner c.args.floor.now.description (word_of c.args.seen) b c.args.pass.now.view
    c.owner_is_queued.new.pass.view) c.if-owner_is_queued.true c.owner_is_queued.ensures.asks)

pub returns-else-owner_is_queued-clause-leaves : goal.returns-else-owner_is_queued-clause-leaves
returns-else-owner_is_queued-clause-leaves c =
    again (of_mutex (sym c.kind-kind.ensures ∙ c.in-Mtx.is)
    (subst (λ b. AsksOwner c.args.floor.now.description (word_of c.args.seen) b c.args.pass.now.view
    c.owner_is_queued.new.pass.view) c.if-owner_is_queued.false c.owner_is_queued.ensures.asks))

pub returns-in-Rw-clause-leaves : goal.returns-in-Rw-clause-leaves
returns-in-Rw-clause-leaves c =
    let said = sym (ap (λ k. course k (word_of c.args.seen) c.args.mode) c.kind-kind.ensures)
    ∙ sym c.course_of.ensures in
    again (of_shareable (λ e. no_mutex c.kind-kind.result c.in-Rw.is (c.kind-kind.ensures ∙ e))
    (λ e. others c.course_of.result c.in-Plainly.is (sym said ∙ e)))
