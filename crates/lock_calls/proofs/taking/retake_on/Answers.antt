use Rattle.lock_calls.proofs.Names.{inl, inr, sym, subst, wakes_nobody, IsUnderAcquiring, IsBetween, TakesOn}
use Rattle.lock_calls.proofs.Calls.{unmarked_there}
use Rattle.lock_calls.proofs.taking.retake_on.Goals as goal

pub unreachable-requires : goal.unreachable-requires
unreachable-requires c = c.requires.checked c.in-Checks.is

pub acquire_on-requires-clause-between : goal.acquire_on-requires-clause-between
acquire_on-requires-clause-between c = elim c.in-Spins.is [
  | inl is ↦ subst IsBetween (sym is.1) tt
  | inr a ↦ elim a [
    | inl is ↦ subst IsBetween (sym is) tt
    | inr b ↦ elim b [
      | inl is ↦ subst IsBetween (sym is.1) tt
      | inr d ↦ elim d [
        | inl is ↦ subst IsBetween (sym is.1) tt
        | inr e ↦ elim e [
          | inl is ↦ subst IsBetween (sym is.1) tt
          | inr is ↦ subst IsBetween (sym is.1) tt
        ]
      ]
    ]
  ]
]

pub wake_back-requires-clause-under_way : goal.wake_back-requires-clause-under_way
wake_back-requires-clause-under_way c =
    subst (λ a. IsUnderAcquiring c.args.floor.now.description c.args.l c.args.mode a c.args.pass.now.view)
    c.in-Sleeps.is c.requires.under_way

pub returns-in-Sleeps-clause-on : goal.returns-in-Sleeps-clause-on
returns-in-Sleeps-clause-on c = (
  subst (λ a. TakesOn c.args.floor.now.description c.args.l c.args.mode a c.wake_back.result c.args.pass.now.view
      c.wake_back.new.pass.view)
      (sym c.in-Sleeps.is) c.wake_back.ensures.on,
  wakes_nobody c.args.pass.now.view c.wake_back.new.pass.view
      (unmarked_there c.args.pass.now.view c.in-Sleeps.is
      c.requires.under_way.calling.unmarked),
)
