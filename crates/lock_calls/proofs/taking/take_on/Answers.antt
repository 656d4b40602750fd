use Rattle.lock_calls.proofs.Names.{inl, inr, sym, subst, TakeAt, Checks, wakes_nobody, TakeNext, IsUnderTake}
use Rattle.lock_calls.proofs.Names.{IsBetween, TakesOn, TakesPart, IsHalted, kept_at}
use Rattle.lock_calls.proofs.Attempts.{can_acquire}
use Rattle.lock_calls.proofs.Calls.{takes_part, unmarked_there}
use Rattle.lock_calls.proofs.taking.take_on.Goals as goal

pub check-requires-clause-under_way : goal.check-requires-clause-under_way
check-requires-clause-under_way c =
    subst (λ a. IsUnderTake c.args.floor.now.description c.args.l c.args.mode a c.args.pass.now.view)
    c.in-Checks.is c.requires.under_way

pub returns-in-Ok-clause-on : goal.returns-in-Ok-clause-on
returns-in-Ok-clause-on c =
    let part = takes_part c.args.floor.now.description c.args.l c.args.mode Checks c.in-Ok.to c.args.pass.now.view
    c.check.new.pass.view c.in-Ok.ensures.gained c.in-Ok.ensures.end c.in-Ok.ensures.on
    (wakes_nobody c.args.pass.now.view c.check.new.pass.view
    (unmarked_there c.args.pass.now.view c.in-Checks.is
    c.requires.under_way.calling.unmarked)) in
    subst (λ (z : TakeAt × TakeNext). TakesPart c.args.floor.now.description c.args.l c.args.mode z.0 z.1
    c.args.pass.now.view c.check.new.pass.view) (λ i. (sym c.in-Checks.is i, sym c.stands.ensures i)) part

pub returns-in-Err-clause-refused : goal.returns-in-Err-clause-refused
returns-in-Err-clause-refused c = (c.in-Checks.is, c.in-Err.ensures.refused)

pub acquire_on-requires-clause-between : goal.acquire_on-requires-clause-between
acquire_on-requires-clause-between c = elim c.in-Spins.is [
  | inl is ↦ subst IsBetween (sym is.1) tt
  | inr a ↦ elim a [
    | inl is ↦ subst IsBetween (sym is) tt
    | inr b ↦ elim b [
      | inl is ↦ subst IsBetween (sym is.1) tt
      | inr d ↦ elim d [
        | inl is ↦ subst IsBetween (sym is.1) tt
        | inr e ↦ elim e [
          | inl is ↦ subst IsBetween (sym is.1) tt
          | inr is ↦ subst IsBetween (sym is.1) tt
        ]
      ]
    ]
  ]
]

pub acquire_on-requires-clause-under_way : goal.acquire_on-requires-clause-under_way
acquire_on-requires-clause-under_way c = assumption (
  can_acquire c.args.floor.now.description (kept_at c.args.at c.args.pass.now.view) c.requires.under_way.calling,
  c.requires.under_way,
)

pub wake_up-requires-clause-under_way : goal.wake_up-requires-clause-under_way
wake_up-requires-clause-under_way c =
    subst (λ a. IsUnderTake c.args.floor.now.description c.args.l c.args.mode a c.args.pass.now.view)
    c.in-Sleeps.is c.requires.under_way

pub returns-in-Ok-wake_up-clause-on : goal.returns-in-Ok-wake_up-clause-on
returns-in-Ok-wake_up-clause-on c = (
  subst (λ a. TakesOn c.args.floor.now.description c.args.l c.args.mode a c.in-Ok-wake_up.to c.args.pass.now.view
      c.wake_up.new.pass.view)
      (sym c.in-Sleeps.is) c.in-Ok-wake_up.ensures.on,
  wakes_nobody c.args.pass.now.view c.wake_up.new.pass.view
      (unmarked_there c.args.pass.now.view c.in-Sleeps.is
      c.requires.under_way.calling.unmarked),
)

pub returns-in-Err-wake_up-clause-refused : goal.returns-in-Err-wake_up-clause-refused
returns-in-Err-wake_up-clause-refused c =
    subst (λ a. IsHalted c.args.floor.now.description c.args.l a c.args.pass.now.view c.wake_up.new.pass.view)
    (sym c.in-Sleeps.is) c.in-Err-wake_up.ensures.halted
