use Rattle.lock_calls.proofs.Names.{Option, IfNone, IfSome, sym, subst, TryAt, HasTried, GainsAt, TriesOn, HasFoundBusy}
use Rattle.lock_calls.proofs.Names.{FindsBusyAt}
use Rattle.lock_floor.specs.declared.calls.Call.TheVariants as calls
use Rattle.lock_calls.proofs.Calls.{own_noted, view_noted, call_noted}
use Rattle.lock_calls.proofs.trying.go_on.Goals as goal

pub returns-in-Ok-Some-clause-own : goal.returns-in-Ok-Some-clause-own
returns-in-Ok-Some-clause-own c =
    own_noted c.args.floor.now c.go_on_at.new.pass c.set_call.new.self
    (calls.Try c.args.l c.args.mode c.in-Ok-Some.to) c.set_call.ensures c.go_on_at.ensures.own

pub returns-in-Ok-Some-clause-went : goal.returns-in-Ok-Some-clause-went
returns-in-Ok-Some-clause-went c = record {
  to = c.in-Ok-Some.to;
  call = call_noted c.go_on_at.new.pass c.set_call.new.self (calls.Try c.args.l c.args.mode c.in-Ok-Some.to)
      c.set_call.ensures;
  on = subst (TriesOn c.args.floor.now.description c.args.l c.args.mode c.args.at c.in-Ok-Some.to c.args.pass.now.view)
      (sym (view_noted c.go_on_at.new.pass c.set_call.new.self
      (calls.Try c.args.l c.args.mode c.in-Ok-Some.to) c.set_call.ensures))
      (subst (λ o. IfSome o (λ to. TriesOn c.args.floor.now.description c.args.l c.args.mode c.args.at to
      c.args.pass.now.view c.go_on_at.new.pass.view)) c.in-Ok-Some.field-0-is c.in-Ok-Some.ensures.on);
}

pub returns-in-Ok-None-clause-own : goal.returns-in-Ok-None-clause-own
returns-in-Ok-None-clause-own c =
    own_noted c.args.floor.now c.go_on_at.new.pass c.set_call-in-Ok-None.new.self calls.None
    c.set_call-in-Ok-None.ensures c.go_on_at.ensures.own

pub returns-in-Ok-None-clause-went : goal.returns-in-Ok-None-clause-went
returns-in-Ok-None-clause-went c =
    let same = sym (view_noted c.go_on_at.new.pass c.set_call-in-Ok-None.new.self calls.None
    c.set_call-in-Ok-None.ensures) in (
      call_noted c.go_on_at.new.pass c.set_call-in-Ok-None.new.self calls.None c.set_call-in-Ok-None.ensures,
      subst (HasTried c.args.floor.now.description c.args.l c.args.mode c.args.pass.now.view) same
          (subst (λ (o : Option TryAt). IfNone o (HasTried c.args.floor.now.description c.args.l c.args.mode
          c.args.pass.now.view c.go_on_at.new.pass.view)) c.in-Ok-None.field-0-is c.in-Ok-None.ensures.tried),
      subst (GainsAt c.args.floor.now.description c.args.l c.args.mode c.args.at c.args.pass.now.view) same
          (subst (λ (o : Option TryAt). IfNone o (GainsAt c.args.floor.now.description c.args.l c.args.mode c.args.at
          c.args.pass.now.view c.go_on_at.new.pass.view)) c.in-Ok-None.field-0-is c.in-Ok-None.ensures.gains),
    )

pub returns-in-Err-clause-own : goal.returns-in-Err-clause-own
returns-in-Err-clause-own c =
    own_noted c.args.floor.now c.go_on_at.new.pass c.set_call-in-Err.new.self calls.None c.set_call-in-Err.ensures
    c.go_on_at.ensures.own

pub returns-in-Err-clause-went : goal.returns-in-Err-clause-went
returns-in-Err-clause-went c =
    let same = sym (view_noted c.go_on_at.new.pass c.set_call-in-Err.new.self calls.None c.set_call-in-Err.ensures) in (
      call_noted c.go_on_at.new.pass c.set_call-in-Err.new.self calls.None c.set_call-in-Err.ensures,
      subst (HasFoundBusy c.args.floor.now.description c.args.l c.args.mode c.in-Err.seen c.args.pass.now.view) same
          c.in-Err.ensures.busy,
      subst
          (FindsBusyAt c.args.floor.now.description c.args.l c.args.mode c.in-Err.seen c.args.at
          c.args.pass.now.view) same c.in-Err.ensures.finds,
    )
