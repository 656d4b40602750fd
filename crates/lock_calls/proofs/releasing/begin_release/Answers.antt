use Rattle.lock_calls.proofs.Names.{refl, sym, ap, subst, arith, Knowledge, ReleasesAtOnce}
use Rattle.std.proofs.Common.{◌∙◌}
use Rattle.lock_floor.specs.declared.calls.Call.TheVariants as calls
use Rattle.lock_calls.proofs.Calls.{own_noted, view_noted, call_noted}
use Rattle.lock_calls.proofs.Outside.{may_look_held}
use Rattle.lock_calls.proofs.Released.{may_note_release, few_threads, own_drops, own_is_held, may_drop_own, leaving_noted, other_own, at_once, begins}
use Rattle.lock_calls.proofs.releasing.begin_release.Goals as goal

pub stamp-requires-clause-may : goal.stamp-requires-clause-may
stamp-requires-clause-may c =
    may_note_release c.args.floor.now.description c.args.pass.now.view c.args.l c.args.mode c.requires.ready.rest
    c.requires.may.held

pub gained-own-requires-clause-thread : goal.gained-own-requires-clause-thread
gained-own-requires-clause-thread c =
    omega (
      arith,
      few_threads c.args.floor.now.description c.args.l c.args.mode c.args.pass.now.view c.stamp.new.pass.view
          c.stamp.result
          c.stamp.ensures.view c.stamp.ensures.step,
      c.thread.ensures.same,
    )

pub put_down-requires-clause-held : goal.put_down-requires-clause-held
put_down-requires-clause-held c =
    own_is_held c.gained-own.result c.thread.result.0 c.args.mode c.gained-own.ensures.word

pub put_down-requires-clause-drop : goal.put_down-requires-clause-drop
put_down-requires-clause-drop c = own_drops c.gained-own.result c.thread.result.0 c.args.mode c.gained-own.ensures.word

pub put_down-requires-clause-may : goal.put_down-requires-clause-may
put_down-requires-clause-may c =
    may_drop_own c.args.floor.now.description c.args.l.0 c.args.mode c.gained-own.result c.thread.result.0
    c.stamp.new.pass.view
    c.requires.may.covered.lock c.gained-own.ensures.word
    (leaving_noted c.args.floor.now.description c.args.l c.args.mode c.stamp.result c.args.pass.now.view
    c.stamp.new.pass.view c.args.pass.now.view
    c.requires.ready.rest c.requires.may.held c.requires.may.room c.stamp.ensures.view)

pub put_down-requires-clause-may_look : goal.put_down-requires-clause-may_look
put_down-requires-clause-may_look c =
    may_look_held c.args.floor.now.description c.stamp.new.pass.view c.args.l.0 c.args.mode
    c.stamp.ensures.own.description
    c.requires.may.covered.lock
    (leaving_noted c.args.floor.now.description c.args.l c.args.mode c.stamp.result c.args.pass.now.view
    c.stamp.new.pass.view c.args.pass.now.view
    c.requires.ready.rest c.requires.may.held c.requires.may.room c.stamp.ensures.view)

pub returns-in-Ok-clause-own : goal.returns-in-Ok-clause-own
returns-in-Ok-clause-own c =
    own_noted c.args.floor.now c.put_down.new.pass c.set_call.new.self calls.None c.set_call.ensures
    c.put_down.ensures.own

pub returns-in-Ok-clause-begun : goal.returns-in-Ok-clause-begun
returns-in-Ok-clause-begun c = (
  call_noted c.put_down.new.pass c.set_call.new.self calls.None c.set_call.ensures,
  subst (ReleasesAtOnce c.args.floor.now.description c.args.l c.args.mode c.args.pass.now.view)
      (sym (view_noted c.put_down.new.pass c.set_call.new.self calls.None c.set_call.ensures))
      (at_once c.args.floor.now.description c.args.l c.args.mode c.stamp.result c.args.pass.now.view
      c.stamp.new.pass.view c.put_down.new.pass.view c.requires.ready.rest c.requires.may.held c.requires.may.room
      c.stamp.ensures.view c.stamp.ensures.step c.in-Ok.ensures.view c.in-Ok.ensures.step),
)

pub returns-in-Err-clause-own : goal.returns-in-Err-clause-own
returns-in-Err-clause-own c =
    own_noted c.args.floor.now c.put_down.new.pass c.stand.new.pass
    (calls.Release c.args.l c.args.mode c.outside.result) c.stand.ensures c.put_down.ensures.own

pub returns-in-Err-clause-begun : goal.returns-in-Err-clause-begun
returns-in-Err-clause-begun c =
    begins c.args.floor.now.description c.args.l c.args.mode c.stamp.result c.args.pass.now.view c.stamp.new.pass.view
    c.requires.ready.rest c.requires.may.held c.requires.may.room c.args.pass.now c.put_down.new.pass
    c.stand.new.pass c.requires.may refl
    c.stamp.ensures.view c.stamp.ensures.step c.in-Err.found c.in-Err.ensures.found.1
    (other_own c.in-Err.found c.gained-own.result c.thread.result.0 c.args.pass.now.view.thread c.args.mode
    c.in-Err.ensures.found.0 c.gained-own.ensures.word
    (c.thread.ensures.same ∙ ap (λ (k : Knowledge). k.thread) c.stamp.ensures.view))
    c.in-Err.ensures.looked c.in-Err.ensures.look
    (c.stand.ensures ∙ ap (λ a. record c.put_down.new.pass { call = calls.Release c.args.l c.args.mode a })
    c.outside.ensures)
