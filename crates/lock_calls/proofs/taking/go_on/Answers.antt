use Rattle.lock_calls.proofs.Names.{sym, subst, Call, HasTaken, TakeEnds, TakesPart, IsRefused, IsHalted, IsNotTaken}
use Rattle.lock_floor.specs.declared.calls.Call.TheVariants as calls
use Rattle.lock_calls.specs.declared.answers.TakeNext.TheVariants as next
use Rattle.lock_calls.proofs.Calls.{own_noted, view_noted, call_noted, take_stands}
use Rattle.lock_calls.proofs.Noting.{calling_at_end, may_note_lock, room_to_note, note_step, taken}
use Rattle.lock_calls.proofs.taking.go_on.Goals as goal

pub returns-in-Ok-At-clause-own : goal.returns-in-Ok-At-clause-own
returns-in-Ok-At-clause-own c =
    own_noted c.args.floor.now c.take_on.new.pass c.set_call.new.self
    (calls.Take c.args.l c.args.mode c.in-Ok-At.to) c.set_call.ensures c.take_on.ensures.own

pub returns-in-Ok-At-clause-went : goal.returns-in-Ok-At-clause-went
returns-in-Ok-At-clause-went c =
    let at : Call = calls.Take c.args.l c.args.mode c.in-Ok-At.to in
    let part = subst (TakesPart c.args.floor.now.description c.args.l c.args.mode c.args.at (next.At c.in-Ok-At.to)
    c.args.pass.now.view) (sym (view_noted c.take_on.new.pass c.set_call.new.self at c.set_call.ensures))
    (subst (λ n. TakesPart c.args.floor.now.description c.args.l c.args.mode c.args.at n c.args.pass.now.view
    c.take_on.new.pass.view) c.in-Ok-At.field-0-is c.in-Ok-At.ensures.on) in
    take_stands c.args.floor.now.description c.args.l c.args.mode c.args.at c.in-Ok-At.to c.args.pass.now
    c.set_call.new.self c.next_at.result
    c.next_at.ensures
    (call_noted c.take_on.new.pass c.set_call.new.self at c.set_call.ensures) part.0 part.1

pub returns-in-Ok-Wake-clause-own : goal.returns-in-Ok-Wake-clause-own
returns-in-Ok-Wake-clause-own c =
    own_noted c.args.floor.now c.take_on.new.pass c.set_call-in-Ok-Wake.new.self
    (calls.Take c.args.l c.args.mode c.in-Ok-Wake.to) c.set_call-in-Ok-Wake.ensures c.take_on.ensures.own

pub returns-in-Ok-Wake-clause-went : goal.returns-in-Ok-Wake-clause-went
returns-in-Ok-Wake-clause-went c =
    let at : Call = calls.Take c.args.l c.args.mode c.in-Ok-Wake.to in
    let behind = c.set_call-in-Ok-Wake.new.self in
    record {
      to = c.in-Ok-Wake.to;
      call = call_noted c.take_on.new.pass behind at c.set_call-in-Ok-Wake.ensures;
      wakes = subst (TakesPart c.args.floor.now.description c.args.l c.args.mode c.args.at
          (next.Wake c.in-Ok-Wake.t c.in-Ok-Wake.to) c.args.pass.now.view)
          (sym (view_noted c.take_on.new.pass behind at c.set_call-in-Ok-Wake.ensures))
          (subst (λ n. TakesPart c.args.floor.now.description c.args.l c.args.mode c.args.at n c.args.pass.now.view
          c.take_on.new.pass.view) c.in-Ok-Wake.field-0-is c.in-Ok-Wake.ensures.on);
    }

pub note_taken-requires-clause-room : goal.note_taken-requires-clause-room
note_taken-requires-clause-room c =
    let part = subst (λ n. TakesPart c.args.floor.now.description c.args.l c.args.mode c.args.at n c.args.pass.now.view
    c.take_on.new.pass.view) c.in-Ok-Gained.field-0-is c.in-Ok-Gained.ensures.on in
    room_to_note c.args.floor.now.description c.args.l c.args.mode c.args.pass.now.view c.take_on.new.pass.view
    (calling_at_end c.args.floor.now.description c.args.l c.args.mode c.args.at c.args.pass.now.view
    c.take_on.new.pass.view part.1 c.requires.under_way.calling)
    c.requires.under_way.room part.0

pub note_taken-requires-clause-may : goal.note_taken-requires-clause-may
note_taken-requires-clause-may c =
    let part = subst (λ n. TakesPart c.args.floor.now.description c.args.l c.args.mode c.args.at n c.args.pass.now.view
    c.take_on.new.pass.view) c.in-Ok-Gained.field-0-is c.in-Ok-Gained.ensures.on in
    may_note_lock c.args.floor.now.description c.args.l c.args.mode c.args.pass.now.view c.take_on.new.pass.view
    (calling_at_end c.args.floor.now.description c.args.l c.args.mode c.args.at c.args.pass.now.view
    c.take_on.new.pass.view part.1 c.requires.under_way.calling)
    c.requires.under_way.room part.0

pub returns-in-Ok-Gained-clause-own : goal.returns-in-Ok-Gained-clause-own
returns-in-Ok-Gained-clause-own c =
    own_noted c.args.floor.now c.note_taken.new.pass c.set_call-in-Ok-Gained.new.self calls.None
    c.set_call-in-Ok-Gained.ensures
    c.note_taken.ensures.own

pub returns-in-Ok-Gained-clause-went : goal.returns-in-Ok-Gained-clause-went
returns-in-Ok-Gained-clause-went c =
    let floor = c.args.floor.now.description in
    let l = c.args.l in
    let mode = c.args.mode in
    let old = c.args.pass.now.view in
    let v = c.take_on.new.pass.view in
    let part = subst (λ n. TakesPart floor l mode c.args.at n old v) c.in-Ok-Gained.field-0-is
    c.in-Ok-Gained.ensures.on in
    let k = calling_at_end floor l mode c.args.at old v part.1 c.requires.under_way.calling in
    let room = c.requires.under_way.room in
    let same = sym (view_noted c.note_taken.new.pass c.set_call-in-Ok-Gained.new.self calls.None
    c.set_call-in-Ok-Gained.ensures) in (
      call_noted c.note_taken.new.pass c.set_call-in-Ok-Gained.new.self calls.None
          c.set_call-in-Ok-Gained.ensures,
      subst (HasTaken floor l mode old) same
          (taken floor l mode old v k room part.0 c.note_taken.new.pass.view c.note_taken.result
          c.note_taken.ensures.view c.note_taken.ensures.step),
      subst (TakeEnds floor l mode c.args.at old) same
          (record {
            gained = v;
            gains = part.1;
            notes = note_step floor l mode old v k room part.0 c.note_taken.new.pass.view c.note_taken.result
                c.note_taken.ensures.view c.note_taken.ensures.step;
          }),
    )

pub returns-in-Err-Reversal-clause-own : goal.returns-in-Err-Reversal-clause-own
returns-in-Err-Reversal-clause-own c =
    own_noted c.args.floor.now c.take_on.new.pass c.set_call-in-Err-Reversal.new.self calls.None
    c.set_call-in-Err-Reversal.ensures
    c.take_on.ensures.own

pub returns-in-Err-Reversal-clause-went : goal.returns-in-Err-Reversal-clause-went
returns-in-Err-Reversal-clause-went c =
    let same = sym (view_noted c.take_on.new.pass c.set_call-in-Err-Reversal.new.self calls.None
    c.set_call-in-Err-Reversal.ensures) in
    let x = subst (λ r. IsNotTaken c.args.floor.now.description c.args.l c.args.at r c.args.pass.now.view
    c.take_on.new.pass.view) c.in-Err-Reversal.field-0-is c.in-Err-Reversal.ensures.refused in
    record {
      call = call_noted c.take_on.new.pass c.set_call-in-Err-Reversal.new.self calls.None
          c.set_call-in-Err-Reversal.ensures;
      at_check = x.0;
      refused = subst (λ r. IsRefused c.args.floor.now.description c.args.l r c.args.pass.now.view
          c.set_call-in-Err-Reversal.new.self.view) (sym c.in-Err-Reversal.reversal-is)
          (subst (IsRefused c.args.floor.now.description c.args.l c.in-Err-Reversal.reversal c.args.pass.now.view) same
          x.1);
    }

pub returns-in-Err-Halted-clause-own : goal.returns-in-Err-Halted-clause-own
returns-in-Err-Halted-clause-own c =
    own_noted c.args.floor.now c.take_on.new.pass c.set_call-in-Err-Halted.new.self calls.None
    c.set_call-in-Err-Halted.ensures
    c.take_on.ensures.own

pub returns-in-Err-Halted-clause-went : goal.returns-in-Err-Halted-clause-went
returns-in-Err-Halted-clause-went c =
    let same = sym (view_noted c.take_on.new.pass c.set_call-in-Err-Halted.new.self calls.None
    c.set_call-in-Err-Halted.ensures) in
    let x = subst (λ r. IsNotTaken c.args.floor.now.description c.args.l c.args.at r c.args.pass.now.view
    c.take_on.new.pass.view) c.in-Err-Halted.field-0-is c.in-Err-Halted.ensures.refused in
    record {
      call = call_noted c.take_on.new.pass c.set_call-in-Err-Halted.new.self calls.None
          c.set_call-in-Err-Halted.ensures;
      halted = subst (IsHalted c.args.floor.now.description c.args.l c.args.at c.args.pass.now.view) same x;
    }
