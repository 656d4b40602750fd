-- What a thread finds in its own record, where its seat knows that it stands on no queue.
use Rattle.lock_floor.proofs.Names
use Names.{ℕ, suc, true, length, None, sym, ap, subst, inl, inr, arith, cases_lt, Global, Box, State, RecordOf}
use Names.{after_take, RecordColumns, RepresentsRecord, record_in, ThreadRec, config_in, Description, Record, IsPosed}
use Names.{IsOf, objects_in, thread_in, found, OfThread, OfNobody, is_off_queues, Knowledge, nothing, or_past}
use Names.{stands_nowhere, has_turnstile, has_sleep_queue, found_first, Takes}
use Rattle.std.proofs.Common.{◌≡◌, ◌<◌, ◌∙◌}
use Rattle.std.specs.Option.{IsSome}
use mathlib.Core.Option.{some}
use Rattle.lock_floor.proofs.Taking.{record_at}

module _ (floor : Description) (old new : Knowledge) (b : Box ThreadRec Global)
    (k : Takes floor (RecordOf old.thread) old.thread old new) (is : k.value ≡ Record b)
    (off : is_off_queues old.pose ≡ true) where
  abbrev t : ℕ
  t = old.thread

  abbrev s : State
  s = k.step.state

  abbrev n : State
  n = after_take s t (RecordOf t)

  low : t < length floor.threads
  low = grind arith

  -- the record says what the columns say
  its_columns : RepresentsRecord b.value (record_in s t)
  unfolding after_take
  its_columns =
      let r = k.step.represents_behind in
      let out : found t (thread_in k.step.behind.views t).out ≡ some k.value =
      ap (λ (v : Knowledge). found t v.out) (k.step.is ∙ k.view) ∙ found_first t k.value old.out in
      let same : Record b ≡ r.content t = sym is ∙ (r.shelves.taken t t k.value out).2 in
      subst (IsOf floor (objects_in n) (RecordOf t)) (sym same) (r.objects.each (RecordOf t) t (record_at floor t low))

  stands_off : s.blocked_on t ≡ None
  stands_off =
      let pose = subst (λ (v : Knowledge). IsPosed v.pose (s.wait t) (s.blocked_on t)) k.step.was
      (k.step.represents.seats.poses t) in
      stands_nowhere (config_in floor) s k.step.sound.facts.lawful t old.pose off pose

  pub own_turnstile : IsSome b.value.turnstile
  own_turnstile = subst IsSome (sym (ap (λ (x : RecordColumns). x.turnstile) its_columns.columns))
      (has_turnstile (config_in floor) s k.step.sound.facts.lawful t stands_off)

  pub own_sleep_queue : IsSome b.value.sleep_queue
  own_sleep_queue = subst IsSome (sym (ap (λ (x : RecordColumns). x.sleep_queue) its_columns.columns))
      (has_sleep_queue (config_in floor) s k.step.sound.facts.lawful t stands_off)

  pub names_none : b.value.on ≡ None
  names_none = ap (λ (x : RecordColumns). x.blocked_on) its_columns.columns ∙ stands_off
