-- What a thread finds in the record of the first of its marked list: it is that thread's, and its object is away.
use Rattle.lock_floor.proofs.Names
use Names.{ℕ, suc, Bool, true, false, not, cond, List, length, None, refl, sym, ap, subst, inl, inr, arith, cases_lt}
use Names.{Global, Box, marked_named, marked_thread, named_out, asleep_out, Config, Mark, is_turnstile_queue, Lawful}
use Names.{State, RecordOf, after_take, RecordColumns, RepresentsRecord, record_in, ThreadRec, config_in, Description}
use Names.{Record, IsOf, RepresentsShare, objects_in, thread_in, ShareColumns, found, OfThread, OfNobody, Knowledge}
use Names.{nothing, or_past, found_first, Takes, LacksObject}
use Rattle.std.proofs.Common.{◌≡◌, ◌<◌, ◌∷◌, ◌∙◌}
use mathlib.Core.Option.{some}
use Rattle.lock_floor.proofs.Taking.{record_at}

module _ (floor : Description) (old new : Knowledge) (m : Mark) (ms : List Mark)
    (marked : old.share.doing.marked ≡ m ∷ ms) (b : Box ThreadRec Global)
    (k : Takes floor (RecordOf m.thread) m.thread old new) (is : k.value ≡ Record b) where
  abbrev c : Config
  c = config_in floor

  abbrev t : ℕ
  t = old.thread

  abbrev u : ℕ
  u = m.thread

  abbrev s : State
  s = k.step.state

  abbrev n : State
  n = after_take s t (RecordOf u)

  abbrev lawful : Lawful c s
  lawful = k.step.sound.facts.lawful

  role : (thread_in k.step.before.views t).role ≡ OfThread
  role = ap (λ (v : Knowledge). v.role) k.step.was ∙ k.step.role

  low : t < length floor.threads
  low = grind arith

  its_marks : s.marked t ≡ m ∷ ms
  its_marks =
      let seat = k.step.represents.seats.thread t role in
      let share : RepresentsShare old.share s t =
      subst (λ (v : Knowledge). RepresentsShare v.share s t) k.step.was seat.share in
      sym (ap (λ (x : ShareColumns). x.doing.marked) share.columns) ∙ marked

  -- the record says what the columns say
  its_columns : RepresentsRecord b.value (record_in s u)
  unfolding after_take
  its_columns =
      let r = k.step.represents_behind in
      let out : found u (thread_in k.step.behind.views t).out ≡ some k.value =
      ap (λ (v : Knowledge). found u v.out) (k.step.is ∙ k.view) ∙ found_first u k.value old.out in
      let same : Record b ≡ r.content u = sym is ∙ (r.shelves.taken u t k.value out).2 in
      subst (IsOf floor (objects_in n) (RecordOf u)) (sym same)
      (r.objects.each (RecordOf u) u (record_at floor u (marked_thread c s t m ms lawful low its_marks)))

  away_by : (q : Bool) → is_turnstile_queue c m.queue ≡ q → cond q (s.turnstile u) (s.sleep_queue u) ≡ None
  away_by true e = named_out c s u m.queue lawful (marked_named c s t m ms lawful low its_marks) e
  away_by false e = asleep_out c s u m.queue lawful (marked_named c s t m ms lawful low its_marks) (ap not e)

  pub lacks : LacksObject c m b.value
  lacks = record {
    thread = ap (λ (x : RecordColumns). x.thread) its_columns.columns;
    away = (λ i. cond (is_turnstile_queue c m.queue) (its_columns.columns i).turnstile
        (its_columns.columns i).sleep_queue) ∙ away_by (is_turnstile_queue c m.queue) refl;
  }
