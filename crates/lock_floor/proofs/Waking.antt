-- The first of a marked list is woken: its record is taken, it is counted in and marked, and the record is given back.
use Rattle.lock_floor.proofs.Names
use Names.{ℕ, cond, None, List, [], length, refl, sym, ap, subst, inl, with_value, All, Global, Box, ne_eqb, All-head}
use Names.{rest, Mark, Awake, SelfAborted, QueueName, TakesItem, GivesItem, CountsIn, Marks, RecordOf, phase_marked}
use Names.{ThreadRec, config_in, MayMake, Makes, Knowledge, StandsOn, seeing, Description, Record, counted_first}
use Names.{counted_in_more, Takes, CanMark, HasFirstOut, MarksFirst, MayMark, WakesFirst, marked_first, out_marked}
use Names.{record_marked, with_marks, gave, IsGoing, IsOffTheWay, arith}
use Rattle.std.proofs.Common.{◌≡◌, ◌≢◌, ◌<◌, ◌∷◌, ◌∙◌}
use Rattle.lock_floor.proofs.Marked.{head_or, tail_of}
use Rattle.lock_floor.proofs.MarkedRecords.{lacks}
use Rattle.lock_floor.proofs.May.{may_give_settled}
use Rattle.lock_floor.proofs.MayWake.{is_another, may_count_in, may_mark}
use Rattle.lock_floor.proofs.Taking.{record_at}
use Rattle.lock_floor.proofs.Priorities.{a_record}

-- 1. The first of it

-- the first one's record was taken
module _ (floor : Description) (v a : Knowledge) (m : Mark) (ms : List Mark) (is : v.share.doing.marked ≡ m ∷ ms)
    (taken : Takes floor (RecordOf m.thread) m.thread v a) where
  abbrev u : ℕ
  u = m.thread

  abbrev pub box_is : (b : Box ThreadRec Global) × (taken.value ≡ Record b)
  box_is = a_record u taken.value taken.kind

  pub last_is : a.out ≡ (u, Record box_is.0) ∷ rest a.out
  last_is = grind arith

  abbrev pub first_out : HasFirstOut a
  first_out = record {
    mark = m;
    others = ms;
    marked = ap (λ (k : Knowledge). k.share.doing.marked) taken.view ∙ is;
    box = box_is.0;
    last = last_is;
  }

  -- it may be counted in
  pub may_count_it : CanMark v → u < length floor.threads
      → MayMake floor a (λ s. Unit {0}) (CountsIn a.thread u ∷ [])
  may_count_it can low =
      may_count_in floor a first_out (subst IsOffTheWay (sym (ap (λ (k : Knowledge). k.pose) taken.view)) can.settled)
      (inl (subst IsGoing (sym taken.view) can.going))
      (λ s f. is_another floor a first_out s f
      (subst (λ (k : Knowledge). (q : QueueName) → k.pose ≡ StandsOn q
      → All (λ (m : Mark). m.queue ≢ q) k.share.doing.marked) (sym taken.view) can.elsewhere))
      (ap (λ (k : Knowledge). k.share.doing.counting) taken.view ∙ can.uncounted) low

  -- it was counted in
  module _ (d : Knowledge) (counts : d ≡ seeing d.seen (counted_first u a)) where
    d_pose : d.pose ≡ v.pose
    d_pose = ap (λ (k : Knowledge). k.pose) counts ∙ ap (λ (k : Knowledge). k.pose) taken.view

    abbrev pub first_then : HasFirstOut d
    first_then = record {
      mark = m;
      others = ms;
      marked = ap (λ (k : Knowledge). k.share.doing.marked) counts
          ∙ ap (λ (k : Knowledge). k.share.doing.marked) taken.view ∙ is;
      box = box_is.0;
      last = subst (λ (k : Knowledge). k.out ≡ (u, Record box_is.0) ∷ rest k.out) (sym counts) last_is;
    }

    pub may_mark_it : CanMark v → u < length floor.threads → MayMark floor d
    may_mark_it can low = record {
      first = first_then;
      lacks = lacks floor v a m ms is box_is.0 taken box_is.1;
      may = may_mark floor d first_then (subst IsOffTheWay (sym d_pose) can.settled)
          (inl (subst IsGoing (sym counts) (subst IsGoing (sym taken.view) can.going)))
          (inl (ap (λ (k : Knowledge). k.share.doing.counting) counts)) low;
    }

    -- it was woken
    module _ (b : Knowledge) (can : CanMark v) (marks : MarksFirst floor u d b) where
      d_thread : d.thread ≡ v.thread
      d_thread = ap (λ (k : Knowledge). k.thread) counts ∙ ap (λ (k : Knowledge). k.thread) taken.view

      same : marks.first.mark ∷ marks.first.others ≡ m ∷ ms
      same = sym marks.first.marked ∙ first_then.marked

      heads : marks.first.mark ≡ m
      heads = ap (head_or m) same

      tails : marks.first.others ≡ ms
      tails = ap tail_of same

      b_thread : b.thread ≡ v.thread
      b_thread = ap (λ (k : Knowledge). k.thread) marks.view ∙ d_thread

      -- it is another: who wakes itself stands on the queue off which it was taken
      another : v.thread ≢ u
      another e =
          let stands : v.pose ≡ StandsOn m.queue = sym d_pose
          ∙ marks.itself (sym e ∙ sym d_thread) ∙ ap (λ (k : Mark). StandsOn k.queue) heads in
          All-head (λ (k : Mark). k.queue ≢ m.queue) m ms
          (subst (All (λ (k : Mark). k.queue ≢ m.queue)) is (can.elsewhere m.queue stands)) refl

      phase_is : phase_marked v.thread u v.share.doing.phase ≡ v.share.doing.phase
      phase_is = ap (λ q. cond q SelfAborted v.share.doing.phase) (ne_eqb v.thread u another)

      abbrev pub new_box : Box ThreadRec Global
      new_box = with_value marks.first.box (record_marked (config_in floor) marks.first.mark marks.first.box.value)

      pub give_last : b.out ≡ (u, Record new_box) ∷ rest b.out
      give_last = subst (λ (k : Knowledge). k.out ≡ (u, Record new_box) ∷ rest k.out) (sym marks.view)
          (ap (λ n. (n, Record new_box) ∷ rest d.out) marks.thread)

      -- and its record may be given back
      pub give_may : u < length floor.threads → MayMake floor b (λ s. Unit {0}) (GivesItem b.thread (RecordOf u) ∷ [])
      give_may low =
          let pose : b.pose ≡ v.pose = ap (λ (k : Knowledge). k.pose) marks.view ∙ d_pose in
          let settled : IsOffTheWay b.pose = subst IsOffTheWay (sym pose) can.settled in
          let stamped : b.share.doing.unstamped ≡ None = ap (λ (k : Knowledge). k.share.doing.unstamped) marks.view
          ∙ ap (λ (k : Knowledge). k.share.doing.unstamped) counts
          ∙ ap (λ (k : Knowledge). k.share.doing.unstamped) taken.view ∙ can.going.stamped in
          let awake : b.share.doing.phase ≡ Awake =
          ap (λ (k : Knowledge). k.share.doing.phase) marks.view
          ∙ (λ i. phase_marked (d_thread i) ((ap (λ (k : Mark). k.thread) heads) i)
          ((ap (λ (k : Knowledge). k.share.doing.phase) counts
          ∙ ap (λ (k : Knowledge). k.share.doing.phase) taken.view) i)) ∙ phase_is ∙ can.going.awake in
          may_give_settled floor b (RecordOf u) u (Record new_box) (record_at floor u low) give_last refl settled awake
          stamped (ap (λ (k : Knowledge). k.share.doing.counting) marks.view)

    -- and the record was given back
    module _ (b e : Knowledge) (can : CanMark v) (marks : MarksFirst floor u d b)
        (view : e ≡ seeing e.seen (gave b (RecordOf u)))
        (gives : Makes floor (GivesItem b.thread (RecordOf u) ∷ []) b e)
        (counts_step : Makes floor (CountsIn a.thread u ∷ []) a d) where
      pub marked_more : e ≡ seeing e.seen (counted_in_more u (with_marks v ms))
      marked_more =
          view
          ∙ ap (λ (k : Knowledge). seeing e.seen (gave k (RecordOf u))) marks.view
          ∙ (λ i. seeing e.seen
          (gave (marked_first (counts i) (heads b can marks i) (tails b can marks i)
          (out_marked (config_in floor) (heads b can marks i) marks.first.box (counts i).out)) (RecordOf u)))
          ∙ (λ i. seeing e.seen
          (gave (marked_first (counted_first u (taken.view i)) m ms
          (out_marked (config_in floor) m marks.first.box (taken.view i).out)) (RecordOf u)))
          ∙ (λ i. record (seeing e.seen v) {
            share = record v.share {
              doing = record v.share.doing {
                marked = ms;
                counting = sym can.uncounted i;
                phase = phase_is b can marks i;
              };
              counted_in = u ∷ v.share.counted_in;
            };
          })

      take_step : Makes floor (TakesItem v.thread (RecordOf u) ∷ []) v a
      take_step = taken.step

      count_step : Makes floor (CountsIn v.thread u ∷ []) a d
      count_step = subst (λ t. Makes floor (CountsIn t u ∷ []) a d) (ap (λ (k : Knowledge). k.thread) taken.view)
          counts_step

      mark_step : Makes floor (Marks v.thread m ms ∷ []) d b
      mark_step = subst (λ (z : ℕ × Mark × List Mark). Makes floor (Marks z.0 z.1 z.2 ∷ []) d b)
          (λ i. (d_thread b can marks i, heads b can marks i, tails b can marks i)) marks.step

      give_step : Makes floor (GivesItem v.thread (RecordOf u) ∷ []) b e
      give_step = subst (λ t. Makes floor (GivesItem t (RecordOf u) ∷ []) b e) (b_thread b can marks) gives

      pub wakes_first : WakesFirst floor u v e
      wakes_first = record {
        mark = m;
        others = ms;
        marked = is;
        thread = refl;
        view = marked_more;
        steps = (a, take_step, (d, count_step, (b, mark_step, (e, give_step, refl))));
      }

-- 2. The same of a call that was told the thread's number

module _ (floor : Description) (v a : Knowledge) (t : ℕ) (can : CanMark v)
    (some : (m : Mark) × (ms : List Mark) × (v.share.doing.marked ≡ m ∷ ms) × (m.thread ≡ t))
    (low : t < length floor.threads) (taken : Takes floor (RecordOf t) t v a) where
  abbrev m : Mark
  m = some.0

  abbrev ms : List Mark
  ms = some.1

  abbrev its_taken : Takes floor (RecordOf m.thread) m.thread v a
  its_taken = subst (λ n. Takes floor (RecordOf n) n v a) (sym some.3) taken

  its_low : m.thread < length floor.threads
  its_low = subst (λ n. n < length floor.threads) (sym some.3) low

  pub told_may_count : MayMake floor a (λ s. Unit {0}) (CountsIn a.thread t ∷ [])
  told_may_count = subst (λ n. MayMake floor a (λ s. Unit {0}) (CountsIn a.thread n ∷ [])) some.3
      (may_count_it floor v a m ms some.2 its_taken can its_low)

  module _ (d : Knowledge) (counts : d ≡ seeing d.seen (counted_first t a))
      (counts_step : Makes floor (CountsIn a.thread t ∷ []) a d) where
    its_counts : d ≡ seeing d.seen (counted_first m.thread a)
    its_counts = subst (λ n. d ≡ seeing d.seen (counted_first n a)) (sym some.3) counts

    its_step : Makes floor (CountsIn a.thread m.thread ∷ []) a d
    its_step = subst (λ n. Makes floor (CountsIn a.thread n ∷ []) a d) (sym some.3) counts_step

    pub told_may_mark : MayMark floor d
    told_may_mark = may_mark_it floor v a m ms some.2 its_taken d its_counts can its_low

    module _ (n : ℕ) (b : Knowledge) (marks : MarksFirst floor n d b) where
      number : n ≡ m.thread
      number =
          let same : marks.first.mark ∷ marks.first.others ≡ m ∷ ms = sym marks.first.marked
          ∙ (first_then floor v a m ms some.2 its_taken d its_counts).marked in
          sym marks.thread ∙ ap (λ (k : Mark). k.thread) (ap (head_or m) same)

      abbrev its_marks : MarksFirst floor m.thread d b
      its_marks = subst (λ k. MarksFirst floor k d b) number marks

      pub told_give_last : (x : Box ThreadRec Global) × (b.out ≡ (t, Record x) ∷ rest b.out)
      told_give_last =
          let box = new_box floor v a m ms some.2 its_taken d its_counts b can its_marks in (
            box,
            give_last floor v a m ms some.2 its_taken d its_counts b can its_marks
                ∙ ap (λ k. (k, Record box) ∷ rest b.out) some.3,
          )

      pub told_give_may : MayMake floor b (λ s. Unit {0}) (GivesItem b.thread (RecordOf t) ∷ [])
      told_give_may = subst (λ k. MayMake floor b (λ s. Unit {0}) (GivesItem b.thread (RecordOf k) ∷ [])) some.3
          (give_may floor v a m ms some.2 its_taken d its_counts b can its_marks its_low)

      pub told_wakes : (e : Knowledge) → e ≡ seeing e.seen (gave b (RecordOf t))
          → Makes floor (GivesItem b.thread (RecordOf t) ∷ []) b e → WakesFirst floor t v e
      told_wakes e view gives = subst (λ k. WakesFirst floor k v e) some.3
          (wakes_first floor v a m ms some.2 its_taken d its_counts b e can its_marks
          (view ∙ ap (λ k. seeing e.seen (gave b (RecordOf k))) (sym some.3))
          (subst (λ k. Makes floor (GivesItem b.thread (RecordOf k) ∷ []) b e) (sym some.3) gives) its_step)
