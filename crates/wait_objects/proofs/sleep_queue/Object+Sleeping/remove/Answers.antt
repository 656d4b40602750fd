use Rattle.std.proofs.Common.{◌≡◌, ◌≤◌, ◌<◌, nat_lt, true, ap, ◌∙◌, sym, subst}
use Rattle.std.proofs.lemmas.Bool.{ltb-true, lt-ltb}
use Rattle.lock_model.specs.Queues.{list_of, times_waiting, stands}
use Rattle.wait_objects.specs.SleepQueues.Seen.{SleepQueue}
use Rattle.wait_objects.specs.SleepQueues.Changes.{lists_of}
use Rattle.wait_objects.proofs.Taken.{places, some_places}
use Rattle.wait_objects.proofs.Entries.{not_removed, entries_on, stands_on, some_entry, removed}
use Rattle.wait_objects.proofs.sleep_queue.Object+Sleeping.remove.Goals as goal

pub returns-in_err-side-clause-contents : goal.returns-in_err-side-clause-contents
returns-in_err-side-clause-contents c = not_removed c.args.t.0 c.args.self.now.contents
    (subst (λ (q : SleepQueue). stands c.args.t.0 (lists_of q.contents) ≡ 0) c.self.view_is c.in_err-side.ensures.none)

-- the thread stands on the side once, and on the other not
once : (c : goal.After-take) → stands c.args.t.0 (lists_of c.args.self.now.contents) ≤ 1
once c = subst (λ (q : SleepQueue). stands c.args.t.0 (lists_of q.contents) ≤ 1) c.self.view_is
    (c.self.invariant.once c.args.t.0)

here : (c : goal.After-take)
    → 0 < times_waiting c.args.t.0 (list_of c.in_ok-side.side (lists_of c.args.self.now.contents))
here c = ltb-true 0 _ (subst
    (λ (q : SleepQueue). nat_lt 0 (times_waiting c.args.t.0 (list_of c.in_ok-side.side (lists_of q.contents))) ≡ true)
    c.self.view_is c.in_ok-side.ensures.some)

pub returns-clause-some : goal.returns-clause-some
returns-clause-some c = (
  lt-ltb 0 _ (stands_on c.in_ok-side.side c.args.t.0 (lists_of c.args.self.now.contents) (here c)),
  rw c.take.ensures.taken (some_places _ c.args.self.now.contents.free (some_entry c.args.t.0 _ (here c))),
  record {
    taken = c.take.ensures.taken ∙ ap (λ ws. places ws c.args.self.now.contents.free)
        (sym (entries_on c.in_ok-side.side c.args.t.0 (lists_of c.args.self.now.contents) (once c) (here c)));
    others = c.take.ensures.others;
    last = c.take.ensures.last;
  },
)

pub returns-clause-contents : goal.returns-clause-contents
returns-clause-contents c = c.take.ensures.contents
    ∙ removed c.in_ok-side.side c.args.t c.args.self.now.contents (once c) (here c)
