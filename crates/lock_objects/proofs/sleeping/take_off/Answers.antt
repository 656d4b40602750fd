use Rattle.lock_objects.proofs.Names.{rules, [], refl, sym, ap, subst, map_is_empty, bare, head_of, SleepQueue}
use Rattle.lock_objects.proofs.Names.{some_places}
use Rattle.std.proofs.Common.{◌≢◌, ◌∙◌}
use Rattle.sleep_queues.specs.Changes.{all_waiters}
use Rattle.lock_objects.proofs.Opens.{of_head}
use Rattle.lock_objects.proofs.Taken.{some_go}
use Rattle.lock_objects.proofs.Sleeps.{chain_shown, marks_shown}
use Rattle.lock_objects.proofs.sleeping.take_off.Goals as goal

pub returns-in_default-clause-queues : goal.returns-in_default-clause-queues
returns-in_default-clause-queues c k s n kind balanced changes shows =
    let o = c.in_default.ensures in
    chain_shown s c.args.q c.args.all c.args.side kind balanced shows n (head_of c.args.q c.args.chain.now) changes refl
    (ap (head_of c.args.q) (sym o.others) ∙ o.absent) (search rules)

pub put_back-requires-clause-last : goal.put_back-requires-clause-last
put_back-requires-clause-last c nobody =
    let was = c.deref_mut.result.now.contents in
    let some : all_waiters was ≢ [] = subst (λ (h : SleepQueue). all_waiters h.contents ≢ [])
    (sym c.deref_mut.ensures.value) (of_head (λ h. all_waiters h.contents ≢ []) c.in-Some.ensures.taken c.requires) in
    c.taken_by-woken.ensures.taken.last.1 (
      rw c.taken_by-woken.ensures.taken.taken (some_places _ was.free
          (some_go c.args.all c.args.side was some (ap all_waiters (sym c.taken_by-woken.ensures.contents) ∙ nobody))),
      nobody,
    )

pub put_back-requires-clause-bare : goal.put_back-requires-clause-bare
put_back-requires-clause-bare c = c.taken_by-woken.ensures.next ∙ ap (λ v. v.next) c.deref_mut.ensures.value
    ∙ map_is_empty bare c.in-Some.head.value.next c.in-Some.ensures.bare

pub returns-clause-queues : goal.returns-clause-queues
returns-clause-queues c k s n kind balanced changes shows =
    let o = c.in-Some.ensures in
    chain_shown s c.args.q c.args.all c.args.side kind balanced shows n (head_of c.args.q c.args.chain.now) changes refl
    (ap (head_of c.args.q) (sym o.others) ∙ o.absent) (search rules)

pub returns-clause-marks : goal.returns-clause-marks
returns-clause-marks c k s kind balanced shows = marks_shown s c.args.q c.args.all c.args.side kind balanced shows
    (head_of c.args.q c.args.chain.now) refl (search rules)
