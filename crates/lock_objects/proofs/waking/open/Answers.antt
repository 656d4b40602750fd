use Rattle.lock_objects.proofs.Names.{rules, sym, ap, subst, map_is_empty, bare, lock_queue, head_of, CanOpen}
use Rattle.lock_objects.proofs.Names.{chain_opened, woken_of, after_open, RepresentsRecord, record_in}
use Rattle.std.proofs.Common.{◌≡◌, ◌∙◌}
use Rattle.lock_objects.proofs.Queues.{found}
use Rattle.lock_objects.proofs.Opens.{of_head, of_some, at_home, record_shown, queues_shown, marks_shown, is_settled}
use Rattle.lock_objects.proofs.waking.open.Goals as goal

pub put_back-requires-clause-home : goal.put_back-requires-clause-home
put_back-requires-clause-home c =
    let can = of_some (CanOpen c.args.l.0 c.args.side c.args.rec.now) c.in-Some.ensures.taken c.requires in
    at_home c.args.l.0 c.args.side c.args.rec.now can (c.deref_mut-2.ensures.value ∙ c.settle_release.ensures.head
    ∙ is_settled c.args.l.0 c.args.rec.now c.deref_mut.ensures.value) c.broadcast-woken.ensures.contents

pub put_back-requires-clause-bare : goal.put_back-requires-clause-bare
put_back-requires-clause-bare c =
    c.broadcast-woken.ensures.next ∙ ap (λ v. v.next) (c.deref_mut-2.ensures.value ∙ c.settle_release.ensures.head
    ∙ is_settled c.args.l.0 c.args.rec.now c.deref_mut.ensures.value)
    ∙ map_is_empty bare c.in-Some.head.value.next c.in-Some.ensures.bare

pub returns-clause-queues : goal.returns-clause-queues
returns-clause-queues c k s t side can rec shows =
    let h = c.in-Some.head.value in
    let there = c.in-Some.ensures.taken in
    queues_shown k s t c.args.l.0 can rec c.args.side side h (found shows can.turnstile (sym there)) shows
    (of_head (λ v. c.put_back.new.chain ≡ chain_opened c.args.l.0 c.args.side c.args.rec.now v c.args.chain.now) there
    (search rules))
    (ap (head_of (lock_queue c.args.l.0)) (sym c.in-Some.ensures.others) ∙ c.in-Some.ensures.absent)

pub returns-clause-its_record : goal.returns-clause-its_record
returns-clause-its_record c k s t can rec = subst (λ v. RepresentsRecord v (record_in (after_open k s t c.args.l.0) t))
    (sym (search rules)) (record_shown can rec)

pub returns-clause-marks : goal.returns-clause-marks
returns-clause-marks c k s t side can rec shows =
    let there = c.in-Some.ensures.taken in
    marks_shown k s t c.args.l.0 can rec c.args.side side c.in-Some.head.value (found shows can.turnstile (sym there))
    (of_head (λ v. c.put_back.result ≡ woken_of c.args.l.0 c.args.side c.args.rec.now v.contents) there (search rules))
