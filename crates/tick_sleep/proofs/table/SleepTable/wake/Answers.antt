use Rattle.std.proofs.Common.{◌≡◌, ◌∷◌, ap, sym, subst, cond, ◌∙◌}
use Rattle.lock_model.specs.Counts.{is_empty}
use Rattle.lock_model.specs.Queues.{chan_queue}
use Rattle.lock_model.specs.declared.plan.QueueName.{QueueName}
use Rattle.sleep_queues.specs.Seen.{SleepQueue, Contents}
use Rattle.sleep_queues.specs.Changes.{all_waiters}
use Rattle.chain_table.specs.Links.{map_is_empty}
use Rattle.chain_table.specs.Objects.{bare}
use Rattle.chain_table.specs.Chains.{head_of}
use Rattle.tick_sleep.specs.Tables.{Table, left_by, Wakes}
use Rattle.tick_sleep.proofs.Places.{head_found}
use Rattle.tick_sleep.proofs.Waking.{last_none, told, of_name, then_can, then_sound, then_woken}
use Rattle.tick_sleep.proofs.table.SleepTable.wake.Goals as goal

pub taken_by-taken-requires : goal.taken_by-taken-requires
taken_by-taken-requires c =
    ap (λ (h : SleepQueue). h.contents.shared) c.deref_mut.ensures.value
    ∙ (head_found (chan_queue c.args.key) c.self.inside.chain c.in_ok-head.head.value c.self.invariant.heads
    (sym c.in_ok-head.ensures.taken)).1

pub put_back-taken-requires-clause-last : goal.put_back-taken-requires-clause-last
put_back-taken-requires-clause-last c = λ nobody.
    let a : Table = record { chain = c.self.inside.chain; homes = c.self.inside.homes.items } in
    let h = c.in_ok-head.head.value in
    let v = c.deref_mut.ensures.value in
    let e = c.taken_by-taken.ensures.contents in
    let absent = ap (head_of (chan_queue c.args.key)) (sym c.in_ok-head.ensures.others) ∙ c.in_ok-head.ensures.absent in
    let same = e ∙ ap (λ (s : SleepQueue). left_by c.args.who s.contents) v in
    last_none a c.self.invariant c.args.key c.args.who h (sym c.in_ok-head.ensures.taken) absent c.taken_by-taken.result
    (told c.deref_mut.result.now h c.taken_by-taken.new.head c.args.who c.taken_by-taken.result v e
    c.taken_by-taken.ensures.taken)
    (ap (λ (n : Contents). all_waiters n) (sym same) ∙ nobody)

pub put_back-taken-requires-clause-bare : goal.put_back-taken-requires-clause-bare
put_back-taken-requires-clause-bare c =
    c.taken_by-taken.ensures.next ∙ ap (λ (s : SleepQueue). s.next) c.deref_mut.ensures.value
    ∙ map_is_empty bare c.in_ok-head.head.value.next c.in_ok-head.ensures.bare

pub go_home-requires : goal.go_home-requires
go_home-requires c =
    let a : Table = record { chain = c.self.inside.chain; homes = c.self.inside.homes.items } in
    let h = c.in_ok-head.head.value in
    let v = c.deref_mut.ensures.value in
    let e = c.taken_by-taken.ensures.contents in
    let absent = ap (head_of (chan_queue c.args.key)) (sym c.in_ok-head.ensures.others) ∙ c.in_ok-head.ensures.absent in
    let same = e ∙ ap (λ (s : SleepQueue). left_by c.args.who s.contents) v in
    then_can a c.self.invariant c.args.key c.args.who h (sym c.in_ok-head.ensures.taken) absent c.taken_by-taken.result
    (told c.deref_mut.result.now h c.taken_by-taken.new.head c.args.who c.taken_by-taken.result v e
    c.taken_by-taken.ensures.taken)
    c.taken_by-taken.new.head same c.put_back-taken.result c.put_back-taken.ensures.taken

pub invariant_of-self-2 : goal.invariant_of-self-2
invariant_of-self-2 c =
    let a : Table = record { chain = c.self.inside.chain; homes = c.self.inside.homes.items } in
    let h = c.in_ok-head.head.value in
    let v = c.deref_mut.ensures.value in
    let e = c.taken_by-taken.ensures.contents in
    let absent = ap (head_of (chan_queue c.args.key)) (sym c.in_ok-head.ensures.others) ∙ c.in_ok-head.ensures.absent in
    let same = e ∙ ap (λ (s : SleepQueue). left_by c.args.who s.contents) v in
    let name = ap (λ (n : Contents). n.own.name) same ∙ c.in_ok-head.ensures.named in
    let placed = of_name c.taken_by-taken.new.head.contents.own.name (chan_queue c.args.key)
    (λ (q : QueueName). c.put_back-taken.new.chain ≡ cond
    (is_empty (all_waiters c.taken_by-taken.new.head.contents)) c.unplace.new.self
    ((q, c.taken_by-taken.new.head) ∷ c.unplace.new.self)) name c.put_back-taken.ensures.chain in
    then_sound a c.self.invariant c.args.key c.args.who h (sym c.in_ok-head.ensures.taken) absent
    c.taken_by-taken.result
    (told c.deref_mut.result.now h c.taken_by-taken.new.head c.args.who c.taken_by-taken.result v e
    c.taken_by-taken.ensures.taken)
    c.taken_by-taken.new.head same c.put_back-taken.result c.put_back-taken.ensures.taken c.put_back-taken.ensures.free
    c.unplace.new.self c.put_back-taken.new.chain c.in_ok-head.ensures.others placed c.go_home.new.homes.items
    c.go_home.ensures

pub returns-clause-woken : goal.returns-clause-woken
returns-clause-woken c =
    let a : Table = record { chain = c.self.inside.chain; homes = c.self.inside.homes.items } in
    let h = c.in_ok-head.head.value in
    let v = c.deref_mut.ensures.value in
    let e = c.taken_by-taken.ensures.contents in
    let absent = ap (head_of (chan_queue c.args.key)) (sym c.in_ok-head.ensures.others) ∙ c.in_ok-head.ensures.absent in
    let same = e ∙ ap (λ (s : SleepQueue). left_by c.args.who s.contents) v in
    let name = ap (λ (n : Contents). n.own.name) same ∙ c.in_ok-head.ensures.named in
    let placed = of_name c.taken_by-taken.new.head.contents.own.name (chan_queue c.args.key)
    (λ (q : QueueName). c.put_back-taken.new.chain ≡ cond
    (is_empty (all_waiters c.taken_by-taken.new.head.contents)) c.unplace.new.self
    ((q, c.taken_by-taken.new.head) ∷ c.unplace.new.self)) name c.put_back-taken.ensures.chain in
    subst (λ (b : Table). Wakes b (record { chain = c.put_back-taken.new.chain; homes = c.go_home.new.homes.items })
    c.args.key c.args.who) c.self.view_is
    (then_woken a c.self.invariant c.args.key c.args.who h (sym c.in_ok-head.ensures.taken) absent
    c.taken_by-taken.result
    (told c.deref_mut.result.now h c.taken_by-taken.new.head c.args.who c.taken_by-taken.result v e
    c.taken_by-taken.ensures.taken)
    c.taken_by-taken.new.head same c.put_back-taken.result c.put_back-taken.ensures.taken c.put_back-taken.ensures.free
    c.unplace.new.self c.put_back-taken.new.chain c.in_ok-head.ensures.others placed c.go_home.new.homes.items
    c.go_home.ensures)
