-- A thread stands on a sleep queue, and sleepers are taken off one: the chain shows the columns behind both, and
-- those taken their marks.
use Rattle.lock_objects.proofs.Names
use Names.{ℕ, Bool, false, List, map, Option, None, IsSome, refl, sym, subst, All, Config, Waiter, is_turnstile_queue}
use Names.{list_of, taken_off, dealt, Side, QueueName, State, SleepQueue, Place, head_of, without, RepresentsSleepQueue}
use Names.{RepresentsSleepers, sleepers_in, mark_of, IsBalanced, ChangesSleepers, chain_asleep, slept, chain_woken}
use Names.{woken}
use Rattle.std.proofs.Common.{◌≡◌, ◌≢◌, ◌∷◌}
use Rattle.lock_objects.specs.Sleeps.{woken_of}
use Rattle.lock_objects.proofs.SleepChains as one

-- every sleep queue stands in the one chain
abbrev Stands : Config → QueueName → Type 0
Stands c r = is_turnstile_queue c r ≡ false

pub chain_slept : {c : Config} {chain new : List (QueueName × SleepQueue)} (s n : State) (q : QueueName) (side : Side)
    (x : ℕ) (w : Waiter) → is_turnstile_queue c q ≡ false → IsBalanced (sleepers_in s q)
    → ChangesSleepers s n q (slept side x w) → RepresentsSleepers c chain (sleepers_in s)
    → new ≡ chain_asleep q side x w chain → RepresentsSleepers c new (sleepers_in n)
chain_slept {c = c} {chain = chain} s n q side x w k fits changes shows is =
    subst (λ v. RepresentsSleepers c v (sleepers_in n)) (sym is) (record {
      queue = one.chain_slept (Stands c) chain (sleepers_in s) (sleepers_in n) q (slept side x w (sleepers_in s q))
          changes shows.queue fits k side x w refl;
    })

module _ {c : Config} {chain : List (QueueName × SleepQueue)} (s : State) (q : QueueName) (all : Bool) (side : Side)
    (k : is_turnstile_queue c q ≡ false) (balanced : IsBalanced (sleepers_in s q))
    (shows : RepresentsSleepers c chain (sleepers_in s)) where
  pub chain_shown : (n : State) {new : List (QueueName × SleepQueue)} (o : Option SleepQueue)
      → ChangesSleepers s n q (woken all side) → head_of q chain ≡ o → head_of q (without q chain) ≡ None
      → new ≡ chain_woken q all side o chain → RepresentsSleepers c new (sleepers_in n)
  chain_shown n {new = new} o changes there absent is =
      subst (λ v. RepresentsSleepers c v (sleepers_in n)) (sym is) (record {
        queue = one.chain_woken_shown (Stands c) chain (sleepers_in s) (sleepers_in n) q
            (woken all side (sleepers_in s q)) changes shows.queue balanced k absent all side o there refl;
      })

  abbrev Marked : List Place → Type 0
  Marked ps = (map (mark_of q) ps ≡ dealt q (taken_off all (list_of side (s.lists q))) (s.free_list q) (s.head q))
      × All (λ p. IsSome p.object) ps

  pub marks_shown : {ps : List Place} (o : Option SleepQueue) → head_of q chain ≡ o → ps ≡ woken_of all side o
      → Marked ps
  marks_shown o there is =
      subst Marked (sym is) (one.marks_woken q all side o (sleepers_in s q) balanced
      (subst (λ z. RepresentsSleepQueue z (sleepers_in s q)) there (shows.queue q k)))
