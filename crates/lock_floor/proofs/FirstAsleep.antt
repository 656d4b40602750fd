-- The first sleeper of a queue, as an abort needs it: another stays on its side, or it is the last there.
use Rattle.lock_floor.proofs.Names
use Names.{eqb, cond, Bool, true, false, List, [], refl, sym, ap, subst, arith, eq-eqb, one, is_empty, Waiter}
use Names.{times_waiting, ChanNo, QueueName, Lock, Chan, waiters, SleepQueue, IsSleeping, KeepsWord, IsLastAsleep}
use Names.{SleepsFirst, FirstSleeper}
use Rattle.std.proofs.Common.{◌≡◌, ◌≢◌, ◌<◌, ◌∷◌, ◌∙◌}
use Rattle.lock_model.specs.Queues.{without}

none_there : (ws : List Waiter) → is_empty ws ≡ true → ws ≡ []
none_there f e = grind arith

some_there : (ws : List Waiter) → is_empty ws ≡ false → ws ≢ []
some_there f e none = grind arith

module _ (q : QueueName) (x : FirstSleeper) (chain : List (QueueName × SleepQueue)) (h : SleepsFirst q x chain) where
  itself : eqb x.thread.0 h.first.thread ≡ true
  itself = eq-eqb x.thread.0 h.first.thread (sym h.thread)

  pub first_last : x.alone ≡ true → IsLastAsleep q x.side x.thread.0 chain
  first_last alone = grind arith

  pub first_sleeps : (x.alone ≡ true → (d : ChanNo) × (q ≡ Chan d)) → IsSleeping q x.side x.thread.0 chain
  first_sleeps stays = grind arith
