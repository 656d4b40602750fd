-- Two names are the same exactly where the test says so.
use Rattle.std.proofs.Common.{◌≡◌, ℕ, ap, sym, Decides, refl}
use Rattle.std.proofs.lemmas.Bool.Decides.{Decides-eqb, same_from_decides}
use Rattle.std.specs.Cmp.{IsEquivalence}
use Rattle.lock_model.specs.declared.plan.QueueName.{QueueName}
use Rattle.lock_model.specs.declared.plan.QueueName.TheVariants.{Lock, Chan}
use Rattle.lock_model.specs.Queues.{is_queue}

pub Decides-is_queue : (a b : QueueName) → Decides (is_queue a b) (a ≡ b)
Decides-is_queue (Lock k) (Lock l) =
    (λ h. ap (λ (n : ℕ). Lock (record { 0 = n })) ((Decides-eqb k.0 l.0).0 h), λ h. (Decides-eqb k.0 l.0).1 cc)
Decides-is_queue (Lock k) (Chan d) = (λ h. cc, λ h. cc)
Decides-is_queue (Chan c) (Lock l) = (λ h. cc, λ h. cc)
Decides-is_queue (Chan c) (Chan d) =
    (λ h. ap (λ (n : ℕ). Chan (record { 0 = n })) ((Decides-eqb c.0 d.0).0 h), λ h. (Decides-eqb c.0 d.0).1 cc)

pub is_queue_equiv : IsEquivalence is_queue
is_queue_equiv = record {
  refl = λ a. (Decides-is_queue a a).1 refl;
  symm = λ a b. same_from_decides (is_queue a b) (is_queue b a) (Decides-is_queue a b)
      ((λ h. sym ((Decides-is_queue b a).0 h)), λ e. (Decides-is_queue b a).1 (sym e));
  congr = λ a b n h. ap (λ (q : QueueName). is_queue q n) ((Decides-is_queue a b).0 h);
}
