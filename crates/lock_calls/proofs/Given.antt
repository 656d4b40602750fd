-- The own record goes home, and then the lock's chain.
use Rattle.lock_calls.proofs.Names
use Names.{ℕ, false, [], refl, sym, ap, subst, rest, lock_queue, QueueName, GivesItem, RecordOf, is_bound, seen_after}
use Names.{Description, Record, Makes, MakesEach, MayMake, Runs, StandsOn, Knowledge, seeing, IsGoing, gave, its_chain}
use Names.{chain_place, is_a_chain, HasRecordAndChain, gives_both, with_none_out}
use Rattle.std.proofs.Common.{◌≡◌, ◌⊎◌, ◌∷◌, ◌∙◌}
use Rattle.lock_floor.proofs.MayWait as wait

module _ (floor : Description) (l : ℕ) (v : Knowledge) (both : HasRecordAndChain floor l v)
    (settled : (v.pose ≡ Runs) ⊎ ((q : QueueName) × (v.pose ≡ StandsOn q)))
    (unbound : is_bound v.share.doing.round ≡ false) (going : IsGoing v) (who : ℕ) (is : who ≡ v.thread) where
  pub record_last : (b : _) × (v.out ≡ (who, Record b) ∷ rest v.out)
  record_last = (
    both.box,
    subst (λ out. out ≡ (who, Record both.box) ∷ rest out) (sym both.out)
        (λ i. (sym is i, Record both.box) ∷ (chain_place floor (lock_queue l), both.chain) ∷ []),
  )

  pub may_give_record : MayMake floor v (λ s. Unit {0}) (GivesItem v.thread (RecordOf who) ∷ [])
  may_give_record =
      subst (λ t. MayMake floor v (λ s. Unit {0}) (GivesItem v.thread (RecordOf t) ∷ [])) (sym is)
      (wait.may_give_own floor v (lock_queue l) (Record both.box) both.chain both.out settled going)

  module _ (w : Knowledge) (first : w ≡ seeing w.seen (gave v (RecordOf who))) where
    chain_alone : w.out ≡ (chain_place floor (lock_queue l), both.chain) ∷ []
    chain_alone = ap (λ (k : Knowledge). k.out) first ∙ ap (λ out. rest out) both.out

    pub chain_last : (x : _) × (w.out ≡ (chain_place floor (lock_queue l), x) ∷ rest w.out)
    chain_last = (
      both.chain,
      subst (λ out. out ≡ (chain_place floor (lock_queue l), both.chain) ∷ rest out) (sym chain_alone) refl,
    )

    pub may_give_chain : MayMake floor w (λ s. Unit {0}) (GivesItem w.thread (its_chain floor (lock_queue l)) ∷ [])
    may_give_chain =
        wait.may_give_chain floor w (lock_queue l) both.chain chain_alone
        (ap (λ (k : Knowledge). is_bound k.share.doing.round) first ∙ unbound)
        (subst (λ (k : Knowledge). (k.pose ≡ Runs) ⊎ ((q : QueueName) × (k.pose ≡ StandsOn q))) (sym first) settled)
        (rw first (assumption going))

    module _ (z : Knowledge) (second : z ≡ seeing z.seen (gave w (its_chain floor (lock_queue l)))) where
      pub given_both : z ≡ seeing z.seen (with_none_out v)
      given_both = second
          ∙ ap (λ (k : Knowledge). seeing z.seen (gave k (its_chain floor (lock_queue l)))) first
          ∙ (λ i. seeing z.seen (record v {
            share = record v.share {
              doing = record v.share.doing {
                seen_in_section = seen_after (is_a_chain floor (lock_queue l) i) v.share.doing.seen_in_section;
              };
            };
            out = rest (rest (both.out i));
          }))

      pub given_steps : Makes floor (GivesItem v.thread (RecordOf who) ∷ []) v w
          → Makes floor (GivesItem w.thread (its_chain floor (lock_queue l)) ∷ []) w z
          → MakesEach floor (gives_both floor v.thread l) v z
      given_steps one two = (
        w,
        subst (λ t. Makes floor (GivesItem v.thread (RecordOf t) ∷ []) v w) is one,
        (
          z,
          subst (λ t. Makes floor (GivesItem t (its_chain floor (lock_queue l)) ∷ []) w z)
              (ap (λ (k : Knowledge). k.thread) first) two,
          refl,
        ),
      )
