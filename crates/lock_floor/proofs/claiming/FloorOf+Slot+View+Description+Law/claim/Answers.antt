use Rattle.lock_floor.proofs.Names
use Names.{ℕ, [], length, refl, sym, ap, subst, arith, lock_queue, word_of, says_claimed, Knowledge, Description}
use Names.{MayClaimIt, ClaimsIt, as_claimed, claimed, out_claimed, Floor, Pass, chain_place}
use Rattle.std.proofs.Common.{◌≡◌, ◌<◌, ◌∷◌, ◌++◌, ◌∙◌}
use Rattle.lock_floor.proofs.Looking.{may_look_inside}
use Rattle.lock_floor.proofs.ClaimCall.{its_out, its_work}
use Rattle.lock_floor.proofs.ClaimStep.{claim_allowed}
use Rattle.lock_floor.proofs.Tied.{of_floor_still, tied_looked, tied_then}
use Rattle.lock_floor.proofs.claiming.FloorOf+Slot+View+Description+Law.claim.Goals as goal

pub claim_word-found-requires-clause-may : goal.claim_word-found-requires-clause-may
claim_word-found-requires-clause-may c =
    let l = c.args.l.0 in
    let seen = c.args.seen in
    let low = subst (λ (f : Floor Description). l < length f.description.locks) (sym c.self.view_is) c.requires.lock in
    let may = subst (λ (z : Floor Description × Pass Knowledge). MayClaimIt z.0.description l c.args.by_try
    (word_of seen) z.1.view) (λ i. (sym c.self.view_is i, sym c.pass.view_is i)) c.requires.may in
    let may_look = may_look_inside _ _ _ _ c.self.view_is c.pass.view_is l c.requires.may_look in
    let says = c.claimed-new.ensures.word ∙ ap (says_claimed (word_of seen)) c.pass.invariant.thread in
    claim_allowed c.self.inside.board.shared.key c.pass.inside.seat.me c.pass.invariant.role
    c.self.inside.board.shared.table_id.slots c.pass.inside.seat.id seen c.claimed-new.result c.args.l c.args.by_try low
    c.requires.shown may says may_look

-- the word was another
pub invariant_of-pass : goal.invariant_of-pass
invariant_of-pass c =
    tied_looked c.pass.inside.who.0 c.pass.inside.held c.pass.inside.marked c.pass.inside.log c.pass.inside.finished
    c.pass.inside.seat.me c.claim_word-found.new.seat.me c.self.inside.board.shared.key c.args.l.0
    c.claim_word-found.result (ap (λ (p : Pass Knowledge). p.finished) c.pass.view_is ∙ c.requires.own.unfinished)
    c.pass.invariant (c.claim_word-found.ensures.told.1 c.if-found-seen.true)

-- it was the one that was seen
place_inside : (f g : Floor Description) → f ≡ g → (l : ℕ)
    → chain_place g.description (lock_queue l) ≡ chain_place f.description (lock_queue l)
place_inside f g same l = ap (λ (k : Floor Description). chain_place k.description (lock_queue l)) (sym same)

pub own_it-requires-clause-out : goal.own_it-requires-clause-out
own_it-requires-clause-out c =
    its_out c.self.inside.board.shared.key c.args.l c.args.by_try c.pass.inside.seat.me c.claim_word-found.new.seat.me
    (c.claim_word-found.ensures.told.0 c.if-found-seen.false) c.pass.invariant.out c.from-own.result
    c.chain_slot-chain.result (c.from-own.ensures ∙ c.pass.invariant.thread)
    (c.chain_slot-chain.ensures.place ∙ place_inside _ _ c.self.view_is c.args.l.0)

module _ (c : goal.After-push_reserved) where
  abbrev key : Description
  key = c.self.inside.board.shared.key

  its_claim : ClaimsIt key c.args.l c.args.by_try c.pass.inside.seat.me.0 c.own_it.new.seat.me.0
      × (c.own_it.new.seat.me.1 ≡ c.own_it.new.seat.me.0.out)
  its_claim =
      its_work key c.args.l c.args.by_try c.pass.inside.seat.me c.claim_word-found.new.seat.me
      (c.claim_word-found.ensures.told.0 c.if-found-seen.false) c.pass.invariant.out c.from-own.result
      c.chain_slot-chain.result (c.from-own.ensures ∙ c.pass.invariant.thread)
      (c.chain_slot-chain.ensures.place ∙ place_inside _ _ c.self.view_is c.args.l.0) c.own_it.new.seat.me
      c.own_it.ensures.view c.own_it.ensures.out

pub invariant_of-pass-2 : goal.invariant_of-pass-2
invariant_of-pass-2 c =
    let h = c.pass.invariant in
    let its = its_claim c in
    let me = c.pass.inside.seat.me in
    let out = out_claimed c.self.inside.board.shared.key me.0.thread c.args.l.0 its.0.both.box its.0.both.chain
    its.0.turnstile in
    tied_then c.pass.inside.who.0 c.pass.inside.held c.push_reserved.new.self c.pass.inside.marked
    c.pass.inside.marked c.pass.inside.log c.pass.inside.finished me c.own_it.new.seat.me
    (claimed me.0 (as_claimed c.args.l c.args.by_try) out)
    (ap (λ (p : Pass Knowledge). p.finished) c.pass.view_is ∙ c.requires.own.unfinished) h its.0.view its.1 refl
    (c.push_reserved.ensures.items ∙ ap (λ hs. hs ++ as_claimed c.args.l c.args.by_try ∷ []) h.held)
    (omega (arith, h.room, c.push_reserved.ensures.capacity)) h.marks

pub returns-clause-own : goal.returns-clause-own
returns-clause-own c =
    of_floor_still _ _ _ _ c.pass.view_is c.requires.own (c.own_it.ensures.own ∙ c.claim_word-found.ensures.own)
    (ap (λ (w : Knowledge). w.description) (its_claim c).0.view) refl

pub returns-clause-claims : goal.returns-clause-claims
returns-clause-claims c =
    subst (λ (z : Floor Description × Pass Knowledge). ClaimsIt z.0.description c.args.l c.args.by_try z.1.view
    c.own_it.new.seat.me.0) (λ i. (c.self.view_is i, c.pass.view_is i))
    (its_claim c).0
