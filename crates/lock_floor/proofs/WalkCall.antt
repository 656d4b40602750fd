-- What the calls of single steps of a walk leave of the pass and tell.
use Rattle.lock_floor.proofs.Names
use Names.{ℕ, Bool, false, List, [], refl, sym, ap, subst, Vec, Global, Box, Me, Book, Held, QueueName, Marked, Walk}
use Names.{Step, ThreadRec, Turnstile, Makes, Knowledge, seeing, Description, Slot, IsTied, StepsInHop, hopped}
use Names.{record_and_chain, arith}
use Rattle.std.proofs.Common.{◌≡◌, ◌∷◌, ◌∙◌}
use Rattle.lock_floor.proofs.Tied.{tied_on}
use Rattle.lock_floor.proofs.WalkStep.{Hopped}

-- the pass was worked on, by which its seat knows what it knew, and then made the step
module _ (floor : Description) (me worked behind : Me Slot Knowledge) (step : ℕ → Step) (w : Walk)
    (view : worked.0 ≡ me.0)
    (told : Hopped floor (step worked.0.thread) w worked behind) where
  pub call_view : behind.0 ≡ seeing behind.0.seen (hopped me.0 w worked.1)
  call_view = ap (λ (m : Me Slot Knowledge). m.0) told.is ∙ ap (λ k. seeing behind.0.seen (hopped k w worked.1)) view

  pub call_step : Makes floor (step me.0.thread ∷ []) me.0 behind.0
  call_step = subst (λ (k : Knowledge). Makes floor (step k.thread ∷ []) k behind.0) view told.made

  pub call_tied : (who : ℕ) (locks : Vec Held) (marked : Marked) (book : Book) (fin : Bool) → fin ≡ false
      → IsTied who locks marked book fin me → IsTied who locks marked book fin behind
  call_tied who locks marked book fin going h =
      tied_on who locks marked book fin me behind (hopped me.0 w worked.1) going h call_view
      (ap (λ (m : Me Slot Knowledge). m.1) told.is ∙ sym (ap (λ k. k.out) call_view)) refl refl refl

  pub call_in_hop : (o : ℕ) (box : Box ThreadRec Global) (chain : List (QueueName × Turnstile))
      → worked.1 ≡ record_and_chain floor o box chain → StepsInHop floor o (step me.0.thread) w me.0 behind.0
  call_in_hop o box chain out = grind arith
