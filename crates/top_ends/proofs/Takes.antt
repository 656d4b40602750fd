-- How much of a source was taken, as laws over plain bytes.
use Rattle.std.proofs.Common.{◌≡◌, ℕ, ◌+◌, ◌-◌, ◌↔◌, true, false, sym, List, [], ◌++◌, length, drop, Option, Some, None, IfSome, refl, ap, ◌∙◌, arith, length-append, length-drop}
use Rattle.std.specs.Io.KnownBytes.{prepend_known}
use Rattle.std.proofs.lemmas.Option.{same_Some}
use Rattle.lock_io.specs.Whole.{TakesFront}
use Rattle.lock_model.specs.Limits.{most_bytes}
use Rattle.complaints.specs.declared.status.Status.{Status}
use Rattle.complaints.specs.declared.status.Status.TheVariants.{TooBig}
use Rattle.top_ends.specs.Calls.{ReadsBytes, TookTooMany}
use Rattle.top_ends.specs.Statuses.{reads_all}

taken_lengths : (bytes front : List ℕ) (new : Option (List ℕ)) → Some bytes ≡ prepend_known front new
    → new ≡ Some (drop (most_bytes + 1) bytes) → length bytes ≡ length front + (length bytes - (most_bytes + 1))
taken_lengths bytes front new e n =
    let same : bytes ≡ front ++ drop (most_bytes + 1) bytes = same_Some _ _ (e ∙ ap (prepend_known front) n) in
    ap length same ∙ length-append front (drop (most_bytes + 1) bytes)
    ∙ ap (λ (m : ℕ). length front + m) (length-drop (most_bytes + 1) bytes)

-- where at most the most bytes were taken, not one more was; a claim that they were is then false
pub took_no_more : (P : Type 0) (old new : Option (List ℕ)) → TakesFront old new most_bytes → (P → ⊥)
    → IfSome old (λ bytes. P ↔ TookTooMany bytes new)
took_no_more P None new t other = tt
took_no_more P (Some bytes) new t other =
    (λ e. absurd (other e), λ k. absurd (omega (arith, k.0, t.1, taken_lengths bytes t.0 new t.2 k.1)))

-- where nothing was taken
pub took_nothing : (P : Type 0) (old : Option (List ℕ)) → (P → ⊥) → IfSome old (λ bytes. P ↔ TookTooMany bytes old)
took_nothing P None other = tt
took_nothing P (Some bytes) other = took_no_more P (Some bytes) (Some bytes) ([], omega arith, refl) other

-- a status of a call that reads nothing
pub unread : (status : Status) (old : Option (List ℕ)) → reads_all status ≡ false → (status ≡ TooBig → ⊥)
    → ReadsBytes status old old
unread status old quiet other = record {
  at_most = ([], omega arith, took_none old);
  too_big = took_nothing (status ≡ TooBig) old other;
  whole = λ e. absurd (false-true (sym quiet ∙ e));
}
  where
    took_none : (o : Option (List ℕ)) → o ≡ prepend_known [] o
    took_none None = refl
    took_none (Some bytes) = refl

    false-true : false ≡ true → ⊥
    false-true e = cc
