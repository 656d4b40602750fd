-- Kinds of error: a request for help, and mistakes.
use Rattle.std.proofs.Common.{◌≡◌, ◌∙◌, Bool, true, false, not, refl, sym, ap, subst, [], ◌∷◌, inl, inr, true≢false}
use Rattle.std.specs.List.{list_all}
use Rattle.clap.proofs.WalkLemmas.{both}
use Rattle.clap.specs.Kinds.{IsAmong, Kinds, or_else}
use Rattle.clap.specs.declared.error.kind.ErrorKind.{ErrorKind}
use Rattle.clap.specs.declared.error.kind.ErrorKind.TheVariants as kind

abbrev pub is_help : ErrorKind → Bool
is_help kind.DisplayHelp = true
is_help _ = false

-- there is a kind, and none of them is help
abbrev pub is_mistake : Kinds → Bool
is_mistake [] = false
is_mistake (k ∷ ks) = list_all (λ x. not (is_help x)) (k ∷ ks)

abbrev pub IsMistake : Kinds → Type 0
IsMistake ks = is_mistake ks ≡ true

pub first_mistake : (a b : Kinds) → IsMistake a → IsMistake (or_else a b)
first_mistake [] b m = absurd (true≢false (sym m))
first_mistake (k ∷ ks) b m = m

pub next_mistake : (a b : Kinds) → a ≡ [] → IsMistake b → IsMistake (or_else a b)
next_mistake a b none m = subst (λ k. IsMistake (or_else k b)) (sym none) m

pub neither : (a b : Kinds) → a ≡ [] → b ≡ [] → or_else a b ≡ []
neither a b one two = ap (λ k. or_else k b) one ∙ two

pub in_turn : (a b c : Kinds) → or_else (or_else a b) c ≡ or_else a (or_else b c)
in_turn [] b c = refl
in_turn (k ∷ ks) b c = refl

pub no_mistake : (ks : Kinds) → IsMistake ks → ks ≡ [] → ⊥
no_mistake ks m none = absurd (true≢false (sym (subst IsMistake none m)))

no_help : (ks : Kinds) (k : ErrorKind) → list_all (λ x. not (is_help x)) ks ≡ true → IsAmong k ks → is_help k ≡ false
no_help [] k all among = absurd among
no_help (x ∷ xs) k all (inl same) = go (is_help k) (ap (λ y. not (is_help y)) same ∙ (both (not (is_help x)) _ all).0)
  where
    go : (b : Bool) → not b ≡ true → b ≡ false
    go true e = sym e
    go false e = refl
no_help (x ∷ xs) k all (inr among) = no_help xs k (both (not (is_help x)) _ all).1 among

-- a mistake is no request for help
pub mistake_kind : (ks : Kinds) (k : ErrorKind) → IsMistake ks → IsAmong k ks → is_help k ≡ false
mistake_kind [] k m among = absurd among
mistake_kind (x ∷ xs) k m among = no_help (x ∷ xs) k m among

pub other_kind : (k : ErrorKind) → (k ≡ kind.DisplayHelp → ⊥) → is_help k ≡ false
other_kind kind.DisplayHelp other = absurd (other refl)
other_kind _ other = refl
