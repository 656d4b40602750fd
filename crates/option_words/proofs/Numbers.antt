-- The numbers that a program reads of the texts that were given.
use Rattle.std.proofs.Common.{◌≡◌, ◌≤◌, ◌^◌, ◌&&◌, ℕ, Bool, cond, true, false, Option, Some, None, refl, nat_lt}
use Rattle.std.specs.Prelude.{nat_le, unwrap_or}
use Rattle.std.proofs.lemmas.Bool.{and_parts, leb-true}
use Rattle.option_words.specs.Forms.{Text, is_between, is_number, number_of, number_or}

-- one of an option that takes numbers from the least to the most, or what there is where nothing was said
pub in_range : (least most n : ℕ) (given : Option Text) → least ≤ n → n ≤ most
    → ((text : Text) → given ≡ Some text → is_between least most text ≡ true)
    → (least ≤ number_or n given) × (number_or n given ≤ most)
in_range least most n None low high between = (low, high)
in_range least most n (Some text) low high between = go (is_number text && nat_lt m (2 ^ 32))
  where
    m : ℕ
    m = number_of text

    go : (b : Bool)
        → (least ≤ unwrap_or (cond b (Some m) None) n) × (unwrap_or (cond b (Some m) None) n ≤ most)
    go false = (low, high)
    go true =
        let parts = and_parts (nat_le least m) (nat_le m most) (and_parts (is_number text) _ (between text refl)).1 in
        (leb-true _ _ parts.0, leb-true _ _ parts.1)
