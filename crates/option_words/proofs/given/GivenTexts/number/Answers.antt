use Rattle.std.proofs.Common.{◌≡◌, ◌∙◌, ◌<◌, ◌^◌, ◌&&◌, ℕ, Bool, true, false, cond, ap, ap₂, arith, refl, sym, Some, None, Result, Ok, Err, nat_lt}
use Rattle.std.specs.Prelude.{nat_le, option_and_then}
use Rattle.std.specs.Result.{result_ok}
use Rattle.std.specs.Str.Parse.{ParsesUnsigned}
use Rattle.std.proofs.lemmas.Bool.{and_from, and_parts, le-leb, lt-ltb, ltb-true}
use Rattle.clap.proofs.ValueTestLemmas.{Accepts-accepts, accepts-Accepts}
use Rattle.clap.specs.declared.builder.value_parser.ValueParser.TheVariants.{Unsigned}
use Rattle.option_words.specs.Forms.{Text, is_number, number_in, number_of}
use Rattle.option_words.proofs.given.GivenTexts.number.Goals as goal

-- Rust's parse at u32 reads just that number
parsed : {E : Type 0} (text : Text) (r : Result ℕ E) → ParsesUnsigned 32 10 text r → result_ok r ≡ number_in text
parsed {E} text r h = by r h
  where
    m : ℕ
    m = number_of text

    small : Bool
    small = nat_lt m (2 ^ 32)

    by : (r : Result ℕ E) → ParsesUnsigned 32 10 text r → result_ok r ≡ number_in text
    by (Ok n) k =
        let below : m < 2 ^ 32 = k.0.1 in
        let taken = Accepts-accepts false (Unsigned 0 (2 ^ 32)) text (k.0.0, omega arith, omega arith, omega arith) in
        let number = (and_parts (is_number text) _ taken).0 in
        ap (λ x. Some x) k.1 ∙ sym (ap₂ (λ a b. cond (a && b) (Some m) None) number (lt-ltb _ _ below))
    by (Err e) k = go (is_number text) small refl refl
      where
        go : (a b : Bool) → is_number text ≡ a → small ≡ b → None ≡ cond (a && b) (Some m) None
        go false b is fits = refl
        go true false is fits = refl
        go true true is fits =
            let below : m < 2 ^ 32 = ltb-true _ _ fits in
            let wide : nat_lt m (2 ^ 64) ≡ true = lt-ltb _ _ (omega arith) in
            let least : nat_le 0 m ≡ true = le-leb _ _ (omega arith) in
            let most : nat_le m (2 ^ 32) ≡ true = le-leb _ _ (omega arith) in
            let number = and_from _ _ is (and_from _ _ wide (and_from _ _ least most)) in
            absurd (k ((accepts-Accepts false (Unsigned 0 (2 ^ 32)) text number).0, below))

pub returns : goal.returns
returns c =
    c.ok.ensures.value ∙ parsed c.in_ok-text.field-0.now c.parse.result c.parse.ensures.value.0
    ∙ ap (option_and_then number_in) (c.in_ok-text.ensures)
