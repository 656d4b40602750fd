-- What the texts say that were given.
use Rattle.std.proofs.Common.{◌≡◌, ℕ, Bool, true, false, not, Option, Some, None, is_some, option_map, refl, ap, ◌∙◌, Bor}
use Rattle.std.specs.Prelude.{option_and_then}
use Rattle.std.specs.Option.{is_none}
use Rattle.option_words.specs.Forms.{Text, number_in}
use Rattle.plan_command.specs.Forms.{by_chance, by_priority}
use Rattle.turn_policy.specs.declared.policy.Policy.TheVariants.{Chance, Priority}

-- whether there is a text, by the text itself
pub some_text : (o : Option (Bor Text)) (text : Option Text) (b : Bool) → b ≡ is_some o
    → option_map (λ t. t.now) o ≡ text → b ≡ is_some text
some_text None text b e f = e ∙ ap is_some f
some_text (Some t) text b e f = e ∙ ap is_some f

pub no_text : (o : Option (Bor Text)) (text : Option Text) (b : Bool) → is_some o ≡ not b
    → option_map (λ t. t.now) o ≡ text → b ≡ is_none text
no_text None text true e f = ap is_none f
no_text None text false e f = absurd cc
no_text (Some t) text true e f = absurd cc
no_text (Some t) text false e f = ap is_none f

-- by priority there is no seed
pub seeded : (seed loans : Option Text) → is_some seed ≡ true → None ≡ by_priority seed loans
seeded None loans e = absurd cc
seeded (Some s) loans e = refl

pub unseeded : (seed loans : Option Text) (b : Bool) → is_some seed ≡ false → b ≡ is_none loans
    → Some (Priority b) ≡ by_priority seed loans
unseeded None None b e f = ap (λ (x : Bool). Some (Priority x)) f
unseeded None (Some s) b e f = ap (λ (x : Bool). Some (Priority x)) f
unseeded (Some s) loans b e f = absurd cc

-- by chance nothing is said of loans
pub loans_said : (seed loans : Option Text) → is_some loans ≡ true → None ≡ by_chance seed loans
loans_said seed None e = absurd cc
loans_said None (Some l) e = refl
loans_said (Some s) (Some l) e = refl

pub chance_is : (seed loans : Option Text) (o : Option ℕ) → is_some loans ≡ false → o ≡ option_and_then number_in seed
    → option_map Chance o ≡ by_chance seed loans
chance_is seed (Some l) o e f = absurd cc
chance_is None None o e f = ap (option_map Chance) f
chance_is (Some s) None o e f = ap (option_map Chance) f
