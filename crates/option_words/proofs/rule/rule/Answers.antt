use Rattle.std.proofs.Common.{◌≡◌, ◌∙◌, ◌<◌, ◌+◌, ◌++◌, ◌∷◌, ℕ, List, [], append-nil, append_assoc, ap, ap₂, arith, false, length, map, subst, sym, take}
use Rattle.std.specs.List.{slice_index_or}
use Rattle.std.proofs.lemmas.List.{get_or_default, map-append, take_all, take_more}
use borrow.Author.Count.{below_more}
use Rattle.clap.specs.Words.{AddsArg, app_of, rule_of, with_rule}
use Rattle.clap.specs.declared.builder.arg.Arg.{Arg}
use Rattle.clap.specs.declared.builder.command.Command.{Command}
use Rattle.option_words.specs.Rule.{FitsKind, app_with, operand_rules, option_rule, rules_with}
use Rattle.option_words.specs.declared.synopsis.LongOption.{LongOption}
use Rattle.option_words.specs.declared.synopsis.Synopsis.{Synopsis}
use Rattle.option_words.proofs.rule.rule.Goals as goal

-- with one more option
rules_more : (s : Synopsis) (options : List LongOption) (i : ℕ) (d : LongOption) → i < length options
    → rules_with s (take i options) ++ option_rule (slice_index_or options i d) ∷ []
    ≡ rules_with s (take (i + 1) options)
rules_more s options i d below =
    append_assoc (operand_rules s) (map option_rule (take i options)) (option_rule (slice_index_or options i d) ∷ [])
    ∙ ap (λ rs. operand_rules s ++ rs) (sym (map-append option_rule (take i options) (slice_index_or options i d ∷ []))
    ∙ ap (map option_rule) (sym (take_more options i d below)))

one_more : (s : Synopsis) (i : ℕ) (d : LongOption) (old new : Command) (arg : Arg) → i < length s.options.now
    → AddsArg old arg new → arg.global ≡ false → rule_of arg ≡ option_rule (slice_index_or s.options.now i d)
    → app_of old ≡ app_with s (rules_with s (take i s.options.now))
    → app_of new ≡ app_with s (rules_with s (take (i + 1) s.options.now))
one_more s i d old new arg below adds own rule so_far =
    adds.shape own ∙ ap₂ with_rule so_far rule ∙ ap (app_with s) (rules_more s s.options.now i d below)

pub loop-long-init : goal.loop-long-init
loop-long-init c = (
  c.in_ok-command.ensures ∙ ap (app_with c.args.synopsis.now) (sym (append-nil _)),
  λ k d h. absurd (omega arith),
)

pub loop-long-preserved : goal.loop-long-preserved
loop-long-preserved c =
    let s = c.args.synopsis.now in
    let i = c.loop-long.long-index in
    let inside = c.loop-long-test.true in
    let fits : (d : LongOption) → FitsKind (slice_index_or s.options.now i d).kind = λ d.
    subst (λ (o : LongOption). FitsKind o.kind) (get_or_default s.options.now i _ d inside) c.option.ensures.fits in (
      one_more s i _ _ _ _ inside c.in_ok-command-2.ensures c.option.ensures.own c.option.ensures.rule
          c.loop-long.invariant.0,
      λ k d h. below_more (λ k. (d : LongOption) → FitsKind (slice_index_or s.options.now k d).kind) i
          (λ j low e. c.loop-long.invariant.1 j e low) fits k h d,
    )

pub returns : goal.returns
returns c =
    let s = c.args.synopsis.now in
    let whole = take_all _ _ c.loop-long-test.false in
    record {
      rule = c.loop-long.invariant.0 ∙ ap (λ os. app_with s (rules_with s os)) whole;
      fits = λ k d h. c.loop-long.invariant.1 k d (omega arith);
    }
