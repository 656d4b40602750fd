-- What the texts say that were given is in its ranges.
use Rattle.std.proofs.Common.{◌≡◌, ◌≤◌, true, codes, ap, arith, subst, sym, Some}
use Rattle.lock_model.specs.declared.limits.TheConstants.{CHAINS, DEFAULT_CHAINS, TURNS}
use Rattle.option_words.proofs.Numbers.{in_range}
use Rattle.option_words.specs.Forms.{Text, Texts, is_taken_by}
use Rattle.chart_command.specs.Forms.{table, wanted_by}
use Rattle.chart_command.specs.Args.{HasRanges, wanted}
use Rattle.chart_command.specs.declared.args.LockchartArgs.{LockchartArgs}

pub ranges : (given : Texts) (said : LockchartArgs)
    → ((name text : Text) → given name ≡ Some text → is_taken_by table name text ≡ true)
    → wanted said ≡ wanted_by given → HasRanges said
ranges given said taken is =
    let turns = subst (λ n. (1 ≤ n) × (n ≤ TURNS)) (sym (ap (λ w. w.turns) is))
    (in_range 1 TURNS TURNS (given (codes "turns")) (omega arith) (omega arith) (taken (codes "turns"))) in
    let chains = subst (λ n. (1 ≤ n) × (n ≤ CHAINS)) (sym (ap (λ w. w.chains) is))
    (in_range 1 CHAINS DEFAULT_CHAINS (given (codes "chains")) (omega arith) (omega arith) (taken (codes "chains"))) in
    record { some_turns = turns.0; few_turns = turns.1; some_chains = chains.0; few_chains = chains.1 }
