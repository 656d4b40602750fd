use Rattle.std.proofs.Common.{ap, ◌∙◌}
use Rattle.std.specs.Prelude.{option_map}
use Rattle.lock_model.specs.Words.{owner_of}
use Rattle.run_chart.proofs.Told.{no_owner, owner_named, word_fits, word_is}
use Rattle.run_chart.proofs.rows.owner_in.Goals as goal

pub owner_of-requires : goal.owner_of-requires
owner_of-requires c =
    let plan = c.args.at.now.plan.now in
    let h = c.requires.turn.run in
    word_fits plan h.proper c.args.row c.args.l.0 c.at-word.result
    (word_is plan c.args.at.now.rows.now h c.args.row c.args.l.0 c.in_ok-word_rows.field-0.now c.at-word.result
    c.requires.row c.in_ok-word_rows.ensures c.at-word.ensures)

pub returns-in_err-word_rows-clause-is : goal.returns-in_err-word_rows-clause-is
returns-in_err-word_rows-clause-is c =
    ap (option_map (λ t. t.0)) c.from_residual.ensures ∙ no_owner c.args.at.now.plan.now c.args.at.now.rows.now
    c.requires.turn.run c.args.row c.args.l.0 c.in_err-word_rows.ensures

pub returns : goal.returns
returns c =
    let plan = c.args.at.now.plan.now in
    let rows = c.args.at.now.rows.now in
    let h = c.requires.turn.run in
    let is = c.owner_of.ensures
    ∙ ap (λ w. owner_of w.holder) (word_is plan rows h c.args.row c.args.l.0 c.in_ok-word_rows.field-0.now
    c.at-word.result c.requires.row c.in_ok-word_rows.ensures c.at-word.ensures) in
    record { is = is; thread = owner_named plan rows h c.args.row c.args.l.0 c.owner_of.result is }
