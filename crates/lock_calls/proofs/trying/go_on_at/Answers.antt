use Rattle.lock_calls.proofs.Names.{sym, ap, subst, Tries, IsUnderTry, TriesOn}
use Rattle.std.proofs.Common.{◌∙◌}
use Rattle.lock_calls.proofs.trying.go_on_at.Goals as goal

pub come-requires-clause-under_way : goal.come-requires-clause-under_way
come-requires-clause-under_way c =
    subst (λ a. IsUnderTry c.args.floor.now.description c.args.l c.args.mode a c.args.pass.now.view)
    (c.in-Tries.is ∙ ap Tries c.if-left-eq0.true) c.requires.under_way

pub returns-then-left-eq0-clause-on : goal.returns-then-left-eq0-clause-on
returns-then-left-eq0-clause-on c =
    subst (λ a. TriesOn c.args.floor.now.description c.args.l c.args.mode a c.come.result c.args.pass.now.view
    c.come.new.pass.view)
    (sym (c.in-Tries.is ∙ ap Tries c.if-left-eq0.true)) c.come.ensures.on

pub try_in_round-requires-clause-under_way : goal.try_in_round-requires-clause-under_way
try_in_round-requires-clause-under_way c =
    subst (λ a. IsUnderTry c.args.floor.now.description c.args.l c.args.mode a c.args.pass.now.view) c.in-Tries.is
    c.requires.under_way

pub come_in-requires-clause-under_way : goal.come_in-requires-clause-under_way
come_in-requires-clause-under_way c =
    subst (λ a. IsUnderTry c.args.floor.now.description c.args.l c.args.mode a c.args.pass.now.view) c.in-ComesIn.is
    c.requires.under_way

pub returns-in-ComesIn-clause-on : goal.returns-in-ComesIn-clause-on
returns-in-ComesIn-clause-on c =
    subst (λ a. TriesOn c.args.floor.now.description c.args.l c.args.mode a c.come_in.result c.args.pass.now.view
    c.come_in.new.pass.view)
    (sym c.in-ComesIn.is) c.come_in.ensures.on

pub decide-requires-clause-under_way : goal.decide-requires-clause-under_way
decide-requires-clause-under_way c =
    subst (λ a. IsUnderTry c.args.floor.now.description c.args.l c.args.mode a c.args.pass.now.view) c.in-Decides.is
    c.requires.under_way
