use Rattle.std.proofs.Common.{◌<◌, ◌%◌, ◌==◌, List, find, option_map, ap, arith, ◌∙◌}
use Rattle.tick_sleep.specs.Limits.{round}
use Rattle.tick_sleep.specs.Rolls.{first_at}
use Rattle.tick_sleep.specs.declared.wheel.Callout.{Callout}
use Rattle.tick_sleep.proofs.Buckets.{shown_bucket, first_of_tick}
use Rattle.tick_sleep.proofs.roll.Roll.first_at.Goals as goal

pub returns-clause-first : goal.returns-clause-first
returns-clause-first c =
    let small : c.args.tick % round < round = omega arith in
    c.first.ensures
    ∙ ap (λ (cs : List Callout). option_map (λ (x : Callout). x.t) (find (λ (x : Callout). x.due == c.args.tick) cs))
    (shown_bucket c.self.inside.wheel c.self.inside.sleepers.items c.args.tick small c.self.invariant.shown)
    ∙ first_of_tick c.args.tick c.self.inside.sleepers.items ∙ ap (first_at c.args.tick) c.self.view_is
