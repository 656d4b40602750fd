use Rattle.std.proofs.Common.{rules, map}
use Rattle.wait_objects.specs.Inside.{waiting}
use Rattle.wait_objects.proofs.Best.{best_first}
use Rattle.wait_objects.proofs.waiters.Waiters.+best.Goals as goal

pub returns-then-RANKED : goal.returns-then-RANKED
returns-then-RANKED g t c =
    best_first g.E.Own.RANKED _ (map waiting c.node.inside.next) (map waiting c.args.self.now) (search rules)
    (search rules) c.requires
