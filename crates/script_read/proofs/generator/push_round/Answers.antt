use Rattle.std.proofs.Common.{◌≡◌, ◌++◌, ◌∙◌, refl, subst, List, min, max}
use Rattle.std.specs.Prelude.{OnOk}
use Rattle.lock_model.specs.declared.plan.Op.{Op}
use Rattle.script_read.specs.Generator.{behind_round, over_two, round_at}
use Rattle.script_read.proofs.Generating.{same_round, other_round}
use Rattle.script_read.proofs.generator.push_round.Goals as goal

pub returns-then-i-j : goal.returns-then-i-j
returns-then-i-j c =
    let x = c.args.draws.now.state in
    let made : (c.over_one.result ≡ round_at x) × (c.over_one.new.self.state ≡ behind_round x) =
    same_round x _ _ _ _ c.lock-i.ensures.state c.lock-j.ensures.state c.lock-i.ensures.drawn c.lock-j.ensures.drawn
    _ _ c.if-i-j.true c.over_one.ensures.ops c.over_one.ensures.state in
    record {
      ops = subst (λ (round : List Op).
          OnOk c.push_all.result (c.push_all.new.ops.items ≡ c.args.ops.now.items ++ round))
          made.0 c.push_all.ensures;
      state = made.1;
    }

pub returns-else-i-j : goal.returns-else-i-j
returns-else-i-j c =
    let x = c.args.draws.now.state in
    let i = c.lock-i.result in
    let j = c.lock-j.result in
    let ops : c.over_two.result ≡ over_two c.lock-j.new.self.state (min i j) (max i j) =
    c.over_two.ensures.ops ∙ rw (c.min.ensures, c.max.ensures) refl in
    let made : (c.over_two.result ≡ round_at x) × (c.over_two.new.self.state ≡ behind_round x) =
    other_round x _ _ _ _ c.lock-i.ensures.state c.lock-j.ensures.state c.lock-i.ensures.drawn c.lock-j.ensures.drawn
    _ _ c.if-i-j.false ops c.over_two.ensures.state in
    record {
      ops = subst (λ (round : List Op).
          OnOk c.push_all-else-i-j.result (c.push_all-else-i-j.new.ops.items ≡ c.args.ops.now.items ++ round))
          made.0 c.push_all-else-i-j.ensures;
      state = made.1;
    }
