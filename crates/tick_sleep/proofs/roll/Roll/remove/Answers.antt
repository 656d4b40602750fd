use Rattle.std.proofs.Common.{sym, subst, ◌∙◌}
use Rattle.tick_sleep.specs.Rolls.{IsOnce}
use Rattle.tick_sleep.proofs.Once.{once_without}
use Rattle.tick_sleep.proofs.Rolling.{timed_left, untimed_left, none_left}
use Rattle.tick_sleep.proofs.roll.Roll.remove.Goals as goal

pub invariant_of-self : goal.invariant_of-self
invariant_of-self c =
    let ss = c.self.inside.sleepers.items in
    let found = sym c.remove_first.ensures.taken ∙ c.in-Some.is in
    record {
      room = rw c.remove_first.ensures.room c.self.invariant.room;
      once = subst IsOnce (sym c.remove_first.ensures.left) (once_without c.args.t.0 ss c.self.invariant.once);
      shown = rw (c.remove.ensures.bucket, c.remove_first.ensures.left)
          (timed_left c.self.inside.wheel c.args.t.0 ss c.in-Some.sleeper c.in-Some-due.due found c.in-Some-due.is
          c.remove.ensures.size c.self.invariant.shown);
    }

pub invariant_of-self-in-Some : goal.invariant_of-self-in-Some
invariant_of-self-in-Some c =
    let ss = c.self.inside.sleepers.items in
    let found = sym c.remove_first.ensures.taken ∙ c.in-Some.is in
    record {
      room = rw c.remove_first.ensures.room c.self.invariant.room;
      once = subst IsOnce (sym c.remove_first.ensures.left) (once_without c.args.t.0 ss c.self.invariant.once);
      shown = rw c.remove_first.ensures.left
          (untimed_left c.self.inside.wheel c.args.t.0 ss c.in-Some.sleeper found c.in_default-due.is
          c.self.invariant.shown);
    }

pub invariant_of-self-in_default : goal.invariant_of-self-in_default
invariant_of-self-in_default c =
    let ss = c.self.inside.sleepers.items in
    let same = c.remove_first.ensures.left
    ∙ none_left c.args.t.0 ss (sym c.remove_first.ensures.taken ∙ c.in_default.is) in
    record {
      room = rw c.remove_first.ensures.room c.self.invariant.room;
      once = subst IsOnce (sym same) c.self.invariant.once;
      shown = rw same c.self.invariant.shown;
    }
