use Rattle.lock_floor.proofs.Names.{ℕ, List, length, get_or, ap, subst, arith, IsSized, Description, Floor}
use Rattle.std.proofs.Common.{◌≡◌, ◌-◌, ◌<◌, ◌∙◌}
use Rattle.lock_floor.proofs.OwnCells.{by_key, by_lock}
use Rattle.lock_floor.proofs.tables.FloorOf+Slot+View+Description+Law.has_cell.Goals as goal

pub returns-then-at-cell : goal.returns-then-at-cell
returns-then-at-cell c =
    let floor : Description = c.args.self.now.description in
    let told = ap (λ (f : Floor Description). f.description) c.self.view_is in
    let keys = c.as_slice.ensures ∙ ap (λ (d : Description). d.keys) (c.self.invariant.kept ∙ told) in
    let parts = c.as_slice-first.ensures ∙ ap (λ (d : Description). d.threads) (c.self.invariant.kept ∙ told) in
    let first = length c.as_slice-first.result.now in
    let at = c.in-Some.at.now in
    let found = c.in-Some.ensures.lookup in
    by_key floor (subst IsSized told c.self.invariant.sized) c.args.cell.l.0 c.args.cell.key c.args.cell.slot first at
    (ap length parts) (omega (arith, c.if-cell-first.false))
    (subst (λ (ks : List (ℕ × ℕ)). c.args.cell.slot - first < length ks) keys found.3.0)
    (subst (λ (ks : List (ℕ × ℕ)). at ≡ get_or ks (c.args.cell.slot - first) at) keys found.1) c.if-at-cell.true

pub returns-else-at-cell : goal.returns-else-at-cell
returns-else-at-cell c =
    let floor : Description = c.args.self.now.description in
    let told = ap (λ (f : Floor Description). f.description) c.self.view_is in
    let keys = c.as_slice.ensures ∙ ap (λ (d : Description). d.keys) (c.self.invariant.kept ∙ told) in
    let parts = c.as_slice-first.ensures ∙ ap (λ (d : Description). d.threads) (c.self.invariant.kept ∙ told) in
    let first = length c.as_slice-first.result.now in
    let at = c.in-Some.at.now in
    let found = c.in-Some.ensures.lookup in
    by_lock floor (subst IsSized told c.self.invariant.sized) c.args.cell.l.0 c.args.cell.key c.args.cell.slot first at
    (ap length parts) (omega (arith, c.if-cell-first.false))
    (subst (λ (ks : List (ℕ × ℕ)). c.args.cell.slot - first < length ks) keys found.3.0)
    (subst (λ (ks : List (ℕ × ℕ)). at ≡ get_or ks (c.args.cell.slot - first) at) keys found.1) c.if-at-cell.false
