use Rattle.lock_floor.proofs.Names.{ℕ, List, length, Some, Result, Ok, Err, refl, sym, ap, subst, IsSearchInRange}
use Rattle.lock_floor.proofs.Names.{IsBinarySearchResult, place_cmp, IsSized, Description, Floor}
use Rattle.std.proofs.Common.{◌+◌, ◌∙◌}
use Rattle.lock_floor.proofs.Searching.{named_at, searched}
use Rattle.lock_floor.proofs.tables.FloorOf+Slot+View+Description+Law.find_cell.Goals as goal

-- a search among the keys that the floor keeps is one among those that its table was told
abbrev pub Answers : ℕ × ℕ → List (ℕ × ℕ) → Result ℕ ℕ → Type 0
Answers q ks r = IsSearchInRange r (length ks) × IsBinarySearchResult (λ y. place_cmp y q) ks r

pub returns-in-Ok-clause-some : goal.returns-in-Ok-clause-some
returns-in-Ok-clause-some c =
    let floor = c.args.self.now.description in
    let q : ℕ × ℕ = (c.args.l.0, c.args.key) in
    let i = c.in-Ok.i in
    let told = ap (λ (f : Floor Description). f.description) c.self.view_is in
    let keys = c.as_slice.ensures ∙ ap (λ (d : Description). d.keys) (c.self.invariant.kept ∙ told) in
    let at = subst (λ ks. Answers q ks (Ok i)) keys (c.in-Ok.ensures.bound, c.in-Ok.ensures.position) in
    let parts = c.as_slice-in-Ok.ensures ∙ ap (λ (d : Description). d.threads) (c.self.invariant.kept ∙ told) in
    let sized = subst IsSized told c.self.invariant.sized in
    let named = named_at floor sized c.args.l.0 c.args.key i at.0 at.1 in
    record {
      named = named;
      its_lock = refl;
      its_key = refl;
      place =
          searched floor sized c.args.l.0 c.args.key (Ok i) named at.0 at.1
          ∙ ap (λ n. Some (n + i)) (sym (ap length parts));
    }

pub returns-in-Err-clause-none : goal.returns-in-Err-clause-none
returns-in-Err-clause-none c named =
    let floor = c.args.self.now.description in
    let q : ℕ × ℕ = (c.args.l.0, c.args.key) in
    let told = ap (λ (f : Floor Description). f.description) c.self.view_is in
    let keys = c.as_slice.ensures ∙ ap (λ (d : Description). d.keys) (c.self.invariant.kept ∙ told) in
    let at = subst (λ ks. Answers q ks (Err c.in-Err.field-0)) keys (c.in-Err.ensures.bound, c.in-Err.ensures.position)
    in
    let sized = subst IsSized told c.self.invariant.sized in
    searched floor sized c.args.l.0 c.args.key (Err c.in-Err.field-0) named at.0 at.1
