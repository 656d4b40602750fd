-- What the declaration of a condition variable or channel says of the tests of a wait or a wake.
use Rattle.std.proofs.Common.{◌≡◌, ℕ, nat_lt, List, length, slice_get, map, option_map, arith}
use Rattle.std.specs.Prelude.{is_some}
use Rattle.std.proofs.lemmas.Bool.Decides.{nat_tests}
use Rattle.std.proofs.lemmas.Option.{slice_get-map, slice_get_cases}
use Rattle.lock_model.specs.declared.plan.ChanDecl.{ChanDecl}

pub sort_of : (chans : List ChanDecl) (c : ℕ)
    → slice_get (map (λ d. d.cond) chans) c ≡ option_map (λ d. d.cond) (slice_get chans c)
sort_of chans c = slice_get-map (λ (d : ChanDecl). d.cond) chans c

pub is_declared : (chans : List ChanDecl) (c : ℕ) → nat_lt c (length chans) ≡ is_some (slice_get chans c)
is_declared chans c =
    let place = slice_get_cases chans c in
    grind (arith, nat_tests, place)
