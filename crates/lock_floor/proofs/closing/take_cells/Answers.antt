use Rattle.lock_floor.proofs.Names.{false, get_or, refl, sym, ap, subst, arith, get, get-empty, Contains, slots_filled}
use Rattle.lock_floor.proofs.Names.{get_or_default, Contains-get_or, place_cmp}
use Rattle.std.proofs.Common.{◌+◌, ◌<◌, ◌∙◌}
use mathlib.Core.Option.{some, some-injective}
use lib.ListN.{get_elem?}
use Rattle.lock_floor.proofs.Emptying.{still_full, still_empty, same_value, shows_more}
use Rattle.lock_floor.proofs.closing.take_cells.Goals as goal

pub loop-i-init : goal.loop-i-init
loop-i-init c = record {
  values = λ column is l key. ap (λ m. get m (l, key)) c.requires.none ∙ get-empty place_cmp (l, key);
  room = refl;
  items = refl;
  places = refl;
  taken = λ k low. c.requires.taken k (omega (arith, low));
  left = λ k past low. c.requires.left k (omega (arith, past)) low;
}

pub put-requires : goal.put-requires
put-requires c =
    let keys = c.args.keys.now in
    let i = c.loop-i.i in
    record {
      room = subst (λ ps. Contains ps (get_or keys i (0, 0))) (sym c.loop-i.invariant.room)
          (c.requires.room _ _ (Contains-get_or keys i (0, 0) c.loop-i-test.true));
    }

pub cell_from-value-requires : goal.cell_from-value-requires
cell_from-value-requires c =
    let i = c.loop-i.i in
    let known = c.requires.cells i c.loop-i-test.true in (
      known.0,
      some-injective _ _
          (sym c.take.ensures.value ∙ ap (λ xs. get_elem? xs (c.args.threads + i)) c.loop-i.invariant.items ∙ known.1),
    )

pub loop-i-preserved : goal.loop-i-preserved
loop-i-preserved c =
    let t = c.args.threads + c.loop-i.i in
    let i = c.loop-i.invariant in
    let others = c.take.ensures.others in
    let flags = slots_filled c.loop-i.closed.slots in
    let keys = c.args.keys.now in
    let cell = get_or keys c.loop-i.i (0, 0) in
    let low = c.loop-i-test.true in
    record {
      values = λ column is.
          let here = same_value (column cell.0 cell.1) c.cell_from-value.result
          (sym (is c.loop-i.i (0, 0) low) ∙ ap (λ xs. get_elem? xs t) (sym i.items) ∙ c.take.ensures.value
          ∙ ap some c.cell_from-value.ensures) in
          shows_more keys c.loop-i.i column c.loop-i.tables.present low (i.values column is) cell
          (get_or_default keys c.loop-i.i (0, 0) cell low) c.cell_from-value.result c.put.new.tables.present here
          c.put.ensures.some c.put.ensures.none;
      room = c.put.ensures.places ∙ i.room;
      items = others.0 ∙ i.items;
      places = others.2 ∙ i.places;
      taken = λ k below. ap (λ fs. get_or fs k false) others.1 ∙ still_empty flags t k (omega (arith, below)) i.taken;
      left = λ k past below. ap (λ fs. get_or fs k false) others.1 ∙ still_full flags t k (omega (arith, past))
          ∙ i.left k (omega (arith, past)) (subst (λ n. k < n) others.2 below);
    }
