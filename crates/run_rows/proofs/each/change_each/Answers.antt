use Rattle.std.proofs.Common.{◌<◌, ◌∙◌, ℕ, length, get_or, refl, sym, ap, arith}
use Rattle.std.proofs.lemmas.Option.{slice_get_read}
use Rattle.run_rows.proofs.Noting.{all_changed, none_changed, one_changed}
use Rattle.run_rows.proofs.each.change_each.Goals as goal

pub loop-i-init : goal.loop-i-init
loop-i-init g c = none_changed _ c.args.all.now.items

pub loop-i-preserved : goal.loop-i-preserved
loop-i-preserved g c =
    let h = c.loop-i.invariant in
    let all = c.loop-i.all.items in
    let i = c.loop-i.i in
    let x = c.index_mut.result.now in
    let within : i < length all = omega (arith, h.number) in
    let read = slice_get_read all (length all) i x refl within
    (c.index_mut.ensures.value ∙ ap (λ (k : ℕ). get_or all k x) c.from.ensures) in
    one_changed _ c.args.all.now.items all i c.from.result x c.change.new.arg3 c.from.ensures read h
    (c.index_mut.result, _, sym (h.left i (omega arith)) ∙ read, refl, c.in_ok-change.ensures)

pub returns-clause-each : goal.returns-clause-each
returns-clause-each g c = all_changed _ c.args.all.now.items c.loop-i.all.items c.loop-i.i
    (let n = c.loop-i.invariant.number in omega arith) c.loop-i.invariant
