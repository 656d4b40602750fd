use Rattle.std.proofs.Common.{ap, subst, sym, arith, ◌∙◌}
use Rattle.std.proofs.lemmas.List.Elements.{All-push}
use Rattle.run_chart.specs.Spans.{IsWithin}
use Rattle.run_chart.specs.declared.spans.Span.{Span}
use Rattle.run_chart.proofs.Values.{told_all, told_first, told_other, told_same, values_more}
use Rattle.run_chart.proofs.spans.spans.Goals as goal
use Rattle.run_tracks.specs.Tracks.{value_in, IsTrack}

pub loop-i-init : goal.loop-i-init
loop-i-init g c =
    told_first (goal.F-post g c.args.made) c.changes-changes.result.now c.args.from c.args.to c.count_up_to-up_to.result
    c.count_up_to-i.result c.new-spans.result.items c.get.result.now c.made-value.result c.requires.in_order
    c.count_up_to-up_to.ensures.within c.count_up_to-i.ensures.up_to c.new-spans.ensures.items
    (ap (value_in c.args.from) c.changes-changes.ensures.changes ∙ c.get.ensures) c.made-value.ensures

pub overflow_sub-last : goal.overflow_sub-last
overflow_sub-last g c = let less =
    c.loop-i.invariant.ahead c.loop-i.i c.index-changes-i.result (omega arith) c.loop-i-test.true in omega (arith, less)

pub loop-i-preserved-then-is : goal.loop-i-preserved-then-is
loop-i-preserved-then-is g c =
    told_same (goal.F-post g c.args.made) c.changes-changes.result.now c.args.from c.args.to c.count_up_to-up_to.result
    c.loop-i.i c.loop-i.first c.loop-i.spans.items c.loop-i.value c.made-next.result
    c.index-changes-i-in-loop-i.result c.loop-i-test.true c.count_up_to-up_to.ensures.within c.loop-i.invariant
    c.made-next.ensures (c.is.ensures.0 c.if-is.true)

pub loop-i-preserved : goal.loop-i-preserved
loop-i-preserved g c =
    told_other (goal.F-post g c.args.made) c.changes-changes.result.now c.args.from c.args.to c.count_up_to-up_to.result
    c.loop-i.i c.loop-i.first c.loop-i.spans.items c.push.new.self.items c.loop-i.value c.made-next.result
    c.index-changes-i.result c.index-changes-i-in-loop-i.result c.loop-i-test.true
    (subst IsTrack (sym c.changes-changes.ensures.changes) c.changes-changes.ensures.track)
    c.count_up_to-up_to.ensures.up_to c.count_up_to-up_to.ensures.within c.loop-i.invariant c.made-next.ensures
    c.in_ok-push.ensures.items

pub returns : goal.returns
returns g c =
    let from = c.args.from in
    let to = c.args.to in
    let h = c.loop-i.invariant in
    let ss = c.loop-i.spans.items in
    let s : Span g.row.U.Denot = record { first = c.loop-i.first; last = to; value = c.loop-i.value } in
    rw c.in_ok-push-2.ensures.items (record {
      within = All-push (IsWithin from to) ss s h.within
          (record { begins = h.begins; goes_on = h.ends; ends = omega arith });
      values = λ is makes n a b. values_more n ss s b
          ∙ told_all (goal.F-post g c.args.made) c.changes-changes.result.now from to c.count_up_to-up_to.result
          c.loop-i.i c.loop-i.first ss c.loop-i.value c.args.track.now is n c.loop-i-test.false
          c.count_up_to-up_to.ensures.up_to h c.changes-changes.ensures.changes makes a b;
    })
