use Rattle.std.proofs.Common.{◌∙◌, ap, arith, flat_map, map}
use Rattle.std.proofs.lemmas.List.{length-map, take_all}
use Rattle.std.specs.String.{string_bytes}
use Rattle.remarks.specs.Remarks.{shown, shown_line}
use Rattle.remarks.proofs.Shapes.{all_plain, joined}
use Rattle.remarks.proofs.shape.shaped.Goals as goal

pub returns : goal.returns
returns c =
    let few = c.front-few.result.now in
    let lines = map string_bytes few in
    record {
      lines = map shown lines;
      few = omega (arith, length-map lines shown, length-map few string_bytes, c.front-few.ensures);
      plain = all_plain lines;
      whole = c.loop-line.invariant
          ∙ ap (λ ls. flat_map shown_line (map string_bytes ls))
          (take_all c.loop-line.line-index few c.loop-line-test.false)
          ∙ joined lines;
    }
