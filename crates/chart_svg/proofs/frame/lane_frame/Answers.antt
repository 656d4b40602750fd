use Rattle.std.proofs.Common.{◌+◌, ◌∙◌, ap, codes}
use Rattle.chart_svg.proofs.Standing.{before, behind, last}
use Rattle.chart_svg.specs.Drawn.{pixels, words_bytes}
use Rattle.chart_svg.proofs.frame.lane_frame.Goals as goal

pub returns : goal.returns
returns c = λ picture on.
    let above = before picture _ _ _ c.in_ok-add_all.ensures on in
    record {
      name = last _ _ _ _ _ c.in_ok-add.ensures (c.in_ok-words.ensures
          ∙ ap (λ y. words_bytes (codes "name") 24 y c.thread_name-name.result.now)
          (c.plus.ensures ∙ ap (λ y. pixels (y + 4)) c.line.ensures)
          ∙ ap (words_bytes (codes "name") 24 _) c.thread_name-name.ensures)
          (before _ _ _ _ c.in_ok-add_some.ensures above);
      prio = c.in_ok-priority.ensures picture (behind _ _ _ _ c.in_ok-add_some.ensures above);
      stop = c.in_ok-own_line.ensures picture (behind _ _ _ _ c.in_ok-add_all.ensures on);
    }
