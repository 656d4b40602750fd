use Rattle.std.proofs.Common.{codes, false, true}
use Rattle.lock_model.specs.Script.Lines.{lines_of}
use Rattle.complaints.specs.Complaints.{each_told, verb_first}
use Rattle.complaints.proofs.Appends.{three}
use Rattle.complaints.proofs.sentence.push_stuck.Goals as goal

pub returns : goal.returns
returns c =
    let text = c.args.text.now in
    three c.args.out.now.items (codes "stuck") (each_told false text (lines_of text) (codes ": ") (verb_first false))
    (each_told true text (lines_of text) (codes ": ") (verb_first true))
    c.in_ok-extend_from_slice.ensures.items c.in_ok-push_each.ensures c.in_ok-push_each-2.ensures
