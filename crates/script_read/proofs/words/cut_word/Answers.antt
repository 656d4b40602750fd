use Rattle.std.proofs.Common.{◌∙◌, ap}
use Rattle.lock_model.specs.Script.Lines.{words_of}
use Rattle.script_read.proofs.Cuts.{words-cut, words-last}
use Rattle.script_read.proofs.words.cut_word.Goals as goal

pub returns-in-Some : goal.returns-in-Some
returns-in-Some c = ap words_of c.in-Some.ensures.cut
    ∙ words-cut c.in-Some.word.now c.in-Some.rest.now c.in-Some.ensures.first

pub returns-in-None : goal.returns-in-None
returns-in-None c = words-last c.args.text.now c.in-None.ensures.none
