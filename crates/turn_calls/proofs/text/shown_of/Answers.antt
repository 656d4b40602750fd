use Rattle.turn_calls.proofs.text.shown_of.Goals as goal

pub returns : goal.returns
returns c r h = record {
  history = c.in_ok-history.ensures r h;
  queues = c.in_ok-queues.ensures r h;
  finals = c.in_ok-finals.ensures r h;
  ending = c.last_of-last.ensures r h;
}
