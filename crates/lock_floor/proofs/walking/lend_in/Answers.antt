use Rattle.lock_floor.proofs.Names.{ap, names_turnstile, config_in}
use Rattle.std.proofs.Common.{◌∙◌}
use Rattle.lock_floor.proofs.walking.lend_in.Goals as goal

pub returns : goal.returns
returns c =
    let k = config_in c.args.floor.now in
    let told = c.lend_to_owner.ensures in
    record {
      placed = told.chain;
      queues = λ s t o h lawful g shows. told.queues k s t o h lawful g shows;
      its_record = λ s t o h lawful g shows rec. told.its_record k s t o h lawful g shows rec;
      walk = λ s t o h lawful g shows rec. told.walk k s t o h lawful g shows rec
          (c.is_some-on_turnstile.ensures ∙ c.turnstile_named.ensures.turnstile ∙ ap (names_turnstile k) c.on.ensures);
    }
