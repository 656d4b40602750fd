use Rattle.lock_calls.proofs.Names.{option_map, sym, ap, word_of, owner_of, ThreadNo, refused_held, NoWalk, AtLock}
use Rattle.lock_calls.proofs.Names.{config_in}
use Rattle.std.proofs.Common.{◌∙◌}
use Rattle.lock_calls.proofs.Chosen.{must_wait}
use Rattle.lock_calls.proofs.Sections.{as_both}
use Rattle.lock_calls.proofs.There.{may_look_in_section, may_enter_in_section, stood_there, missed_there, owned_walk, ownerless_walk}
use Rattle.lock_calls.proofs.blocking.stand_there.Goals as goal

pub enter-requires-clause-lock : goal.enter-requires-clause-lock
enter-requires-clause-lock c = c.requires.covered.lock

pub enter-requires-clause-word : goal.enter-requires-clause-word
enter-requires-clause-word c = c.requires.seen_so.formed

pub enter-requires-clause-held : goal.enter-requires-clause-held
enter-requires-clause-held c =
    refused_held ((config_in c.args.floor.now.description).kind c.args.l.0) (word_of c.args.seen) c.args.mode
    c.requires.covered.mutex
    (must_wait ((config_in c.args.floor.now.description).kind c.args.l.0) (word_of c.args.seen) c.args.mode
    c.requires.course)

pub owner_of-requires : goal.owner_of-requires
owner_of-requires c = c.requires.seen_so.formed

pub enter-requires-clause-out : goal.enter-requires-clause-out
enter-requires-clause-out c =
    let m = c.requires.there in
    let both = as_both c.args.floor.now.description c.args.l.0 c.requires.turnstile c.args.pass.now.view m.both in (
      m.turnstile,
      both.box,
      both.chain,
      both.out,
      m.lent,
      may_enter_in_section c.args.floor.now.description c.args.l.0 c.args.mode c.args.pass.now.view c.requires.covered m
          c.requires.calling c.requires.turnstile c.args.seen c.requires.saw
          (refused_held ((config_in c.args.floor.now.description).kind c.args.l.0) (word_of c.args.seen) c.args.mode
          c.requires.covered.mutex
          (must_wait ((config_in c.args.floor.now.description).kind c.args.l.0) (word_of c.args.seen) c.args.mode
          c.requires.course))
          (must_wait ((config_in c.args.floor.now.description).kind c.args.l.0) (word_of c.args.seen) c.args.mode
          c.requires.course),
    )

pub enter-requires-clause-may_look : goal.enter-requires-clause-may_look
enter-requires-clause-may_look c =
    may_look_in_section c.args.floor.now.description c.args.l.0 c.args.mode c.args.pass.now.view c.requires.covered
    c.requires.there c.requires.calling

pub returns-in-Some-clause-entered : goal.returns-in-Some-clause-entered
returns-in-Some-clause-entered c =
    let s = c.in-Ok.ensures.step in
    let owner = owner_of (word_of c.args.seen).holder in
    stood_there c.args.floor.now.description c.args.l.0 c.args.mode (AtLock c.args.l.0) c.args.pass.now.view
    c.enter.new.pass.view c.requires.turnstile s.0 s.1 s.2 owner
    (owned_walk c.args.l.0 c.in-Some.field-0.0 owner
    (sym c.owner_of.ensures ∙ ap (option_map (λ (t : ThreadNo). t.0)) c.in-Some.is))
    s.5 s.6

pub returns-in-None-clause-entered : goal.returns-in-None-clause-entered
returns-in-None-clause-entered c =
    let s = c.in-Ok.ensures.step in
    let owner = owner_of (word_of c.args.seen).holder in
    stood_there c.args.floor.now.description c.args.l.0 c.args.mode NoWalk c.args.pass.now.view
    c.enter.new.pass.view c.requires.turnstile s.0 s.1 s.2 owner
    (ownerless_walk c.args.l.0 owner (sym c.owner_of.ensures ∙ ap (option_map (λ (t : ThreadNo). t.0)) c.in-None.is))
    s.5 s.6

pub returns-in-Err-clause-missed : goal.returns-in-Err-clause-missed
returns-in-Err-clause-missed c =
    missed_there c.args.floor.now.description c.args.l.0 c.args.mode c.args.pass.now.view c.requires.covered
    c.requires.there c.args.seen c.in-Err.found c.enter.new.pass.view c.in-Err.ensures.found.0
    c.in-Err.ensures.looked c.in-Err.ensures.look
