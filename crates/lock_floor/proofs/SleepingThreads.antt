-- What holds of sleepers in each state to which steps of a floor's threads lead.
use Rattle.lock_floor.proofs.Names
use Names.{ℕ, Bool, true, false, None, List, [], refl, ap, arith, one, is_asleep, is_named, BySignal, chan_queue}
use Names.{stands, is_signalled, State, Step, Resumes, IsWithChannel, NamedAreWoken, WasAborted, by_chain, config_in}
use Names.{Description, LeadsTo, none, more, IsSound, Makes, Knowledge, sound_begins, sound_kept}
use Rattle.std.proofs.Common.{◌≡◌, ◌⊎◌, ◌≤◌, ◌∷◌}
use Rattle.sleep_laws.proofs.SleepFacts.Found as sleepers

sound_then : (floor : Description) {past : List Step} {s : State} → LeadsTo floor past s → IsSound floor past s
sound_then floor none = sound_begins floor
sound_then floor (more step before allowed) =
    sound_kept floor _ (step ∷ []) (allowed, tt) (sound_then floor before)

module _ (floor : Description) (past : List Step) (s : State) (t d : ℕ) (led : LeadsTo floor past s) where
  abbrev sound : IsSound floor past s
  sound = sound_then floor led

  pub stander_sleeps : 1 ≤ stands t (s.lists (chan_queue d)) → is_asleep s.history d t ≡ true
  stander_sleeps there = sleepers.stander_asleep sound.facts.lawful sound.sleepers t d there

  pub stander_wants_nothing : 1 ≤ stands t (s.lists (chan_queue d)) → s.wanted t ≡ None
  stander_wants_nothing there = sleepers.stander_wants sound.facts.lawful sound.sleepers t d there

  pub sleeper_stands : is_asleep s.history d t ≡ true
      → WasAborted (config_in floor) s t ⊎ IsWithChannel (by_chain floor.chains s) s t d
  sleeper_stands asleep = sleepers.found_or_aborted sound.facts.lawful sound.sleepers t d asleep

is_one : (b : Bool) → 1 ≤ one b → b ≡ true
is_one true some = refl
is_one false some = absurd (omega (arith, some))

pub woken_was_named : (floor : Description) (d : ℕ) (old new : Knowledge)
    (m : Makes floor (Resumes old.thread (chan_queue d) BySignal ∷ []) old new)
    → is_named m.state.history old.thread ≡ true
unfolding NamedAreWoken
woken_was_named floor d old new m =
    let t : ℕ = old.thread in
    let signalled : is_signalled (m.state.wait t) ≡ 1 = ap is_signalled m.may.0.fits.may.woken in
    is_one (is_named m.state.history t) (omega (arith, signalled, m.sound.sleepers.named_are_woken t))
