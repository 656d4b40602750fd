-- A set of threads, each of which stands in a list once, has as many bits as the list has threads.
use Rattle.std.proofs.Common.{◌≡◌, ℕ, ◌+◌, ◌*◌, ◌/◌, ◌%◌, ◌^◌, ◌<◌, ◌≤◌, Bool, List, [], ◌∷◌, count_ones, length, refl, ap, arith, eq-eqb}
use Rattle.std.proofs.lemmas.Nat.{pow_pos, div-add-mod', ones_cat}
use Rattle.std.proofs.Math.Nat.{mod-lt}
use Rattle.std.proofs.lemmas.Bool.Decides.{nat_tests}
use Rattle.std.specs.Int.Count.{ones, ones_step}
use Rattle.lock_laws.proofs.Bits.{bit_of}
use Rattle.lock_laws.proofs.Dealt.{times-map}
use Rattle.lock_laws.proofs.Derived.{once}
use Rattle.lock_laws.proofs.Sleepers.{best_or_all}
use Rattle.lock_model.specs.Counts.{times, has_bit}
use Rattle.lock_model.specs.Queues.{taken_off}
use Rattle.lock_model.specs.declared.plan.QueueName.{QueueName}
use Rattle.lock_state.specs.Steps.{Step}
use Rattle.lock_state.specs.Steps.LockWords.{bits_of_threads}
use Rattle.floor_table.specs.Descriptions.{config_in}
use Rattle.floor_table.specs.Steps.{Makes}
use Rattle.floor_table.specs.Views.{Knowledge}
use Rattle.floor_table.specs.declared.description.Description.{Description}
use Rattle.cond_vars.specs.Wakes.{threads_woken}

-- an even number has one digit less that is set than the next
next_ones : (n : ℕ) → n % 2 ≡ 0 → ones (n + 1) ≡ ones n + 1
next_ones n even =
    let half : (n + 1) / 2 ≡ n / 2 = omega (arith, even) in
    omega (arith, ones_step n, ones_step (n + 1), ap ones half, even)

-- a digit more
one_more : (u n : ℕ) → n / 2 ^ u % 2 ≡ 0 → ones (2 ^ u + n) ≡ ones n + 1
one_more u n even =
    let q : ℕ = n / 2 ^ u in
    let r : ℕ = n % 2 ^ u in
    let low : r < 2 ^ u = mod-lt n (pow_pos u) in
    let parts : q * 2 ^ u + r ≡ n = div-add-mod' n (2 ^ u) in
    let more : (q + 1) * 2 ^ u + r ≡ 2 ^ u + n = grind (arith, parts) in
    omega (arith, ap ones more, ap ones parts, ones_cat u (q + 1) r low, ones_cat u q r low, next_ones q even)

-- a thread that isn't in the set has no bit there
no_bit : (u : ℕ) (us : List ℕ) → ((j : ℕ) → times j us ≤ 1) → times u us ≡ 0 → bits_of_threads us / 2 ^ u % 2 ≡ 0
unfolding has_bit
no_bit u us single none = grind (arith, nat_tests, bit_of u us single)

counted : (us : List ℕ) → ((j : ℕ) → times j us ≤ 1) → ones (bits_of_threads us) ≡ length us
unfolding count_ones
counted [] single = refl
counted (u ∷ us) single =
    let rest_single : (j : ℕ) → times j us ≤ 1 = λ j. omega (arith, single j) in
    let none : times u us ≡ 0 = grind (arith, single u, eq-eqb u u refl) in
    omega (arith, one_more u (bits_of_threads us) (no_bit u us rest_single none), counted us rest_single)

-- those whom a wake takes off a queue, in a state of a floor
pub bits_counted : (floor : Description) (steps : List Step) (old new : Knowledge) (m : Makes floor steps old new)
    (q : QueueName) (all : Bool)
    → count_ones (bits_of_threads (threads_woken all (m.state.lists q).exclusive))
    ≡ length (threads_woken all (m.state.lists q).exclusive)
bits_counted floor steps old new m q all =
    counted (threads_woken all (m.state.lists q).exclusive)
    (λ j. omega (
      arith,
      times-map j (taken_off all (m.state.lists q).exclusive),
      (best_or_all all (m.state.lists q).exclusive).times j,
      once (config_in floor) m.state j q m.sound.facts.lawful,
    ))
