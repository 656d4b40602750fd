-- Which descriptions a floor can be opened for, and why not for others.
use Rattle.std.specs.Prelude.{◌≢◌, ℕ, ◌+◌, ◌^◌, ◌<◌, ◌≤◌, List, [], ◌∷◌, length, slice_index_or}
use Rattle.std.specs.List.{Any}
use Rattle.std.specs.declared.cmp.Ordering.TheVariants.{Less}
use Rattle.floor_table.specs.Descriptions.{room_in_all}
use Rattle.floor_table.specs.declared.description.Description.{Description}
use Rattle.lock_model.specs.History.{place_cmp}
use Rattle.lock_model.specs.Limits.{most_threads, most_locks, most_channels, most_classes}
use Rattle.floor_calls.specs.declared.unfit.Unfit.{Unfit}
use Rattle.floor_calls.specs.declared.unfit.Unfit.TheVariants.{ManyThreads, ManyLocks, ManyChannels, HighClass, ManyKeys, UnsortedKeys, MuchRoom, NotOneChain}

-- some key doesn't come behind the one before it, by lock and then by key
abbrev pub IsUnsorted : List (ℕ × ℕ) → Type 0
IsUnsorted keys =
    (k : ℕ) × (k + 1 < length keys) × ((d : ℕ × ℕ)
    → place_cmp (slice_index_or keys k d) (slice_index_or keys (k + 1) d) ≢ Less)

-- what each reason says of a description
abbrev pub Spoils : Unfit → Description → Type 0
Spoils ManyThreads d = most_threads < length d.threads
Spoils ManyLocks d = most_locks < length d.locks
Spoils ManyChannels d = most_channels < length d.chans
Spoils HighClass d = Any (λ x. most_classes ≤ x.class.0) d.locks
Spoils ManyKeys d = 2 ^ 16 ≤ length d.keys
Spoils UnsortedKeys d = IsUnsorted d.keys
Spoils MuchRoom d = 2 ^ 32 ≤ room_in_all d.threads
Spoils NotOneChain d = d.chains ≢ 1

-- all that may stand against a description, in the order in which it is tested
abbrev pub all_unfit : List Unfit
all_unfit =
    ManyThreads ∷ ManyLocks ∷ ManyChannels ∷ HighClass ∷ ManyKeys ∷ UnsortedKeys ∷ MuchRoom
    ∷ NotOneChain ∷ []
