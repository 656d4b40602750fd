-- What a floor is made for: its threads with their bases and their room for entries, its locks and channels, the keys
-- of the locks' tables, and the number of chains. It speaks of no operations; a plan gives one.
use Rattle.std.specs.Prelude.{◌≡◌, ℕ, ◌*◌, ◌^◌, ◌<◌, ◌≤◌, List, length, map, sum, flat_map, slice_get, option_to_list, unwrap_or}
use Rattle.std.specs.FinMap.{FinMap, from_entries, keys}
use Rattle.std.specs.List.{All}
use Rattle.std.specs.List.Sorted.{IsStrictlySortedBy}
use Rattle.lock_model.specs.Config.{Config}
use Rattle.lock_model.specs.History.{place_cmp}
use Rattle.lock_model.specs.Keys.{place_of}
use Rattle.lock_model.specs.Limits.{most_threads, most_locks, most_classes}
use Rattle.lock_model.specs.declared.plan.Kind.TheVariants.{Mtx}
use Rattle.lock_model.specs.declared.plan.LockDecl.{LockDecl}
use Rattle.lock_model.specs.declared.plan.Op.{Op}
use Rattle.lock_model.specs.declared.plan.Plan.{Plan}
use Rattle.lock_model.specs.declared.plan.ThreadDecl.{ThreadDecl}
use Rattle.floor_table.specs.declared.description.Description.{Description}
use Rattle.floor_table.specs.declared.description.LockPart.{LockPart}
use Rattle.floor_table.specs.declared.description.ThreadPart.{ThreadPart}

-- 1. What it says

-- what it fixes for a run, with a default out of its range
abbrev pub config_in : Description → Config
config_in floor = record {
  threads = length floor.threads;
  locks = length floor.locks;
  chans = length floor.chans;
  kind = λ l. unwrap_or (slice_get (map (λ x. x.kind) floor.locks) l) Mtx;
  class = λ l. unwrap_or (slice_get (map (λ x. x.class.0) floor.locks) l) 0;
  chan_lock = λ c. unwrap_or (slice_get (map (λ l. l.0) floor.chans) c) 0;
  declared_base = λ t. unwrap_or (slice_get (map (λ x. x.base.0) floor.threads) t) 0;
}

-- room for the entries of a thread, and of all threads
abbrev pub room_for : Description → ℕ → ℕ
room_for floor t = unwrap_or (slice_get (map (λ x. x.room) floor.threads) t) 0

abbrev pub room_in_all : List ThreadPart → ℕ
room_in_all threads = sum (map (λ x. x.room) threads)

-- It fits a floor's table, which has a place for each thread, lock and key, and a class graph of so many classes. The
-- keys rise, by lock and then by key, so that each is there once; and there is room for so few entries that each ticket
-- is below 2^32
pub record IsSized (floor : Description) : Type 0 where
  pub threads : length floor.threads ≤ most_threads
  pub locks : length floor.locks ≤ most_locks
  pub classes : All (λ x. x.class.0 < most_classes) floor.locks
  pub keys : length floor.keys < 2 ^ 16
  pub rising : IsStrictlySortedBy place_cmp floor.keys
  pub room : room_in_all floor.threads < 2 ^ 32
  pub some_chains : 1 ≤ floor.chains
  pub few_chains : floor.chains ≤ 64

-- 2. What a plan gives

-- room for the entries of operations: two for each
abbrev pub room_of : List Op → ℕ
room_of ops = 2 * length ops

abbrev pub thread_part : ThreadDecl → ThreadPart
thread_part d = record { base = d.base; room = room_of d.ops }

abbrev pub lock_part : LockDecl → LockPart
lock_part d = record { kind = d.kind; class = d.class }

-- the keys that operations name, one for each that names one
abbrev pub keys_named : List Op → List (ℕ × ℕ)
keys_named ops = flat_map (λ op. option_to_list (place_of op)) ops

-- a key with nothing at it
abbrev pub alone : ℕ × ℕ → (ℕ × ℕ) × Unit {0}
alone place = (place, tt)

-- those that threads' operations name, by lock and then by key, each once
unfoldable pub keys_in : List ThreadDecl → List (ℕ × ℕ)
keys_in threads =
    let named : FinMap place_cmp (Unit {0}) =
    from_entries (map alone (flat_map (λ d. keys_named d.ops) threads)) in
    keys named

-- what a plan gives for a floor with so many chains of each sort
abbrev pub description_of : Plan → ℕ → Description
description_of plan chains = record {
  threads = map thread_part plan.threads;
  locks = map lock_part plan.locks;
  chans = map (λ d. d.lock) plan.chans;
  keys = keys_in plan.threads;
  chains = chains;
}

-- the floor is one for the plan, with some number of chains
abbrev pub IsFor : Plan → Description → Type 0
IsFor plan floor = floor ≡ description_of plan floor.chains
