-- The most of each thing that one script and one run may have, as `limits` of the code has it. They are this project's
-- own.
use Rattle.std.specs.Prelude.{ℕ, ◌-◌, ◌^◌}
use Rattle.lock_model.specs.declared.limits.TheConstants.{THREADS, LOCKS, CHANNELS, CLASSES, HELD, OPEN_TRIES, OPERATIONS, SCHEDULE, LINE_BYTES, NAME_BYTES, SCRIPT_BYTES, TURNS}

abbrev pub most_threads : ℕ
most_threads = THREADS

abbrev pub most_locks : ℕ
most_locks = LOCKS

-- condition variables and channels together
abbrev pub most_channels : ℕ
most_channels = CHANNELS

abbrev pub most_classes : ℕ
most_classes = CLASSES

-- locks that one thread holds at once
abbrev pub most_held : ℕ
most_held = HELD

-- try blocks that one thread has open at once
abbrev pub most_open_tries : ℕ
most_open_tries = OPEN_TRIES

-- operations of all threads
abbrev pub most_operations : ℕ
most_operations = OPERATIONS

-- entries of the schedule
abbrev pub most_scheduled : ℕ
most_scheduled = SCHEDULE

-- bytes of a script
abbrev pub most_bytes : ℕ
most_bytes = SCRIPT_BYTES

-- bytes of a line, without its line end
abbrev pub most_line_bytes : ℕ
most_line_bytes = LINE_BYTES

abbrev pub most_name_bytes : ℕ
most_name_bytes = NAME_BYTES

abbrev pub greatest_priority : ℕ
greatest_priority = 255

-- numbers of a script are below 2 ^ 64
abbrev pub greatest_number : ℕ
greatest_number = 2 ^ 64 - 1

-- a line's number above this one is told as this one
abbrev pub greatest_line : ℕ
greatest_line = 2 ^ 32 - 1

-- turns of a scheduled run
abbrev pub most_turns : ℕ
most_turns = TURNS
