-- The most of each thing that one script of ticks may have, as `limits` of the code has it. They are this project's
-- own.
use Rattle.std.specs.Prelude.{ℕ}
use Rattle.tick_sleep.specs.declared.limits.TheConstants.{SLEEPERS, EVENTS, GREATEST_KEY, SLEEP_TICKS, TICKS, BUCKETS}

abbrev pub most_sleepers : ℕ
most_sleepers = SLEEPERS

abbrev pub most_events : ℕ
most_events = EVENTS

abbrev pub greatest_key : ℕ
greatest_key = GREATEST_KEY

-- ticks of one sleep
abbrev pub most_sleep_ticks : ℕ
most_sleep_ticks = SLEEP_TICKS

-- ticks of one line
abbrev pub most_ticks : ℕ
most_ticks = TICKS

-- ticks of a round of the wheel, which has a bucket for each
abbrev pub round : ℕ
round = BUCKETS
