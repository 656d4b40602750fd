-- What a chart says of a turn, and of the end of the run.
use Rattle.std.specs.Prelude.{ℕ, Bool, ◌==◌, if◌then◌else◌, List, [], ◌∷◌, ◌++◌, length, codes, Option, Some, None, decimal}
use Rattle.lock_model.specs.Text.{thread_name, lock_name, chan_name}
use Rattle.lock_model.specs.declared.numbers.Prio.{Prio}
use Rattle.lock_model.specs.declared.numbers.ThreadNo.{ThreadNo}
use Rattle.lock_model.specs.declared.plan.Plan.{Plan}
use Rattle.lock_model.specs.declared.plan.QueueName.{QueueName}
use Rattle.chart_layout.specs.declared.sentence.End.{End}
use Rattle.chart_layout.specs.declared.sentence.End.TheVariants as end
use Rattle.chart_layout.specs.declared.sentence.Saying.{Saying}
use Rattle.chart_layout.specs.declared.sentence.Saying.TheVariants.{Waits, Lends, Sorts, Claims, Frees, Sleeps, Wakes, Refused}
use Rattle.chart_layout.specs.declared.sentence.Sentence.{Sentence}
use Rattle.chart_words.specs.Words.{queue_words, refusal_words, thread_names}

-- 1. What is said of a thread's turn, behind its name

-- from which priority to which, with an arrow in UTF-8 between: ` (200 → 10)`
unfoldable pub change_words : Prio → Prio → List ℕ
change_words before prio =
    codes " (" ++ decimal before.0 ++ 32 ∷ 226 ∷ 134 ∷ 146 ∷ 32 ∷ decimal prio.0 ++ codes ")"

-- who holds a lock that it waits for; where readers do, a writer came first
unfoldable pub holders_words : Plan → List ThreadNo → Option ThreadNo → List ℕ
holders_words plan holders None = codes ", held by " ++ thread_names plan holders
holders_words plan holders (Some writer) =
    codes ": " ++ thread_names plan holders
    ++ (if length holders == 1 then codes " reads" else codes " read") ++ codes " it, but "
    ++ thread_name plan writer.0 ++ codes " came first"

-- whether the walk goes on behind a loan
unfoldable pub walk_words : Bool → List ℕ
walk_words goes_on = if goes_on then codes ", and the walk goes on" else []

-- that those who wait lend to the new owner of their turnstile
unfoldable pub claim_words : Prio → Prio → List ℕ
claim_words before prio =
    if before.0 == prio.0
    then codes " while others wait, who lend it nothing better"
    else codes " while others wait, who lend to it" ++ change_words before prio

-- that a loan is given back, where there was one
unfoldable pub given_back_words : Prio → Prio → List ℕ
given_back_words before prio =
    if before.0 == prio.0 then [] else codes ", gives the loan back" ++ change_words before prio

-- whom it will wake
unfoldable pub to_wake_words : Plan → List ThreadNo → List ℕ
to_wake_words plan takes_off = codes ", to wake " ++ thread_names plan takes_off

-- whom it will wake from their sleep, or that nobody sleeps
unfoldable pub heard_words : Plan → List ThreadNo → List ℕ
heard_words plan [] = codes ", and nobody sleeps there"
heard_words plan (t ∷ ts) = to_wake_words plan (t ∷ ts)

-- what is said of a turn
unfoldable pub saying_words : Plan → Saying → List ℕ
saying_words plan (Waits l holders behind) =
    codes " waits for " ++ lock_name plan l.0 ++ holders_words plan holders behind
saying_words plan (Lends to l before prio goes_on) =
    codes " lends " ++ decimal prio.0 ++ codes " to " ++ thread_name plan to.0
    ++ codes ", the owner of " ++ lock_name plan l.0 ++ change_words before prio
    ++ walk_words goes_on
saying_words plan (Sorts other l) =
    codes " sorts " ++ thread_name plan other.0 ++ codes " anew among the waiters of "
    ++ lock_name plan l.0
saying_words plan (Claims l before prio) =
    codes " takes " ++ lock_name plan l.0 ++ claim_words before prio
saying_words plan (Frees l before prio takes_off) =
    codes " frees " ++ lock_name plan l.0 ++ given_back_words before prio
    ++ to_wake_words plan takes_off
saying_words plan (Sleeps c l) =
    codes " sleeps on " ++ chan_name plan c.0 ++ codes " and gives " ++ lock_name plan l.0
    ++ codes " up"
saying_words plan (Wakes c takes_off) =
    codes " signals " ++ chan_name plan c.0 ++ heard_words plan takes_off
saying_words plan (Refused l class held) =
    codes " may not take " ++ lock_name plan l.0 ++ refusal_words plan l class held

-- 2. Sentences: a thread's name, and what is said of its turn

unfoldable pub sentence_words : Plan → Sentence → List ℕ
sentence_words plan sentence =
    thread_name plan sentence.thread.0 ++ saying_words plan sentence.saying

-- 3. The end

-- how the run ended, in a few words
unfoldable pub headline : End → List ℕ
headline end.Done = codes "all threads came to their end"
headline (end.Stuck waits) = codes "STUCK: nobody can run any more"
headline end.Reversed = codes "a lock order was refused"
headline end.TooLong = codes "the turns were used up"

-- threads and what each waits for, the first behind a sign and the others behind commas:
-- `: low waits for bus, high waits for data`
abbrev pub waits_behind : Plan → List ℕ → List (ThreadNo × QueueName) → List ℕ
waits_behind plan sign [] = []
waits_behind plan sign (wait ∷ waits) =
    sign ++ thread_name plan wait.0.0 ++ 32 ∷ queue_words plan wait.1
    ++ waits_behind plan (codes ", ") waits

-- what is said of the end
unfoldable pub end_words : Plan → End → List ℕ
end_words plan end.Done = codes "all threads came to their end"
end_words plan (end.Stuck waits) = codes "stuck" ++ waits_behind plan (codes ": ") waits
end_words plan end.Reversed =
    codes "all threads came to their end, but a lock order was refused"
end_words plan end.TooLong =
    codes "the turns were used up before all threads came to their end"
