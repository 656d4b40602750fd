-- What a thread that takes or releases a lock does with the word that it saw.
use Rattle.std.specs.Prelude.{ℕ, if◌then◌else◌}
use Rattle.lock_model.specs.Words.{Word, word_of, admits, is_plain, is_drop}
use Rattle.lock_model.specs.declared.plan.Kind.{Kind}
use Rattle.lock_model.specs.declared.plan.Mode.{Mode}
use Rattle.lock_model.specs.declared.plan.Mode.TheVariants.{Excl, Shared}
use Rattle.lock_floor.specs.declared.calls.ReleaseAt.{ReleaseAt}
use Rattle.lock_floor.specs.declared.calls.ReleaseAt.TheVariants as places
use Rattle.lock_floor.specs.declared.calls.ReleaseAt.TheVariants.{ComesTo}
use Rattle.lock_calls.specs.declared.courses.Course.{Course}
use Rattle.lock_calls.specs.declared.courses.Course.TheVariants.{Plainly, ByClaim, MustWait}

-- where the word admits the mode, the thread gains the lock: plainly, or else by a claim; and else it must wait
abbrev pub course : Kind → Word → Mode → Course
course kind w mode =
    if admits kind w mode then (if is_plain kind w mode then Plainly else ByClaim) else MustWait

-- Where a release stands that saw that word outside the section of the lock's chain. Where the word allows that, since
-- another holder stays or nobody waits, it drops the lock from it; else it goes to the lock's chain
abbrev pub by_word : ℕ → ReleaseAt
by_word seen = if is_drop (word_of seen) then places.Drops seen else ComesTo

-- Where a release stands whose exchange there missed, and found that word. Who holds the lock shared may drop it still;
-- else it goes to the lock's chain
abbrev pub outside : Mode → ℕ → ReleaseAt
outside Excl found = ComesTo
outside Shared found = by_word found
