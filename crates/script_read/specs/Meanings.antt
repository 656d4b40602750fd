-- What each code of a fault means, in one sentence that is said of the line.
use Rattle.std.specs.Prelude.{ℕ, ◌==◌, if◌then◌else◌, List, Option, Some, None, codes}

unfoldable pub meaning : ℕ → Option (List ℕ)
meaning code = if code == 1 then Some (codes
    "the first line isn't `lockrun 1`, or `ticks 1` under `ticks`")
    else (if code == 2 then Some (codes
    "it has an empty word, an unknown first word or a wrong number of words, or stands behind `done`")
    else (if code == 3 then Some (codes "it has a name or a class that isn't a NAME")
    else (if code == 4 then Some (codes "it declares a name that is declared already")
    else (if code == 5 then Some (codes
    "it uses a name that isn't declared, or is declared as another sort")
    else (if code == 6 then Some (codes
    "it has a number that isn't a KEY, VALUE, AMOUNT or TICKS, or a priority that isn't a PRIO")
    else (if code == 7 then Some (codes "it passes a limit of a script")
    else (if code == 8 then Some (codes
    "the lock is of another kind, or a channel is used for a condition or the reverse")
    else (if code == 9 then Some (codes "the lock is held here already")
    else (if code == 10 then Some (codes "the lock is held here in the other mode")
    else (if code == 11 then Some (codes "the lock isn't held here")
    else (if code == 12 then Some (codes
    "a mutex or an rw lock is held here under which it may not stand")
    else (if code == 13 then Some (codes
    "the wait's lock wasn't gained last, or was gained by a try")
    else (if code == 14 then Some (codes
    "the thread ends with a lock held, or the block with other locks than it began with")
    else (if code == 15 then Some (codes
    "it stands outside a thread, or is an `endtry` with no block open")
    else (if code == 16 then Some (codes
    "it declares a lock, condition or channel behind a thread, or a sleeper behind events")
    else (if code == 17 then Some (codes
    "it stands inside a thread or an open block, or the source ends without `done`")
    else (if code == 18 then Some (codes "it is longer than 200 bytes")
    else (if code == 19 then Some (codes "it holds a byte outside 32 to 126")
    else (if code == 20 then Some (codes "the lock is held shared, so its table may not be changed")
    else None)))))))))))))))))))
