-- How a thread counts itself out before it parks, another in before it wakes it, and itself in where its counting out
-- left nobody awake.
use Rattle.std.specs.Prelude.{ℕ, suc, ◌∷◌, Some}
use Rattle.lock_state.specs.State.{Halting}
use Rattle.lock_state.specs.Steps.{Step, CountsOut, CountsIn, CountsSelfIn}
use Rattle.lock_state.specs.Steps.Counting.{phase_out}
use Rattle.floor_table.specs.Shares.{Doing}
use Rattle.floor_table.specs.Views.{Knowledge}
use Rattle.lock_floor.specs.declared.counts.Count.{Count}
use Rattle.lock_floor.specs.declared.counts.Count.TheVariants.{Out, In, SelfIn}

-- the step by which a thread counts so
abbrev pub counts_by : Count → ℕ → Step
counts_by Out t = CountsOut t
counts_by (In u) t = CountsIn t u.0
counts_by SelfIn t = CountsSelfIn t

-- what it adds to the awake word, of 64 bits: 1, or the number that takes 1 off
abbrev pub added_by : Count → ℕ
added_by Out = 18446744073709551615
added_by (In u) = 1
added_by SelfIn = 1

-- after a thread counted another in, once more
abbrev pub counted_in_more : ℕ → Knowledge → Knowledge
counted_in_more u v =
    record v { share = record v.share { counted_in = u ∷ v.share.counted_in } }

-- and that one's mark is to come
abbrev pub counted_first : ℕ → Knowledge → Knowledge
counted_first u v =
    let after : Doing = record v.share.doing { counting = Some u } in
    record v { share = record v.share { doing = after; counted_in = u ∷ v.share.counted_in } }

-- After it, where the awake word said that many before. Who counts itself out is parked, and is the last where it found
-- itself alone; who counts another in has its mark to come; and who counts itself in is at halting others
abbrev pub counted : Count → ℕ → Knowledge → Knowledge
counted Out found v =
    let x : Doing = v.share.doing in
    let after : Doing = record x { counted_out = suc x.counted_out; phase = phase_out found } in
    record v { share = record v.share { doing = after } }
counted (In u) found v = counted_first u.0 v
counted SelfIn found v =
    let after : Doing = record v.share.doing { phase = Halting } in
    record v {
      share = record v.share { doing = after; counted_in = v.thread ∷ v.share.counted_in };
    }
