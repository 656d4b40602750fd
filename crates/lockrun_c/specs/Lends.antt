-- What a borrow of what a handle's box holds hands back.
use base.Fml.{Fml}
use denote.Ref.{MutBor}
use denote.Follow.{follows}
use Rattle.std.specs.Prelude.{Some}
use Rattle.lockrun_c.specs.contracts.content.Content.{the_row as content_row}
use Rattle.lockrun_c.specs.contracts.held.Held.{the_row as held_row}

-- once the borrow r ends, what b has is a box of the last content that was written through r
abbrev pub held_follows : MutBor held_row.Denot → MutBor content_row.Denot → Fml
held_follows b r =
    follows held_row content_row b.ghost_name r.ghost_name
    (λ w. record { ptr = b.now.ptr; alloc = b.now.alloc; home = Some w })
