-- What a hop of a lending walk asks for and what it makes of a turnstile and of its owner's loans.
use Rattle.std.specs.Prelude.{ℕ, Bool, true, false, if◌then◌else◌, List, ◌∷◌, Option, None, Some, option_map}
use Rattle.turnstile_core.specs.Seen.{Contents, Turnstile, Terms}
use Rattle.turnstile_core.specs.Changes.{best}
use Rattle.thread_records.specs.Loans.{has_loan, loan_for, with_prio}
use Rattle.prio_lending.specs.declared.walk.Walk.{Walk}
use Rattle.prio_lending.specs.declared.walk.Walk.TheVariants.{None as Ended, AtLock, AtThread}

-- what those who wait lend for a lock: the best priority that a turnstile keeps, carried by its own node
abbrev pub loan_by : ℕ → Contents → Option Terms
loan_by l c = option_map (λ p. record { number = c.number; lock = l; prio = p }) (best c)

-- an owner's loans with this one, if there is one: where a loan for its lock stands, that one has this priority, and
-- else this one comes first, as the newest
abbrev pub with_lent : Option Terms → List Terms → List Terms
with_lent None ts = ts
with_lent (Some t) ts =
    if has_loan t.lock ts then with_prio t.lock t.prio ts else t ∷ ts

-- the number of the node that carries the loan for a lock, if it stands
abbrev pub carrier_for : ℕ → List Terms → Option ℕ
carrier_for l ts = option_map (λ t. t.number) (loan_for l ts)

-- the number of a turnstile's loan node where it is out
abbrev pub node_out : Contents → Option ℕ
node_out c = if c.own.loan_home then None else Some c.number

-- a turnstile with other contents and the same link
abbrev pub with_contents : Contents → Turnstile → Turnstile
with_contents c h = record h { contents = c }

-- a walk to a thread, or its end
abbrev pub walk_to : ℕ → Bool → Walk
walk_to t true = AtThread (record { 0 = t })
walk_to t false = Ended

-- a walk to a lock, or its end
abbrev pub walk_up : ℕ → Bool → Walk
walk_up l true = AtLock (record { 0 = l })
walk_up l false = Ended
