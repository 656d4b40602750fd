-- Turnstiles and loans as their callers see them.
use Rattle.std.specs.Prelude.{◌≡◌, ℕ, Bool, true, List, [], ◌∷◌, Option, None, Some}
use Rattle.std.specs.declared.boxed.Box.{Box}
use Rattle.lock_model.specs.declared.plan.QueueName.{QueueName}
use Rattle.lock_model.specs.declared.plan.QueueName.TheVariants.{Lock, Chan}
use Rattle.wait_objects.specs.Seen as object

-- what a turnstile has beside its lists
pub record Lending : Type 0 where
  pub lock : Option ℕ
  pub owner : Option ℕ
  pub loan_home : Bool

-- the lock that a name is of, if it is one's
abbrev pub lock_named : Option QueueName → Option ℕ
lock_named None = None
lock_named (Some (Lock l)) = Some l.0
lock_named (Some (Chan c)) = None

-- a turnstile without its link
abbrev pub Contents : Type 0
Contents = object.Contents Lending

-- a turnstile, with those that its link leads to, in order
abbrev pub Turnstile : Type 0
Turnstile = object.Object Lending

-- no lock and no owner, and the loan node at home
abbrev pub home : Lending
home = record { lock = None; owner = None; loan_home = true }

-- an idle turnstile by its number, with its loan node at home
abbrev pub idle_contents : ℕ → Contents
idle_contents n = object.idle_contents home n

-- the same, with nothing behind it
abbrev pub idle : ℕ → Turnstile
idle n = object.idle_object home n

-- a turnstile has no lock, no waiter, no free turnstile, no owner and nothing behind it. Its loan node may be out
pub record IsIdle (t : Turnstile) : Type 0 where
  pub no_lock : t.contents.own.lock ≡ None
  pub no_exclusive : t.contents.exclusive ≡ []
  pub no_shared : t.contents.shared ≡ []
  pub no_free : t.contents.free ≡ []
  pub no_owner : t.contents.own.owner ≡ None
  pub no_next : t.next ≡ []

-- a loan without its link
pub record Terms : Type 0 where
  pub number : ℕ
  pub lock : ℕ
  pub prio : ℕ

-- a loan, with those that its link leads to, in order
pub record Loan : Type 0 where
  pub terms : Terms
  pub next : List Terms

-- the loans of a link
abbrev pub linked_terms : {Z : Type 0} → Option (Box Loan Z) → List Terms
linked_terms None = []
linked_terms (Some b) = b.value.terms ∷ b.value.next
