-- How a chain shows the columns of queues when the turnstile at one lock changes.
use Rattle.lock_objects.proofs.Names
use Names.{ℕ, Bool, true, List, Option, Some, None, refl, ap, subst, Config, is_turnstile, lock_queue}
use Names.{is_turnstile_queue, QueueName, Lock, Chan, Turnstile, head_of, without, QueueColumns, RepresentsHead}
use Names.{RepresentsQueue, RepresentsQueues}
use Rattle.std.proofs.Common.{◌≡◌, ◌≢◌, ◌∷◌, ◌∙◌}
use Rattle.lock_objects.proofs.Chains.{all_placed, all_gone}

-- the columns of a queue stay, and that of its head's loan node
pub record SameQueue (qs ns : QueueName → QueueColumns) (homes homes_then : ℕ → Bool) (q : QueueName) : Type 0 where
  pub queue : ns q ≡ qs q
  pub loan_home : (x : ℕ) → (qs q).head ≡ Some x → homes_then x ≡ homes x

pub queue_stays : (o : Option Turnstile) {qs ns : QueueName → QueueColumns} {homes homes_then : ℕ → Bool}
    {q : QueueName} → SameQueue qs ns homes homes_then q → RepresentsQueue o (qs q) homes
    → RepresentsQueue o (ns q) homes_then
queue_stays None e h = ap (λ x. x.head) e.queue ∙ h
queue_stays (Some t) e h = record {
  queue = e.queue ∙ h.queue;
  loan_home = e.loan_home t.contents.number (ap (λ x. x.head) h.queue) ∙ h.loan_home;
}

-- what is found in a chain at a lock
pub found : {c : Config} {chain : List (QueueName × Turnstile)} {qs : QueueName → QueueColumns} {homes : ℕ → Bool}
    {l : ℕ} {d : Turnstile} → RepresentsQueues c chain qs homes → is_turnstile (c.kind l) ≡ true
    → head_of (lock_queue l) chain ≡ Some d → RepresentsHead d.contents (qs (lock_queue l)) homes
found {qs = qs} {homes = homes} {l = l} shows k e =
    subst (λ o. RepresentsQueue o (qs (lock_queue l)) homes) e (shows.lock l k)

pub none_found : {c : Config} {chain : List (QueueName × Turnstile)} {qs : QueueName → QueueColumns} {homes : ℕ → Bool}
    {l : ℕ} → RepresentsQueues c chain qs homes → is_turnstile (c.kind l) ≡ true → head_of (lock_queue l) chain ≡ None
    → (qs (lock_queue l)).head ≡ None
none_found {qs = qs} {homes = homes} {l = l} shows k e =
    subst (λ o. RepresentsQueue o (qs (lock_queue l)) homes) e (shows.lock l k)

-- a queue that has a head has its turnstile in the chain
abbrev pub IsHead : QueueColumns → (ℕ → Bool) → Option Turnstile → Type 0
IsHead x homes o = (d : Turnstile) × (o ≡ Some d) × RepresentsHead d.contents x homes

pub there : (o : Option Turnstile) (x : QueueColumns) (homes : ℕ → Bool) (h : ℕ) → RepresentsQueue o x homes
    → x.head ≡ Some h → IsHead x homes o
there None x homes h shows e = absurd (cc)
there (Some d) x homes h shows e = (d, refl, shows)

module _ {c : Config} {chain : List (QueueName × Turnstile)} {qs ns : QueueName → QueueColumns}
    {homes homes_then : ℕ → Bool} (l : ℕ) (shows : RepresentsQueues c chain qs homes)
    (others : (k : ℕ) → k ≢ l → is_turnstile (c.kind k) ≡ true → SameQueue qs ns homes homes_then (lock_queue k)) where
  abbrev Shown : QueueName → Option Turnstile → Type 0
  Shown r o = is_turnstile_queue c r ≡ true → RepresentsQueue o (ns r) homes_then

  others_shown : (r : QueueName) → r ≢ lock_queue l → Shown r (head_of r chain)
  others_shown (Lock k) d j =
      queue_stays (head_of (Lock k) chain) (others k.0 (λ e. d (ap lock_queue e)) j) (shows.lock k.0 j)
  others_shown (Chan k) d j = absurd cc

  -- a turnstile is put in the place of the one at the lock, or where none was
  pub queues_placed : (h : Turnstile) → RepresentsHead h.contents (ns (lock_queue l)) homes_then
      → RepresentsQueues c ((lock_queue l, h) ∷ without (lock_queue l) chain) ns homes_then
  queues_placed h new =
      record { lock = λ k. all_placed Shown (lock_queue l) chain others_shown h (λ _. new) (lock_queue k) }

  -- the turnstile at the lock is gone
  pub queues_gone : head_of (lock_queue l) (without (lock_queue l) chain) ≡ None → (ns (lock_queue l)).head ≡ None
      → RepresentsQueues c (without (lock_queue l) chain) ns homes_then
  queues_gone absent none =
      record { lock = λ k. all_gone Shown (lock_queue l) chain others_shown absent (λ _. none) (lock_queue k) }
