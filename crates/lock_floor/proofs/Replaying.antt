-- An entry takes the next ticket, and a lock's table is what the entries before it leave.
use Rattle.lock_floor.proofs.Names
use Names.{ℕ, Option, Some, [], length, refl, sym, ap, inl, inr, cases_eq, tables, put_same, put_at_same, put_at_other}
use Names.{put_at_beside, Config, value_at, Event, Got, LockNo, NextIsNew, State, put_at, Stamps, after_stamp, entry_of}
use Names.{table_after, config_in, Description, ShareColumns, Makes, Knowledge, sound_kept, Change, Set, Add, event_of}
use Names.{cell_after, entry_by, arith}
use Rattle.std.proofs.Common.{◌≡◌, ◌≢◌, ◌∷◌, ◌∙◌}
use Rattle.lock_model.specs.History.{added}

module _ (floor : Description) (e : Event) (old new : Knowledge)
    (m : Makes floor (Stamps old.thread e ∷ []) old new) where
  abbrev c : Config
  c = config_in floor

  abbrev s : State
  s = m.state

  abbrev n : State
  n = after_stamp c s old.thread e

  ticket : s.next ≡ length s.history
  unfolding NextIsNew
  ticket = m.sound.facts.lawful.books.next_is_new

  pub next_entry : n.history ≡ entry_by old.thread (length s.history) e ∷ s.history
  unfolding after_stamp
  next_entry = ap (λ k. entry_by old.thread k e ∷ s.history) ticket

  own_log : old.share.log ≡ s.log old.thread
  own_log = grind arith

  pub next_of_own : new.share.log ≡ entry_by old.thread (length s.history) e ∷ old.share.log
  unfolding after_stamp
  next_of_own =
      ap (λ (k : Knowledge). k.share.log) (sym m.is)
      ∙ ap (λ (x : ShareColumns). x.log)
      (m.represents_behind.seats.thread old.thread
      (ap (λ (k : Knowledge). k.role) m.is ∙ m.role_behind)).share.columns
      ∙ put_same s.log old.thread (entry_of s old.thread e ∷ s.log old.thread)
      ∙ ap (λ k. entry_by old.thread k e ∷ s.log old.thread) ticket
      ∙ ap (λ es. entry_by old.thread (length s.history) e ∷ es) (sym own_log)

  pub replayed : (l k : ℕ) → s.table l k ≡ value_at s.history l k
  replayed l k = tables c s l k m.sound.facts.lawful

  pub replayed_behind : (l k : ℕ) → n.table l k ≡ value_at n.history l k
  replayed_behind l k =
      let behind = sound_kept floor s (Stamps old.thread e ∷ []) m.may m.sound in
      tables c n l k behind.facts.lawful

pub found_is : (floor : Description) (l : LockNo) (key : ℕ) (found : Option ℕ) (old new : Knowledge)
    (m : Makes floor (Stamps old.thread (Got l key found) ∷ []) old new) → found ≡ value_at m.state.history l.0 key
found_is floor l key found old new m = m.may.0.fits.may.asks.1 ∙ replayed floor (Got l key found) old new m l.0 key

-- a change of a key changes that key alone
pub tables_changed : (c : Config) (s : State) (t : ℕ) (l : LockNo) (key : ℕ) (change : Change)
    → (after_stamp c s t (event_of l key change)).table ≡ table_after (event_of l key change) s.table
unfolding after_stamp
tables_changed c s t l key change = refl

pub key_changed : (f : ℕ → ℕ → Option ℕ) (l : LockNo) (key : ℕ) (change : Change)
    → table_after (event_of l key change) f l.0 key ≡ cell_after (event_of l key change) (f l.0 key)
key_changed f l key (Set value) = put_at_same f l.0 key (Some value)
key_changed f l key (Add amount) = put_at_same f l.0 key (Some (added (f l.0 key) amount))

beside : (f : ℕ → ℕ → Option ℕ) (l key : ℕ) (v : Option ℕ) (k other : ℕ) → (k ≡ l → other ≢ key)
    → put_at f l key v k other ≡ f k other
beside f l key v k other apart =
    elim (cases_eq l k) [
      | inl e ↦ put_at_beside f l key v k other (λ q. apart (sym e) (sym q))
      | inr ne ↦ put_at_other f l key v k other ne
    ]

pub others_stay : (f : ℕ → ℕ → Option ℕ) (l : LockNo) (key : ℕ) (change : Change) (k other : ℕ)
    → (k ≡ l.0 → other ≢ key) → table_after (event_of l key change) f k other ≡ f k other
others_stay f l key (Set value) k other apart = beside f l.0 key (Some value) k other apart
others_stay f l key (Add amount) k other apart = beside f l.0 key (Some (added (f l.0 key) amount)) k other apart
