-- What ties a floor to its table, and a pass and the keeper to what their seats know.
use Rattle.std.specs.Prelude.{◌≡◌, ℕ, ◌<◌, ◌≤◌, Bool, true, [], None, length, map, reverse}
use Rattle.std.specs.FinMap.{empty}
use Rattle.std.specs.Global.{Vec}
use Rattle.std.specs.List.{All, Contains}
use Rattle.std.specs.declared.alloc.Global.{Global}
use Rattle.std.specs.declared.boxed.Box.{Box}
use Rattle.std.specs.Vec.{vec_capacity}
use Rattle.atomic_table.specs.Table.{Me}
use Rattle.atomic_table.specs.Seated.{TableId}
use Rattle.lock_history.specs.Books.{Book, Slots}
use Rattle.lock_model.specs.declared.event.Held.{Held}
use Rattle.lock_objects.specs.declared.marked.Marked.{Marked}
use Rattle.floor_table.specs.Descriptions.{IsSized}
use Rattle.floor_table.specs.declared.description.Description.{Description}
use Rattle.floor_table.specs.declared.slot.Slot.{Slot}
use Rattle.floor_table.specs.Places.{words_for, slots_for}
use Rattle.floor_table.specs.Views.{Knowledge, OfKeeper, OfThread, Runs}
use Rattle.thread_records.specs.declared.record.ThreadRec.{ThreadRec}
use Rattle.lock_floor.specs.Marks.{AreMarked}

-- the table has the words and values of what the floor was made for, which the floor keeps, and which fits a table
pub record IsLaid (floor : Description) (table : TableId) (own : Description) : Type 0 where
  pub kept : own ≡ floor
  pub words : table.words ≡ words_for (slots_for floor)
  pub slots : table.slots ≡ slots_for floor
  pub sized : IsSized floor

-- the pass has the locks, those to be woken and the entries that its seat knows of, room for as many locks as its
-- thread may hold, and just those values out that its seat has out: none where it is finished, and then its thread
-- runs, takes no lock and holds none
pub record IsTied (who : ℕ) (locks : Vec Held) (marked : Marked) (book : Book) (finished : Bool)
    (me : Me Slot Knowledge) : Type 0 where
  pub role : me.0.role ≡ OfThread
  pub thread : who ≡ me.0.thread
  pub of_floor : who < length me.0.description.threads
  pub few : who < 32
  pub held : locks.items ≡ me.0.share.held
  pub room : 8 ≤ vec_capacity locks
  pub marks : AreMarked me.0.description marked me.0.share.doing.marked
  pub log : book.entries ≡ reverse me.0.share.log
  pub spare : book.spare ≡ me.0.spare
  pub out : me.1 ≡ me.0.out
  pub done : finished ≡ true → me.0.out ≡ []
  pub runs : finished ≡ true → me.0.pose ≡ Runs
  pub rests : finished ≡ true → me.0.share.doing.taking ≡ None
  pub bare : finished ≡ true → me.0.share.held ≡ []

-- The keeper has the logs of the passes that it took in, in that order, whose threads take no lock and hold none, and
-- room for what it has yet to take in: all logs, all records and the tables.
pub record IsKept (logs : Vec Book) (recs : Vec (Box ThreadRec Global)) (tables : Slots) (id : ℕ)
    (me : Me Slot Knowledge) : Type 0 where
  pub first : id ≡ 0
  pub role : me.0.role ≡ OfKeeper
  pub none_out : me.1 ≡ []
  pub logs_are : map (λ b. b.entries) logs.items ≡ map (λ g. reverse g.1.log) me.0.gathered
  pub none_taken : All (λ g. g.1.doing.taking ≡ None) me.0.gathered
  pub none_held : All (λ g. g.1.held ≡ []) me.0.gathered
  pub room_for_logs : length me.0.description.threads ≤ vec_capacity logs
  pub room_for_records : length me.0.description.threads ≤ vec_capacity recs
  pub no_records : recs.items ≡ []
  pub room_for_keys : (l key : ℕ) → Contains me.0.description.keys (l, key)
      → Contains tables.places (l, key)
  pub no_values : tables.present ≡ empty
