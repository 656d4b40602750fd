-- The names of what C describes a floor by, as a plan that says no operations.
use Rattle.std.specs.Prelude.{◌≡◌, ℕ, ◌<◌, ◌==◌, if◌then◌else◌, nat_eq, List, [], length, map, position, take, unwrap_or}
use Rattle.std.specs.Cmp.Lexicographic.{pointwise}
use Rattle.std.specs.List.{All}
use Rattle.lock_model.specs.declared.plan.ChanDecl.{ChanDecl}
use Rattle.lock_model.specs.declared.plan.Kind.{Kind}
use Rattle.lock_model.specs.declared.plan.Kind.TheVariants.{Mtx, Rw, Sx}
use Rattle.lock_model.specs.declared.plan.LockDecl.{LockDecl}
use Rattle.lock_model.specs.declared.plan.Plan.{Plan}
use Rattle.lock_model.specs.declared.plan.ThreadDecl.{ThreadDecl}
use Rattle.lockrun_c.specs.Codes.{byte_of}
use Rattle.lockrun_c.specs.declared.rows.ChanRow.{ChanRow}
use Rattle.lockrun_c.specs.declared.rows.LockRow.{LockRow}
use Rattle.lockrun_c.specs.declared.rows.ThreadRow.{ThreadRow}

-- what bytes spell: those before the first 0
abbrev pub spelling : List ℕ → List ℕ
spelling bytes = take (unwrap_or (position (λ b. b == 0) bytes) (length bytes)) bytes

-- the number of a class among these
abbrev pub class_at : List (List ℕ) → List ℕ → ℕ
class_at classes name =
    unwrap_or (position (λ n. pointwise nat_eq n name) classes) (length classes)

abbrev pub kind_at : ℕ → Kind
kind_at kind = if kind == 0 then Mtx else (if kind == 1 then Rw else Sx)

abbrev pub number_of_kind : Kind → ℕ
number_of_kind Mtx = 0
number_of_kind Rw = 1
number_of_kind Sx = 2

abbrev pub lock_decl : List (List ℕ) → LockRow → LockDecl
lock_decl classes row = record {
  name = spelling row.name;
  kind = kind_at row.kind;
  class = record { 0 = class_at classes (spelling row.class) };
}

abbrev pub chan_decl : ChanRow → ChanDecl
chan_decl row = record {
  name = spelling row.name;
  cond = row.is_channel == 0;
  lock = record { 0 = byte_of row.lock };
}

abbrev pub thread_decl : ThreadRow → ThreadDecl
thread_decl row = record {
  name = spelling row.name;
  base = record { 0 = row.base };
  ops = [];
}

-- each has one of so many classes
abbrev pub AreClassed : ℕ → List LockDecl → Type 0
AreClassed classes locks = All (λ lock. lock.class.0 < classes) locks

-- the number of each one's kind is that of its row
abbrev pub AreOfKinds : List LockRow → List LockDecl → Type 0
AreOfKinds rows locks = map (λ lock. number_of_kind lock.kind) locks ≡ map (λ row. row.kind) rows

-- the lock of each is one of so many
abbrev pub AreOnLocks : ℕ → List ChanDecl → Type 0
AreOnLocks locks chans = All (λ chan. chan.lock.0 < locks) chans

-- a plan that names these threads, locks and channels, and the classes of the locks, and says nothing more
pub record IsNamedFor (thread_rows : List ThreadRow) (lock_rows : List LockRow)
    (chan_rows : List ChanRow) (plan : Plan) : Type 0 where
  pub threads : plan.threads ≡ map thread_decl thread_rows
  pub locks : plan.locks ≡ map (lock_decl plan.classes) lock_rows
  pub classed : AreClassed (length plan.classes) plan.locks
  pub kinds : AreOfKinds lock_rows plan.locks
  pub chans : plan.chans ≡ map chan_decl chan_rows
  pub on_locks : AreOnLocks (length plan.locks) plan.chans
  pub schedule : plan.schedule ≡ []
