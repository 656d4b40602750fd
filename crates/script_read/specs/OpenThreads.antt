-- The thread that a reader is in.
use Rattle.std.specs.Prelude.{ℕ, length, map, reverse, Option, Some, None}
use Rattle.lock_model.specs.Script.Learning as script
use Rattle.script_read.specs.declared.reader.open_thread.Block.{Block}
use Rattle.script_read.specs.declared.reader.open_thread.OpenThread.{OpenThread}

abbrev pub block_of : Block → script.Block
block_of b = record {
  lock = b.lock;
  mode = b.mode;
  opened_at = b.opened_at;
  before = b.before.items;
}

-- as the definition has it, with the innermost block first
abbrev pub thread_of : OpenThread → script.OpenThread
thread_of t = record {
  name = t.name;
  base = t.base.0;
  ops = t.ops.items;
  held = t.held.items;
  blocks = map block_of (reverse t.blocks.items);
}

-- the operations of a thread that is open
abbrev pub operations_of : Option OpenThread → ℕ
operations_of None = 0
operations_of (Some t) = length t.ops.items
