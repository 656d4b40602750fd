-- A number for each of the linked boxes that falls from a box to those inside it.
use Rattle.std.specs.Prelude.{ℕ, ◌+◌, ◌*◌, List, [], ◌∷◌, length}
use Rattle.lock_model.specs.Queues.{Lists}
use Rattle.wait_objects.specs.Seen.{Place, Node, Contents, Object}

abbrev pub contents_size : {E : Type 0} → Contents E → ℕ
contents_size c = 3 + 4 * length c.exclusive + 4 * length c.shared + 3 * length c.free

abbrev pub linked_size : {E : Type 0} → List (Contents E) → ℕ
linked_size [] = 0
linked_size (c ∷ cs) = contents_size c + linked_size cs

abbrev pub free_size : {E : Type 0} → List (Contents E) → ℕ
free_size cs = linked_size cs + 1

abbrev pub waiters_size : List Place → ℕ
waiters_size ps = 4 * length ps + 1

abbrev pub lists_size : Lists → ℕ
lists_size q = 4 * length q.exclusive + 4 * length q.shared + 2

abbrev pub node_size : Node → ℕ
node_size w = 4 * length w.next + 4

abbrev pub object_size : {E : Type 0} → Object E → ℕ
object_size t = contents_size t.contents + linked_size t.next
