use Rattle.step_machine.proofs.Names.{ℕ, refl, ap, length, replicate, List, [], subst, Graph, AreNew, LockDecl}
use Rattle.step_machine.proofs.Names.{ThreadDecl}
use Rattle.std.proofs.Common.{◌*◌, ◌∙◌}
use Rattle.step_machine.proofs.Beginning.{begun}
use Rattle.step_machine.proofs.machine.Machine.make.Goals as goal

abbrev with_classes : List (List ℕ) → Graph
with_classes names = record { classes = length names; edges = [] }

pub returns : goal.returns
returns c = begun c.args.plan.now _ c.requires (record {
  free = c.in_ok-vec.ensures.items_if_clones_equal (λ y e. e)
      ∙ ap (λ (ls : List LockDecl). replicate (length ls) 0) c.as_slice.ensures;
  no_queue = c.empty.ensures;
  no_sleepers = c.empty-2.ensures;
  new = subst (λ (ds : List ThreadDecl). AreNew ds c.in_ok-make_threads.field-0.items) c.as_slice-2.ensures
      c.in_ok-make_threads.ensures;
  no_entry = rw c.in_ok-make.ensures refl;
  room = rw c.in_ok-make.ensures (ap (λ n. 2 * n) c.operations_in_all.ensures);
  no_key = c.in_ok-make-2.ensures.empty;
  keys = λ l key. (c.in_ok-make-2.ensures.room l key).1;
  no_order = c.in_ok-make-3.ensures ∙ ap with_classes c.as_slice-3.ensures;
})
