use Rattle.std.proofs.Common.{sym, subst}
use Rattle.example_parts.specs.declared.Stage.{Stage}
use Rattle.example_parts.specs.Threads.{Knows}
use Rattle.example_parts.proofs.Parts.{take_begins, take_begins_admitted, take_goes_on, take_admitted, release_begins, release_begins_admitted, release_goes_on, release_admitted}
use Rattle.example_parts.proofs.go_on.Goals as goal

pub returns-in-Begins : goal.returns-in-Begins
returns-in-Begins c =
    let f = c.args.floor.now in
    let p = c.args.thread.now.pass in
    let q = c.begin_lock-next.new.pass in
    record {
      thread = subst (λ (s : Stage). Knows f s q) (sym c.behind-thread.ensures)
          (take_begins f p q c.begin_lock-next.ensures.own c.begin_lock-next.result
          (subst (λ (s : Stage). Knows f s p) c.in-Begins.is c.requires.thread) c.begin_lock-next.ensures.begun);
      admitted = take_begins_admitted f p q c.begin_lock-next.ensures.own c.begin_lock-next.result
          c.begin_lock-next.ensures.begun;
    }

pub behind-thread-requires-in-Takes : goal.behind-thread-requires-in-Takes
behind-thread-requires-in-Takes c =
    let f = c.args.floor.now in
    let p = c.args.thread.now.pass in
    let q = c.go_on_taking-next.new.pass in
    record {
      admitted = take_admitted f p q c.go_on_taking-next.ensures.own c.go_on_taking-next.result c.requires.made
          (subst (λ (s : Stage). Knows f s p) c.in-Takes.is c.requires.thread) c.go_on_taking-next.ensures.went;
    }

pub returns-in-Takes : goal.returns-in-Takes
returns-in-Takes c =
    let f = c.args.floor.now in
    let p = c.args.thread.now.pass in
    let q = c.go_on_taking-next.new.pass in
    record {
      thread = subst (λ (s : Stage). Knows f s q) (sym c.behind-thread-in-Takes.ensures)
          (take_goes_on f p q c.go_on_taking-next.ensures.own c.go_on_taking-next.result c.requires.made
          (subst (λ (s : Stage). Knows f s p) c.in-Takes.is c.requires.thread) c.go_on_taking-next.ensures.went);
      admitted = take_admitted f p q c.go_on_taking-next.ensures.own c.go_on_taking-next.result c.requires.made
          (subst (λ (s : Stage). Knows f s p) c.in-Takes.is c.requires.thread) c.go_on_taking-next.ensures.went;
    }

pub returns-in-Works-eq0 : goal.returns-in-Works-eq0
returns-in-Works-eq0 c =
    let f = c.args.floor.now in
    let p = c.args.thread.now.pass in
    let q = c.begin_unlock-next.new.pass in
    record {
      thread = subst (λ (s : Stage). Knows f s q) (sym c.behind-thread-in-Works-eq0.ensures)
          (release_begins f p q c.begin_unlock-next.ensures.own c.begin_unlock-next.result
          (subst (λ (s : Stage). Knows f s p) c.in-Works-eq0.is c.requires.thread) c.begin_unlock-next.ensures.begun);
      admitted = release_begins_admitted f p q c.begin_unlock-next.ensures.own c.begin_unlock-next.result
          c.begin_unlock-next.ensures.begun;
    }

pub behind-thread-requires-in-Releases : goal.behind-thread-requires-in-Releases
behind-thread-requires-in-Releases c =
    let f = c.args.floor.now in
    let p = c.args.thread.now.pass in
    let q = c.go_on_releasing-next.new.pass in
    record {
      admitted = release_admitted f p q c.go_on_releasing-next.ensures.own c.go_on_releasing-next.result
          (subst (λ (s : Stage). Knows f s p) c.in-Releases.is c.requires.thread) c.go_on_releasing-next.ensures.went;
    }

pub returns-in-Releases : goal.returns-in-Releases
returns-in-Releases c =
    let f = c.args.floor.now in
    let p = c.args.thread.now.pass in
    let q = c.go_on_releasing-next.new.pass in
    record {
      thread = subst (λ (s : Stage). Knows f s q) (sym c.behind-thread-in-Releases.ensures)
          (release_goes_on f p q c.go_on_releasing-next.ensures.own c.go_on_releasing-next.result
          (subst (λ (s : Stage). Knows f s p) c.in-Releases.is c.requires.thread) c.go_on_releasing-next.ensures.went);
      admitted = release_admitted f p q c.go_on_releasing-next.ensures.own c.go_on_releasing-next.result
          (subst (λ (s : Stage). Knows f s p) c.in-Releases.is c.requires.thread) c.go_on_releasing-next.ensures.went;
    }
