use Rattle.std.proofs.Common.{◌≡◌, ℕ, ◌+◌, ◌++◌, ◌∷◌, [], ◌∙◌, refl, sym, ap, map, arith}
use Rattle.std.specs.List.{range_with_len}
use Rattle.std.proofs.lemmas.List.FromFn.{map-range_with_len_more}
use Rattle.script_read.specs.Generator.{behind_rounds, behind_threads, next_state, thread_at}
use Rattle.script_read.proofs.Generating.{no_threads, threads_more}
use Rattle.script_read.proofs.generator.threads.Goals as goal

pub loop-t-init : goal.loop-t-init
loop-t-init c = record { made = c.new-threads.ensures.items; state = sym (no_threads c.args.n) }

pub loop-t-preserved : goal.loop-t-preserved
loop-t-preserved c =
    let n = c.args.n in
    let t = c.loop-t.t in
    let i = c.loop-t.invariant in
    let more : map (λ (k : ℕ). thread_at (behind_threads n k) k) (range_with_len 0 (t + 1))
    ≡ map (λ (k : ℕ). thread_at (behind_threads n k) k) (range_with_len 0 t) ++ thread_at (behind_threads n t) t ∷ [] =
    map-range_with_len_more (λ (k : ℕ). thread_at (behind_threads n k) k) 0 t t (omega arith) in
    record {
      made = c.in_ok-push.ensures.items ∙ (rw (i.made, c.in_ok-thread.ensures.made, i.state) refl ∙ sym more);
      state = c.in_ok-thread.ensures.state
          ∙ (ap (λ x. behind_rounds (next_state x) 100) i.state ∙ sym (threads_more n t));
    }
