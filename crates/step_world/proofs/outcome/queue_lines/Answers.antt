use Rattle.step_world.proofs.Names.{List, length, get_or, ap, sym, subst, inl, inr, arith, lock_kind, lock_queue}
use Rattle.step_world.proofs.Names.{chan_queue, is_turnstile, LockDecl, head_of, line_at, line_of_lock}
use Rattle.std.proofs.Common.{◌≡◌, ◌%◌, ◌<◌, ◌∙◌}
use Rattle.step_world.proofs.Readings.{part_more, part_more_behind, kind_read, turnstile_line, sleepers_line}
use Rattle.step_world.proofs.outcome.queue_lines.Goals as goal
use Rattle.step_world.proofs.outcome.queue_lines.Goals.{in-Mtx+in_ok-push_line-in-Mtx, in-Sx+in_ok-push_line-in-Sx}

pub loop-l-preserved : goal.loop-l-preserved
loop-l-preserved c =
    let chains = c.args.chains in
    let plan = c.args.plan.now in
    let m = c.args.machine.now in
    let l = c.loop-l.l in
    let items : c.as_slice-lock-items.result.now ≡ plan.locks = c.as_slice-lock-items.ensures in
    let lt : l < length plan.locks = omega (arith, ap length items) in
    let kind : lock_kind plan l ≡ c.lock-item.result.kind = kind_read plan l c.lock-item.result lt
    (subst (λ (xs : List LockDecl). c.lock-item.result ≡ get_or xs l c.lock-item.result) items c.lock-item.is) in
    let slot = c.slot_of-slot.ensures.value in
    elim c.match-lock.branch [
      | in-Mtx+in_ok-push_line-in-Mtx b ↦
          rw b.lines-is (part_more
          (λ k. line_of_lock chains m (lock_kind plan k) k) l _ _ _ c.loop-l.invariant b.in_ok-push_line-in-Mtx.ensures
          (ap (λ n. line_at (lock_queue l) n (head_of (lock_queue l) m.chain)) slot ∙ sym
          (turnstile_line chains m (lock_kind plan l) l
          (ap is_turnstile kind ∙ elim b.in-Mtx.is [ inl e ↦ ap is_turnstile e | inr e ↦ ap is_turnstile e ]))))
      | in-Sx+in_ok-push_line-in-Sx b ↦
          rw b.lines-is (part_more
          (λ k. line_of_lock chains m (lock_kind plan k) k) l _ _ _ c.loop-l.invariant b.in_ok-push_line-in-Sx.ensures
          (ap (λ n. line_at (lock_queue l) n (head_of (lock_queue l) m.sleepers)) slot
          ∙ sym (sleepers_line chains m (lock_kind plan l) l (ap is_turnstile (kind ∙ b.in-Sx.is)))))
    ]

pub loop-c-preserved : goal.loop-c-preserved
loop-c-preserved c =
    let chains = c.args.chains in
    let m = c.args.machine.now in
    let d = c.loop-c.c in
    part_more_behind (λ k. line_at (chan_queue k) (k % chains) (head_of (chan_queue k) m.sleepers)) d _ _ _ _
    c.loop-c.invariant c.in_ok-push_line.ensures
    (ap (λ n. line_at (chan_queue d) n (head_of (chan_queue d) m.sleepers)) c.slot_of.ensures.value)
