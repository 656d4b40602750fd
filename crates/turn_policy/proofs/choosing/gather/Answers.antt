use Rattle.std.proofs.Common.{ℕ, List, ◌<◌, ◌++◌, ◌∷◌, [], length, arith, sym, ◌∙◌, subst}
use Rattle.std.proofs.lemmas.List.{length_push}
use Rattle.std.proofs.lemmas.List.Elements.{All-push}
use Rattle.turn_policy.specs.Choosing.{AreCandidates}
use Rattle.turn_policy.specs.declared.choosing.Candidate.{Candidate}
use Rattle.turn_policy.proofs.Runnable.{gathered_grows, gathered_stays, one_more_candidate}
use Rattle.turn_policy.proofs.choosing.gather.Goals as goal
use Rattle.turn_policy.proofs.choosing.gather.Goals.{then-is_gathered, else-is_gathered}

pub push_reserved-requires : goal.push_reserved-requires
push_reserved-requires c =
    omega (
      arith,
      c.loop-t.candidates.ok.0,
      c.loop-t.invariant.few,
      c.loop-t.invariant.room,
      c.clear.ensures.capacity,
      c.requires.room,
      c.loop-t-test.true,
      c.threads-t-end.ensures.number,
    )

pub loop-t-preserved : goal.loop-t-preserved
loop-t-preserved c =
    let w = c.args.world.now in
    let old = c.loop-t.candidates.items in
    let i = c.loop-t.invariant in
    elim c.if-is_gathered.branch [
      | then-is_gathered b ↦
          let one : Candidate =
          record { thread = record { 0 = c.loop-t.t }; priority = b.priority_of-priority.result } in
          rw (b.candidates-is, b.push_reserved.ensures.items) (record {
            gathered = λ r h.
                subst (λ (ts : List ℕ). AreCandidates c.args.heeds_loans r ts (old ++ one ∷ []))
                (sym (gathered_grows c.args.owing_only w.plan r c.loop-t.t
                (sym (c.is_gathered.ensures r h) ∙ b.if-is_gathered.true)))
                (one_more_candidate c.args.heeds_loans r _ old one (i.gathered r h)
                (b.priority_of-priority.ensures r h));
            threads = All-push (λ (x : Candidate). x.thread.0 < length w.plan.threads) old one i.threads
                (omega (arith, c.loop-t-test.true, c.threads-t-end.ensures.number));
            few = omega (arith, length_push old one, i.few);
            room = b.push_reserved.ensures.capacity ∙ i.room;
          })
      | else-is_gathered b ↦ rw b.candidates-is (record {
        gathered = λ r h. subst (λ (ts : List ℕ). AreCandidates c.args.heeds_loans r ts old)
            (sym (gathered_stays c.args.owing_only w.plan r c.loop-t.t
            (sym (c.is_gathered.ensures r h) ∙ b.if-is_gathered.false))) (i.gathered r h);
        threads = i.threads;
        few = omega (arith, i.few);
        room = i.room;
      })
    ]
