use Rattle.std.proofs.Common.{refl, subst, sym}
use Rattle.complaints.specs.declared.status.Status.TheVariants.{NoMemory, Usage}
use Rattle.top_ends.proofs.Takes.{unread}
use Rattle.top_ends.specs.Calls.{ReadsBytes}
use Rattle.lock_top.proofs.serving.serve.Goals as goal

pub returns-in-Err-Usage-clause-reads : goal.returns-in-Err-Usage-clause-reads
returns-in-Err-Usage-clause-reads g c = let bytes = g.S.Source.remaining c.args.source.now in
    subst (λ status. ReadsBytes status bytes bytes) (sym c.unread.ensures.status) (unread Usage bytes refl (λ e. cc))

pub returns-in-Err-Memory-clause-reads : goal.returns-in-Err-Memory-clause-reads
returns-in-Err-Memory-clause-reads g c = let bytes = g.S.Source.remaining c.args.source.now in
    subst (λ status. ReadsBytes status bytes bytes) (sym c.unread-in-Err-Memory.ensures.status)
    (unread NoMemory bytes refl (λ e. cc))
