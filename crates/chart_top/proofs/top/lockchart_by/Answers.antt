use Rattle.std.proofs.Common.{inr, map, refl, sym, subst, ◌∙◌}
use Rattle.std.specs.String.{string_bytes}
use Rattle.chart_top.specs.Calls.{TellsForms}
use Rattle.complaints.specs.declared.status.Status.{Status}
use Rattle.complaints.specs.declared.status.Status.TheVariants.{NoMemory}
use Rattle.top_ends.proofs.Takes.{unread}
use Rattle.top_ends.specs.Calls.{Told}
use Rattle.chart_top.proofs.top.lockchart_by.Goals as goal

-- where memory was wanting for the words, nothing was read
pub returns-in-Err-Memory-clause-forms : goal.returns-in-Err-Memory-clause-forms
returns-in-Err-Memory-clause-forms g c =
    let old : Told = g.S.Source.remaining c.args.source.now in
    subst (λ (s : Status). TellsForms (map string_bytes c.args.words.now) s old old)
    (sym (c.of-in-Err-Memory.ensures.status ∙ c.with-in-Err-Memory.ensures.status)) (record {
      usage = λ e. absurd cc;
      no_form = λ e. inr refl;
      no_form_reads_nothing = λ e. refl;
      help = λ e. inr (inr refl);
      help_reads_nothing = λ e. refl;
      picture_reads = λ wanted e. unread NoMemory old refl (λ f. cc);
    })
