use Rattle.std.proofs.Common.{◌≡◌, ◌∙◌, ◌++◌, codes, ap, sym, Some}
use Rattle.std.specs.Prelude.{option_map}
use Rattle.complaints.specs.Complaints.{fault_by, fault_said, meaning_by, word_at}
use Rattle.complaints.proofs.Appends.{seven}
use Rattle.complaints.proofs.sentence.push_fault.Goals as goal

pub returns : goal.returns
returns c =
    let out = c.args.out.now.items in
    let line = c.first_line-line.result.now in
    let code = c.word_at-code.result.now in
    let meaning = c.in-Some.meaning.now in
    let is : meaning_by (word_at 3 line) ≡ Some meaning =
    ap meaning_by (sym c.word_at-code.ensures) ∙ sym c.meaning_by.ensures ∙ ap (option_map (λ s. s.now)) c.in-Some.is in
    seven out (codes "line ") c.word_at.result.now (codes ": ") c.as_bytes.result.now (codes " (code ") code
    (codes ")")
    c.in_ok-extend_from_slice-2.ensures.items c.in_ok-extend_from_slice-3.ensures.items
    c.in_ok-extend_from_slice-4.ensures.items
    c.in_ok-extend_from_slice-5.ensures.items c.in_ok-extend_from_slice-6.ensures.items
    c.in_ok-extend_from_slice-7.ensures.items
    c.in_ok-extend_from_slice-8.ensures.items
    ∙ (λ i. out ++ (codes "line " ++ (c.word_at.ensures i ++ (codes ": " ++ (c.as_bytes.ensures.value i
    ++ (codes " (code " ++ (c.word_at-code.ensures i ++ codes ")")))))))
    ∙ ap (λ o. out ++ fault_by line o) (sym is)
    ∙ ap (λ l. out ++ fault_said l) c.first_line-line.ensures
