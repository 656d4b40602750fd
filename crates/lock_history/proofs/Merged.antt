-- What `merge` makes of one log, and entries in order of their tickets as a history has them, the newest first.
use Rattle.std.proofs.Common.{◌≡◌, ℕ, ◌<◌, List, [], ◌∷◌, ◌++◌, length, get_or, reverse, Some, sym, ap, subst, ◌∙◌, arith, length-append, inl, inr, Result, Ok, Err, IfOk}
use Rattle.std.specs.List.{All, slice_get}
use Rattle.std.proofs.lemmas.List.{append-nil, same_lists, get_or_append_left, reverse-append, length-reverse}
use Rattle.std.proofs.lemmas.Bool.{cases_lt}
use Rattle.std.proofs.Math.Seq.{get_or-append_seam}
use Rattle.lock_model.specs.History.{TicketsRun}
use Rattle.std.proofs.lemmas.Option.{get_or_from_slice_get}
use Rattle.lock_model.specs.declared.event.Entry.{Entry}
use Rattle.lock_history.specs.Books.{Book}
use Rattle.lock_history.specs.Tickets.{entries_in, TicketsOnce, InOrder}

-- 1. One log

-- entries in order of their tickets have the tickets 0 to n - 1, each once
pub TicketsOnce-in_order : (es : List Entry) → InOrder es → TicketsOnce es
TicketsOnce-in_order es h = record {
  below = λ k d lt. omega (arith, h k d lt);
  once = λ i j d lt within same. absurd (omega (arith, same, h i d (omega arith), h j d within));
}

-- the entries of one log
pub entries_in_one : (g : Book) → entries_in (g ∷ []) ≡ g.entries
entries_in_one g = append-nil g.entries

-- one log in order may be merged
pub TicketsOnce-one : (g : Book) → InOrder g.entries → TicketsOnce (entries_in (g ∷ []))
TicketsOnce-one g h = subst TicketsOnce (sym (entries_in_one g)) (TicketsOnce-in_order g.entries h)

placed_same : (es h : List Entry) → InOrder es → length h ≡ length es → All (λ e. slice_get h e.ticket ≡ Some e) es
    → h ≡ es
placed_same es h order len placed =
    same_lists h es len (λ k d lt.
    let within : k < length es = omega (arith, len) in
    ap (λ n. get_or h n d) (sym (order k d within))
    ∙ get_or_from_slice_get h (get_or es k d).ticket (get_or es k d) d (placed k d within))

-- what `merge` ensures of it makes the history the log's own entries
pub merged_one : (g : Book) (h : List Entry) → InOrder g.entries → length h ≡ length (entries_in (g ∷ []))
    → All (λ e. slice_get h e.ticket ≡ Some e) (entries_in (g ∷ [])) → h ≡ g.entries
merged_one g h order len placed =
    placed_same g.entries h order (len ∙ ap length (entries_in_one g))
    (subst (All (λ e. slice_get h e.ticket ≡ Some e)) (entries_in_one g) placed)

-- 2. The newest entry first

InOrder-push : (es : List Entry) (e : Entry) → InOrder es → e.ticket ≡ length es → InOrder (es ++ e ∷ [])
InOrder-push es e h last k d lt =
    elim (cases_lt k (length es)) [
      | inl below ↦ ap (λ (f : Entry). f.ticket) (get_or_append_left es (e ∷ []) d k below) ∙ h k d below
      | inr from ↦
          let same : k ≡ length es = omega (arith, length-append es (e ∷ [])) in
          ap (λ (n : ℕ). (get_or (es ++ e ∷ []) n d).ticket) same
          ∙ ap (λ (f : Entry). f.ticket) (get_or-append_seam es e [] d) ∙ last ∙ sym same
    ]

-- the law of a history's tickets, and the order of the entries from the oldest on
pub InOrder-reverse : (es : List Entry) → TicketsRun es → InOrder (reverse es)
unfolding TicketsRun
InOrder-reverse [] h = λ k d lt. absurd (omega arith)
InOrder-reverse (e ∷ es) h =
    subst InOrder (sym (reverse-append (e ∷ []) es))
    (InOrder-push (reverse es) e (InOrder-reverse es h.1) (h.0 ∙ sym (length-reverse es)))

pub TicketsRun-reverse : (es : List Entry) → InOrder (reverse es) → TicketsRun es
unfolding TicketsRun
TicketsRun-reverse [] h = tt
TicketsRun-reverse (e ∷ es) h =
    let order : InOrder (reverse es ++ e ∷ []) = subst InOrder (reverse-append (e ∷ []) es) h in
    let long : length (reverse es) ≡ length es = length-reverse es in
    let last : e.ticket ≡ length es =
    ap (λ (f : Entry). f.ticket) (sym (get_or-append_seam (reverse es) e [] e))
    ∙ order (length (reverse es)) e (omega (arith, length-append (reverse es) (e ∷ []))) ∙ long in (
      last,
      TicketsRun-reverse es
          (λ k d lt. ap (λ (f : Entry). f.ticket) (sym (get_or_append_left (reverse es) (e ∷ []) d k lt))
          ∙ order k d (omega (arith, length-append (reverse es) (e ∷ [])))),
    )
