-- Bytes that lead from what is known to what is known behind them, whatever stands behind: a line of words that
-- passes its tests does, and so do texts that do one behind the other.
use Rattle.script_laws.proofs.Names
use Names.{ℕ, suc, true, false, List, [], length, Some, None, refl, ap, append_assoc, list_all, le-leb, least_code}
use Names.{Passes, spaced, line_of, reading_from, lines_of, is_printable, has_meaning, Statement, statement_of, said_by}
use Names.{Known, learned, place_tests, name_tests, line_fault, behind_line}
use Rattle.std.proofs.Common.{◌≡◌, ◌≤◌, ◌∷◌, ◌++◌, ◌∙◌}
use Rattle.script_laws.proofs.CanonicalWords.{IsLine, line_read, line_stands, line_means, line_says}

-- reading goes on behind the bytes with what is known there
abbrev pub Leads : Known → List ℕ → Known → Type 0
Leads k bytes after =
    (n : ℕ) (rest : List ℕ)
    → (m : ℕ) × (reading_from n k (lines_of (bytes ++ rest)) ≡ reading_from m after (lines_of rest))

pub leads_nowhere : (k : Known) → Leads k [] k
leads_nowhere k n rest = (n, refl)

pub leads_on : (k l m : Known) (bs cs : List ℕ) → Leads k bs l → Leads l cs m → Leads k (bs ++ cs) m
leads_on k l m bs cs f g n rest =
    let first = f n (cs ++ rest) in
    let then = g first.0 rest in
    (then.0, ap (λ (x : List ℕ). reading_from n k (lines_of x)) (append_assoc bs cs rest) ∙ first.1 ∙ then.1)

passes_all : (k : Known) (line : List ℕ) (s : Statement) → length line ≤ 200 → list_all is_printable line ≡ true
    → has_meaning line ≡ true → statement_of line ≡ Some s → k.is_done ≡ false
    → Passes (place_tests k s) → Passes (name_tests k s) → line_fault k line ≡ None
unfolding line_fault least_code
passes_all k line s short stands means says undone place names =
    rw (le-leb (length line) 200 short, stands, means, says, undone, place, names) refl

teaches : (k : Known) (line : List ℕ) (s : Statement) → has_meaning line ≡ true → statement_of line ≡ Some s
    → behind_line k line ≡ learned k s
unfolding behind_line
teaches k line s means says = rw (means, says) refl

read_on : (n : ℕ) (k : Known) (line : List ℕ) (lines : List (List ℕ)) (after : Known) → line_fault k line ≡ None
    → behind_line k line ≡ after → reading_from n k (line ∷ lines) ≡ reading_from (suc n) after lines
unfolding reading_from
read_on n k line lines after none e = rw (none, e) refl

-- a line of words that passes its tests
pub line_leads : (k : Known) (first : List ℕ) (others : List (List ℕ)) (s : Statement) → IsLine first others
    → said_by (first ∷ others) ≡ Some s → k.is_done ≡ false → Passes (place_tests k s) → Passes (name_tests k s)
    → Leads k (line_of first others) (learned k s)
line_leads k first others s h says undone place names n rest =
    let line = first ++ spaced others in
    let means = line_means first others h in
    let statement = line_says first others h s says in (
      suc n,
      ap (reading_from n k) (line_read first others h rest)
          ∙ read_on n k line (lines_of rest) (learned k s)
          (passes_all k line s h.short (line_stands first others h) means statement undone place names)
          (teaches k line s means statement),
    )
