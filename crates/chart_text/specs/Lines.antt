-- A chart as lines of text, one for each turn. Lines that begin with `#` are of no turn: the title, the heads of the
-- columns, and how the run ended.
use Rattle.std.specs.Prelude.{ℕ, ◌-◌, ◌==◌, nat_lt, ◌||◌, if◌then◌else◌, max, List, [], ◌∷◌, ◌++◌, length, map, flat_map, fold, nat_eq, replicate, slice_get, codes, decimal, Option, Some, None, option_map, unwrap_or}
use Rattle.std.specs.List.{range_with_len}
use Rattle.std.specs.Global.{Vec}
use Rattle.std.specs.HashMap.{HashMap, get}
use Rattle.std.specs.declared.hash.BuildHasherDefault.{BuildHasherDefault}
use Rattle.std.specs.declared.hash.FoldHasher.{FoldHasher}
use Rattle.lock_model.specs.Text.{thread_name}
use Rattle.lock_model.specs.declared.event.Entry.{Entry}
use Rattle.lock_model.specs.declared.numbers.ThreadNo.{ThreadNo}
use Rattle.lock_model.specs.declared.plan.Plan.{Plan}
use Rattle.lock_model.specs.declared.plan.ThreadDecl.{ThreadDecl}
use Rattle.lock_model.specs.declared.turn.Turn.{Turn}
use Rattle.lock_model.specs.declared.turn.Turn.TheVariants.{Did, Idle, Ended}
use Rattle.chart_layout.specs.declared.layout.Arrow.{Arrow}
use Rattle.chart_layout.specs.declared.layout.ArrowKind.{ArrowKind}
use Rattle.chart_layout.specs.declared.layout.ArrowKind.TheVariants.{Lends, Wakes, BlockedOn, Behind, Refused}
use Rattle.chart_layout.specs.declared.layout.Chart.{Chart}
use Rattle.chart_layout.specs.declared.layout.MarkKind.TheVariants as mark
use Rattle.chart_layout.specs.declared.sentence.End.{End}
use Rattle.chart_layout.specs.declared.sentence.Sentence.{Sentence}
use Rattle.chart_words.specs.Sentences.{end_words, saying_words}
use Rattle.chart_words.specs.Words.{mark_words, note_words}
use Rattle.run_tracks.specs.declared.rows.Rows.{Rows}
use Rattle.run_tracks.specs.declared.rows.TurnRow.{TurnRow}

-- 1. Columns

-- so many spaces
abbrev pub spaces : ℕ → List ℕ
spaces n = replicate n 32

-- a word at the right of a column so wide, and at the left of one
abbrev pub at_right : ℕ → List ℕ → List ℕ
at_right width word = spaces (width - length word) ++ word

abbrev pub at_left : ℕ → List ℕ → List ℕ
at_left width word = word ++ spaces (width - length word)

-- the column of names is as wide as the longest name of a thread, and not narrower than its head
abbrev pub name_width : List ThreadDecl → ℕ
name_width threads = fold max 6 (map (λ thread. length thread.name) threads)

-- 2. What a turn did

-- the number of an entry, as it is printed before it, or a dash
abbrev pub ticket_word : Option Entry → List ℕ
ticket_word None = codes "-"
ticket_word (Some entry) = decimal entry.ticket

-- what a turn did: what a picture says at the mark of its entry, with all that this tells, or of its step
abbrev pub did_words : Plan → Turn → Option Entry → List ℕ
did_words plan Ended entry = codes "has ended"
did_words plan Idle entry = codes "idle"
did_words plan (Did kind) None = mark_words plan (mark.Did kind)
did_words plan (Did kind) (Some entry) =
    mark_words plan (mark.Noted entry.event) ++ note_words plan entry.event

-- 3. What is said of a turn

-- of the n-th turn by a sentence: that, without the name of the thread
abbrev pub said_by : Plan → ℕ → Sentence → List ℕ
said_by plan n s = if s.turn == n then 58 ∷ saying_words plan s.saying else []

-- by an arrow: to whom was lent what changed nothing, and whom a turn woke; of other loans, of whom a thread blocked
-- on, and of what it was refused, the sentence of its turn tells
abbrev pub told_words : Plan → ArrowKind → ThreadNo → List ℕ
told_words plan (Lends before prio) to =
    if before.0 == prio.0
    then codes ": lends to " ++ thread_name plan to.0 ++ codes ", which runs as " ++ decimal prio.0
    ++ codes " already"
    else []
told_words plan Wakes to = codes ": wakes " ++ thread_name plan to.0
told_words plan BlockedOn to = []
told_words plan Behind to = []
told_words plan Refused to = []

abbrev pub told_by : Plan → ℕ → Arrow → List ℕ
told_by plan n arrow = if arrow.turn == n then told_words plan arrow.kind arrow.to else []

-- what is said of turns, each under its number
abbrev pub Said : Type 0
Said = HashMap ℕ (Vec ℕ) (BuildHasherDefault FoldHasher)

-- what is said of the n-th turn there, and nothing where its number doesn't stand there
abbrev pub words_at : Said → ℕ → List ℕ
words_at said n = unwrap_or (option_map (λ words. words.items) (get nat_eq said n)) []

-- all that a chart says of the n-th turn
abbrev pub said_of : Plan → Chart → ℕ → List ℕ
said_of plan chart n =
    flat_map (said_by plan n) chart.sentences ++ flat_map (told_by plan n) chart.arrows

-- 4. Lines

-- the columns of the n-th turn: its number, that of its entry, and its thread
abbrev pub columns_of : Plan → ℕ → ℕ → TurnRow → List ℕ
columns_of plan width n turn =
    at_right 6 (decimal n) ++ 32 ∷ at_right 5 (ticket_word turn.entry)
    ++ 32 ∷ at_left width (thread_name plan turn.who.0) ++ 32 ∷ []

-- its line, if the run has that turn: these, what it did, and what is said of it
abbrev pub line_of : Plan → ℕ → ℕ → Option TurnRow → List ℕ → List ℕ
line_of plan width n None said = []
line_of plan width n (Some turn) said =
    columns_of plan width n turn ++ did_words plan turn.answer turn.entry ++ said ++ 10 ∷ []

-- those of so many turns from one on
abbrev pub lines_from : Plan → ℕ → Rows → Chart → ℕ → ℕ → List ℕ
lines_from plan width rows chart first turns =
    flat_map (λ n. line_of plan width n (slice_get rows.turns n) (said_of plan chart n))
    (range_with_len first turns)

-- a byte of a title: a space in place of one that moves a terminal's cursor
abbrev pub shown_byte : ℕ → ℕ
shown_byte b = if nat_lt b 32 || b == 127 then 32 else b

-- the title, and the heads of the columns
abbrev pub head_lines : ℕ → List ℕ → List ℕ
head_lines width title =
    codes "# " ++ map shown_byte title ++ codes "\n# turn entry "
    ++ at_left width (codes "thread") ++ codes " what the turn did\n"

-- how the whole run ended
abbrev pub end_line : Plan → End → List ℕ
end_line plan end = codes "# " ++ end_words plan end ++ codes "\n"

-- the text of a chart and of its rows under a title: the turns between the rows of its window
abbrev pub text_bytes : Plan → Rows → Chart → List ℕ → List ℕ
text_bytes plan rows chart title =
    head_lines (name_width plan.threads) title
    ++ lines_from plan (name_width plan.threads) rows chart chart.first (chart.last - chart.first)
    ++ end_line plan chart.end
