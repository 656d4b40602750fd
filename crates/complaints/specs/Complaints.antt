-- The sentence for standard error, by the status and the text that was written. It is this project's own.
use Rattle.std.specs.Prelude.{ℕ, Bool, false, true, not, ◌||◌, ◌&&◌, ◌==◌, nat_lt, nat_eq, slice_index, if◌then◌else◌, List, [], ◌∷◌, ◌++◌, find, length, Option, Some, None, codes, option_and_then, option_map}
use Rattle.std.specs.Option.{option_map_or}
use Rattle.std.specs.List.{list_any, slice_index_or, starts_with}
use Rattle.lock_model.specs.Script.Lines.{is_same, lines_of, number_up_to, onto_first, words_of}
use Rattle.script_read.specs.Meanings.{meaning}
use Rattle.complaints.specs.declared.program.Program.{Program}
use Rattle.complaints.specs.declared.status.Status.{Status}
use Rattle.complaints.specs.declared.status.Status.TheVariants.{Done, BadScript, ReadFault, WriteFault, NoMemory, Stuck, Reversed, TooLong, TooBig, Usage}

abbrev pub Text : Type 0
Text = List ℕ

-- 1. The words of the written text

-- a word of a line, counted from 0; where there is none, nothing
abbrev pub word_at : ℕ → Text → Text
word_at n line = slice_index_or (words_of line) n []

-- the items of a list such as `t1@100,t2@50`
abbrev pub items_of : Text → List Text
items_of [] = [] ∷ []
items_of (b ∷ bs) = if b == 44 then [] ∷ items_of bs else onto_first b (items_of bs)

-- the item begins with the name, and a `@` stands behind that
abbrev pub is_of : Text → Text → Bool
is_of name item = nat_lt (length name) (length item)
    && (slice_index item (length name) == 64 && starts_with nat_eq item name)

abbrev pub has_waiter : Text → Text → Bool
has_waiter name list = list_any (is_of name) (items_of list)

-- the line `queue NAME slot S head T free LIST excl LIST shared LIST` has the thread on either side
abbrev pub waits_in : Text → Text → Bool
waits_in name line = is_same (word_at 0 line) (codes "queue")
    && (has_waiter name (word_at 9 line) || has_waiter name (word_at 11 line))

-- the queue in which a thread waits
abbrev pub queue_of : Text → Text → Option Text
queue_of text name = option_map (word_at 1) (find (waits_in name) (lines_of text))

-- the thread that a line `thread NAME base B eff E` is of, and the queue in which it waits
abbrev pub wait_of : Text → Text → Option (Text × Text)
wait_of text line = if is_same (word_at 0 line) (codes "thread")
    then option_map (λ queue. (word_at 1 line, queue)) (queue_of text (word_at 1 line)) else None

-- the line is `TICKET NAME reversed LOCK CLASS`, and not the `order CLASS CLASS N` of a profile
abbrev pub is_reversal : Text → Bool
is_reversal line = is_same (word_at 2 line) (codes "reversed")
    && not (is_same (word_at 0 line) (codes "order"))

-- the line is `TICKET NAME halted QUEUE`, and of that thread
abbrev pub halts_in : Text → Text → Bool
halts_in name line = is_same (word_at 2 line) (codes "halted") && is_same (word_at 1 line) name

-- in which queue a thread was halted
abbrev pub halted_in : Text → Text → Option Text
halted_in text name = option_map (word_at 3) (find (halts_in name) (lines_of text))

-- the thread that a line `thread NAME base B eff E` is of, and the queue in which it was halted
abbrev pub halt_of : Text → Text → Option (Text × Text)
halt_of text line = if is_same (word_at 0 line) (codes "thread")
    then option_map (λ queue. (word_at 1 line, queue)) (halted_in text (word_at 1 line)) else None

-- 2. What is said

-- where the written text isn't known
abbrev pub unknown_said : Text
unknown_said = codes "the source is no script"

-- of the line `line L code C`
abbrev pub fault_by : Text → Option Text → Text
fault_by line None = unknown_said
fault_by line (Some sentence) = codes "line " ++ (word_at 1 line ++ (codes ": "
    ++ (sentence ++ (codes " (code " ++ (word_at 3 line ++ codes ")")))))

abbrev pub meaning_by : Text → Option Text
meaning_by word = option_and_then meaning (number_up_to 255 word)

abbrev pub fault_said : Text → Text
fault_said line = fault_by line (meaning_by (word_at 3 line))

abbrev pub first_line : List Text → Text
first_line [] = []
first_line (line ∷ lines) = line

-- Who waits for what, or was halted on what. Of a line that says which: a thread and a queue
abbrev pub found_in : Bool → Text → Text → Option (Text × Text)
found_in false text line = wait_of text line
found_in true text line = halt_of text line

-- by which words it is told, at first and further on
abbrev pub verb_first : Bool → Text
verb_first false = codes " waits for "
verb_first true = codes " was halted on "

abbrev pub verb_then : Bool → Text
verb_then false = codes " for "
verb_then true = codes " on "

-- `between` stands before the next one, and `verb` in it
abbrev pub told_then : Bool → Text → Text → Option (Text × Text) → (Text → Text → Text) → Text
told_then halts between verb None rest = rest between verb
told_then halts between verb (Some w) rest =
    between ++ (w.0 ++ (verb ++ (w.1 ++ rest (codes ", ") (verb_then halts))))

abbrev pub each_told : Bool → Text → List Text → Text → Text → Text
each_told halts text [] between verb = []
each_told halts text (line ∷ lines) between verb =
    told_then halts between verb (found_in halts text line) (each_told halts text lines)

-- of a scheduled run who waits, and of a run of threads, in which in the end nobody waits, who was halted
abbrev pub stuck_said : Text → Text
stuck_said text = codes "stuck"
    ++ (each_told false text (lines_of text) (codes ": ") (verb_first false)
    ++ each_told true text (lines_of text) (codes ": ") (verb_first true))

-- which thread may not take which lock, under which class that it holds
abbrev pub reversal_said : Text → Text
reversal_said line = word_at 1 line ++ (codes " may not take " ++ (word_at 3 line
    ++ (codes " under class " ++ word_at 4 line)))

abbrev pub reversals_said : List Text → Text → Text
reversals_said [] between = []
reversals_said (line ∷ lines) between = if is_reversal line
    then between ++ (reversal_said line ++ reversals_said lines (codes ", "))
    else reversals_said lines between

abbrev pub reversed_said : Text → Text
reversed_said text = codes "reversed" ++ reversals_said (lines_of text) (codes ": ")

-- of a status whose sentence needs nothing of the text
abbrev pub fixed_of : Program → Status → Option Text
fixed_of program Done = None
fixed_of program BadScript = None
fixed_of program ReadFault = Some (codes "could not read standard input")
fixed_of program WriteFault = Some (codes "could not write standard output")
fixed_of program NoMemory = Some (codes "out of memory")
fixed_of program Stuck = None
fixed_of program Reversed = None
fixed_of program TooLong = Some program.too_long.now
fixed_of program TooBig = Some (codes "the source has more than 1,048,576 bytes")
fixed_of program Usage = Some program.form.now

-- of each status; nothing where all went well
abbrev pub sentence_of : Program → Status → Text → Option Text
sentence_of program Done text = None
sentence_of program BadScript text = Some (fault_said (first_line (lines_of text)))
sentence_of program ReadFault text = fixed_of program ReadFault
sentence_of program WriteFault text = fixed_of program WriteFault
sentence_of program NoMemory text = fixed_of program NoMemory
sentence_of program Stuck text = Some (stuck_said text)
sentence_of program Reversed text = Some (reversed_said text)
sentence_of program TooLong text = fixed_of program TooLong
sentence_of program TooBig text = fixed_of program TooBig
sentence_of program Usage text = fixed_of program Usage

-- who speaks: the program, or `usage` in front of its form
abbrev pub speaker_of : Program → Status → Text
speaker_of program Done = program.name.now
speaker_of program BadScript = program.name.now
speaker_of program ReadFault = program.name.now
speaker_of program WriteFault = program.name.now
speaker_of program NoMemory = program.name.now
speaker_of program Stuck = program.name.now
speaker_of program Reversed = program.name.now
speaker_of program TooLong = program.name.now
speaker_of program TooBig = program.name.now
speaker_of program Usage = codes "usage"

-- one line: who speaks, and the sentence
abbrev pub line_by : Text → Text → Text
line_by speaker sentence = speaker ++ (codes ": " ++ (sentence ++ codes "\n"))

abbrev pub complaint_of : Program → Status → Text → Text
complaint_of program status text =
    option_map_or (line_by (speaker_of program status)) (sentence_of program status text) []
