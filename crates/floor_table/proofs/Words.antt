-- What a change of one word makes of the words and of what they say.
use Rattle.std.proofs.Common.{◌≡◌, ◌≢◌, ℕ, ◌<◌, ◌≤◌, Bool, List, length, set, refl, sym, ap, ◌∙◌, subst, inl, inr, arith, get_or-set_same, get_or-set_other}
use Rattle.std.proofs.lemmas.Bool.{cases_eq}
use Rattle.lock_model.specs.Counts.{one}
use Rattle.lock_model.specs.Words.{Word, word_of}
use Rattle.lock_state.specs.State.{Wait, put}
use Rattle.lock_laws.proofs.Kit.{put_same, put_other}
use Rattle.floor_table.specs.Descriptions.{IsSized}
use Rattle.floor_table.specs.declared.description.Description.{Description}
use Rattle.floor_table.specs.Places.{spot, word_at, lock_line, wait_line, ticket_line, awake_line, ended_line, halt_line, latch_line, lock_word, wait_word, latch_word}
use Rattle.floor_table.specs.Represents.{WordColumns, wait_number, RepresentsWords}

pub word_here : (ws : List ℕ) (n x : ℕ) → spot n < length ws → word_at (set ws (spot n) x) n ≡ x
word_here ws n x fits = get_or-set_same ws (spot n) x 0 fits

pub word_there : (ws : List ℕ) (n x m : ℕ) → m ≢ n → word_at (set ws (spot n) x) m ≡ word_at ws m
word_there ws n x m ne = get_or-set_other ws (spot n) (spot m) x 0 (λ e. ne (omega arith))

-- 1. What words say of columns

module _ (floor : Description) (sized : IsSized floor) (ws : List ℕ) (x : WordColumns) (h : RepresentsWords floor ws x)
  where
    -- a latch says nothing of them
    pub latch_written : (j n : ℕ) → RepresentsWords floor (set ws (spot (latch_line j)) n) x
    latch_written j n = record {
      locks = λ l low. ap word_of
          (word_there ws (latch_line j) n (lock_line l) (λ e. omega (arith, e, low, sized.locks)))
          ∙ h.locks l low;
      waits = λ t low. word_there ws (latch_line j) n (wait_line t) (λ e. omega (arith, e, low, sized.threads))
          ∙ h.waits t low;
      ticket = word_there ws (latch_line j) n ticket_line (λ e. omega (arith, e)) ∙ h.ticket;
      awake = word_there ws (latch_line j) n awake_line (λ e. omega (arith, e)) ∙ h.awake;
      ended = word_there ws (latch_line j) n ended_line (λ e. omega (arith, e)) ∙ h.ended;
      halted = word_there ws (latch_line j) n halt_line (λ e. omega (arith, e)) ∙ h.halted;
    }

    -- the word of a lock
    pub lock_written : (l n : ℕ) (y : Word) → l < length floor.locks → spot (lock_line l) < length ws → word_of n ≡ y
        → RepresentsWords floor (set ws (spot (lock_line l)) n) (record x { word = put x.word l y })
    lock_written l n y low fits is = record {
      locks = λ k small. elim (cases_eq l k) [
        | inl e ↦ subst (λ j. word_of (lock_word (set ws (spot (lock_line l)) n) j) ≡ put x.word l y j) e
            (ap word_of (word_here ws (lock_line l) n fits) ∙ is ∙ sym (put_same x.word l y))
        | inr ne ↦ ap word_of (word_there ws (lock_line l) n (lock_line k) (λ e. ne (sym e))) ∙ h.locks k small
            ∙ sym (put_other x.word l y k ne)
      ];
      waits = λ t small. word_there ws (lock_line l) n (wait_line t) (λ e. omega (arith, e, low, sized.locks))
          ∙ h.waits t small;
      ticket = word_there ws (lock_line l) n ticket_line (λ e. omega (arith, e, low, sized.locks)) ∙ h.ticket;
      awake = word_there ws (lock_line l) n awake_line (λ e. omega (arith, e, low, sized.locks)) ∙ h.awake;
      ended = word_there ws (lock_line l) n ended_line (λ e. omega (arith, e, low, sized.locks)) ∙ h.ended;
      halted = word_there ws (lock_line l) n halt_line (λ e. omega (arith, e, low, sized.locks)) ∙ h.halted;
    }

    -- the wait word of a thread
    pub wait_written : (t n : ℕ) (y : Wait) → t < length floor.threads → spot (wait_line t) < length ws
        → n ≡ wait_number y
        → RepresentsWords floor (set ws (spot (wait_line t)) n) (record x { wait = put x.wait t y })
    wait_written t n y low fits is = record {
      locks = λ l small. ap word_of
          (word_there ws (wait_line t) n (lock_line l) (λ e. omega (arith, e, small, sized.locks))) ∙ h.locks l small;
      waits = λ u small. elim (cases_eq t u) [
        | inl e ↦ subst (λ j. wait_word (set ws (spot (wait_line t)) n) j ≡ wait_number (put x.wait t y j)) e
            (word_here ws (wait_line t) n fits ∙ is ∙ ap wait_number (sym (put_same x.wait t y)))
        | inr ne ↦ word_there ws (wait_line t) n (wait_line u) (λ e. ne (omega arith)) ∙ h.waits u small
            ∙ ap wait_number (sym (put_other x.wait t y u ne))
      ];
      ticket = word_there ws (wait_line t) n ticket_line (λ e. omega (arith, e, low, sized.threads)) ∙ h.ticket;
      awake = word_there ws (wait_line t) n awake_line (λ e. omega (arith, e, low, sized.threads)) ∙ h.awake;
      ended = word_there ws (wait_line t) n ended_line (λ e. omega (arith, e, low, sized.threads)) ∙ h.ended;
      halted = word_there ws (wait_line t) n halt_line (λ e. omega (arith, e, low, sized.threads)) ∙ h.halted;
    }

    -- A word of which there is one: those of locks and of waiting threads stay. What the four say then is asked.
    single_written : (line n : ℕ) (y : WordColumns) → 96 ≤ line → y.word ≡ x.word → y.wait ≡ x.wait
        → word_at (set ws (spot line) n) ticket_line ≡ y.next → word_at (set ws (spot line) n) awake_line ≡ y.awake
        → word_at (set ws (spot line) n) ended_line ≡ y.ended
        → word_at (set ws (spot line) n) halt_line ≡ one y.halted
        → RepresentsWords floor (set ws (spot line) n) y
    single_written line n y behind words waits ticket awake ended halted = record {
      locks = λ l low. ap word_of
          (word_there ws line n (lock_line l) (λ e. omega (arith, e, low, sized.locks, behind)))
          ∙ h.locks l low ∙ ap (λ (f : ℕ → Word). f l) (sym words);
      waits = λ t low. word_there ws line n (wait_line t) (λ e. omega (arith, e, low, sized.threads, behind))
          ∙ h.waits t low ∙ ap (λ (f : ℕ → Wait). wait_number (f t)) (sym waits);
      ticket = ticket;
      awake = awake;
      ended = ended;
      halted = halted;
    }

    -- the ticket word
    pub ticket_written : (n : ℕ) → spot ticket_line < length ws
        → RepresentsWords floor (set ws (spot ticket_line) n) (record x { next = n })
    ticket_written n fits =
        single_written ticket_line n (record x { next = n }) (omega arith) refl refl
        (word_here ws ticket_line n fits)
        (word_there ws ticket_line n awake_line (λ e. omega (arith, e)) ∙ h.awake)
        (word_there ws ticket_line n ended_line (λ e. omega (arith, e)) ∙ h.ended)
        (word_there ws ticket_line n halt_line (λ e. omega (arith, e)) ∙ h.halted)

    -- how many threads are awake
    pub awake_written : (n : ℕ) → spot awake_line < length ws
        → RepresentsWords floor (set ws (spot awake_line) n) (record x { awake = n })
    awake_written n fits =
        single_written awake_line n (record x { awake = n }) (omega arith) refl refl
        (word_there ws awake_line n ticket_line (λ e. omega (arith, e)) ∙ h.ticket)
        (word_here ws awake_line n fits)
        (word_there ws awake_line n ended_line (λ e. omega (arith, e)) ∙ h.ended)
        (word_there ws awake_line n halt_line (λ e. omega (arith, e)) ∙ h.halted)

    -- how many have ended
    pub ended_written : (n : ℕ) → spot ended_line < length ws
        → RepresentsWords floor (set ws (spot ended_line) n) (record x { ended = n })
    ended_written n fits =
        single_written ended_line n (record x { ended = n }) (omega arith) refl refl
        (word_there ws ended_line n ticket_line (λ e. omega (arith, e)) ∙ h.ticket)
        (word_there ws ended_line n awake_line (λ e. omega (arith, e)) ∙ h.awake)
        (word_here ws ended_line n fits)
        (word_there ws ended_line n halt_line (λ e. omega (arith, e)) ∙ h.halted)

    -- the halt word
    pub halt_written : (b : Bool) → spot halt_line < length ws
        → RepresentsWords floor (set ws (spot halt_line) (one b)) (record x { halted = b })
    halt_written b fits =
        single_written halt_line (one b) (record x { halted = b }) (omega arith) refl refl
        (word_there ws halt_line (one b) ticket_line (λ e. omega (arith, e)) ∙ h.ticket)
        (word_there ws halt_line (one b) awake_line (λ e. omega (arith, e)) ∙ h.awake)
        (word_there ws halt_line (one b) ended_line (λ e. omega (arith, e)) ∙ h.ended)
        (word_here ws halt_line (one b) fits)

-- 2. The latches, where none of them changes,
pub latches_stay : (ws : List ℕ) (n x : ℕ) → n < 128 → latch_word (set ws (spot n) x) ≡ latch_word ws
latches_stay ws n x before = λ i j. word_there ws n x (latch_line j) (λ e. omega arith) i

-- and where one does
pub latch_changes : (ws : List ℕ) (j x : ℕ) → spot (latch_line j) < length ws
    → latch_word (set ws (spot (latch_line j)) x) ≡ put (latch_word ws) j x
latch_changes ws j x fits = λ i k. at k i
  where
    at : (k : ℕ) → latch_word (set ws (spot (latch_line j)) x) k ≡ put (latch_word ws) j x k
    at k = elim (cases_eq j k) [
      | inl e ↦ subst (λ m. latch_word (set ws (spot (latch_line j)) x) m ≡ put (latch_word ws) j x m) e
          (word_here ws (latch_line j) x fits ∙ sym (put_same (latch_word ws) j x))
      | inr ne ↦ word_there ws (latch_line j) x (latch_line k) (λ e. ne (omega arith))
          ∙ sym (put_other (latch_word ws) j x k ne)
    ]
