-- The thread that makes a step, and what each other thread has left of its own behind it: its holds, its log with the
-- sections in it, what it wants and takes, what it has to note, its walk and its marked list. It doesn't begin to run.
use Rattle.run_laws.proofs.Names
use Names.{ℕ, Bool, true, false, List, [], refl, sym, ap, ⊤, Config, sections_in, State, Running, Step, Seeks, Gains}
use Names.{Drops, Stamps, Readies, Unreadies, Enters, Opens, EntersSleepQueue, OpensSleepQueue, Wakes, Marks, Resumes}
use Names.{Claims, Lends, Shifts, EndsWalk, Admits, Refuses, Halts, Aborts, after, after_all, maker, after_take}
use Names.{after_give, after_seek, after_look, after_gain, after_drop, after_stamp, after_ready, after_unready}
use Names.{begun_with, after_enter, after_open, after_mark, after_resume, after_enter_sleep, after_open_sleep}
use Names.{after_add, after_wake, after_abort, after_claim, after_lend, after_shift, after_end_walk, after_admit}
use Names.{after_refuse, after_count_out, after_count_in, after_count_self_in, after_count_end, after_halt, HaltNobody}
use Names.{OfSection, NoSection, BeginsIn, EndsFrom, LeftFor, TakenBack, facets, at_put, put_other, put_at_other}
use Names.{put_at_row, other_sections, arith}
use Rattle.std.proofs.Common.{◌≡◌, ◌∷◌, ◌∙◌}

-- whether a step sets the halt word
abbrev pub sets_halt : Step → Bool
sets_halt (Halts t) = true
sets_halt other = false

-- a list of steps of one thread, none of which sets the halt word
abbrev pub AllBy : ℕ → List Step → Type 0
AllBy t [] = ⊤
AllBy t (step ∷ steps) = ◌≡◌ {A = ℕ × Bool} (maker step, sets_halt step) (t, false) × AllBy t steps

pub halt_nobody : (t : ℕ) (steps : List Step) → AllBy t steps → HaltNobody steps
halt_nobody t [] by = tt
halt_nobody t (step ∷ steps) by = (
  λ u e. let z : true ≡ false = sym (ap sets_halt e) ∙ ap (λ p. p.1) by.0 in cc,
  halt_nobody t steps by.1,
)

-- both states have the same of thread u, and it runs in n only where it did in s
pub record SameShare (c : Config) (u : ℕ) (s n : State) : Type 0 where
  pub held : n.held u ≡ s.held u
  pub held_locks : n.held_locks u ≡ s.held_locks u
  pub log : n.log u ≡ s.log u
  pub sections : (l : ℕ) → sections_in c n.history u l ≡ sections_in c s.history u l
  pub has_begun : n.has_begun u ≡ s.has_begun u
  pub wanted : n.wanted u ≡ s.wanted u
  pub taking : n.taking u ≡ s.taking u
  pub noted : n.noted u ≡ s.noted u
  pub walk : n.walk u ≡ s.walk u
  pub marked : n.marked u ≡ s.marked u
  pub running : n.wait u ≡ Running → s.wait u ≡ Running

begun_other : (c : Config) (x : OfSection) (t : ℕ) (f : ℕ → ℕ → Bool) (u l : ℕ) → (t ≡ u → ⊥)
    → begun_with c x t f u l ≡ f u l
begun_other c NoSection t f u l ne = refl
begun_other c (BeginsIn k mode) t f u l ne = put_at_other f t k true u l ne
begun_other c (EndsFrom k mode) t f u l ne = refl
begun_other c (LeftFor d) t f u l ne = refl
begun_other c (TakenBack d) t f u l ne = put_at_other f t (c.chan_lock d) true u l ne

module _ (c : Config) (u : ℕ) where
  same : (s : State) → SameShare c u s s
  same s = record {
    held = refl;
    held_locks = refl;
    log = refl;
    sections = λ l. refl;
    has_begun = refl;
    wanted = refl;
    taking = refl;
    noted = refl;
    walk = refl;
    marked = refl;
    running = λ e. e;
  }

  -- one step, of another thread
  pub leaves : (s : State) (step : Step) → (maker step ≡ u → ⊥) → SameShare c u s (after c s step)
  unfolding after_seek after_look after_take after_give after_gain after_drop after_stamp after_ready after_unready
      after_enter after_open after_mark after_resume after_enter_sleep after_open_sleep after_add after_wake after_claim
      after_lend after_shift after_end_walk after_admit after_refuse after_count_out after_count_in after_count_self_in
      after_count_end after_halt after_abort
  leaves s (Seeks t l by_try) ne =
      record {
        held = refl;
        held_locks = refl;
        log = refl;
        sections = λ l. refl;
        has_begun = refl;
        wanted = refl;
        taking = put_other s.taking t _ u ne;
        noted = refl;
        walk = refl;
        marked = refl;
        running = λ e. e;
      }
  leaves s (Gains t l mode by_try) ne = record {
    held = put_at_row s.held t l _ u ne;
    held_locks = put_other s.held_locks t _ u ne;
    log = refl;
    sections = λ l. refl;
    has_begun = put_at_row s.has_begun t l _ u ne;
    wanted = put_other s.wanted t _ u ne;
    taking = refl;
    noted = refl;
    walk = refl;
    marked = refl;
    running = λ e. e;
  }
  leaves s (Drops t l mode) ne = record {
    held = put_at_row s.held t l _ u ne;
    held_locks = put_other s.held_locks t _ u ne;
    log = refl;
    sections = λ l. refl;
    has_begun = refl;
    wanted = refl;
    taking = refl;
    noted = refl;
    walk = refl;
    marked = refl;
    running = λ e. e;
  }
  leaves s (Stamps t e) ne =
      record {
        held = refl;
        held_locks = refl;
        log = put_other s.log t _ u ne;
        sections = λ l. other_sections c s t e u l ne;
        has_begun = λ i l. begun_other c (facets e).section t s.has_begun u l ne i;
        wanted = refl;
        taking = put_other s.taking t _ u ne;
        noted = put_other s.noted t _ u ne;
        walk = refl;
        marked = refl;
        running = λ e. e;
      }
  leaves s (Readies t q) ne = record {
    held = refl;
    held_locks = refl;
    log = refl;
    sections = λ l. refl;
    has_begun = refl;
    wanted = refl;
    taking = refl;
    noted = refl;
    walk = refl;
    marked = refl;
    running = λ e. sym (put_other s.wait t _ u ne) ∙ e;
  }
  leaves s (Unreadies t q) ne = record {
    held = refl;
    held_locks = refl;
    log = refl;
    sections = λ l. refl;
    has_begun = refl;
    wanted = refl;
    taking = refl;
    noted = refl;
    walk = refl;
    marked = refl;
    running = λ e. sym (put_other s.wait t _ u ne) ∙ e;
  }
  leaves s (Enters t l mode x) ne = record {
    held = refl;
    held_locks = refl;
    log = refl;
    sections = λ l. refl;
    has_begun = refl;
    wanted = put_other s.wanted t _ u ne;
    taking = refl;
    noted = refl;
    walk = put_other s.walk t _ u ne;
    marked = refl;
    running = λ e. e;
  }
  leaves s (Opens t l mode) ne = record {
    held = put_at_row s.held t l _ u ne;
    held_locks = put_other s.held_locks t _ u ne;
    log = refl;
    sections = λ l. refl;
    has_begun = refl;
    wanted = refl;
    taking = refl;
    noted = refl;
    walk = refl;
    marked = put_other s.marked t _ u ne;
    running = λ e. e;
  }
  leaves s (EntersSleepQueue t l mode x) ne = record {
    held = refl;
    held_locks = refl;
    log = refl;
    sections = λ l. refl;
    has_begun = refl;
    wanted = put_other s.wanted t _ u ne;
    taking = refl;
    noted = refl;
    walk = refl;
    marked = refl;
    running = λ e. e;
  }
  leaves s (OpensSleepQueue t l mode) ne = record {
    held = put_at_row s.held t l _ u ne;
    held_locks = put_other s.held_locks t _ u ne;
    log = refl;
    sections = λ l. refl;
    has_begun = refl;
    wanted = refl;
    taking = refl;
    noted = refl;
    walk = refl;
    marked = put_other s.marked t _ u ne;
    running = λ e. e;
  }
  leaves s (Wakes t d all) ne = record {
    held = refl;
    held_locks = refl;
    log = refl;
    sections = λ l. refl;
    has_begun = refl;
    wanted = refl;
    taking = refl;
    noted = refl;
    walk = refl;
    marked = put_other s.marked t _ u ne;
    running = λ e. e;
  }
  leaves s (Marks t m ms) ne = record {
    held = refl;
    held_locks = refl;
    log = refl;
    sections = λ l. refl;
    has_begun = refl;
    wanted = refl;
    taking = refl;
    noted = refl;
    walk = refl;
    marked = put_other s.marked t _ u ne;
    running = at_put (λ v w. w ≡ Running → s.wait v ≡ Running) s.wait m.thread _ (λ e. absurd cc) (λ v n e. e) u;
  }
  leaves s (Resumes t q cause) ne = record {
    held = refl;
    held_locks = refl;
    log = refl;
    sections = λ l. refl;
    has_begun = refl;
    wanted = put_other s.wanted t _ u ne;
    taking = put_other s.taking t _ u ne;
    noted = put_other s.noted t _ u ne;
    walk = refl;
    marked = refl;
    running = λ e. sym (put_other s.wait t _ u ne) ∙ e;
  }
  leaves s (Claims t l h by_try) ne = record {
    held = put_at_row s.held t l _ u ne;
    held_locks = put_other s.held_locks t _ u ne;
    log = refl;
    sections = λ l. refl;
    has_begun = put_at_row s.has_begun t l _ u ne;
    wanted = put_other s.wanted t _ u ne;
    taking = refl;
    noted = refl;
    walk = refl;
    marked = refl;
    running = λ e. e;
  }
  leaves s (Lends t l o h) ne = record {
    held = refl;
    held_locks = refl;
    log = refl;
    sections = λ l. refl;
    has_begun = refl;
    wanted = refl;
    taking = refl;
    noted = refl;
    walk = put_other s.walk t _ u ne;
    marked = refl;
    running = λ e. e;
  }
  leaves s (Shifts t o l) ne = record {
    held = refl;
    held_locks = refl;
    log = refl;
    sections = λ l. refl;
    has_begun = refl;
    wanted = refl;
    taking = refl;
    noted = refl;
    walk = put_other s.walk t _ u ne;
    marked = refl;
    running = λ e. e;
  }
  leaves s (EndsWalk t) ne = record {
    held = refl;
    held_locks = refl;
    log = refl;
    sections = λ l. refl;
    has_begun = refl;
    wanted = refl;
    taking = refl;
    noted = refl;
    walk = put_other s.walk t _ u ne;
    marked = refl;
    running = λ e. e;
  }
  leaves s (Admits t l) ne = record {
    held = refl;
    held_locks = refl;
    log = refl;
    sections = λ l. refl;
    has_begun = refl;
    wanted = put_other s.wanted t _ u ne;
    taking = put_other s.taking t _ u ne;
    noted = refl;
    walk = refl;
    marked = refl;
    running = λ e. e;
  }
  leaves s (Refuses t l k) ne = record {
    held = refl;
    held_locks = refl;
    log = refl;
    sections = λ l. refl;
    has_begun = refl;
    wanted = refl;
    taking = refl;
    noted = put_other s.noted t _ u ne;
    walk = refl;
    marked = refl;
    running = λ e. e;
  }
  leaves s (Aborts t q side w) ne =
      record {
        held = refl;
        held_locks = refl;
        log = refl;
        sections = λ l. refl;
        has_begun = refl;
        wanted = refl;
        taking = refl;
        noted = refl;
        walk = refl;
        marked = put_other s.marked t _ u ne;
        running = λ e. e;
      }
  leaves s other ne = assumption (same s)

  behind : {s m n : State} → SameShare c u s m → SameShare c u m n → SameShare c u s n
  behind a b = grind arith

  -- and a list of steps of another thread
  pub all_leave : (t : ℕ) (s : State) (steps : List Step) → (t ≡ u → ⊥) → AllBy t steps
      → SameShare c u s (after_all c s steps)
  all_leave t s [] ne by = same s
  all_leave t s (step ∷ steps) ne by =
      behind (leaves s step (λ e. ne (sym (ap (λ p. p.0) by.0) ∙ e))) (all_leave t (after c s step) steps ne by.1)
