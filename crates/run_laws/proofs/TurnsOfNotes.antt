-- The turns of a thread whose operation only makes an entry: the entry may be made, and the run stays on track.
use Rattle.run_laws.proofs.Names
use Names.{ℕ, true, false, length, Some, suc, refl, sym, not-true, passed, config_of, IsProper, hold_in, is_unheld}
use Names.{NotHeld, Holds, is_exclusive, Config, open_in, State, Running, MayAll, Asks, changes_sections, after_stamp}
use Names.{Run, notes, Excl, Op, Plan, Event, IsOnTrack, IsAtOperation, exclusive_is, held_is}
use Rattle.std.proofs.Common.{◌≡◌, ◌≢◌, ◌<◌, ◌∙◌}
use Rattle.lock_model.specs.declared.plan.Op.TheVariants as operation
use Rattle.lock_model.specs.declared.turn.StepKind.TheVariants as kind
use Rattle.run_laws.proofs.OnTrack.{KeepsTrack, LetsGoOn, lets_go_on, goes_on, ends_quietly, noted_behind, acting, awake, is_awake, all_open, holds_all, before, behind, left, fit, is_take, is_wait}
use Rattle.run_laws.proofs.Actions.{Notes, sets, adds, gets, changes_base, shows}

-- an operation that leaves what is held, is no take and no wait, and whose entry the sections allow; the entry
-- changes no section and lets its thread go on
pub record IsNoted (plan : Plan) (r : Run) (t : ℕ) (op : Op) (e : Event) : Type 0 where
  pub same : before plan r t ≡ behind plan r t
  pub asks : Asks (config_of plan) r.state t e
  pub no_take : is_take op ≡ false
  pub no_wait : is_wait op ≡ false
  pub quiet : changes_sections e ≡ false
  pub lets : LetsGoOn e

module _ (plan : Plan) (r : Run) (t : ℕ) (p : IsProper plan) (k : IsOnTrack plan r) (lt : t < length plan.threads) where
  abbrev c : Config
  c = config_of plan

  abbrev s : State
  s = r.state

  -- the section of a lock is open as the operations so far hold it
  module _ (op : Op) (i : IsAtOperation plan r t (Some op)) (no_wait : is_wait op ≡ false) where
    opened : (l : ℕ) → open_in c s.history t l ≡ hold_in (before plan r t) l
    opened l = let up = is_awake plan r t k op i no_wait in all_open plan r t k up.no_wait l ∙ holds_all plan r t k up l

    -- exclusively, or in some mode
    open_exclusive : (l : ℕ) → is_exclusive (hold_in (before plan r t) l) ≡ true → open_in c s.history t l ≡ Holds Excl
    open_exclusive l e = opened l ∙ exclusive_is (hold_in (before plan r t) l) e

    some_open : (l : ℕ) → is_unheld (hold_in (before plan r t) l) ≡ false → open_in c s.history t l ≢ NotHeld
    some_open l e z = held_is (hold_in (before plan r t) l) e (sym (opened l) ∙ z)

  pub is_noted : (op : Op) (e : Event) → Notes r t op e → IsAtOperation plan r t (Some op) → IsNoted plan r t op e
  is_noted _ _ (sets l key value) i =
      let f = fit plan r t p (operation.Set l key value) i.next in
      let exclusive = (passed _ _ (passed _ _ f.passes).1).0 in
      record {
        same = f.behind;
        asks = open_exclusive (operation.Set l key value) i refl l.0 exclusive;
        no_take = refl;
        no_wait = refl;
        quiet = refl;
        lets = lets_go_on refl refl refl;
      }
  is_noted _ _ (adds l key amount) i =
      let f = fit plan r t p (operation.Add l key amount) i.next in
      let exclusive = (passed _ _ (passed _ _ f.passes).1).0 in
      record {
        same = f.behind;
        asks = open_exclusive (operation.Add l key amount) i refl l.0 exclusive;
        no_take = refl;
        no_wait = refl;
        quiet = refl;
        lets = lets_go_on refl refl refl;
      }
  is_noted _ _ (gets l key) i =
      let f = fit plan r t p (operation.Get l key) i.next in
      let held = not-true (is_unheld (hold_in (before plan r t) l.0)) (passed _ _ f.passes).0 in
      record {
        same = f.behind;
        asks = (some_open (operation.Get l key) i refl l.0 held, refl);
        no_take = refl;
        no_wait = refl;
        quiet = refl;
        lets = lets_go_on refl refl refl;
      }
  is_noted _ _ (changes_base prio) i =
      record {
        same = (fit plan r t p (operation.Base prio) i.next).behind;
        asks = tt;
        no_take = refl;
        no_wait = refl;
        quiet = refl;
        lets = lets_go_on refl refl refl;
      }
  is_noted _ _ shows i = record {
    same = (fit plan r t p operation.Show i.next).behind;
    asks = record {
      its_base = refl;
      its_effective = refl;
      sections = λ l mode e. all_open plan r t k (awake plan r t k operation.Show i.next refl) l ∙ e;
    };
    no_take = refl;
    no_wait = refl;
    quiet = refl;
    lets = lets_go_on refl refl refl;
  }

  pub may_note_all : {op : Op} {e : Event} → s.wait t ≡ Running → IsNoted plan r t op e → MayAll c s (notes r t e).steps
  may_note_all running n = (record { thread = lt; acting = acting plan r t k running; asks = n.asks }, tt)

  pub noted_keeps : {op : Op} {e : Event} → IsAtOperation plan r t (Some op) → IsNoted plan r t op e
      → KeepsTrack plan r t (notes r t e)
  unfolding after_stamp
  noted_keeps {op} {e} i n = goes_on plan r t (suc (r.next_op t)) kind.Note (notes r t e).steps e k
      ((λ d f. refl), tt) k.lawful.nothing_out k.lawful.queued_stands (noted_behind plan r t e k)
      (ends_quietly plan r t (suc (r.next_op t)) op e _ k i (record {
        no_take = n.no_take;
        no_wait = n.no_wait;
        within = left plan r t op i.next;
        same = n.same;
        quiet = n.quiet;
        lets = n.lets;
      }) refl refl refl refl refl refl refl refl)
