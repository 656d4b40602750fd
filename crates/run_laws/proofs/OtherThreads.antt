-- A turn of a thread leaves the next operation, the walk, the marked list, the holds and the log of each other thread,
-- and so whether that one has ended.
use Rattle.run_laws.proofs.Names
use Names.{ℕ, Bool, not, nat_le, List, length, Option, Some, None, option_map, refl, sym, ap, any_below, is_empty}
use Names.{Config, config_of, operations_of, is_unheld, Hold, Mark, has_reversal, Walk, Run, Action, is_walking}
use Names.{waits_on, to_release, turn_of, has_ended, next_ops, run_after, run_behind, Plan, Entry, admitted, put_other}
use Rattle.std.proofs.Common.{◌≡◌, ◌≢◌, ◌&&◌, ◌||◌, ◌∙◌, is_some}
use Rattle.run_laws.proofs.Shares.{SameShare, AllBy, all_leave}
use Rattle.run_laws.proofs.Actions as actions

-- the steps of a thread's action are its own
acquiring : (plan : Plan) (r : Run) (t : ℕ) (action : Action) → actions.Acquires plan r t action → AllBy t action.steps
acquiring plan r t _ (actions.gains by i a f) = (refl, (refl, tt))
acquiring plan r t _ (actions.claims by i a f) = (refl, (refl, tt))
acquiring plan r t _ (actions.enters by i e (actions.on_turnstile x)) = (refl, (refl, tt))
acquiring plan r t _ (actions.enters by i e (actions.on_sleep_queue x)) = (refl, (refl, tt))

pub own_steps : (plan : Plan) (r : Run) (t : ℕ) (action : Action) → actions.Fits plan r t action → AllBy t action.steps
own_steps plan r t _ (actions.is_over e) = tt
own_steps plan r t _ (actions.lends l o h w e f) = (refl, tt)
own_steps plan r t _ (actions.ends_at_lock l w e) = (refl, tt)
own_steps plan r t _ (actions.shifts o l w e f) = (refl, tt)
own_steps plan r t _ (actions.ends_at_thread o w f) = (refl, tt)
own_steps plan r t _ (actions.marks m ms w e) = (refl, tt)
own_steps plan r t _ (actions.gives_up w e f (actions.drops x)) = (refl, tt)
own_steps plan r t _ (actions.gives_up w e f (actions.opens x y)) = (refl, tt)
own_steps plan r t _ (actions.gives_up w e f (actions.opens_sleep_queue x y)) = (refl, tt)
own_steps plan r t _ (actions.is_queued e f i) = tt
own_steps plan r t _ (actions.resumes q cause f e) = (refl, tt)
own_steps plan r t action (actions.acquires a) = acquiring plan r t action a
own_steps plan r t _ (actions.is_admitted {l} {mode} {action} b f a) =
    (refl, acquiring plan (admitted plan r t l) t action a)
own_steps plan r t _ (actions.is_refused k b f) = (refl, (refl, tt))
own_steps plan r t _ (actions.finds_busy l mode past i e) = (refl, (refl, tt))
own_steps plan r t _ (actions.releases l i (actions.drops x)) = (refl, (refl, tt))
own_steps plan r t _ (actions.releases l i (actions.opens x y)) = (refl, (refl, tt))
own_steps plan r t _ (actions.releases l i (actions.opens_sleep_queue x y)) = (refl, (refl, tt))
own_steps plan r t _ (actions.sleeps d i e) = (refl, (refl, (refl, tt)))
own_steps plan r t _ (actions.wakes d by i) = (refl, (refl, tt))
own_steps plan r t _ (actions.makes_entry op e i n) = (refl, tt)
own_steps plan r t _ (actions.gives_last_back h hs i e (actions.drops x)) = (refl, (refl, tt))
own_steps plan r t _ (actions.gives_last_back h hs i e (actions.opens x y)) = (refl, (refl, tt))
own_steps plan r t _ (actions.gives_last_back h hs i e (actions.opens_sleep_queue x y)) = (refl, (refl, tt))
own_steps plan r t _ (actions.has_nothing_left g i e) = tt
own_steps plan r t _ (actions.has_no_operation e i) = tt
own_steps plan r t _ (actions.is_at_endtry i) = tt

pub other_next : (plan : Plan) (r : Run) (t u : ℕ) → (t ≡ u → ⊥) → (next : Option ℕ)
    → next_ops (operations_of plan t) r.next_op t next u ≡ r.next_op u
other_next plan r t u ne None = refl
other_next plan r t u ne (Some i) = put_other r.next_op t _ u ne

abbrev ended_at : Config → ℕ → ℕ → Walk → List Mark → (ℕ → Hold) → List Entry → Bool
ended_at c count next walk marked held log =
    (nat_le count next || has_reversal log)
    && not (is_walking walk || not (is_empty marked) || is_some
    (to_release held (option_map c.chan_lock (waits_on log))))
    && not (any_below c.locks (λ l. not (is_unheld (held l))))

same_end : (plan : Plan) (u : ℕ) (r n : Run) → n.next_op u ≡ r.next_op u → SameShare (config_of plan) u r.state n.state
    → has_ended plan n u ≡ has_ended plan r u
unfolding has_ended
same_end plan u r n e share =
    let f : ℕ → Walk → List Mark → (ℕ → Hold) → List Entry
    → Bool = ended_at (config_of plan) (length (operations_of plan u)) in
    ap (λ x. f x (n.state.walk u) (n.state.marked u) (n.state.held u) (n.state.log u)) e
    ∙ ap (λ x. f (r.next_op u) x (n.state.marked u) (n.state.held u) (n.state.log u)) share.walk
    ∙ ap (λ x. f (r.next_op u) (r.state.walk u) x (n.state.held u) (n.state.log u)) share.marked
    ∙ ap (λ x. f (r.next_op u) (r.state.walk u) (r.state.marked u) x (n.state.log u)) share.held
    ∙ ap (f (r.next_op u) (r.state.walk u) (r.state.marked u) (r.state.held u)) share.log

pub ends_no_other : (plan : Plan) (r : Run) (t u : ℕ) → u ≢ t
    → has_ended plan (run_behind plan r t) u ≡ has_ended plan r u
unfolding run_behind
ends_no_other plan r t u n =
    let ne : t ≡ u → ⊥ = λ e. n (sym e) in
    let action = turn_of plan r t in
    same_end plan u r (run_after plan r t action) (other_next plan r t u ne action.next)
    (all_leave (config_of plan) u t r.state action.steps ne (own_steps plan r t action (actions.fits plan r t)))
