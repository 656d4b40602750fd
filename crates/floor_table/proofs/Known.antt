-- What a thread's seat knows fits the state that the table represents.
use Rattle.std.proofs.Common.{◌≡◌, ℕ, suc, List, length, sym, ap, ◌∙◌, subst, inl, inr, arith}
use Rattle.std.proofs.lemmas.Bool.{cases_lt}
use mathlib.Core.Option.{some}
use lib.ListN.{get_elem?}
use Rattle.lock_state.specs.State.{State}
use Rattle.lock_state.specs.Steps.{Step}
use Rattle.floor_table.specs.declared.description.Description.{Description}
use Rattle.floor_table.specs.Past.{IsSeenBy, AreSeen}
use Rattle.floor_table.specs.Places.{latch_word, home_at}
use Rattle.floor_table.specs.Views.{OfThread, OfNobody, Knowledge, nothing}
use Rattle.floor_table.specs.Represents.{Board, IsPosed, Represents, RepresentsShare, thread_in}
use Rattle.floor_table.specs.Steps.{IsSound, HasJust, Fits, Makes}
use Rattle.floor_table.proofs.Lists.{at_or, or_past}
use Rattle.floor_table.proofs.Seats.{seat_of}
use Rattle.floor_table.proofs.Items.{has_just}

-- it has seen all steps up to its thread's last one
pub seen_of : (vs : List Knowledge) (past : List Step) (v : Knowledge) → thread_in vs v.thread ≡ v → AreSeen vs past
    → v.role ≡ OfThread → IsSeenBy v.thread v.seen past
seen_of vs past v here seen is = subst (λ (w : Knowledge). IsSeenBy v.thread w.seen past) here
    (seen.thread v.thread (ap (λ (w : Knowledge). w.role) here ∙ is))

pub fits_of : (floor : Description) (b : Board) {past : List Step} (s : State) (i : ℕ) (v : Knowledge)
    → IsSound floor past s → Represents floor b s → AreSeen b.views past → get_elem? b.views i ≡ some v
    → v.role ≡ OfThread
    → (i ≡ suc v.thread) × Fits floor v s
fits_of floor b {past} s i v sound r seen at is =
    let seat = seat_of floor b.views s r.seats i v at is in
    let here : thread_in b.views v.thread
    ≡ v = at_or b.views (suc v.thread) v nothing (subst (λ j. get_elem? b.views j ≡ some v) seat.0 at) in
    let just = has_just floor s (latch_word b.words) (home_at b.homes) (λ t. (thread_in b.views t).out) r.content
    v.thread r.latches r.shelves r.objects in (
      seat.0,
      record {
        sized = r.sizes.sized;
        past = past;
        sound = sound;
        seen = seen_of b.views past v here seen is;
        thread = seat.1;
        share = seat.2;
        out = subst (λ (w : Knowledge). HasJust floor w.out s v.thread) here just;
        pose = subst (λ (w : Knowledge). IsPosed w.pose (s.wait v.thread) (s.blocked_on v.thread)) here
            (r.seats.poses v.thread);
      },
    )

-- what a thread knew that made steps fits the state in which it made them
pub fits_made : (floor : Description) (steps : List Step) (old new : Knowledge) (m : Makes floor steps old new)
    → Fits floor old m.state
fits_made floor steps old new m =
    let s : State = m.state in
    let t : ℕ = old.thread in
    let vs : List Knowledge = m.before.views in
    let r = m.represents in
    let is : (thread_in vs t).role ≡ OfThread = ap (λ (w : Knowledge). w.role) m.was ∙ m.role in
    let just = has_just floor s (latch_word m.before.words) (home_at m.before.homes) (λ u. (thread_in vs u).out)
    r.content t r.latches r.shelves r.objects in
    record {
      sized = r.sizes.sized;
      past = m.past;
      sound = m.sound;
      seen = m.since;
      thread = elim (cases_lt (suc t) (length vs)) [
        | inl fits ↦ omega (arith, fits, r.seats.made, r.seats.few)
        | inr past ↦ absurd (let z : OfNobody ≡ OfThread = ap (λ (w : Knowledge). w.role)
            (sym (or_past vs (suc t) nothing past)) ∙ is in cc)
      ];
      share = subst (λ (w : Knowledge). RepresentsShare w.share s t) m.was (r.seats.thread t is).share;
      out = subst (λ (w : Knowledge). HasJust floor w.out s t) m.was just;
      pose = subst (λ (w : Knowledge). IsPosed w.pose (s.wait t) (s.blocked_on t)) m.was (r.seats.poses t);
    }
