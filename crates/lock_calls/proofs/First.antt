-- A pass is ready as it is made.
use Rattle.lock_calls.proofs.Names.{ℕ, refl, sections_in, Description, Floor, first_pass}
use Rattle.lock_floor.specs.Passes.{IsReady}

pub ready_first : (f : Floor Description) (t : ℕ) → IsReady f (first_pass f.table f.description t)
unfolding sections_in
ready_first f t = record {
  own = record { table = refl; description = refl; unfinished = refl };
  rest = record {
    runs = refl;
    nothing_out = refl;
    no_walk = refl;
    unmarked = refl;
    uncounted = refl;
    wants_nothing = refl;
    takes_nothing = refl;
    no_round = refl;
    no_looks = refl;
    no_last_look = refl;
    unnoted = refl;
    going = record { awake = refl; unended = refl; stamped = refl };
    no_wait = refl;
    sections = λ l. refl;
    begun = λ l held. absurd (held refl);
  };
}
