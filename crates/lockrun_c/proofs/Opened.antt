-- A floor that was opened for rows, whose threads are to be handed out from the last on.
use Rattle.std.proofs.Common.{◌≡◌, ℕ, ◌<◌, List, [], length, reverse, sym, ap, subst, ◌∙◌}
use Rattle.std.specs.Prelude.{slice_index_or}
use Rattle.std.proofs.lemmas.List.{length-map, length-reverse, reverse-reverse}
use Rattle.floor_calls.specs.Openings.{first_thread}
use Rattle.floor_calls.specs.Threads.{Thread}
use Rattle.floor_table.specs.declared.description.Description.{Description}
use Rattle.lockrun_c.specs.Naming.{IsNamedFor}
use Rattle.lockrun_c.specs.Openings.{IsHouseFor, description_of, thread_part}
use Rattle.lockrun_c.specs.declared.content.House.{House}
use Rattle.lockrun_c.specs.declared.rows.ChanRow.{ChanRow}
use Rattle.lockrun_c.specs.declared.rows.KeyRow.{KeyRow}
use Rattle.lockrun_c.specs.declared.rows.LockRow.{LockRow}
use Rattle.lockrun_c.specs.declared.rows.ThreadRow.{ThreadRow}

module _ (threads : List ThreadRow) (locks : List LockRow) (chans : List ChanRow)
    (keys : List KeyRow) (house : House) (floor : Description) (all : List Thread)
    (named : IsNamedFor threads locks chans house.names)
    (described : floor ≡ description_of house.names threads keys)
    (of : house.floor.floor.description ≡ floor) (none : house.floor.keeper.view.gathered ≡ [])
    (turned : house.waiting.items ≡ reverse all) (count : length all ≡ length floor.threads)
    (first : (t : ℕ) (d : Thread) → t < length floor.threads
    → slice_index_or all t d ≡ first_thread house.floor.floor t) where
  many : length floor.threads ≡ length threads
  many = ap (λ (x : Description). length x.threads) described ∙ length-map threads thread_part

  back : reverse house.waiting.items ≡ all
  back = ap reverse turned ∙ reverse-reverse all

  pub is_for : IsHouseFor threads locks chans keys house
  is_for = record {
    names = named;
    description = of ∙ described;
    none_gathered = none;
    count = ap length turned ∙ length-reverse all ∙ count ∙ many;
    waiting = λ t d lt. ap (λ xs. slice_index_or xs t d) back ∙ first t d (subst (λ n. t < n) (sym many) lt);
  }
