use Rattle.std.proofs.Common.{leb, true, false, rules, ◌≡◌, get_or}
use Rattle.std.specs.List.Sorted.{IsPartitionPoint}
use Rattle.std.proofs.lemmas.Bool.{leb-false, leb-true}
use Rattle.std.proofs.lemmas.List.Sorted.{IsPartitionedBy-leb, IsPartitionPoint-from_clause}
use Rattle.run_tracks.proofs.Changes.{rows_rise}
use Rattle.run_tracks.proofs.track.count_up_to.Goals as goal

pub returns-clause-up_to : goal.returns-clause-up_to
returns-clause-up_to g c =
    let xs = c.args.changes.now in
    let row = c.args.row in
    let found : IsPartitionPoint (λ x. leb x.0 row ≡ true) (λ x. leb x.0 row ≡ false) xs c.partition_point.result =
    IsPartitionPoint-from_clause (λ x. leb x.0 row) xs c.partition_point.result c.partition_point.ensures.partitioned
    (IsPartitionedBy-leb (λ x. x.0) xs row (rows_rise xs c.requires))
    (λ a r f k. search rules) in (
      λ k d low high. leb-true (get_or xs k d).0 row (found.0 k d low high),
      λ k d low high. leb-false (get_or xs k d).0 row (found.1 k d low high),
    )
