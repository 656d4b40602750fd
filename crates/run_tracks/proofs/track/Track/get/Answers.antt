use Rattle.std.proofs.Common.{ap, sym, ◌∙◌}
use Rattle.run_tracks.specs.Tracks.{value_in, IsTrack}
use Rattle.run_tracks.proofs.Changes.{found_in, some_up_to}
use Rattle.run_tracks.proofs.track.Track.get.Goals as goal

pub returns : goal.returns
returns g c =
    let xs = c.changes-changes.result.now in
    let i = c.count_up_to-behind.result in
    let found = c.count_up_to-behind.ensures in
    let track : IsTrack xs = rw c.changes-changes.ensures.changes c.changes-changes.ensures.track in
    ap (value_in c.args.row) (sym c.changes-changes.ensures.changes)
    ∙ found_in c.args.row xs i c.index-changes-behind.result found.up_to (some_up_to c.args.row xs i track found.up_to)
    found.within
