use Rattle.std.proofs.Common.{◌≡◌, flat_map, map, take}
use Rattle.std.specs.String.{string_bytes}
use Rattle.plan_command.specs.Forms.{spelled_out}
use Rattle.plan_command.proofs.spelling.spelled_out.Given as goal

-- those so far
abbrev pub invariant-loop-word : goal.invariant-loop-word
invariant-loop-word l =
    map string_bytes l.spelled.items ≡ flat_map spelled_out (map string_bytes (take l.word-index l.words))
