use Rattle.lockrun_c.proofs.Named.{is_spelled}
use Rattle.lockrun_c.proofs.naming.named.Goals as goal

pub returns-in-Some : goal.returns-in-Some
returns-in-Some c = is_spelled c.args.bytes.now c.in-Some.name c.in-Some.ensures
