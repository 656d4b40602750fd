use Rattle.std.proofs.Common.{arith}
use Rattle.tick_sleep.proofs.LineStages.{two_stages}
use Rattle.tick_sleep.proofs.reader.Reader.judge_statement.Goals as goal

pub returns-in-Sleep-clause-fault : goal.returns-in-Sleep-clause-fault
returns-in-Sleep-clause-fault c = rw c.in-Sleep.is c.judge_sleep.ensures.fault

pub returns-in-Sleep-clause-taught : goal.returns-in-Sleep-clause-taught
returns-in-Sleep-clause-taught c = rw c.in-Sleep.is c.judge_sleep.ensures.taught

pub returns-in_err-test_sleeper-in-Sleeper-clause-fault : goal.returns-in_err-test_sleeper-in-Sleeper-clause-fault
returns-in_err-test_sleeper-in-Sleeper-clause-fault c =
    rw c.in-Sleeper.is (let f = two_stages _ _ _ c.in_ok-test_place-in-Sleeper.ensures
    c.in_err-test_sleeper-in-Sleeper.ensures.fault in grind (arith, f))
