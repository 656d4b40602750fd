-- The numbers by which C is told why a floor isn't opened.
use Rattle.std.specs.Prelude.{ℕ}
use Rattle.floor_calls.specs.declared.opening.NotOpened.TheVariants.{NoMemory, Unfit as IsUnfit}
use Rattle.floor_calls.specs.declared.unfit.Unfit.{Unfit}
use Rattle.floor_calls.specs.declared.unfit.Unfit.TheVariants.{ManyThreads, ManyLocks, ManyChannels, HighClass, ManyKeys, UnsortedKeys, MuchRoom, NotOneChain}
use Rattle.lockrun_c.specs.declared.misfits.Misfit.{Misfit}
use Rattle.lockrun_c.specs.declared.misfits.Misfit.TheVariants.{Memory, NoName, NameTwice, NoKind, NoLock, ManyClasses}
use Rattle.lockrun_c.specs.declared.misfits.Refused.{Refused}
use Rattle.lockrun_c.specs.declared.misfits.Refused.TheVariants.{Rows, Floor}

abbrev pub code_of_unfit : Unfit → ℕ
code_of_unfit ManyThreads = 69
code_of_unfit ManyLocks = 70
code_of_unfit ManyChannels = 71
code_of_unfit HighClass = 72
code_of_unfit ManyKeys = 73
code_of_unfit UnsortedKeys = 74
code_of_unfit MuchRoom = 75
code_of_unfit NotOneChain = 76

abbrev pub code_of_misfit : Misfit → ℕ
code_of_misfit Memory = 16
code_of_misfit NoName = 64
code_of_misfit NameTwice = 65
code_of_misfit NoKind = 66
code_of_misfit NoLock = 67
code_of_misfit ManyClasses = 68

abbrev pub code_of_refused : Refused → ℕ
code_of_refused (Rows why) = code_of_misfit why
code_of_refused (Floor NoMemory) = 16
code_of_refused (Floor (IsUnfit why)) = code_of_unfit why
