-- What a status says of the source of a call, and of what was written.
use Rattle.std.specs.Prelude.{Bool, true, false}
use Rattle.complaints.specs.declared.status.Status.{Status}
use Rattle.complaints.specs.declared.status.Status.TheVariants.{Done, BadScript, ReadFault, WriteFault, NoMemory, Stuck, Reversed, TooLong, TooBig, Usage}

-- the status comes only where the source was read to its end
abbrev pub reads_all : Status → Bool
reads_all Done = true
reads_all BadScript = true
reads_all ReadFault = false
reads_all WriteFault = true
reads_all NoMemory = false
reads_all Stuck = true
reads_all Reversed = true
reads_all TooLong = true
reads_all TooBig = false
reads_all Usage = false

-- the status says why the source wasn't read to its end
abbrev pub tells_of_reading : Status → Bool
tells_of_reading Done = false
tells_of_reading BadScript = false
tells_of_reading ReadFault = true
tells_of_reading WriteFault = false
tells_of_reading NoMemory = true
tells_of_reading Stuck = false
tells_of_reading Reversed = false
tells_of_reading TooLong = false
tells_of_reading TooBig = true
tells_of_reading Usage = false

-- something may be written, by a program that writes nothing but what it made of a whole script
abbrev pub writes_made : Status → Bool
writes_made Done = true
writes_made BadScript = false
writes_made ReadFault = false
writes_made WriteFault = true
writes_made NoMemory = false
writes_made Stuck = false
writes_made Reversed = false
writes_made TooLong = false
writes_made TooBig = false
writes_made Usage = false
