-- Why a day ended, as C knows it.
use Rattle.std.specs.Prelude.{ℕ}
use Rattle.embed.specs.declared.stopped.Stopped.{Stopped}
use Rattle.embed.specs.declared.stopped.Stopped.TheVariants.{BadSetup, OutOfMemory, EventTooLong, Socket}

-- 0 is the end that the host wants
abbrev pub code_of : Stopped → ℕ
code_of BadSetup = 1
code_of OutOfMemory = 2
code_of EventTooLong = 3
code_of Socket = 4
