-- What a caller may ask for.
use Rattle.std.specs.Prelude.{ℕ, Bool, List, Option, Some, None, codes, if◌then◌else◌, option_and_then}
use Rattle.desk_talk.specs.declared.rights.Right.{Right}
use Rattle.desk_talk.specs.declared.rights.Right.TheVariants.{Read, Trade, Close, Halt}
use Rattle.desk_talk.specs.declared.rights.Rights.{Rights}
use Rattle.sweep_text.specs.declared.command.Command.{Command}
use Rattle.sweep_text.specs.declared.command.Command.TheVariants as command

-- whether a right is among those that a caller has
abbrev pub has_right : Rights → Right → Bool
has_right rights Read = rights.read
has_right rights Trade = rights.trade
has_right rights Close = rights.close
has_right rights Halt = rights.halt

-- the right that a command needs; a remark needs none
abbrev pub right_of : Command → Option Right
right_of command.Nothing = None
right_of command.Status = Some Read
right_of command.Close = Some Close
right_of (command.Sweep submission) = Some Trade

abbrev pub right_text : Right → List ℕ
right_text Read = codes "read"
right_text Trade = codes "trade"
right_text Close = codes "close"
right_text Halt = codes "halt"

-- the right that a command needs and that a caller lacks, if there is one
abbrev pub lacking : Rights → Command → Option Right
lacking rights command =
    option_and_then (λ right. if has_right rights right then None else Some right) (right_of command)
