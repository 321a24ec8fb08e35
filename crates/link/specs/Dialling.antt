-- The codes under which it is kept why a dial failed.
use Rattle.std.specs.Prelude.{List, [], ◌∷◌}
use Rattle.link.specs.declared.dial_error.DialError.{DialError}
use Rattle.link.specs.declared.dial_error.DialError.TheVariants.{Refused, TimedOut, HostUnreachable, NetworkUnreachable, NoSuchHost, Other}

-- why a dial may fail, each at the place of its code
abbrev pub dial_errors : List DialError
dial_errors = Refused ∷ TimedOut ∷ HostUnreachable ∷ NetworkUnreachable ∷ NoSuchHost ∷ Other ∷ []
