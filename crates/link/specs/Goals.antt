-- Where a link dials, and whose turn it is.
use Rattle.std.specs.Prelude.{◌≡◌, ℕ, ◌+◌, ◌-◌, [], ◌∷◌, length, nat_lt, if◌then◌else◌}
use Rattle.std.specs.declared.net.socket_addr.SocketAddr.{SocketAddr}
use Rattle.link.specs.Hosts.{AreOfTurn}
use Rattle.link.specs.declared.goal.Goal.{Goal}
use Rattle.link.specs.declared.goal.Goal.TheVariants.{At, Hosts}

-- in this turn a link may dial this address: it is its own, or the host whose turn it is stands for it
abbrev pub LeadsTo : Goal → ℕ → SocketAddr → Type 0
LeadsTo (At there) turn addr = addr ≡ there
LeadsTo (Hosts hosts) turn addr = AreOfTurn hosts.items turn (addr ∷ [])

-- whose turn comes next: behind the last host it is the first one's again
abbrev pub next_turn : Goal → ℕ → ℕ
next_turn (At there) turn = 0
next_turn (Hosts hosts) turn = if nat_lt turn (length hosts.items - 1) then turn + 1 else 0
