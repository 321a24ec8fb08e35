-- What a venue and a world keep.
use Rattle.std.specs.Prelude.{◌≡◌, ℕ, List, [], ◌∷◌, Option, Some, None, IfSome}
use Rattle.std.specs.List.{AllByRecursion}
use Rattle.dialect.specs.Wording.{Encoding}
use Rattle.exchange_core.specs.Exchange.{ExchangeParts, live_connection}
use Rattle.exchange_core.specs.Sound as exchange
use Rattle.session_core.specs.Session.{SessionParts}
use Rattle.session_core.specs.Sound as session
use Rattle.venue_replay.specs.declared.frame.Frame.{Frame}
use Rattle.venue_replay.specs.Network.{IsWritten}

-- the connection of the last frame, if there is one
abbrev pub last_connection : List Frame → Option ℕ
last_connection [] = None
last_connection (frame ∷ []) = Some frame.connection
last_connection (frame ∷ next ∷ frames) = last_connection (next ∷ frames)

-- both ends keep their promises, each frame was written, and the exchange's last one in its live connection
pub record IsKept (w : Encoding) (s : SessionParts) (x : ExchangeParts) (to from : List Frame) : Type 0 where
  pub session : session.IsSound s
  pub exchange : exchange.IsSound x
  pub to_exchange : AllByRecursion (IsWritten w) to
  pub from_exchange : AllByRecursion (IsWritten w) from
  pub live : IfSome (live_connection x) (λ connection. last_connection from ≡ Some connection)
