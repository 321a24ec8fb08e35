-- What is done with a message, all in one.
use Rattle.std.proofs.Common.{ℕ}
use Rattle.dialect.specs.declared.message.Message.{Message}
use Rattle.exchange_core.specs.Exchange.{ExchangeParts, take}
use Rattle.exchange_core.specs.Keeping.{IsLastLive, IsAnswer}
use Rattle.exchange_core.proofs.After.{take_after}
use Rattle.exchange_core.proofs.Takes.{take_keeps}
use Rattle.exchange_core.proofs.Sound.{take_sound, take_numbered}
use Rattle.exchange_core.proofs.Closing.{take_marked}

pub take_answers : (x : ExchangeParts) (connection : ℕ) (m : Message) → IsLastLive x → IsAnswer x connection m (take x connection m)
take_answers x connection m sound = record {
  allowed = take_keeps x connection m sound;
  after = take_after x connection m;
  live = take_sound x connection m sound;
  numbered = take_numbered x connection m;
  marked = take_marked x connection m;
}
