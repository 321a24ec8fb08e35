-- What a simulated exchange makes of the bytes that come.
use Rattle.std.specs.Prelude.{◌≡◌, ℕ, zero, suc, ◌+◌, min, Bool, true, false, List, [], Option, Some, None, ◌==◌, if◌then◌else◌}
use Rattle.fix_text.specs.Reading.{Stream, next_read}
use Rattle.fix_text.specs.Tagged.{Tagged}
use Rattle.fix_tags.specs.Reading.{envelope_read}
use Rattle.dialect.specs.Wording.{Decoding}
use Rattle.exchange_core.specs.Exchange.{ExchangeParts, drop_connection}
use Rattle.exchange_sim.specs.Dealing.{takes_frame}

-- the bytes that were not read yet, how many messages were read, and the exchange
pub record Hearing : Type 0 where
  pub stream : Stream
  pub messages : ℕ
  pub exchange : ExchangeParts

-- how orders are read, how many shares of one are traded, which message is lost, and in which connection they come
pub record Manner : Type 0 where
  pub readers : Decoding
  pub fill : ℕ
  pub lose : ℕ
  pub connection : ℕ

-- a message more was read, up to the greatest count
abbrev pub one_more : ℕ → ℕ
one_more count = min (count + 1) 18446744073709551615

-- a frame of these fields is taken, or lost if it is the message that is to be lost
abbrev pub takes_or_loses : Manner → ℕ → List Tagged → ExchangeParts → ExchangeParts
takes_or_loses how number fields x =
    if number == how.lose then x else takes_frame how.readers how.fill how.connection x (envelope_read fields)

-- a frame was read, if there is one
abbrev pub heard : Manner → Option (List Tagged) → Hearing → Hearing
heard how None h = h
heard how (Some fields) h = record {
  stream = h.stream;
  messages = one_more h.messages;
  exchange = takes_or_loses how (one_more h.messages) fields h.exchange;
}

-- the next frame of the stream is read
abbrev pub next_heard : Manner → Hearing → Hearing
next_heard how h = heard how (next_read h.stream).frame (record h { stream = (next_read h.stream).stream })

-- so many frames are read, one after the other
abbrev pub heard_times : Manner → ℕ → Hearing → Hearing
heard_times how zero h = h
heard_times how (suc count) h = next_heard how (heard_times how count h)

-- the connection is cut
abbrev pub cut_off : Hearing → Hearing
cut_off h = record {
  stream = record { rest = []; skipped = 0; garbled = 0 };
  messages = h.messages;
  exchange = drop_connection h.exchange;
}

-- where reading stops, and whether the connection is still there then: no frame is left, or the connection is cut
-- behind the message of this number
abbrev pub Stops : Manner → ℕ → Hearing → Bool → Hearing → Type 0
Stops how cut_after h true after = ((next_read h.stream).frame ≡ None) × (after ≡ next_heard how h)
Stops how cut_after h false after = (h.messages ≡ cut_after) × (after ≡ cut_off h)

-- some frames are read, one after the other, up to there
pub record Hears (how : Manner) (cut_after : ℕ) (before : Hearing) (is_connected : Bool) (after : Hearing)
    : Type 0 where
  pub count : ℕ
  pub stops : Stops how cut_after (heard_times how count before) is_connected after
