use Rattle.std.proofs.Common.{◌≡◌, ℕ, true, length}
use Rattle.fix_text.specs.Reading.{fed}
use Rattle.exchange_sim.specs.Hearing.{heard_times}
use Rattle.exchange_sim.proofs.acceptor.Acceptor.receive.Given as goal

abbrev pub invariant-loop-number : goal.invariant-loop-number
invariant-loop-number g l =
    (count : ℕ)
    × (record { stream = l.self.reader; messages = l.self.messages; exchange = l.self.engine.exchange }
    ≡ heard_times (record {
      readers = (g.D.Dialect.wording l.fn.self.engine.dialect).decoding;
      fill = l.fn.self.engine.fill;
      lose = l.fn.self.plan.lose;
      connection = l.fn.self.connection;
    }) count (record {
      stream = fed l.fn.self.reader l.fn.bytes;
      messages = l.fn.self.messages;
      exchange = l.fn.self.engine.exchange;
    }))
    × (l.self.engine.dialect ≡ l.fn.self.engine.dialect)
    × (l.self.engine.fill ≡ l.fn.self.engine.fill)
    × (l.self.plan ≡ l.fn.self.plan)
    × (l.self.connection ≡ l.fn.self.connection)
    × (l.self.is_connected ≡ true)

abbrev pub decreases-loop-number : goal.decreases-loop-number
decreases-loop-number g l = length l.self.reader.rest
