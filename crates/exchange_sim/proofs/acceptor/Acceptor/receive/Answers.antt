use Rattle.std.proofs.Common.{◌≡◌, suc, sym, ap, ◌∙◌}
use Rattle.fix_text.specs.Reading.{fed, next_read}
use Rattle.exchange_sim.specs.Hearing.{Hearing, Manner}
use Rattle.exchange_sim.proofs.Listening.{heard_more, number_is, cut_behind}
use Rattle.exchange_sim.proofs.acceptor.Acceptor.receive.Goals as goal

pub returns-then-number-self-clause-hears : goal.returns-then-number-self-clause-hears
returns-then-number-self-clause-hears g c =
    let acceptor = c.args.self.now in
    let how : Manner = record {
      readers = (g.D.Dialect.wording acceptor.engine.dialect).decoding;
      fill = acceptor.engine.fill;
      lose = acceptor.plan.lose;
      connection = acceptor.connection;
    } in
    let start : Hearing = record { stream = fed acceptor.reader c.args.bytes.now; messages = acceptor.messages; exchange = acceptor.engine.exchange } in
    let at = c.loop-number.self in
    let before : Hearing = record { stream = at.reader; messages = at.messages; exchange = at.engine.exchange } in
    let next = c.take_next.new.self in
    let after : Hearing = record { stream = next.reader; messages = next.messages; exchange = next.engine.exchange } in
    let kept = c.loop-number.invariant in
    let same = c.in_ok-number.ensures.same in
    let heard = rw (kept.2, kept.3, kept.4, kept.5) at c.in_ok-number.ensures.heard in
    let number = number_is c.in-Some.number next.messages (next_read at.reader).frame (sym c.in-Some.is ∙ c.in_ok-number.ensures.number) in
    let last = sym number ∙ (c.if-number-self.true ∙ ap (λ p. p.cut_after) (same.2 ∙ kept.4)) in
    λ connected.
    cut_behind how acceptor.plan.cut_after (suc kept.0) start after c.disconnect.new.self.is_connected c.disconnect.new.self.reader
    c.disconnect.new.self.messages c.disconnect.new.self.engine.exchange (heard_more how kept.0 start before after kept.1 heard) last
    c.disconnect.ensures.connected c.disconnect.ensures.reader c.disconnect.ensures.messages c.disconnect.ensures.exchange

pub loop-number-preserved : goal.loop-number-preserved
loop-number-preserved g c =
    let acceptor = c.args.self.now in
    let how : Manner = record {
      readers = (g.D.Dialect.wording acceptor.engine.dialect).decoding;
      fill = acceptor.engine.fill;
      lose = acceptor.plan.lose;
      connection = acceptor.connection;
    } in
    let start : Hearing = record { stream = fed acceptor.reader c.args.bytes.now; messages = acceptor.messages; exchange = acceptor.engine.exchange } in
    let at = c.loop-number.self in
    let before : Hearing = record { stream = at.reader; messages = at.messages; exchange = at.engine.exchange } in
    let next = c.take_next.new.self in
    let after : Hearing = record { stream = next.reader; messages = next.messages; exchange = next.engine.exchange } in
    let kept = c.loop-number.invariant in
    let same = c.in_ok-number.ensures.same in
    let heard = rw (kept.2, kept.3, kept.4, kept.5) at c.in_ok-number.ensures.heard in (
      suc kept.0,
      heard_more how kept.0 start before after kept.1 heard,
      same.0 ∙ kept.2,
      same.1 ∙ kept.3,
      same.2 ∙ kept.4,
      same.3 ∙ kept.5,
      same.4 ∙ kept.6,
    )
