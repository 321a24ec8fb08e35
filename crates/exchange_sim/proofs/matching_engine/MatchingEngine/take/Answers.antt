use Rattle.std.proofs.Common.{◌≡◌, min, length, ap}
use Rattle.std.proofs.lemmas.Result.{on_ok_weaker}
use Rattle.dialect.specs.Wording.{Decoding, Encoding}
use Rattle.dialect.specs.Message.{decoded}
use Rattle.exchange_core.specs.Exchange.{accepted_by}
use Rattle.exchange_sim.proofs.Acting.{leg_there, no_leg_there, taken_and_dealt, taken_alone}
use Rattle.exchange_sim.proofs.Written.{answers_and_reports, answers_alone}
use Rattle.exchange_sim.proofs.matching_engine.MatchingEngine.take.Goals as goal

pub returns-in-Some-clause-exchange : goal.returns-in-Some-clause-exchange
returns-in-Some-clause-exchange g c =
    let readers : Decoding = (g.D.Dialect.wording c.args.self.now.dialect).decoding in
    let count = length c.accepted-count.result.now in
    let leg = c.in-Some.leg.now in
    let there = leg_there c.accepted.result.now (accepted_by c.hand_in.new.self.exchange) count leg c.accepted.ensures
    c.in-Some.ensures.lookup.0 c.in-Some.ensures.lookup.1 in
    let shares : c.min-shares.result ≡ min c.args.self.now.fill leg.terms.shares =
    rw (c.in_ok-hand_in.ensures.fill, c.shares.ensures.value) at c.min-shares.ensures in
    on_ok_weaker _
    (taken_and_dealt c.args.self.now.fill c.args.connection c.args.self.now.exchange c.hand_in.new.self.exchange c.deal.new.self.exchange
    (decoded readers c.args.envelope.now) count c.min-shares.result leg c.trade_price-px.result c.in_ok-hand_in.ensures.exchange
    (ap length c.accepted-count.ensures) there shares c.trade_price-px.ensures)
    c.deal.ensures.exchange

pub returns-in-Some-clause-answers : goal.returns-in-Some-clause-answers
returns-in-Some-clause-answers g c =
    let writers : Encoding = (g.D.Dialect.wording c.args.self.now.dialect).encoding in
    let readers : Decoding = (g.D.Dialect.wording c.args.self.now.dialect).decoding in
    let count = length c.accepted-count.result.now in
    let leg = c.in-Some.leg.now in
    let there = leg_there c.accepted.result.now (accepted_by c.hand_in.new.self.exchange) count leg c.accepted.ensures
    c.in-Some.ensures.lookup.0 c.in-Some.ensures.lookup.1 in
    let shares : c.min-shares.result ≡ min c.args.self.now.fill leg.terms.shares =
    rw (c.in_ok-hand_in.ensures.fill, c.shares.ensures.value) at c.min-shares.ensures in
    on_ok_weaker _
    (answers_and_reports writers c.args.self.now.fill c.args.connection c.args.self.now.exchange c.hand_in.new.self.exchange
    (decoded readers c.args.envelope.now) count c.min-shares.result leg c.trade_price-px.result (g.C.Clock.last c.hand_in.new.self.clock)
    c.args.self.now.outbox c.hand_in.new.self.outbox c.deal.new.self.outbox c.in_ok-hand_in.ensures.exchange
    (ap length c.accepted-count.ensures) there shares c.trade_price-px.ensures c.in_ok-hand_in.ensures.sends)
    (rw c.in_ok-hand_in.ensures.dialect at c.deal.ensures.reports)

pub returns-in-None-clause-exchange : goal.returns-in-None-clause-exchange
returns-in-None-clause-exchange g c =
    let readers : Decoding = (g.D.Dialect.wording c.args.self.now.dialect).decoding in
    let count = length c.accepted-count.result.now in
    let there = no_leg_there c.accepted.result.now (accepted_by c.hand_in.new.self.exchange) count c.accepted.ensures
    c.in-None.ensures.lookup.0 in
    taken_alone c.args.self.now.fill c.args.connection c.args.self.now.exchange c.hand_in.new.self.exchange (decoded readers c.args.envelope.now)
    count c.in_ok-hand_in.ensures.exchange (ap length c.accepted-count.ensures) there

pub returns-in-None-clause-answers : goal.returns-in-None-clause-answers
returns-in-None-clause-answers g c =
    let writers : Encoding = (g.D.Dialect.wording c.args.self.now.dialect).encoding in
    let readers : Decoding = (g.D.Dialect.wording c.args.self.now.dialect).decoding in
    let count = length c.accepted-count.result.now in
    let there = no_leg_there c.accepted.result.now (accepted_by c.hand_in.new.self.exchange) count c.accepted.ensures
    c.in-None.ensures.lookup.0 in
    answers_alone writers c.args.self.now.fill c.args.connection c.args.self.now.exchange c.hand_in.new.self.exchange
    (decoded readers c.args.envelope.now) count (g.C.Clock.last c.hand_in.new.self.clock) c.args.self.now.outbox c.hand_in.new.self.outbox
    c.in_ok-hand_in.ensures.exchange (ap length c.accepted-count.ensures) there c.in_ok-hand_in.ensures.sends
