use Rattle.std.proofs.lemmas.Result.{on_ok_weaker}
use Rattle.dialect.specs.Wording.{Encoding}
use Rattle.exchange_core.specs.Acts as acts
use Rattle.exchange_sim.proofs.Acting.{acted, both_ok}
use Rattle.exchange_sim.proofs.Written.{act_sends}
use Rattle.exchange_sim.proofs.matching_engine.MatchingEngine.trade.Goals as goal

pub returns-clause-exchange : goal.returns-clause-exchange
returns-clause-exchange g c =
    let writers : Encoding = (g.D.Dialect.wording c.args.self.now.dialect).encoding in
    on_ok_weaker _
    (acted writers c.now-stamp.result c.args.self.now.exchange (acts.trade c.args.self.now.exchange c.args.place c.args.shares c.args.px)
    c.trade-answer.result c.trade-answer.new.self c.trade-answer.ensures.gives)
    c.put_answer.ensures.known

pub returns-clause-sends : goal.returns-clause-sends
returns-clause-sends g c =
    let writers : Encoding = (g.D.Dialect.wording c.args.self.now.dialect).encoding in
    both_ok _ c.put_answer.ensures.known c.put_answer.ensures.sends
    (act_sends writers c.now-stamp.result (g.C.Clock.last c.now-stamp.new.self) c.args.self.now.exchange
    (acts.trade c.args.self.now.exchange c.args.place c.args.shares c.args.px) c.trade-answer.result c.trade-answer.new.self c.args.self.now.outbox
    c.put_answer.new.outbox c.now-stamp.ensures c.trade-answer.ensures.gives)
