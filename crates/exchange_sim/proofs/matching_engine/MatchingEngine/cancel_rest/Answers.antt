use Rattle.std.proofs.lemmas.Result.{on_ok_weaker}
use Rattle.dialect.specs.Wording.{Encoding}
use Rattle.exchange_core.specs.Acts as acts
use Rattle.exchange_sim.proofs.Acting.{acted, both_ok}
use Rattle.exchange_sim.proofs.Written.{act_sends}
use Rattle.exchange_sim.proofs.matching_engine.MatchingEngine.cancel_rest.Goals as goal

pub returns-clause-exchange : goal.returns-clause-exchange
returns-clause-exchange g c =
    let writers : Encoding = (g.D.Dialect.wording c.args.self.now.dialect).encoding in
    on_ok_weaker _
    (acted writers c.now-stamp.result c.args.self.now.exchange (acts.cancel_rest c.args.self.now.exchange c.args.place)
    c.cancel_rest-answer.result c.cancel_rest-answer.new.self c.cancel_rest-answer.ensures.gives)
    c.put_answer.ensures.known

pub returns-clause-sends : goal.returns-clause-sends
returns-clause-sends g c =
    let writers : Encoding = (g.D.Dialect.wording c.args.self.now.dialect).encoding in
    both_ok _ c.put_answer.ensures.known c.put_answer.ensures.sends
    (act_sends writers c.now-stamp.result (g.C.Clock.last c.now-stamp.new.self) c.args.self.now.exchange
    (acts.cancel_rest c.args.self.now.exchange c.args.place) c.cancel_rest-answer.result c.cancel_rest-answer.new.self c.args.self.now.outbox
    c.put_answer.new.outbox c.now-stamp.ensures c.cancel_rest-answer.ensures.gives)
