use Rattle.exchange_core.proofs.Taking.{asked_writable, action_writable, action_sound, take_allowed, taken_gives}
use Rattle.exchange_core.proofs.Read.{is_read}
use Rattle.exchange_core.proofs.exchange.Exchange.take.Goals as goal

pub send_again-requires : goal.send_again-requires
send_again-requires g c =
    asked_writable c.args.self.now c.args.connection c.decode-message.result c.decide-decision.result
    c.decide-decision.ensures.answer c.decide-decision.ensures.sound (is_read c.decode-message.result c.decode-message.ensures.in_range)

pub returns-in_err-send_again-clause-allowed : goal.returns-in_err-send_again-clause-allowed
returns-in_err-send_again-clause-allowed g c =
    take_allowed c.args.self.now c.args.connection _ c.decide-decision.ensures.sound

pub carry_out-requires-clause-writable : goal.carry_out-requires-clause-writable
carry_out-requires-clause-writable g c =
    action_writable c.args.self.now c.args.connection c.decode-message.result c.decide-decision.result
    c.decide-decision.ensures.answer c.decide-decision.ensures.sound (is_read c.decode-message.result c.decode-message.ensures.in_range)

pub carry_out-requires-clause-sound : goal.carry_out-requires-clause-sound
carry_out-requires-clause-sound g c =
    action_sound c.args.self.now c.args.connection c.decode-message.result c.decide-decision.result
    c.decide-decision.ensures.answer c.decide-decision.ensures.sound (is_read c.decode-message.result c.decode-message.ensures.in_range)

pub returns-in_err-carry_out-clause-allowed : goal.returns-in_err-carry_out-clause-allowed
returns-in_err-carry_out-clause-allowed g c =
    take_allowed c.args.self.now c.args.connection _ c.decide-decision.ensures.sound

pub returns-clause-gives : goal.returns-clause-gives
returns-clause-gives g c =
    taken_gives (g.D.Dialect.wording c.args.dialect.now).encoding
    c.args.stamp.now c.args.self.now c.args.connection c.decode-message.result _ c.decide-decision.result
    c.new-frames.result.items c.send_again.new.frames.items c.carry_out.new.frames c.carry_out.new.self
    c.decode-message.ensures.value c.decide-decision.ensures.answer c.new-frames.ensures.items c.in_ok-send_again.ensures.written
    c.in_ok-carry_out.ensures.written c.in_ok-carry_out.ensures.ok

pub returns-clause-allowed : goal.returns-clause-allowed
returns-clause-allowed g c =
    take_allowed c.args.self.now c.args.connection _ c.decide-decision.ensures.sound
