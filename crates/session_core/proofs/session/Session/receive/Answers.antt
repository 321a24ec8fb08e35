use Rattle.session_core.proofs.Decided.{received_sound, received_writable}
use Rattle.session_core.proofs.Read.{is_read}
use Rattle.session_core.proofs.session.Session.receive.Goals as goal

pub on_message-decision-requires : goal.on_message-decision-requires
on_message-decision-requires g c = is_read c.decode-message.result c.decode-message.ensures.in_range

pub carry_out-requires-clause-sound : goal.carry_out-requires-clause-sound
carry_out-requires-clause-sound g c =
    λ sound.
    received_sound c.args.self.now c.decode-message.result _ c.on_message-decision.ensures
    (is_read c.decode-message.result c.decode-message.ensures.in_range) sound

pub carry_out-requires-clause-writable : goal.carry_out-requires-clause-writable
carry_out-requires-clause-writable g c =
    λ sound.
    received_writable c.args.self.now c.decode-message.result _ c.on_message-decision.ensures
    (is_read c.decode-message.result c.decode-message.ensures.in_range) sound
