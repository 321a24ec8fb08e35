use Rattle.std.proofs.Common.{◌≡◌, ◌<◌, ◌+◌, ◌++◌, None, length, sym, subst}
use Rattle.std.specs.Prelude.{OnOk, OnErr, vec_len, vec_capacity}
use Rattle.fix_text.specs.Frame.{frame_text}
use Rattle.fix_tags.specs.Message.{envelope_fields, envelope_refusal}
use Rattle.fix_tags.specs.declared.envelope.Envelope.{Envelope}
use Rattle.dialect.proofs.FrameBack.{session_unrefused}
use Rattle.dialect.proofs.message_write.append_session.Goals as goal

pub append_envelope-requires : goal.append_envelope-requires
append_envelope-requires c =
    let stamp = c.args.stamp.now in
    let refused = session_unrefused stamp c.args.outgoing.now c.args.says.now c.requires.writable c.requires.said in
    subst (λ (e : Envelope). envelope_refusal e stamp ≡ None) (sym c.envelope_of-envelope.ensures) refused

pub returns-clause-ok : goal.returns-clause-ok
returns-clause-ok c =
    subst (λ (e : Envelope). OnOk c.append_envelope.result (c.append_envelope.new.out.items
    ≡ c.args.out.now.items ++ frame_text (envelope_fields e c.args.stamp.now))) c.envelope_of-envelope.ensures c.append_envelope.ensures.ok

pub returns-clause-full : goal.returns-clause-full
returns-clause-full c =
    subst (λ (e : Envelope). OnErr c.append_envelope.result (vec_capacity c.args.out.now
    < vec_len c.args.out.now + length (frame_text (envelope_fields e c.args.stamp.now)))) c.envelope_of-envelope.ensures c.append_envelope.ensures.full
