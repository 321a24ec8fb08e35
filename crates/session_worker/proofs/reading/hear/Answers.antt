use Rattle.std.proofs.Common.{refl, sym, ap, ◌∙◌}
use Rattle.std.specs.Prelude.{option_map}
use Rattle.fix_text.specs.FrameFields.{fields_in}
use Rattle.dialect.specs.Wording.{Wording}
use Rattle.dialect.specs.Message.{decoded}
use Rattle.session_core.specs.declared.session_call.SessionCall.TheVariants as call
use Rattle.session_core.specs.Calling.{answers}
use Rattle.session_core.specs.Receiving.{receive}
use Rattle.session_worker.specs.Linking.{is_logged_on, is_logout}
use Rattle.session_worker.proofs.Calling.{gave_step}
use Rattle.session_worker.proofs.HeardTold.{heard_told}
use Rattle.session_worker.proofs.reading.hear.Goals as goal

pub returns-in-Ok-receive-clause-heard : goal.returns-in-Ok-receive-clause-heard
returns-in-Ok-receive-clause-heard g c =
    let w : Wording = g.D.Dialect.wording c.args.dialect.now in
    let s = c.args.session.now in
    record {
      fields = fields_in c.in-Ok-Some.frame;
      envelope = c.in-Ok.envelope;
      next = sym c.in-Ok-Some.ensures.fields ∙ ap (option_map fields_in) c.in-Ok-Some.field-0-is;
      says = c.in-Ok.ensures.read;
      gave = gave_step w s c.receive.new.self (call.Receive c.in-Ok.envelope) (answers (receive s (decoded w.decoding c.in-Ok.envelope))) c.args.stamp.now
          c.in-Ok-receive.step tt refl c.in-Ok-receive.ensures.gives;
    }

pub returns-in-Ok-receive-clause-said : goal.returns-in-Ok-receive-clause-said
returns-in-Ok-receive-clause-said g c = record {
  fields = fields_in c.in-Ok-Some.frame;
  next = sym c.in-Ok-Some.ensures.fields ∙ ap (option_map fields_in) c.in-Ok-Some.field-0-is;
  said = c.words_by-words.ensures;
}

pub returns-in-Ok-None-clause-heard : goal.returns-in-Ok-None-clause-heard
returns-in-Ok-None-clause-heard g c = (refl, sym c.in-Ok-None.ensures.fields ∙ ap (option_map fields_in) c.in-Ok-None.field-0-is)

pub returns-in-Err-read_envelope-clause-heard : goal.returns-in-Err-read_envelope-clause-heard
returns-in-Err-read_envelope-clause-heard g c = (
  fields_in c.in-Ok-Some.frame,
  c.in-Err-read_envelope.field-0,
  sym c.in-Ok-Some.ensures.fields ∙ ap (option_map fields_in) c.in-Ok-Some.field-0-is,
  c.in-Err-read_envelope.ensures.read,
  ap (λ p. p.1) c.malformed.ensures,
)

pub returns-in-Ok-receive-clause-told : goal.returns-in-Ok-receive-clause-told
returns-in-Ok-receive-clause-told g c =
    heard_told c.args.reader.now (fields_in c.in-Ok-Some.frame) c.args.stamp.now _ _
    (sym c.in-Ok-Some.ensures.fields ∙ ap (option_map fields_in) c.in-Ok-Some.field-0-is) c.tell_heard.ensures.told

pub returns-in-Err-read_envelope-clause-told : goal.returns-in-Err-read_envelope-clause-told
returns-in-Err-read_envelope-clause-told g c =
    heard_told c.args.reader.now (fields_in c.in-Ok-Some.frame) c.args.stamp.now _ _
    (sym c.in-Ok-Some.ensures.fields ∙ ap (option_map fields_in) c.in-Ok-Some.field-0-is)
    c.tell_heard-in-Err-read_envelope.ensures.told

pub returns-in-Ok-clause-heard : goal.returns-in-Ok-clause-heard
returns-in-Ok-clause-heard g c = (
  refl,
  record {
    fields = fields_in c.in-Ok-Some.frame;
    envelope = c.in-Ok.envelope;
    next = sym c.in-Ok-Some.ensures.fields ∙ ap (option_map fields_in) c.in-Ok-Some.field-0-is;
    says = c.in-Ok.ensures.read;
    logged_on = ap is_logged_on (sym c.phase.ensures) ∙ sym c.if-is_logged_on.ensures;
    logout = ap is_logout (sym c.body.ensures.value) ∙ sym c.if-is_logout.ensures;
  },
)
