-- The laws of messages, as crates above cite them; `src/laws.rt` states the same.
use Rattle.std.proofs.Common.{◌≡◌, ℕ, ◌≤◌, true, List, length, None}
use Rattle.fix_text.specs.Frame.{frame_text}
use Rattle.fix_text.specs.Tagged.{Tagged}
use Rattle.fix_text.specs.Text.{fields_text}
use Rattle.fix_tags.specs.App.{are_app_fields}
use Rattle.fix_tags.specs.CompId.{IsCompId}
use Rattle.fix_tags.specs.Message.{is_app_kind, is_message_number, envelope_fields, envelope_refusal}
use Rattle.fix_tags.specs.ReadsBack.{ReadsBackAs}
use Rattle.fix_tags.specs.Stamp.{StampParts}
use Rattle.fix_tags.specs.declared.body.Body.TheVariants.{App}
use Rattle.fix_tags.specs.declared.envelope.Envelope.{Envelope}
use Rattle.fix_tags.proofs.AppFits.{app_not_refused}
use Rattle.fix_tags.proofs.StreamBack.{unrefused_fits, unrefused_reads_back}

-- an application message with at most 3,000 bytes of fields is refused under no header
pub application_messages_fit : (e : Envelope) (s : StampParts) (kind : List ℕ) (fields : List Tagged)
    → e.body ≡ App kind fields
    → is_app_kind kind ≡ true → are_app_fields fields ≡ true → length (fields_text fields) ≤ 3000
    → IsCompId e.sender → IsCompId e.target → is_message_number e.number ≡ true → envelope_refusal e s ≡ None
application_messages_fit = app_not_refused

-- a message that isn't refused takes no more room than the longest frame
pub written_messages_are_short : (e : Envelope) (s : StampParts) → envelope_refusal e s ≡ None
    → length (frame_text (envelope_fields e s)) ≤ 4120
written_messages_are_short = unrefused_fits

-- a message that isn't refused is read back from its frame, whatever follows the frame
pub written_messages_read_back : (e : Envelope) (s : StampParts) → envelope_refusal e s ≡ None → IsCompId e.sender
    → IsCompId e.target
    → ReadsBackAs e (frame_text (envelope_fields e s))
written_messages_read_back = unrefused_reads_back
