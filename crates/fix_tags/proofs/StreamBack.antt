-- A written message is read back from any stream that begins with its frame.
use Rattle.std.proofs.Common.{◌≡◌, ℕ, ◌≤◌, Bool, true, false, cond, length, Option, Some, None, nat_lt, refl, arith}
use Rattle.std.proofs.lemmas.Bool.Decides.{nat_tests}
use Rattle.fix_text.specs.Frame.{frame_text}
use Rattle.fix_text.specs.Text.{fields_text}
use Rattle.fix_text.proofs.Lengths.{frames_are_short}
use Rattle.fix_text.proofs.Rewritten.{next_begins}
use Rattle.fix_tags.specs.CompId.{IsCompId}
use Rattle.fix_tags.specs.Message.{field_fault, envelope_fields, is_too_long, envelope_refusal}
use Rattle.fix_tags.specs.ReadsBack.{ReadsBackAs}
use Rattle.fix_tags.specs.Stamp.{StampParts}
use Rattle.fix_tags.specs.declared.envelope.Envelope.{Envelope}
use Rattle.fix_tags.specs.declared.write_fault.WriteFault.{WriteFault}
use Rattle.fix_tags.specs.declared.write_fault.WriteFault.TheVariants.{TooLong}
use Rattle.fix_tags.proofs.Bodies.{or_then-first, or_then-second}
use Rattle.fix_tags.proofs.MessageBack.{envelope_read-written}
use Rattle.fix_tags.proofs.Outcomes.{writable_message}

short_enough : (n : ℕ) → nat_lt 4096 n ≡ false → n ≤ 4096
short_enough n short = grind (arith, nat_tests)

-- a message without a fault that isn't too long
pub reads_back : (e : Envelope) (s : StampParts) → IsCompId e.sender → IsCompId e.target → field_fault e ≡ None
    → is_too_long e s ≡ false
    → ReadsBackAs e (frame_text (envelope_fields e s))
reads_back e s sender target none short = λ stream rest begins.
    let writable = writable_message e s sender target none in
    let fits = short_enough (length (fields_text (envelope_fields e s))) short in
    record {
      fields = envelope_fields e s;
      next = next_begins stream (envelope_fields e s) rest
          (record { tags = writable.0; values = writable.1; short = fits; bytes = begins });
      message = envelope_read-written e s sender target none;
    }

not_long : (long : Bool) → cond long (Some TooLong) None ≡ None → long ≡ false
not_long false none = refl
not_long true none = cc

-- the fields of a message that isn't refused aren't too long
unrefused_is_short : (e : Envelope) (s : StampParts) → envelope_refusal e s ≡ None → is_too_long e s ≡ false
unrefused_is_short e s none =
    not_long (is_too_long e s) (or_then-second (field_fault e) (cond (is_too_long e s) (Some TooLong) None) none)

-- so its frame has room in the longest one
pub unrefused_fits : (e : Envelope) (s : StampParts) → envelope_refusal e s ≡ None
    → length (frame_text (envelope_fields e s)) ≤ 4120
unrefused_fits e s none =
    let short = short_enough (length (fields_text (envelope_fields e s))) (unrefused_is_short e s none) in
    frames_are_short (envelope_fields e s) short

-- a message that isn't refused
pub unrefused_reads_back : (e : Envelope) (s : StampParts) → envelope_refusal e s ≡ None → IsCompId e.sender
    → IsCompId e.target
    → ReadsBackAs e (frame_text (envelope_fields e s))
unrefused_reads_back e s none sender target =
    let too_long : Option WriteFault = cond (is_too_long e s) (Some TooLong) None in
    let faultless = or_then-first (field_fault e) too_long none in
    reads_back e s sender target faultless (unrefused_is_short e s none)
