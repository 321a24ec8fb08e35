-- What a frame's writer can answer of a message without a fault.
use Rattle.std.proofs.Common.{◌≡◌, Bool, true, false, cond, Some, None, Result, Ok, Err, refl}
use Rattle.std.specs.Prelude.{MatchOption, IsOkUnless}
use Rattle.fix_text.specs.Frame.{frame_refusal}
use Rattle.fix_text.specs.declared.fault.TextFault.{TextFault}
use Rattle.fix_text.specs.declared.fault.TextFault.TheVariants.{BadTag, BadValue, TooLong, OutOfMemory}
use Rattle.fix_tags.specs.CompId.{IsCompId}
use Rattle.fix_tags.specs.Message.{AreWritable, field_fault, envelope_fields, is_too_long, envelope_refusal}
use Rattle.fix_tags.specs.Stamp.{StampParts}
use Rattle.fix_tags.specs.declared.write_fault.WriteFault.TheVariants as tags
use Rattle.fix_tags.specs.declared.envelope.Envelope.{Envelope}
use Rattle.fix_tags.proofs.WritableFields.{good_message, good_tags, good_values}

-- a message without a fault can be written, field by field
pub writable_message : (e : Envelope) (s : StampParts) → IsCompId e.sender → IsCompId e.target → field_fault e ≡ None → AreWritable (envelope_fields e s)
writable_message e s sender target none =
    let good = good_message e s sender target none in
    (good_tags (envelope_fields e s) good, good_values (envelope_fields e s) good)

-- the only refusal left is that the fields are too long
pub refusal_is : (e : Envelope) (s : StampParts) → IsCompId e.sender → IsCompId e.target → field_fault e ≡ None
    → frame_refusal (envelope_fields e s) ≡ cond (is_too_long e s) (Some TooLong) None
refusal_is e s sender target none =
    let writable = writable_message e s sender target none in
    rw (writable.0, writable.1) refl

-- whether the fields were too long, by what was answered
abbrev pub Outcome : Bool → Result (Unit {0}) TextFault → Type 0
Outcome long (Ok _) = long ≡ false
Outcome long (Err TooLong) = long ≡ true
Outcome long (Err OutOfMemory) = long ≡ false
Outcome long (Err BadTag) = ⊥
Outcome long (Err BadValue) = ⊥

pub outcome : (long : Bool) (result : Result (Unit {0}) TextFault) → MatchOption (cond long (Some TooLong) None) (IsOkUnless result OutOfMemory) (λ fault. result ≡ Err fault) → Outcome long result
outcome false (Ok _) is = refl
outcome false (Err TooLong) is = absurd cc
outcome false (Err OutOfMemory) is = refl
outcome false (Err BadTag) is = absurd cc
outcome false (Err BadValue) is = absurd cc
outcome true (Ok _) is = absurd cc
outcome true (Err TooLong) is = refl
outcome true (Err OutOfMemory) is = absurd cc
outcome true (Err BadTag) is = absurd cc
outcome true (Err BadValue) is = absurd cc

-- what a message's writer answers, where its fields have no fault
pub refused_as : (e : Envelope) (s : StampParts) (long : Bool) → field_fault e ≡ None → is_too_long e s ≡ long → envelope_refusal e s ≡ cond long (Some tags.TooLong) None
refused_as e s long none is = rw (none, is) refl
