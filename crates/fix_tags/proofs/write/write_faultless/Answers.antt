use Rattle.std.proofs.Common.{true, false, refl}
use Rattle.fix_tags.proofs.Outcomes.{outcome, refused_as}
use Rattle.fix_tags.proofs.StreamBack.{reads_back}
use Rattle.fix_tags.proofs.write.write_faultless.Goals as goal

pub unreachable-requires : goal.unreachable-requires
unreachable-requires c =
    let h = outcome _ _ c.write_message.ensures.refusal in rw (c.in-Err-BadTag.is, c.in-Err-BadTag.field-0-is) at h

pub unreachable-requires-in-Err-BadValue : goal.unreachable-requires-in-Err-BadValue
unreachable-requires-in-Err-BadValue c =
    let h = outcome _ _ c.write_message.ensures.refusal in rw (c.in-Err-BadValue.is, c.in-Err-BadValue.field-0-is) at h

pub returns-in-Ok-clause-refusal : goal.returns-in-Ok-clause-refusal
returns-in-Ok-clause-refusal c =
    let h = outcome _ _ c.write_message.ensures.refusal in
    rw (refused_as c.args.envelope.now c.args.stamp.now false c.requires (rw c.in-Ok.is at h)) tt

pub returns-in-Ok-clause-reads_back : goal.returns-in-Ok-clause-reads_back
returns-in-Ok-clause-reads_back c =
    let h = outcome _ _ c.write_message.ensures.refusal in
    reads_back c.args.envelope.now c.args.stamp.now c.write_message.ensures.sender c.write_message.ensures.target c.requires (rw c.in-Ok.is at h)

pub returns-in-Err-TooLong-clause-refusal : goal.returns-in-Err-TooLong-clause-refusal
returns-in-Err-TooLong-clause-refusal c =
    let h = outcome _ _ c.write_message.ensures.refusal in
    rw (refused_as c.args.envelope.now c.args.stamp.now true c.requires (rw (c.in-Err-TooLong.is, c.in-Err-TooLong.field-0-is) at h)) refl

pub returns-in-Err-OutOfMemory-clause-refusal : goal.returns-in-Err-OutOfMemory-clause-refusal
returns-in-Err-OutOfMemory-clause-refusal c =
    let h = outcome _ _ c.write_message.ensures.refusal in
    rw (refused_as c.args.envelope.now c.args.stamp.now false c.requires (rw (c.in-Err-OutOfMemory.is, c.in-Err-OutOfMemory.field-0-is) at h)) refl
