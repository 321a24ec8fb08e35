use Rattle.fix_tags.proofs.Outcomes.{refusal_is, writable_message}
use Rattle.fix_tags.proofs.write.write_message.Goals as goal

pub write_with_header-requires : goal.write_with_header-requires
write_with_header-requires c =
    let writable = writable_message c.args.envelope.now c.args.stamp.now c.as_bytes.ensures.within c.as_bytes-2.ensures.within c.requires in
    rw (c.kind_of.ensures, c.as_bytes.ensures.value, c.as_bytes-2.ensures.value, c.as_bytes-3.ensures.value, c.format.ensures.text, c.stamp_bytes.ensures) writable

pub returns-clause-refusal : goal.returns-clause-refusal
returns-clause-refusal c =
    let refused = refusal_is c.args.envelope.now c.args.stamp.now c.as_bytes.ensures.within c.as_bytes-2.ensures.within c.requires in
    let h = c.write_with_header.ensures.refusal in
    rw (c.kind_of.ensures, c.as_bytes.ensures.value, c.as_bytes-2.ensures.value, c.as_bytes-3.ensures.value, c.format.ensures.text, c.stamp_bytes.ensures, refused) at h
