use Rattle.fix_text.specs.FrameFields.{fields_in}
use Rattle.fix_text.proofs.NoSoh.{places_hold_no_soh}
use Rattle.fix_tags.proofs.Received.{message_is}
use Rattle.fix_tags.proofs.read.message.Goals as goal

pub new-requires : goal.new-requires
new-requires c =
    let frame = c.args.frame.now in
    message_is (fields_in frame) c.args.header.kind.now c.args.header.sender.now c.args.header.target.now c.args.header.number c.in_ok-poss_dup.poss_dup c.in_ok-poss_resend.poss_resend _
    (places_hold_no_soh frame.text.now frame.places.now frame.within) c.requires.header c.in_ok-body.ensures
