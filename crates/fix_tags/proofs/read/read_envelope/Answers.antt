use Rattle.fix_text.specs.FrameFields.{fields_in}
use Rattle.fix_text.proofs.NoSoh.{places_hold_no_soh}
use Rattle.fix_tags.proofs.Received.{no_soh}
use Rattle.fix_tags.proofs.Readings.{of_given, in_range, is_reading}
use Rattle.fix_tags.proofs.read.read_envelope.Goals as goal

pub returns-clause-in_range : goal.returns-clause-in_range
returns-clause-in_range c =
    let fields = fields_in c.args.frame.now in
    of_given fields _ (in_range fields) c.envelope_of.ensures

pub returns-clause-says : goal.returns-clause-says
returns-clause-says c =
    let fields = fields_in c.args.frame.now in
    of_given fields _ (is_reading fields) c.envelope_of.ensures

pub returns-clause-no_soh : goal.returns-clause-no_soh
returns-clause-no_soh c =
    let frame = c.args.frame.now in
    let fields = fields_in frame in
    of_given fields _ (λ e. no_soh fields e (places_hold_no_soh frame.text.now frame.places.now frame.within)) c.envelope_of.ensures
