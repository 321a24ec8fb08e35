use Rattle.kept_link.proofs.KeptFirst.{kept_first}
use Rattle.kept_link.proofs.laws.no_frame_goes_before_its_line.Goals as goal

pub returns : goal.returns
returns c bytes_of moments before more first allowed next =
    kept_first bytes_of moments before more first allowed next
