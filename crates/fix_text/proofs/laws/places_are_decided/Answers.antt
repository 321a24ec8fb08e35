use Rattle.fix_text.proofs.FrameTexts.{one_of_three, never_both, place_decided}
use Rattle.fix_text.proofs.laws.places_are_decided.Goals as goal

pub returns : goal.returns
returns c = record { one = one_of_three; apart = never_both; read = place_decided }
