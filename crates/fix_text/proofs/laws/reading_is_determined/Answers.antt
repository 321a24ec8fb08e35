use Rattle.fix_text.proofs.Streams.{passes_more, one_reading, first_determined}
use Rattle.fix_text.proofs.laws.reading_is_determined.Goals as goal

pub returns : goal.returns
returns c = record { stays = passes_more; one = one_reading; frames = first_determined }
