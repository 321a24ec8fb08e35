-- What a reader lends, and where it stands once that is given back.
use Rattle.std.specs.Prelude.{◌≡◌, Option, option_map, Result, MatchResult, ⊤}
use Rattle.std.specs.Borrow.{Fml, MutBor, follows_so}
use mathlib.Core.Option.{none}
use Rattle.fix_text.specs.contracts.reader.FrameReader.{the_row}
use Rattle.fix_text.specs.declared.reader_fault.ReaderFault.{ReaderFault}
use Rattle.fix_text.specs.declared.frame.Frame.{Frame}
use Rattle.fix_text.specs.FrameFields.{fields_in}
use Rattle.fix_text.specs.Reading.{Stream, NextFrame, next_read}

-- what a call for the next frame finds, by the frame that it lends and the stream after it
abbrev pub next_frame : Option Frame → Stream → NextFrame
next_frame frame stream = record { frame = option_map fields_in frame; stream = stream }

-- the reader stands behind what the call for the next frame passed, or where it was if that was refused
abbrev pub LeavesNext : MutBor Stream → Result (Option Frame) ReaderFault → Fml
LeavesNext reader result =
    follows_so the_row the_row reader.ghost_name none (λ _ _. ⊤)
    (λ after. MatchResult result (λ _. after ≡ (next_read reader.now).stream) (λ _. after ≡ reader.now))
