use Rattle.std.proofs.Common.{subst}
use Rattle.journal_record.specs.Record.{lines_sum, lines_text}
use Rattle.journal_record.specs.Reading.{HasLines}
use Rattle.journal_record.proofs.Kept.{reads_kept}
use Rattle.journal_tape.specs.Tape.{text}
use Rattle.journal_tape.proofs.Texts.{parts_are}
use Rattle.journal_tape.proofs.laws.what_a_crash_leaves_is_read.Goals as goal

pub returns : goal.returns
returns c kept unkept lines left end clean also between has =
    let parts = parts_are (lines_text 0 kept) (lines_text (lines_sum 0 kept) unkept) (text left) between in
    reads_kept 0 kept unkept lines parts.0 parts.1 end clean also parts.3
    (subst (λ t. HasLines 0 t lines end) parts.2 has)
