use Rattle.std.proofs.Common.{append_assoc}
use Rattle.std.proofs.lemmas.Result.{on_ok_weaker}
use Rattle.desk_json.specs.Words.{beside_json}
use Rattle.desk_json.proofs.words_written.write_beside.Goals as goal

pub returns : goal.returns
unfolding beside_json
returns c =
    on_ok_weaker c.write_piece-4.result
    (λ said. rw said (rw (
      c.in_ok-write_piece-3.ensures,
      c.in_ok-write_reason.ensures,
      c.in_ok-write_piece-2.ensures,
      c.in_ok-write_piece.ensures,
    ) (simp append_assoc)))
    c.write_piece-4.ensures
