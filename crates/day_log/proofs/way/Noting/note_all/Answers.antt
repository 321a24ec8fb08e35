use Rattle.std.proofs.Common.{[], ◌∷◌, ◌++◌, List, ℕ, Option, sym, ap, ◌∙◌}
use Rattle.day_log.proofs.Noting.{noted_all}
use Rattle.day_log.proofs.way.Noting.note_all.Goals as goal

pub returns-then-not-is_empty : goal.returns-then-not-is_empty
returns-then-not-is_empty g c =
    let before = c.args.noted.now.texts in
    let so_far = c.note_split-rest.new.noted.texts in
    let rest = c.note_split-rest.result.now in
    noted_all before so_far c.note-then-not-is_empty.new.noted.texts c.args.bytes.now rest
    (sym c.is_one_frame.ensures ∙ c.if-is_one_frame.false) c.note_split-rest.ensures.rest
    (sym c.is_empty.ensures ∙ c.if-not-is_empty.true) c.note_split-rest.ensures.noted
    (c.note-then-not-is_empty.ensures
    ∙ ap (λ (text : Option (List ℕ)). so_far ++ text ∷ []) c.short-then-not-is_empty.ensures)
