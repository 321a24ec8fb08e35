use Rattle.std.proofs.Common.{◌≡◌, ℕ, List, ◌++◌, codes, ◌∙◌, append_assoc}
use Rattle.std.specs.Prelude.{string_bytes}
use Rattle.std.proofs.lemmas.Result.{on_ok_weaker}
use Rattle.desk_config.specs.Day.{day_text}
use Rattle.day_restart.proofs.words.append_day.Goals as goal

joined : (old a day b name : List ℕ) → old ++ (a ++ (day ++ (b ++ name))) ≡ old ++ (((a ++ day) ++ b) ++ name)
joined old a day b name = simp append_assoc

pub returns : goal.returns
returns c =
    on_ok_weaker c.write.result
    (λ said. said
    ∙ joined (string_bytes c.args.words.now) (codes "day ") (day_text c.args.day) (codes " of ") c.args.venue.now.name)
    c.write.ensures.bytes
