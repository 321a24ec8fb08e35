use Rattle.std.proofs.Common.{◌≡◌, ap, ◌∙◌}
use Rattle.std.specs.Prelude.{Some}
use Rattle.std.proofs.lemmas.Result.{IfOk-weaker}
use Rattle.desk_config.specs.Journal.{day_parts, folder_by}
use Rattle.desk_config.proofs.journal.DayPattern.folder_on.Goals as goal

pub returns-in-Some : goal.returns-in-Some
returns-in-Some c =
    let text = c.as_str.ensures ∙ c.self.view_is in
    let parts : Some (c.in-Some.before.now, c.in-Some.behind.now) ≡ day_parts c.args.self.now =
    c.in-Some.ensures ∙ ap day_parts text in
    IfOk-weaker c.format.result _ _ (λ folder is. is ∙ ap (folder_by c.args.self.now c.args.day) parts) c.format.ensures.ok
