use Rattle.std.proofs.Common.{rules, ◌∷◌, [], ◌++◌, map, sym, ap, ◌∙◌}
use Rattle.std.proofs.lemmas.List.{map_push}
use Rattle.check_command.specs.declared.day.Day.{Day}
use Rattle.check_command.proofs.LogsRead.{one_passed, one_read}
use Rattle.check_command.proofs.logs.take_log.Goals as goal

pub returns-then-is_sweeps-clause-read : goal.returns-then-is_sweeps-clause-read
returns-then-is_sweeps-clause-read g c =
    one_passed c.args.request.now c.args.is_of_day c.args.path.now (g.W.Write.contents c.args.out.now) c.args.day.now
    (sym c.is_sweeps.ensures ∙ c.if-is_sweeps.true)

pub returns-then-not-is_of_day-clause-read : goal.returns-then-not-is_of_day-clause-read
returns-then-not-is_of_day-clause-read g c =
    one_read c.args.request.now c.args.is_of_day c.args.path.now (g.W.Write.contents c.args.out.now)
    (g.W.Write.contents c.check_log.new.out) c.args.day.now c.note.new.self c.in_ok-log.log
    (sym c.is_sweeps.ensures ∙ c.if-is_sweeps.false) c.in_ok-log.ensures.checked
    (ap (λ (d : Day). d.is_broken) c.note.ensures)
    (λ on. absurd (search rules)) (λ on. absurd (search rules))

pub returns-clause-read : goal.returns-clause-read
returns-clause-read g c =
    one_read c.args.request.now c.args.is_of_day c.args.path.now (g.W.Write.contents c.args.out.now)
    (g.W.Write.contents c.check_log.new.out) c.args.day.now c.push.new.self c.in_ok-log.log
    (sym c.is_sweeps.ensures ∙ c.if-is_sweeps.false) c.in_ok-log.ensures.checked
    (c.push.ensures.is_broken ∙ ap (λ (d : Day). d.is_broken) c.note.ensures)
    (λ on. c.in_ok-push.ensures.venues ∙ ap (λ (d : Day). d.venues.items ++ c.in_ok-log.log.day ∷ []) c.note.ensures)
    (λ on. ap (map (λ path. path.now)) c.in_ok-push.ensures.paths
    ∙ (map_push (λ path. path.now) c.note.new.self.paths.items c.args.path
    ∙ ap (λ (d : Day). map (λ path. path.now) d.paths.items ++ c.args.path.now ∷ []) c.note.ensures))
