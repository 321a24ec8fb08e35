use Rattle.std.proofs.Common.{rules, ℕ, ◌+◌, List, ◌∷◌, get_or, drop, map, sym, subst, Bor}
use Rattle.std.proofs.lemmas.List.{at_drop_more}
use Rattle.check_command.specs.Runs.{ChecksLogs}
use Rattle.check_command.proofs.LogsRead.{none_read}
use Rattle.check_command.proofs.logs.check_logs.Goals as goal

pub loop-path-init : goal.loop-path-init
loop-path-init g c =
    none_read c.args.request.now c.args.is_of_day (g.W.Write.contents c.args.out.now) c.new-day.result c.new-day.ensures.paths
    c.new-day.ensures.venues c.new-day.ensures.is_broken

pub loop-path-preserved : goal.loop-path-preserved
loop-path-preserved g c =
    let r = c.args.request.now in
    let start = g.W.Write.contents c.args.out.now in
    let items = r.paths.items in
    let here = c.loop-path in
    c.in_ok-take_log.ensures.read (map (λ path. path.now) (drop (here.path-index + 1) items)) start
    (subst (λ (paths : List (Bor (List ℕ))). ChecksLogs r c.args.is_of_day
    ((get_or paths here.path-index _).now ∷ map (λ path. path.now) (drop (here.path-index + 1) items)) start
    (g.W.Write.contents here.out) here.day) (sym c.deref-path-items.ensures.value)
    (subst (λ (ps : List (List ℕ)). ChecksLogs r c.args.is_of_day ps start (g.W.Write.contents here.out) here.day)
    (at_drop_more (map (λ path. path.now)) items here.path-index _ (search rules)) here.invariant))
