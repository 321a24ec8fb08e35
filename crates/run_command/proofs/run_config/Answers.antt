use Rattle.std.proofs.Common.{rules, ◌≡◌, false, None, ◌∙◌, arith}
use Rattle.std.proofs.lemmas.List.{nil_from_length}
use Rattle.run_command.proofs.Ends.{prints_day, prints_whole}
use Rattle.run_command.proofs.run_config.Goals as goal
use Rattle.run_command.proofs.run_config.Goals.{then-day, else-day}

pub returns-clause-ok : goal.returns-clause-ok
returns-clause-ok g c =
    let taken : c.in_ok-day.day.broken_off ≡ None = search rules in
    let closed : c.in_ok-day.day.is_given_up ≡ false =
    elim c.if-day.branch [ then-day w ↦ search rules | else-day w ↦ search rules ] in
    let listed = c.in_ok-day.day.unbooked.ok.0 in
    let no_unbooked : c.in_ok-day.day.unbooked.len ≡ 0 =
    elim c.if-day.branch [ then-day w ↦ search rules | else-day w ↦ search rules ] in
    let booked = nil_from_length c.in_ok-day.day.unbooked.items (omega (arith, listed, no_unbooked)) in
    let held = c.in_ok-day.day.doubts.ok.0 in
    let none : c.in_ok-day.day.doubts.len ≡ 0 =
    elim c.if-day.branch [ then-day w ↦ search rules | else-day w ↦ search rules ] in
    let settled = nil_from_length c.in_ok-day.day.doubts.items (omega (arith, held, none)) in
    prints_whole c.args.config.now c.args.options.form c.in_ok-day.day _ _ _ c.in_ok-day.ensures.day
    (λ none. c.in_ok-day.ensures.new (c.requires.journal none))
    (λ some. c.in_ok-day.ensures.kept (c.requires.kept some)) taken closed booked settled
    (c.deref.ensures.value ∙ c.in_ok-end_text.ensures) c.in_ok-print.ensures.ok

pub returns-in-None-clause-left : goal.returns-in-None-clause-left
returns-in-None-clause-left g c =
    prints_day c.args.config.now c.args.options.form c.in_ok-day.day _ _ _ c.in_ok-day.ensures.day
    (λ none. c.in_ok-day.ensures.new (c.requires.journal none))
    (λ some. c.in_ok-day.ensures.kept (c.requires.kept some)) (c.deref.ensures.value ∙ c.in_ok-end_text.ensures)
    c.in_ok-print.ensures.ok

pub returns-in-None-2-clause-left : goal.returns-in-None-2-clause-left
returns-in-None-2-clause-left g c =
    prints_day c.args.config.now c.args.options.form c.in_ok-day.day _ _ _ c.in_ok-day.ensures.day
    (λ none. c.in_ok-day.ensures.new (c.requires.journal none))
    (λ some. c.in_ok-day.ensures.kept (c.requires.kept some)) (c.deref.ensures.value ∙ c.in_ok-end_text.ensures)
    c.in_ok-print.ensures.ok
