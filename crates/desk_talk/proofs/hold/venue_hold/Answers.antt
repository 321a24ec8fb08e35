use Rattle.std.proofs.Common.{ap, sym, ◌∙◌}
use Rattle.std.specs.Option.{option_map}
use Rattle.desk_talk.specs.declared.hold.Hold.TheVariants.{Pause, Unpause}
use Rattle.desk_talk.specs.Hold.{venue_of}
use Rattle.desk_talk.proofs.hold.venue_hold.Goals as goal

pub returns-then-starts_with : goal.returns-then-starts_with
returns-then-starts_with c =
    rw (sym c.starts_with.ensures.value ∙ c.if-starts_with.true)
    (c.pause_of.ensures ∙ ap (λ l. option_map (λ v. Pause v) (venue_of c.args.names.now l)) c.from.ensures)

pub returns-then-starts_with-2 : goal.returns-then-starts_with-2
returns-then-starts_with-2 c =
    rw (sym c.starts_with.ensures.value ∙ c.if-starts_with.false)
    (rw (sym c.starts_with-2.ensures.value ∙ c.if-starts_with-2.true)
    (c.unpause_of.ensures
    ∙ ap (λ l. option_map (λ v. Unpause v) (venue_of c.args.names.now l)) c.from-then-starts_with-2.ensures))
