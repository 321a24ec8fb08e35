use Rattle.std.proofs.Common.{ap, sym, ◌∙◌}
use Rattle.desk_talk.specs.Hold.{no_venue}
use Rattle.desk_talk.proofs.hold.hold_fault.Goals as goal

pub returns-then-starts_with : goal.returns-then-starts_with
returns-then-starts_with c =
    rw (sym c.starts_with.ensures.value ∙ c.if-starts_with.true) (c.no_venue.ensures ∙ ap no_venue c.from.ensures)

pub returns-then-starts_with-2 : goal.returns-then-starts_with-2
returns-then-starts_with-2 c =
    rw (sym c.starts_with.ensures.value ∙ c.if-starts_with.false)
    (rw (sym c.starts_with-2.ensures.value ∙ c.if-starts_with-2.true)
    (c.no_venue-then-starts_with-2.ensures ∙ ap no_venue c.from-then-starts_with-2.ensures))
