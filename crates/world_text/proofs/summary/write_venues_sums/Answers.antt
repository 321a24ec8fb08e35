use Rattle.std.proofs.Common.{◌≡◌, ◌<◌, ◌++◌, length, [], sym, ap, ◌∙◌, arith}
use Rattle.std.specs.Prelude.{string_bytes}
use Rattle.schedule.specs.World.{of_venue}
use Rattle.world_text.specs.Summary.{venue_sums}
use Rattle.world_text.proofs.VenueLines.{venue_is}
use Rattle.world_text.proofs.SummaryLines.{next_line}
use Rattle.world_text.proofs.summary.write_venues_sums.Goals as goal

pub loop-number-preserved : goal.loop-number-preserved
loop-number-preserved g c =
    let w = c.args.world.now in
    let number = c.loop-number.number in
    let there : number < length w.venues = omega (arith, c.loop-number-test.true, c.venues-number-end.ensures.value) in
    let same = venue_is number c.unwrap-venue.result (sym c.new.ensures ∙ c.unwrap-venue.ensures) in
    let written = c.in_ok-write_venue_sums.ensures ∙ ap (λ v. string_bytes c.loop-number.text ++ of_venue w v [] (venue_sums w v)) same in
    next_line w number (string_bytes c.loop-number.text) (string_bytes c.write_venue_sums.new.text) _ there written c.loop-number.invariant
