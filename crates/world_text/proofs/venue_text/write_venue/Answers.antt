use Rattle.std.proofs.Common.{◌≡◌, ◌++◌, ap, ◌∙◌}
use Rattle.std.specs.Prelude.{string_bytes}
use Rattle.std.proofs.lemmas.List.{append_assoc}
use Rattle.schedule.specs.Printed.{legs_text}
use Rattle.world_text.proofs.VenueLines.{words, line_is}
use Rattle.world_text.proofs.venue_text.write_venue.Goals as goal

pub returns : goal.returns
returns g c =
    let v = c.args.venue in
    let start = string_bytes c.args.text.now in
    let ids = c.in_ok-ids_of.field-0.items in
    let gone = c.in_ok-legs.legs.withdrawn.items in
    let unsure = c.in_ok-legs.legs.in_doubt.items in
    let accepted : string_bytes c.in_ok-accepted.accepted ≡ legs_text ids = c.in_ok-accepted.ensures ∙ ap legs_text c.deref.ensures.value in
    let withdrawn : string_bytes c.in_ok-withdrawn.withdrawn ≡ legs_text gone =
    c.in_ok-withdrawn.ensures ∙ ap legs_text c.deref-2.ensures.value in
    let doubtful : string_bytes c.in_ok-in_doubt.in_doubt ≡ legs_text unsure = c.in_ok-in_doubt.ensures ∙ ap legs_text c.deref-3.ensures.value in
    let phase = c.phase_name-phase.ensures in
    let closed = c.closed_word-closed.ensures in
    let written : string_bytes c.write.new.self
    ≡ start
    ++ words v (string_bytes c.in_ok-accepted.accepted) (string_bytes c.in_ok-withdrawn.withdrawn)
    (string_bytes c.in_ok-in_doubt.in_doubt) c.phase_name-phase.result.now c.closed_word-closed.result.now =
    c.in_ok-write.ensures.bytes ∙ simp append_assoc in
    written
    ∙ ((λ k. start ++ words v (accepted k) (withdrawn k) (doubtful k) (phase k) (closed k))
    ∙ ap (λ t. start ++ t)
    (line_is c.args.world.now v c.in-Some.phase c.accepted.result.now ids gone unsure c.closed_at.result c.in-Some.ensures
    c.accepted.ensures c.in_ok-ids_of.ensures c.in_ok-legs.ensures.withdrawn c.in_ok-legs.ensures.in_doubt c.closed_at.ensures))
