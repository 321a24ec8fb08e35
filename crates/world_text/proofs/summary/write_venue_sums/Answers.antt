use Rattle.std.proofs.Common.{rules, ◌≡◌, ◌++◌, ℕ, List, length, ap, ◌∙◌}
use Rattle.std.specs.Prelude.{string_bytes}
use Rattle.std.proofs.lemmas.List.{append_assoc}
use Rattle.world_text.proofs.SummaryLines.{words, line_is, line_of_words}
use Rattle.world_text.proofs.summary.write_venue_sums.Goals as goal

pub returns : goal.returns
returns g c =
    let v = c.args.venue in
    let start = string_bytes c.args.text.now in
    let orders = c.accepted.result.now in
    let gone = c.in_ok-legs.legs.withdrawn.items in
    let unsure = c.in_ok-legs.legs.in_doubt.items in
    let written : string_bytes c.write.new.self
    ≡ start
    ++ words v (length orders) c.len-withdrawn.result c.len-in_doubt.result c.phase_name-phase.result.now
    c.closed_word-closed.result.now =
    c.in_ok-write.ensures.bytes ∙ simp append_assoc in
    let few : c.len-withdrawn.result ≡ length gone = search rules in
    let some : c.len-in_doubt.result ≡ length unsure = search rules in
    let same = line_of_words v orders gone unsure c.in-Some.phase c.closed_at.result c.len-withdrawn.result c.len-in_doubt.result
    c.phase_name-phase.result.now c.closed_word-closed.result.now few some c.phase_name-phase.ensures c.closed_word-closed.ensures in
    let is = line_is c.args.world.now v c.in-Some.phase orders gone unsure c.closed_at.result c.in-Some.ensures
    c.accepted.ensures c.in_ok-legs.ensures.withdrawn c.in_ok-legs.ensures.in_doubt c.closed_at.ensures in
    written ∙ ap (λ (t : List ℕ). start ++ t) (same ∙ is)
