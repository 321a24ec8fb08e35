use Rattle.std.proofs.Common.{rules, ◌≡◌, List, [], ◌++◌, ℕ, ap, ◌∙◌}
use Rattle.std.specs.Prelude.{string_bytes}
use Rattle.desk_json.specs.Parted.{parted}
use Rattle.day_restart.specs.declared.told.VenueRestored.{VenueRestored}
use Rattle.day_restart.specs.Told.{counts_json, venue_json, withdrawn_json}
use Rattle.day_restart.proofs.told.RestoredLine.json.Goals as goal

pub returns : goal.returns
returns c =
    let told = c.args.self.now in
    let counts : List ℕ = counts_json told in
    let venues : List ℕ = parted venue_json [] told.venues.items in
    let withdrawn : List ℕ = withdrawn_json told.withdrawn in
    let empty : string_bytes c.new-text.result ≡ [] = search rules in
    let slice : List VenueRestored = c.as_slice.result.now in
    let rows : parted venue_json [] slice ≡ venues = ap (parted venue_json []) c.as_slice.ensures.value in
    let front : string_bytes c.write_counts.new.text ≡ counts =
    c.in_ok-write_counts.ensures ∙ ap (λ l. l ++ counts) empty in
    c.in_ok-write_withdrawn.ensures
    ∙ ap (λ l. l ++ withdrawn) (c.in_ok-write_venues.ensures
    ∙ (ap (λ l. l ++ parted venue_json [] slice) front ∙ ap (λ l. counts ++ l) rows))
