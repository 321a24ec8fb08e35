-- The samples of venues, written one venue after the other.
use Rattle.std.proofs.Common.{◌≡◌, ℕ, ◌+◌, ◌<◌, List, ◌++◌, length, drop, get_or, sym, ap, ◌∙◌, append_assoc}
use Rattle.std.proofs.lemmas.List.{drop_more}
use Rattle.desk_json.specs.declared.standing.VenueRow.{VenueRow}
use Rattle.desk_http.specs.declared.venue_metric.VenueMetric.{VenueMetric}
use Rattle.desk_http.specs.VenueMetric.{samples, samples_at_each}

-- one more venue is written, and those behind it are left
pub venues_more : (metric : VenueMetric) (rows : List VenueRow) (i : ℕ) (d : VenueRow) (whole before after : List ℕ)
    → i < length rows
    → whole ≡ before ++ samples_at_each metric (drop i rows)
    → after ≡ before ++ samples metric (get_or rows i d)
    → whole ≡ after ++ samples_at_each metric (drop (i + 1) rows)
venues_more metric rows i d whole before after within so_far grew =
    let row = samples metric (get_or rows i d) in
    let rest = samples_at_each metric (drop (i + 1) rows) in
    so_far
    ∙ ap (λ left. before ++ samples_at_each metric left) (drop_more rows i d within)
    ∙ sym (append_assoc before row rest)
    ∙ ap (λ text. text ++ rest) (sym grew)
