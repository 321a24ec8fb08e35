use Rattle.std.proofs.Common.{rules, ◌≡◌, List, [], ◌++◌, ℕ, ap, ◌∙◌}
use Rattle.std.specs.Prelude.{string_bytes}
use Rattle.day_restart.specs.Words.{day_part, ids_part, table_part, terms_part}
use Rattle.day_restart.proofs.words.venue_words.Goals as goal

pub returns : goal.returns
returns c =
    let day : List ℕ = day_part c.args.day c.args.venue.now in
    let ids : List ℕ = ids_part c.args.venue.now in
    let terms : List ℕ = terms_part c.args.venue.now in
    let table : List ℕ = table_part c.args.venue.now.words in
    let empty : string_bytes c.new-words.result ≡ [] = search rules in
    let first = c.in_ok-append_day.ensures ∙ ap (λ l. l ++ day) empty in
    let second = c.in_ok-append_ids.ensures ∙ ap (λ l. l ++ ids) first in
    let third = c.in_ok-append_terms.ensures ∙ ap (λ l. l ++ terms) second in
    c.in_ok-append_table.ensures ∙ ap (λ l. l ++ table) third
