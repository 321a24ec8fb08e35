use Rattle.std.proofs.Common.{rules, ◌≡◌, List, ◌++◌, ℕ}
use Rattle.std.specs.Prelude.{string_bytes}
use Rattle.journal_log.specs.Head.{behind_space, ids_part, most_part, table_lines, terms_part}
use Rattle.journal_log.proofs.venue_head.VenueHead.head_words.Goals as goal

pub returns : goal.returns
returns c =
    let ids : List ℕ = ids_part c.args.self.now in
    let terms : List ℕ = terms_part c.args.self.now.words c.args.self.now.config in
    let most : List ℕ = most_part c.args.self.now.config in
    let table : List ℕ = behind_space (table_lines c.args.self.now.words) in
    let first : string_bytes c.append_ids.new.words ≡ ids = search rules in
    let second : string_bytes c.append_terms.new.words ≡ ids ++ terms = search rules in
    let third : string_bytes c.append_most.new.words ≡ (ids ++ terms) ++ most = search rules in
    let fourth : string_bytes c.append_table.new.words ≡ ((ids ++ terms) ++ most) ++ table = search rules in
    fourth
