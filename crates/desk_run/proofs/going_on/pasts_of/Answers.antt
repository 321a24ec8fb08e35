use Rattle.std.proofs.Common.{rules, ◌≡◌, ◌∙◌, ◌∷◌, [], ◌++◌, map, take, refl, sym, ap}
use Rattle.std.proofs.lemmas.List.{take_more}
use Rattle.venue_words.specs.Dialect.{dialect_of}
use Rattle.desk_run.proofs.PastLines.{found_pushed, lines_pushed}
use Rattle.desk_run.proofs.going_on.pasts_of.Goals as goal

pub loop-venue-preserved : goal.loop-venue-preserved
loop-venue-preserved g c =
    let so_far = c.loop-venue.invariant in
    let pushed = c.in_ok-push.ensures.items in
    let venues = c.args.venues.now in
    let at = c.loop-venue.venue-index in
    let here : c.len.result ≡ c.loop-venue.venue-index = search rules in
    let taken = take_more venues at c.venue-item.result c.loop-venue-test.true
    ∙ ap (λ v. take at venues ++ v ∷ []) (sym c.venue-item.is) in
    record {
      many = search rules;
      dialects = found_pushed (λ p. p.dialect) (λ v. dialect_of v.words) c.loop-venue.pasts.items _ _ venues
          c.venue-item.result at pushed taken c.dialect.ensures so_far.dialects;
      lines = lines_pushed (λ p. map (λ l. l.items) p.lines.now) (λ f. f.lines) c.loop-venue.pasts.items _ _
          c.args.files.now.venues.items at c.len.result pushed here c.venue-lines.ensures so_far.lines;
      names = found_pushed (λ p. p.name.now) (λ v. v.name) c.loop-venue.pasts.items _ _ venues c.venue-item.result at
          pushed taken refl so_far.names;
    }
