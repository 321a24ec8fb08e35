use Rattle.std.proofs.Common.{◌≡◌, length, map, take}
use Rattle.venue_words.specs.Dialect.{dialect_of}
use Rattle.desk_run.proofs.going_on.pasts_of.Given as goal

abbrev pub invariant-loop-venue : goal.invariant-loop-venue
invariant-loop-venue g l = record {
  many : length l.pasts.items ≡ l.venue-index;
  dialects : map (λ p. p.dialect) l.pasts.items ≡ map (λ v. dialect_of v.words) (take l.venue-index l.venues);
  lines : map (λ p. map (λ l. l.items) p.lines.now) l.pasts.items
      ≡ map (λ f. f.lines) (take l.venue-index l.files.venues.items);
  names : map (λ p. p.name.now) l.pasts.items ≡ map (λ v. v.name) (take l.venue-index l.venues);
}
