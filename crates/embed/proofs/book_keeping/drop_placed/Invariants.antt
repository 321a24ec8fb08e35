use Rattle.std.proofs.Common.{◌≡◌, [], length}
use Rattle.embed.specs.Keeping.{Dropping, drop_legs}
use Rattle.embed.proofs.book_keeping.drop_placed.Given as goal

abbrev pub invariant-each : goal.invariant-each
invariant-each l =
    let start : Dropping = record { desk = l.initial.desk.desk; book = l.initial.book; ids = [] } in
    let at : Dropping = record { desk = l.desk.desk; book = l.book; ids = l.ids.items } in
    record {
      many : length l.desk.desk.venues ≡ length l.initial.desk.desk.venues;
      dropped : at ≡ drop_legs l.venue l.counter start;
    }
