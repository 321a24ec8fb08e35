use Rattle.std.proofs.Common.{◌≡◌, length, min}
use Rattle.desk_serve.specs.Shown.{AreVenues}
use Rattle.desk_serve.proofs.shown.venue_rows.Given as goal

abbrev pub invariant-loop-place : goal.invariant-loop-place
invariant-loop-place g l =
    (length l.rows.items ≡ min l.place (length l.floor.views.items))
    × AreVenues l.floor.names.items 0 l.rows.items
