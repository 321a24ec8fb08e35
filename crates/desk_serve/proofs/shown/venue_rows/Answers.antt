use Rattle.std.proofs.Common.{ap, length, ◌∙◌, arith, subst, Option, MatchOption, ◌<◌, ◌≤◌, ◌⊎◌, inl, inr, Vec}
use Rattle.desk_json.specs.declared.standing.VenueRow.{VenueRow}
use Rattle.desk_serve.specs.Shown.{IsVenue}
use Rattle.desk_serve.proofs.Showing.{venue_more, no_venue}
use Rattle.desk_serve.proofs.shown.venue_rows.Goals.{in-Some+in_ok-push, in_default}
use Rattle.desk_serve.proofs.shown.venue_rows.Goals as goal

pub loop-place-preserved : goal.loop-place-preserved
loop-place-preserved g c =
    let names = c.args.floor.now.names.items in
    let venues = length c.args.floor.now.views.items in
    let Told : Option VenueRow → Type 0 = λ told. MatchOption told
    ((length names ≤ c.loop-place.place) ⊎ (venues ≤ c.loop-place.place))
    (λ row. (c.loop-place.place < venues) × IsVenue names c.loop-place.place row) in
    elim c.match-branch-2.branch [
      | in-Some+in_ok-push w ↦ venue_more names venues c.loop-place.place c.loop-place.rows.items _ w.in-Some.row
          (ap (λ (v : Vec VenueRow _). v.items) w.rows-is ∙ w.in_ok-push.ensures.items) c.loop-place.invariant
          (subst Told w.in-Some.is c.in_ok-row.ensures)
      | in_default w ↦ no_venue names venues c.loop-place.place c.loop-place.rows.items _
          (ap (λ (v : Vec VenueRow _). v.items) w.rows-is) c.loop-place.invariant
          (elim (subst Told w.in_default.is c.in_ok-row.ensures) [
            | inl few ↦ absurd (let low = c.loop-place-test.true in omega (arith, few, low))
            | inr past ↦ past
          ])
    ]
