use Rattle.std.proofs.Common.{ℕ, List, map, refl, ap, sym, subst, ◌++◌, ◌∷◌, [], take, ◌∙◌, arith}
use Rattle.std.proofs.lemmas.List.{map_more}
use Rattle.session_worker.specs.Restoring.{TakesMore}
use Rattle.day_restart.specs.Placing.{ArePlaced, PlacesLine, parts_of}
use Rattle.day_restart.proofs.Places.{takes_none, takes_on, zip_refl, zip_trans}
use Rattle.day_restart.proofs.Sweeps.{placed_more}
use Rattle.day_restart.proofs.desk_past.place_again.Goals as goal

pub loop-place-init : goal.loop-place-init
loop-place-init g c = record {
  placed = record {
    submissions = [];
    said = refl;
    released = c.requires.new;
    entries = ap (map (λ p. (p.reference, p.placement))) c.new.ensures.items;
    legs = refl;
    shares = refl;
  };
  starts = zip_refl TakesMore takes_none c.args.starts.now;
  seat = refl;
}

pub loop-place-preserved : goal.loop-place-preserved
loop-place-preserved g c =
    let names = c.args.names.now in
    let lines = c.args.lines.now in
    let text = c.index-lines-place.result in
    let place = c.loop-place.place in
    let before = c.loop-place in
    let more = map_more (λ v. v.items) lines place text c.loop-place-test.true
    ∙ ap (λ v. map (λ v. v.items) (take place lines) ++ v.items ∷ []) (sym c.index-lines-place.is) in
    record {
      placed = subst (λ ls. ArePlaced names ls c.place_line.new.desk.desk (parts_of c.place_line.new.again)) (sym more)
          (placed_more names (map (λ v. v.items) (take place lines)) text.items before.desk.desk
          c.place_line.new.desk.desk (parts_of before.again) (parts_of c.place_line.new.again) before.invariant.placed
          (subst (λ (asked : List ℕ). PlacesLine names asked before.desk.desk (parts_of before.again)
          c.place_line.new.desk.desk (parts_of c.place_line.new.again)) c.as_slice.ensures.value
          c.in_ok-place_line.ensures.placed));
      starts = zip_trans TakesMore takes_on c.args.starts.now before.starts c.take_each.new.starts before.invariant.starts
          c.in_ok-take_each.ensures;
      seat = c.place_line.ensures.seat ∙ before.invariant.seat;
    }
