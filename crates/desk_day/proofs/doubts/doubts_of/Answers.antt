use Rattle.std.proofs.Common.{rules, ◌≡◌, ◌⊎◌, inl, inr, ◌++◌, ◌∷◌, [], List, length, drop, map, ap, sym, ◌∙◌}
use Rattle.std.specs.Prelude.{option_to_list}
use Rattle.std.specs.Iterator.Adapters.{zip_first, zip_second}
use Rattle.std.specs.Slice.Iter.{iter_rest}
use Rattle.std.proofs.lemmas.List.{length-append}
use Rattle.std.proofs.lemmas.Slice.Zip.{zip_turn, either_empty_from_Zip, Zip-so_far}
use Rattle.leg.specs.LegId.{LegIdParts}
use Rattle.desk_day.specs.Doubts.{if_any, venue_legs}
use Rattle.desk_day.proofs.DoubtsTold.{one_more, all_told}
use Rattle.desk_day.proofs.doubts.doubts_of.Goals as goal

pub loop-name-preserved : goal.loop-name-preserved
loop-name-preserved g c =
    let names = c.args.names.now in
    let ends = c.args.ends.now in
    let yielded = c.loop-name.yielded in
    let told = map venue_legs c.loop-name.doubts.items in
    let name = c.in-Some.name.now in
    let left = c.in-Some.end.now in
    let first : iter_rest (zip_first c.into_iter-name-iterator.result) ≡ names = search rules in
    let second : iter_rest (zip_second c.into_iter-name-iterator.result) ≡ ends = search rules in
    let turn = zip_turn names ends yielded c.into_iter-name-iterator.result c.loop-name.name-iterator c.next.new.self
    c.next.result first second c.loop-name.yielded_by _ c.in-Some.is c.next.ensures.steps in
    one_more names ends told (map venue_legs c.push_if_any.new.doubts.items) (length yielded) _ name left
    (length-append yielded ((c.in-Some.name, c.in-Some.end) ∷ [])) turn.0 turn.1 (turn.2 name) (turn.3 left)
    (c.in_ok-push_if_any.ensures
    ∙ ap (λ (legs : List LegIdParts). told ++ option_to_list (if_any name legs)) c.in_ok-legs.ensures)
    c.loop-name.invariant

pub returns : goal.returns
returns g c =
    let names = c.args.names.now in
    let ends = c.args.ends.now in
    let at = length c.loop-name.yielded in
    let first : iter_rest (zip_first c.into_iter-name-iterator.result) ≡ names = search rules in
    let second : iter_rest (zip_second c.into_iter-name-iterator.result) ≡ ends = search rules in
    let so_far = Zip-so_far c.loop-name.yielded c.into_iter-name-iterator.result c.loop-name.name-iterator
    c.loop-name.yielded_by in
    let over : (drop at names ≡ []) ⊎ (drop at ends ≡ []) =
    elim (either_empty_from_Zip c.loop-name.name-iterator c.next.new.self c.next.result c.in-None.is c.next.ensures.steps) [
      | inl none ↦ inl (ap (drop at) (sym first) ∙ (sym so_far.0 ∙ none))
      | inr none ↦ inr (ap (drop at) (sym second) ∙ (sym so_far.1 ∙ none))
    ] in
    all_told names ends (map venue_legs c.loop-name.doubts.items) at over c.loop-name.invariant
