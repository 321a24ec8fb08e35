-- The lines that deeds make: the last one, one more, the first ones, and those of deeds that are done again later.
use Rattle.std.proofs.Common.{◌≡◌, ◌≤◌, ◌<◌, ◌+◌, ◌-◌, ℕ, zero, suc, Bool, List, [], ◌∷◌, ◌++◌, length, take, drop, Option, Some, None, refl, sym, ap, subst, ◌∙◌, arith}
use Rattle.std.specs.Prelude.{slice_get}
use Rattle.std.specs.List.{AllByRecursion}
use Rattle.std.proofs.lemmas.List.{take-append-drop, length-drop}
use Rattle.std.proofs.lemmas.Option.{slice_get_past}
use Rattle.std.proofs.Math.ListN.{drop_of_length-le}
use Rattle.leg.specs.Growing.{Grew}
use Rattle.schedule.specs.World.{Frame}
use Rattle.world_restart.specs.Journal.{Standing}
use Rattle.world_restart.specs.Deeds.{again, frame_deed}
use Rattle.world_restart.proofs.Places.{numbered-front}
use Rattle.replay.specs.declared.deed.Deed.{Deed}
use Rattle.replay.specs.declared.deed.Deed.TheVariants as deed
use Rattle.replay.specs.Redoing.{redo, redo_all, lines_behind}
use Rattle.replay.specs.DaySeen.{IsWithin}

module _ (frames : List Frame) where
  -- the last line
  pub last_line : (s : Standing) (lines : List Standing) (deeds : List Deed)
      → slice_get (lines_behind frames s lines deeds) 0 ≡ Some (redo_all frames s deeds)
  last_line s lines [] = refl
  last_line s lines (d ∷ deeds) = last_line (redo frames s d) (s ∷ lines) deeds

  -- one more
  pub one_line : (s : Standing) (lines : List Standing) (deeds : List Deed) (d : Deed)
      → lines_behind frames s lines (deeds ++ d ∷ [])
      ≡ redo frames (redo_all frames s deeds) d ∷ lines_behind frames s lines deeds
  one_line s lines [] d = refl
  one_line s lines (x ∷ deeds) d = one_line (redo frames s x) (s ∷ lines) deeds d

  pub redo_more : (s : Standing) (deeds : List Deed) (d : Deed)
      → redo_all frames s (deeds ++ d ∷ []) ≡ redo frames (redo_all frames s deeds) d
  redo_more s [] d = refl
  redo_more s (x ∷ deeds) d = redo_more (redo frames s x) deeds d

  pub lines_length : (s : Standing) (lines : List Standing) (deeds : List Deed)
      → length (lines_behind frames s lines deeds) ≡ suc (length lines + length deeds)
  lines_length s lines [] = (let e : length lines + 0 ≡ length lines = omega arith in ap suc (sym e))
  lines_length s lines (d ∷ deeds) =
      lines_length (redo frames s d) (s ∷ lines) deeds
      ∙ (let e : suc (length lines) + length deeds ≡ length lines + suc (length deeds) = omega arith in ap suc e)

  -- the first ones
  drop_one : {A : Type 0} (n : ℕ) (xs : List A) → drop (suc n) xs ≡ drop 1 (drop n xs)
  drop_one zero xs = refl
  drop_one (suc n) [] = refl
  drop_one (suc n) (x ∷ xs) = drop_one n xs

  all_dropped : (s : Standing) (lines : List Standing) (deeds : List Deed)
      → drop (length deeds) (lines_behind frames s lines deeds) ≡ s ∷ lines
  all_dropped s lines [] = refl
  all_dropped s lines (d ∷ deeds) =
      drop_one (length deeds) (lines_behind frames (redo frames s d) (s ∷ lines) deeds)
      ∙ ap (drop 1) (all_dropped (redo frames s d) (s ∷ lines) deeds)

  some_dropped : (s : Standing) (lines : List Standing) (deeds more : List Deed)
      → drop (length more) (lines_behind frames s lines (deeds ++ more)) ≡ lines_behind frames s lines deeds
  some_dropped s lines [] more = all_dropped s lines more
  some_dropped s lines (d ∷ deeds) more = some_dropped (redo frames s d) (s ∷ lines) deeds more

  pub lines_dropped : (s : Standing) (lines : List Standing) (deeds : List Deed) (n : ℕ) → n ≤ length deeds
      → drop n (lines_behind frames s lines deeds) ≡ lines_behind frames s lines (take (length deeds - n) deeds)
  lines_dropped s lines deeds n low =
      let k = length deeds - n in
      let behind : length (drop k deeds) ≡ n = length-drop k deeds ∙ (let e : length deeds - (length deeds - n) ≡ n = omega arith in e) in
      (λ i. drop (sym behind i) (lines_behind frames s lines (sym (take-append-drop k deeds) i)))
      ∙ some_dropped s lines (take k deeds) (drop k deeds)

  pub last_kept_line : (s : Standing) (deeds : List Deed) (n : ℕ) → n ≤ length deeds
      → slice_get (drop n (lines_behind frames s [] deeds)) 0
      ≡ Some (redo_all frames s (take (length deeds - n) deeds))
  last_kept_line s deeds n low =
      ap (λ l. slice_get l 0) (lines_dropped s [] deeds n low)
      ∙ last_line s [] (take (length deeds - n) deeds)

  pub no_line : (s : Standing) (deeds : List Deed) (n : ℕ) → length deeds < n
      → slice_get (drop n (lines_behind frames s [] deeds)) 0 ≡ None
  no_line s deeds n past =
      let all = lines_length s [] deeds in
      let low : length (lines_behind frames s [] deeds) ≤ n = omega arith in
      ap (λ l. slice_get l 0) (drop_of_length-le (lines_behind frames s [] deeds) low)

-- done again once the exchange wrote more
redo_grown : (frames more : List Frame) (s : Standing) (d : Deed) → IsWithin (length frames) d
    → redo (frames ++ more) s d ≡ redo frames s d
redo_grown frames more s deed.Nothing within = refl
redo_grown frames more s (deed.Took placed) within = refl
redo_grown frames more s deed.Dropped within = refl
redo_grown frames more s deed.Connected within = refl
redo_grown frames more s deed.Quieted within = refl
redo_grown frames more s deed.Silenced within = refl
redo_grown frames more s deed.Closed within = refl
redo_grown frames more s deed.Abandoned within = refl
redo_grown frames more s (deed.Heard n) within =
    ap (λ o. again s (frame_deed s.session o)) (numbered-front n frames more within)
redo_grown frames more s deed.Broke within = refl
redo_grown frames more s (deed.Started left) within = refl

lines_append : (frames more : List Frame) (s : Standing) (lines : List Standing) (deeds : List Deed)
    → AllByRecursion (IsWithin (length frames)) deeds
    → lines_behind (frames ++ more) s lines deeds ≡ lines_behind frames s lines deeds
lines_append frames more s lines [] all = refl
lines_append frames more s lines (d ∷ deeds) all =
    ap (λ t. lines_behind (frames ++ more) t (s ∷ lines) deeds) (redo_grown frames more s d all.0)
    ∙ lines_append frames more (redo frames s d) (s ∷ lines) deeds all.1

pub lines_grown : (frames later : List Frame) (s : Standing) (lines : List Standing) (deeds : List Deed)
    → Grew frames later → AllByRecursion (IsWithin (length frames)) deeds
    → lines_behind later s lines deeds ≡ lines_behind frames s lines deeds
lines_grown frames later s lines deeds grew all =
    ap (λ f. lines_behind f s lines deeds) grew.1 ∙ lines_append frames grew.0 s lines deeds all

within_one : (count more : ℕ) (d : Deed) → count ≤ more → IsWithin count d → IsWithin more d
within_one count more deed.Nothing low is = tt
within_one count more (deed.Took placed) low is = tt
within_one count more deed.Dropped low is = tt
within_one count more deed.Connected low is = tt
within_one count more deed.Quieted low is = tt
within_one count more deed.Silenced low is = tt
within_one count more deed.Closed low is = tt
within_one count more deed.Abandoned low is = tt
within_one count more (deed.Heard n) low is = omega arith
within_one count more deed.Broke low is = tt
within_one count more (deed.Started left) low is = tt

pub within_more : (count more : ℕ) (deeds : List Deed) → count ≤ more → AllByRecursion (IsWithin count) deeds
    → AllByRecursion (IsWithin more) deeds
within_more count more [] low all = tt
within_more count more (d ∷ deeds) low all =
    (within_one count more d low all.0, within_more count more deeds low all.1)

pub within_push : (count : ℕ) (deeds : List Deed) (d : Deed) → AllByRecursion (IsWithin count) deeds → IsWithin count d
    → AllByRecursion (IsWithin count) (deeds ++ d ∷ [])
within_push count [] d all is = (is, tt)
within_push count (x ∷ deeds) d all is = (all.0, within_push count deeds d all.1 is)

pub within_take : (count n : ℕ) (deeds : List Deed) → AllByRecursion (IsWithin count) deeds
    → AllByRecursion (IsWithin count) (take n deeds)
within_take count zero [] all = tt
within_take count zero (d ∷ deeds) all = tt
within_take count (suc n) [] all = tt
within_take count (suc n) (d ∷ deeds) all = (all.0, within_take count n deeds all.1)
