-- What becomes of the runs where a leg more is settled.
use Rattle.std.proofs.Common.{◌≡◌, ◌<◌, ◌≤◌, ◌+◌, ◌==◌, ℕ, zero, suc, Bool, true, false, ◌&&◌, nat_lt, List, [], ◌∷◌, length, get_or, set, ◌++◌, refl, sym, ap, ◌∙◌, if◌then◌else◌, arith}
use Rattle.std.specs.List.{insert, remove}
use Rattle.std.specs.List.Sorted.{IsNonDecreasingBy}
use Rattle.std.proofs.lemmas.Bool.{and_parts, eqb-true}
use Rattle.std.proofs.lemmas.Bool.Decides.{nat_tests}
use Rattle.leg.specs.declared.leg_state.LegState.{LegState}
use Rattle.leg.specs.declared.leg_state.LegState.TheVariants.{Queued, Doubt, Taken, Withdrawn}
use Rattle.resend.specs.declared.run.Run.{Run}
use Rattle.resend.specs.Kept.{leading}
use Rattle.resend.specs.Runs.{are_alike, goes_on, joined_to}
use Rattle.resend.specs.KeptRuns.{added, added_all, joined_at, EndBy, Rise, IsNotInto, AreApart, AreRuns}

abbrev pub merged : Run → Run → Run
merged run next = record run { count = run.count + next.count }

alike_same : (left right : LegState) → are_alike left right ≡ true → left ≡ right
alike_same Taken Taken e = refl
alike_same Withdrawn Withdrawn e = refl
alike_same Queued right e = absurd cc
alike_same Doubt right e = absurd cc
alike_same Taken Queued e = absurd cc
alike_same Taken Doubt e = absurd cc
alike_same Taken Withdrawn e = absurd cc
alike_same Withdrawn Queued e = absurd cc
alike_same Withdrawn Doubt e = absurd cc
alike_same Withdrawn Taken e = absurd cc

-- where a run goes on in the next one
pub record GoesOn (run next : Run) : Type 0 where
  pub numbers : run.first_number + run.count ≡ next.first_number
  pub ordinals : run.first_ordinal + run.count ≡ next.first_ordinal
  pub states : run.state ≡ next.state

pub it_goes_on : (run next : Run) → goes_on run next ≡ true → GoesOn run next
it_goes_on run next on =
    let parts = and_parts (run.first_number + run.count == next.first_number && run.first_ordinal + run.count == next.first_ordinal) (are_alike run.state next.state) on in
    let both = and_parts (run.first_number + run.count == next.first_number) (run.first_ordinal + run.count == next.first_ordinal) parts.0 in
    record { numbers = eqb-true _ _ both.0; ordinals = eqb-true _ _ both.1; states = alike_same run.state next.state parts.1 }

-- what is made one with the next run goes on where that one does
merged_end : (run next behind : Run) → goes_on run next ≡ true → goes_on (merged run next) behind ≡ goes_on next behind
merged_end run next behind on =
    let it = it_goes_on run next on in
    let number : run.first_number + (run.count + next.count) ≡ next.first_number + next.count = omega (arith, it.numbers) in
    let ordinal : run.first_ordinal + (run.count + next.count) ≡ next.first_ordinal + next.count = omega (arith, it.ordinals) in
    rw (number, ordinal, it.states) refl

merged_twice : (run next behind : Run) → merged run (merged next behind) ≡ merged (merged run next) behind
merged_twice run next behind =
    let sum : run.count + (next.count + behind.count) ≡ run.count + next.count + behind.count = omega arith in
    ap (λ (count : ℕ). record run { count = count }) sum

twice_turn : (b : Bool) (run next behind : Run) (runs : List Run) → goes_on run next ≡ true → goes_on next behind ≡ b
    → joined_to run (if b then merged next behind ∷ runs else next ∷ behind ∷ runs) ≡ joined_to (merged run next) (behind ∷ runs)
twice_turn true run next behind runs on is =
    let end = merged_end run next behind on in rw (end, is, on) (ap (λ (one : Run). one ∷ runs) (merged_twice run next behind))
twice_turn false run next behind runs on is =
    let end = merged_end run next behind on in rw (end, is, on) refl

pub joined_twice : (run next : Run) (runs : List Run) → goes_on run next ≡ true → joined_to run (joined_to next runs) ≡ joined_to (merged run next) runs
joined_twice run next [] on = rw on refl
joined_twice run next (behind ∷ runs) on = twice_turn (goes_on next behind) run next behind runs on refl

-- what stays true of runs
not_into : (run : Run) (runs : List Run) → IsNotInto run runs → joined_to run runs ≡ run ∷ runs
not_into run [] unlike = refl
not_into run (next ∷ runs) unlike = rw unlike refl

into_turn : (b : Bool) (before run next : Run) (runs : List Run) → goes_on before run ≡ false → IsNotInto before (if b then merged run next ∷ runs else run ∷ next ∷ runs)
into_turn true before run next runs unlike = unlike
into_turn false before run next runs unlike = unlike

not_into_joined : (before run : Run) (runs : List Run) → goes_on before run ≡ false → IsNotInto before (joined_to run runs)
not_into_joined before run [] unlike = unlike
not_into_joined before run (next ∷ runs) unlike = into_turn (goes_on run next) before run next runs unlike

merged_not_into : (run next : Run) (runs : List Run) → goes_on run next ≡ true → IsNotInto next runs → IsNotInto (merged run next) runs
merged_not_into run next [] on unlike = tt
merged_not_into run next (behind ∷ runs) on unlike = merged_end run next behind on ∙ unlike

apart_turn : (b : Bool) (run next : Run) (runs : List Run) → goes_on run next ≡ b → AreApart (next ∷ runs) → AreApart (if b then merged run next ∷ runs else run ∷ next ∷ runs)
apart_turn true run next runs is apart = (merged_not_into run next runs is apart.0, apart.1)
apart_turn false run next runs is apart = (is, apart)

apart_joined : (run : Run) (runs : List Run) → AreApart runs → AreApart (joined_to run runs)
apart_joined run [] apart = (tt, tt)
apart_joined run (next ∷ runs) apart = apart_turn (goes_on run next) run next runs refl apart

end_turn : (b : Bool) (bound : ℕ) (run next : Run) (runs : List Run) → goes_on run next ≡ b → EndBy bound (run ∷ next ∷ runs) → EndBy bound (if b then merged run next ∷ runs else run ∷ next ∷ runs)
end_turn true bound run next runs is end = (omega (arith, (it_goes_on run next is).numbers, end.1.0), end.1.1)
end_turn false bound run next runs is end = end

pub end_joined : (bound : ℕ) (run : Run) (runs : List Run) → EndBy bound (run ∷ runs) → EndBy bound (joined_to run runs)
end_joined bound run [] end = end
end_joined bound run (next ∷ runs) end = end_turn (goes_on run next) bound run next runs refl end

rise_later : (low least : ℕ) (runs : List Run) → least ≤ low → Rise low runs → Rise least runs
rise_later low least [] le rise = tt
rise_later low least (run ∷ runs) le rise = (omega (arith, rise.0), rise.1)

rise_turn : (b : Bool) (low : ℕ) (run next : Run) (runs : List Run) → Rise low (run ∷ next ∷ runs) → Rise low (if b then merged run next ∷ runs else run ∷ next ∷ runs)
rise_turn true low run next runs rise = (rise.0, rise_later next.first_number run.first_number runs rise.1.0 rise.1.1)
rise_turn false low run next runs rise = rise

rise_joined : (low : ℕ) (run : Run) (runs : List Run) → Rise low (run ∷ runs) → Rise low (joined_to run runs)
rise_joined low run [] rise = rise
rise_joined low run (next ∷ runs) rise = rise_turn (goes_on run next) low run next runs rise

-- a leg that is added
module _ (leg : Run) where
  apart_added_turn : (b : Bool) (run : Run) (runs : List Run) → AreApart (run ∷ runs) → AreApart (added leg runs)
      → AreApart (if b then joined_to run (added leg runs) else joined_to leg (run ∷ runs))
  apart_added_turn true run runs apart rest = apart_joined run (added leg runs) rest
  apart_added_turn false run runs apart rest = apart_joined leg (run ∷ runs) apart

  pub apart_added : (runs : List Run) → AreApart runs → AreApart (added leg runs)
  apart_added [] apart = (tt, tt)
  apart_added (run ∷ runs) apart = apart_added_turn (nat_lt run.first_number leg.first_number) run runs apart (apart_added runs apart.1)

  end_added_turn : (b : Bool) (bound : ℕ) (run : Run) (runs : List Run) → leg.first_number + leg.count ≤ bound → EndBy bound (run ∷ runs) → EndBy bound (added leg runs)
      → EndBy bound (if b then joined_to run (added leg runs) else joined_to leg (run ∷ runs))
  end_added_turn true bound run runs le end rest = end_joined bound run (added leg runs) (end.0, rest)
  end_added_turn false bound run runs le end rest = end_joined bound leg (run ∷ runs) (le, end)

  pub end_added : (bound : ℕ) (runs : List Run) → leg.first_number + leg.count ≤ bound → EndBy bound runs → EndBy bound (added leg runs)
  end_added bound [] le end = (le, tt)
  end_added bound (run ∷ runs) le end = end_added_turn (nat_lt run.first_number leg.first_number) bound run runs le end (end_added bound runs le end.1)

  rise_added_turn : (b : Bool) (low : ℕ) (run : Run) (runs : List Run) → nat_lt run.first_number leg.first_number ≡ b → low ≤ leg.first_number → Rise low (run ∷ runs)
      → (run.first_number ≤ leg.first_number → Rise run.first_number (added leg runs)) → Rise low (if b then joined_to run (added leg runs) else joined_to leg (run ∷ runs))
  rise_added_turn true low run runs is le rise rest = rise_joined low run (added leg runs) (rise.0, rest (grind (arith, nat_tests, is)))
  rise_added_turn false low run runs is le rise rest = rise_joined low leg (run ∷ runs) (le, (grind (arith, nat_tests, is), rise.1))

  pub rise_added : (low : ℕ) (runs : List Run) → low ≤ leg.first_number → Rise low runs → Rise low (added leg runs)
  rise_added low [] le rise = (le, tt)
  rise_added low (run ∷ runs) le rise =
      rise_added_turn (nat_lt run.first_number leg.first_number) low run runs refl le rise (λ up. rise_added run.first_number runs up rise.1)

  -- it is put in its place, and then made one with the runs beside it
  abbrev placed : ℕ → List Run → List Run
  placed zero runs = joined_at zero (leg ∷ runs)
  placed (suc place) runs = joined_at place (joined_at (suc place) (insert runs (suc place) leg))

  is_below : Run → Bool
  is_below run = nat_lt run.first_number leg.first_number

  added_turn : (b : Bool) (before run : Run) (runs : List Run) → goes_on before run ≡ false → 0 < (if b then suc (leading (λ (r : Run). nat_lt r.first_number leg.first_number) runs) else 0)
      → IsNotInto before (if b then joined_to run (added leg runs) else joined_to leg (run ∷ runs))
  added_turn true before run runs unlike some = not_into_joined before run (added leg runs) unlike
  added_turn false before run runs unlike some = absurd (omega arith)

  not_into_added : (before : Run) (runs : List Run) → IsNotInto before runs → 0 < leading (λ (r : Run). nat_lt r.first_number leg.first_number) runs → IsNotInto before (added leg runs)
  not_into_added before [] unlike some = absurd (omega arith)
  not_into_added before (run ∷ runs) unlike some = added_turn (nat_lt run.first_number leg.first_number) before run runs unlike some

  behind_one : (place : ℕ) (run : Run) (runs : List Run) → IsNotInto run runs → leading (λ (r : Run). nat_lt r.first_number leg.first_number) runs ≡ place → placed place runs ≡ added leg runs
      → joined_at place (run ∷ joined_at place (insert runs place leg)) ≡ joined_to run (added leg runs)
  behind_one zero run runs unlike is e = ap (joined_to run) e
  behind_one (suc place) run runs unlike is e =
      ap (λ (rest : List Run). run ∷ rest) e ∙ sym (not_into run (added leg runs) (not_into_added run runs unlike (omega (arith, is))))

  placed_turn : (b : Bool) (place : ℕ) (run : Run) (runs : List Run) → IsNotInto run runs → nat_lt run.first_number leg.first_number ≡ b
      → placed (leading (λ (r : Run). nat_lt r.first_number leg.first_number) runs) runs ≡ added leg runs
      → (if b then suc (leading (λ (r : Run). nat_lt r.first_number leg.first_number) runs) else 0) ≡ place
      → placed place (run ∷ runs) ≡ (if b then joined_to run (added leg runs) else joined_to leg (run ∷ runs))
  placed_turn true zero run runs unlike is e at = absurd (omega arith)
  placed_turn true (suc place) run runs unlike is e at =
      let same : leading (λ (r : Run). nat_lt r.first_number leg.first_number) runs ≡ place = omega arith in
      behind_one place run runs unlike same (ap (λ (n : ℕ). placed n runs) (sym same) ∙ e)
  placed_turn false zero run runs unlike is e at = refl
  placed_turn false (suc place) run runs unlike is e at = absurd (omega arith)

  pub placed_is : (runs : List Run) → AreApart runs → placed (leading (λ (r : Run). nat_lt r.first_number leg.first_number) runs) runs ≡ added leg runs
  placed_is [] apart = refl
  placed_is (run ∷ runs) apart =
      placed_turn (nat_lt run.first_number leg.first_number) _ run runs apart.0 refl (placed_is runs apart.1) refl

  pub added_first : (place : ℕ) (runs : List Run) → AreApart runs → place ≡ leading (λ (r : Run). nat_lt r.first_number leg.first_number) runs → place ≡ 0
      → joined_at place (insert runs place leg) ≡ added leg runs
  added_first place runs apart is none =
      let first : leading (λ (r : Run). nat_lt r.first_number leg.first_number) runs ≡ 0 = omega arith in
      rw none (ap (λ (n : ℕ). placed n runs) (sym first) ∙ placed_is runs apart)

  pub added_behind : (place before : ℕ) (runs : List Run) → AreApart runs → place ≡ leading (λ (r : Run). nat_lt r.first_number leg.first_number) runs → place ≡ suc before
      → joined_at before (joined_at place (insert runs place leg)) ≡ added leg runs
  added_behind place before runs apart is next =
      let same : leading (λ (r : Run). nat_lt r.first_number leg.first_number) runs ≡ suc before = omega arith in
      rw next (ap (λ (n : ℕ). placed n runs) (sym same) ∙ placed_is runs apart)

  pub end_insert : (bound place : ℕ) (runs : List Run) → leg.first_number + leg.count ≤ bound → EndBy bound runs → EndBy bound (insert runs place leg)
  end_insert bound zero runs le end = (le, end)
  end_insert bound (suc place) [] le end = (le, tt)
  end_insert bound (suc place) (run ∷ runs) le end = (end.0, end_insert bound place runs le end.1)

pub end_joined_at : (bound place : ℕ) (runs : List Run) → EndBy bound runs → EndBy bound (joined_at place runs)
end_joined_at bound place [] end = tt
end_joined_at bound zero (run ∷ runs) end = end_joined bound run runs end
end_joined_at bound (suc place) (run ∷ runs) end = (end.0, end_joined_at bound place runs end.1)

-- they are in the order of their first numbers
runs_from : (low : ℕ) (runs : List Run) (k : ℕ) (d : Run) → Rise low runs → k < length runs → low ≤ (get_or runs k d).first_number
runs_from low [] k d rise lt = absurd (omega arith)
runs_from low (run ∷ runs) zero d rise lt = rise.0
runs_from low (run ∷ runs) (suc k) d rise lt = omega (arith, rise.0, runs_from run.first_number runs k d rise.1 (omega arith))

pub runs_rise : (low : ℕ) (runs : List Run) → Rise low runs → IsNonDecreasingBy (λ (run : Run). run.first_number) runs
runs_rise low [] rise i j d le lt = absurd (omega arith)
runs_rise low (run ∷ runs) rise zero zero d le lt = omega arith
runs_rise low (run ∷ runs) rise zero (suc j) d le lt = runs_from run.first_number runs j d rise.1 (omega arith)
runs_rise low (run ∷ runs) rise (suc i) zero d le lt = absurd (omega arith)
runs_rise low (run ∷ runs) rise (suc i) (suc j) d le lt = runs_rise run.first_number runs rise.1 i j d (omega arith) (omega arith)

-- what holds of runs holds of them with a leg more
pub added_kept : (leg : Run) (runs : List Run) → leg.first_number + leg.count ≤ 18446744073709551615 → AreRuns runs → AreRuns (added leg runs)
added_kept leg runs le kept = record {
  end = end_added leg 18446744073709551615 runs le kept.end;
  rise = rise_added leg 0 runs (omega arith) kept.rise;
  apart = apart_added leg runs kept.apart;
}

pub added_all_more : (more runs : List Run) (leg : Run) → added_all (more ++ leg ∷ []) runs ≡ added leg (added_all more runs)
added_all_more [] runs leg = refl
added_all_more (first ∷ more) runs leg = added_all_more more (added first runs) leg

stays_at : (place : ℕ) (runs : List Run) (run next : Run) → suc place < length runs → run ≡ get_or runs place run → next ≡ get_or runs (suc place) next
    → goes_on run next ≡ false → runs ≡ joined_at place runs
stays_at place [] run next lt here there stays = absurd (omega arith)
stays_at zero (first ∷ []) run next lt here there stays = absurd (omega arith)
stays_at zero (first ∷ second ∷ runs) run next lt here there stays =
    let apart : goes_on first second ≡ false = rw (here, there) at stays in rw apart refl
stays_at (suc place) (first ∷ runs) run next lt here there stays =
    ap (λ (rest : List Run). first ∷ rest) (stays_at place runs run next (omega arith) here there stays)

joins_at : (place : ℕ) (runs : List Run) (run next : Run) → suc place < length runs → run ≡ get_or runs place run → next ≡ get_or runs (suc place) next
    → goes_on run next ≡ true → remove (set runs place (merged run next)) (suc place) ≡ joined_at place runs
joins_at place [] run next lt here there on = absurd (omega arith)
joins_at zero (first ∷ []) run next lt here there on = absurd (omega arith)
joins_at zero (first ∷ second ∷ runs) run next lt here there on =
    let one : goes_on first second ≡ true = rw (here, there) at on in rw (one, here, there) refl
joins_at (suc place) (first ∷ runs) run next lt here there on =
    ap (λ (rest : List Run). first ∷ rest) (joins_at place runs run next (omega arith) here there on)

end_at : (bound place : ℕ) (runs : List Run) (run : Run) → place < length runs → run ≡ get_or runs place run → EndBy bound runs → run.first_number + run.count ≤ bound
end_at bound place [] run lt here end = absurd (omega arith)
end_at bound zero (first ∷ runs) run lt here end = rw here end.0
end_at bound (suc place) (first ∷ runs) run lt here end = end_at bound place runs run (omega arith) here end.1

-- the run in a place is made one with the next where it goes on in that
pub joined_at_end : (place : ℕ) (runs : List Run) → place + 1 ≡ length runs → runs ≡ joined_at place runs
joined_at_end place [] last = absurd (omega arith)
joined_at_end zero (run ∷ []) last = refl
joined_at_end zero (run ∷ next ∷ runs) last = absurd (omega arith)
joined_at_end (suc place) (run ∷ runs) last = ap (λ (rest : List Run). run ∷ rest) (joined_at_end place runs (omega arith))

pub joined_at_stays : (place behind : ℕ) (runs : List Run) (run next : Run) → behind ≡ suc place → behind < length runs → run ≡ get_or runs place run → next ≡ get_or runs behind next
    → goes_on run next ≡ false → runs ≡ joined_at place runs
joined_at_stays place behind runs run next by lt here there stays =
    stays_at place runs run next (omega (arith, by)) here (rw by at there) stays

pub joined_at_joins : (place behind : ℕ) (runs : List Run) (run next : Run) → behind ≡ suc place → behind < length runs → run ≡ get_or runs place run → next ≡ get_or runs behind next
    → goes_on run next ≡ true → remove (set runs place (merged run next)) behind ≡ joined_at place runs
joined_at_joins place behind runs run next by lt here there on =
    rw by (joins_at place runs run next (omega (arith, by)) here (rw by at there) on)

pub sum_ends : (place behind bound : ℕ) (runs : List Run) (run next : Run) → behind ≡ suc place → behind < length runs → run ≡ get_or runs place run → next ≡ get_or runs behind next
    → goes_on run next ≡ true → EndBy bound runs → run.count + next.count ≤ bound
sum_ends place behind bound runs run next by lt here there on end =
    let it = it_goes_on run next on in
    let ends : next.first_number + next.count ≤ bound = end_at bound behind runs next lt there end in
    omega (arith, it.numbers, ends)

-- the list stays as long as the place asks
some_turn : (b : Bool) (run next : Run) (runs : List Run) → 0 < length (if b then merged run next ∷ runs else run ∷ next ∷ runs)
some_turn true run next runs = omega arith
some_turn false run next runs = omega arith

joined_some : (run : Run) (runs : List Run) → 0 < length (joined_to run runs)
joined_some run [] = omega arith
joined_some run (next ∷ runs) = some_turn (goes_on run next) run next runs

pub joined_at_long : (place : ℕ) (runs : List Run) → place < length runs → place < length (joined_at place runs)
joined_at_long place [] lt = absurd (omega arith)
joined_at_long zero (run ∷ runs) lt = joined_some run runs
joined_at_long (suc place) (run ∷ runs) lt = omega (arith, joined_at_long place runs (omega arith))

-- what an insert gives where there is room
pub where_true : {A : Type 0} (b : Bool) (x y : A) → b ≡ true → (if b then x else y) ≡ x
where_true b x y is = rw is refl
