-- What a list of entries that is filled in between its legs is to the definitions.
use Rattle.std.proofs.Common.{◌≡◌, ◌<◌, ◌+◌, ◌==◌, ℕ, zero, suc, Bool, true, false, List, [], ◌∷◌, ◌++◌, length, Option, Some, None, refl, sym, ap, subst, ◌∙◌, if◌then◌else◌, arith}
use Rattle.std.specs.Prelude.{slice_get}
use Rattle.std.proofs.lemmas.Bool.{eqb-true, eq-eqb}
use Rattle.std.proofs.lemmas.Bool.Decides.{nat_tests}
use Rattle.leg.specs.LegId.{LegIdParts}
use Rattle.leg.specs.declared.leg_state.LegState.{LegState}
use Rattle.resend.specs.Log.{SentLeg, Entry, sent_from, leg_of, last_ordinal_after, settled_as, settled_where}
use Rattle.resend.specs.Log.Entry.{Admin, Sent}
use Rattle.resend.specs.Kept.{filled, IsRising}

apart : (number low : ℕ) → low < number → (number == suc low) ≡ false → suc low < number
apart number low above is = grind (arith, nat_tests, is)

-- it has as many entries as it is to have
length_turn : (b : Bool) (x y : Entry) (xs ys : List Entry) (count : ℕ) → length xs ≡ count → length ys ≡ count → length (if b then x ∷ xs else y ∷ ys) ≡ suc count
length_turn true x y xs ys count e f = ap suc e
length_turn false x y xs ys count e f = ap suc f

pub length-filled : (count low : ℕ) (legs : List (ℕ × SentLeg)) → length (filled count low legs) ≡ count
length-filled zero low legs = refl
length-filled (suc count) low [] = ap suc (length-filled count (suc low) [])
length-filled (suc count) low ((number, leg) ∷ legs) =
    length_turn (number == suc low) (Sent leg) Admin _ _ count (length-filled count (suc low) legs) (length-filled count (suc low) ((number, leg) ∷ legs))

-- its legs are those that it was filled around
sent_turn : (b : Bool) (low number : ℕ) (leg : SentLeg) (legs : List (ℕ × SentLeg)) (xs ys : List Entry) → (number == suc low) ≡ b
    → (b ≡ true → sent_from (suc (suc low)) xs ≡ legs) → (b ≡ false → sent_from (suc (suc low)) ys ≡ (number, leg) ∷ legs)
    → sent_from (suc low) (if b then Sent leg ∷ xs else Admin ∷ ys) ≡ (number, leg) ∷ legs
sent_turn true low number leg legs xs ys is if_here if_not =
    let same : number ≡ suc low = eqb-true number (suc low) is in let rest = if_here refl in cc
sent_turn false low number leg legs xs ys is if_here if_not = if_not refl

pub sent_from-filled : (count low ordinal last : ℕ) (legs : List (ℕ × SentLeg)) → last ≡ low + count → IsRising low ordinal last legs → sent_from (suc low) (filled count low legs) ≡ legs
sent_from-filled zero low ordinal last [] e r = refl
sent_from-filled zero low ordinal last ((number, leg) ∷ legs) e r = absurd (omega arith)
sent_from-filled (suc count) low ordinal last [] e r = sent_from-filled count (suc low) ordinal last [] (omega arith) tt
sent_from-filled (suc count) low ordinal last ((number, leg) ∷ legs) e r =
    sent_turn (number == suc low) low number leg legs _ _ refl
    (λ is. sent_from-filled count (suc low) leg.ordinal last legs (omega arith) (subst (λ (n : ℕ). IsRising n leg.ordinal last legs) (eqb-true number (suc low) is) r.3))
    (λ is. sent_from-filled count (suc low) ordinal last ((number, leg) ∷ legs) (omega arith) (apart number low r.0 is, r.1, r.2, r.3))

-- one entry more is filled in behind the others
empty_more : (count low ordinal last high : ℕ) (more : List (ℕ × SentLeg)) → last ≡ low + count → IsRising last ordinal high more
    → filled (suc count) low more ≡ filled count low [] ++ filled 1 last more
empty_more zero low ordinal last high more e r = let same : low ≡ last = omega arith in ap (λ (n : ℕ). filled 1 n more) same
empty_more (suc count) low ordinal last high [] e r = ap (λ (log : List Entry). Admin ∷ log) (empty_more count (suc low) ordinal last high [] (omega arith) tt)
empty_more (suc count) low ordinal last high ((number, leg) ∷ more) e r =
    let ne : (number == suc low) ≡ false = (let lt : suc low < number = omega arith in grind (arith, nat_tests)) in
    rw ne (ap (λ (log : List Entry). Admin ∷ log) (empty_more count (suc low) ordinal last high ((number, leg) ∷ more) (omega arith) r))

more_turn : (b : Bool) (x y : Entry) (xs xs' ys ys' more : List Entry) → (b ≡ true → xs' ≡ xs ++ more) → (b ≡ false → ys' ≡ ys ++ more)
    → (if b then x ∷ xs' else y ∷ ys') ≡ (if b then x ∷ xs else y ∷ ys) ++ more
more_turn true x y xs xs' ys ys' more if_here if_not = ap (λ (log : List Entry). x ∷ log) (if_here refl)
more_turn false x y xs xs' ys ys' more if_here if_not = ap (λ (log : List Entry). y ∷ log) (if_not refl)

pub filled-more : (count low ordinal last behind high : ℕ) (legs more : List (ℕ × SentLeg)) → last ≡ low + count → IsRising low ordinal last legs → IsRising last behind high more
    → filled (suc count) low (legs ++ more) ≡ filled count low legs ++ filled 1 last more
filled-more count low ordinal last behind high [] more e r s = empty_more count low behind last high more e s
filled-more zero low ordinal last behind high ((number, leg) ∷ legs) more e r s = absurd (omega arith)
filled-more (suc count) low ordinal last behind high ((number, leg) ∷ legs) more e r s =
    more_turn (number == suc low) (Sent leg) Admin _ _ _ _ (filled 1 last more)
    (λ is. filled-more count (suc low) leg.ordinal last behind high legs more (omega arith) (subst (λ (n : ℕ). IsRising n leg.ordinal last legs) (eqb-true number (suc low) is) r.3) s)
    (λ is. filled-more count (suc low) ordinal last behind high ((number, leg) ∷ legs) more (omega arith) (apart number low r.0 is, r.1, r.2, r.3) s)

-- where its entries are settled, its legs are
abbrev pub settled_legs : (ℕ → Bool) → LegState → List (ℕ × SentLeg) → List (ℕ × SentLeg)
settled_legs test state [] = []
settled_legs test state ((number, leg) ∷ legs) = (number, if test number then settled_as state leg else leg) ∷ settled_legs test state legs

module _ (test : ℕ → Bool) (state : LegState) where
  admin_stays : (b : Bool) → (if b then Admin else Admin) ≡ Admin
  admin_stays true = refl
  admin_stays false = refl

  one_settled : (b : Bool) (leg : SentLeg) → (if b then Sent (settled_as state leg) else Sent leg) ≡ Sent (if b then settled_as state leg else leg)
  one_settled true leg = refl
  one_settled false leg = refl

  settled_turn : (b : Bool) (low number : ℕ) (leg : SentLeg) (xs xs' ys ys' : List Entry) → (number == suc low) ≡ b
      → settled_where test state (suc (suc low)) xs ≡ xs' → settled_where test state (suc (suc low)) ys ≡ ys'
      → settled_where test state (suc low) (if b then Sent leg ∷ xs else Admin ∷ ys) ≡ (if b then Sent (if test number then settled_as state leg else leg) ∷ xs' else Admin ∷ ys')
  settled_turn true low number leg xs xs' ys ys' is e f =
      let same : suc low ≡ number = sym (eqb-true number (suc low) is) in
      let here = one_settled (test (suc low)) leg ∙ ap (λ (n : ℕ). Sent (if test n then settled_as state leg else leg)) same in cc
  settled_turn false low number leg xs xs' ys ys' is e f = let here = admin_stays (test (suc low)) in cc

  pub settled_where-filled : (count low : ℕ) (legs : List (ℕ × SentLeg)) → settled_where test state (suc low) (filled count low legs) ≡ filled count low (settled_legs test state legs)
  settled_where-filled zero low legs = refl
  settled_where-filled (suc count) low [] = let here = admin_stays (test (suc low)) in let rest = settled_where-filled count (suc low) [] in cc
  settled_where-filled (suc count) low ((number, leg) ∷ legs) =
      settled_turn (number == suc low) low number leg _ _ _ _ refl (settled_where-filled count (suc low) legs) (settled_where-filled count (suc low) ((number, leg) ∷ legs))

-- the leg that a number was spent on is the one that was sent under it
abbrev pub id_at : ℕ → List (ℕ × SentLeg) → Option LegIdParts
id_at number [] = None
id_at number ((at, leg) ∷ legs) = if at == number then Some leg.id else id_at number legs

none_below : (number first : ℕ) (log : List Entry) → number < first → id_at number (sent_from first log) ≡ None
none_below number first [] lt = refl
none_below number first (Admin ∷ log) lt = none_below number (suc first) log (omega arith)
none_below number first (Sent leg ∷ log) lt =
    let ne : (first == number) ≡ false = grind (arith, nat_tests) in rw ne (none_below number (suc first) log (omega arith))

pub leg_of-sent : (place first number : ℕ) (log : List Entry) → number ≡ first + place → leg_of (slice_get log place) ≡ id_at number (sent_from first log)
leg_of-sent place first number [] e = refl
leg_of-sent zero first number (Admin ∷ log) e = sym (none_below number (suc first) log (omega arith))
leg_of-sent (suc place) first number (Admin ∷ log) e = leg_of-sent place (suc first) number log (omega arith)
leg_of-sent zero first number (Sent leg ∷ log) e =
    let same : (first == number) ≡ true = eq-eqb first number (omega arith) in rw same refl
leg_of-sent (suc place) first number (Sent leg ∷ log) e =
    let ne : (first == number) ≡ false = (let lt : first < number = omega arith in grind (arith, nat_tests)) in rw ne (leg_of-sent place (suc first) number log (omega arith))

-- the last ordinal is that of the last leg sent
abbrev pub last_in : ℕ → List (ℕ × SentLeg) → ℕ
last_in ordinal [] = ordinal
last_in ordinal ((number, leg) ∷ legs) = last_in leg.ordinal legs

pub last_ordinal-sent : (ordinal first : ℕ) (log : List Entry) → last_ordinal_after ordinal log ≡ last_in ordinal (sent_from first log)
last_ordinal-sent ordinal first [] = refl
last_ordinal-sent ordinal first (Admin ∷ log) = last_ordinal-sent ordinal (suc first) log
last_ordinal-sent ordinal first (Sent leg ∷ log) = last_ordinal-sent leg.ordinal (suc first) log
