-- How the legs in doubt below a number, or from one on, are settled.
use Rattle.std.proofs.Common.{◌≡◌, ◌≤◌, ℕ, Bool, true, false, nat_lt, nat_le, List, [], ◌∷◌, take, drop, refl, sym, ap, ◌∙◌, if◌then◌else◌, arith}
use Rattle.std.specs.List.Sorted.{IsNonDecreasingBy}
use Rattle.std.proofs.lemmas.Bool.Decides.{nat_tests}
use Rattle.leg.specs.declared.leg_state.LegState.{LegState}
use Rattle.leg.specs.declared.leg_state.LegState.TheVariants.{Taken, Withdrawn}
use Rattle.resend.specs.declared.sent.Sent.{Sent}
use Rattle.resend.specs.Log.{SentLeg, is_doubt, settled_as, settled_where}
use Rattle.resend.specs.Window.{doubts}
use Rattle.resend.specs.Kept.{entries, IsRising, IsKept, leading}
use Rattle.resend.proofs.Filled.{settled_legs, settled_where-filled, last_in}
use Rattle.resend.proofs.Kept.{last_ordinal-entries}
use Rattle.resend.proofs.Looking.{doubts_rise}

-- the legs in doubt that are left
untouched : (number low ordinal last : ℕ) (legs : List (ℕ × SentLeg)) → number ≤ low → IsRising low ordinal last legs → settled_legs (λ n. nat_lt n number) Taken legs ≡ legs
untouched number low ordinal last [] le r = refl
untouched number low ordinal last ((next, leg) ∷ legs) le r =
    let out : nat_lt next number ≡ false = (let above : number ≤ next = omega (arith, r.0) in grind (arith, nat_tests)) in
    let rest = untouched number next leg.ordinal last legs (omega (arith, r.0)) r.3 in
    rw out (ap (λ (all : List (ℕ × SentLeg)). (next, leg) ∷ all) rest)

none_turn : (b : Bool) (number : ℕ) (sent : Sent) (sents : List Sent) → nat_lt sent.number number ≡ false
    → leading (λ (s : Sent). nat_lt s.number number) sents ≡ 0 → leading (λ (s : Sent). nat_lt s.number number) (if b then sent ∷ sents else sents) ≡ 0
none_turn true number sent sents out e = rw out refl
none_turn false number sent sents out e = e

none_leads : (number low ordinal last : ℕ) (legs : List (ℕ × SentLeg)) → number ≤ low → IsRising low ordinal last legs → leading (λ (s : Sent). nat_lt s.number number) (doubts legs) ≡ 0
none_leads number low ordinal last [] le r = refl
none_leads number low ordinal last ((next, leg) ∷ legs) le r =
    let out : nat_lt next number ≡ false = (let above : number ≤ next = omega (arith, r.0) in grind (arith, nat_tests)) in
    none_turn (is_doubt leg.state) number (record { number = next; ordinal = leg.ordinal; id = leg.id }) (doubts legs) out (none_leads number next leg.ordinal last legs (omega (arith, r.0)) r.3)

gone_turn : (b : Bool) (leg : SentLeg) → is_doubt leg.state ≡ b → is_doubt (settled_as Withdrawn leg).state ≡ false
gone_turn true leg is = rw is refl
gone_turn false leg is = rw is is

all_gone : (number low ordinal last : ℕ) (legs : List (ℕ × SentLeg)) → number ≤ low → IsRising low ordinal last legs → doubts (settled_legs (λ n. nat_le number n) Withdrawn legs) ≡ []
all_gone number low ordinal last [] le r = refl
all_gone number low ordinal last ((next, leg) ∷ legs) le r =
    let here : nat_le number next ≡ true = (let above : number ≤ next = omega (arith, r.0) in grind (arith, nat_tests)) in
    let gone = gone_turn (is_doubt leg.state) leg refl in
    rw (here, gone) (all_gone number next leg.ordinal last legs (omega (arith, r.0)) r.3)

taken_turn : (b doubt : Bool) (number next ordinal last : ℕ) (leg : SentLeg) (legs : List (ℕ × SentLeg)) → nat_lt next number ≡ b → is_doubt leg.state ≡ doubt → IsRising next ordinal last legs
    → doubts (settled_legs (λ n. nat_lt n number) Taken legs) ≡ drop (leading (λ (s : Sent). nat_lt s.number number) (doubts legs)) (doubts legs)
    → doubts (settled_legs (λ n. nat_lt n number) Taken ((next, leg) ∷ legs))
    ≡ drop (leading (λ (s : Sent). nat_lt s.number number) (doubts ((next, leg) ∷ legs))) (doubts ((next, leg) ∷ legs))
taken_turn true true number next ordinal last leg legs is doubt r e = rw (is, doubt, is) e
taken_turn true false number next ordinal last leg legs is doubt r e = rw (is, doubt) (rw doubt e)
taken_turn false true number next ordinal last leg legs is doubt r e =
    let same = untouched number next ordinal last legs (grind (arith, nat_tests, is)) r in
    rw (is, same, doubt) (rw is refl)
taken_turn false false number next ordinal last leg legs is doubt r e =
    let same = untouched number next ordinal last legs (grind (arith, nat_tests, is)) r in
    let none = none_leads number next ordinal last legs (grind (arith, nat_tests, is)) r in
    rw (is, same, doubt, none) refl

pub doubts-taken : (number low ordinal last : ℕ) (legs : List (ℕ × SentLeg)) → IsRising low ordinal last legs
    → doubts (settled_legs (λ n. nat_lt n number) Taken legs) ≡ drop (leading (λ (s : Sent). nat_lt s.number number) (doubts legs)) (doubts legs)
doubts-taken number low ordinal last [] r = refl
doubts-taken number low ordinal last ((next, leg) ∷ legs) r =
    taken_turn (nat_lt next number) (is_doubt leg.state) number next leg.ordinal last leg legs refl refl r.3 (doubts-taken number next leg.ordinal last legs r.3)

given_turn : (b doubt : Bool) (number next ordinal last : ℕ) (leg : SentLeg) (legs : List (ℕ × SentLeg)) → nat_lt next number ≡ b → is_doubt leg.state ≡ doubt → IsRising next ordinal last legs
    → doubts (settled_legs (λ n. nat_le number n) Withdrawn legs) ≡ take (leading (λ (s : Sent). nat_lt s.number number) (doubts legs)) (doubts legs)
    → doubts (settled_legs (λ n. nat_le number n) Withdrawn ((next, leg) ∷ legs))
    ≡ take (leading (λ (s : Sent). nat_lt s.number number) (doubts ((next, leg) ∷ legs))) (doubts ((next, leg) ∷ legs))
given_turn true true number next ordinal last leg legs is doubt r e =
    let out : nat_le number next ≡ false = grind (arith, nat_tests, is) in
    rw (out, doubt, is) (ap (λ (sents : List Sent). record { number = next; ordinal = leg.ordinal; id = leg.id } ∷ sents) e)
given_turn true false number next ordinal last leg legs is doubt r e =
    let out : nat_le number next ≡ false = grind (arith, nat_tests, is) in rw (out, doubt) e
given_turn false true number next ordinal last leg legs is doubt r e =
    let here : nat_le number next ≡ true = grind (arith, nat_tests, is) in
    let gone = gone_turn true leg doubt in
    let none = all_gone number next ordinal last legs (grind (arith, nat_tests, is)) r in
    rw (here, gone, none, doubt, is) refl
given_turn false false number next ordinal last leg legs is doubt r e =
    let here : nat_le number next ≡ true = grind (arith, nat_tests, is) in
    let gone = gone_turn false leg doubt in
    let none = all_gone number next ordinal last legs (grind (arith, nat_tests, is)) r in
    let zero_lead = none_leads number next ordinal last legs (grind (arith, nat_tests, is)) r in
    rw (here, gone, none, doubt, zero_lead) refl

pub doubts-given : (number low ordinal last : ℕ) (legs : List (ℕ × SentLeg)) → IsRising low ordinal last legs
    → doubts (settled_legs (λ n. nat_le number n) Withdrawn legs) ≡ take (leading (λ (s : Sent). nat_lt s.number number) (doubts legs)) (doubts legs)
doubts-given number low ordinal last [] r = refl
doubts-given number low ordinal last ((next, leg) ∷ legs) r =
    given_turn (nat_lt next number) (is_doubt leg.state) number next leg.ordinal last leg legs refl refl r.3 (doubts-given number next leg.ordinal last legs r.3)

-- settled legs stay in order
ordinal_kept : (passes doubt : Bool) (state : LegState) (leg : SentLeg) → is_doubt leg.state ≡ doubt → (if passes then settled_as state leg else leg).ordinal ≡ leg.ordinal
ordinal_kept true true state leg is = rw is refl
ordinal_kept true false state leg is = rw is refl
ordinal_kept false doubt state leg is = refl

pub rising-settled : (test : ℕ → Bool) (state : LegState) (low ordinal last : ℕ) (legs : List (ℕ × SentLeg)) → IsRising low ordinal last legs → IsRising low ordinal last (settled_legs test state legs)
rising-settled test state low ordinal last [] r = tt
rising-settled test state low ordinal last ((next, leg) ∷ legs) r =
    let same = ordinal_kept (test next) (is_doubt leg.state) state leg refl in
    rw same (r.0, r.1, r.2, rising-settled test state next leg.ordinal last legs r.3)

-- what the calls need
pub window_rises : (last ordinal : ℕ) (legs : List (ℕ × SentLeg)) (sents : List Sent) → IsKept last ordinal legs sents → IsNonDecreasingBy (λ (sent : Sent). sent.number) sents
window_rises last ordinal legs sents kept = rw kept.in_doubt (doubts_rise 0 0 last legs kept.rising)

last_in-settled : (test : ℕ → Bool) (state : LegState) (ordinal : ℕ) (legs : List (ℕ × SentLeg)) → last_in ordinal (settled_legs test state legs) ≡ last_in ordinal legs
last_in-settled test state ordinal [] = refl
last_in-settled test state ordinal ((next, leg) ∷ legs) =
    let same = ordinal_kept (test next) (is_doubt leg.state) state leg refl in
    ap (λ (o : ℕ). last_in o (settled_legs test state legs)) same ∙ last_in-settled test state leg.ordinal legs

module _ (last ordinal : ℕ) (legs : List (ℕ × SentLeg)) (sents : List Sent) (kept : IsKept last ordinal legs sents) where
  -- legs that are settled as the definition says
  pub entries_settled : (test : ℕ → Bool) (state : LegState) → entries last (settled_legs test state legs) ≡ settled_where test state 1 (entries last legs)
  entries_settled test state = sym (settled_where-filled test state last 0 legs)

  kept_settled : (test : ℕ → Bool) (state : LegState) (left : List Sent) → left ≡ doubts (settled_legs test state legs) → IsKept last ordinal (settled_legs test state legs) left
  kept_settled test state left is =
      let rises = rising-settled test state 0 0 last legs kept.rising in
      record {
        fits = kept.fits;
        rising = rises;
        ordinal_is = kept.ordinal_is ∙ last_ordinal-entries last legs kept.rising ∙ sym (last_ordinal-entries last _ rises ∙ last_in-settled test state 0 legs);
        in_doubt = is;
      }

  module _ (number count : ℕ) (count_is : count ≡ leading (λ (s : Sent). nat_lt s.number number) sents) where
    pub taken-kept : IsKept last ordinal (settled_legs (λ n. nat_lt n number) Taken legs) (drop count sents)
    taken-kept = kept_settled (λ n. nat_lt n number) Taken (drop count sents)
        (sym (doubts-taken number 0 0 last legs kept.rising
        ∙ ap (λ (w : List Sent). drop (leading (λ (s : Sent). nat_lt s.number number) w) w) (sym kept.in_doubt)
        ∙ ap (λ (n : ℕ). drop n sents) (sym count_is)))

    pub given-kept : IsKept last ordinal (settled_legs (λ n. nat_le number n) Withdrawn legs) (take count sents)
    given-kept = kept_settled (λ n. nat_le number n) Withdrawn (take count sents)
        (sym (doubts-given number 0 0 last legs kept.rising
        ∙ ap (λ (w : List Sent). take (leading (λ (s : Sent). nat_lt s.number number) w) w) (sym kept.in_doubt)
        ∙ ap (λ (n : ℕ). take n sents) (sym count_is)))
