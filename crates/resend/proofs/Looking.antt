-- What is found among the kept legs by halving.
use Rattle.std.proofs.Common.{◌≡◌, ◌<◌, ◌≤◌, ◌==◌, ℕ, zero, suc, Bool, true, false, nat_lt, nat_le, List, [], ◌∷◌, length, get_or, drop, Option, Some, None, refl, sym, ap, ◌∙◌, if◌then◌else◌, arith}
use Rattle.std.specs.Prelude.{slice_get, map}
use Rattle.std.specs.List.Sorted.{IsNonDecreasingBy}
use Rattle.std.proofs.lemmas.Bool.Decides.{nat_tests}
use Rattle.leg.specs.LegId.{LegIdParts}
use Rattle.resend.specs.Window.{doubts}
use Rattle.resend.specs.declared.numbered_id.NumberedId.{NumberedId}
use Rattle.resend.specs.declared.sent.Sent.{Sent}
use Rattle.resend.specs.Log.{SentLeg, leg_at, doubt_from, is_doubt}
use Rattle.resend.specs.Kept.{entries, IsRising, leading}
use Rattle.resend.proofs.Filled.{id_at, leg_of-sent}
use Rattle.resend.proofs.Kept.{sent_legs-entries, ids_from, doubt_from-entries}

-- the ids of legs, each with its number
abbrev pub numbered_ids : List (ℕ × SentLeg) → List NumberedId
numbered_ids [] = []
numbered_ids ((number, leg) ∷ legs) = record { number = number; id = leg.id } ∷ numbered_ids legs

-- the numbers rise
numbers_above : (number ordinal last : ℕ) (legs : List (ℕ × SentLeg)) (k : ℕ) (d : NumberedId) → IsRising number ordinal last legs → k < length (numbered_ids legs)
    → number < (get_or (numbered_ids legs) k d).number
numbers_above number ordinal last [] k d r lt = absurd (omega arith)
numbers_above number ordinal last ((at, leg) ∷ legs) zero d r lt = r.0
numbers_above number ordinal last ((at, leg) ∷ legs) (suc k) d r lt = omega (arith, r.0, numbers_above at leg.ordinal last legs k d r.3 (omega arith))

pub numbers_rise : (number ordinal last : ℕ) (legs : List (ℕ × SentLeg)) → IsRising number ordinal last legs → IsNonDecreasingBy (λ (numbered : NumberedId). numbered.number) (numbered_ids legs)
numbers_rise number ordinal last [] r i j d le lt = absurd (omega arith)
numbers_rise number ordinal last ((at, leg) ∷ legs) r zero zero d le lt = omega arith
numbers_rise number ordinal last ((at, leg) ∷ legs) r zero (suc j) d le lt = omega (arith, numbers_above at leg.ordinal last legs j d r.3 (omega arith))
numbers_rise number ordinal last ((at, leg) ∷ legs) r (suc i) zero d le lt = absurd (omega arith)
numbers_rise number ordinal last ((at, leg) ∷ legs) r (suc i) (suc j) d le lt = numbers_rise at leg.ordinal last legs r.3 i j d (omega arith) (omega arith)

-- so do the numbers of those in doubt
above_turn : (b : Bool) (number : ℕ) (sent : Sent) (sents : List Sent) (k : ℕ) (d : Sent) → number < sent.number
    → ((j : ℕ) → j < length sents → number < (get_or sents j d).number) → k < length (if b then sent ∷ sents else sents)
    → number < (get_or (if b then sent ∷ sents else sents) k d).number
above_turn true number sent sents zero d first rest lt = first
above_turn true number sent sents (suc k) d first rest lt = rest k (omega arith)
above_turn false number sent sents k d first rest lt = rest k lt

doubts_above : (number ordinal last : ℕ) (legs : List (ℕ × SentLeg)) (k : ℕ) (d : Sent) → IsRising number ordinal last legs → k < length (doubts legs) → number < (get_or (doubts legs) k d).number
doubts_above number ordinal last [] k d r lt = absurd (omega arith)
doubts_above number ordinal last ((at, leg) ∷ legs) k d r lt =
    above_turn (is_doubt leg.state) number (record { number = at; ordinal = leg.ordinal; id = leg.id }) (doubts legs) k d r.0
    (λ j less. omega (arith, r.0, doubts_above at leg.ordinal last legs j d r.3 less)) lt

rise_turn : (b : Bool) (sent : Sent) (sents : List Sent) → ((j : ℕ) (d : Sent) → j < length sents → sent.number < (get_or sents j d).number)
    → IsNonDecreasingBy (λ (s : Sent). s.number) sents → (i j : ℕ) (d : Sent) → i ≤ j → j < length (if b then sent ∷ sents else sents)
    → (get_or (if b then sent ∷ sents else sents) i d).number ≤ (get_or (if b then sent ∷ sents else sents) j d).number
rise_turn false sent sents above rest i j d le lt = rest i j d le lt
rise_turn true sent sents above rest zero zero d le lt = omega arith
rise_turn true sent sents above rest zero (suc j) d le lt = omega (arith, above j d (omega arith))
rise_turn true sent sents above rest (suc i) zero d le lt = absurd (omega arith)
rise_turn true sent sents above rest (suc i) (suc j) d le lt = rest i j d (omega arith) (omega arith)

pub doubts_rise : (number ordinal last : ℕ) (legs : List (ℕ × SentLeg)) → IsRising number ordinal last legs → IsNonDecreasingBy (λ (sent : Sent). sent.number) (doubts legs)
doubts_rise number ordinal last [] r = λ i j d le lt. absurd (omega arith)
doubts_rise number ordinal last ((at, leg) ∷ legs) r =
    rise_turn (is_doubt leg.state) (record { number = at; ordinal = leg.ordinal; id = leg.id }) (doubts legs)
    (λ j d lt. doubts_above at leg.ordinal last legs j d r.3 lt) (doubts_rise at leg.ordinal last legs r.3)

-- the leg of a number
abbrev pub found_id : ℕ → Option NumberedId → Option LegIdParts
found_id number None = None
found_id number (Some numbered) = if numbered.number == number then Some numbered.id else None

no_id : (number low ordinal last : ℕ) (legs : List (ℕ × SentLeg)) → number ≤ low → IsRising low ordinal last legs → id_at number legs ≡ None
no_id number low ordinal last [] le r = refl
no_id number low ordinal last ((at, leg) ∷ legs) le r =
    let ne : (at == number) ≡ false = (let lt : number < at = omega (arith, r.0) in grind (arith, nat_tests)) in
    rw ne (no_id number at leg.ordinal last legs (omega (arith, r.0)) r.3)

id_turn : (b : Bool) (number at last count : ℕ) (leg : SentLeg) (legs : List (ℕ × SentLeg)) → nat_lt at number ≡ b → IsRising at leg.ordinal last legs
    → id_at number legs ≡ found_id number (slice_get (numbered_ids legs) count)
    → id_at number ((at, leg) ∷ legs) ≡ found_id number (slice_get (numbered_ids ((at, leg) ∷ legs)) (if b then suc count else 0))
id_turn true number at last count leg legs is r e =
    let ne : (at == number) ≡ false = grind (arith, nat_tests, is) in rw ne e
id_turn false number at last count leg legs is r e =
    let none = no_id number at leg.ordinal last legs (grind (arith, nat_tests, is)) r in
    ap (λ (rest : Option LegIdParts). if at == number then Some leg.id else rest) none

id-leading : (number low ordinal last : ℕ) (legs : List (ℕ × SentLeg)) → IsRising low ordinal last legs
    → id_at number legs ≡ found_id number (slice_get (numbered_ids legs) (leading (λ (numbered : NumberedId). nat_lt numbered.number number) (numbered_ids legs)))
id-leading number low ordinal last [] r = refl
id-leading number low ordinal last ((at, leg) ∷ legs) r =
    id_turn (nat_lt at number) number at last _ leg legs refl r.3 (id-leading number at leg.ordinal last legs r.3)

leg_at-kept : (number last : ℕ) (legs : List (ℕ × SentLeg)) → IsRising 0 0 last legs → leg_at number (entries last legs) ≡ id_at number legs
leg_at-kept zero last legs r = sym (no_id 0 0 0 last legs (omega arith) r)
leg_at-kept (suc place) last legs r = leg_of-sent place 1 (suc place) (entries last legs) (omega arith) ∙ ap (id_at (suc place)) (sent_legs-entries last legs r)

-- the legs in doubt from a number on
abbrev pub ids : List Sent → List LegIdParts
ids sents = map (λ (sent : Sent). sent.id) sents

all_above : (least : ℕ) (sents : List Sent) → ((j : ℕ) (d : Sent) → j < length sents → least ≤ (get_or sents j d).number) → ids_from least sents ≡ ids sents
all_above least [] above = refl
all_above least (sent ∷ sents) above =
    let is : nat_le least sent.number ≡ true = (let le = above 0 sent (omega arith) in grind (arith, nat_tests, le)) in
    rw is (ap (λ (rest : List LegIdParts). sent.id ∷ rest) (all_above least sents (λ j d lt. above (suc j) d (omega arith))))

ids_turn : (b : Bool) (least : ℕ) (sent : Sent) (sents : List Sent) (count : ℕ) → nat_lt sent.number least ≡ b
    → ((j : ℕ) (d : Sent) → j < length sents → sent.number ≤ (get_or sents j d).number)
    → ids_from least sents ≡ ids (drop count sents) → ids_from least (sent ∷ sents) ≡ ids (drop (if b then suc count else 0) (sent ∷ sents))
ids_turn true least sent sents count is above e = let out : nat_le least sent.number ≡ false = grind (arith, nat_tests, is) in rw out e
ids_turn false least sent sents count is above e =
    let here : nat_le least sent.number ≡ true = grind (arith, nat_tests, is) in
    let le : least ≤ sent.number = grind (arith, nat_tests, is) in
    rw here (ap (λ (rest : List LegIdParts). sent.id ∷ rest) (all_above least sents (λ j d lt. omega (arith, above j d lt))))

pub ids-leading : (least : ℕ) (sents : List Sent) → IsNonDecreasingBy (λ (sent : Sent). sent.number) sents
    → ids_from least sents ≡ ids (drop (leading (λ (sent : Sent). nat_lt sent.number least) sents) sents)
ids-leading least [] sorted = refl
ids-leading least (sent ∷ sents) sorted =
    ids_turn (nat_lt sent.number least) least sent sents _ refl
    (λ j d lt. sorted 0 (suc j) d (omega arith) (omega arith)) (ids-leading least sents (λ i j d le lt. sorted (suc i) (suc j) d (omega arith) (omega arith)))

-- as the calls find it
pub leg_at-found : (number last : ℕ) (legs : List (ℕ × SentLeg)) (ids : List NumberedId) (place : ℕ) (found : Option NumberedId) → IsRising 0 0 last legs → ids ≡ numbered_ids legs
    → place ≡ leading (λ (numbered : NumberedId). nat_lt numbered.number number) ids → found ≡ slice_get ids place → leg_at number (entries last legs) ≡ found_id number found
leg_at-found number last legs ids place found r e f g = rw (g, f, e) (leg_at-kept number last legs r ∙ id-leading number 0 0 last legs r)

pub doubt_from-found : (least last : ℕ) (legs : List (ℕ × SentLeg)) (sents : List Sent) (place : ℕ) → IsRising 0 0 last legs → sents ≡ doubts legs
    → place ≡ leading (λ (sent : Sent). nat_lt sent.number least) sents → doubt_from least (entries last legs) ≡ ids (drop place sents)
doubt_from-found least last legs sents place r e f =
    doubt_from-entries least last legs r ∙ ap (ids_from least) (sym e)
    ∙ ids-leading least sents (rw e (doubts_rise 0 0 last legs r)) ∙ ap (λ (k : ℕ). ids (drop k sents)) (sym f)
