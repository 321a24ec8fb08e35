-- What an exchange is after an act, and after a message whose order is dealt with.
use Rattle.std.proofs.Common.{◌≡◌, ℕ, ◌+◌, min, true, false, nat_lt, List, length, get_or, Result, Ok, Err, Some, None, slice_get, OnOk, refl, sym}
use Rattle.std.proofs.lemmas.Bool.{ltb-true, ltb-false}
use Rattle.std.proofs.lemmas.Option.{slice_get_read, slice_get_past}
use Rattle.std.specs.Global.{Vec}
use Rattle.fix_tags.specs.Price.{price_short}
use Rattle.fix_tags.specs.Stamp.{StampParts}
use Rattle.leg.specs.declared.leg.Leg.{Leg}
use Rattle.dialect.specs.Wording.{Encoding}
use Rattle.dialect.specs.declared.message.Message.{Message}
use Rattle.exchange_core.specs.Exchange.{ExchangeParts, Answer, accepted_by, take}
use Rattle.exchange_core.specs.Acts.{ActAnswer}
use Rattle.exchange_core.specs.Frames.{ActResult, ActGives, TakeGives}
use Rattle.exchange_sim.specs.Dealing.{IsKnown, dealt, takes}

-- an act for which no memory was wanted leads where its definition leads
pub acted : (w : Encoding) (s : StampParts) (x : ExchangeParts) (answer : ActAnswer) (given : ActResult) (y : ExchangeParts)
    → ActGives w s x answer given y → IsKnown given → y ≡ answer.1
acted w s x (Err fault, after) given y gives known = gives.1
acted w s x (Ok written, after) (Ok frame) y gives known = gives.1
acted w s x (Ok written, after) (Err fault) y gives known = absurd (rw gives.0 at known)

-- so does a message that was taken
pub taken : (w : Encoding) (s : StampParts) (x : ExchangeParts) (answer : Answer) (frames : Vec (Vec ℕ)) (y : ExchangeParts)
    → TakeGives w s x answer (Ok frames) y → y ≡ answer.1
taken w s x (written, after) frames y gives = gives.1

-- the leg that stands behind so many, if one does
pub leg_there : (legs accepted : List Leg) (count : ℕ) (leg : Leg) → legs ≡ accepted → true ≡ nat_lt count (length legs)
    → leg ≡ get_or legs count leg → slice_get accepted count ≡ Some leg
leg_there legs accepted count leg same below is =
    rw (sym same) (slice_get_read legs (length legs) count leg refl (ltb-true count (length legs) (sym below)) is)

pub no_leg_there : (legs accepted : List Leg) (count : ℕ) → legs ≡ accepted → false ≡ nat_lt count (length legs)
    → slice_get accepted count ≡ None
no_leg_there legs accepted count same past = rw (sym same) (slice_get_past legs count (ltb-false count (length legs) (sym past)))

-- a message whose order was accepted and dealt with
pub taken_and_dealt : (fill connection : ℕ) (x y z : ExchangeParts) (m : Message) (count shares : ℕ) (leg : Leg) (px : List ℕ)
    → y ≡ (take x connection m).1 → count ≡ length (accepted_by x) → slice_get (accepted_by y) count ≡ Some leg
    → shares ≡ min fill leg.terms.shares → px ≡ price_short leg.terms.price → z ≡ dealt (count + 1) shares px y
    → z ≡ takes fill connection x m
unfolding takes
taken_and_dealt fill connection x y z m count shares leg px y_is count_is there shares_is px_is z_is =
    let found = rw (y_is, count_is) at there in
    rw found (rw (shares_is, px_is, count_is, y_is) at z_is)

-- and one that brought no order
pub taken_alone : (fill connection : ℕ) (x y : ExchangeParts) (m : Message) (count : ℕ)
    → y ≡ (take x connection m).1 → count ≡ length (accepted_by x) → slice_get (accepted_by y) count ≡ None
    → y ≡ takes fill connection x m
unfolding takes
taken_alone fill connection x y m count y_is count_is there =
    let found = rw (y_is, count_is) at there in
    rw found y_is

-- what follows of two facts of a call that was Ok
pub both_ok : {A E P Q R : Type 0} (result : Result A E) → OnOk result P → OnOk result Q → (P → Q → R) → OnOk result R
both_ok (Ok done) p q follows = follows p q
both_ok (Err fault) p q follows = tt

-- what holds in any case holds of a call that was Ok
pub anyway : {A E P : Type 0} (result : Result A E) → P → OnOk result P
anyway (Ok done) p = p
anyway (Err fault) p = tt
