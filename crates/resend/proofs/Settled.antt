-- Which legs were withdrawn since, and that none is in doubt once all are settled.
use Rattle.std.proofs.Common.{◌≡◌, ◌≤◌, ℕ, suc, Bool, true, false, ◌&&◌, nat_lt, nat_le, List, [], ◌∷◌, ◌++◌, length, refl, ap, ◌∙◌, if◌then◌else◌, arith}
use Rattle.std.proofs.lemmas.Bool.Decides.{nat_tests}
use Rattle.leg.specs.LegId.{LegIdParts}
use Rattle.leg.specs.declared.leg_state.LegState.{LegState}
use Rattle.leg.specs.declared.leg_state.LegState.TheVariants.{Queued, Doubt, Taken, Withdrawn}
use Rattle.resend.specs.Log.{SentLeg, Entry, sent_from, is_doubt, doubt_in, doubt_from, is_nonempty, in_doubt, entry_settled, settled_where, take_below, give_up_from}
use Rattle.resend.specs.Log.Entry.{Admin, Sent}
use Rattle.resend.specs.Later.{is_withdrawn, withdrawn_since}

-- entries that are added behind make no leg withdrawn
pub since-append : (old new more : List Entry) → length old ≤ length new → withdrawn_since old (new ++ more) ≡ withdrawn_since old new
since-append [] new more fits = refl
since-append (Admin ∷ old) [] more fits = absurd (omega arith)
since-append (Sent leg ∷ old) [] more fits = absurd (omega arith)
since-append (Admin ∷ old) (entry ∷ new) more fits = since-append old new more (omega arith)
since-append (Sent leg ∷ old) (Admin ∷ new) more fits = since-append old new more (omega arith)
since-append (Sent leg ∷ old) (Sent now ∷ new) more fits =
    ap (λ (ids : List LegIdParts). if is_doubt leg.state && is_withdrawn now.state then leg.id ∷ ids else ids) (since-append old new more (omega arith))

not_both : (state : LegState) → (is_doubt state && is_withdrawn state) ≡ false
not_both Queued = refl
not_both Doubt = refl
not_both Taken = refl
not_both Withdrawn = refl

pub since-refl : (log : List Entry) → withdrawn_since log log ≡ []
since-refl [] = refl
since-refl (Admin ∷ log) = since-refl log
since-refl (Sent leg ∷ log) = rw (not_both leg.state) (since-refl log)

-- an entry that is taken where one test passes, and withdrawn where another does
settled_by : Bool → Bool → Entry → Entry
settled_by taken gone entry =
    let first : Entry = if taken then entry_settled Taken entry else entry in if gone then entry_settled Withdrawn first else first

-- what becomes of a leg that is taken where a test passes
leg_taken : (taken : Bool) (leg : SentLeg) (old : LegState) → leg.state ≡ old → (log rest : List Entry) → withdrawn_since log rest ≡ []
    → withdrawn_since (Sent leg ∷ log) ((if taken then entry_settled Taken (Sent leg) else Sent leg) ∷ rest) ≡ []
leg_taken true leg Queued is log rest e = rw is e
leg_taken true leg Doubt is log rest e = rw is e
leg_taken true leg Taken is log rest e = rw is e
leg_taken true leg Withdrawn is log rest e = rw is e
leg_taken false leg Queued is log rest e = rw is e
leg_taken false leg Doubt is log rest e = rw is e
leg_taken false leg Taken is log rest e = rw is e
leg_taken false leg Withdrawn is log rest e = rw is e

since-taken : (test : ℕ → Bool) (first : ℕ) (log : List Entry) → withdrawn_since log (settled_where test Taken first log) ≡ []
since-taken test first [] = refl
since-taken test first (Admin ∷ log) = since-taken test (suc first) log
since-taken test first (Sent leg ∷ log) = leg_taken (test first) leg leg.state refl log (settled_where test Taken (suc first) log) (since-taken test (suc first) log)

pub since-take_below : (number : ℕ) (log : List Entry) → withdrawn_since log (take_below number log) ≡ []
since-take_below number log = since-taken (λ n. nat_lt n number) 1 log

-- what becomes of a leg that is taken where one test passes, and else withdrawn where the other does
leg_settled : (taken gone : Bool) → (gone ≡ true → taken ≡ false) → (leg : SentLeg) (old : LegState) → leg.state ≡ old → (log rest : List Entry) (ids : List LegIdParts) → withdrawn_since log rest ≡ ids
    → withdrawn_since (Sent leg ∷ log) (settled_by taken gone (Sent leg) ∷ rest) ≡ (if is_doubt leg.state && gone then leg.id ∷ ids else ids)
unfolding settled_by
leg_settled true true apart leg old is log rest ids e = absurd (let h = apart refl in cc)
leg_settled true false apart leg Queued is log rest ids e = rw is e
leg_settled true false apart leg Doubt is log rest ids e = rw is e
leg_settled true false apart leg Taken is log rest ids e = rw is e
leg_settled true false apart leg Withdrawn is log rest ids e = rw is e
leg_settled false true apart leg Queued is log rest ids e = rw is e
leg_settled false true apart leg Doubt is log rest ids e = rw is (ap (λ (ids : List LegIdParts). leg.id ∷ ids) e)
leg_settled false true apart leg Taken is log rest ids e = rw is e
leg_settled false true apart leg Withdrawn is log rest ids e = rw is e
leg_settled false false apart leg Queued is log rest ids e = rw is e
leg_settled false false apart leg Doubt is log rest ids e = rw is e
leg_settled false false apart leg Taken is log rest ids e = rw is e
leg_settled false false apart leg Withdrawn is log rest ids e = rw is e

apart_by : (first number : ℕ) → nat_le number first ≡ true → nat_lt first number ≡ false
apart_by first number is = grind (arith, nat_tests, is)

since-settled_from : (number first : ℕ) (log : List Entry)
    → withdrawn_since log (settled_where (λ n. nat_le number n) Withdrawn first (settled_where (λ n. nat_lt n number) Taken first log)) ≡ doubt_in number (sent_from first log)
unfolding settled_by
since-settled_from number first [] = refl
since-settled_from number first (Admin ∷ log) = since-settled_from number (suc first) log
since-settled_from number first (Sent leg ∷ log) =
    leg_settled (nat_lt first number) (nat_le number first) (apart_by first number) leg leg.state refl log _ _ (since-settled_from number (suc first) log)

pub since-settled : (number : ℕ) (log : List Entry) → withdrawn_since log (give_up_from number (take_below number log)) ≡ doubt_from number log
since-settled number log = since-settled_from number 1 log

-- none is left in doubt
admin_stays : (taken gone : Bool) → settled_by taken gone Admin ≡ Admin
unfolding settled_by
admin_stays true true = refl
admin_stays true false = refl
admin_stays false true = refl
admin_stays false false = refl

leg_no_doubt : (taken gone : Bool) → (taken ≡ false → gone ≡ true) → (leg : SentLeg) (old : LegState) → leg.state ≡ old → (least first : ℕ) (rest : List Entry) → doubt_in least (sent_from (suc first) rest) ≡ []
    → doubt_in least (sent_from first (settled_by taken gone (Sent leg) ∷ rest)) ≡ []
unfolding settled_by
leg_no_doubt false false one leg old is least first rest e = absurd (let h = one refl in cc)
leg_no_doubt true true one leg Queued is least first rest e = rw is e
leg_no_doubt true true one leg Doubt is least first rest e = rw is e
leg_no_doubt true true one leg Taken is least first rest e = rw is e
leg_no_doubt true true one leg Withdrawn is least first rest e = rw is e
leg_no_doubt true false one leg Queued is least first rest e = rw is e
leg_no_doubt true false one leg Doubt is least first rest e = rw is e
leg_no_doubt true false one leg Taken is least first rest e = rw is e
leg_no_doubt true false one leg Withdrawn is least first rest e = rw is e
leg_no_doubt false true one leg Queued is least first rest e = rw is e
leg_no_doubt false true one leg Doubt is least first rest e = rw is e
leg_no_doubt false true one leg Taken is least first rest e = rw is e
leg_no_doubt false true one leg Withdrawn is least first rest e = rw is e

one_by : (first number : ℕ) → nat_lt first number ≡ false → nat_le number first ≡ true
one_by first number is = grind (arith, nat_tests, is)

settled_from-no_doubt : (least number first : ℕ) (log : List Entry)
    → doubt_in least (sent_from first (settled_where (λ n. nat_le number n) Withdrawn first (settled_where (λ n. nat_lt n number) Taken first log))) ≡ []
unfolding settled_by
settled_from-no_doubt least number first [] = refl
settled_from-no_doubt least number first (Admin ∷ log) =
    let rest = settled_where (λ n. nat_le number n) Withdrawn (suc first) (settled_where (λ n. nat_lt n number) Taken (suc first) log) in
    ap (λ (entry : Entry). doubt_in least (sent_from first (entry ∷ rest))) (admin_stays (nat_lt first number) (nat_le number first))
    ∙ settled_from-no_doubt least number (suc first) log
settled_from-no_doubt least number first (Sent leg ∷ log) =
    leg_no_doubt (nat_lt first number) (nat_le number first) (one_by first number) leg leg.state refl least first _ (settled_from-no_doubt least number (suc first) log)

pub settled-no_doubt : (number : ℕ) (log : List Entry) → in_doubt (give_up_from number (take_below number log)) ≡ false
settled-no_doubt number log = ap is_nonempty (settled_from-no_doubt 0 number 1 log)
