-- What the kept legs are to the definitions of the log.
use Rattle.std.proofs.Common.{◌≡◌, ◌<◌, ◌≤◌, ◌+◌, ◌==◌, ℕ, suc, Bool, true, false, not, nat_lt, nat_le, List, [], ◌∷◌, ◌++◌, length, Ok, Err, refl, sym, ap, ◌∙◌, ◌&&◌, if◌then◌else◌, arith, add-one}
use Rattle.std.proofs.lemmas.Bool.{eq-eqb}
use Rattle.std.proofs.lemmas.Bool.Decides.{nat_tests}
use Rattle.leg.specs.LegId.{LegIdParts}
use Rattle.leg.specs.declared.leg_state.LegState.TheVariants.{Doubt}
use Rattle.resend.specs.declared.log_fault.LogFault.TheVariants.{NumbersSpent, OutOfMemory}
use Rattle.resend.specs.declared.sent.Sent.{Sent}
use Rattle.resend.specs.Log.{SentLeg, Entry, sent_legs, last_ordinal, is_doubt, doubt_in, doubt_from, is_nonempty, in_doubt}
use Rattle.resend.specs.Log.Entry.{Admin, Sent as SentEntry}
use Rattle.resend.specs.Window.{OutLogParts, push, doubts, window}
use Rattle.leg.specs.Answering.{Answers}
use Rattle.resend.specs.Kept.{filled, entries, IsRising}
use Rattle.resend.proofs.Filled.{length-filled, sent_from-filled, filled-more, last_in, last_ordinal-sent}

pub length-entries : (last : ℕ) (legs : List (ℕ × SentLeg)) → length (entries last legs) ≡ last
length-entries last legs = length-filled last 0 legs

pub sent_legs-entries : (last : ℕ) (legs : List (ℕ × SentLeg)) → IsRising 0 0 last legs → sent_legs (entries last legs) ≡ legs
sent_legs-entries last legs r = sent_from-filled last 0 0 last legs (omega arith) r

-- a number is spent where one is left
pub push-ok : (max_number : ℕ) (entry : Entry) (log : List Entry) (last : ℕ) → length log ≡ last → last + 1 < max_number
    → push entry (record { max_number = max_number; entries = log }) ≡ (Ok (last + 1), record { max_number = max_number; entries = log ++ entry ∷ [] })
push-ok max_number entry log last long lt =
    let more : (length log + 1) ≡ last + 1 = omega arith in
    let is : nat_lt (length log + 1) max_number ≡ true = (let below : length log + 1 < max_number = omega arith in grind (arith, nat_tests)) in
    rw is (ap (λ (n : ℕ). (Ok n, record { max_number = max_number; entries = log ++ entry ∷ [] })) more)

pub push-spent : (max_number : ℕ) (entry : Entry) (log : List Entry) (last : ℕ) → length log ≡ last → max_number ≤ last + 1
    → push entry (record { max_number = max_number; entries = log }) ≡ (Err NumbersSpent, record { max_number = max_number; entries = log })
push-spent max_number entry log last long le =
    let is : nat_lt (length log + 1) max_number ≡ false = (let above : max_number ≤ length log + 1 = omega arith in grind (arith, nat_tests)) in rw is refl

-- the log as a value
abbrev pub with_entries : ℕ → List Entry → OutLogParts
with_entries max_number entries = record { max_number = max_number; entries = entries }

-- what a push answers
module _ (max_number : ℕ) (entry : Entry) (log : List Entry) (last : ℕ) (long : length log ≡ last) where
  pub answers-ok : last + 1 < max_number
      → Answers OutOfMemory (with_entries max_number log) (push entry (with_entries max_number log)) (Ok (last + 1)) (with_entries max_number (log ++ entry ∷ []))
  answers-ok lt = rw (push-ok max_number entry log last long lt) (refl, refl)

  pub answers-spent : max_number ≤ last + 1
      → Answers OutOfMemory (with_entries max_number log) (push entry (with_entries max_number log)) (Err NumbersSpent) (with_entries max_number log)
  answers-spent le = rw (push-spent max_number entry log last long le) (refl, refl)

  pub answers-wanting : (now : List Entry) → last + 1 < max_number → now ≡ log
      → Answers OutOfMemory (with_entries max_number log) (push entry (with_entries max_number log)) (Err OutOfMemory) (with_entries max_number now)
  answers-wanting now lt same = rw (push-ok max_number entry log last long lt) (refl, ap (with_entries max_number) same)

append_none : {A : Type 0} → (xs : List A) → xs ++ [] ≡ xs
append_none [] = refl
append_none (x ∷ xs) = ap (λ ys. x ∷ ys) (append_none xs)

pub entries-admin : (last : ℕ) (legs : List (ℕ × SentLeg)) → IsRising 0 0 last legs → entries (last + 1) legs ≡ entries last legs ++ Admin ∷ []
entries-admin last legs r =
    let more = filled-more last 0 0 last 0 0 legs [] (omega arith) r tt in
    rw add-one (ap (λ (all : List (ℕ × SentLeg)). filled (suc last) 0 all) (sym (append_none legs)) ∙ more)

one_leg : (last : ℕ) (leg : SentLeg) → filled 1 last ((last + 1, leg) ∷ []) ≡ SentEntry leg ∷ []
one_leg last leg = let is : (last + 1 == suc last) ≡ true = eq-eqb (last + 1) (suc last) (omega arith) in rw is refl

pub entries-leg : (last : ℕ) (legs : List (ℕ × SentLeg)) (ordinal : ℕ) (id : LegIdParts) → IsRising 0 0 last legs → 0 < ordinal
    → entries (last + 1) (legs ++ (last + 1, record { ordinal = ordinal; id = id; state = Doubt }) ∷ [])
    ≡ entries last legs ++ SentEntry (record { ordinal = ordinal; id = id; state = Doubt }) ∷ []
entries-leg last legs ordinal id r above =
    let kept : SentLeg = record { ordinal = ordinal; id = id; state = Doubt } in
    let more = filled-more last 0 0 last 0 (last + 1) legs ((last + 1, kept) ∷ []) (omega arith) r (omega arith, above, omega arith, tt) in
    let next : last + 1 ≡ suc last = add-one last in
    (ap (λ (n : ℕ). filled n 0 (legs ++ (last + 1, kept) ∷ [])) next
    ∙ more ∙ ap (λ (log : List Entry). entries last legs ++ log) (one_leg last kept))

-- the legs stay in order as numbers are spent
pub rising-later : (number ordinal last later : ℕ) (legs : List (ℕ × SentLeg)) → last ≤ later → IsRising number ordinal last legs → IsRising number ordinal later legs
rising-later number ordinal last later [] le r = tt
rising-later number ordinal last later ((next, leg) ∷ legs) le r = (r.0, r.1, omega arith, rising-later next leg.ordinal last later legs le r.3)

rising-append : (number ordinal last next : ℕ) (legs : List (ℕ × SentLeg)) (leg : SentLeg) → IsRising number ordinal last legs → number ≤ last → last < next
    → last_in ordinal legs < leg.ordinal → IsRising number ordinal next (legs ++ (next, leg) ∷ [])
rising-append number ordinal last next [] leg r le lt above = (omega arith, above, omega arith, tt)
rising-append number ordinal last next ((at, first) ∷ legs) leg r le lt above =
    (r.0, r.1, omega arith, rising-append at first.ordinal last next legs leg r.3 r.2 lt above)

pub rising-push : (last : ℕ) (legs : List (ℕ × SentLeg)) (leg : SentLeg) → IsRising 0 0 last legs → last_in 0 legs < leg.ordinal
    → IsRising 0 0 (last + 1) (legs ++ (last + 1, leg) ∷ [])
rising-push last legs leg r above = rising-append 0 0 last (last + 1) legs leg r (omega arith) (omega arith) above

-- the last ordinal
pub last_ordinal-entries : (last : ℕ) (legs : List (ℕ × SentLeg)) → IsRising 0 0 last legs → last_ordinal (entries last legs) ≡ last_in 0 legs
last_ordinal-entries last legs r = last_ordinal-sent 0 1 (entries last legs) ∙ ap (last_in 0) (sent_legs-entries last legs r)

-- it stays where an administrative message is sent, and is that of a leg that is sent
pub last_ordinal-admin : (last : ℕ) (legs : List (ℕ × SentLeg)) (ordinal : ℕ) → IsRising 0 0 last legs → ordinal ≡ last_ordinal (entries last legs)
    → ordinal ≡ last_ordinal (entries (last + 1) legs)
last_ordinal-admin last legs ordinal r is =
    is ∙ last_ordinal-entries last legs r ∙ sym (last_ordinal-entries (last + 1) legs (rising-later 0 0 last (last + 1) legs (omega arith) r))

last_in-append : (ordinal number : ℕ) (legs : List (ℕ × SentLeg)) (leg : SentLeg) → leg.ordinal ≡ last_in ordinal (legs ++ (number, leg) ∷ [])
last_in-append ordinal number [] leg = refl
last_in-append ordinal number ((at, first) ∷ legs) leg = last_in-append first.ordinal number legs leg

pub last_ordinal-leg : (last : ℕ) (legs : List (ℕ × SentLeg)) (leg : SentLeg) → IsRising 0 0 (last + 1) (legs ++ (last + 1, leg) ∷ [])
    → leg.ordinal ≡ last_ordinal (entries (last + 1) (legs ++ (last + 1, leg) ∷ []))
last_ordinal-leg last legs leg r = last_in-append 0 (last + 1) legs leg ∙ sym (last_ordinal-entries (last + 1) (legs ++ (last + 1, leg) ∷ []) r)

-- the legs in doubt
pub window-entries : (last : ℕ) (legs : List (ℕ × SentLeg)) → IsRising 0 0 last legs → window (entries last legs) ≡ doubts legs
window-entries last legs r = ap doubts (sent_legs-entries last legs r)

-- the numbers of legs in doubt, from one on
abbrev pub ids_from : ℕ → List Sent → List LegIdParts
ids_from least [] = []
ids_from least (sent ∷ sents) = if nat_le least sent.number then sent.id ∷ ids_from least sents else ids_from least sents

doubt_turn : (doubt above : Bool) (sent : Sent) (least : ℕ) (legs : List LegIdParts) (sents : List Sent) → nat_le least sent.number ≡ above → legs ≡ ids_from least sents
    → (if doubt && above then sent.id ∷ legs else legs) ≡ ids_from least (if doubt then sent ∷ sents else sents)
doubt_turn false above sent least legs sents is e = e
doubt_turn true true sent least legs sents is e = rw is (ap (λ (ids : List LegIdParts). sent.id ∷ ids) e)
doubt_turn true false sent least legs sents is e = rw is e

doubt_in-legs : (least : ℕ) (legs : List (ℕ × SentLeg)) → doubt_in least legs ≡ ids_from least (doubts legs)
doubt_in-legs least [] = refl
doubt_in-legs least ((number, leg) ∷ legs) =
    doubt_turn (is_doubt leg.state) (nat_le least number) (record { number = number; ordinal = leg.ordinal; id = leg.id }) least _ _ refl (doubt_in-legs least legs)

pub doubt_from-entries : (least last : ℕ) (legs : List (ℕ × SentLeg)) → IsRising 0 0 last legs → doubt_from least (entries last legs) ≡ ids_from least (doubts legs)
doubt_from-entries least last legs r = ap (doubt_in least) (sent_legs-entries last legs r) ∙ doubt_in-legs least legs

some_doubt : (sents : List Sent) → not (length sents == 0) ≡ is_nonempty (ids_from 0 sents)
some_doubt [] = refl
some_doubt (sent ∷ sents) =
    let all : nat_le 0 sent.number ≡ true = grind (arith, nat_tests) in
    let some : (suc (length sents) == 0) ≡ false = grind (arith, nat_tests) in rw (all, some) refl

pub in_doubt-entries : (last : ℕ) (legs : List (ℕ × SentLeg)) → IsRising 0 0 last legs → in_doubt (entries last legs) ≡ not (length (doubts legs) == 0)
in_doubt-entries last legs r = ap is_nonempty (doubt_from-entries 0 last legs r) ∙ sym (some_doubt (doubts legs))

append_turn : (b : Bool) (sent : Sent) (xs ys more : List Sent) → ys ≡ xs ++ more → (if b then sent ∷ ys else ys) ≡ (if b then sent ∷ xs else xs) ++ more
append_turn true sent xs ys more e = ap (λ (sents : List Sent). sent ∷ sents) e
append_turn false sent xs ys more e = e

doubts-append : (legs more : List (ℕ × SentLeg)) → doubts (legs ++ more) ≡ doubts legs ++ doubts more
doubts-append [] more = refl
doubts-append ((number, leg) ∷ legs) more =
    append_turn (is_doubt leg.state) (record { number = number; ordinal = leg.ordinal; id = leg.id }) _ _ _ (doubts-append legs more)

pub doubts-push : (window : List Sent) (legs : List (ℕ × SentLeg)) (number ordinal : ℕ) (id : LegIdParts) → window ≡ doubts legs
    → window ++ record { number = number; ordinal = ordinal; id = id } ∷ [] ≡ doubts (legs ++ (number, record { ordinal = ordinal; id = id; state = Doubt }) ∷ [])
doubts-push window legs number ordinal id e =
    let more = doubts-append legs ((number, record { ordinal = ordinal; id = id; state = Doubt }) ∷ []) in rw (e, more) refl
