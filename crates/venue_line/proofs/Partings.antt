-- The worked lines on which the exchange logs out unasked.
use Rattle.std.specs.Fmt.{digits}
use Rattle.std.proofs.Common.{◌≡◌, ◌≤◌, ℕ, List, [], ◌∷◌, ◌++◌, Option, Some, None, refl, inl, inr, arith}
use Rattle.std.specs.List.{Contains}
use Rattle.std.proofs.lemmas.List.Elements.{All-cons, All-nil}
use Rattle.leg.specs.Numbered.{numbered}
use Rattle.dialect.specs.declared.content.Content.{Content}
use Rattle.session_core.specs.Example.{config}
use Rattle.exchange_core.specs.Acceptance.{Carried, Intake, RuleState, MayAnswer, MayRefuse, MayRefuseOther, MayKeep, MayWrite, MayBeUnasked, May}
use Rattle.exchange_core.specs.Acceptance as rules
use Rattle.venue_line.specs.Line.{Line, new_line, LineStep, AreSteps}
use Rattle.venue_line.specs.Line as line
use Rattle.venue_line.specs.Worked.{first, logon, order, asks, standing, breaking, receiving, exchanging, two, four, up_with}
use Rattle.venue_line.specs.Partings.{legs, logout, parted_in, three, sent, order_taken, parted, over, closed, answer_taken, rejoining, refused, down, joining, asked_for, settling, settled, PartsFirst, RefusesLogon}
use Rattle.venue_line.proofs.Worked.{stood, step, no_more, plain, nothing, says, new_logon, accepts, connects, sends, breaks, receives, exchanges, steps_up}

-- a Logout that is written unasked, whatever comes: nothing is taken
parts : (s : Intake) (own : List (Option Content)) (coming : Option Carried) (connection number : ℕ) → 1 ≤ connection
    → numbered number (own ++ None ∷ []) ≡ Some None
    → May (stood s own) coming (parted_in connection (stood s (own ++ None ∷ []))) (logout connection number ∷ [])
parts s own coming connection number from under =
    let before = stood s own in
    let after = parted_in connection (stood s (own ++ None ∷ [])) in
    let here : Contains (connection ∷ []) connection = (0, omega arith, refl) in
    let said : Contains (logout connection number ∷ []) (logout connection number) = (0, omega arith, refl) in
    record {
      moves = rules.stays refl;
      tests = All-nil (MayAnswer before coming after);
      refusable = All-nil (MayRefuse before coming after);
      others = All-nil (MayRefuseOther before coming);
      own = (
        None ∷ [],
        All-cons (MayKeep before coming after) None [] tt (All-nil (MayKeep before coming after)),
        refl,
      );
      writes = All-cons (MayWrite before coming after) (logout connection number) []
          (record { from = from; to = inr refl; content = inr (under, inr here) })
          (All-nil (MayWrite before coming after));
      unasked = All-nil (Contains (connection ∷ []));
      only = All-cons (MayBeUnasked before (logout connection number ∷ [])) connection []
          (inr (record { message = logout connection number; there = said; same = refl; says = refl }))
          (All-nil (MayBeUnasked before (logout connection number ∷ [])));
    }

-- a step of the exchange by itself
alone : (a : Line) (t : RuleState) (written : List Carried) → May a.exchange None t written
    → LineStep a (exchanging t written a)
alone a t written may = line.exchanges None t written tt may refl

-- it logs out first
takes_order : May (standing 1 3 [] two) (Some (order 1 3 first)) (standing 1 4 legs two) []
takes_order =
    let s = standing 1 3 [] two in
    let m = order 1 3 first in
    let t = (standing 1 4 legs two).intake in
    accepts s.intake two 1 3 first refl refl [] [] (no_more s m t two) (nothing s m t two)

logs_out_first : May (standing 1 4 legs two) None (parted_in 1 (standing 1 4 legs three)) (logout 1 3 ∷ [])
logs_out_first = parts (standing 1 4 legs two).intake two None 1 3 (omega arith) refl

takes_answer : May (parted_in 1 (standing 1 4 legs three)) (Some (logout 1 4)) closed []
takes_answer =
    let s = parted_in 1 (standing 1 4 legs three) in
    let m = logout 1 4 in
    let t = closed.intake in
    step s m t three [] [] (rules.takes m refl (rules.logout (record { live = refl; number = refl }) refl refl))
    (no_more s m t three) refl (nothing s m t three)

first_more : AreSteps (up_with legs) (sent ∷ order_taken ∷ parted ∷ over ∷ answer_taken ∷ [])
unfolding digits
first_more = (
  sends (up_with legs) 1 first refl refl tt,
  (
    exchanges sent (order 1 3 first) (standing 1 4 legs two) [] (2, omega arith, refl) takes_order,
    (
      alone order_taken (parted_in 1 (standing 1 4 legs three)) (logout 1 3 ∷ []) logs_out_first,
      (
        receives parted (logout 1 3) (2, omega arith, refl) refl,
        (exchanges over (logout 1 4) closed [] (3, omega arith, refl) takes_answer, tt),
      ),
    ),
  ),
)

pub it_logs_out_first : PartsFirst
unfolding digits
it_logs_out_first = record {
  steps = steps_up legs;
  more = first_more;
  ended = refl;
  doubt = refl;
  accepted = refl;
  mark = refl;
}

-- it refuses a Logon
refuses : May (standing 1 3 [] two) (Some (logon 2 4)) (parted_in 2 (standing 1 3 [] three)) (logout 2 3 ∷ [])
refuses = parts (standing 1 3 [] two).intake two (Some (logon 2 4)) 2 3 (omega arith) refl

takes_next : May (parted_in 2 (standing 1 3 [] three)) (Some (logon 3 5)) (parted_in 2 (standing 3 3 [] four))
    (logon 3 3 ∷ asks 3 4 3 ∷ [])
takes_next =
    let s = parted_in 2 (standing 1 3 [] three) in
    let m = logon 3 5 in
    let t = (standing 3 3 [] four).intake in
    step s m t four (None ∷ []) (logon 3 3 ∷ asks 3 4 3 ∷ [])
    (rules.takes m refl (rules.new_logon (new_logon s.intake 3 5 (omega arith) (omega arith)) refl)) (plain s m t four)
    refl
    (says s m t four (logon 3 3) (asks 3 4 3 ∷ [])
    (record { from = omega arith; to = inl (omega arith); content = inr (refl, tt) })
    (says s m t four (asks 3 4 3) [] (record { from = omega arith; to = inl (omega arith); content = inr (refl, refl) })
    (nothing s m t four)))

refused_more : AreSteps (up_with legs)
    (sent ∷ breaking sent ∷ rejoining ∷ refused ∷ receiving (logout 2 3) refused ∷ [])
unfolding digits
refused_more = (
  sends (up_with legs) 1 first refl refl tt,
  (
    breaks sent,
    (
      connects (breaking sent) tt,
      (
        exchanges rejoining (logon 2 4) (parted_in 2 (standing 1 3 [] three)) (logout 2 3 ∷ []) (3, omega arith, refl)
            refuses,
        (receives refused (logout 2 3) (2, omega arith, refl) refl, tt),
      ),
    ),
  ),
)

settled_later : AreSteps down (joining ∷ asked_for ∷ settling ∷ settled ∷ [])
unfolding digits
settled_later = (
  connects down tt,
  (
    exchanges joining (logon 3 5) (parted_in 2 (standing 3 3 [] four)) (logon 3 3 ∷ asks 3 4 3 ∷ [])
        (4, omega arith, refl) takes_next,
    (
      receives asked_for (logon 3 3) (3, omega arith, refl) refl,
      (receives settling (asks 3 4 3) (4, omega arith, refl) refl, tt),
    ),
  ),
)

pub it_refuses_a_logon : RefusesLogon
unfolding digits
it_refuses_a_logon = record {
  steps = steps_up legs;
  more = refused_more;
  till = refl;
  doubt = refl;
  later = settled_later;
  withdrawn = refl;
}
