-- The worked run may be, and comes to what it should.
use Rattle.std.proofs.Common.{◌≡◌, ◌≤◌, ◌<◌, ℕ, [], ◌∷◌, Some, None, Ok, refl, subst, inl, inr, arith}
use Rattle.std.specs.Fmt.{digits}
use Rattle.std.proofs.lemmas.Bool.{cases_lt}
use Rattle.std.proofs.lemmas.List.Elements.{All-cons}
use Rattle.leg.specs.Numbered.{numbered}
use Rattle.dialect.specs.declared.content.Content.TheVariants.{ExecutionReport}
use Rattle.session_core.specs.Example.{config, from_b, report}
use Rattle.exchange_core.specs.Acceptance.{May}
use Rattle.exchange_core.specs.Acceptance as rules
use Rattle.venue_line.specs.Line.{new_line, AreSteps}
use Rattle.venue_line.specs.Line as line
use Rattle.line_restart.specs.Lives.{AreLives}
use Rattle.venue_line.specs.Worked.{first, second, logon, fence, answer, order, asks, fill, standing, two, till_up}
use Rattle.line_restart.specs.Example.{reported, three, five, six, legs, up, first_sent, first_accepted, second_sent, one, again, logging_on_again, asked_for, settling_again, filled, fill_taken, fence_taken_again, booked_again, passed_over, up_again, other, IsBookedAgain}
use Rattle.venue_line.proofs.Worked.{no_more, nothing, says, asks_for, passes_over, answers, accepts, connects, sends, receives, exchanges, steps_up}
use Rattle.venue_line.proofs.Leading.{steps_more}

-- the order is accepted and reported
takes_order : May (standing 1 3 [] two) (Some (order 1 3 first)) (standing 1 4 (first ∷ []) three) (reported 1 ∷ [])
takes_order =
    let s = standing 1 3 [] two in
    let m = order 1 3 first in
    let t = (standing 1 4 (first ∷ []) three).intake in
    accepts s.intake two 1 3 first refl refl (Some (ExecutionReport (Ok report)) ∷ []) (reported 1 ∷ [])
    (All-cons (rules.MayKeep s (Some m) (standing 1 4 (first ∷ []) three)) (Some (ExecutionReport (Ok report))) []
    (record { place = 0; leg = first; there = refl; same = refl }) (no_more s m t three))
    (says s m t three (reported 1) [] (record { from = omega arith; to = inl (omega arith); content = inl refl })
    (nothing s m t three))

takes_next_logon : May (standing 1 4 (first ∷ []) three) (Some (logon 2 5)) (standing 2 4 (first ∷ []) five)
    (logon 2 4 ∷ asks 2 5 4 ∷ [])
takes_next_logon =
    asks_for (standing 1 4 (first ∷ []) three).intake (standing 2 4 (first ∷ []) five).intake three 2 5 4 (omega arith)
    (omega arith) refl (omega arith) (omega arith) refl refl

-- number 4 is filled over, and the report is written again, with what stands behind it filled over
no_report : (number : ℕ) → 4 ≤ number → number < 6 → numbered number five ≡ Some None
no_report number low high =
    elim (cases_lt number 5) [
      | inl four ↦ (let e : 4 ≡ number = omega arith in subst (λ n. numbered n five ≡ Some None) e refl)
      | inr above ↦ (let e : 5 ≡ number = omega arith in subst (λ n. numbered n five ≡ Some None) e refl)
    ]

takes_fill : May (standing 2 4 (first ∷ []) five) (Some (fill 2 4 8)) (standing 2 8 (first ∷ []) five)
    (reported 2 ∷ fill 2 4 6 ∷ [])
takes_fill =
    let s = standing 2 4 (first ∷ []) five in
    let m = fill 2 4 8 in
    let t = (standing 2 8 (first ∷ []) five).intake in
    passes_over s.intake t five 2 4 8 (reported 2 ∷ fill 2 4 6 ∷ []) refl refl refl
    (says s m t five (reported 2) (fill 2 4 6 ∷ [])
    (record { from = omega arith; to = inl (omega arith); content = inl refl })
    (says s m t five (fill 2 4 6) []
    (record {
      from = omega arith;
      to = inl (omega arith);
      content = inr (refl, record { above = omega arith; used = omega arith; plain = no_report });
    }) (nothing s m t five)))

takes_next_fence : May (standing 2 8 (first ∷ []) five) (Some (fence 2 8)) (standing 2 9 (first ∷ []) six)
    (answer 2 6 8 ∷ [])
takes_next_fence =
    answers (standing 2 8 (first ∷ []) five).intake five 2 8 6 refl refl (omega arith) (omega arith) refl

steps_behind : AreSteps up (first_sent ∷ first_accepted ∷ second_sent ∷ [])
unfolding digits
steps_behind = (
  sends up 1 first refl refl tt,
  (
    exchanges first_sent (order 1 3 first) (standing 1 4 (first ∷ []) three) (reported 1 ∷ []) (2, omega arith, refl)
        takes_order,
    (
      sends first_accepted 2 second refl refl tt,
      tt,
    ),
  ),
)

steps : AreSteps (new_line config) one.durable
steps =
    steps_more (new_line config) (till_up legs) (first_sent ∷ first_accepted ∷ second_sent ∷ []) (steps_up legs)
    steps_behind

more : AreSteps second_sent one.lost
unfolding digits
more = (line.receives (from_b (reported 1).number (reported 1).content) (2, omega arith, refl) refl refl, tt)

steps_filled : AreSteps again (logging_on_again ∷ asked_for ∷ settling_again ∷ filled ∷ [])
unfolding digits
steps_filled = (
  connects again tt,
  (
    exchanges logging_on_again (logon 2 5) (standing 2 4 (first ∷ []) five) (logon 2 4 ∷ asks 2 5 4 ∷ []) (4, omega arith, refl)
        takes_next_logon,
    (
      receives asked_for (logon 2 4) (3, omega arith, refl) refl,
      (
        receives settling_again (asks 2 5 4) (4, omega arith, refl) refl,
        tt,
      ),
    ),
  ),
)

steps_settled : AreSteps filled (fill_taken ∷ fence_taken_again ∷ booked_again ∷ passed_over ∷ up_again ∷ [])
unfolding digits
steps_settled = (
  exchanges filled (fill 2 4 8) (standing 2 8 (first ∷ []) five) (reported 2 ∷ fill 2 4 6 ∷ []) (7, omega arith, refl)
      takes_fill,
  (
    exchanges fill_taken (fence 2 8) (standing 2 9 (first ∷ []) six) (answer 2 6 8 ∷ []) (8, omega arith, refl)
        takes_next_fence,
    (
      receives fence_taken_again (reported 2) (5, omega arith, refl) refl,
      (
        receives booked_again (fill 2 4 6) (6, omega arith, refl) refl,
        (
          receives passed_over (answer 2 6 8) (7, omega arith, refl) refl,
          tt,
        ),
      ),
    ),
  ),
)

steps_again : AreSteps again other.durable
steps_again =
    steps_more again (logging_on_again ∷ asked_for ∷ settling_again ∷ filled ∷ [])
    (fill_taken ∷ fence_taken_again ∷ booked_again ∷ passed_over ∷ up_again ∷ []) steps_filled steps_settled

lives : AreLives one (other ∷ [])
unfolding digits more
lives = (
  record { steps = steps; more = more; wire = (tt, tt) },
  record {
    kept = legs;
    forgotten = [];
    left = 2;
    released = refl;
    from = omega arith;
    whole = omega arith;
    is = refl;
  },
  record { steps = steps_again; more = tt; wire = tt },
)

pub booked_twice : IsBookedAgain
unfolding digits
booked_twice = record {
  lives = lives;
  booked = refl;
  journal = refl;
  given = refl;
  accepted = refl;
  taken = refl;
  withdrawn = refl;
  up = refl;
}
