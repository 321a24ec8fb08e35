-- The worked line may be, and comes to what it should.
use Rattle.std.proofs.Common.{◌≡◌, [], ◌∷◌, Some, Ok, refl, inl, inr, arith}
use Rattle.std.specs.Fmt.{digits}
use Rattle.std.proofs.lemmas.List.Elements.{All-cons}
use Rattle.session_core.specs.Example.{config, leg}
use Rattle.exchange_core.specs.Acceptance.{MayKeep, May}
use Rattle.venue_line.specs.Line.{new_line, AreSteps}
use Rattle.venue_line.specs.Worked.{order, standing, two, till_up}
use Rattle.venue_line.proofs.Worked.{no_more, nothing, says, accepts, sends, receives, exchanges, steps_up}
use Rattle.venue_line.proofs.Leading.{steps_more}
use Rattle.line_notes.specs.Example.{refusal, three, up, sent, order_taken, refused, IsRefusalNoted}

-- the order is accepted, and refused
refuses_order : May (standing 1 3 [] two) (Some (order 1 3 leg)) (standing 1 4 (leg ∷ []) three) (refusal ∷ [])
refuses_order =
    let s = standing 1 3 [] two in
    let m = order 1 3 leg in
    let after = standing 1 4 (leg ∷ []) three in
    accepts s.intake two 1 3 leg refl refl (Some refusal.content ∷ []) (refusal ∷ [])
    (All-cons (MayKeep s (Some m) after) (Some refusal.content) []
    (inr (
      Ok leg,
      record {
        message = m;
        came = refl;
        due = record { live = refl; number = refl };
        says = refl;
        passed = refl;
      },
      refl,
    )) (no_more s m after.intake three))
    (says s m after.intake three refusal [] (record { from = omega arith; to = inl (omega arith); content = inl refl })
    (nothing s m after.intake three))

steps_behind : AreSteps up (sent ∷ order_taken ∷ refused ∷ [])
unfolding digits
steps_behind = (
  sends up 1 leg refl refl tt,
  (
    exchanges sent (order 1 3 leg) (standing 1 4 (leg ∷ []) three) (refusal ∷ []) (2, omega arith, refl) refuses_order,
    (receives order_taken refusal (2, omega arith, refl) refl, tt),
  ),
)

pub refusal_noted : IsRefusalNoted
unfolding digits
refusal_noted = record {
  steps = steps_more (new_line config) (till_up (leg ∷ [])) (sent ∷ order_taken ∷ refused ∷ []) (steps_up (leg ∷ []))
      steps_behind;
  accepted = refl;
  given = refl;
}
