-- The starts that break another rule of the journal: each is reached as it says, and what it reaches isn't safe.
use Rattle.std.proofs.Common.{◌≡◌, ◌≤◌, ℕ, zero, suc, List, [], ◌∷◌, ◌++◌, Some, None, refl, sym, ap, ◌∙◌, inl, inr, arith}
use Rattle.std.specs.Fmt.{digits}
use Rattle.std.specs.Prelude.{map, take}
use Rattle.leg.specs.Numbered.{numbered}
use Rattle.leg.specs.declared.leg.Leg.{Leg}
use Rattle.leg.specs.declared.leg_state.LegState.TheVariants.{Doubt, Withdrawn}
use Rattle.dialect.specs.declared.note.Note.TheVariants as note
use Rattle.session_core.specs.Session.{leg_state}
use Rattle.session_core.specs.Example.{config, from_b, report}
use Rattle.exchange_core.specs.Acceptance.{May}
use Rattle.exchange_core.specs.Acceptance as rules
use Rattle.venue_line.specs.Line.{new_line, AreSteps}
use Rattle.venue_line.specs.Line as line
use Rattle.venue_line.specs.LineTheorem.{IsWithdrawnLeg, LineHolds}
use Rattle.venue_line.specs.Notes.{notes_under}
use Rattle.venue_line.specs.Worked.{first, second, logon, fence, answer, order, asks, standing, two, four, till_up}
use Rattle.venue_line.proofs.Worked.{step, no_more, plain, plain_two, nothing, says, logs_on, answers, accepts, connects, sends, receives, exchanges, steps_up}
use Rattle.venue_line.proofs.Leading.{steps_more}
use Rattle.line_restart.specs.Lives.{AreLives}
use Rattle.line_restart.specs.Example.{three, legs, first_sent}
use Rattle.line_restart.specs.UnsafeWire.{settling, withdrawn}
use Rattle.line_restart.specs.UnsafeStarts.{both_sent, first_taken, both_taken, gap_left, IsGapLeft, release_lost, IsReleaseLost, dropped, dropping, drop_lost, logging_on_again, logon_taken_again, settling_again, fence_taken_again, up_again, sent_again, accepted_again, after_drop, IsDropLost, withdrawal_lost, IsWithdrawalLost, book_ahead, IsBookAhead, count_ahead, IsCountAhead, begun_anew, IsBegunAnew, counted_anew, counting, asked_early, settling_early, withdrawn_early, accepted_late, till_late, IsCountedAnew}
use Rattle.line_restart.proofs.Cut.{reached_new}
use Rattle.line_restart.proofs.Reached.{durable_reached, reached_holds}
use Rattle.line_restart.proofs.Restarting.{restart_reached}
use Rattle.line_restart.proofs.UnsafeWire.{takes_order, first_ordinal, order_more, fill_steps}

-- a leg that left the desk and isn't in the log
unsent : (w : line.Line) (ordinal : ℕ) → 1 ≤ ordinal → ordinal ≤ w.left → leg_state w.session ordinal ≡ None
    → IsWithdrawnLeg w ordinal
unsent w ordinal from left none = record { from = from; left = left; gone = inl none }

-- the gap
takes_second : May (standing 1 4 (first ∷ []) (two ++ None ∷ [])) (Some (order 1 4 second))
    (standing 1 5 (first ∷ second ∷ []) four) []
takes_second =
    let own = two ++ None ∷ [] in
    let s = standing 1 4 (first ∷ []) own in
    let m = order 1 4 second in
    let t = (standing 1 5 (first ∷ second ∷ []) four).intake in
    accepts s.intake own 1 4 second refl refl (None ∷ []) [] (plain s m t four) (nothing s m t four)

both_steps : AreSteps first_sent (both_sent ∷ first_taken ∷ both_taken ∷ [])
unfolding digits
both_steps = (
  sends first_sent 2 second refl refl tt,
  (
    exchanges both_sent (order 1 3 first) (standing 1 4 (first ∷ []) (two ++ None ∷ [])) [] (2, omega arith, refl)
        takes_order,
    (
      exchanges first_taken (order 1 4 second) (standing 1 5 (first ∷ second ∷ []) four) [] (3, omega arith, refl)
          takes_second,
      tt,
    ),
  ),
)

gap_steps : AreSteps (new_line config) (till_up legs ++ first_sent ∷ both_sent ∷ first_taken ∷ both_taken ∷ [])
gap_steps =
    steps_more (new_line config) (till_up legs) (first_sent ∷ both_sent ∷ first_taken ∷ both_taken ∷ []) (steps_up legs)
    (order_more.0, both_steps)

gap_unsafe : LineHolds gap_left → ⊥
unfolding digits
gap_unsafe holds =
    holds.withdrawn_is_missing 1 (unsent gap_left 1 (omega arith) (omega arith) refl)
    (first_ordinal (second ∷ []) holds.ordinals holds.released)

pub gap_is_left : IsGapLeft
gap_is_left = record { steps = gap_steps; unsafe = gap_unsafe }

-- the release
release_steps : AreSteps (new_line config) (till_up legs ++ first_sent ∷ [])
release_steps = steps_more (new_line config) (till_up legs) (first_sent ∷ []) (steps_up legs) (order_more.0, tt)

release_unsafe : LineHolds release_lost → ⊥
unfolding digits
release_unsafe holds = none_numbered holds.ordinals holds.released
  where
    none_numbered : (ordinals : List ℕ)
        → map (λ leg. Some leg) (first ∷ []) ≡ map (λ ordinal. numbered {A = Leg} ordinal []) ordinals → ⊥
    none_numbered [] same = cc
    none_numbered (zero ∷ ordinals) same = cc
    none_numbered (suc n ∷ ordinals) same = cc

pub release_is_lost : IsReleaseLost
unfolding digits
release_is_lost = record {
  steps = release_steps;
  more = (order_more.1.0, tt);
  till = refl;
  start = refl;
  later = tt;
  unsafe = release_unsafe;
}

-- the drop
takes_logon_again : May (standing 1 3 [] two) (Some (logon 2 3)) (standing 2 4 [] (two ++ None ∷ [])) (logon 2 3 ∷ [])
takes_logon_again =
    logs_on (standing 1 3 [] two).intake (standing 2 4 [] (two ++ None ∷ [])).intake two 2 3 3 (omega arith) (omega arith)
    refl (omega arith) (omega arith) refl

takes_fence_again : May (standing 2 4 [] (two ++ None ∷ [])) (Some (fence 2 4)) (standing 2 5 [] four) (answer 2 4 4 ∷ [])
takes_fence_again =
    answers (standing 2 4 [] (two ++ None ∷ [])).intake (two ++ None ∷ []) 2 4 4 refl refl (omega arith) (omega arith)
    refl

takes_order_again : May (standing 2 5 [] four) (Some (order 2 5 first)) (standing 2 6 (first ∷ []) four) []
takes_order_again =
    let s = standing 2 5 [] four in
    let m = order 2 5 first in
    let t = (standing 2 6 (first ∷ []) four).intake in
    accepts s.intake four 2 5 first refl refl [] [] (no_more s m t four) (nothing s m t four)

steps_again : AreSteps drop_lost after_drop.durable
unfolding digits
steps_again = (
  connects drop_lost tt,
  (
    exchanges logging_on_again (logon 2 3) (standing 2 4 [] (two ++ None ∷ [])) (logon 2 3 ∷ []) (2, omega arith, refl)
        takes_logon_again,
    (
      receives logon_taken_again (logon 2 3) (2, omega arith, refl) refl,
      (
        exchanges settling_again (fence 2 4) (standing 2 5 [] four) (answer 2 4 4 ∷ []) (3, omega arith, refl)
            takes_fence_again,
        (
          receives fence_taken_again (answer 2 4 4) (3, omega arith, refl) refl,
          (
            sends up_again 1 first refl refl tt,
            (
              exchanges sent_again (order 2 5 first) (standing 2 6 (first ∷ []) four) [] (4, omega arith, refl)
                  takes_order_again,
              tt,
            ),
          ),
        ),
      ),
    ),
  ),
)

drop_lives : AreLives dropping (after_drop ∷ [])
unfolding digits
drop_lives = (
  record { steps = steps_up legs; more = (line.drops (omega arith) refl, tt); wire = (tt, tt) },
  record {
    kept = legs;
    forgotten = [];
    left = 0;
    released = refl;
    from = omega arith;
    whole = omega arith;
    is = refl;
  },
  record { steps = steps_again; more = tt; wire = tt },
)

-- the line that it ends with is safe, and has the leg among those that are accepted
accepted_holds : LineHolds accepted_again
accepted_holds =
    reached_holds config (omega arith) accepted_again
    (durable_reached config after_drop drop_lives.2
    (restart_reached config dropping drop_lives.0 drop_lost drop_lives.1
    (durable_reached config dropping drop_lives.0 (reached_new config))))

drop_gone : IsWithdrawnLeg dropped 1
unfolding digits
drop_gone = unsent dropped 1 (omega arith) (omega arith) refl

pub drop_is_lost : IsDropLost
unfolding digits
drop_is_lost = record {
  lives = drop_lives;
  gone = drop_gone;
  unsafe = λ never.
      never.accepted 1 accepted_holds drop_gone (first_ordinal [] accepted_holds.ordinals accepted_holds.released);
}

-- the withdrawal
withdrawn_gone : IsWithdrawnLeg withdrawn 1
unfolding digits
withdrawn_gone = record { from = omega arith; left = omega arith; gone = inr refl }

in_doubt : leg_state withdrawal_lost.session 1 ≡ Some Doubt
unfolding digits
in_doubt = refl

not_gone : IsWithdrawnLeg withdrawal_lost 1 → ⊥
not_gone is =
    elim is.gone [
      | inl none ↦ (let e : Some Doubt ≡ None = sym in_doubt ∙ none in cc)
      | inr gone ↦ (let e : Some Doubt ≡ Some Withdrawn = sym in_doubt ∙ gone in cc)
    ]

lost_steps : AreSteps settling (withdrawn ∷ [])
unfolding digits
lost_steps = (line.receives (from_b (asks 2 4 3).number (asks 2 4 3).content) (3, omega arith, refl) refl refl, tt)

pub withdrawal_is_lost : IsWithdrawalLost
unfolding digits lost_steps
withdrawal_is_lost = record {
  lives = (
    record { steps = fill_steps; more = lost_steps; wire = (tt, tt) },
    record {
      kept = legs;
      forgotten = [];
      left = 1;
      released = refl;
      from = omega arith;
      whole = omega arith;
      is = refl;
    },
    record { steps = tt; more = tt; wire = tt },
  );
  gone = withdrawn_gone;
  doubt = in_doubt;
  forgotten = λ stays. not_gone (stays 1 withdrawn_gone);
}

-- the book and the count
pub book_is_ahead : IsBookAhead
unfolding digits
book_is_ahead holds =
    let r = holds.reports in
    let counted : 3 ≡ suc r.count = r.counted in
    let two_counted : r.count ≡ 2 = omega arith in
    let none : note.Report report ∷ [] ≡ notes_under book_ahead.session.log (take 2 three) =
    r.given ∙ ap (λ n. notes_under book_ahead.session.log (take n three)) two_counted in
    cc

pub count_is_ahead : IsCountAhead
unfolding digits
count_is_ahead holds =
    let r = holds.reports in
    let counted : 4 ≡ suc r.count = r.counted in
    let all_counted : r.count ≡ 3 = omega arith in
    let one : [] ≡ notes_under count_ahead.session.log (take 3 three) =
    r.given ∙ ap (λ n. notes_under count_ahead.session.log (take n three)) all_counted in
    cc

-- the numbers
pub is_begun_anew : IsBegunAnew
unfolding digits
is_begun_anew holds =
    holds.withdrawn_is_missing 1 (unsent begun_anew 1 (omega arith) (omega arith) refl)
    (first_ordinal [] holds.ordinals holds.released)

-- the connections
takes_no_logon : May (standing 1 3 [] two) (Some (logon 1 4)) (standing 1 3 [] four) (logon 1 3 ∷ asks 1 4 3 ∷ [])
takes_no_logon =
    let s = standing 1 3 [] two in
    let m = logon 1 4 in
    let t = (standing 1 3 [] four).intake in
    step s m t four (None ∷ None ∷ []) (logon 1 3 ∷ asks 1 4 3 ∷ []) (rules.stays refl) (plain_two s m t four) refl
    (says s m t four (logon 1 3) (asks 1 4 3 ∷ [])
    (record { from = omega arith; to = inl (omega arith); content = inr (refl, tt) })
    (says s m t four (asks 1 4 3) [] (record { from = omega arith; to = inl (omega arith); content = inr (refl, refl) })
    (nothing s m t four)))

takes_late : May (standing 1 3 [] four) (Some (order 1 3 first)) (standing 1 4 (first ∷ []) four) []
takes_late =
    let s = standing 1 3 [] four in
    let m = order 1 3 first in
    let t = (standing 1 4 (first ∷ []) four).intake in
    accepts s.intake four 1 3 first refl refl [] [] (no_more s m t four) (nothing s m t four)

late_steps : AreSteps counted_anew till_late
unfolding digits
late_steps = (
  connects counted_anew tt,
  (
    exchanges counting (logon 1 4) (standing 1 3 [] four) (logon 1 3 ∷ asks 1 4 3 ∷ []) (3, omega arith, refl)
        takes_no_logon,
    (
      receives asked_early (logon 1 3) (2, omega arith, refl) refl,
      (
        receives settling_early (asks 1 4 3) (3, omega arith, refl) refl,
        (
          exchanges withdrawn_early (order 1 3 first) (standing 1 4 (first ∷ []) four) [] (2, omega arith, refl)
              takes_late,
          tt,
        ),
      ),
    ),
  ),
)

sent_steps : AreSteps (new_line config) (till_up legs ++ first_sent ∷ [])
unfolding digits
sent_steps =
    steps_more (new_line config) (till_up legs) (first_sent ∷ []) (steps_up legs) (order_more.0, tt)

late_unsafe : LineHolds accepted_late → ⊥
unfolding digits
late_unsafe holds =
    holds.withdrawn_is_missing 1 (record { from = omega arith; left = omega arith; gone = inr refl })
    (first_ordinal [] holds.ordinals holds.released)

pub is_counted_anew : IsCountedAnew
unfolding digits
is_counted_anew = record { steps = sent_steps; start = refl; later = late_steps; unsafe = late_unsafe }
