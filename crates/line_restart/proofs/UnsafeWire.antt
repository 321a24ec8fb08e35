-- The restarts of a journal that isn't before the wire: each is reached as it says, and what it reaches isn't safe.
use Rattle.std.proofs.Common.{◌≡◌, ℕ, zero, suc, List, [], ◌∷◌, ◌++◌, Option, Some, None, refl, ap, inl, inr, arith}
use Rattle.std.specs.Fmt.{digits}
use Rattle.std.specs.List.{Contains}
use Rattle.std.specs.Prelude.{map}
use Rattle.std.proofs.lemmas.Option.{same_Some}
use Rattle.leg.specs.Numbered.{numbered}
use Rattle.leg.specs.declared.leg.Leg.{Leg}
use Rattle.fix_tags.specs.declared.session_body.SessionBody.TheVariants.{Logout}
use Rattle.dialect.specs.declared.content.Content.TheVariants.{Session}
use Rattle.session_core.specs.Example.{config}
use Rattle.exchange_core.specs.Acceptance.{May}
use Rattle.exchange_core.specs.Acceptance as rules
use Rattle.venue_line.specs.Line.{new_line, AreSteps}
use Rattle.venue_line.specs.LineTheorem.{LineHolds}
use Rattle.venue_line.specs.Worked.{first, second, at, logon, fence, answer, order, asks, fill, standing, two, four, till_up}
use Rattle.line_restart.specs.Example.{legs, first_sent, up}
use Rattle.line_restart.specs.UnsafeWire.{order_taken, order_lost, IsOrderLost, parted, joining, asked_for, settling, withdrawn, fill_taken, fill_lost, joining_again, logon_taken, settling_again, fence_taken, called_taken, IsFillLost, close_asked, close_answered, logged_out, closed, logout_taken, close_lost, too_low, refused, too_low_again, refused_again, high_enough, opened, settling_open, fence_open, up_open, sent_open, accepted_open, till_accepted, IsCloseLost}
use Rattle.venue_line.proofs.Worked.{step, no_more, plain, nothing, says, new_logon, asks_for, passes_over, answers, accepts, connects, sends, closes, breaks, receives, exchanges, steps_up}
use Rattle.venue_line.proofs.Leading.{steps_more}

-- an order that is accepted, with nothing said
pub takes_order : May (standing 1 3 [] two) (Some (order 1 3 first)) (standing 1 4 (first ∷ []) (two ++ None ∷ [])) []
takes_order =
    let s = standing 1 3 [] two in
    let m = order 1 3 first in
    let t = (standing 1 4 (first ∷ []) (two ++ None ∷ [])).intake in
    accepts s.intake two 1 3 first refl refl (None ∷ []) [] (plain s m t (two ++ None ∷ []))
    (nothing s m t (two ++ None ∷ []))

pub order_more : AreSteps up (first_sent ∷ order_taken ∷ [])
unfolding digits
order_more = (
  sends up 1 first refl refl tt,
  (
    exchanges first_sent (order 1 3 first) (standing 1 4 (first ∷ []) (two ++ None ∷ [])) ([]) (2, omega arith, refl)
        takes_order,
    tt,
  ),
)

-- the ordinal of the first accepted leg
other_leg : Some first ≡ Some second → ⊥
other_leg same = (let e = ap (λ (l : Leg). l.id.place) (same_Some first second same) in omega arith)

pub first_ordinal : (legs : List Leg) (ordinals : List ℕ)
    → map (λ leg. Some leg) (first ∷ legs) ≡ map (λ ordinal. numbered ordinal (first ∷ second ∷ [])) ordinals
    → Contains ordinals 1
first_ordinal legs [] same = absurd cc
first_ordinal legs (zero ∷ ordinals) same = absurd cc
first_ordinal legs (suc zero ∷ ordinals) same = (0, omega arith, refl)
first_ordinal legs (suc (suc zero) ∷ ordinals) same =
    absurd (let e : Some first ≡ Some second = cc in other_leg e)
first_ordinal legs (suc (suc (suc n)) ∷ ordinals) same = absurd cc

order_unsafe : LineHolds order_lost → ⊥
unfolding digits
order_unsafe holds =
    holds.withdrawn_is_missing 1 (record { from = omega arith; left = omega arith; gone = inl refl })
    (first_ordinal [] holds.ordinals holds.released)

pub order_is_lost : IsOrderLost
unfolding digits
order_is_lost = record {
  steps = steps_up legs;
  more = order_more;
  till = refl;
  start = refl;
  later = tt;
  unsafe = order_unsafe;
}

-- the exchange asks for the number of an order that never came
takes_joining : May (standing 1 3 [] two) (Some (logon 2 4)) (standing 2 3 [] four) (logon 2 3 ∷ asks 2 4 3 ∷ [])
takes_joining =
    asks_for (standing 1 3 [] two).intake (standing 2 3 [] four).intake two 2 4 3 (omega arith) (omega arith) refl
    (omega arith) (omega arith) refl refl

takes_fill : May (standing 2 3 [] four) (Some (fill 2 3 6)) (standing 2 6 [] four) []
takes_fill =
    passes_over (standing 2 3 [] four).intake (standing 2 6 [] four).intake four 2 3 6 [] refl refl refl
    (nothing (standing 2 3 [] four) (fill 2 3 6) (standing 2 6 [] four).intake four)

takes_again : May (standing 2 6 [] four) (Some (logon 3 6)) (standing 3 7 [] four) (logon 3 4 ∷ [])
takes_again =
    let s = standing 2 6 [] four in
    let m = logon 3 6 in
    let t = (standing 3 7 [] four).intake in
    step s m t four [] (logon 3 4 ∷ [])
    (rules.takes m refl (rules.new_logon (new_logon s.intake 3 6 (omega arith) (omega arith)) refl))
    (no_more s m t four) refl
    (says s m t four (logon 3 4) [] (record { from = omega arith; to = inl (omega arith); content = inr (refl, tt) })
    (nothing s m t four))

takes_last : May (standing 3 7 [] four) (Some (fence 3 7)) (standing 3 8 [] (four ++ None ∷ [])) (answer 3 5 7 ∷ [])
takes_last = answers (standing 3 7 [] four).intake four 3 7 5 refl refl (omega arith) (omega arith) refl

fill_behind : AreSteps up (first_sent ∷ parted ∷ joining ∷ asked_for ∷ settling ∷ [])
unfolding digits
fill_behind = (
  sends up 1 first refl refl tt,
  (
    breaks first_sent,
    (
      connects parted tt,
      (
        exchanges joining (logon 2 4) (standing 2 3 [] four) (logon 2 3 ∷ asks 2 4 3 ∷ []) (3, omega arith, refl)
            takes_joining,
        (
          receives asked_for (logon 2 3) (2, omega arith, refl) refl,
          tt,
        ),
      ),
    ),
  ),
)

pub fill_steps : AreSteps (new_line config) (till_up legs ++ first_sent ∷ parted ∷ joining ∷ asked_for ∷ settling ∷ [])
fill_steps =
    steps_more (new_line config) (till_up legs) (first_sent ∷ parted ∷ joining ∷ asked_for ∷ settling ∷ []) (steps_up legs)
    fill_behind

fill_more : AreSteps settling (withdrawn ∷ fill_taken ∷ [])
unfolding digits
fill_more = (
  receives settling (asks 2 4 3) (3, omega arith, refl) refl,
  (
    exchanges withdrawn (fill 2 3 6) (standing 2 6 [] four) ([]) (5, omega arith, refl) takes_fill,
    tt,
  ),
)

fill_later : AreSteps fill_lost (joining_again ∷ logon_taken ∷ settling_again ∷ fence_taken ∷ called_taken ∷ [])
unfolding digits
fill_later = (
  connects fill_lost tt,
  (
    exchanges joining_again (logon 3 6) (standing 3 7 [] four) (logon 3 4 ∷ []) (5, omega arith, refl) takes_again,
    (
      receives logon_taken (logon 3 4) (4, omega arith, refl) refl,
      (
        exchanges settling_again (fence 3 7) (standing 3 8 [] (four ++ None ∷ [])) (answer 3 5 7 ∷ []) (6, omega arith, refl)
            takes_last,
        (
          receives fence_taken (answer 3 5 7) (5, omega arith, refl) refl,
          tt,
        ),
      ),
    ),
  ),
)

none_there : (ordinals : List ℕ) (ordinal : ℕ) (f : ℕ → Option Leg) → [] ≡ map f ordinals → Contains ordinals ordinal → ⊥
none_there [] ordinal f same there = (let low = there.1 in omega arith)
none_there (o ∷ ordinals) ordinal f same there = absurd cc

fill_unsafe : LineHolds called_taken → ⊥
unfolding digits
fill_unsafe holds =
    none_there holds.ordinals 1 (λ ordinal. numbered ordinal called_taken.released) holds.released
    (holds.taken_was_accepted 1 refl)

pub fill_is_lost : IsFillLost
unfolding digits
fill_is_lost = record {
  steps = fill_steps;
  more = fill_more;
  till = refl;
  start = refl;
  later = fill_later;
  unsafe = fill_unsafe;
}

-- the Logout is taken
takes_closing_fence : May (standing 1 3 [] two) (Some (fence 1 3)) (standing 1 4 [] (two ++ None ∷ [])) (answer 1 3 3 ∷ [])
takes_closing_fence = answers (standing 1 3 [] two).intake two 1 3 3 refl refl (omega arith) (omega arith) refl

takes_logout : May (standing 1 4 [] (two ++ None ∷ [])) (Some (at 1 4 (Session Logout))) (closed None 1 5 [] (two ++ None ∷ [])) []
takes_logout =
    let s = standing 1 4 [] (two ++ None ∷ []) in
    let m = at 1 4 (Session Logout) in
    let t = (closed None 1 5 [] (two ++ None ∷ [])).intake in
    step s m t (two ++ None ∷ []) [] [] (rules.takes m refl (rules.logout (record { live = refl; number = refl }) refl refl))
    (no_more s m t (two ++ None ∷ [])) refl (nothing s m t (two ++ None ∷ []))

takes_open : May (closed None 1 5 [] (two ++ None ∷ [])) (Some (logon 4 5)) (closed (Some 4) 4 6 [] (two ++ None ∷ [])) (logon 4 3 ∷ [])
takes_open =
    let s = closed None 1 5 [] (two ++ None ∷ []) in
    let m = logon 4 5 in
    let t = (closed (Some 4) 4 6 [] (two ++ None ∷ [])).intake in
    step s m t (two ++ None ∷ []) [] (logon 4 3 ∷ [])
    (rules.takes m refl (rules.new_logon (new_logon s.intake 4 5 (omega arith) (omega arith)) refl))
    (no_more s m t (two ++ None ∷ [])) refl
    (says s m t (two ++ None ∷ []) (logon 4 3) [] (record { from = omega arith; to = inl (omega arith); content = inr (refl, tt) })
    (nothing s m t (two ++ None ∷ [])))

takes_open_fence : May (closed (Some 4) 4 6 [] (two ++ None ∷ [])) (Some (fence 4 6)) (closed (Some 4) 4 7 [] four) (answer 4 4 6 ∷ [])
takes_open_fence =
    answers (closed (Some 4) 4 6 [] (two ++ None ∷ [])).intake (two ++ None ∷ []) 4 6 4 refl refl (omega arith)
    (omega arith) refl

takes_open_order : May (closed (Some 4) 4 7 [] four) (Some (order 4 7 first)) (closed (Some 4) 4 8 (first ∷ []) four) []
takes_open_order =
    let s = closed (Some 4) 4 7 [] four in
    let m = order 4 7 first in
    let t = (closed (Some 4) 4 8 (first ∷ []) four).intake in
    accepts s.intake four 4 7 first refl refl [] [] (no_more s m t four) (nothing s m t four)

close_more : AreSteps up (close_asked ∷ close_answered ∷ logged_out ∷ logout_taken ∷ [])
unfolding digits
close_more = (
  closes up tt,
  (
    exchanges close_asked (fence 1 3) (standing 1 4 [] (two ++ None ∷ [])) (answer 1 3 3 ∷ []) (2, omega arith, refl)
        takes_closing_fence,
    (
      receives close_answered (answer 1 3 3) (2, omega arith, refl) refl,
      (
        exchanges logged_out (at 1 4 (Session Logout)) (closed None 1 5 [] (two ++ None ∷ [])) ([]) (3, omega arith, refl)
            takes_logout,
        tt,
      ),
    ),
  ),
)

close_later : AreSteps close_lost till_accepted
unfolding digits
close_later = (
  connects close_lost tt,
  (
    breaks too_low,
    (
      connects refused tt,
      (
        breaks too_low_again,
        (
          connects refused_again tt,
          (
            exchanges high_enough (logon 4 5) (closed (Some 4) 4 6 [] (two ++ None ∷ [])) (logon 4 3 ∷ []) (4, omega arith, refl)
                takes_open,
            (
              receives opened (logon 4 3) (3, omega arith, refl) refl,
              (
                exchanges settling_open (fence 4 6) (closed (Some 4) 4 7 [] four) (answer 4 4 6 ∷ []) (5, omega arith, refl)
                    takes_open_fence,
                (
                  receives fence_open (answer 4 4 6) (4, omega arith, refl) refl,
                  (
                    sends up_open 1 first refl refl tt,
                    (
                      exchanges sent_open (order 4 7 first) (closed (Some 4) 4 8 (first ∷ []) four) ([]) (6, omega arith, refl)
                          takes_open_order,
                      tt,
                    ),
                  ),
                ),
              ),
            ),
          ),
        ),
      ),
    ),
  ),
)

zero_not_one : (◌≡◌ {A = ℕ} 0 1) → ⊥
zero_not_one e = omega arith

close_unsafe : LineHolds accepted_open → ⊥
unfolding digits
close_unsafe holds = zero_not_one holds.close

pub close_is_lost : IsCloseLost
unfolding digits
close_is_lost = record {
  steps = steps_up legs;
  more = close_more;
  till = refl;
  start = refl;
  later = close_later;
  unsafe = close_unsafe;
}
