-- The kept runs where legs in doubt are settled.
use Rattle.std.proofs.Common.{◌≡◌, ◌<◌, ◌≤◌, ◌+◌, ℕ, zero, suc, Bool, true, false, nat_lt, nat_le, List, [], ◌∷◌, ◌++◌, Ok, Err, length, get_or, take, drop, refl, sym, ap, ◌∙◌, if◌then◌else◌, arith}
use Rattle.std.specs.Prelude.{map, All, Result, OnOk, is_err}
use Rattle.std.proofs.lemmas.List.{length-append, length-take, length-drop}
use Rattle.leg.specs.declared.leg_state.LegState.{LegState}
use Rattle.leg.specs.declared.leg_state.LegState.TheVariants.{Taken, Withdrawn}
use Rattle.resend.specs.declared.run.Run.{Run}
use Rattle.resend.specs.declared.sent.Sent.{Sent}
use Rattle.resend.specs.Log.{SentLeg, is_doubt}
use Rattle.resend.specs.Window.{doubts}
use Rattle.resend.specs.Kept.{IsRising, IsKept, leading}
use Rattle.resend.specs.KeptRuns.{added, added_all, AreRuns, HaveRuns}
use Rattle.resend.proofs.Filled.{settled_legs}
use Rattle.resend.proofs.SettledRuns.{as_settled, moved_below, moved_from, runs_settled}

-- room that was reserved, and what it is after a leg in doubt more
pub on_ok : {A E : Type 0} (result : Result A E) (P : Type 0) → OnOk result P → is_err result ≡ false → P
on_ok (Ok x) P room is = room
on_ok (Err e) P room is = absurd cc

pub room_pushed : (window : List Sent) (sent : Sent) (len more capacity : ℕ) → len + more ≤ capacity → more ≡ length window + 1 → len + length (window ++ sent ∷ []) ≤ capacity
room_pushed window sent len more capacity le is = omega (arith, length-append window (sent ∷ []))

-- no number of a leg in doubt is above the last
end_turn : (b : Bool) (bound : ℕ) (sent : Sent) (sents : List Sent) → sent.number < bound → All (λ (s : Sent). s.number < bound) sents
    → (k : ℕ) (d : Sent) → k < length (if b then sent ∷ sents else sents) → (get_or (if b then sent ∷ sents else sents) k d).number < bound
end_turn true bound sent sents first rest zero d lt = first
end_turn true bound sent sents first rest (suc k) d lt = rest k d (omega arith)
end_turn false bound sent sents first rest k d lt = rest k d lt

doubts_end : (number ordinal last bound : ℕ) (legs : List (ℕ × SentLeg)) → last < bound → IsRising number ordinal last legs → All (λ (s : Sent). s.number < bound) (doubts legs)
doubts_end number ordinal last bound [] lt r k d less = absurd (omega arith)
doubts_end number ordinal last bound ((at, leg) ∷ legs) lt r k d less =
    end_turn (is_doubt leg.state) bound (record { number = at; ordinal = leg.ordinal; id = leg.id }) (doubts legs) (omega (arith, r.2))
    (doubts_end at leg.ordinal last bound legs lt r.3) k d less

pub window_ends : (last ordinal : ℕ) (legs : List (ℕ × SentLeg)) (sents : List Sent) → IsKept last ordinal legs sents → All (λ (s : Sent). s.number < 18446744073709551615) sents
window_ends last ordinal legs sents kept = rw kept.in_doubt (doubts_end 0 0 last 18446744073709551615 legs kept.fits kept.rising)

module _ (last ordinal : ℕ) (legs : List (ℕ × SentLeg)) (sents : List Sent) (runs new : List Run) (len len_now capacity capacity_now : ℕ)
    (kept : IsKept last ordinal legs sents) (have : HaveRuns legs sents runs len capacity) (are : AreRuns new) where
  window_is : doubts legs ≡ sents
  window_is = sym kept.in_doubt

  module _ (number count : ℕ) (count_is : count ≡ leading (λ (s : Sent). nat_lt s.number number) sents) where
    -- the legs in doubt below the number are taken
    pub have_taken : new ≡ added_all (map (as_settled Taken) (take count sents)) runs → len_now ≤ len + length (take count sents) → capacity_now ≡ capacity
        → HaveRuns (settled_legs (λ n. nat_lt n number) Taken legs) (drop count sents) new len_now capacity_now
    have_taken added few same =
        let part = ap (λ (w : List Sent). map (as_settled Taken) (take (leading (λ (s : Sent). nat_lt s.number number) w) w)) window_is in
        let moves = moved_below number 0 0 last Taken legs kept.rising ∙ part ∙ ap (λ (n : ℕ). map (as_settled Taken) (take n sents)) (sym count_is) in
        let after = runs_settled (λ n. nat_lt n number) Taken last legs _ runs refl kept.rising (sym moves) have.settled in
        record {
          settled = added ∙ after;
          kept = are;
          room = omega (arith, have.room, few, same, length-take count sents, length-drop count sents);
        }

    -- those from the number on are withdrawn
    pub have_given : new ≡ added_all (map (as_settled Withdrawn) (drop count sents)) runs → len_now ≤ len + length (drop count sents) → capacity_now ≡ capacity
        → HaveRuns (settled_legs (λ n. nat_le number n) Withdrawn legs) (take count sents) new len_now capacity_now
    have_given added few same =
        let part = ap (λ (w : List Sent). map (as_settled Withdrawn) (drop (leading (λ (s : Sent). nat_lt s.number number) w) w)) window_is in
        let moves = moved_from number 0 0 last Withdrawn legs kept.rising ∙ part ∙ ap (λ (n : ℕ). map (as_settled Withdrawn) (drop n sents)) (sym count_is) in
        let after = runs_settled (λ n. nat_le number n) Withdrawn last legs _ runs refl kept.rising (sym moves) have.settled in
        record {
          settled = added ∙ after;
          kept = are;
          room = omega (arith, have.room, few, same, length-take count sents, length-drop count sents);
        }

next_added : (state : LegState) (place : ℕ) (sents : List Sent) (sent : Sent) (runs : List Run) → place < length sents → sent ≡ get_or sents place sent
    → added (as_settled state sent) (added_all (map (as_settled state) (take place sents)) runs) ≡ added_all (map (as_settled state) (take (suc place) sents)) runs
next_added state place [] sent runs lt is = absurd (omega arith)
next_added state zero (first ∷ sents) sent runs lt is = ap (λ (s : Sent). added (as_settled state s) runs) is
next_added state (suc place) (first ∷ sents) sent runs lt is = next_added state place sents sent (added (as_settled state first) runs) (omega arith) is

-- one leg more of those that are added
pub added_next : (state : LegState) (place next : ℕ) (sents : List Sent) (sent : Sent) (runs held : List Run) → next ≡ suc place → place < length sents → sent ≡ get_or sents place sent
    → held ≡ added_all (map (as_settled state) (take place sents)) runs → added (as_settled state sent) held ≡ added_all (map (as_settled state) (take next sents)) runs
added_next state place next sents sent runs held by lt is e = rw (by, e) (next_added state place sents sent runs lt is)
