-- Whatever keeps the rules goes forward.
use Rattle.std.proofs.Common.{◌≡◌, ◌∙◌, max, Some, None, length, ◌≤◌, ◌++◌, ◌∷◌, ◌==◌, ℕ, suc, List, [], Option, refl, sym, subst, arith}
use Rattle.std.proofs.lemmas.List.{append-nil}
use Rattle.std.proofs.lemmas.Option.{same_Some}
use Rattle.leg.specs.declared.leg.Leg.{Leg}
use Rattle.exchange_core.specs.Acceptance.{Carried, Intake, Takes, new_logon, order, fill, logout, other, MayMove, stays, drops, takes, takes_and_drops, passed_at, IsForward, LiveIsLast}
use Rattle.exchange_core.proofs.Entries.{chosen}

-- the same legs
pub forward_by : (s t u : Intake) → t ≡ u → IsForward s u → IsForward s t
forward_by s t u is forward = subst (IsForward s) (sym is) forward

passed_at-le : (number expected : ℕ) → expected ≤ passed_at number expected
passed_at-le number expected = chosen (λ e. expected ≤ e) (number == expected) (suc expected) expected (λ due. omega arith) (λ ahead. omega arith)

same : (legs : List Leg) → (more : List Leg) × (legs ≡ legs ++ more)
same legs = ([], sym (append-nil legs))

pub takes_forward : (s : Intake) (m : Carried) (t : Intake) → Takes s m t → IsForward s t
takes_forward s m t (new_logon is after) = forward_by s t _ after (record { expected = passed_at-le m.number s.expected; last = let newer = is.newer in omega arith; accepted = same s.accepted })
takes_forward s m t (order due leg says after) = forward_by s t _ after (record { expected = omega arith; last = omega arith; accepted = (leg ∷ [], refl) })
takes_forward s m t (fill due new_number says after) = forward_by s t _ after (record { expected = omega arith; last = omega arith; accepted = same s.accepted })
takes_forward s m t (logout due says after) = forward_by s t _ after (record { expected = omega arith; last = omega arith; accepted = same s.accepted })
takes_forward s m t (other due is after) = forward_by s t _ after (record { expected = omega arith; last = omega arith; accepted = same s.accepted })

pub moves_forward : (s : Intake) (coming : Option Carried) (t : Intake) → MayMove s coming t → IsForward s t
moves_forward s coming t (stays after) = forward_by s t s after (record { expected = omega arith; last = omega arith; accepted = same s.accepted })
moves_forward s coming t (drops after) = forward_by s t _ after (record { expected = omega arith; last = omega arith; accepted = same s.accepted })
moves_forward s coming t (takes m came is) = takes_forward s m t is
moves_forward s coming t (takes_and_drops m came u is after) =
    let forward = takes_forward s m u is in
    forward_by s t _ after (record { expected = forward.expected; last = forward.last; accepted = forward.accepted })

-- the live connection stays the last one
live_by : (t u : Intake) → t ≡ u → LiveIsLast u → LiveIsLast t
live_by t u is last = subst LiveIsLast (sym is) last

same_last : (s t : Intake) → t.live ≡ s.live → t.last ≡ s.last → LiveIsLast s → LiveIsLast t
same_last s t live last is = λ connection here. (let old = is connection (sym live ∙ here) in record { from = old.from; same = old.same ∙ sym last })

new_last : (t : Intake) (connection : ℕ) → 1 ≤ connection → t.live ≡ Some connection → t.last ≡ connection → LiveIsLast t
new_last t connection low live last = λ c here. (let same : c ≡ connection = same_Some c connection (sym here ∙ live) in record { from = omega arith; same = same ∙ sym last })

not_live : (t : Intake) → t.live ≡ None → LiveIsLast t
not_live t none = λ connection here. absurd cc

takes_live : (s : Intake) (m : Carried) (t : Intake) → Takes s m t → LiveIsLast s → LiveIsLast t
takes_live s m t (new_logon is after) last =
    let u : Intake = record s { expected = passed_at m.number s.expected; live = Some m.connection; last = m.connection } in
    live_by t u after (new_last u m.connection (let newer = is.newer in omega arith) refl refl)
takes_live s m t (order due leg says after) last =
    let u : Intake = record s { expected = suc s.expected; accepted = s.accepted ++ leg ∷ [] } in
    live_by t u after (same_last s u refl refl last)
takes_live s m t (fill due new_number says after) last =
    let u : Intake = record s { expected = max s.expected new_number } in
    live_by t u after (same_last s u refl refl last)
takes_live s m t (logout due says after) last =
    let u : Intake = record s { expected = suc s.expected; live = None; closed_at = Some (length s.accepted) } in
    live_by t u after (not_live u refl)
takes_live s m t (other due is after) last =
    let u : Intake = record s { expected = suc s.expected } in
    live_by t u after (same_last s u refl refl last)

pub moves_live : (s : Intake) (coming : Option Carried) (t : Intake) → MayMove s coming t → LiveIsLast s → LiveIsLast t
moves_live s coming t (stays after) last = live_by t s after last
moves_live s coming t (drops after) last = let u : Intake = record s { live = None } in live_by t u after (not_live u refl)
moves_live s coming t (takes m came is) last = takes_live s m t is last
moves_live s coming t (takes_and_drops m came u is after) last = let v : Intake = record u { live = None } in live_by t v after (not_live v refl)
