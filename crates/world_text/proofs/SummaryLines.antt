-- The sums of a venue, and of the venues and the sweeps, one further.
use Rattle.std.proofs.Common.{◌≡◌, ◌+◌, ℕ, zero, suc, ◌<◌, List, [], ◌∷◌, ◌++◌, length, drop, Option, Some, None, refl, sym, ap, ◌∙◌, arith}
use Rattle.std.specs.Prelude.{slice_get, codes, decimal}
use Rattle.std.specs.Option.{option_map_or}
use Rattle.std.proofs.lemmas.List.{append_assoc}
use Rattle.leg.specs.LegId.{LegIdParts}
use Rattle.leg.specs.declared.leg.Leg.{Leg}
use Rattle.leg.specs.declared.sweep.Routed.{Routed}
use Rattle.session_core.specs.declared.phase.Phase.{Phase}
use Rattle.exchange_core.specs.Exchange.{accepted_by}
use Rattle.share_ledger.specs.Entries.{sweep_shares}
use Rattle.schedule.specs.World.{World, VenueParts, venue_in, of_venue, accepted, closed_at, withdrawn_ids, doubtful_ids, totals}
use Rattle.schedule.specs.Printed.{phase_text, closed_text}
use Rattle.world_text.specs.declared.sums.Sums.{Sums}
use Rattle.world_text.specs.Summary.{venue_sums, venues_sums, with_sweep, sums_after}
use Rattle.world_text.proofs.VenueLines.{there_in}

-- the line that these numbers and words make
abbrev pub words : ℕ → ℕ → ℕ → ℕ → List ℕ → List ℕ → List ℕ
words v accepted withdrawn doubtful phase closed =
    codes "venue " ++ decimal v
    ++ codes " accepted " ++ decimal accepted
    ++ codes " withdrawn " ++ decimal withdrawn
    ++ codes " doubt " ++ decimal doubtful
    ++ codes " phase " ++ phase
    ++ codes " closed " ++ closed
    ++ 10 ∷ []

abbrev pub line_of : ℕ → List Leg → List LegIdParts → List LegIdParts → Phase → Option ℕ → List ℕ
line_of v orders withdrawn doubtful phase closed =
    words v (length orders) (length withdrawn) (length doubtful) (phase_text phase) (closed_text closed)

-- the line, from what its numbers and words are
pub line_of_words : (v : ℕ) (orders : List Leg) (withdrawn doubtful : List LegIdParts) (phase : Phase) (closed : Option ℕ)
    (gone unsure : ℕ) (phase_word closed_word : List ℕ) → gone ≡ length withdrawn
    → unsure ≡ length doubtful
    → phase_word ≡ phase_text phase
    → closed_word ≡ closed_text closed
    → words v (length orders) gone unsure phase_word closed_word ≡ line_of v orders withdrawn doubtful phase closed
line_of_words v orders withdrawn doubtful phase closed gone unsure phase_word closed_word few some in_word ended =
    λ k. words v (length orders) (few k) (some k) (in_word k) (ended k)

pub line_is : (w : World) (v : ℕ) (phase : Phase) (orders : List Leg) (withdrawn doubtful : List LegIdParts)
    (closed : Option ℕ) → Some phase ≡ of_venue w v None (λ at. Some at.session.phase)
    → orders ≡ accepted w v
    → withdrawn ≡ withdrawn_ids w v
    → doubtful ≡ doubtful_ids w v
    → closed ≡ closed_at w v
    → line_of v orders withdrawn doubtful phase closed ≡ of_venue w v [] (venue_sums w v)
line_is w v phase orders withdrawn doubtful closed phased ordered gone unsure ended =
    let found = there_in (venue_in w v) phase phased in
    let venue = found.0 in
    let there : venue_in w v ≡ Some venue = found.1 in
    let accepts : orders ≡ accepted_by venue.exchange =
    ordered ∙ ap (λ (o : Option VenueParts). option_map_or (λ at. accepted_by at.exchange) o []) there in
    let ends : closed ≡ venue.exchange.closed_at =
    ended ∙ ap (λ (o : Option VenueParts). option_map_or (λ at. at.exchange.closed_at) o None) there in
    (λ k. line_of v (accepts k) (gone k) (unsure k) (found.2 k) (ends k))
    ∙ sym (ap (λ (o : Option VenueParts). option_map_or (venue_sums w v) o []) there)

-- the lines of the venues, of which one more is written
line_next : (w : World) (number at : ℕ) (venues : List VenueParts) → at < length venues
    → venues_sums w number (drop at venues)
    ≡ option_map_or (venue_sums w number) (slice_get venues at) [] ++ venues_sums w (suc number) (drop (suc at) venues)
line_next w number at [] there = absurd (omega arith)
line_next w number zero (venue ∷ venues) there = refl
line_next w number (suc at) (venue ∷ venues) there = line_next w number at venues (omega arith)

pub next_line : (w : World) (number : ℕ) (text now start : List ℕ) → number < length w.venues
    → now ≡ text ++ of_venue w number [] (venue_sums w number)
    → text ++ venues_sums w number (drop number w.venues) ≡ start
    → now ++ venues_sums w (number + 1) (drop (number + 1) w.venues) ≡ start
next_line w number text now start there written before =
    let one : number + 1 ≡ suc number = omega arith in
    ap (λ (t : List ℕ). t ++ venues_sums w (number + 1) (drop (number + 1) w.venues)) written
    ∙ (ap (λ (n : ℕ). (text ++ of_venue w number [] (venue_sums w number)) ++ venues_sums w n (drop n w.venues)) one
    ∙ (append_assoc text (of_venue w number [] (venue_sums w number)) (venues_sums w (suc number) (drop (suc number) w.venues))
    ∙ (ap (λ (t : List ℕ). text ++ t) (sym (line_next w number number w.venues there)) ∙ before)))

-- the sums, once those of one more sweep were added
pub one_sweep : (w : World) (number after : ℕ) (sweeps next : List (List Routed)) (legs : List Routed)
    (sums now start : Sums) → after ≡ number + 1
    → sweeps ≡ legs ∷ next
    → now ≡ with_sweep sums (sweep_shares legs) (totals w after)
    → sums_after w (suc number) sums sweeps ≡ start
    → sums_after w (suc after) now next ≡ start
one_sweep w number after sweeps next legs sums now start same is added before =
    let one : after ≡ suc number = omega (arith, same) in
    ap (λ (s : Sums). sums_after w (suc after) s next) added
    ∙ (ap (λ (n : ℕ). sums_after w n sums (legs ∷ next)) one
    ∙ (ap (sums_after w (suc number) sums) (sym is) ∙ before))
