-- The line of a venue as it is if the dispatcher stands as it stood once, and the exchange as it does now. It stays as
-- the invariant says where the exchange goes on, and takes nothing but what had been written by then.
use Rattle.std.proofs.Common.{◌≡◌, ◌≤◌, ◌+◌, ◌-◌, ℕ, zero, suc, List, ◌++◌, length, map, take, Option, Some, None, refl, sym, ap, subst, ◌∙◌, arith}
use Rattle.std.specs.Prelude.{IfSome}
use Rattle.std.specs.List.{Contains}
use Rattle.leg.specs.Numbered.{numbered}
use Rattle.leg.specs.declared.leg.Leg.{Leg}
use Rattle.session_core.specs.Calling.{broken}
use Rattle.exchange_core.specs.Acceptance.{Carried, May}
use Rattle.exchange_core.specs.Keeping.{rule_state}
use Rattle.exchange_core.specs.Exchange.{ExchangeParts}
use Rattle.leg.specs.Growing.{Grew}
use Rattle.venue_line.specs.Line.{Line}
use Rattle.venue_line.specs.Line as line
use Rattle.venue_line.proofs.GivenSteps.{Whole, whole_step}
use Rattle.venue_line.proofs.Kept.{numbered_contains}
use Rattle.venue_line.proofs.LineGives.{contains_map}
use Rattle.schedule.specs.World.{VenueParts, Frame}
use Rattle.schedule.specs.LineOf.{frame_carried}
use Rattle.world_restart.specs.Journal.{Standing}
use Rattle.world_restart.proofs.Places.{TakesMore, takes_more, numbered-front}
use Rattle.world_restart.proofs.Places as places

abbrev pub aside : Standing → List Leg → ExchangeParts → List Frame → Line
aside s legs exchange from = record {
  released = legs;
  left = s.left;
  session = s.session;
  exchange = rule_state exchange;
  to_exchange = map frame_carried s.to_exchange;
  from_exchange = map frame_carried from;
  waiting = None;
  given = s.given;
}

-- whichever of the released legs behind those that had left are kept
abbrev pub IsAside : Standing → List Leg → ExchangeParts → List Frame → Type 0
IsAside s legs exchange from = (n : ℕ) → s.left ≤ n → Whole (aside s (take n legs) exchange from)

-- more legs are released
aside_more : (s : Standing) (legs more : List Leg) (exchange : ExchangeParts) (from : List Frame) (n : ℕ)
    → TakesMore n legs more → Whole (aside s (take n legs) exchange from)
    → Whole (aside s (take n (legs ++ more)) exchange from)
aside_more s legs more exchange from n (places.same is) whole =
    subst (λ l. Whole (aside s l exchange from)) (sym is) whole
aside_more s legs more exchange from n (places.some k is) whole =
    whole_step (aside s (take n legs) exchange from) (aside s (take n (legs ++ more)) exchange from)
    (line.releases (take k more) (ap (λ l. aside s l exchange from) is)) whole

pub aside_releases : (s : Standing) (legs more : List Leg) (exchange : ExchangeParts) (from : List Frame)
    → IsAside s legs exchange from → IsAside s (legs ++ more) exchange from
aside_releases s legs more exchange from is n low =
    aside_more s legs more exchange from n (takes_more n legs more) (is n low)

-- how the exchange goes on: it stays, goes on by itself, or takes a frame that was written
pub data ExchangeGoes (old now : VenueParts) (reached : ℕ) : Type 0 where
  still : now.exchange ≡ old.exchange → now.from_exchange ≡ old.from_exchange → ExchangeGoes old now reached
  alone : (written : List Carried) → May (rule_state old.exchange) None (rule_state now.exchange) written
      → map frame_carried now.from_exchange ≡ map frame_carried old.from_exchange ++ written
      → ExchangeGoes old now reached
  takes : (number : ℕ) (frame : Frame) (written : List Carried) → numbered number old.to_exchange ≡ Some frame
      → number ≤ reached
      → May (rule_state old.exchange) (Some (frame_carried frame)) (rule_state now.exchange) written
      → map frame_carried now.from_exchange ≡ map frame_carried old.from_exchange ++ written
      → ExchangeGoes old now reached

aside_step : (s : Standing) (legs : List Leg) (x y : ExchangeParts) (from more : List Frame) (coming : Option Carried)
    (written : List Carried) → IfSome coming (Contains (map frame_carried s.to_exchange))
    → May (rule_state x) coming (rule_state y) written
    → map frame_carried more ≡ map frame_carried from ++ written → Whole (aside s legs x from)
    → Whole (aside s legs y more)
aside_step s legs x y from more coming written there may is whole =
    whole_step (aside s legs x from) (aside s legs y more)
    (line.exchanges coming (rule_state y) written there may
    (ap (λ l. (let a : Line = record (aside s legs x from) { exchange = rule_state y; from_exchange = l } in a)) is))
    whole

-- a frame that was written by then
was_written : (s : Standing) (frames : List Frame) (number reached : ℕ) (frame : Frame)
    → Grew s.to_exchange frames → number ≤ reached → reached ≤ length s.to_exchange
    → numbered number frames ≡ Some frame → Contains (map frame_carried s.to_exchange) (frame_carried frame)
was_written s frames number reached frame grew low within is =
    let at : numbered number s.to_exchange ≡ Some frame =
    sym (numbered-front number s.to_exchange grew.0 (omega arith)) ∙ (ap (numbered number) (sym grew.1) ∙ is) in
    contains_map frame_carried s.to_exchange frame (numbered_contains number s.to_exchange frame at)

pub aside_goes : (s : Standing) (legs : List Leg) (old now : VenueParts) (reached : ℕ)
    → Grew s.to_exchange old.to_exchange → reached ≤ length s.to_exchange → ExchangeGoes old now reached
    → IsAside s legs old.exchange old.from_exchange
    → IsAside s legs now.exchange now.from_exchange
aside_goes s legs old now reached grew within (still exchange from) is n low =
    subst (λ x. Whole (aside s (take n legs) x now.from_exchange)) (sym exchange)
    (subst (λ f. Whole (aside s (take n legs) old.exchange f)) (sym from) (is n low))
aside_goes s legs old now reached grew within (alone written may from) is n low =
    aside_step s (take n legs) old.exchange now.exchange old.from_exchange now.from_exchange None written tt may from
    (is n low)
aside_goes s legs old now reached grew within (takes number frame written there below may from) is n low =
    aside_step s (take n legs) old.exchange now.exchange old.from_exchange now.from_exchange
    (Some (frame_carried frame)) written
    (was_written s old.to_exchange number reached frame grew below within there) may from (is n low)

-- legs that weren't sent are dropped
drop_more : (k : ℕ) (a : Line) → a.left + k ≤ length a.released → Whole a
    → Whole (record a { left = a.left + k })
drop_more zero a low whole =
    let same : a.left ≡ a.left + 0 = omega arith in subst (λ left. Whole (record a { left = left })) same whole
drop_more (suc k) a low whole =
    let same : suc (a.left + k) ≡ a.left + suc k = omega arith in
    let before : Line = record a { left = a.left + k } in
    subst (λ left. Whole (record a { left = left })) same
    (whole_step before (record a { left = suc (a.left + k) }) (line.drops (omega arith) refl)
    (drop_more k a (omega arith) whole))

drop_to : (left : ℕ) (a : Line) → a.left ≤ left → left ≤ length a.released → Whole a
    → Whole (record a { left = left })
drop_to left a low within whole =
    let same : a.left + (left - a.left) ≡ left = omega arith in
    subst (λ l. Whole (record a { left = l })) same (drop_more (left - a.left) a (omega arith) whole)

-- the line of a dispatcher that starts again: its connection is gone, and every leg has left the desk
abbrev pub started_line : Standing → List Leg → ExchangeParts → List Frame → Line
started_line s legs exchange from =
    record (aside s legs exchange from) { session = broken s.session; left = length legs }

pub whole_started : (s : Standing) (legs : List Leg) (exchange : ExchangeParts) (from : List Frame)
    → s.left ≤ length legs → Whole (aside s legs exchange from) → Whole (started_line s legs exchange from)
whole_started s legs exchange from low whole =
    let a = aside s legs exchange from in
    let b : Line = record a { session = broken s.session } in
    drop_to (length legs) b low (omega arith) (whole_step a b (line.breaks refl) whole)
