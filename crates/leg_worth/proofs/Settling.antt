-- What is kept once a pair is put into a map, and once a map has more room.
use Rattle.std.proofs.Common.{◌≡◌, ℕ, Bool, true, false, cond, ◌&&◌, List, Option, Some, None, Result, Ok, Err, refl, ap, ◌∙◌, if◌then◌else◌}
use Rattle.std.specs.Prelude.{IsOk, OnOk, bytes_eq, unwrap_or}
use Rattle.std.specs.HashMap as table
use Rattle.std.specs.HashMap.{HashMap}
use Rattle.leg.specs.LegId.{LegIdParts}
use Rattle.dialect.specs.Fill.{FillParts}
use Rattle.share_ledger.specs.Entries.{is_same_leg}
use Rattle.leg_worth.specs.declared.worth.Worth.{Worth}
use Rattle.leg_worth.specs.Worth.{no_worth}
use Rattle.leg_worth.specs.Kept.{leg_eq, trade_eq}

-- what holds of a call that succeeds
ok_here : {T E : Type 0} (r : Result T E) (P : Type 0) → IsOk r → OnOk r P → P
ok_here (Ok x) P ok h = h
ok_here (Err e) P ok h = absurd cc

picked : (b : Bool) (now : Worth) (o : Option Worth)
    → unwrap_or (cond b (Some now) o) no_worth ≡ (if b then now else unwrap_or o no_worth)
picked true now o = refl
picked false now o = refl

-- a leg's worth is put there
pub legs_put : {T E S : Type 0} (r : Result T E) (old new : HashMap (ℕ × ℕ) Worth S) (leg : LegIdParts) (key : ℕ × ℕ)
    (now : Worth) → key ≡ (leg.sweep, leg.place) → IsOk r → OnOk r (table.Updates leg_eq old new key (Some now))
    → (id : LegIdParts) → unwrap_or (table.get leg_eq new (id.sweep, id.place)) no_worth
    ≡ (if is_same_leg leg id then now else unwrap_or (table.get leg_eq old (id.sweep, id.place)) no_worth)
legs_put r old new leg key now is ok puts id =
    ap (λ (o : Option Worth). unwrap_or o no_worth)
    ((ok_here r (table.Updates leg_eq old new key (Some now)) ok puts).0 (id.sweep, id.place)
    ∙ ap (λ (k : ℕ × ℕ). cond (leg_eq k (id.sweep, id.place)) (Some now) (table.get leg_eq old (id.sweep, id.place))) is)
    ∙ picked (is_same_leg leg id) now (table.get leg_eq old (id.sweep, id.place))

-- a trade is
pub trades_put : {T E S : Type 0} (r : Result T E) (old new : HashMap ((ℕ × ℕ) × List ℕ) FillParts S) (leg : LegIdParts)
    (key : ℕ × ℕ) (own : List ℕ) (fill : FillParts) → key ≡ (leg.sweep, leg.place) → IsOk r
    → OnOk r (table.Updates trade_eq old new (key, own) (Some fill)) → (id : LegIdParts) (exec : List ℕ)
    → table.get trade_eq new ((id.sweep, id.place), exec)
    ≡ (if is_same_leg leg id && bytes_eq own exec then Some fill
    else table.get trade_eq old ((id.sweep, id.place), exec))
trades_put r old new leg key own fill is ok puts id exec =
    (ok_here r (table.Updates trade_eq old new (key, own) (Some fill)) ok puts).0 ((id.sweep, id.place), exec)
    ∙ ap (λ (k : ℕ × ℕ). cond (trade_eq (k, own) ((id.sweep, id.place), exec)) (Some fill)
    (table.get trade_eq old ((id.sweep, id.place), exec))) is

-- more room changes nothing
pub legs_same : {S : Type 0} (old new : HashMap (ℕ × ℕ) Worth S) → table.IsReordered leg_eq old new → (id : LegIdParts)
    → unwrap_or (table.get leg_eq new (id.sweep, id.place)) no_worth
    ≡ unwrap_or (table.get leg_eq old (id.sweep, id.place)) no_worth
legs_same old new same id = ap (λ (o : Option Worth). unwrap_or o no_worth) (same.2 (id.sweep, id.place))

pub trades_same : {S : Type 0} (old new : HashMap ((ℕ × ℕ) × List ℕ) FillParts S) → table.IsReordered trade_eq old new
    → (id : LegIdParts) (exec : List ℕ) → table.get trade_eq new ((id.sweep, id.place), exec)
    ≡ table.get trade_eq old ((id.sweep, id.place), exec)
trades_same old new same id exec = same.2 ((id.sweep, id.place), exec)
