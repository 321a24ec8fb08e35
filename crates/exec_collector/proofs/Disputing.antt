-- The shares that are disputed of a leg, as more are.
use Rattle.std.proofs.Common.{◌≡◌, ℕ, ◌+◌, Bool, true, false, cond, Option, Some, Result, Ok, Err, min, inl, inr, refl, ap, sym, ◌∙◌, arith, if◌then◌else◌}
use Rattle.std.specs.Prelude.{◌==◌, IsOk, OnOk, unwrap_or}
use Rattle.std.specs.HashMap as table
use Rattle.std.specs.HashMap.{HashMap}
use Rattle.std.proofs.lemmas.Bool.{cases_Bool, eqb-true}
use Rattle.leg.specs.LegId.{LegIdParts}
use Rattle.leg_worth.specs.Kept.{leg_eq}
use Rattle.dialect.specs.declared.note.Note.{Note}
use Rattle.dialect.specs.declared.note.Note.TheVariants as told
use Rattle.dialect.specs.declared.report.Report.{Report}
use Rattle.share_ledger.specs.declared.applied.Applied.{Applied}
use Rattle.share_ledger.specs.Entries.{is_same_leg}
use Rattle.share_ledger.proofs.OneMore.{is_same_leg-true}
use Rattle.exec_collector.specs.Day.{added, disputed_by, is_disputed, shares_of_kind, shares_told}

-- to a sum that was kept up to the greatest number
pub added_up : (all more : ℕ) → added (min all 18446744073709551615) more ≡ min (all + more) 18446744073709551615
added_up all more = elim (cases_Bool (more == 0)) [
  | inl none ↦ (let zero = eqb-true more 0 none in rw none (omega (arith, zero)))
  | inr some ↦ rw some (omega arith)
]

-- none are added
pub none_added : (kept more : ℕ) → more ≡ 0 → kept ≡ added kept more
none_added kept more zero = sym (ap (added kept) zero)

-- what isn't disputed adds none
pub not_disputed : (id : LegIdParts) (note : Note) (answer : Applied) → is_disputed answer ≡ false
    → disputed_by id note answer ≡ 0
not_disputed id note answer not_so = ap (λ b. if b then shares_told id note else 0) not_so

ok_here : {T E : Type 0} (r : Result T E) (P : Type 0) → IsOk r → OnOk r P → P
ok_here (Ok x) P ok h = h
ok_here (Err e) P ok h = absurd cc

picked : (b : Bool) (now : ℕ) (o : Option ℕ)
    → unwrap_or (cond b (Some now) o) 0 ≡ (if b then now else unwrap_or o 0)
picked true now o = refl
picked false now o = refl

no_zero : (n : ℕ) → (n ≡ 0 → ⊥) → (n == 0) ≡ false
no_zero n some = elim (cases_Bool (n == 0)) [
  | inl zero ↦ absurd (some (eqb-true n 0 zero))
  | inr not_zero ↦ not_zero
]

chosen : (b : Bool) (kept_id kept_leg more now : ℕ) → now ≡ min (kept_leg + more) 18446744073709551615
    → (more ≡ 0 → ⊥) → (b ≡ true → kept_id ≡ kept_leg)
    → (if b then now else kept_id) ≡ added kept_id (if b then more else 0)
chosen true kept_id kept_leg more now is some same =
    is ∙ (ap (λ (n : ℕ). min (n + more) 18446744073709551615) (sym (same refl))
    ∙ sym (ap (λ b. if b then kept_id else min (kept_id + more) 18446744073709551615) (no_zero more some)))
chosen false kept_id kept_leg more now is some same = refl

-- a leg's number is put there
pub disputed_put : {T E S : Type 0} (r : Result T E) (old new : HashMap (ℕ × ℕ) ℕ S) (leg : LegIdParts) (key : ℕ × ℕ)
    (more now : ℕ) → key ≡ (leg.sweep, leg.place) → IsOk r → OnOk r (table.Updates leg_eq old new key (Some now))
    → now ≡ min (unwrap_or (table.get leg_eq old (leg.sweep, leg.place)) 0 + more) 18446744073709551615
    → (more ≡ 0 → ⊥) → (id : LegIdParts) → unwrap_or (table.get leg_eq new (id.sweep, id.place)) 0
    ≡ added (unwrap_or (table.get leg_eq old (id.sweep, id.place)) 0) (if is_same_leg leg id then more else 0)
disputed_put r old new leg key more now is ok puts sum some id =
    ap (λ (o : Option ℕ). unwrap_or o 0)
    ((ok_here r (table.Updates leg_eq old new key (Some now)) ok puts).0 (id.sweep, id.place)
    ∙ ap (λ (k : ℕ × ℕ). cond (leg_eq k (id.sweep, id.place)) (Some now) (table.get leg_eq old (id.sweep, id.place))) is)
    ∙ (picked (is_same_leg leg id) now (table.get leg_eq old (id.sweep, id.place))
    ∙ chosen (is_same_leg leg id) (unwrap_or (table.get leg_eq old (id.sweep, id.place)) 0)
    (unwrap_or (table.get leg_eq old (leg.sweep, leg.place)) 0) more now sum some
    (λ same. ap (λ (k : LegIdParts). unwrap_or (table.get leg_eq old (k.sweep, k.place)) 0)
    (sym (is_same_leg-true leg id same))))

-- a trade that is disputed adds its shares to its leg
pub told_by : (id : LegIdParts) (note : Note) (answer : Applied) (report : Report) → is_disputed answer ≡ true
    → note ≡ told.Report report
    → disputed_by id note answer ≡ (if is_same_leg report.id id then shares_of_kind report.kind else 0)
told_by id note answer report so is =
    ap (λ b. if b then shares_told id note else 0) so ∙ ap (shares_told id) is

either_none : (b : Bool) (n : ℕ) → n ≡ 0 → (if b then n else 0) ≡ 0
either_none true n zero = zero
either_none false n zero = refl

-- a note that tells no shares adds none
pub untold : (id : LegIdParts) (note : Note) (answer : Applied) → shares_told id note ≡ 0 → disputed_by id note answer ≡ 0
untold id note answer zero = either_none (is_disputed answer) (shares_told id note) zero

-- nor does one of no shares
pub none_of : (b : Bool) (more : ℕ) → more ≡ 0 → (if b then more else 0) ≡ 0
none_of b more zero = either_none b more zero
