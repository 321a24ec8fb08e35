-- The withdrawn legs of a world, by their numbers: no note given is on one of them, and after an event they are those
-- that
-- were withdrawn before, with those that it names.
use Rattle.std.proofs.Common.{◌≡◌, ◌≤◌, ◌<◌, ◌⊎◌, ℕ, zero, suc, Bool, true, false, List, [], ◌∷◌, length, map, take, Option, Some, None, refl, sym, ap, subst, ◌∙◌, inl, inr, arith}
use Rattle.std.specs.List.{Contains}
use Rattle.std.specs.Option.{option_map_or}
use Rattle.std.proofs.lemmas.List.Elements.{Contains-append_left, Contains-append_right, Contains-push}
use Rattle.std.proofs.lemmas.Option.{same_Some, slice_get_within}
use Rattle.leg.specs.LegId.{LegIdParts}
use Rattle.leg.specs.Numbered.{numbered}
use Rattle.leg.specs.declared.leg.Leg.{Leg}
use Rattle.dialect.specs.declared.report.Report.{Report}
use Rattle.dialect.specs.declared.note.Note.{Note}
use Rattle.dialect.specs.declared.note.Note.TheVariants as note
use Rattle.exchange_core.specs.Exchange.{accepted_by}
use Rattle.share_ledger.specs.Entries.{is_same_leg, is_about}
use Rattle.share_ledger.proofs.OneMore.{is_same_leg-true}
use Rattle.sweep_release.specs.Released.{released}
use Rattle.sweep_release.specs.Desk.{venue_at}
use Rattle.schedule.specs.World.{World, VenueParts, venue_in, given, made, reports_in}
use Rattle.schedule.specs.Growing.{IsWorldLater}
use Rattle.schedule.specs.LineOf.{line_at}
use Rattle.venue_line.specs.Line.{Line, LineStep}
use Rattle.venue_line.specs.LineTheorem.{IsWithdrawnLeg}
use Rattle.venue_line.proofs.Kept.{numbered_there}
use Rattle.venue_line.proofs.ForGood.{gone_stays}
use Rattle.venue_line.proofs.LineGives.{line_holds}
use Rattle.schedule.proofs.ReportedLegs.{IsNumberOf, made_on}
use Rattle.schedule.proofs.Lines.{Advances}
use Rattle.schedule.proofs.RunsSafely.{IsSafe}
use Rattle.schedule.proofs.OrderHolds.{holds_by}
use Rattle.schedule.proofs.LegNumbers.{one_venue, one_ordinal}
use Rattle.venue_line.proofs.PastLines.{IsPast, past-refl, step_past}
use Rattle.schedule.proofs.NamedLegs.{IsNowWithdrawn}
use Rattle.schedule.proofs.LegsGone.{gone_since}

-- the leg of this number was withdrawn
pub record IsGone (w : World) (id : LegIdParts) : Type 0 where
  pub v : ℕ
  pub venue : VenueParts
  pub there : venue_in w v ≡ Some venue
  pub ordinal : ℕ
  pub leg : Leg
  pub whole : numbered ordinal (released v w.desk.sweeps) ≡ Some leg
  pub same : leg.id ≡ id
  pub gone : IsWithdrawnLeg (line_at w.desk v venue) ordinal

-- the report that a note is
given_report : (count : ℕ) (reports : List Report) (n : Note)
    → Contains (map (λ report. note.Report report) (take count reports)) n
    → (report : Report) × Contains reports report × (n ≡ note.Report report)
given_report zero [] n there = absurd (let h = there.1 in omega arith)
given_report zero (x ∷ reports) n there = absurd (let h = there.1 in omega arith)
given_report (suc k) [] n there = absurd (let h = there.1 in omega arith)
given_report (suc k) (x ∷ reports) n (zero, low, is) =
    (x, Contains-append_left (x ∷ []) reports x (Contains-push [] x), sym is)
given_report (suc k) (x ∷ reports) n (suc j, low, is) =
    let rest = given_report k reports n (j, omega arith, is) in
    (rest.0, Contains-append_right (x ∷ []) reports rest.0 rest.1, rest.2)

-- the ordinal of an accepted leg
pub ordinal_of : (legs : List Leg) (ordinals : List ℕ) (f : ℕ → Option Leg) (leg : Leg)
    → map (λ x. Some x) legs ≡ map f ordinals → Contains legs leg
    → (ordinal : ℕ) × Contains ordinals ordinal × (f ordinal ≡ Some leg)
ordinal_of [] ordinals f leg same there = absurd (let h = there.1 in omega arith)
ordinal_of (x ∷ legs) [] f leg same there = absurd cc
ordinal_of (x ∷ legs) (o ∷ ordinals) f leg same (zero, low, is) =
    let first : Some x ≡ f o = cc in
    (o, Contains-append_left (o ∷ []) ordinals o (Contains-push [] o), sym first ∙ ap (λ l. Some l) is)
ordinal_of (x ∷ legs) (o ∷ ordinals) f leg same (suc k, low, is) =
    let more : map (λ y. Some y) legs ≡ map f ordinals = cc in
    let rest = ordinal_of legs ordinals f leg more (k, omega arith, is) in
    (rest.0, Contains-append_right (o ∷ []) ordinals rest.0 rest.1, rest.2)

-- a note that was given is a report on an accepted leg
pub record IsReportGiven (w : World) (v : ℕ) (n : Note) : Type 0 where
  pub venue : VenueParts
  pub there : venue_in w v ≡ Some venue
  pub report : Report
  pub is : n ≡ note.Report report
  pub on : IsNumberOf (accepted_by venue.exchange) report.id

given_by : (w : World) → IsSafe w → (v : ℕ) (found : Option VenueParts) → venue_in w v ≡ found → (n : Note)
    → Contains (given w v) n → IsReportGiven w v n
given_by w safe v None is n among =
    let none : given w v ≡ [] = ap (λ (o : Option VenueParts). option_map_or (λ (x : VenueParts). x.given) o []) is in
    absurd (let h = (subst (λ l. Contains l n) none among).1 in omega arith)
given_by w safe v (Some venue) is n among =
    let h = holds_by w v (Some venue) is safe in
    let r = given_report h.reports.count (made w v) n (subst (λ l. Contains l n) h.reports.given among) in
    let made_is : made w v ≡ reports_in venue.exchange.own =
    ap (λ (o : Option VenueParts). option_map_or (λ (x : VenueParts). reports_in x.exchange.own) o []) is in
    record {
      venue = venue;
      there = is;
      report = r.0;
      is = r.2;
      on = made_on (accepted_by venue.exchange) venue.exchange.own r.0 (safe.orderly v venue is).on
          (subst (λ l. Contains l r.0) made_is r.1);
    }

pub report_given : (w : World) → IsSafe w → (v : ℕ) (n : Note) → Contains (given w v) n → IsReportGiven w v n
report_given w safe v n among = given_by w safe v (venue_in w v) refl n among

module _ (w : World) (safe : IsSafe w) (id : LegIdParts) (g : IsGone w id) where
  -- a leg of this number isn't accepted
  not_accepted : (v : ℕ) (venue : VenueParts) → venue_in w v ≡ Some venue → IsNumberOf (accepted_by venue.exchange) id
      → ⊥
  not_accepted v venue there is =
      let whole = safe.lines v venue there in
      let holds = line_holds (line_at w.desk v venue) whole.0 whole.1 in
      let o = ordinal_of (accepted_by venue.exchange) holds.ordinals
      (λ ordinal. numbered ordinal (released v w.desk.sweeps)) is.leg holds.released is.there in
      let same : g.leg.id ≡ is.leg.id = g.same ∙ sym is.same in
      let one : g.v ≡ v = one_venue g.v v w.desk.sweeps g.ordinal o.0 g.leg is.leg g.whole o.2 same in
      let whole_here : numbered g.ordinal (released v w.desk.sweeps) ≡ Some g.leg =
      subst (λ u. numbered g.ordinal (released u w.desk.sweeps) ≡ Some g.leg) one g.whole in
      let at : g.ordinal ≡ o.0 = one_ordinal v w.desk.sweeps g.ordinal o.0 g.leg is.leg whole_here o.2 same in
      let venue_same : g.venue ≡ venue = same_Some g.venue venue (sym g.there ∙ (ap (venue_in w) one ∙ there)) in
      let gone_there : IsWithdrawnLeg (line_at w.desk v g.venue) g.ordinal =
      subst (λ u. IsWithdrawnLeg (line_at w.desk u g.venue) g.ordinal) one g.gone in
      let gone_here : IsWithdrawnLeg (line_at w.desk v venue) g.ordinal =
      subst (λ x. IsWithdrawnLeg (line_at w.desk v x) g.ordinal) venue_same gone_there in
      holds.withdrawn_is_missing g.ordinal gone_here (subst (Contains holds.ordinals) (sym at) o.1)

  about_by : (v : ℕ) (venue : VenueParts) → venue_in w v ≡ Some venue → (report : Report)
      → IsNumberOf (accepted_by venue.exchange) report.id
      → (b : Bool) → is_same_leg report.id id ≡ b → b ≡ false
  about_by v venue there report on false is = refl
  about_by v venue there report on true is =
      absurd (not_accepted v venue there
      (record { leg = on.leg; there = on.there; same = on.same ∙ is_same_leg-true report.id id is }))

  -- no note given is on a withdrawn leg
  pub no_note : (v : ℕ) (n : Note) → Contains (given w v) n → is_about id n ≡ false
  no_note v n among =
      let r = report_given w safe v n among in
      ap (is_about id) r.is ∙ about_by v r.venue r.there r.report r.on (is_same_leg r.report.id id) refl

-- a venue after an event, and what it was
pub record Passed (w after : World) (v : ℕ) (now : VenueParts) : Type 0 where
  pub old : VenueParts
  pub there : venue_in w v ≡ Some old
  pub past : IsPast (line_at w.desk v old) (line_at after.desk v now)

past_by : (a b : Line) → (b ≡ a) ⊎ LineStep a b → IsPast a b
past_by a b (inl same) = subst (IsPast a) (sym same) (past-refl a)
past_by a b (inr step) = step_past a b step

pub passed : (w after : World) → IsSafe w → Advances w after → (v : ℕ) (now : VenueParts) → venue_in after v ≡ Some now
    → Passed w after v now
passed w after safe advances v now there =
    (let from = advances.comes v now there in
    let low = slice_get_within w.venues v from.old from.there in
    let live = (safe.lines v from.old from.there).0.copies.live_is_last in
    record {
      old = from.old;
      there = from.there;
      past = past_by (line_at w.desk v from.old) (line_at after.desk v now)
          (from.steps live (let same = safe.desks in omega arith));
    })

-- what was withdrawn stays so
pub gone_after : (w after : World) → IsSafe w → IsSafe after → Advances w after → IsWorldLater w after
    → (id : LegIdParts) → IsGone w id → IsGone after id
gone_after w after safe safe_after advances later id g =
    let now = later.venue g.v g.venue g.there in
    let p = passed w after safe advances g.v now.0 now.1 in
    let one : p.old ≡ g.venue = same_Some p.old g.venue (sym p.there ∙ g.there) in
    let past = subst (λ x. IsPast (line_at w.desk g.v x) (line_at after.desk g.v now.0)) one p.past in
    record {
      v = g.v;
      venue = now.0;
      there = now.1;
      ordinal = g.ordinal;
      leg = g.leg;
      whole = past.released g.ordinal g.leg g.whole;
      same = g.same;
      gone = gone_stays (line_at w.desk g.v g.venue) (line_at after.desk g.v now.0) past
          (safe_after.lines g.v now.0 now.1).0 g.ordinal g.gone;
    }

-- what is withdrawn now was so before, or is among these
pub gone_before : (w after : World) → IsSafe w → IsSafe after → Advances w after → (ids : List LegIdParts)
    → ((v : ℕ) (old now : VenueParts) (ordinal : ℕ) (leg : Leg) → venue_in w v ≡ Some old → venue_in after v ≡ Some now
    → numbered ordinal (released v after.desk.sweeps) ≡ Some leg → (venue_at w.desk v).left < ordinal
    → IsWithdrawnLeg (line_at after.desk v now) ordinal
    → Contains ids leg.id)
    → ((v : ℕ) (old now : VenueParts) → venue_in w v ≡ Some old → venue_in after v ≡ Some now → (id : LegIdParts)
    → IsNowWithdrawn old.session.log now.session.log id → Contains ids id)
    → (id : LegIdParts) → IsGone after id → IsGone w id ⊎ Contains ids id
gone_before w after safe safe_after advances ids lefts sinces id g =
    let p = passed w after safe advances g.v g.venue g.there in
    let i = (safe.lines g.v p.old p.there).0 in
    let j = (safe_after.lines g.v g.venue g.there).0 in
    elim (gone_since (line_at w.desk g.v p.old) (line_at after.desk g.v g.venue) p.past i g.ordinal g.gone) [
      | inl before ↦
          (let within = i.copies.left_released in
          let left = before.left in
          let found = numbered_there g.ordinal (released g.v w.desk.sweeps) before.from (omega arith) in
          let one : found.0 ≡ g.leg = same_Some found.0 g.leg
          (sym (p.past.released g.ordinal found.0 found.1) ∙ g.whole) in
          inl (record {
            v = g.v;
            venue = p.old;
            there = p.there;
            ordinal = g.ordinal;
            leg = found.0;
            whole = found.1;
            same = ap (λ (l : Leg). l.id) one ∙ g.same;
            gone = before;
          }))
      | inr (inl above) ↦ inr (subst (Contains ids) g.same
          (lefts g.v p.old g.venue g.ordinal g.leg p.there g.there g.whole above g.gone))
      | inr (inr new) ↦
          (let sent = j.copies.sent_released new.now.number new.now.now new.now.there in
          let whole : numbered g.ordinal (released g.v after.desk.sweeps) ≡ Some sent.leg =
          subst (λ o. numbered o (released g.v after.desk.sweeps) ≡ Some sent.leg) new.at sent.whole in
          let one : sent.leg ≡ g.leg = same_Some sent.leg g.leg (sym whole ∙ g.whole) in
          let same : new.id ≡ id = sym new.named ∙ (sym sent.same ∙ (ap (λ (l : Leg). l.id) one ∙ g.same)) in
          inr (subst (Contains ids) same (sinces g.v p.old g.venue p.there g.there new.id new.now)))
    ]
