-- Where each leg that our exchange accepted has a number of its own, the share rule has room for each of its reports,
-- after those before it.
use Rattle.std.proofs.Common.{◌≡◌, ◌≤◌, ◌⊎◌, ◌+◌, ℕ, zero, suc, true, false, List, [], ◌∷◌, ◌++◌, length, map, take, filter, Some, refl, sym, ap, subst, ◌∙◌, inl, inr, length-append, if◌then◌else◌, arith}
use Rattle.std.specs.Prelude.{slice_get, slice_set, option_map}
use Rattle.std.specs.List.{Contains}
use Rattle.std.proofs.lemmas.Bool.{cases_Bool}
use Rattle.std.proofs.lemmas.List.{append-nil, append_assoc, map-append}
use Rattle.std.proofs.lemmas.List.Elements.{Contains-append_left, Contains-append_right, Contains-push, filter-append}
use Rattle.std.proofs.lemmas.Option.{same_Some, slice_get-map}
use Rattle.leg.specs.LegId.{LegIdParts}
use Rattle.leg.specs.Numbered.{numbered, with_numbered}
use Rattle.leg.proofs.Numbered.{numbered-append}
use Rattle.leg.specs.declared.leg.Leg.{Leg}
use Rattle.dialect.specs.declared.note.Note.TheVariants as note
use Rattle.dialect.specs.declared.report.Report.{Report}
use Rattle.dialect.specs.declared.report.ReportKind.{ReportKind}
use Rattle.dialect.specs.declared.report.ReportKind.TheVariants.{New}
use Rattle.exchange_core.specs.Order.{OrderParts, new_order}
use Rattle.exchange_core.specs.SentRecord.{exec_id}
use Rattle.exchange_core.proofs.After.{legs_kept}
use Rattle.exchange_core.proofs.ActsReport.{AnyPx, IsChange, same_leg}
use Rattle.exchange_core.proofs.SharesLaws.{new_adds}
use Rattle.share_ledger.specs.declared.applied.Applied.TheVariants as applied
use Rattle.share_ledger.specs.Entries.{is_same_leg, is_about}
use Rattle.share_ledger.specs.Shares.{Move, Tells, move_of, move_of_kind, parts_of}
use Rattle.share_ledger.specs.Book.{move_answer}
use Rattle.share_ledger.proofs.OneMore.{is_same_leg-refl, is_same_leg-true}
use Rattle.venue_line.proofs.Kept.{numbered_contains}
use Rattle.venue_line.proofs.LineGives.{contains_map}
use Rattle.venue_line.proofs.Logs.{numbered-push, numbered_within, numbered-last}
use Rattle.schedule.proofs.Clean.{report_notes}
use Rattle.schedule.proofs.ReportedLegs.{IsNumberOf}
use Rattle.schedule.proofs.OrderMatches.{Matches, matches_more, change_matches, change_fits}

-- what the reports on a leg do to it, in order
abbrev pub moves_in : LegIdParts → List Report → List Move
moves_in id reports = map move_of (filter (is_about id) (report_notes reports))

moves-push : (id : LegIdParts) (reports : List Report) (report : Report)
    → moves_in id (reports ++ report ∷ [])
    ≡ moves_in id reports ++ map move_of (filter (is_about id) (note.Report report ∷ []))
moves-push id reports report =
    ap (λ l. map move_of (filter (is_about id) l)) (map-append (λ r. note.Report r) reports (report ∷ []))
    ∙ (ap (map move_of) (filter-append (is_about id) (report_notes reports) (note.Report report ∷ []))
    ∙ map-append move_of (filter (is_about id) (report_notes reports)) (filter (is_about id) (note.Report report ∷ [])))

moves-this : (id : LegIdParts) (reports : List Report) (report : Report) → is_same_leg report.id id ≡ true
    → moves_in id (reports ++ report ∷ []) ≡ moves_in id reports ++ move_of (note.Report report) ∷ []
moves-this id reports report same =
    moves-push id reports report
    ∙ ap (λ b. moves_in id reports ++ map move_of (if b then note.Report report ∷ [] else [])) same

moves-other : (id : LegIdParts) (reports : List Report) (report : Report) → is_same_leg report.id id ≡ false
    → moves_in id (reports ++ report ∷ []) ≡ moves_in id reports
moves-other id reports report other =
    moves-push id reports report
    ∙ (ap (λ b. moves_in id reports ++ map move_of (if b then note.Report report ∷ [] else [])) other
    ∙ append-nil (moves_in id reports))

other_by : (a b : LegIdParts) → (a ≡ b → ⊥) → is_same_leg a b ≡ false
other_by a b differs =
    elim (cases_Bool (is_same_leg a b)) [
      | inl same ↦ absurd (differs (is_same_leg-true a b same))
      | inr other ↦ other
    ]

-- reports on other legs do nothing to this one
no_moves : (id : LegIdParts) (reports : List Report)
    → ((report : Report) → Contains reports report → is_same_leg report.id id ≡ false) → moves_in id reports ≡ []
no_moves id [] others = refl
no_moves id (report ∷ reports) others =
    let other = others report (Contains-append_left (report ∷ []) reports report (Contains-push [] report)) in
    let rest = no_moves id reports (λ r there. others r (Contains-append_right (report ∷ []) reports r there)) in
    ap (λ b. map move_of (if b then note.Report report ∷ filter (is_about id) (report_notes reports)
    else filter (is_about id) (report_notes reports))) other ∙ rest

-- each of these legs has a number of its own
abbrev pub AreApart : List Leg → Type 0
AreApart legs = (i j : ℕ) (a b : Leg) → numbered i legs ≡ Some a → numbered j legs ≡ Some b → a.id ≡ b.id → i ≡ j

-- a report on one of the legs, for which the share rule has room after these
pub record Fits (legs : List Leg) (before : List Report) (report : Report) : Type 0 where
  pub leg : Leg
  pub there : Contains legs leg
  pub same : leg.id ≡ report.id
  pub moved : move_answer (parts_of leg.terms.shares false (moves_in leg.id before)).still_open
      (moves_in leg.id before) (move_of (note.Report report)) ≡ applied.Moved

abbrev pub AllFit : List Leg → List Report → List Report → Type 0
AllFit legs before [] = Unit {0}
AllFit legs before (report ∷ reports) = Fits legs before report × AllFit legs (before ++ report ∷ []) reports

fit_more : (legs more : List Leg) (before reports : List Report) → AllFit legs before reports
    → AllFit (legs ++ more) before reports
fit_more legs more before [] all = tt
fit_more legs more before (report ∷ reports) all =
    let first = all.0 in (
      record {
        leg = first.leg;
        there = Contains-append_left legs more first.leg first.there;
        same = first.same;
        moved = first.moved;
      },
      fit_more legs more (before ++ report ∷ []) reports all.1,
    )

fit_push : (legs : List Leg) (before reports : List Report) (report : Report) → AllFit legs before reports
    → Fits legs (before ++ reports) report → AllFit legs before (reports ++ report ∷ [])
fit_push legs before [] report all fits = (subst (λ l. Fits legs l report) (append-nil before) fits, tt)
fit_push legs before (first ∷ reports) report all fits = (
  all.0,
  fit_push legs (before ++ first ∷ []) reports report all.1
      (subst (λ l. Fits legs l report) (sym (append_assoc before (first ∷ []) reports)) fits),
)

pub fit_at : (legs : List Leg) (before reports : List Report) (k : ℕ) (report : Report) → AllFit legs before reports
    → slice_get reports k ≡ Some report → Fits legs (before ++ take k reports) report
fit_at legs before [] k report all there = absurd cc
fit_at legs before (first ∷ reports) zero report all there =
    subst (Fits legs (before ++ [])) (same_Some first report there)
    (subst (λ l. Fits legs l first) (sym (append-nil before)) all.0)
fit_at legs before (first ∷ reports) (suc k) report all there =
    subst (λ l. Fits legs l report) (append_assoc before (first ∷ []) (take k reports))
    (fit_at legs (before ++ first ∷ []) reports k report all.1 there)

-- the legs of orders
abbrev pub legs_of : List OrderParts → List Leg
legs_of orders = map (λ (order : OrderParts). order.leg) orders

leg_numbered : (place : ℕ) (orders : List OrderParts) (order : OrderParts) → numbered place orders ≡ Some order
    → numbered place (legs_of orders) ≡ Some order.leg
leg_numbered zero orders order there = absurd cc
leg_numbered (suc k) orders order there =
    slice_get-map (λ (o : OrderParts). o.leg) orders k ∙ ap (option_map (λ (o : OrderParts). o.leg)) there

-- an order and a list in which one order is another
set_cases : (k j : ℕ) (xs : List OrderParts) (x y : OrderParts) → slice_get (slice_set xs j x) k ≡ Some y
    → ((k ≡ j) × (y ≡ x)) ⊎ ((k ≡ j → ⊥) × (slice_get xs k ≡ Some y))
set_cases k j [] x y is = absurd cc
set_cases zero zero (z ∷ xs) x y is = inl (refl, sym (same_Some x y is))
set_cases (suc k) zero (z ∷ xs) x y is = inr (λ e. omega arith, is)
set_cases zero (suc j) (z ∷ xs) x y is = inr (λ e. omega arith, is)
set_cases (suc k) (suc j) (z ∷ xs) x y is =
    elim (set_cases k j xs x y is) [
      | inl here ↦ inl (ap suc here.0, here.1)
      | inr other ↦ inr (λ e. other.0 (omega arith), other.1)
    ]

with_cases : (place at : ℕ) (orders : List OrderParts) (x y : OrderParts)
    → numbered place (with_numbered at x orders) ≡ Some y
    → ((place ≡ at) × (y ≡ x)) ⊎ ((place ≡ at → ⊥) × (numbered place orders ≡ Some y))
with_cases zero at orders x y is = absurd cc
with_cases (suc k) zero orders x y is = inr (λ e. omega arith, is)
with_cases (suc k) (suc j) orders x y is =
    elim (set_cases k j orders x y is) [
      | inl here ↦ inl (ap suc here.0, here.1)
      | inr other ↦ inr (λ e. other.0 (omega arith), other.1)
    ]

-- a report under the next count
abbrev pub report_on : LegIdParts → ℕ → ReportKind → Report
report_on id count kind = record { id = id; exec = exec_id count; kind = kind }

-- orders, and all reports that were made
pub record AreMatched (orders : List OrderParts) (reports : List Report) : Type 0 where
  pub match : (place : ℕ) (order : OrderParts) → numbered place orders ≡ Some order
      → Matches (length reports) (moves_in order.leg.id reports) order
  pub fit : AllFit (legs_of orders) [] reports

module _ (orders : List OrderParts) (reports : List Report) (m : AreMatched orders reports) where
  longer : (report : Report) → suc (length reports) ≡ length (reports ++ report ∷ [])
  longer report = let l = length-append reports (report ∷ []) in omega (arith, l)

  -- an order that a report is not on
  not_on : (order : OrderParts) (report : Report) → Matches (length reports) (moves_in order.leg.id reports) order
      → is_same_leg report.id order.leg.id ≡ false
      → Matches (length (reports ++ report ∷ [])) (moves_in order.leg.id (reports ++ report ∷ [])) order
  not_on order report before other =
      subst (λ n. Matches n (moves_in order.leg.id (reports ++ report ∷ [])) order) (longer report)
      (subst (λ moves. Matches (suc (length reports)) moves order)
      (sym (moves-other order.leg.id reports report other))
      (matches_more (length reports) (moves_in order.leg.id reports) order before))

  -- an order changes, and its change is reported
  module _ (place : ℕ) (old new : OrderParts) (kind : ReportKind) (there : numbered place orders ≡ Some old)
      (change : IsChange AnyPx (suc (length reports)) old new kind) (small : suc (length reports) ≤ 999999999)
      (apart : AreApart (legs_of orders)) where
    abbrev report : Report
    report = report_on new.leg.id (suc (length reports)) kind

    leg_is : new.leg ≡ old.leg
    leg_is = same_leg AnyPx (suc (length reports)) old new kind change

    abbrev after : List Report
    after = reports ++ report ∷ []

    changed_match : Matches (length after) (moves_in new.leg.id after) new
    changed_match =
        let same : is_same_leg new.leg.id old.leg.id ≡ true =
        ap (λ (l : Leg). is_same_leg l.id old.leg.id) leg_is ∙ is_same_leg-refl old.leg.id in
        let moves : moves_in new.leg.id after
        ≡ moves_in old.leg.id reports ++ move_of_kind (exec_id (suc (length reports))) kind ∷ [] =
        ap (λ (l : Leg). moves_in l.id after) leg_is ∙ moves-this old.leg.id reports report same in
        subst (λ n. Matches n (moves_in new.leg.id after) new) (longer report)
        (subst (λ l. Matches (suc (length reports)) l new) (sym moves)
        (change_matches (length reports) (moves_in old.leg.id reports) old (m.match place old there) new kind small
        change))

    others_match : (at : ℕ) (order : OrderParts) → (at ≡ place → ⊥) → numbered at orders ≡ Some order
        → Matches (length after) (moves_in order.leg.id after) order
    others_match at order other is =
        not_on order report (m.match at order is)
        (other_by new.leg.id order.leg.id
        (λ same. other (apart at place order.leg old.leg (leg_numbered at orders order is)
        (leg_numbered place orders old there) (sym same ∙ ap (λ (l : Leg). l.id) leg_is))))

    pub reported_match : AreMatched (with_numbered place new orders) after
    reported_match = record {
      match = λ at order is.
          elim (with_cases at place orders new order is) [
            | inl here ↦
                subst (λ (o : OrderParts). Matches (length after) (moves_in o.leg.id after) o)
                (sym here.1) changed_match
            | inr other ↦ others_match at order other.0 other.1
          ];
      fit = subst (λ legs. AllFit legs [] after) (sym (legs_kept orders place old new there leg_is))
          (fit_push (legs_of orders) [] reports report m.fit
          (record {
            leg = old.leg;
            there = contains_map (λ (o : OrderParts). o.leg) orders old (numbered_contains place orders old there);
            same = ap (λ (l : Leg). l.id) (sym leg_is);
            moved = change_fits (length reports) (moves_in old.leg.id reports) old (m.match place old there) new kind
                change;
          }));
    }

  -- an order is accepted, and reported as new
  module _ (leg : Leg) (on : (report : Report) → Contains reports report → IsNumberOf (legs_of orders) report.id)
      (apart : AreApart (legs_of (orders ++ new_order leg ∷ []))) where
    abbrev first : Report
    first = report_on leg.id (suc (length reports)) New

    all_legs : legs_of (orders ++ new_order leg ∷ []) ≡ legs_of orders ++ leg ∷ []
    all_legs = map-append (λ (o : OrderParts). o.leg) orders (new_order leg ∷ [])

    -- its number is none of theirs
    is_new : (at : ℕ) (other : Leg) → numbered at (legs_of orders) ≡ Some other → other.id ≡ leg.id → ⊥
    is_new at other is same =
        let here : numbered at (legs_of (orders ++ new_order leg ∷ [])) ≡ Some other =
        ap (numbered at) all_legs ∙ numbered-append at (legs_of orders) (leg ∷ []) other is in
        let last : numbered (length (legs_of orders) + 1) (legs_of (orders ++ new_order leg ∷ [])) ≡ Some leg =
        ap (numbered (length (legs_of orders) + 1)) all_legs ∙ numbered-last (legs_of orders) leg in
        let one = apart at (length (legs_of orders) + 1) other leg here last same in
        let within = (numbered_within at (legs_of orders) other is).1 in
        omega (arith, one, within)

    no_number : (other : Leg) → Contains (legs_of orders) other → other.id ≡ leg.id → ⊥
    no_number other there same =
        is_new (suc there.0) other (contains_numbered (legs_of orders) other there) same
      where
        contains_numbered : (xs : List Leg) (x : Leg) (in' : Contains xs x) → numbered (suc in'.0) xs ≡ Some x
        contains_numbered [] x in' = absurd (let h = in'.1 in omega arith)
        contains_numbered (y ∷ ys) x (zero, low, is) = ap (λ l. Some l) is
        contains_numbered (y ∷ ys) x (suc k, low, is) = contains_numbered ys x (k, omega arith, is)

    none_before : moves_in leg.id reports ≡ []
    none_before =
        no_moves leg.id reports
        (λ report there.
        (let number = on report there in
        other_by report.id leg.id (λ same. no_number number.leg number.there (number.same ∙ same))))

    new_match : Matches (length (reports ++ first ∷ [])) (moves_in leg.id (reports ++ first ∷ [])) (new_order leg)
    new_match =
        let moves : moves_in leg.id (reports ++ first ∷ []) ≡ Tells ∷ [] =
        moves-this leg.id reports first (is_same_leg-refl leg.id) ∙ ap (λ l. l ++ Tells ∷ []) none_before in
        subst (λ l. Matches (length (reports ++ first ∷ [])) l (new_order leg)) (sym moves)
        (record {
          traded = refl;
          rise = omega arith;
          flags = tt;
          old = tt;
          cancelled = refl;
          withdrawn = refl;
          adds = new_adds leg;
        })

    pub accepted_match : AreMatched (orders ++ new_order leg ∷ []) (reports ++ first ∷ [])
    accepted_match = record {
      match = λ at order is.
          elim (numbered-push at orders (new_order leg) order is) [
            | inl old ↦
                not_on order first (m.match at order old)
                (other_by leg.id order.leg.id
                (λ same. is_new at order.leg (leg_numbered at orders order old) (sym same)))
            | inr new ↦
                subst (λ (o : OrderParts). Matches (length (reports ++ first ∷ []))
                (moves_in o.leg.id (reports ++ first ∷ [])) o)
                new.1 new_match
          ];
      fit = subst (λ legs. AllFit legs [] (reports ++ first ∷ [])) (sym all_legs)
          (fit_push (legs_of orders ++ leg ∷ []) [] reports first
          (fit_more (legs_of orders) (leg ∷ []) [] reports m.fit)
          (record { leg = leg; there = Contains-push (legs_of orders) leg; same = refl; moved = refl }));
    }
