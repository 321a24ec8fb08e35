-- A start from what the journals kept: the lines are as the invariant says, and so are the journals.
use Rattle.std.proofs.Common.{◌≡◌, ◌≤◌, ◌+◌, ◌-◌, ◌&&◌, ℕ, zero, suc, true, nat_le, List, [], ◌∷◌, length, take, drop, Option, Some, None, refl, sym, ap, subst, ◌∙◌, arith}
use Rattle.std.specs.Prelude.{slice_get, unwrap_or, option_and_then}
use Rattle.std.specs.List.{Contains}
use Rattle.std.proofs.lemmas.Bool.{and_parts, leb-true}
use Rattle.std.proofs.lemmas.List.{take-append-drop}
use Rattle.std.proofs.lemmas.Option.{same_Some, slice_get_within}
use Rattle.std.proofs.Math.Seq.{take-append_seam}
use Rattle.leg.specs.Growing.{Grew}
use Rattle.leg.specs.declared.leg.Leg.{Leg}
use Rattle.leg.specs.declared.sweep.Routed.{Routed}
use Rattle.sweep_release.specs.declared.gate.Gate.TheVariants.{Shut}
use Rattle.sweep_release.specs.Released.{released}
use Rattle.sweep_release.specs.Desk.{DeskVenue, venue_at}
use Rattle.schedule.specs.World.{World, VenueParts, venue_in, released_to, state_of}
use Rattle.schedule.specs.LineOf.{line_at}
use Rattle.venue_line.proofs.GivenSteps.{Whole}
use Rattle.schedule.proofs.Grown.{grew-same}
use Rattle.schedule.proofs.Orderly.{IsOrderly}
use Rattle.schedule.proofs.RunsSafely.{IsSafe}
use Rattle.world_restart.specs.Journal.{Standing, Journal, standing_at, each_from}
use Rattle.world_restart.specs.Start.{Day, Loss, sweeps_kept, lines_kept, last_kept, standing_kept, state_in, are_withdrawn, keeps_rules, all_keep_rules, may_lose, desk_venue_started, desk_started, venue_started, world_started, journal_started}
use Rattle.world_restart.proofs.Places.{each_is, each_of, each_length, get_within, takes_fewer, contains_drop, contains_first}
use Rattle.world_restart.proofs.Places as places
use Rattle.world_restart.proofs.Aside.{aside, IsAside, started_line, whole_started}
use Rattle.world_restart.proofs.Journals.{IsEarlier, Rise, rise_later, rise_all, rise_from, IsJournal, added, released-grew}

-- what the rules say of a venue
pub record IsKeptAt (day : Day) (loss : Loss) (v : ℕ) : Type 0 where
  pub journal : Journal
  pub there : slice_get day.journals v ≡ Some journal
  pub standing : Standing
  pub last : last_kept loss v journal ≡ Some standing
  pub wire : journal.reached ≤ length standing.to_exchange
  pub release : standing.left ≤ length (released v (sweeps_kept day.world loss))
  pub withdrawal : are_withdrawn (state_of day.world v) (state_in standing) 1 (released_to day.world v) ≡ true

kept_by : (day : Day) (loss : Loss) (v : ℕ) (journal : Journal) → slice_get day.journals v ≡ Some journal
    → (found : Option Standing) → last_kept loss v journal ≡ found
    → keeps_rules day.world loss v journal found ≡ true → IsKeptAt day loss v
kept_by day loss v journal there None last rules = absurd cc
kept_by day loss v journal there (Some standing) last rules =
    let wire = nat_le journal.reached (length standing.to_exchange) in
    let release = nat_le standing.left (length (released v (sweeps_kept day.world loss))) in
    let two = and_parts (wire && release)
    (are_withdrawn (state_of day.world v) (state_in standing) 1 (released_to day.world v)) rules in
    let one = and_parts wire release two.0 in
    record {
      journal = journal;
      there = there;
      standing = standing;
      last = last;
      wire = leb-true journal.reached (length standing.to_exchange) one.0;
      release = leb-true standing.left (length (released v (sweeps_kept day.world loss))) one.1;
      withdrawal = two.1;
    }

rules_at : (w : World) (loss : Loss) (first k : ℕ) (journals : List Journal) (journal : Journal)
    → all_keep_rules w loss first journals ≡ true → slice_get journals k ≡ Some journal
    → keeps_rules w loss (first + k) journal (last_kept loss (first + k) journal) ≡ true
rules_at w loss first k [] journal rules there = absurd cc
rules_at w loss first zero (x ∷ journals) journal rules there =
    let two = and_parts (keeps_rules w loss first x (last_kept loss first x))
    (all_keep_rules w loss (suc first) journals) rules in
    let at : first ≡ first + 0 = omega arith in
    subst (λ k. keeps_rules w loss k journal (last_kept loss k journal) ≡ true) at
    (subst (λ j. keeps_rules w loss first j (last_kept loss first j) ≡ true) (same_Some x journal there) two.0)
rules_at w loss first (suc k) (x ∷ journals) journal rules there =
    let two = and_parts (keeps_rules w loss first x (last_kept loss first x))
    (all_keep_rules w loss (suc first) journals) rules in
    let at : suc first + k ≡ first + suc k = omega arith in
    subst (λ k. keeps_rules w loss k journal (last_kept loss k journal) ≡ true) at
    (rules_at w loss (suc first) k journals journal two.1 there)

pub kept_at : (day : Day) (loss : Loss) → may_lose day loss ≡ true → (v : ℕ) (journal : Journal)
    → slice_get day.journals v ≡ Some journal → IsKeptAt day loss v
kept_at day loss may v journal there =
    let two = and_parts (nat_le loss.sweeps (length day.world.desk.sweeps))
    (all_keep_rules day.world loss 0 day.journals) may in
    let at : 0 + v ≡ v = omega arith in
    kept_by day loss v journal there (last_kept loss v journal) refl
    (subst (λ k. keeps_rules day.world loss k journal (last_kept loss k journal) ≡ true) at
    (rules_at day.world loss 0 v day.journals journal two.1 there))

-- the legs kept are the first of those released
pub legs_kept : (w : World) (loss : Loss) (v : ℕ)
    → Grew (released v (sweeps_kept w loss)) (released v w.desk.sweeps)
legs_kept w loss v =
    let n = length w.desk.sweeps - loss.sweeps in
    released-grew v (take n w.desk.sweeps) w.desk.sweeps
    (drop n w.desk.sweeps, sym (take-append-drop n w.desk.sweeps))

pub legs_taken : (w : World) (loss : Loss) (v : ℕ)
    → take (length (released v (sweeps_kept w loss))) (released v w.desk.sweeps) ≡ released v (sweeps_kept w loss)
legs_taken w loss v =
    let grew = legs_kept w loss v in
    let legs = released v (sweeps_kept w loss) in
    ap (take (length legs)) grew.1 ∙ take-append_seam legs grew.0

-- a venue of the start, and what it comes from
pub record Begins (day : Day) (loss : Loss) (v : ℕ) (now : VenueParts) : Type 0 where
  pub old : VenueParts
  pub there : venue_in day.world v ≡ Some old
  pub kept : IsKeptAt day loss v
  pub now_is : venue_started (Some kept.standing) old ≡ now
  pub left_is : (venue_at (desk_started day loss) v).left ≡ length (released v (sweeps_kept day.world loss))

-- how many legs left for a venue of a desk
abbrev left_of : Option DeskVenue → ℕ
left_of found = (unwrap_or {T = DeskVenue} found (record { gate = Shut; left = 0 })).left

left_by : (sweeps : List (List Routed)) (found : Option Standing) (standing : Standing) (v : ℕ) (now : DeskVenue)
    → found ≡ Some standing → (desk_venue_started sweeps found v now).left ≡ length (released v sweeps)
left_by sweeps found standing v now is =
    ap (λ o. (desk_venue_started sweeps o v now).left) is

module _ (day : Day) (loss : Loss) (safe : IsSafe day.world)
    (count : length day.journals ≡ length day.world.venues) (may : may_lose day loss ≡ true) where
  pub begins : (v : ℕ) (now : VenueParts) → venue_in (world_started day loss) v ≡ Some now → Begins day loss v now
  begins v now there' =
      let from = each_of (λ k x. venue_started (standing_kept day loss k) x) v day.world.venues now there' in
      let low = slice_get_within day.world.venues v from.0 from.1 in
      let journal = get_within day.journals v (omega (arith, count, low)) in
      let kept = kept_at day loss may v journal.0 journal.1 in
      let standing_is : standing_kept day loss v ≡ Some kept.standing =
      ap (option_and_then (last_kept loss v)) kept.there ∙ kept.last in
      let at_desk = get_within day.world.desk.venues v (let same = safe.desks in omega (arith, same, low)) in
      let sweeps = sweeps_kept day.world loss in
      record {
        old = from.0;
        there = from.1;
        kept = kept;
        now_is = ap (λ o. venue_started o from.0) (sym standing_is) ∙ from.2;
        left_is =
            ap left_of
            (each_is (λ k x. desk_venue_started sweeps (standing_kept day loss k) k x) v day.world.desk.venues at_desk.0
            at_desk.1)
            ∙ left_by sweeps (standing_kept day loss v) kept.standing v at_desk.0 standing_is;
      }

  module _ (journals : (v : ℕ) (venue : VenueParts) (journal : Journal) → venue_in day.world v ≡ Some venue
      → slice_get day.journals v ≡ Some journal → IsJournal day.world v venue journal) (v : ℕ) (now : VenueParts)
      (there' : venue_in (world_started day loss) v ≡ Some now) where
    abbrev after : World
    after = world_started day loss

    abbrev legs : List Leg
    legs = released v (sweeps_kept day.world loss)

    b : Begins day loss v now
    b = begins v now there'

    is : IsJournal day.world v b.old b.kept.journal
    is = journals v b.old b.kept.journal b.there b.kept.there

    -- a line of the journal that is kept, with the legs that are
    kept_aside : (s : Standing) → Contains b.kept.journal.lines s → b.kept.journal.reached ≤ length s.to_exchange
        → s.left ≤ length legs → IsAside s legs b.old.exchange b.old.from_exchange
    kept_aside s among within low n above =
        let all = is.asides s among within in
        let first = legs_taken day.world loss v in
        elim (takes_fewer n (length legs) (released v day.world.desk.sweeps)) [
          | places.inner same ↦
              subst (λ l. Whole (aside s l b.old.exchange b.old.from_exchange))
              (sym same ∙ ap (take n) first) (all n above)
          | places.outer more same ↦
              subst (λ l. Whole (aside s l b.old.exchange b.old.from_exchange))
              (sym same ∙ ap (take n) first) (all (length legs) low)
        ]

    last_among : Contains b.kept.journal.lines b.kept.standing
    last_among =
        contains_drop _ b.kept.journal.lines b.kept.standing
        (contains_first (lines_kept loss v b.kept.journal) b.kept.standing b.kept.last)

    -- the line
    whole_here : Whole (started_line b.kept.standing legs b.old.exchange b.old.from_exchange)
    whole_here =
        whole_started b.kept.standing legs b.old.exchange b.old.from_exchange b.kept.release
        (subst (λ l. Whole (aside b.kept.standing l b.old.exchange b.old.from_exchange)) (legs_taken day.world loss v)
        (is.asides b.kept.standing last_among b.kept.wire (length legs) b.kept.release))

    whole_old : Whole (line_at after.desk v (venue_started (Some b.kept.standing) b.old))
    whole_old =
        subst (λ left. Whole
        (record (started_line b.kept.standing legs b.old.exchange b.old.from_exchange) { left = left })) (sym b.left_is)
        whole_here

    pub started_whole : Whole (line_at after.desk v now)
    started_whole = subst (λ x. Whole (line_at after.desk v x)) b.now_is whole_old

    pub started_orderly : IsOrderly now.exchange
    started_orderly = subst (λ (x : VenueParts). IsOrderly x.exchange) b.now_is (safe.orderly v b.old b.there)

    -- the journal
    earlier : IsEarlier b.kept.standing (standing_at after v now)
    earlier =
        let left = b.left_is in
        let kept = b.kept.release in
        record {
          wrote = grew-same b.kept.standing.to_exchange now.to_exchange
              (ap (λ (x : VenueParts). x.to_exchange) (sym b.now_is));
          left = omega arith;
        }

    last_rise : Rise b.kept.standing (lines_kept loss v b.kept.journal)
    last_rise =
        rise_from (standing_at day.world v b.old) _ b.kept.journal.lines b.kept.standing is.rise b.kept.last

    lines_aside : (s : Standing) → Contains (lines_kept loss v b.kept.journal) s
        → b.kept.journal.reached ≤ length s.to_exchange → IsAside s legs now.exchange now.from_exchange
    lines_aside s among within =
        let e = rise_all b.kept.standing (lines_kept loss v b.kept.journal) last_rise s among in
        let low = e.left in
        let top = b.kept.release in
        subst (λ (x : VenueParts). IsAside s legs x.exchange x.from_exchange) b.now_is
        (kept_aside s (contains_drop _ b.kept.journal.lines s among) within (omega arith))

    lines_journal : IsJournal after v now
        (record b.kept.journal { lines = lines_kept loss v b.kept.journal })
    lines_journal = record {
      rise = rise_later b.kept.standing (standing_at after v now) (lines_kept loss v b.kept.journal) earlier last_rise;
      asides = lines_aside;
    }

    pub started_journal : (journal : Journal)
        → slice_get (each_from (journal_started after loss) 0 day.journals) v ≡ Some journal
        → IsJournal after v now journal
    started_journal journal at =
        let from = each_of (journal_started after loss) v day.journals journal at in
        let one : from.0 ≡ b.kept.journal = same_Some from.0 b.kept.journal (sym from.1 ∙ b.kept.there) in
        subst (IsJournal after v now) (ap (journal_started after loss v) (sym one) ∙ from.2)
        (added after v now there' started_whole
        (record b.kept.journal { lines = lines_kept loss v b.kept.journal }) lines_journal)

  pub started_safe : ((v : ℕ) (venue : VenueParts) (journal : Journal) → venue_in day.world v ≡ Some venue
      → slice_get day.journals v ≡ Some journal → IsJournal day.world v venue journal)
      → IsSafe (world_started day loss)
  started_safe journals = record {
    desks =
        each_length _ 0 day.world.desk.venues ∙ (safe.desks ∙ sym (each_length _ 0 day.world.venues));
    lines = λ v venue there. started_whole journals v venue there;
    orderly = λ v venue there. started_orderly journals v venue there;
  }
