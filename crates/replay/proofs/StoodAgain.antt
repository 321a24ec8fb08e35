-- The dispatcher's side of a venue that is made again, in the world.
use Rattle.std.proofs.Common.{◌≡◌, ◌≤◌, ◌<◌, ◌+◌, ◌-◌, ◌&&◌, ℕ, zero, suc, Bool, true, false, List, [], ◌∷◌, ◌++◌, length, take, drop, Option, Some, None, Result, Ok, Err, refl, sym, ap, subst, ◌∙◌, not, ◌||◌, if◌then◌else◌, nat_le, arith}
use Rattle.std.specs.Prelude.{slice_get, slice_set, IfOk, IfSome, OnOk}
use Rattle.std.specs.Option.{option_map_or}
use Rattle.std.specs.List.{list_all}
use Rattle.leg.specs.declared.leg.Leg.{Leg}
use Rattle.std.proofs.lemmas.Bool.{le-leb}
use Rattle.std.proofs.lemmas.List.{append_assoc, length-map}
use Rattle.dialect.specs.Wording.{Decoding}
use Rattle.venue_replay.specs.declared.frame.Frame.{Frame as KeptFrame}
use Rattle.venue_replay.specs.Network.{all_said, said_in}
use Rattle.std.proofs.Math.ListN.{drop_of_length-le}
use Rattle.leg.specs.declared.leg_state.LegState.{LegState}
use Rattle.leg.specs.declared.leg_state.LegState.TheVariants.{Queued}
use Rattle.leg.specs.declared.sweep.Routed.{Routed}
use Rattle.sweep_release.specs.Released.{released}
use Rattle.schedule.specs.declared.event.Event.TheVariants.{Break}
use Rattle.schedule.specs.World.{World, VenueParts, Frame, venue_in, released_to, state_of, state_left, is_withdrawn_leg}
use Rattle.schedule.specs.Happening.{with_venue, at_venue, happens}
use Rattle.schedule.proofs.Grown.{length-slice_set}
use Rattle.schedule.proofs.Lines.{set_there}
use Rattle.session_core.specs.Session.{leg_state}
use Rattle.session_core.specs.Calling.{broken}
use Rattle.world_restart.specs.Journal.{Standing, Journal, standing_at}
use Rattle.world_restart.specs.Start.{state_in, are_withdrawn, venue_started}
use Rattle.venue_replay.proofs.WorldAfter.{at_there, with_same}
use Rattle.replay.specs.declared.deed.Deed.{Deed}
use Rattle.replay.specs.declared.mark.Mark.{Mark}
use Rattle.replay.specs.Redoing.{JournalParts, redo_all, new_standing, standing_by, stood, stood_at, frames_from, journal_by, journals_by, standing_kept_by}
use Rattle.replay.specs.Ruling.{gone_from, gone_ordinals, is_gone_in, is_gone_at, keeps_all, keeps, keeps_at}
use Rattle.replay.specs.Starting.{lost_at, keeps_by, keeps_line, all_keep, deeds_kept, line_kept, StandsAt}
use Rattle.replay.proofs.DayHappens.{frames_there}
use Rattle.replay.proofs.DispatcherHappens.{set_again}
use Rattle.world_restart.proofs.Places.{each_is, each_length, get_within}
use Rattle.replay.proofs.BookAgain.{rest_there}
use Rattle.replay.proofs.JournalLines.{last_kept_line, no_line}

module _ (w : World) (v : ℕ) (venue now : VenueParts) (there : venue_in w v ≡ Some venue) where
  pub stood_there : (start : Standing) (deeds : List Deed)
      → now ≡ stood venue (redo_all venue.from_exchange start deeds)
      → with_venue w v now ≡ stood_at w v (redo_all (frames_from w v) start deeds)
  stood_there start deeds is =
      ap (with_venue w v) (is ∙ ap (λ f. stood venue (redo_all f start deeds)) (sym (frames_there w v venue there)))
      ∙ sym (at_there w v venue
      (λ at. with_venue w v (stood at (redo_all (frames_from w v) start deeds))) there)

  pub marked_there : (mark : Mark) (start : Standing) (deeds : List Deed)
      → standing_by mark now ≡ redo_all venue.from_exchange start deeds
      → IfSome (venue_in (with_venue w v now) v)
      (λ at. standing_by mark at ≡ redo_all (frames_from w v) start deeds)
  marked_there mark start deeds is =
      subst (λ (o : Option VenueParts). IfSome o (λ at. standing_by mark at ≡ redo_all (frames_from w v) start deeds))
      (sym (set_there w.venues v venue now there))
      (is ∙ ap (λ f. redo_all f start deeds) (sym (frames_there w v venue there)))

-- the legs that are withdrawn, and whether they stay so
gone_by : (b : Bool) (kept : ℕ → Option LegState) (ordinal : ℕ) (rest : List ℕ) (more : Bool)
    → list_all (λ o. is_withdrawn_leg (kept o)) rest ≡ more
    → list_all (λ o. is_withdrawn_leg (kept o)) (if b then ordinal ∷ rest else rest)
    ≡ ((not b || is_withdrawn_leg (kept ordinal)) && more)
gone_by true kept ordinal rest more is = ap (λ m. is_withdrawn_leg (kept ordinal) && m) is
gone_by false kept ordinal rest more is = is

pub gone_are : (now kept : ℕ → Option LegState) (ordinal : ℕ) (legs : List Leg)
    → list_all (λ o. is_withdrawn_leg (kept o)) (gone_from now ordinal legs) ≡ are_withdrawn now kept ordinal legs
gone_are now kept ordinal [] = refl
gone_are now kept ordinal (leg ∷ legs) =
    gone_by (is_withdrawn_leg (now ordinal)) kept ordinal (gone_from now (suc ordinal) legs)
    (are_withdrawn now kept (suc ordinal) legs) (gone_are now kept (suc ordinal) legs)

pub keeps_is : (w : World) (v reached : ℕ) (sweeps : List (List Routed)) (s : Standing)
    → keeps_all v reached (gone_ordinals w v) sweeps s ≡ keeps w v reached sweeps s
keeps_is w v reached sweeps s =
    ap (λ b. nat_le reached (length s.to_exchange) && nat_le s.left (length (released v sweeps)) && b)
    (gone_are (state_of w v) (state_in s) 1 (released_to w v))

-- a venue is made again by the kept deeds, tried, and made again by all
module _ (max_number : ℕ) (w : World) (v : ℕ) (venue : VenueParts) (j : JournalParts)
    (there : venue_in w v ≡ Some venue) where
  abbrev start : Standing
  start = new_standing max_number j.next

  abbrev of_deeds : List Deed → Standing
  of_deeds deeds = redo_all (frames_from w v) start deeds

  -- made again, the world is another one only at this venue
  abbrev mid : List Deed → World
  mid deeds = stood_at w v (of_deeds deeds)

  mid_is : (deeds : List Deed) → mid deeds ≡ with_venue w v (stood venue (of_deeds deeds))
  mid_is deeds = at_there w v venue (λ at. with_venue w v (stood at (of_deeds deeds))) there

  mid_there : (deeds : List Deed) → venue_in (mid deeds) v ≡ Some (stood venue (of_deeds deeds))
  mid_there deeds =
      ap (λ (x : World). venue_in x v) (mid_is deeds) ∙ set_there w.venues v venue (stood venue (of_deeds deeds)) there

  mid_frames : (deeds : List Deed) → frames_from (mid deeds) v ≡ frames_from w v
  mid_frames deeds =
      frames_there (mid deeds) v (stood venue (of_deeds deeds)) (mid_there deeds)
      ∙ sym (frames_there w v venue there)

  pub back_again : StandsAt max_number w v j venue → (deeds : List Deed)
      → stood_at (mid deeds) v (redo_all (frames_from (mid deeds) v) start j.deeds) ≡ w
  back_again stands deeds =
      let at = stood venue (of_deeds deeds) in
      let s = of_deeds j.deeds in
      ap (λ f. stood_at (mid deeds) v (redo_all f start j.deeds)) (mid_frames deeds)
      ∙ (at_there (mid deeds) v at (λ x. with_venue (mid deeds) v (stood x s)) (mid_there deeds)
      ∙ (ap (λ (x : World). with_venue x v (stood venue s)) (mid_is deeds)
      ∙ ((λ i. record w { venues = set_again w.venues v at (stood venue s) i })
      ∙ (ap (λ (x : Standing). with_venue w v (stood venue x)) (sym stands) ∙ with_same w v venue there))))

  -- the rules, tried where it is made again
  pub tried : (mark : Mark) (lost : ℕ) (sweeps : List (List Routed)) (fault_none : Bool) → lost ≤ length j.deeds
      → IfSome (venue_in (mid (deeds_kept lost j)) v) (λ at. standing_by mark at ≡ of_deeds (deeds_kept lost j))
      → fault_none ≡ keeps_at (mid (deeds_kept lost j)) v mark j.reached (gone_ordinals w v) sweeps
      → fault_none ≡ keeps_line w v sweeps lost (journal_by max_number (frames_from w v) j)
  tried mark lost sweeps fault_none low marks is =
      let deeds = deeds_kept lost j in
      let at = stood venue (of_deeds deeds) in
      let here : standing_by mark at ≡ of_deeds deeds =
      subst (λ (o : Option VenueParts). IfSome o (λ x. standing_by mark x ≡ of_deeds deeds)) (mid_there deeds) marks in
      is
      ∙ (ap (λ (o : Option VenueParts).
      option_map_or (λ x. keeps_all v j.reached (gone_ordinals w v) sweeps (standing_by mark x)) o false)
      (mid_there deeds)
      ∙ (ap (keeps_all v j.reached (gone_ordinals w v) sweeps) here
      ∙ (keeps_is w v j.reached sweeps (of_deeds deeds)
      ∙ ap (keeps_by w v sweeps j.reached) (sym (last_kept_line (frames_from w v) start j.deeds lost low)))))

  pub none_kept : (lost : ℕ) (sweeps : List (List Routed)) → length j.deeds < lost
      → false ≡ keeps_line w v sweeps lost (journal_by max_number (frames_from w v) j)
  none_kept lost sweeps past =
      ap (keeps_by w v sweeps j.reached) (sym (no_line (frames_from w v) start j.deeds lost past))

  -- the start at the venue
  pub started_there : (lost : ℕ)
      → happens (mid (deeds_kept lost j)) (Break v)
      ≡ at_venue w v (λ at. with_venue w v (venue_started (Some (line_kept max_number w v lost j)) at))
  started_there lost =
      let deeds = deeds_kept lost j in
      let s = of_deeds deeds in
      let at = stood venue s in
      at_there (mid deeds) v at (λ x. with_venue (mid deeds) v (record x { session = broken x.session }))
      (mid_there deeds)
      ∙ (ap (λ (x : World). with_venue x v (record at { session = broken s.session })) (mid_is deeds)
      ∙ ((λ i. record w { venues = set_again w.venues v at (record at { session = broken s.session }) i })
      ∙ sym (at_there w v venue (λ x. with_venue w v (venue_started (Some s) x)) there)))

  -- the same of a world that was made so
  pub tried_so : (mark : Mark) (lost reached : ℕ) (gone : List ℕ) (sweeps : List (List Routed)) (now : World)
      (deeds : List Deed) (fault_none : Bool) → lost ≤ length j.deeds → deeds ≡ deeds_kept lost j → now ≡ mid deeds
      → IfSome (venue_in now v) (λ at. standing_by mark at ≡ of_deeds deeds) → reached ≡ j.reached
      → gone ≡ gone_ordinals w v → fault_none ≡ keeps_at now v mark reached gone sweeps
      → fault_none ≡ keeps_line w v sweeps lost (journal_by max_number (frames_from w v) j)
  tried_so mark lost reached gone sweeps now deeds fault_none low kept is marks came were tests =
      let here : now ≡ mid (deeds_kept lost j) = is ∙ ap mid kept in
      tried mark lost sweeps fault_none low
      (subst (λ (x : World). IfSome (venue_in x v) (λ at. standing_by mark at ≡ of_deeds (deeds_kept lost j))) here
      (subst (λ (ds : List Deed). IfSome (venue_in now v) (λ at. standing_by mark at ≡ of_deeds ds)) kept marks))
      (tests ∙ (λ i. keeps_at (here i) v mark (came i) (were i) sweeps))

  pub back_so : StandsAt max_number w v j venue → (deeds all : List Deed) (now after : World) → now ≡ mid deeds
      → all ≡ j.deeds → after ≡ stood_at now v (redo_all (frames_from now v) start all) → after ≡ w
  back_so stands deeds all now after is whole so =
      so ∙ ((λ i. stood_at (is i) v (redo_all (frames_from (is i) v) start (whole i))) ∙ back_again stands deeds)

  pub started_so : (lost : ℕ) (deeds : List Deed) (now after : World) → deeds ≡ deeds_kept lost j → now ≡ mid deeds
      → after ≡ happens now (Break v)
      → after ≡ at_venue w v (λ at. with_venue w v (venue_started (Some (line_kept max_number w v lost j)) at))
  started_so lost deeds now after kept is so =
      so ∙ (ap (λ x. happens x (Break v)) (is ∙ ap mid kept) ∙ started_there lost)

  -- whether the gate was shut
  pub shut_so : (mark : Mark) (lost : ℕ) (deeds : List Deed) (now : World) → deeds ≡ deeds_kept lost j → now ≡ mid deeds
      → IfSome (venue_in now v) (λ at. standing_by mark at ≡ of_deeds deeds)
      → mark.is_shut ≡ (line_kept max_number w v lost j).is_shut
  shut_so mark lost deeds now kept is marks =
      let at = stood venue (of_deeds deeds) in
      let here : standing_by mark at ≡ of_deeds deeds =
      subst (λ (o : Option VenueParts). IfSome o (λ x. standing_by mark x ≡ of_deeds deeds))
      (ap (λ (x : World). venue_in x v) is ∙ mid_there deeds) marks in
      ap (λ (s : Standing). s.is_shut) here ∙ ap (λ ds. (of_deeds ds).is_shut) kept

  pub as_many : (deeds : List Deed) (now : World) (n : ℕ) → now ≡ mid deeds → n < length w.venues → n < length now.venues
  as_many deeds now n is low =
      let count : length now.venues ≡ length w.venues =
      ap (λ (x : World). length x.venues) (is ∙ mid_is deeds) ∙ length-slice_set w.venues v (stood venue (of_deeds deeds)) in
      omega arith

-- where each rule was tried, they are kept
gone_same : (w : World) (v : ℕ) (venue : VenueParts) (there : venue_in w v ≡ Some venue) (mark : Mark) (left : ℕ)
    → left ≡ mark.started + mark.since → (gone : List ℕ)
    → list_all (is_gone_at w v left) gone ≡ list_all (is_gone_in (standing_by mark venue)) gone
gone_same w v venue there mark left is [] = refl
gone_same w v venue there mark left is (ordinal ∷ gone) =
    let rest = gone_same w v venue there mark left is gone in
    let first : is_gone_at w v left ordinal ≡ is_gone_in (standing_by mark venue) ordinal =
    ap (λ n. is_gone_at w v n ordinal) is
    ∙ ap (λ (o : Option VenueParts). option_map_or
    (λ at. is_withdrawn_leg (if nat_le ordinal (mark.started + mark.since)
    then Some (state_left (leg_state at.session ordinal)) else Some Queued)) o false) there in
    λ i. first i && rest i

pub rules_kept : (w : World) (v : ℕ) (venue : VenueParts) → venue_in w v ≡ Some venue → (mark : Mark)
    (reached left : ℕ) (gone : List ℕ) (sweeps : List (List Routed)) → reached ≤ length venue.to_exchange
    → mark.started + mark.since ≤ length (released v sweeps) → left ≡ mark.started + mark.since
    → true ≡ list_all (is_gone_at w v left) gone → true ≡ keeps_at w v mark reached gone sweeps
rules_kept w v venue there mark reached left gone sweeps wire release is all =
    let first = le-leb reached (length venue.to_exchange) wire in
    let second = le-leb (mark.started + mark.since) (length (released v sweeps)) release in
    let third = all ∙ gone_same w v venue there mark left is gone in
    (λ i. sym first i && sym second i && third i)
    ∙ ap (λ (o : Option VenueParts). option_map_or
    (λ at. keeps_all v reached gone sweeps (standing_by mark at)) o false) (sym there)

pub all_gone : (w : World) (v left i : ℕ) (gone : List ℕ) → length gone ≤ i
    → list_all (is_gone_at w v left) (drop i gone) ≡ list_all (is_gone_at w v left) gone
    → true ≡ list_all (is_gone_at w v left) gone
all_gone w v left i gone past is =
    ap (list_all (is_gone_at w v left)) (sym (drop_of_length-le gone past)) ∙ is

-- one leg further
gone_one : (b : Bool) (found rest : List ℕ) (ordinal : ℕ)
    → (if b then found ++ ordinal ∷ [] else found) ++ rest ≡ found ++ (if b then ordinal ∷ rest else rest)
gone_one true found rest ordinal = append_assoc found (ordinal ∷ []) rest
gone_one false found rest ordinal = refl

pub gone_further : (state : ℕ → Option LegState) (legs : List Leg) (at : ℕ) (found now all : List ℕ)
    (s : Option LegState) → at < length legs → state (at + 1) ≡ s
    → now ≡ (if is_withdrawn_leg s then found ++ (at + 1) ∷ [] else found)
    → found ++ gone_from state (suc at) (drop at legs) ≡ all
    → now ++ gone_from state (suc (at + 1)) (drop (at + 1) legs) ≡ all
gone_further state legs at found now all s low is so before =
    let one : at + 1 ≡ suc at = omega arith in
    let leg = get_within legs at low in
    let rest = gone_from state (suc (at + 1)) (drop (at + 1) legs) in
    let step : gone_from state (suc at) (drop at legs)
    ≡ (if is_withdrawn_leg (state (at + 1)) then (at + 1) ∷ rest else rest) =
    ap (gone_from state (suc at)) (rest_there legs at leg.0 leg.1)
    ∙ (λ i. (if is_withdrawn_leg (state (sym one i))
    then sym one i ∷ gone_from state (suc (sym one i)) (drop (sym one i) legs)
    else gone_from state (suc (sym one i)) (drop (sym one i) legs))) in
    ap (λ l. l ++ rest) so
    ∙ (gone_one (is_withdrawn_leg s) found rest (at + 1)
    ∙ (ap (λ t. found ++ (if is_withdrawn_leg t then (at + 1) ∷ rest else rest)) (sym is)
    ∙ (ap (λ l. found ++ l) (sym step) ∙ before)))

-- the frames as they are kept
pub frames_count : (w : World) (v : ℕ) (venue : VenueParts) → venue_in w v ≡ Some venue → (read : Decoding)
    (frames : List KeptFrame)
    → option_map_or (λ (at : VenueParts). at.to_exchange) (venue_in w v) [] ≡ all_said read frames
    → length frames ≡ length venue.to_exchange
frames_count w v venue there read frames is =
    sym (length-map frames (said_in read))
    ∙ (ap length (sym is)
    ∙ ap (λ (o : Option VenueParts). length (option_map_or (λ (at : VenueParts). at.to_exchange) o [])) there)

-- the rules, venue by venue
module _ (max_number : ℕ) (w : World) (js : List JournalParts) (sweeps : List (List Routed)) (lines : List ℕ) where
  abbrev pub rules_from : ℕ → Bool
  rules_from n = all_keep w sweeps lines n (drop n (journals_by max_number w js))

  abbrev pub rule_at : ℕ → JournalParts → Bool
  rule_at n j = keeps_line w n sweeps (lost_at lines n) (journal_by max_number (frames_from w n) j)

  rules_next : (n : ℕ) (j : JournalParts) → slice_get js n ≡ Some j
      → rules_from n ≡ (rule_at n j && rules_from (n + 1))
  rules_next n j has =
      let there = each_is (λ k x. journal_by max_number (frames_from w k) x) n js j has in
      let one : n + 1 ≡ suc n = omega arith in
      ap (all_keep w sweeps lines n) (rest_there (journals_by max_number w js) n _ there)
      ∙ (λ i. rule_at n j && rules_from (sym one i))

  pub rule_kept : (n : ℕ) (j : JournalParts) (all : Bool) → slice_get js n ≡ Some j → true ≡ rule_at n j
      → rules_from n ≡ all → rules_from (n + 1) ≡ all
  rule_kept n j all has kept before =
      ap (λ b. b && rules_from (n + 1)) kept ∙ (sym (rules_next n j has) ∙ before)

  pub rule_broken : (n : ℕ) (j : JournalParts) (all : Bool) → slice_get js n ≡ Some j → false ≡ rule_at n j
      → rules_from n ≡ all → false ≡ all
  rule_broken n j all has broken before =
      ap (λ b. b && rules_from (n + 1)) broken ∙ (sym (rules_next n j has) ∙ before)

  pub rules_end : (n : ℕ) (all : Bool) → length js ≤ n → rules_from n ≡ all → true ≡ all
  rules_end n all past before =
      let count = each_length (λ k x. journal_by max_number (frames_from w k) x) 0 js in
      sym (ap (all_keep w sweeps lines n) (drop_of_length-le (journals_by max_number w js) (omega (arith, count, past))))
      ∙ before
