-- What the desk keeps, once one venue changed and an entry was written.
use Rattle.std.proofs.Common.{◌≡◌, Some, None, Ok, Err, true, ℕ, zero, suc, ◌+◌, ◌<◌, ◌≤◌, inl, inr, List, [], ◌∷◌, ◌++◌, length, map, drop, get_or, set, refl, ap, sym, ◌∙◌, subst, arith}
use Rattle.std.specs.Prelude.{◌==◌, slice_get, sum_by, unwrap_or, vec_len, vec_capacity, option_map}
use Rattle.std.proofs.lemmas.Bool.{cases_eq}
use Rattle.std.proofs.lemmas.List.{append-nil, length-drop, length-map, length-set, map-set, set-get_or, get_or-set_same, get_or-set_other}
use Rattle.std.proofs.lemmas.Option.{slice_get-map, slice_get-get_or}
use Rattle.std.proofs.lemmas.List.Sums.{sum_by-set, get_or-le-sum_by}
use Rattle.leg.specs.declared.sweep.Routed.{Routed}
use Rattle.sweep_release.specs.declared.desk.Desk.TheInside.{Inside}
use Rattle.sweep_release.specs.declared.desk_entry.DeskEntry.{DeskEntry}
use Rattle.sweep_release.specs.declared.desk_entry.DeskEntry.TheVariants as entry
use Rattle.sweep_release.specs.declared.venue.Venue.{Venue}
use Rattle.leg.specs.Answering.{Answers}
use Rattle.leg.specs.declared.leg.Leg.{Leg}
use Rattle.leg.specs.declared.placed_leg.PlacedLeg.{PlacedLeg}
use Rattle.sweep_release.specs.declared.gate_fault.GateFault.TheVariants.{OutOfMemory}
use Rattle.sweep_release.specs.declared.gate.Gate.{Gate}
use Rattle.sweep_release.specs.declared.gate.Gate.TheVariants.{Up, Down, Shut}
use Rattle.sweep_release.specs.Released.{released}
use Rattle.sweep_release.specs.Desk.{DeskVenue, DeskParts, venue_at, with_venue, gate_of, placed_legs, placed, with_gate, one_left, leave_first, leave, next_leg, gate_up_from, gate_up}
use Rattle.sweep_release.specs.History.{KeptDesk, DeskWithHistory, without_room, with_entries, gate_up_entries_from, gate_up_entries}
use Rattle.sweep_release.specs.Kept.{desk_seen, released_sweeps, AreShort, venue_seen, entries_due, IsKeptVenue, IsKept}

pub released_sweeps-append : (xs ys : List DeskEntry) → released_sweeps (xs ++ ys) ≡ released_sweeps xs ++ released_sweeps ys
released_sweeps-append [] ys = refl
released_sweeps-append (entry.Released sweep ∷ xs) ys = ap (λ l. sweep.legs ∷ l) (released_sweeps-append xs ys)
released_sweeps-append (entry.Up venue ∷ xs) ys = released_sweeps-append xs ys
released_sweeps-append (entry.Down venue ∷ xs) ys = released_sweeps-append xs ys
released_sweeps-append (entry.Shut venue ∷ xs) ys = released_sweeps-append xs ys
released_sweeps-append (entry.Taken venue ∷ xs) ys = released_sweeps-append xs ys
released_sweeps-append (entry.Dropped venue ∷ xs) ys = released_sweeps-append xs ys

-- entries that release nothing leave the sweeps
pub no_more_sweeps : (entries more : List DeskEntry) → released_sweeps more ≡ [] → released_sweeps (entries ++ more) ≡ released_sweeps entries
no_more_sweeps entries more e =
    released_sweeps-append entries more ∙ (ap (λ l. released_sweeps entries ++ l) e ∙ append-nil (released_sweeps entries))

pub kept-set : (sweeps : List (List Routed)) (room : ℕ) (venues : List Venue) (i : ℕ) (now : Venue) → ((k : ℕ) (other : Venue) → k < length venues → IsKeptVenue sweeps room k (get_or venues k other)) → IsKeptVenue sweeps room i now → (k : ℕ) (other : Venue) → k < length (set venues i now) → IsKeptVenue sweeps room k (get_or (set venues i now) k other)
kept-set sweeps room venues i now all this k other there =
    let within : k < length venues = subst (λ n. k < n) (length-set venues i now) there in
    elim (cases_eq k i) [
      | inl same ↦
          subst (λ n. IsKeptVenue sweeps room n (get_or (set venues i now) n other)) (sym same)
          (subst (IsKeptVenue sweeps room i) (sym (get_or-set_same venues i now other (subst (λ n. n < length venues) same within))) this)
      | inr differs ↦ subst (IsKeptVenue sweeps room k) (sym (get_or-set_other venues i k now other differs)) (all k other within)
    ]

-- the desk is kept, where one venue is as it is to be, and entries that release nothing were written into its room
pub kept-changed : (old new : Inside) (i : ℕ) (now before : Venue) (more : List DeskEntry) → IsKept old → i < length old.venues.items → released_sweeps more ≡ [] → new.venues.items ≡ set old.venues.items i now → new.history.items ≡ old.history.items ++ more → new.sweeps ≡ old.sweeps → new.shares ≡ old.shares → get_or old.venues.items i before ≡ before → new.due + entries_due before ≡ old.due + entries_due now → new.room ≡ old.room → vec_len new.history + new.due + new.room ≤ vec_capacity new.history → IsKeptVenue (released_sweeps old.history.items) old.room i now → IsKept new
kept-changed old new i now before more h there none venues_are history_is sweeps_are shares_are was due_is room_is room this =
    let all = h.venues in
    let count = h.count in
    let shares = h.shares in
    let few = h.few in
    let bounded = h.bounded in
    let due = h.due in
    let few_venues = h.few_venues in
    let elsewhere = h.elsewhere in
    let short = h.short in
    let as_many : length new.venues.items ≡ length old.venues.items = ap length venues_are ∙ length-set old.venues.items i now in
    let same : released_sweeps new.history.items ≡ released_sweeps old.history.items = ap released_sweeps history_is ∙ no_more_sweeps old.history.items more none in
    let sums = sum_by-set entries_due old.venues.items i now before there in
    let sums' : sum_by entries_due (set old.venues.items i now) + entries_due before ≡ sum_by entries_due old.venues.items + entries_due now = subst (λ v. sum_by entries_due (set old.venues.items i now) + entries_due v ≡ sum_by entries_due old.venues.items + entries_due now) was sums in
    let summed : sum_by entries_due new.venues.items ≡ sum_by entries_due (set old.venues.items i now) = ap (sum_by entries_due) venues_are in
    record {
      venues = subst (λ (vs : List Venue). (k : ℕ) (other : Venue) → k < length vs → IsKeptVenue (released_sweeps new.history.items) new.room k (get_or vs k other)) (sym venues_are)
          (subst (λ n. (k : ℕ) (other : Venue) → k < length (set old.venues.items i now) → IsKeptVenue (released_sweeps new.history.items) n k (get_or (set old.venues.items i now) k other)) (sym room_is)
          (subst (λ (sweeps : List (List Routed)). (k : ℕ) (other : Venue) → k < length (set old.venues.items i now) → IsKeptVenue sweeps old.room k (get_or (set old.venues.items i now) k other)) (sym same)
          (kept-set (released_sweeps old.history.items) old.room old.venues.items i now all this)));
      count = sweeps_are ∙ (count ∙ ap length (sym same));
      shares = shares_are ∙ (shares ∙ ap (sum_by _) (sym same));
      few = omega (arith, few, sweeps_are);
      bounded = omega (arith, bounded, shares_are);
      due = omega (arith, due, due_is, sums', summed);
      spare = room;
      few_venues = omega (arith, few_venues, as_many);
      elsewhere = λ k past. ap (released k) same ∙ elsewhere k (omega (arith, past, as_many));
      short = subst AreShort (sym same) short;
    }

-- what is known of a venue that was read at index i
pub record IsRead (desk : Inside) (seen : KeptDesk) (venue i : ℕ) (before : Venue) : Type 0 where
  pub at : i ≡ venue
  pub there : i < length desk.venues.items
  pub was : get_or desk.venues.items i before ≡ before
  pub seen_as : venue_at seen.desk venue ≡ venue_seen before
  pub placed : placed_legs seen.desk venue ≡ drop before.left before.released.items
  pub due : entries_due before ≤ desk.due
  pub kept : IsKeptVenue (released_sweeps desk.history.items) desk.room i before

pub venue_at_seen : (desk : Inside) (i : ℕ) (before : Venue) → i < length desk.venues.items → get_or desk.venues.items i before ≡ before → venue_at (desk_seen desk).desk i ≡ venue_seen before
venue_at_seen desk i before there was =
    let none : DeskVenue = record { gate = Shut; left = 0 } in
    ap (λ v. unwrap_or v none) (slice_get-map venue_seen desk.venues.items i)
    ∙ (ap (λ v. unwrap_or (option_map venue_seen v) none) (slice_get-get_or desk.venues.items i before there)
    ∙ ap venue_seen was)

read_at : (desk : Inside) (i : ℕ) (before : Venue) → i < length (desk_seen desk).desk.venues → before ≡ get_or desk.venues.items i before → IsKept desk → IsRead desk (desk_seen desk) i i before
read_at desk i before there was h =
    let within : i < length desk.venues.items = subst (λ n. i < n) (length-map desk.venues.items venue_seen) there in
    let seen_as = venue_at_seen desk i before within (sym was) in
    let all = h.venues in
    let sum = h.due in
    let kept : IsKeptVenue (released_sweeps desk.history.items) desk.room i before = subst (IsKeptVenue (released_sweeps desk.history.items) desk.room i) (sym was) (all i before within) in
    let legs = kept.legs in
    let due : entries_due (get_or desk.venues.items i before) ≤ sum_by entries_due desk.venues.items = get_or-le-sum_by entries_due desk.venues.items i before within in
    record {
      at = refl;
      there = within;
      was = sym was;
      seen_as = seen_as;
      placed = ap (λ v. drop v.left (released i (released_sweeps desk.history.items))) seen_as ∙ ap (drop before.left) (sym legs);
      due = subst (λ n. entries_due before ≤ n) (sym sum) (subst (λ v. entries_due v ≤ sum_by entries_due desk.venues.items) (sym was) due);
      kept = kept;
    }

pub is_read : (desk : Inside) (seen : KeptDesk) (venue i : ℕ) (before : Venue) → desk_seen desk ≡ seen → i ≡ venue → venue < length seen.desk.venues → before ≡ get_or desk.venues.items i before → IsKept desk → IsRead desk seen venue i before
is_read desk seen venue i before e at there was h =
    subst (λ s. IsRead desk s venue i before) e
    (subst (λ v. IsRead desk (desk_seen desk) v i before) at
    (read_at desk i before (subst (λ v. v < length (desk_seen desk).desk.venues) (sym at) (subst (λ s. venue < length s.desk.venues) (sym e) there)) was h))

-- the desk as it is seen, once a venue changed and entries were written
pub seen_changed : (desk : Inside) (seen : KeptDesk) (venue i : ℕ) (now : Venue) (items : List DeskEntry) (more : List DeskEntry) → desk_seen desk ≡ seen → i ≡ venue → released_sweeps more ≡ [] → items ≡ desk.history.items ++ more → (let after : DeskParts = record { sweeps = released_sweeps items; venues = map venue_seen (set desk.venues.items i now) } in after ≡ with_venue venue (venue_seen now) seen.desk)
seen_changed desk seen venue i now items more e at none history_is =
    let after : DeskParts = record { sweeps = released_sweeps items; venues = map venue_seen (set desk.venues.items i now) } in
    let sweeps : released_sweeps items ≡ released_sweeps desk.history.items = ap released_sweeps history_is ∙ no_more_sweeps desk.history.items more none in
    let here : after ≡ with_venue i (venue_seen now) (desk_seen desk).desk = λ k. record { sweeps = sweeps k; venues = map-set venue_seen desk.venues.items i now k } in
    here ∙ (ap (λ s. with_venue i (venue_seen now) s.desk) e ∙ ap (λ v. with_venue v (venue_seen now) seen.desk) at)

-- the same, where the gate alone changed
pub seen_turned : (desk : Inside) (seen : KeptDesk) (venue i : ℕ) (before : Venue) (gate : Gate) (items : List DeskEntry) (more : List DeskEntry) → desk_seen desk ≡ seen → IsRead desk seen venue i before → released_sweeps more ≡ [] → items ≡ desk.history.items ++ more → (let after : DeskParts = record { sweeps = released_sweeps items; venues = map venue_seen (set desk.venues.items i (record { gate = gate; left = before.left; released = before.released })) } in after ≡ with_gate venue gate seen.desk)
seen_turned desk seen venue i before gate items more e read none history_is =
    let at = read.at in
    let seen_as = read.seen_as in
    seen_changed desk seen venue i (record { gate = gate; left = before.left; released = before.released }) items more e at none history_is
    ∙ ap (λ (v : DeskVenue). with_venue venue (record { gate = gate; left = v.left }) seen.desk) (sym seen_as)

-- the same, where a leg left
pub seen_left : (desk : Inside) (seen : KeptDesk) (venue i : ℕ) (before now : Venue) (items : List DeskEntry) (more : List DeskEntry) → desk_seen desk ≡ seen → IsRead desk seen venue i before → released_sweeps more ≡ [] → items ≡ desk.history.items ++ more → now.gate ≡ before.gate → now.left ≡ before.left + 1 → (let after : DeskParts = record { sweeps = released_sweeps items; venues = map venue_seen (set desk.venues.items i now) } in after ≡ one_left venue seen.desk)
seen_left desk seen venue i before now items more e read none history_is gate left =
    let at = read.at in
    let seen_as = read.seen_as in
    let venue_is : venue_seen now ≡ (let v : DeskVenue = record { gate = before.gate; left = before.left + 1 } in v) = λ k. record { gate = gate k; left = left k } in
    seen_changed desk seen venue i now items more e at none history_is
    ∙ (ap (λ (v : DeskVenue). with_venue venue v seen.desk) venue_is
    ∙ ap (λ (v : DeskVenue). with_venue venue (record { gate = v.gate; left = v.left + 1 }) seen.desk) (sym seen_as))

-- nothing is seen of memory that was reserved
pub seen_same : (desk : Inside) (seen : KeptDesk) (venues : List Venue) (items : List DeskEntry) → desk_seen desk ≡ seen → map venue_seen venues ≡ map venue_seen desk.venues.items → items ≡ desk.history.items → (let after : DeskWithHistory = record { desk = record { sweeps = released_sweeps items; venues = map venue_seen venues }; history = items } in after ≡ without_room seen)
seen_same desk seen venues items e venues_are history_is =
    let here : (let after : DeskWithHistory = record { desk = record { sweeps = released_sweeps items; venues = map venue_seen venues }; history = items } in after ≡ without_room (desk_seen desk)) = λ k. record { desk = record { sweeps = released_sweeps (history_is k); venues = venues_are k }; history = history_is k } in
    here ∙ ap without_room e

pub left_none-leg : (desk : DeskParts) (venue : ℕ) → placed_legs desk venue ≡ [] → (leave desk venue).0 ≡ None
left_none-leg desk venue e = ap (λ l. (leave_first l desk venue).0) e

pub left_none-desk : (desk : DeskParts) (venue : ℕ) → placed_legs desk venue ≡ [] → (leave desk venue).1 ≡ desk
left_none-desk desk venue e = ap (λ l. (leave_first l desk venue).1) e

pub left_first-leg : (desk : DeskParts) (venue : ℕ) (leg : Leg) (legs : List Leg) → placed_legs desk venue ≡ leg ∷ legs → (leave desk venue).0 ≡ Some (record { ordinal = (venue_at desk venue).left + 1; leg = leg })
left_first-leg desk venue leg legs e = ap (λ l. (leave_first l desk venue).0) e

pub left_first-desk : (desk : DeskParts) (venue : ℕ) (leg : Leg) (legs : List Leg) → placed_legs desk venue ≡ leg ∷ legs → (leave desk venue).1 ≡ one_left venue desk
left_first-desk desk venue leg legs e = ap (λ l. (leave_first l desk venue).1) e

-- what is behind the first n begins with the leg at n
first_behind : (n : ℕ) (legs : List Leg) (leg : Leg) → slice_get legs n ≡ Some leg → drop n legs ≡ leg ∷ drop (suc n) legs
first_behind zero [] leg e = cc
first_behind (suc n) [] leg e = cc
first_behind zero (first ∷ legs) leg e = let same : first ≡ leg = cc in ap (λ l. l ∷ legs) same
first_behind (suc n) (first ∷ legs) leg e = first_behind n legs leg e

none_behind : (n : ℕ) (legs : List Leg) → slice_get legs n ≡ None → drop n legs ≡ []
none_behind zero [] e = refl
none_behind (suc n) [] e = refl
none_behind zero (first ∷ legs) e = cc
none_behind (suc n) (first ∷ legs) e = none_behind n legs e

-- the next leg, where the released legs are read
pub next_none : (desk : DeskParts) (venue left : ℕ) (legs : List Leg) → placed_legs desk venue ≡ drop left legs → slice_get legs left ≡ None → None ≡ next_leg desk venue
next_none desk venue left legs placed none = sym (left_none-leg desk venue (placed ∙ none_behind left legs none))

pub next_first : (desk : DeskParts) (venue left : ℕ) (legs : List Leg) (leg copy : Leg) → (venue_at desk venue).left ≡ left → placed_legs desk venue ≡ drop left legs → slice_get legs left ≡ Some leg → copy ≡ leg → Some (record { ordinal = left + 1; leg = copy }) ≡ next_leg desk venue
next_first desk venue left legs leg copy lefts placed is same =
    (λ k. Some (record { ordinal = sym lefts k + 1; leg = same k }))
    ∙ sym (left_first-leg desk venue leg (drop (suc left) legs) (placed ∙ first_behind left legs leg is))

-- whether a leg leaves is whether there is a next one
leaves_with : (desk : DeskParts) (venue : ℕ) (placed_leg : PlacedLeg) (legs : List Leg) → (leave_first legs desk venue).0 ≡ Some placed_leg → ((leave_first legs desk venue).1 ≡ one_left venue desk) × (0 < length legs)
leaves_with desk venue placed_leg [] e = cc
leaves_with desk venue placed_leg (leg ∷ legs) e = (refl, omega arith)

pub leaves_next : (desk : DeskParts) (venue : ℕ) (placed_leg : PlacedLeg) → next_leg desk venue ≡ Some placed_leg → ((leave desk venue).1 ≡ one_left venue desk) × (0 < placed desk venue)
leaves_next desk venue placed_leg e = leaves_with desk venue placed_leg (placed_legs desk venue) e

-- then not all legs of the venue that was read left
pub some_left : (desk : Inside) (seen : KeptDesk) (venue i : ℕ) (before : Venue) (placed_leg : PlacedLeg) → IsRead desk seen venue i before → next_leg seen.desk venue ≡ Some placed_leg → before.left < length before.released.items
some_left desk seen venue i before placed_leg read e =
    let some = (leaves_next seen.desk venue placed_leg e).1 in
    let placed = ap length read.placed in
    let behind = length-drop before.left before.released.items in
    omega (arith, some, placed, behind)

stays_without : (desk : DeskParts) (venue : ℕ) (legs : List Leg) → (leave_first legs desk venue).0 ≡ None → (leave_first legs desk venue).1 ≡ desk
stays_without desk venue [] e = refl
stays_without desk venue (leg ∷ legs) e = cc

pub stays_next : (desk : DeskParts) (venue : ℕ) → next_leg desk venue ≡ None → (leave desk venue).1 ≡ desk
stays_next desk venue e = stays_without desk venue (placed_legs desk venue) e

-- what is answered where a gate is put up that is down and drained
pub raised : (seen now : KeptDesk) (venue : ℕ) → gate_of seen.desk venue ≡ Down → placed seen.desk venue ≡ 0 → now.desk ≡ with_gate venue Up seen.desk → now.history ≡ seen.history ++ entry.Up venue ∷ [] → Answers OutOfMemory (without_room seen) (with_entries (without_room seen) (gate_up_entries seen.desk venue) (gate_up seen.desk venue)) (Ok tt) (without_room now)
raised seen now venue down drained desk_is history_is =
    subst (λ g. Answers OutOfMemory (without_room seen) (with_entries (without_room seen) (gate_up_entries_from g seen.desk venue) (gate_up_from g seen.desk venue)) (Ok tt) (without_room now)) (sym down)
    (let test : (placed seen.desk venue == 0) ≡ true = ap (λ n. n == 0) drained in
    rw test (refl, (λ k. record { desk = desk_is k; history = history_is k })))

pub unraised : (seen now : KeptDesk) (venue : ℕ) → gate_of seen.desk venue ≡ Down → placed seen.desk venue ≡ 0 → without_room now ≡ without_room seen → Answers OutOfMemory (without_room seen) (with_entries (without_room seen) (gate_up_entries seen.desk venue) (gate_up seen.desk venue)) (Err OutOfMemory) (without_room now)
unraised seen now venue down drained same =
    subst (λ g. Answers OutOfMemory (without_room seen) (with_entries (without_room seen) (gate_up_entries_from g seen.desk venue) (gate_up_from g seen.desk venue)) (Err OutOfMemory) (without_room now)) (sym down)
    (let test : (placed seen.desk venue == 0) ≡ true = ap (λ n. n == 0) drained in
    rw test (refl, same))

-- nor of a venue that is put back as it was
pub seen_kept : (desk : Inside) (seen : KeptDesk) (i : ℕ) (now before : Venue) → desk_seen desk ≡ seen → get_or desk.venues.items i before ≡ before → now.gate ≡ before.gate → now.left ≡ before.left → (let after : DeskWithHistory = record { desk = record { sweeps = released_sweeps desk.history.items; venues = map venue_seen (set desk.venues.items i now) }; history = desk.history.items } in after ≡ without_room seen)
seen_kept desk seen i now before e was gate left =
    let same : venue_seen now ≡ venue_seen before = λ k. record { gate = gate k; left = left k } in
    let venues : map venue_seen (set desk.venues.items i now) ≡ map venue_seen desk.venues.items =
    map-set venue_seen desk.venues.items i now
    ∙ (ap (λ v. set (map venue_seen desk.venues.items) i v) same
    ∙ (sym (map-set venue_seen desk.venues.items i before)
    ∙ ap (map venue_seen) (ap (set desk.venues.items i) (sym was) ∙ set-get_or desk.venues.items i before))) in
    seen_same desk seen (set desk.venues.items i now) desk.history.items e venues refl
