-- An event at a venue that isn't there changes nothing, and tells nothing.
use Rattle.std.proofs.Common.{◌≡◌, ◌≤◌, ℕ, length, Option, Some, None, false, refl, sym, ap, ◌∙◌, arith}
use Rattle.std.specs.Prelude.{nat_lt}
use Rattle.std.specs.Option.{option_map_or}
use Rattle.std.proofs.lemmas.Bool.Decides.{nat_tests}
use Rattle.std.proofs.lemmas.Option.{slice_get_past}
use Rattle.schedule.specs.declared.event.Event.{Event}
use Rattle.schedule.specs.World.{World, VenueParts, of_venue, venue_in}
use Rattle.schedule.specs.Happening.{happens}
use Rattle.schedule.specs.Growing.{named}
use Rattle.schedule.specs.declared.event.Event.TheVariants as event
use Rattle.schedule.proofs.Happened.{absent_unchanged}
use Rattle.replay.specs.declared.event_outcome.EventOutcome.{EventOutcome}
use Rattle.replay.specs.Telling.{nothing_told, told}

pub nowhere : (w : World) (e : Event) (v : ℕ) → named e ≡ Some v → nat_lt v (length w.venues) ≡ false → w ≡ happens w e
nowhere w e v names gone =
    let past : length w.venues ≤ v = grind (arith, nat_tests) in
    sym (absent_unchanged w e v names (slice_get_past w.venues v past))

-- and tells nothing
of_nowhere : (w : World) (u v : ℕ) (f : VenueParts → EventOutcome) → u ≡ v → venue_in w v ≡ None
    → nothing_told ≡ of_venue w u nothing_told f
of_nowhere w u v f same gone =
    sym (ap (λ (venue : Option VenueParts). option_map_or f venue nothing_told) (ap (venue_in w) same ∙ gone))

told_nowhere : (w : World) (e : Event) (v : ℕ) → named e ≡ Some v → venue_in w v ≡ None → nothing_told ≡ told w e
told_nowhere w (event.Release sweep) v names gone = absurd cc
told_nowhere w (event.GateUp u) v names gone = let same : u ≡ v = cc in of_nowhere w u v _ same gone
told_nowhere w (event.GateDown u) v names gone = refl
told_nowhere w (event.Drop u) v names gone = refl
told_nowhere w (event.Take u) v names gone = let same : u ≡ v = cc in of_nowhere w u v _ same gone
told_nowhere w (event.Connect u) v names gone = let same : u ≡ v = cc in of_nowhere w u v _ same gone
told_nowhere w (event.ToExchange u frame) v names gone = refl
told_nowhere w (event.ToDispatcher u frame) v names gone = let same : u ≡ v = cc in of_nowhere w u v _ same gone
told_nowhere w (event.Break u) v names gone = refl
told_nowhere w (event.ExchangeBreak u) v names gone = refl
told_nowhere w (event.Act u act) v names gone = let same : u ≡ v = cc in of_nowhere w u v _ same gone
told_nowhere w (event.Quiet u) v names gone = let same : u ≡ v = cc in of_nowhere w u v _ same gone
told_nowhere w (event.Silent u) v names gone = let same : u ≡ v = cc in of_nowhere w u v _ same gone
told_nowhere w (event.Close u) v names gone = let same : u ≡ v = cc in of_nowhere w u v _ same gone
told_nowhere w (event.Abandon u) v names gone = refl

pub nothing_is_told : (w : World) (e : Event) (v : ℕ) → named e ≡ Some v → nat_lt v (length w.venues) ≡ false
    → nothing_told ≡ told w e
nothing_is_told w e v names gone =
    let past : length w.venues ≤ v = grind (arith, nat_tests) in
    told_nowhere w e v names (slice_get_past w.venues v past)
