-- Over restarts no note given is on a leg that was withdrawn before, or is later.
use Rattle.std.proofs.Common.{◌≡◌, ◌≤◌, sym, subst}
use Rattle.std.specs.List.{Contains}
use Rattle.fix_tags.specs.Config.{ConfigParts}
use Rattle.venue_line.specs.Line.{Line}
use Rattle.line_notes.proofs.NotesGiven.{ordinal_named, notes_on}
use Rattle.line_restart.specs.Lives.{all_moments}
use Rattle.line_restart.specs.RestartTheorem.{IsReached}
use Rattle.line_restart.specs.Spared.{SparesLater, SparesEarlier, TheNotesSpareWithdrawn}
use Rattle.line_restart.specs.OverRestarts.{StaysAccepted, NeverAccepted}
use Rattle.line_restart.proofs.Reached.{the_reached_theorem, reached_holds, reached_noted}
use Rattle.line_restart.proofs.Chained.{pairs_reached}
use Rattle.line_restart.proofs.Staying.{accepted_stays_over}
use Rattle.line_restart.proofs.Missed.{never_accepted_over}

module _ (config : ConfigParts) (small : config.max_number ≤ 999999999) (a b : Line) (before : IsReached config a)
    (after : IsReached config b) where
  pub spares_later : StaysAccepted a b → SparesLater a b
  spares_later stays apart ordinal leg n gone whole there names =
      let holds = reached_holds config small a before in
      let on = ordinal_named a holds n leg.id (notes_on a (reached_noted config small a before) n there) names in
      let later = stays.accepted on.ordinal holds on.accepted in
      let one = apart ordinal on.ordinal leg on.leg whole (stays.released on.ordinal on.leg holds on.accepted on.whole)
      (sym on.same) in
      later.0.withdrawn_is_missing ordinal gone (subst (Contains later.0.ordinals) (sym one) later.1)

  pub spares_earlier : NeverAccepted a b → SparesEarlier a b
  spares_earlier never apart ordinal leg n gone whole there names =
      let holds = reached_holds config small b after in
      let on = ordinal_named b holds n leg.id (notes_on b (reached_noted config small b after) n there) names in
      let one = apart ordinal on.ordinal leg on.leg (never.released ordinal leg gone whole) on.whole (sym on.same) in
      never.accepted ordinal holds gone (subst (Contains holds.ordinals) (sym one) on.accepted)

pub the_notes_spare_withdrawn : TheNotesSpareWithdrawn
the_notes_spare_withdrawn config first lives small new is =
    let reached = the_reached_theorem config first lives new is in
    let moments = all_moments first lives in
    record {
      later = pairs_reached config StaysAccepted SparesLater
          (λ a b before after stays. spares_later config small a b before after stays) moments reached
          (accepted_stays_over config first lives small new is);
      earlier = λ keeps.
          pairs_reached config NeverAccepted SparesEarlier
          (λ a b before after never. spares_earlier config small a b before after never) moments reached
          (never_accepted_over config first lives small new is keeps);
    }
