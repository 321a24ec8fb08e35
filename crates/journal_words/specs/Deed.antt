-- What a line of a venue's journal says: what the venue's worker did, and when.
use Rattle.std.specs.Prelude.{ℕ, List}
use Rattle.fix_tags.specs.Stamp.{StampParts}
use Rattle.leg.specs.declared.placed_leg.PlacedLeg.{PlacedLeg}
use Rattle.journal_words.specs.declared.act.Act.{Act}
use Rattle.journal_words.specs.declared.leg_act.LegAct.{LegAct}

-- the session was called; a leg was taken; or a message was heard, of which these are the fields in bytes
pub data DeedSaid : Type 0 where
  Acts : (act : Act) → DeedSaid
  OfLeg : (act : LegAct) → (placed : PlacedLeg) → DeedSaid
  Hears : (fields : List ℕ) → DeedSaid

-- a deed, and when it was done
pub record Timed : Type 0 where
  pub stamp : StampParts
  pub deed : DeedSaid

abbrev pub timed : StampParts → DeedSaid → Timed
timed stamp deed = record { stamp = stamp; deed = deed }
