-- The line of a deed.
use Rattle.std.specs.Prelude.{ℕ, List, ◌++◌, codes, decimal}
use Rattle.fix_tags.specs.Stamp.{stamp_text}
use Rattle.leg.specs.LegId.{leg_id_text}
use Rattle.leg.specs.declared.placed_leg.PlacedLeg.{PlacedLeg}
use Rattle.message_log.specs.Line.{logged}
use Rattle.sweep_text.specs.Written.{terms_text}
use Rattle.journal_words.specs.declared.act.Act.{Act}
use Rattle.journal_words.specs.declared.act.Act.TheVariants.{Connected, Confirmed, Quieted, Silenced, Closed, Broke, Abandoned}
use Rattle.journal_words.specs.declared.leg_act.LegAct.{LegAct}
use Rattle.journal_words.specs.declared.leg_act.LegAct.TheVariants.{Sent, Dropped, Failed}
use Rattle.journal_words.specs.Deed.{DeedSaid, Timed}
use Rattle.journal_words.specs.Deed.DeedSaid.{Acts, OfLeg, Hears}

abbrev pub act_word : Act → List ℕ
act_word Connected = codes "connect"
act_word Confirmed = codes "confirm"
act_word Quieted = codes "quiet"
act_word Silenced = codes "silent"
act_word Closed = codes "close"
act_word Broke = codes "broken"
act_word Abandoned = codes "abandon"

abbrev pub leg_word : LegAct → List ℕ
leg_word Sent = codes "send"
leg_word Dropped = codes "drop"
leg_word Failed = codes "fail"

-- a leg, as `3 S1L1 IBM buy 100 10.25`
abbrev pub leg_words : PlacedLeg → List ℕ
leg_words placed =
    decimal placed.ordinal ++ codes " " ++ leg_id_text placed.leg.id ++ codes " " ++ terms_text placed.leg.terms

-- a message's fields stand behind `<`, as in a log
abbrev pub deed_text : DeedSaid → List ℕ
deed_text (Acts act) = act_word act
deed_text (OfLeg act placed) = leg_word act ++ codes " " ++ leg_words placed
deed_text (Hears fields) = codes "< " ++ logged fields

-- a line, as `20261124-14:30:00.123 connect`, without its end
abbrev pub deed_line : Timed → List ℕ
deed_line t = stamp_text t.stamp ++ codes " " ++ deed_text t.deed
