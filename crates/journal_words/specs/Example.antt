-- Worked lines of journals.
use Rattle.std.specs.Prelude.{◌≡◌, ℕ, List, ◌++◌, codes}
use Rattle.fix_tags.specs.Stamp.{StampParts}
use Rattle.leg.specs.declared.placed_leg.PlacedLeg.{PlacedLeg}
use Rattle.leg.specs.declared.side.Side.TheVariants.{Buy}
use Rattle.journal_words.specs.declared.act.Act.TheVariants.{Connected}
use Rattle.journal_words.specs.declared.leg_act.LegAct.TheVariants.{Sent}
use Rattle.journal_words.specs.Deed.{timed}
use Rattle.journal_words.specs.Deed.DeedSaid.{Acts, OfLeg, Hears}
use Rattle.journal_words.specs.Words.{deed_line}
use Rattle.journal_words.specs.Desk.{desk_text}
use Rattle.journal_words.specs.Desk.DeskSaid.{Places, Ends}

-- half past two on a day in November
abbrev pub at_half_past_two : StampParts
at_half_past_two =
    record { year = 2026; month = 11; day = 24; hour = 14; minute = 30; second = 0; milli = 123 }

-- the third leg of a venue, the first of sweep 12
abbrev pub third_leg : PlacedLeg
third_leg = record {
  ordinal = 3;
  leg = record {
    id = record { sweep = 12; place = 1 };
    terms = record {
      symbol = record { root = codes "BRK"; suffix = codes "B" };
      side = Buy;
      shares = 100;
      price = 102500;
    };
  };
}

abbrev pub ALogonHasALine : Type 0
ALogonHasALine = deed_line (timed at_half_past_two (Acts Connected)) ≡ codes "20261124-14:30:00.123 connect"

abbrev pub ALegHasALine : Type 0
ALegHasALine =
    deed_line (timed at_half_past_two (OfLeg Sent third_leg))
    ≡ codes "20261124-14:30:00.123 send 3 S12L1 BRK.B buy 100 10.25"

abbrev pub AMessageHasALine : Type 0
AMessageHasALine =
    deed_line (timed at_half_past_two (Hears (codes "35=0\u{1}34=2\u{1}")))
    ≡ codes "20261124-14:30:00.123 < 35=0|34=2|"

abbrev pub ASweepHasALine : Type 0
ASweepHasALine =
    desk_text at_half_past_two (Places 12 (codes "sweep NYSE IBM buy 100 10.25"))
    ≡ codes "20261124-14:30:00.123 place 12 sweep NYSE IBM buy 100 10.25"
