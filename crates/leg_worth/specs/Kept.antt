-- What is kept beside a book, so that no call walks its history: the worth of each leg, and each trade by its leg and
-- its report's id.
use Rattle.std.specs.Prelude.{◌≡◌, ℕ, ◌+◌, ◌-◌, ◌<◌, Bool, ◌&&◌, List, [], ◌∷◌, filter, Option, Some, None, unwrap_or, ◌==◌, bytes_eq, nat_eq, if◌then◌else◌}
use Rattle.std.specs.HashMap as table
use Rattle.leg.specs.LegId.{LegIdParts}
use Rattle.dialect.specs.Fill.{FillParts}
use Rattle.dialect.specs.declared.note.Note.{Note}
use Rattle.dialect.specs.declared.note.Note.TheVariants as note
use Rattle.dialect.specs.declared.report.ReportKind.{ReportKind}
use Rattle.dialect.specs.declared.report.ReportKind.TheVariants.{New, Trade, Canceled, Rejected, Expired, Bust}
use Rattle.share_ledger.specs.declared.booked_leg.BookedLeg.{BookedLeg}
use Rattle.share_ledger.specs.Book.{BookParts, new_book, replay, leg_in}
use Rattle.share_ledger.specs.Entries.{is_same_leg, notes_on}
use Rattle.leg_worth.specs.declared.change.LegTrade.{LegTrade}
use Rattle.leg_worth.specs.declared.change.WorthChange.{WorthChange}
use Rattle.leg_worth.specs.declared.worth.Worth.{Worth}
use Rattle.leg_worth.specs.declared.worths.Worths.{Worths}
use Rattle.leg_worth.specs.Worth.{trades_in, leg_worth, no_worth, paid, unpriced}

-- whether two keys are the same
abbrev pub leg_eq : ℕ × ℕ → ℕ × ℕ → Bool
leg_eq a b = nat_eq a.0 b.0 && nat_eq a.1 b.1

abbrev pub trade_eq : (ℕ × ℕ) × List ℕ → (ℕ × ℕ) × List ℕ → Bool
trade_eq a b = leg_eq a.0 b.0 && bytes_eq a.1 b.1

-- what is kept of a leg; nothing was paid where nothing is kept
abbrev pub worth_at : Worths → LegIdParts → Worth
worth_at worths id = unwrap_or (table.get leg_eq worths.legs (id.sweep, id.place)) no_worth

-- the trade that is kept of a leg under this id
abbrev pub fill_at : Worths → LegIdParts → List ℕ → Option FillParts
fill_at worths id exec = table.get trade_eq worths.trades ((id.sweep, id.place), exec)

-- the trades of notes under this id
abbrev pub trades_under : List ℕ → List Note → List LegTrade
trades_under exec notes = filter (λ trade. bytes_eq trade.exec exec) (trades_in notes)

-- a trade under this id, if there is one
abbrev pub listed : List ℕ → Option FillParts → List LegTrade
listed exec None = []
listed exec (Some fill) = record { exec = exec; fill = fill } ∷ []

-- a book that its own history leads to
abbrev pub IsReplayed : BookParts → Type 0
IsReplayed book = replay (new_book book.venues) book.entries ≡ book

-- this is kept of the legs and trades of a book
pub record AreKept (book : BookParts) (worth : LegIdParts → Worth) (fill : LegIdParts → List ℕ → Option FillParts)
    : Type 0 where
  pub legs : (id : LegIdParts) → worth id ≡ leg_worth book id
  pub trades : (id : LegIdParts) (exec : List ℕ)
      → trades_under exec (notes_on id book.entries) ≡ listed exec (fill id exec)

abbrev pub AreWorths : BookParts → Worths → Type 0
AreWorths book worths = AreKept book (worth_at worths) (fill_at worths)

-- what is kept once a change is made, or none
abbrev pub worth_after : Option WorthChange → (LegIdParts → Worth) → LegIdParts → Worth
worth_after None worth id = worth id
worth_after (Some change) worth id = if is_same_leg change.leg id then change.now else worth id

-- the trade of a change, if it has one, under its leg and id
abbrev pub fill_with : LegIdParts → Option LegTrade → (LegIdParts → List ℕ → Option FillParts) → LegIdParts → List ℕ
    → Option FillParts
fill_with leg None fill id exec = fill id exec
fill_with leg (Some trade) fill id exec =
    if is_same_leg leg id && bytes_eq trade.exec exec then Some trade.fill else fill id exec

abbrev pub fill_after : Option WorthChange → (LegIdParts → List ℕ → Option FillParts) → LegIdParts → List ℕ
    → Option FillParts
fill_after None fill id exec = fill id exec
fill_after (Some change) fill id exec = fill_with change.leg change.trade fill id exec

-- what a trade adds, and what a bust of it takes away
abbrev pub with_trade : Worth → FillParts → Worth
with_trade worth fill = record { value = worth.value + paid fill; unpriced = worth.unpriced + unpriced fill }

abbrev pub without_trade : Worth → FillParts → Worth
without_trade worth fill = record { value = worth.value - paid fill; unpriced = worth.unpriced - unpriced fill }

-- what a trade changes of its leg
abbrev pub trade_change : LegIdParts → List ℕ → FillParts → Worth → WorthChange
trade_change id exec fill was = record {
  leg = id;
  now = with_trade was fill;
  trade = Some (record { exec = exec; fill = fill });
}

-- what the bust of a trade changes, if the trade is kept
abbrev pub bust_change : LegIdParts → Worth → Option FillParts → Option WorthChange
bust_change id was None = None
bust_change id was (Some fill) = Some (record { leg = id; now = without_trade was fill; trade = None })

-- a change of a leg that is there, and of this venue
abbrev pub if_of_venue : ℕ → WorthChange → Option BookedLeg → Option WorthChange
if_of_venue venue change None = None
if_of_venue venue change (Some leg) = if leg.venue == venue then Some change else None

-- what a report of a venue changes, should the book take it
abbrev pub report_change : BookParts → (LegIdParts → Worth) → (LegIdParts → List ℕ → Option FillParts) → ℕ → LegIdParts
    → List ℕ → ReportKind → Option WorthChange
report_change book worth fill venue id exec New = None
report_change book worth fill venue id exec (Trade traded) =
    if_of_venue venue (trade_change id exec traded (worth id)) (leg_in book id)
report_change book worth fill venue id exec Canceled = None
report_change book worth fill venue id exec Rejected = None
report_change book worth fill venue id exec Expired = None
report_change book worth fill venue id exec (Bust cancelled_id) = bust_change id (worth id) (fill id cancelled_id)

-- what a note of a venue changes, should the book take it
abbrev pub note_change : BookParts → (LegIdParts → Worth) → (LegIdParts → List ℕ → Option FillParts) → ℕ → Note
    → Option WorthChange
note_change book worth fill venue (note.Report report) =
    report_change book worth fill venue report.id report.exec report.kind
note_change book worth fill venue (note.Refused id) = None
note_change book worth fill venue (note.Unread fault) = None

-- there is room for a leg and a trade more
pub record HasRoom (worths : Worths) : Type 0 where
  pub legs : 0 < table.spare worths.legs
  pub trades : 0 < table.spare worths.trades
