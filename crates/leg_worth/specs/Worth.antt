-- What was paid in the trades of a leg that no bust names, exactly (FIX 4.4 Volume 4, LastQty, LastPx, ExecID,
-- ExecRefID).
use Rattle.std.specs.Prelude.{ℕ, zero, suc, ◌+◌, ◌*◌, min, not, List, [], ◌∷◌, filter, sum_by, is_some, unwrap_or, if◌then◌else◌}
use Rattle.std.specs.List.{flat_map}
use Rattle.leg.specs.LegId.{LegIdParts}
use Rattle.dialect.specs.Fill.{FillParts}
use Rattle.dialect.specs.declared.note.Note.{Note}
use Rattle.dialect.specs.declared.note.Note.TheVariants as note
use Rattle.dialect.specs.declared.report.ReportKind.{ReportKind}
use Rattle.dialect.specs.declared.report.ReportKind.TheVariants.{New, Trade, Canceled, Rejected, Expired, Bust}
use Rattle.exact_price.specs.Exact.{exact_of}
use Rattle.share_ledger.specs.Book.{BookParts}
use Rattle.share_ledger.specs.Entries.{notes_on}
use Rattle.share_ledger.specs.Shares.{has_id}
use Rattle.leg_worth.specs.declared.change.LegTrade.{LegTrade}
use Rattle.leg_worth.specs.declared.worth.Worth.{Worth}

-- the trade that a report tells, if it tells one
abbrev pub traded_by : List ℕ → ReportKind → List LegTrade
traded_by exec New = []
traded_by exec (Trade fill) = record { exec = exec; fill = fill } ∷ []
traded_by exec Canceled = []
traded_by exec Rejected = []
traded_by exec Expired = []
traded_by exec (Bust cancelled_id) = []

-- the id of the trade that a report busts, if it busts one
abbrev pub busted_by : ReportKind → List (List ℕ)
busted_by New = []
busted_by (Trade fill) = []
busted_by Canceled = []
busted_by Rejected = []
busted_by Expired = []
busted_by (Bust cancelled_id) = cancelled_id ∷ []

-- those of a note
abbrev pub trades_of : Note → List LegTrade
trades_of (note.Report report) = traded_by report.exec report.kind
trades_of (note.Refused id) = []
trades_of (note.Unread fault) = []

abbrev pub busts_of : Note → List (List ℕ)
busts_of (note.Report report) = busted_by report.kind
busts_of (note.Refused id) = []
busts_of (note.Unread fault) = []

-- those of notes, in order
abbrev pub trades_in : List Note → List LegTrade
trades_in notes = flat_map trades_of notes

abbrev pub busts_in : List Note → List (List ℕ)
busts_in notes = flat_map busts_of notes

-- the trades that no bust names
abbrev pub standing_in : List Note → List LegTrade
standing_in notes = filter (λ trade. not (has_id trade.exec (busts_in notes))) (trades_in notes)

-- what such trades come to, each counted so
abbrev pub sum_of : (FillParts → ℕ) → List Note → ℕ
sum_of counts notes = sum_by (λ trade. counts trade.fill) (standing_in notes)

-- what was paid in a trade, in hundred-millionths of the currency's unit: its shares times its price; nothing where its
-- price can't be read exactly
abbrev pub paid : FillParts → ℕ
paid fill = fill.shares * unwrap_or (exact_of fill.px) 0

-- the shares of a trade whose price can't be read exactly
abbrev pub unpriced : FillParts → ℕ
unpriced fill = if is_some (exact_of fill.px) then 0 else fill.shares

-- what was paid in the trades that notes tell, and for how many of their shares no price is known
abbrev pub worth_in : List Note → Worth
worth_in notes = record { value = sum_of paid notes; unpriced = sum_of unpriced notes }

-- of a leg
abbrev pub leg_worth : BookParts → LegIdParts → Worth
leg_worth book id = worth_in (notes_on id book.entries)

-- nothing was paid
abbrev pub no_worth : Worth
no_worth = record { value = 0; unpriced = 0 }

-- what was paid in both
abbrev pub both : Worth → Worth → Worth
both a b = record { value = a.value + b.value; unpriced = a.unpriced + b.unpriced }

-- of the legs at the first places of a sweep, each of which has this worth
abbrev pub worth_below : (LegIdParts → Worth) → ℕ → ℕ → Worth
worth_below worth number zero = no_worth
worth_below worth number (suc places) = both (worth_below worth number places)
    (worth (record { sweep = number; place = suc places }))

-- of a sweep, which has at most 32 legs: the sum over them
abbrev pub sweep_worth : BookParts → ℕ → Worth
sweep_worth book number = worth_below (leg_worth book) number 32

-- up to the greatest numbers of its parts
abbrev pub capped : Worth → Worth
capped worth = record {
  value = min worth.value 340282366920938463463374607431768211455;
  unpriced = min worth.unpriced 18446744073709551615;
}
