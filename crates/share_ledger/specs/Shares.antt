-- The share rule: what the notes booked on a leg, and its withdrawal, make of its shares (FIX 4.4 Volume 4, ExecType,
-- LastQty, ExecID, ExecRefID).
use Rattle.std.specs.Prelude.{ℕ, ◌+◌, ◌-◌, Bool, not, List, [], ◌∷◌, filter, sum_by, bytes_eq, if◌then◌else◌}
use Rattle.std.specs.List.{list_any}
use Rattle.leg.specs.Split.{SplitParts}
use Rattle.dialect.specs.declared.note.Note.{Note}
use Rattle.dialect.specs.declared.note.Note.TheVariants as note
use Rattle.dialect.specs.declared.report.ReportKind.{ReportKind}
use Rattle.dialect.specs.declared.report.ReportKind.TheVariants.{New, Trade, Canceled, Rejected, Expired, Bust}

-- a trade of so many shares (LastQty), under the id of its report
pub record Traded : Type 0 where
  pub exec : List ℕ
  pub shares : ℕ

-- what a note does to its leg
pub data Move : Type 0 where
  -- some open shares are traded
  Trades : (trade : Traded) → Move
  -- the trade of this id is undone
  Busts : (exec : List ℕ) → Move
  -- what is open is cancelled
  Ends : Move
  -- no share moves
  Tells : Move

-- what a report does, by its ExecType (150)
abbrev pub move_of_kind : List ℕ → ReportKind → Move
move_of_kind exec New = Tells
move_of_kind exec (Trade fill) = Trades (record { exec = exec; shares = fill.shares })
move_of_kind exec Canceled = Ends
move_of_kind exec Rejected = Ends
move_of_kind exec Expired = Ends
move_of_kind exec (Bust cancelled_id) = Busts cancelled_id

-- what a note does
abbrev pub move_of : Note → Move
move_of (note.Report report) = move_of_kind report.exec report.kind
move_of (note.Refused id) = Ends
move_of (note.Unread fault) = Tells

-- the trades, in order
abbrev pub trades : List Move → List Traded
trades [] = []
trades (Trades trade ∷ moves) = trade ∷ trades moves
trades (Busts exec ∷ moves) = trades moves
trades (Ends ∷ moves) = trades moves
trades (Tells ∷ moves) = trades moves

-- the ids of the trades that were busted
abbrev pub busted_ids : List Move → List (List ℕ)
busted_ids [] = []
busted_ids (Trades trade ∷ moves) = busted_ids moves
busted_ids (Busts exec ∷ moves) = exec ∷ busted_ids moves
busted_ids (Ends ∷ moves) = busted_ids moves
busted_ids (Tells ∷ moves) = busted_ids moves

-- whether a list has this id
abbrev pub has_id : List ℕ → List (List ℕ) → Bool
has_id exec ids = list_any (bytes_eq exec) ids

-- whether a trade was busted
abbrev pub is_busted : List Move → Traded → Bool
is_busted moves trade = has_id trade.exec (busted_ids moves)

-- the shares of the trades that no bust names
abbrev pub filled_shares : List Move → ℕ
filled_shares moves = sum_by (λ trade. trade.shares) (filter (λ trade. not (is_busted moves trade)) (trades moves))

-- the shares of the trades that a bust names, which are never open again
abbrev pub busted_shares : List Move → ℕ
busted_shares moves = sum_by (λ trade. trade.shares) (filter (is_busted moves) (trades moves))

-- what was open at the first end, of so many open shares: each trade before it took some
abbrev pub cancelled_shares : ℕ → List Move → ℕ
cancelled_shares open_shares [] = 0
cancelled_shares open_shares (Trades trade ∷ moves) = cancelled_shares (open_shares - trade.shares) moves
cancelled_shares open_shares (Busts exec ∷ moves) = cancelled_shares open_shares moves
cancelled_shares open_shares (Ends ∷ moves) = open_shares
cancelled_shares open_shares (Tells ∷ moves) = cancelled_shares open_shares moves

-- a withdrawal takes all the shares
abbrev pub withdrawn_shares : ℕ → Bool → ℕ
withdrawn_shares shares is_withdrawn = if is_withdrawn then shares else 0

-- the shares of a leg that aren't open
abbrev pub resolved : ℕ → Bool → List Move → ℕ
resolved shares is_withdrawn moves =
    filled_shares moves + busted_shares moves + cancelled_shares shares moves + withdrawn_shares shares is_withdrawn

-- the five parts of a leg's shares; what is open is the rest
abbrev pub parts_of : ℕ → Bool → List Move → SplitParts
parts_of shares is_withdrawn moves =
    record {
      filled = filled_shares moves;
      busted = busted_shares moves;
      cancelled = cancelled_shares shares moves;
      withdrawn = withdrawn_shares shares is_withdrawn;
      still_open = shares - resolved shares is_withdrawn moves;
    }
