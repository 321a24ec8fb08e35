-- What a move makes of a leg's five parts, by the calls of a split.
use Rattle.std.specs.Prelude.{ℕ, List, filter, sum_by, Ok, bytes_eq}
use Rattle.leg.specs.Split.{SplitParts, SplitAnswer, split_fill, split_cancel_rest, split_bust}
use Rattle.share_ledger.specs.Shares.{Move, Trades, Busts, Ends, Tells, trades}

-- the shares that were traded under an id
abbrev pub traded_under : List ℕ → List Move → ℕ
traded_under exec moves = sum_by (λ trade. trade.shares) (filter (λ trade. bytes_eq exec trade.exec) (trades moves))

-- a trade fills its shares, a bust undoes those of its trade, an end cancels what is open
abbrev pub split_step : List Move → Move → SplitParts → SplitAnswer
split_step moves (Trades trade) parts = split_fill parts trade.shares
split_step moves (Busts exec) parts = split_bust parts (traded_under exec moves)
split_step moves Ends parts = (Ok tt, split_cancel_rest parts)
split_step moves Tells parts = (Ok tt, parts)
