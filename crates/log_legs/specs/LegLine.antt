-- The lines of a log's orders, and of its sweeps.
use Rattle.std.specs.Prelude.{ℕ, zero, suc, List, [], ◌∷◌, ◌++◌, length, codes, decimal, Option, Some, None}
use Rattle.fix_tags.specs.Price.{price_short}
use Rattle.leg.specs.Side.{side_text}
use Rattle.leg.specs.declared.side.Side.{Side}
use Rattle.desk_news.specs.Sweep.{parts_text, sweep_text}
use Rattle.message_log.specs.Line.{logged}
use Rattle.log_legs.specs.Fate.{fate_text, leg_said}
use Rattle.log_legs.specs.Legs.{WatchParts}
use Rattle.log_legs.specs.Sweeps.{sums_after}
use Rattle.log_legs.specs.declared.leg_said.LegSaid.{LegSaid}
use Rattle.log_legs.specs.declared.sweep_sums.SweepTotals.{SweepTotals}

-- `?` for what can't be read
abbrev pub symbol_shown : List ℕ → List ℕ
symbol_shown [] = codes "?"
symbol_shown (c ∷ cs) = logged (c ∷ cs)

abbrev pub side_shown : Option Side → List ℕ
side_shown None = codes "?"
side_shown (Some side) = side_text side

abbrev pub price_shown : Option ℕ → List ℕ
price_shown None = codes "?"
price_shown (Some price) = price_short price

-- an order's terms, as `IBM buy 100 10.25`
abbrev pub terms_shown : LegSaid → List ℕ
terms_shown leg =
    symbol_shown leg.symbol ++ codes " " ++ side_shown leg.side ++ codes " " ++ decimal leg.shares ++ codes " "
    ++ price_shown leg.price

-- which order it is, what became of it, and how it was sent, as `leg S1L1 taken number 3 sent 1 `
abbrev pub head_shown : LegSaid → List ℕ
head_shown leg =
    codes "leg " ++ logged leg.id ++ codes " " ++ fate_text leg.fate ++ codes " number " ++ decimal leg.number
    ++ codes " sent " ++ decimal leg.sent ++ codes " "

-- an order, as
-- `leg S1L1 taken number 3 sent 1 IBM buy 100 10.25 filled 60 busted 0 cancelled 40 withdrawn 0 open 0`
abbrev pub leg_line : LegSaid → List ℕ
leg_line leg = head_shown leg ++ terms_shown leg ++ codes " " ++ parts_text leg.totals ++ 10 ∷ []

-- a sweep, as `dispatch run` tells it
abbrev pub sweep_line : ℕ → SweepTotals → List ℕ
sweep_line number sums =
    sweep_text (record { sweep = number; shares = sums.shares; totals = sums.totals }) ++ 10 ∷ []

abbrev pub line_if : Option LegSaid → List ℕ
line_if None = []
line_if (Some leg) = leg_line leg

-- the lines of the first orders, so many of them
abbrev pub leg_lines : WatchParts → ℕ → List ℕ
leg_lines w zero = []
leg_lines w (suc n) = leg_lines w n ++ line_if (leg_said w n)

abbrev pub sums_if : Option LegSaid → List (ℕ × SweepTotals) → List (ℕ × SweepTotals)
sums_if None sums = sums
sums_if (Some leg) sums = sums_after leg sums

-- the sums of the sweeps over the first orders, so many of them
abbrev pub sums_of : WatchParts → ℕ → List (ℕ × SweepTotals)
sums_of w zero = []
sums_of w (suc n) = sums_if (leg_said w n) (sums_of w n)

abbrev pub sweep_lines : List (ℕ × SweepTotals) → List ℕ
sweep_lines [] = []
sweep_lines (e ∷ es) = sweep_line e.0 e.1 ++ sweep_lines es

-- a line for each order, and then one for each sweep
abbrev pub legs_text : WatchParts → List ℕ
legs_text w = leg_lines w (length w.checker.ledger.orders) ++ sweep_lines (sums_of w (length w.checker.ledger.orders))
