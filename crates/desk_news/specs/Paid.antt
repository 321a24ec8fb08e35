-- What was paid for shares, in words.
use Rattle.std.specs.Prelude.{ℕ, ◌-◌, ◌&&◌, List, [], Option, Some, None, ◌++◌, codes, decimal, nat_le, nat_lt, ◌==◌, if◌then◌else◌}
use Rattle.exact_price.specs.Shown.{average, exact_text}
use Rattle.desk_news.specs.declared.paid.Paid.{Paid}
use Rattle.desk_news.specs.declared.paid.PaidSweep.{PaidSweep}
use Rattle.desk_news.specs.Sweep.{sweep_text}

-- the average price of so many shares, where there are some, of a value that isn't above 10^38
abbrev pub average_in : ℕ → ℕ → Option ℕ
average_in value shares =
    if nat_lt 0 shares && nat_le value 100_000_000_000_000_000_000_000_000_000_000_000_000
    then Some (average value shares)
    else None

-- that of the shares whose price is known, in hundred-millionths; none where there are none
abbrev pub average_of : Paid → Option ℕ
average_of paid = average_in paid.worth.value (paid.filled - paid.worth.unpriced)

-- what was paid and the average price, where that is known, as ` paid 615 average 10.25`
abbrev pub worth_text : Option ℕ → ℕ → List ℕ
worth_text None value = []
worth_text (Some price) value = codes " paid " ++ exact_text value ++ codes " average " ++ exact_text price

-- shares whose price isn't known, and shares that are disputed, where there are some
abbrev pub unpriced_text : ℕ → List ℕ
unpriced_text shares = if shares == 0 then [] else codes " price unknown " ++ decimal shares

abbrev pub disputed_text : ℕ → List ℕ
disputed_text shares = if shares == 0 then [] else codes " disputed " ++ decimal shares

-- as ` paid 615 average 10.25 price unknown 40 disputed 300`
abbrev pub paid_text : Paid → List ℕ
paid_text paid =
    worth_text (average_of paid) paid.worth.value ++ unpriced_text paid.worth.unpriced ++ disputed_text paid.disputed

-- as `sweep 12 legs 150 filled 60 busted 0 cancelled 40 withdrawn 0 open 50 paid 615 average 10.25`
abbrev pub paid_sweep_text : PaidSweep → List ℕ
paid_sweep_text sweep = sweep_text sweep.parts ++ paid_text sweep.paid
