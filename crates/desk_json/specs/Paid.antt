-- What was paid for shares, in JSON.
use Rattle.std.specs.Prelude.{ℕ, List, Option, Some, None, ◌++◌, codes, decimal}
use Rattle.exact_price.specs.Shown.{exact_text}
use Rattle.desk_news.specs.Paid.{average_of}
use Rattle.desk_news.specs.declared.paid.Paid.{Paid}

-- the average price, as `,"average":"10.25"`
abbrev pub average_json : Option ℕ → List ℕ
average_json None = codes ",\"average\":null"
average_json (Some price) = codes ",\"average\":\"" ++ exact_text price ++ codes "\""

-- what was paid, in hundred-millionths (10^-8) of the currency's unit, as
-- `,"paid_e8":61500000000,"average":"10.25","price_unknown":0,"disputed":0`
unfoldable pub paid_json : Paid → List ℕ
paid_json paid =
    codes ",\"paid_e8\":" ++ decimal paid.worth.value ++ average_json (average_of paid)
    ++ codes ",\"price_unknown\":" ++ decimal paid.worth.unpriced ++ codes ",\"disputed\":" ++ decimal paid.disputed
