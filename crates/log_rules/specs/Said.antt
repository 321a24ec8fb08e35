-- What a body says, as far as the rules look at it (FIX 4.4 Volumes 2 and 4).
use Rattle.std.specs.Prelude.{ℕ, Bool, false, List, [], ◌∷◌, codes, length, Option, Some, None, option_and_then, unwrap_or, nat_le, ◌==◌, ◌||◌, if◌then◌else◌}
use Rattle.std.specs.Str.{bytes_eq}
use Rattle.fix_text.specs.Tagged.{Tagged, value_of}
use Rattle.fix_tags.specs.Body.{Body}
use Rattle.fix_tags.specs.declared.body.Body.TheVariants as body
use Rattle.fix_tags.specs.Number.{number_of}
use Rattle.fix_tags.specs.Price.{price_of}
use Rattle.fix_tags.specs.Shares.{shares_of}
use Rattle.fix_tags.specs.declared.session_body.SessionBody.{SessionBody}
use Rattle.fix_tags.specs.declared.session_body.SessionBody.TheVariants as session
use Rattle.leg.specs.declared.side.Side.{Side}
use Rattle.leg.specs.declared.side.Side.TheVariants.{Buy, Sell}
use Rattle.log_rules.specs.declared.report_said.ReportSaid.{ReportSaid}
use Rattle.log_rules.specs.declared.report_said.Happening.{Happening}
use Rattle.log_rules.specs.declared.report_said.Happening.TheVariants as happening
use Rattle.log_rules.specs.declared.says.Says.{Says}
use Rattle.log_rules.specs.declared.says.Says.TheVariants.{Logon, Answer, ResendRequest, GapFill, Reset, Logout, Refused, Order, Report, Other}

-- a number without a leading zero
abbrev pub fence_digits : List ℕ → Option ℕ
fence_digits [] = number_of []
fence_digits (c ∷ cs) = if c == 48 then None else number_of (c ∷ cs)

-- the number of the fence that an id names: `F` and the number
abbrev pub fence_number : List ℕ → Option ℕ
fence_number [] = None
fence_number (c ∷ cs) = if c == 70 then fence_digits cs else None

-- a Heartbeat that answers a fence
abbrev pub answer_of : Option ℕ → Says
answer_of None = Other
answer_of (Some fence) = Answer fence

-- a Heartbeat, with the id (112) that it answers
abbrev pub heartbeat_said : Option (List ℕ) → Says
heartbeat_said None = Other
heartbeat_said (Some id) = answer_of (fence_number id)

-- a refusal of the message under a number (45)
abbrev pub refusal_of : Option ℕ → Says
refusal_of None = Other
refusal_of (Some number) = Refused number

-- a message of the session
abbrev pub session_said : SessionBody → Says
session_said (session.Logon heart reset next) = Logon heart reset next
session_said (session.Heartbeat id) = heartbeat_said id
session_said (session.ResendRequest begin last) = ResendRequest begin last
session_said (session.GapFill new_number) = GapFill new_number
session_said (session.Reset new_number) = Reset new_number
session_said session.Logout = Logout
session_said (session.Reject number) = Refused number
session_said (session.BusinessReject number) = refusal_of number
session_said _ = Other

-- the shares that a field says
abbrev pub shares_at : List Tagged → ℕ → Option ℕ
shares_at fields tag = option_and_then shares_of (value_of fields tag)

-- the price that a field says
abbrev pub price_at : List Tagged → ℕ → Option ℕ
price_at fields tag = option_and_then price_of (value_of fields tag)

-- a side (54)
abbrev pub side_of : List ℕ → Option Side
side_of text =
    if bytes_eq text (codes "1") then Some Buy else (if bytes_eq text (codes "2") then Some Sell else None)

abbrev pub side_at : List Tagged → Option Side
side_at fields = option_and_then side_of (value_of fields 54)

-- an order of an id (11)
abbrev pub order_with : List Tagged → Option (List ℕ) → Says
order_with fields None = Other
order_with fields (Some id) = Order (record {
  id = id;
  shares = unwrap_or (shares_at fields 38) 0;
  symbol = value_of fields 55;
  suffix = value_of fields 65;
  side = side_at fields;
  price = price_at fields 44;
})

-- an order, which has an id
abbrev pub order_said : List Tagged → Says
order_said fields = order_with fields (value_of fields 11)

-- a price (31) of a trade has at most 20 bytes
abbrev pub is_priced : Option (List ℕ) → Bool
is_priced None = false
is_priced (Some text) = nat_le (length text) 20

abbrev pub trade_with : Option ℕ → Happening
trade_with None = happening.Unknown
trade_with (Some shares) = happening.Trade shares

-- a trade of so many shares (32), at a price (31)
abbrev pub trade_of : List Tagged → Happening
trade_of fields =
    if is_priced (value_of fields 31) then trade_with (shares_at fields 32) else happening.Unknown

abbrev pub bust_with : Option (List ℕ) → Happening
bust_with None = happening.Unknown
bust_with (Some undone) = happening.Bust undone

-- a bust of the trade whose report had this id (19)
abbrev pub bust_of : List Tagged → Happening
bust_of fields = bust_with (value_of fields 19)

-- the bytes of ExecType (150) that end an order: `3`, `4`, `8` and `C`
abbrev pub is_end : ℕ → Bool
is_end c = c == 51 || c == 52 || c == 56 || c == 67

-- those of the standard's other kinds, which move no shares here: `5`, `6`, `7`, `9`, `A`, `B`, `D`, `E`, `G`, `I`
abbrev pub is_other : ℕ → Bool
is_other c =
    c == 53 || c == 54 || c == 55 || c == 57 || c == 65 || c == 66 || c == 68 || c == 69 || c == 71 || c == 73

-- what happened by the byte of ExecType (150)
abbrev pub happening_by : List Tagged → ℕ → Happening
happening_by fields c =
    if c == 48 then happening.New
    else (if c == 70 then trade_of fields
    else (if is_end c then happening.Ended
    else (if c == 72 then bust_of fields
    else (if is_other c then happening.Other else happening.Unknown))))

abbrev pub happening_with : List Tagged → Option (List ℕ) → Happening
happening_with fields (Some (c ∷ [])) = happening_by fields c
happening_with fields _ = happening.Unknown

-- what happened
abbrev pub happening_of : List Tagged → Happening
happening_of fields = happening_with fields (value_of fields 150)

abbrev pub report_with : List Tagged → Option (List ℕ) → Option (List ℕ) → Option ReportSaid
report_with fields (Some id) (Some exec) = Some (record {
  id = id;
  exec = exec;
  happened = happening_of fields;
  cum = shares_at fields 14;
  leaves = shares_at fields 151;
  price = price_at fields 31;
  symbol = value_of fields 55;
  side = side_at fields;
  status = value_of fields 39;
})
report_with fields id exec = None

-- a report, which has the id of an order (11) and its own (17)
abbrev pub report_of : List Tagged → Option ReportSaid
report_of fields = report_with fields (value_of fields 11) (value_of fields 17)

abbrev pub report_said : Option ReportSaid → Says
report_said None = Other
report_said (Some report) = Report report

abbrev pub application_by : List Tagged → ℕ → Says
application_by fields c =
    if c == 68 then order_said fields else (if c == 56 then report_said (report_of fields) else Other)

-- an application message of a kind (35)
abbrev pub application_said : List ℕ → List Tagged → Says
application_said (c ∷ []) fields = application_by fields c
application_said _ fields = Other

-- what a body says
abbrev pub said_by : Body → Says
said_by (body.Session says) = session_said says
said_by (body.App kind fields) = application_said kind fields
