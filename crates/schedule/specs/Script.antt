-- A replay script: which text says which events.
use Rattle.std.specs.Prelude.{ℕ, suc, ◌-◌, Bool, true, false, ◌&&◌, List, [], ◌∷◌, length, map, codes, Option, Some, None, option_map, option_and_then, Result, Ok, Err, ◌==◌, nat_le, if◌then◌else◌}
use Rattle.std.specs.Char.{is_ascii_graphic}
use Rattle.std.specs.List.{list_all}
use Rattle.std.specs.Str.{bytes_eq}
use Rattle.text_pieces.specs.Pieces.{pieces}
use Rattle.fix_tags.specs.Digits.{within}
use Rattle.fix_tags.specs.Number.{number_of}
use Rattle.leg.specs.declared.side.Side.{Side}
use Rattle.leg.specs.declared.side.Side.TheVariants.{Buy, Sell}
use Rattle.leg.specs.declared.sweep.Routed.{Routed}
use Rattle.dialect.specs.JoinedSymbol.{joined_symbol_of}
use Rattle.dialect.specs.declared.any_dialect.AnyDialect.{AnyDialect}
use Rattle.dialect.specs.DialectName.{dialect_named}
use Rattle.schedule.specs.declared.act.Act.TheVariants as act
use Rattle.schedule.specs.declared.event.Event.{Event}
use Rattle.schedule.specs.declared.event.Event.TheVariants as event

-- the number that no message of a session has; for each venue its dialect, and whether it chose to be told the next
-- expected number (789); and the events
pub record ScriptParts : Type 0 where
  pub max_number : ℕ
  pub dialects : List AnyDialect
  pub next : List Bool
  pub events : List Event

-- the lines: each ends with LF, which the last one may lack
abbrev pub without_empty_end : List (List ℕ) → List (List ℕ)
without_empty_end [] = []
without_empty_end ([] ∷ []) = []
without_empty_end (line ∷ lines) = line ∷ without_empty_end lines

abbrev pub lines_of : List ℕ → List (List ℕ)
lines_of text = without_empty_end (pieces 10 text)

-- the words of a line, parted by one space
abbrev pub words_of : List ℕ → List (List ℕ)
words_of line = pieces 32 line

-- a blank line, and a remark, which begins with `#`, are passed over
abbrev pub is_passed_over : List ℕ → Bool
is_passed_over [] = true
is_passed_over (byte ∷ bytes) = byte == 35

-- a number within limits
abbrev pub number_within : ℕ → ℕ → List ℕ → Option ℕ
number_within least most word = option_and_then (within least most) (number_of word)

-- the number of a venue of the script; which frame, order or trade it is, from 1; and shares
abbrev pub venue_word : ℕ → List ℕ → Option ℕ
venue_word venues word = number_within 0 (venues - 1) word

abbrev pub count_word : List ℕ → Option ℕ
count_word word = number_within 1 999999999 word

abbrev pub shares_word : List ℕ → Option ℕ
shares_word word = number_within 1 1000000 word

-- the price of a trade: 1 to 20 printable bytes
abbrev pub px_word : List ℕ → Option (List ℕ)
px_word word =
    if nat_le 1 (length word) && nat_le (length word) 20 && list_all is_ascii_graphic word then Some word else None

abbrev pub side_word : List ℕ → Option Side
side_word word =
    if bytes_eq word (codes "buy") then Some Buy else (if bytes_eq word (codes "sell") then Some Sell else None)

-- a leg of a release: venue 0 to 15, symbol in Plain, side, shares, and price in ten-thousandths
abbrev pub leg_of_words : List ℕ → List ℕ → List ℕ → List ℕ → List ℕ → Option Routed
leg_of_words v symbol side shares price =
    option_and_then (λ venue.
    option_and_then (λ parts.
    option_and_then (λ which.
    option_and_then (λ n.
    option_map (λ limit.
    record { venue = venue; terms = record { symbol = parts; side = which; shares = n; price = limit } })
    (number_within 1 9999999999 price))
    (shares_word shares))
    (side_word side))
    (joined_symbol_of 46 symbol))
    (number_within 0 15 v)

-- the legs of a release, parted by `+`
abbrev pub before : Option Routed → Option (List Routed) → Option (List Routed)
before leg legs = option_and_then (λ first. option_map (λ rest. first ∷ rest) legs) leg

abbrev pub legs_of_words : List (List ℕ) → Option (List Routed)
legs_of_words (v ∷ symbol ∷ side ∷ shares ∷ price ∷ []) = before (leg_of_words v symbol side shares price) (Some [])
legs_of_words (v ∷ symbol ∷ side ∷ shares ∷ price ∷ plus ∷ words) =
    if bytes_eq plus (codes "+") then before (leg_of_words v symbol side shares price) (legs_of_words words) else None
legs_of_words _ = None

-- a release with no words is one of no legs
abbrev pub release_of_words : List (List ℕ) → Option Event
release_of_words [] = Some (event.Release (record { legs = [] }))
release_of_words (word ∷ words) =
    option_map (λ legs. event.Release (record { legs = legs })) (legs_of_words (word ∷ words))

-- the events of a venue alone
abbrev pub venue_event : List ℕ → ℕ → Option Event
venue_event name v =
    if bytes_eq name (codes "up") then Some (event.GateUp v)
    else (if bytes_eq name (codes "down") then Some (event.GateDown v)
    else (if bytes_eq name (codes "drop") then Some (event.Drop v)
    else (if bytes_eq name (codes "take") then Some (event.Take v)
    else (if bytes_eq name (codes "connect") then Some (event.Connect v)
    else (if bytes_eq name (codes "break") then Some (event.Break v)
    else (if bytes_eq name (codes "xbreak") then Some (event.ExchangeBreak v)
    else (if bytes_eq name (codes "test") then Some (event.Act v act.Test)
    else (if bytes_eq name (codes "quiet") then Some (event.Quiet v)
    else (if bytes_eq name (codes "silent") then Some (event.Silent v)
    else (if bytes_eq name (codes "close") then Some (event.Close v)
    else (if bytes_eq name (codes "abandon") then Some (event.Abandon v)
    else None)))))))))))

-- those of a venue and a frame, or an order
abbrev pub count_event : List ℕ → ℕ → ℕ → Option Event
count_event name v k =
    if bytes_eq name (codes "to") then Some (event.ToExchange v k)
    else (if bytes_eq name (codes "from") then Some (event.ToDispatcher v k)
    else (if bytes_eq name (codes "cancel") then Some (event.Act v (act.CancelRest k))
    else (if bytes_eq name (codes "reject") then Some (event.Act v (act.Reject k))
    else None)))

-- the event of a name and the words behind it
abbrev pub event_of : ℕ → List ℕ → List (List ℕ) → Option Event
event_of venues name (v ∷ []) = option_and_then (venue_event name) (venue_word venues v)
event_of venues name (v ∷ k ∷ []) =
    option_and_then (λ venue. option_and_then (count_event name venue) (count_word k)) (venue_word venues v)
event_of venues name (v ∷ i ∷ j ∷ []) =
    if bytes_eq name (codes "bust")
    then option_and_then (λ venue.
    option_and_then (λ order.
    option_map (λ which. event.Act venue (act.Bust order which))
    (count_word j))
    (count_word i))
    (venue_word venues v)
    else None
event_of venues name (v ∷ i ∷ n ∷ px ∷ []) =
    if bytes_eq name (codes "trade")
    then option_and_then (λ venue.
    option_and_then (λ order.
    option_and_then (λ shares.
    option_map (λ price. event.Act venue (act.Trade order shares price))
    (px_word px))
    (shares_word n))
    (count_word i))
    (venue_word venues v)
    else None
event_of venues name _ = None

abbrev pub event_of_words : ℕ → List (List ℕ) → Option Event
event_of_words venues [] = None
event_of_words venues (name ∷ words) =
    if bytes_eq name (codes "release") then release_of_words words else event_of venues name words

-- a dialect by its name, with `+789` behind it where the venue is told the next expected number
pub record ScriptVenue : Type 0 where
  pub dialect : AnyDialect
  pub next : Bool

abbrev pub venue_of_parts : List (List ℕ) → Option ScriptVenue
venue_of_parts (name ∷ []) = option_map (λ dialect. record { dialect = dialect; next = false }) (dialect_named name)
venue_of_parts (name ∷ tag ∷ []) =
    if bytes_eq tag (codes "789")
    then option_map (λ dialect. record { dialect = dialect; next = true }) (dialect_named name)
    else None
venue_of_parts _ = None

abbrev pub venues_of_words : List (List ℕ) → Option (List ScriptVenue)
venues_of_words [] = Some []
venues_of_words (word ∷ words) =
    option_and_then (λ first.
    option_map (λ rest. first ∷ rest)
    (venues_of_words words))
    (venue_of_parts (pieces 43 word))

-- the first line: `venues`, the number that no message has, and 1 to 16 venues
pub record ScriptHead : Type 0 where
  pub max_number : ℕ
  pub venues : List ScriptVenue

abbrev pub is_venue_count : ℕ → Bool
is_venue_count n = nat_le 1 n && nat_le n 16

abbrev pub head_of_words : List (List ℕ) → Option ScriptHead
head_of_words (name ∷ number ∷ words) =
    if bytes_eq name (codes "venues") && is_venue_count (length words)
    then option_and_then (λ max_number.
    option_map (λ venues. record { max_number = max_number; venues = venues })
    (venues_of_words words))
    (number_within 16 999999999 number)
    else None
head_of_words _ = None

-- the events of the lines, of which the first has this number, or the number of the first bad line
abbrev pub with_event : ℕ → Option Event → Result (List Event) ℕ → Result (List Event) ℕ
with_event number None rest = Err number
with_event number (Some event) (Ok events) = Ok (event ∷ events)
with_event number (Some event) (Err line) = Err line

abbrev pub events_of_lines : ℕ → ℕ → List (List ℕ) → Result (List Event) ℕ
events_of_lines venues number [] = Ok []
events_of_lines venues number (line ∷ lines) =
    if is_passed_over line then events_of_lines venues (suc number) lines
    else with_event number (event_of_words venues (words_of line)) (events_of_lines venues (suc number) lines)

abbrev pub with_events : ScriptHead → Result (List Event) ℕ → Result ScriptParts ℕ
with_events head (Ok events) =
    Ok (record {
      max_number = head.max_number;
      dialects = map (λ venue. venue.dialect) head.venues;
      next = map (λ venue. venue.next) head.venues;
      events = events;
    })
with_events head (Err line) = Err line

abbrev pub after_head : ℕ → List (List ℕ) → Option ScriptHead → Result ScriptParts ℕ
after_head number lines None = Err number
after_head number lines (Some head) = with_events head (events_of_lines (length head.venues) (suc number) lines)

-- blank lines and remarks may stand before the first line; where it is missing the fault is one above the last line
abbrev pub script_of_lines : ℕ → List (List ℕ) → Result ScriptParts ℕ
script_of_lines number [] = Err number
script_of_lines number (line ∷ lines) =
    if is_passed_over line then script_of_lines (suc number) lines
    else after_head number lines (head_of_words (words_of line))

-- the script of a text, or the number of the first line that isn't of this form
abbrev pub script_of : List ℕ → Result ScriptParts ℕ
script_of text = script_of_lines 1 (lines_of text)
