-- The message that a text of the log says: `|` is SOH, `\|` and `\\` are a bar and a backslash, `\xNN` is a byte that
-- is neither printable nor SOH, and any other printable byte is itself.
use Rattle.std.specs.Prelude.{◌≡◌, ℕ, ◌+◌, ◌*◌, ◌-◌, ◌<◌, ◌||◌, ◌&&◌, List, [], ◌∷◌, ◌++◌, Option, Some, None, Result, Ok, Err, nat_le, ◌==◌, if◌then◌else◌}
use Rattle.desk_words.specs.Printable.{is_printable_byte}
use Rattle.log_text.specs.declared.fault.LineFault.{LineFault}
use Rattle.log_text.specs.declared.fault.LineFault.TheVariants.{Byte as UnprintableByte, Escape as BadEscape, OutOfMemory}
use Rattle.log_text.specs.declared.step.Escape.{Escape}
use Rattle.log_text.specs.declared.step.Escape.TheVariants.{Closed, Backslash, Hex, Digit}
use Rattle.log_text.specs.declared.step.Step.{Step}
use Rattle.log_text.specs.declared.step.Step.TheVariants.{Byte, Open}

-- the value of a digit in lower-case hexadecimal
abbrev pub hex_value : ℕ → Option ℕ
hex_value c =
    if nat_le 48 c && nat_le c 57 then Some (c - 48)
    else (if nat_le 97 c && nat_le c 102 then Some (c - 97 + 10) else None)

-- what a byte behind no backslash gives
abbrev pub plain_step : ℕ → Result Step LineFault
plain_step c =
    if c == 124 then Ok (Byte 1)
    else (if c == 92 then Ok (Open Backslash)
    else (if is_printable_byte c then Ok (Byte c) else Err UnprintableByte))

-- what a byte behind a backslash gives
abbrev pub escaped_step : ℕ → Result Step LineFault
escaped_step c =
    if c == 124 || c == 92 then Ok (Byte c) else (if c == 120 then Ok (Open Hex) else Err BadEscape)

-- a byte in two digits, which is neither printable nor SOH
abbrev pub byte_of_digits : ℕ → Option ℕ → Result Step LineFault
byte_of_digits high None = Err BadEscape
byte_of_digits high (Some low) =
    let byte = 16 * high + low in if byte == 1 || is_printable_byte byte then Err BadEscape else Ok (Byte byte)

-- what the second digit of a byte gives
abbrev pub hex_step : ℕ → ℕ → Result Step LineFault
hex_step high c = byte_of_digits high (hex_value c)

-- what the first digit gives
abbrev pub first_digit : Option ℕ → Result Step LineFault
first_digit None = Err BadEscape
first_digit (Some high) = Ok (Open (Digit high))

-- what the next byte gives
abbrev pub step : Escape → ℕ → Result Step LineFault
step Closed c = plain_step c
step Backslash c = escaped_step c
step Hex c = first_digit (hex_value c)
step (Digit high) c = hex_step high c

-- the digit of an open escape is one
abbrev pub IsEscape : Escape → Type 0
IsEscape (Digit high) = high < 16
IsEscape other = Unit {0}

abbrev pub IsStep : Step → Type 0
IsStep (Byte byte) = Unit {0}
IsStep (Open escape) = IsEscape escape

-- bytes before those that are said
abbrev pub behind : List ℕ → Result (List ℕ) LineFault → Result (List ℕ) LineFault
behind front (Ok rest) = Ok (front ++ rest)
behind front (Err fault) = Err fault

-- the message once a step was taken, where `later` says the rest
abbrev pub stepped : (Escape → Result (List ℕ) LineFault) → Result Step LineFault → Result (List ℕ) LineFault
stepped later (Ok (Byte byte)) = behind (byte ∷ []) (later Closed)
stepped later (Ok (Open escape)) = later escape
stepped later (Err fault) = Err fault

-- a text ends in no escape
abbrev pub ended : Escape → Result (List ℕ) LineFault
ended Closed = Ok []
ended other = Err BadEscape

-- the message that the rest of a text says
abbrev pub read_on : List ℕ → Escape → Result (List ℕ) LineFault
read_on [] escape = ended escape
read_on (c ∷ cs) escape = stepped (read_on cs) (step escape c)

-- the message that a text says
abbrev pub message_said : List ℕ → Result (List ℕ) LineFault
message_said text = read_on text Closed

-- the message that a text says, or its first fault; or out of memory
abbrev pub ReadsMessage : Result (List ℕ) LineFault → Result (Unit {0}) LineFault → List ℕ → Type 0
ReadsMessage said (Ok done) message = said ≡ Ok message
ReadsMessage said (Err OutOfMemory) message = Unit {0}
ReadsMessage said (Err fault) message = said ≡ Err fault
