-- How a stream of bytes is read: what stands at a place, and what a call of the reader gives (FIX 4.4 Volume 2,
-- "Message structure").
use Rattle.std.specs.Prelude.{◌≡◌, ◌≤◌, IsTrue, ℕ, zero, suc, ◌+◌, ◌-◌, ◌*◌, ◌^◌, ◌%◌, ◌&&◌, ◌||◌, List, [], ◌∷◌, ◌++◌, length, take, drop, slice_index, sum, min, codes, Option, Some, None, option_map, option_and_then, Result, Ok, Err, nat_lt, nat_le, ◌==◌, if◌then◌else◌}
use Rattle.std.specs.Char.{is_ascii_digit}
use Rattle.fix_text.specs.Then.{◌>>=◌}
use Rattle.fix_text.specs.Tagged.{Tagged}
use Rattle.fix_text.specs.Text.{fields_text, begins_with_type, has_writable_tags, has_writable_values}
use Rattle.fix_text.specs.Frame.{frame_text}
use Rattle.fix_text.specs.Grammar.{opening}
use Rattle.fix_text.specs.declared.parse.NoFrame.{NoFrame}
use Rattle.fix_text.specs.declared.parse.NoFrame.TheVariants.{Short, Differs}

-- what follows these very bytes
unfoldable pub literal_at : List ℕ → List ℕ → Result (List ℕ) NoFrame
literal_at [] bytes = Ok bytes
literal_at (wanted ∷ more) [] = Err Short
literal_at (wanted ∷ more) (byte ∷ bytes) = if byte == wanted then literal_at more bytes else Err Differs

-- a digit's value, and what follows it
unfoldable pub digit_at : List ℕ → Result (ℕ × List ℕ) NoFrame
digit_at [] = Err Short
digit_at (byte ∷ bytes) = if is_ascii_digit byte then Ok (byte - 48, bytes) else Err Differs

-- BodyLength (9) up to its SOH, and what follows it: the digits so far have the value n, and at most `left` may still
-- come
unfoldable pub length_at : ℕ → ℕ → List ℕ → Result (ℕ × List ℕ) NoFrame
length_at left n [] = if nat_le n 4096 && (nat_lt 0 n || nat_lt 0 left) then Err Short else Err Differs
length_at left n (byte ∷ bytes) =
    if byte == 1 then (if nat_lt 0 n && nat_le n 4096 then Ok (n, bytes) else Err Differs)
    else (if is_ascii_digit byte && nat_lt 0 left && nat_le n 4096
    then length_at (left - 1) (10 * n + (byte - 48)) bytes else Err Differs)

-- n bytes of which the last is SOH, and what follows them
unfoldable pub body_at : ℕ → List ℕ → Result (List ℕ × List ℕ) NoFrame
body_at n bytes =
    if nat_lt (length bytes) n then Err Short
    else (if slice_index bytes (n - 1) == 1 then Ok (take n bytes, drop n bytes) else Err Differs)

-- the number of `10=ddd|`, and what follows it
unfoldable pub trailer_at : List ℕ → Result (ℕ × List ℕ) NoFrame
trailer_at bytes = do
  digits ← literal_at (codes "10=") bytes
  a ← digit_at digits
  b ← digit_at a.1
  c ← digit_at b.1
  rest ← literal_at (1 ∷ []) c.1
  Ok (100 * a.0 + 10 * b.0 + c.0, rest)

-- what a frame is made of, and what follows it: header with body, the body, and the number of the trailer
pub record RawFrameParts : Type 0 where
  pub before : List ℕ
  pub body : List ℕ
  pub check : ℕ
  pub rest : List ℕ

-- the frame that begins at a place. `Short`: what is there is the beginning of one; `Differs`: no frame begins so
unfoldable pub frame_at : List ℕ → Result RawFrameParts NoFrame
frame_at bytes = do
  digits ← literal_at opening bytes
  size ← length_at 6 0 digits
  body ← body_at size.0 size.1
  trailer ← trailer_at body.1
  Ok (record { before = take (length bytes - length body.1) bytes; body = body.0; check = trailer.0; rest = trailer.1 })

-- the field of a part `tag=value`, after digits of this value: a tag is 1 to 999,999 with no leading zero
unfoldable pub field_from : ℕ → List ℕ → Option Tagged
field_from tag [] = None
field_from tag (byte ∷ bytes) =
    if byte == 61 then (if nat_lt 0 tag then Some (record { tag = tag; value = bytes }) else None)
    else (let longer = 10 * tag + (byte - 48) in
    if is_ascii_digit byte && nat_lt 0 longer && nat_le longer 999999 then field_from longer bytes else None)

abbrev pub field_of : List ℕ → Option Tagged
field_of part = field_from 0 part

-- a byte before the first part
abbrev pub with_byte : ℕ → List (List ℕ) → Option (List (List ℕ))
with_byte byte [] = None
with_byte byte (part ∷ parts) = Some ((byte ∷ part) ∷ parts)

-- the parts of a text, each of which ends in SOH
unfoldable pub parts_of : List ℕ → Option (List (List ℕ))
parts_of [] = Some []
parts_of (byte ∷ bytes) =
    if byte == 1 then option_map (λ parts. [] ∷ parts) (parts_of bytes)
    else option_and_then (with_byte byte) (parts_of bytes)

-- a field before those that follow it
abbrev pub with_field : Option Tagged → Option (List Tagged) → Option (List Tagged)
with_field (Some field) (Some fields) = Some (field ∷ fields)
with_field (Some field) None = None
with_field None fields = None

-- the fields of parts, if each part is one
unfoldable pub fields_of_parts : List (List ℕ) → Option (List Tagged)
fields_of_parts [] = Some []
fields_of_parts (part ∷ parts) = with_field (field_of part) (fields_of_parts parts)

-- the fields of a text, if it is nothing but fields
unfoldable pub fields_of : List ℕ → Option (List Tagged)
fields_of text = option_and_then fields_of_parts (parts_of text)

-- a list of fields that begins with MsgType (35)
abbrev pub if_typed : List Tagged → Option (List Tagged)
if_typed fields = if begins_with_type fields then Some fields else None

-- the fields of a body, if it is nothing but fields of which the first is MsgType (35)
unfoldable pub typed_fields : List ℕ → Option (List Tagged)
typed_fields body = option_and_then if_typed (fields_of body)

-- the fields of a frame, if it is valid
unfoldable pub valid_fields : RawFrameParts → Option (List Tagged)
valid_fields frame = if sum frame.before % 256 == frame.check then typed_fields frame.body else None

-- a stream as its reader sees it: the bytes fed and not yet passed, how many bytes were passed one by one, and how many
-- frames were passed whole and not given
pub record Stream : Type 0 where
  pub rest : List ℕ
  pub skipped : ℕ
  pub garbled : ℕ

-- one more, up to the greatest count
abbrev pub one_more : ℕ → ℕ
one_more n = min (n + 1) (2 ^ 64 - 1)

-- the stream once a frame is passed and given
abbrev pub after_given : Stream → RawFrameParts → Stream
after_given stream whole = record stream { rest = whole.rest }

-- the stream once a frame is passed and not given
abbrev pub after_garbled : Stream → RawFrameParts → Stream
after_garbled stream whole = record stream { rest = whole.rest; garbled = one_more stream.garbled }

-- the stream once one byte is passed
abbrev pub after_byte : Stream → Stream
after_byte stream = record stream { rest = drop 1 stream.rest; skipped = one_more stream.skipped }

-- what a call for the next frame finds: the fields of the next valid frame, if it is there, and the stream after it
pub record NextFrame : Type 0 where
  pub frame : Option (List Tagged)
  pub stream : Stream

-- a frame is given with its fields, or else passed, and `later` goes on
abbrev pub at_frame : (Stream → NextFrame) → Stream → RawFrameParts → Option (List Tagged) → NextFrame
at_frame later stream whole (Some fields) = record { frame = Some fields; stream = after_given stream whole }
at_frame later stream whole None = later (after_garbled stream whole)

-- what is done at a place where this stands
abbrev pub at_place : (Stream → NextFrame) → Stream → Result RawFrameParts NoFrame → NextFrame
at_place later stream (Ok whole) = at_frame later stream whole (valid_fields whole)
at_place later stream (Err Short) = record { frame = None; stream = stream }
at_place later stream (Err Differs) = later (after_byte stream)

-- the first valid frame, and the stream after it, in at most so many turns
unfoldable pub read_on : ℕ → Stream → NextFrame
read_on zero stream = record { frame = None; stream = stream }
read_on (suc turns) stream = at_place (read_on turns) stream (frame_at stream.rest)

-- the fields of the next valid frame, or None where more bytes are needed, and the stream after it: each turn passes a
-- byte at least
unfoldable pub next_read : Stream → NextFrame
next_read stream = read_on (length stream.rest) stream

-- the stream with more bytes at its end
abbrev pub fed : Stream → List ℕ → Stream
fed stream bytes = record stream { rest = stream.rest ++ bytes }

-- the stream begins with the written frame of these fields, which can be written, and goes on with the rest
pub record BeginsWritten (stream : Stream) (fields : List Tagged) (rest : List ℕ) : Type 0 where
  pub tags : IsTrue (has_writable_tags fields)
  pub values : IsTrue (has_writable_values fields)
  pub short : length (fields_text fields) ≤ 4096
  pub bytes : stream.rest ≡ frame_text fields ++ rest
