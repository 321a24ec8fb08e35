-- The frame at the front of bytes, and the same frame dressed.
use Rattle.std.specs.Prelude.{ℕ, Bool, ◌&&◌, List, length, Option, Some, None, option_map, option_and_then, ◌==◌, if◌then◌else◌}
use Rattle.fix_text.specs.Tagged.{Tagged}
use Rattle.fix_text.specs.Frame.{frame_text, frame_refusal}
use Rattle.fix_text.specs.Reading.{Stream, NextFrame, next_read}
use Rattle.fix_text.specs.declared.fault.TextFault.{TextFault}
use Rattle.fix_tags.specs.Dress.{Dress}
use Rattle.dressed_link.specs.Dressing.{dressed_fields}

-- the fields of a valid frame, and what follows it
pub record Front : Type 0 where
  pub fields : List Tagged
  pub rest : List ℕ

-- nothing stands before the frame
abbrev pub is_first : Stream → Bool
is_first stream = stream.skipped == 0 && stream.garbled == 0

abbrev pub front_in : NextFrame → Option Front
front_in next =
    if is_first next.stream then option_map (λ fields. record { fields = fields; rest = next.stream.rest }) next.frame
    else None

-- the valid frame at the front of bytes, if one stands there
abbrev pub front_of : List ℕ → Option Front
front_of bytes = front_in (next_read (record { rest = bytes; skipped = 0; garbled = 0 }))

-- a dressed frame, and what follows the frame that it was
pub record Dressed : Type 0 where
  pub text : List ℕ
  pub rest : List ℕ

-- a text, where nothing keeps it from being written
abbrev pub unless_refused : Option TextFault → Dressed → Option Dressed
unless_refused None dressed = Some dressed
unless_refused (Some fault) dressed = None

abbrev pub front_dressed : Dress → Front → Option Dressed
front_dressed d front =
    let fields = dressed_fields d front.fields in
    unless_refused (frame_refusal fields) (record { text = frame_text fields; rest = front.rest })

-- the frame at the front of bytes, dressed, if one stands there and can be written so
abbrev pub dressed_front : Dress → List ℕ → Option Dressed
dressed_front d bytes = option_and_then (front_dressed d) (front_of bytes)
