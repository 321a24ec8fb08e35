-- What `dispatch order` prints: the frame of an order and the leg that is read back from it, or the leg of a frame.
use Rattle.std.specs.Prelude.{◌≡◌, ℕ, List, ◌++◌, codes, Option, Result, Ok, Err}
use Rattle.std.specs.Io.KnownBytes.{Appends, Keeps}
use Rattle.fix_text.specs.Tagged.{Tagged}
use Rattle.leg.specs.Leg.{leg_text}
use Rattle.leg.specs.declared.leg.Leg.{Leg}
use Rattle.dialect.specs.Wording.{Encoding}
use Rattle.dialect.specs.declared.fault.DialectFault.{DialectFault}
use Rattle.command_line.specs.FrameText.{shown}
use Rattle.order_command.specs.declared.fault.CommandFault.{CommandFault}
use Rattle.order_command.specs.declared.fault.CommandFault.TheVariants.{BadFrame, WriteFailed, OutOfMemory}
use Rattle.order_command.specs.declared.form.OrderForm.{OrderForm}
use Rattle.order_command.specs.declared.form.OrderForm.TheVariants.{Shown, Raw}
use Rattle.order_command.specs.declared.order_fault.OrderFault.{OrderFault}
use Rattle.order_command.specs.declared.request.Request.{Request}
use Rattle.order_command.specs.OrderFrame.{IsOrderFrame, order_read_from, stream_of}

-- a line of a leg
abbrev pub leg_line : Leg → List ℕ
leg_line leg = leg_text leg ++ codes "\n"

-- a line of a frame, and a line of a leg
abbrev pub order_lines : List ℕ → Leg → List ℕ
order_lines frame leg = shown frame ++ codes "\n" ++ leg_text leg ++ codes "\n"

-- the same two in a form: as lines, or the bytes of the frame alone
abbrev pub order_output : OrderForm → List ℕ → Leg → List ℕ
order_output Shown frame leg = order_lines frame leg
order_output Raw frame leg = frame

-- the text is the frame of what is asked for, in the form that is asked for, with the leg that is read from that frame
pub record IsOrderText (writers : Encoding) (read : List Tagged → Result Leg DialectFault) (request : Request)
    (text : List ℕ) : Type 0 where
  pub frame : List ℕ
  pub leg : Leg
  pub written : IsOrderFrame writers request.leg request.header frame
  pub back : order_read_from read (stream_of frame) ≡ Ok leg
  pub output : text ≡ order_output request.form frame leg

-- the bytes of such a text are appended
abbrev pub PrintsText : (List ℕ → Type 0) → Option (List ℕ) → Option (List ℕ) → Type 0
PrintsText IsText before after = (text : List ℕ) × IsText text × Appends before after text

-- how a run ends that is asked for this: what is asked for is printed, or the first bad value is named; only memory and
-- the output can fail
abbrev pub EndsOrder : (Request → Type 0) → Result Request CommandFault → {A : Type 0} → Result A CommandFault
    → Type 0
EndsOrder Prints (Ok request) (Ok done) = Prints request
EndsOrder Prints (Ok request) (Err OutOfMemory) = Unit {0}
EndsOrder Prints (Ok request) (Err WriteFailed) = Unit {0}
EndsOrder Prints (Ok request) (Err other) = ⊥
EndsOrder Prints (Err fault) done = done ≡ Err fault

-- how a run ends that reads this leg from a frame, or this fault, by the bytes that the output held before and holds
-- after: the leg is printed, or the fault named. Only memory and the output can fail besides
abbrev pub EndsReading : Option (List ℕ) → Option (List ℕ) → {A : Type 0} → Result A CommandFault
    → Result Leg OrderFault
    → Type 0
EndsReading before after (Ok done) (Ok leg) = Appends before after (leg_line leg)
EndsReading before after (Ok done) (Err fault) = ⊥
EndsReading before after (Err (BadFrame found)) (Ok leg) = ⊥
EndsReading before after (Err (BadFrame found)) (Err fault) = (found ≡ fault) × Keeps before after
EndsReading before after (Err OutOfMemory) read = Keeps before after
EndsReading before after (Err WriteFailed) (Ok leg) = Unit {0}
EndsReading before after (Err WriteFailed) (Err fault) = ⊥
EndsReading before after (Err other) read = ⊥
