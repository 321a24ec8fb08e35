-- What a line says of an order, as a desk is told.
use Rattle.std.specs.Prelude.{◌≡◌, ℕ, Bool, false, List, Option, Some, None, Result, Ok, Err, if◌then◌else◌}
use Rattle.fix_tags.specs.declared.envelope.Envelope.{Envelope}
use Rattle.message_log.specs.declared.direction.Direction.{Direction}
use Rattle.message_log.specs.declared.direction.Direction.TheVariants.{Received}
use Rattle.log_legs.specs.Execution.{execution_of}
use Rattle.log_legs.specs.Legs.{WatchParts}
use Rattle.log_legs.specs.declared.execution.Execution.{Execution}
use Rattle.log_text.specs.Line.{LineSaid, line_said}
use Rattle.log_text.specs.Quickfix.{QuickfixSaid, quickfix_said}
use Rattle.log_text.specs.declared.fault.LineFault.{LineFault}
use Rattle.day_check.specs.ExecutionText.{answer_to, execution_if}
use Rattle.day_check.specs.Judge.{by_line, by_names, message_in}
use Rattle.day_check.specs.declared.form.Form.{Form}
use Rattle.day_check.specs.declared.form.Form.TheVariants.{Own, Quickfix}
use Rattle.day_check.specs.declared.line_told.LineTold.{LineTold}

-- what a message says of an order, which went this way: a received one
abbrev pub execution_by : WatchParts → Option Direction → Envelope → Option Execution
execution_by w (Some Received) message = execution_of w message
execution_by w direction message = None

-- the same of a message, if it can be read
abbrev pub execution_told : WatchParts → (Envelope → Option Direction) → Option Envelope → Option Execution
execution_told w way None = None
execution_told w way (Some message) = execution_by w (way message) message

abbrev pub own_execution : WatchParts → Result LineSaid LineFault → Option Execution
own_execution w (Err fault) = None
own_execution w (Ok said) = execution_told w (by_line said.direction) (message_in said.message)

abbrev pub quickfix_execution : WatchParts → List ℕ → Result QuickfixSaid LineFault → Option Execution
quickfix_execution w desk (Err fault) = None
quickfix_execution w desk (Ok said) = execution_told w (by_names desk) (message_in said.message)

-- what a line says of an order, by the lines before it
abbrev pub line_execution : Form → List ℕ → WatchParts → Option Execution
line_execution Own line w = own_execution w (line_said line)
line_execution (Quickfix desk) line w = quickfix_execution w desk (quickfix_said line)

-- the same, where it is asked for
abbrev pub asked_execution : Bool → Form → List ℕ → WatchParts → Option Execution
asked_execution tells form line w = if tells then line_execution form line w else None

-- what is told of an execution, if there is one: the book's answer to it, and, where text is printed, its line
pub record TellsOf (is_json : Bool) (execution : Option Execution) (told : LineTold) : Type 0 where
  pub answer : told.answer ≡ answer_to execution
  pub text : is_json ≡ false → told.text.items ≡ execution_if execution
