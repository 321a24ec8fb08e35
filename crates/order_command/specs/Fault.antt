-- The faults of `dispatch order`.
use Rattle.std.specs.Prelude.{ℕ}
use Rattle.command_line.specs.declared.input.InputFault.{InputFault}
use Rattle.command_line.specs.declared.input.InputFault.TheVariants as input
use Rattle.order_command.specs.declared.order_fault.OrderFault.{OrderFault}
use Rattle.order_command.specs.declared.order_fault.OrderFault.TheVariants as of
use Rattle.order_command.specs.declared.fault.CommandFault.{CommandFault}
use Rattle.order_command.specs.declared.fault.CommandFault.TheVariants.{
  CommandLine,
  NoValue,
  BadValue,
  BadFrame,
  ReadFailed,
  WriteFailed,
  OutOfMemory,
}

-- the status that tells a fault
abbrev pub fault_status : CommandFault → ℕ
fault_status (CommandLine error) = 2
fault_status (NoValue option) = 2
fault_status (BadValue option) = 3
fault_status (BadFrame fault) = 3
fault_status ReadFailed = 4
fault_status WriteFailed = 4
fault_status OutOfMemory = 5

-- a fault of the command line, or out of memory
abbrev pub IsOfCommandLine : CommandFault → Type 0
IsOfCommandLine (CommandLine error) = Unit {0}
IsOfCommandLine OutOfMemory = Unit {0}
IsOfCommandLine other = ⊥

-- the fault of a frame that is none of an order
abbrev pub frame_fault : OrderFault → CommandFault
frame_fault of.OutOfMemory = OutOfMemory
frame_fault fault = BadFrame fault

-- the fault of an input that can't be had
abbrev pub input_fault : InputFault → CommandFault
input_fault input.ReadFailed = ReadFailed
input_fault input.OutOfMemory = OutOfMemory
