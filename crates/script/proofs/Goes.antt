-- A line that says an event of the world.
use Rattle.std.proofs.Common.{◌≡◌, Option, Some, None, Ok, Err, ap}
use Rattle.schedule.specs.declared.event.Event.{Event}
use Rattle.script.specs.declared.day_event.DayEvent.TheVariants.{Goes}
use Rattle.script.specs.declared.line_fault.LineFault.{LineFault}
use Rattle.script.specs.Crash.{goes}
use Rattle.script.specs.Reading.{ReadsLine}

pub goes_ok : (said : Option Event) (event : Event) → ReadsLine said (Ok event) → ReadsLine (goes said) (Ok (Goes event))
goes_ok None event reads = absurd cc
goes_ok (Some said) event reads = ap (λ (e : Event). Goes e) reads

pub goes_err : (said : Option Event) (fault : LineFault) → ReadsLine said (Err fault) → ReadsLine (goes said) (Err fault)
goes_err None fault reads = cc
goes_err (Some said) fault reads = reads
