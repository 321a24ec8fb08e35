-- A crash, and where it ends.
use Rattle.std.proofs.Common.{◌≡◌, ◌+◌, ℕ, Bool, true, false, Result, Ok, Err, refl, sym, ◌∙◌}
use Rattle.std.specs.Prelude.{if◌then◌else◌, OnOk}
use Rattle.script.specs.declared.day_event.DayEvent.TheVariants.{Crash}
use Rattle.world_restart.specs.Start.{Day, Loss, day_started, may_lose}
use Rattle.world_restart.specs.Day.{after_crash}
use Rattle.event_text.specs.declared.settled.Settled.{Settled}
use Rattle.event_text.specs.Crash.{settled_again}
use Rattle.replay_command.specs.Steps.{Told, told_after}
use Rattle.replay_command.specs.Days.{Ending, event_end}
use Rattle.replay_command.specs.Days.Ending.{Over, ImpossibleAt}
use Rattle.replay_command.specs.declared.fault.CommandFault.{CommandFault}
use Rattle.replay_command.specs.declared.fault.CommandFault.TheVariants.{CommandLine, BadLine, Impossible, NoFile, PictureIsThere, PictureFailed, ReadFailed, WriteFailed, OutOfMemory}
use Rattle.replay_command.specs.Stream.{IsFaultOf}

pub crash_started : (day later : Day) (loss : Loss) → true ≡ may_lose day loss → later ≡ after_crash day loss
    → later ≡ day_started day loss
crash_started day later loss may is =
    let started : after_crash day loss ≡ day_started day loss = rw (sym may) refl in is ∙ started

pub crash_over : (number : ℕ) (day later : Day) (loss : Loss) → true ≡ may_lose day loss → later ≡ after_crash day loss
    → event_end number day (Crash loss) ≡ Over later
crash_over number day later loss may is =
    let over : event_end number day (Crash loss) ≡ Over (day_started day loss) = rw (sym may) refl in
    over ∙ (λ k. Over (sym (crash_started day later loss may is) k))

pub crash_impossible : (number : ℕ) (day : Day) (loss : Loss) → false ≡ may_lose day loss
    → event_end number day (Crash loss) ≡ ImpossibleAt number
crash_impossible number day loss may = rw (sym may) refl

-- a fault of a line that prints nothing is one of a line that may print
pub told_too : (fault : CommandFault) (ending : Ending) → IsFaultOf false fault ending → IsFaultOf true fault ending
told_too (CommandLine error) ending is = absurd is
told_too (BadLine number) ending is = is
told_too (Impossible number why) ending is = is
told_too NoFile ending is = absurd is
told_too (PictureIsThere name) ending is = absurd is
told_too (PictureFailed name) ending is = absurd is
told_too ReadFailed ending is = tt
told_too WriteFailed ending is = refl
told_too OutOfMemory ending is = tt

-- a crash that led on led to the day that is started
pub crash_led : (may : Bool) (number : ℕ) (started later : Day)
    → (if may then Over started else ImpossibleAt number) ≡ Over later → later ≡ started
crash_led true number started later is = cc
crash_led false number started later is = absurd cc

pub told_crash : {A F : Type 0} (old : Told) (loss : Loss) (day : Day) (events : ℕ) (settled : Settled)
    (result : Result A F) → day ≡ day_started old.day loss → events ≡ old.events
    → settled ≡ settled_again (day_started old.day loss).world
    → OnOk result (◌≡◌ {A = Told} (record { day = day; events = events + 1; settled = settled })
    (told_after old (Crash loss)))
told_crash old loss day events settled (Ok done) is count again =
    λ i. record { day = is i; events = count i + 1; settled = again i }
told_crash old loss day events settled (Err fault) is count again = tt
