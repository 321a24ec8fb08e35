-- Faults of the words, of the file and of passwords, and those of a day.
use Rattle.std.proofs.Common.{◌≡◌, ◌⊎◌, inr, ℕ, List, [], false, true, None, Ok, Err, subst}
use Rattle.std.specs.Prelude.{Option, Result, is_some, IfErr, OnOk}
use Rattle.std.specs.Io.KnownBytes.{Appends, Keeps}
use Rattle.desk_config.specs.Config.{AnswersText}
use Rattle.desk_config.specs.declared.config.DeskConfig.{DeskConfig}
use Rattle.desk_day.proofs.Whole.{whole_over}
use Rattle.desk_day.specs.Told.{IsToldDay, IsToldKept, IsToldOver}
use Rattle.desk_day.specs.declared.day.DeskDay.{DeskDay}
use Rattle.json_lines.specs.declared.form.Form.{Form}
use Rattle.run_command.specs.Ending.{end_text, EndsOpen, PrintsDay, PrintsWholeDay}
use Rattle.run_command.specs.Running.{EndsRun, IfBeforeDay, IsOfDay}
use Rattle.run_file.specs.Fault.{IfOpen}
use Rattle.run_file.specs.declared.fault.CommandFault.{CommandFault}
use Rattle.run_file.specs.declared.fault.CommandFault.TheVariants.{
  CommandLine,
  NoName,
  BadPatience,
  BadRefs,
  NoFile,
  NotText,
  BadFile,
  NoToken,
  SameToken,
  NoPassword,
  NoPage,
  NoLines,
  NoLogs,
  NoJournal,
  ReadFailed,
  WriteFailed,
  NoSocket,
  NoThread,
  OutOfMemory,
  MismatchQueue,
  MismatchShares,
  MismatchPlaced,
  GivenUp,
  Unbooked,
}

-- what is so may be said of each fault
pub said_of : (said : Type 0) (fault : CommandFault) → said → IfBeforeDay said fault
said_of said (CommandLine error) it = it
said_of said NoName it = it
said_of said BadPatience it = it
said_of said BadRefs it = it
said_of said (NoFile name) it = it
said_of said (NotText name) it = it
said_of said (BadFile name fault) it = it
said_of said (NoToken user file fault) it = it
said_of said (SameToken user) it = it
said_of said (NoPassword venue file why) it = it
said_of said NoPage it = tt
said_of said NoLines it = tt
said_of said (NoLogs fault) it = tt
said_of said (NoJournal refused) it = tt
said_of said ReadFailed it = tt
said_of said WriteFailed it = tt
said_of said NoSocket it = tt
said_of said NoThread it = tt
said_of said OutOfMemory it = tt
said_of said MismatchQueue it = tt
said_of said MismatchShares it = tt
said_of said MismatchPlaced it = tt
said_of said GivenUp it = tt
said_of said Unbooked it = tt

-- of a fault of a day nothing is said
pub of_day : (said : Type 0) (fault : CommandFault) → IsOfDay fault → IfBeforeDay said fault
of_day said (CommandLine error) it = absurd it
of_day said NoName it = absurd it
of_day said BadPatience it = absurd it
of_day said BadRefs it = absurd it
of_day said (NoFile name) it = absurd it
of_day said (NotText name) it = absurd it
of_day said (BadFile name fault) it = absurd it
of_day said (NoToken user file fault) it = absurd it
of_day said (SameToken user) it = absurd it
of_day said (NoPassword venue file why) it = absurd it
of_day said NoPage it = tt
of_day said NoLines it = tt
of_day said (NoLogs fault) it = tt
of_day said (NoJournal refused) it = tt
of_day said ReadFailed it = tt
of_day said WriteFailed it = tt
of_day said NoSocket it = tt
of_day said NoThread it = tt
of_day said OutOfMemory it = tt
of_day said MismatchQueue it = tt
of_day said MismatchShares it = tt
of_day said MismatchPlaced it = tt
of_day said GivenUp it = tt
of_day said Unbooked it = tt

-- the text of a day is printed
pub prints_day : (config : DeskConfig) (form : Form) (day : DeskDay) (before after : Option (List ℕ)) (bytes : List ℕ)
    → IsToldOver config.venues.items day → (config.journal ≡ None → IsToldDay config.venues.items day)
    → (is_some config.journal ≡ true → IsToldKept config.venues.items day) → bytes ≡ end_text form day
    → Appends before after bytes → PrintsDay config after
prints_day config form day before after bytes told new kept is printed = record {
  day = day;
  told = told;
  new = new;
  kept = kept;
  form = form;
  held = before;
  printed = subst (λ (text : List ℕ). Appends before after text) is printed;
}

-- that of a day that ended well
pub prints_whole : (config : DeskConfig) (form : Form) (day : DeskDay) (before after : Option (List ℕ))
    (bytes : List ℕ) → IsToldOver config.venues.items day
    → (config.journal ≡ None → IsToldDay config.venues.items day)
    → (is_some config.journal ≡ true → IsToldKept config.venues.items day) → day.broken_off ≡ None
    → day.is_given_up ≡ false → day.unbooked.items ≡ [] → day.doubts.items ≡ [] → bytes ≡ end_text form day
    → Appends before after bytes → PrintsWholeDay config after
unfolding prints_day
prints_whole config form day before after bytes told new kept taken closed booked settled is printed = record {
  prints = prints_day config form day before after bytes told new kept is printed;
  taken = taken;
  whole = whole_over config.venues.items day told closed booked settled;
}

-- where a fault is nothing that a day leaves open, whatever is said of such holds of it
none_open : (said : Type 0) (fault : CommandFault) → IfOpen ⊥ fault → IfOpen said fault
none_open said GivenUp it = absurd it
none_open said Unbooked it = absurd it
none_open said (CommandLine error) it = tt
none_open said NoName it = tt
none_open said BadPatience it = tt
none_open said BadRefs it = tt
none_open said (NoFile name) it = tt
none_open said (NotText name) it = tt
none_open said (BadFile name fault) it = tt
none_open said (NoToken user file fault) it = tt
none_open said (SameToken user) it = tt
none_open said NoPage it = tt
none_open said (NoPassword venue file why) it = tt
none_open said NoLines it = tt
none_open said (NoLogs fault) it = tt
none_open said (NoJournal refused) it = tt
none_open said ReadFailed it = tt
none_open said WriteFailed it = tt
none_open said NoSocket it = tt
none_open said NoThread it = tt
none_open said OutOfMemory it = tt
none_open said MismatchQueue it = tt
none_open said MismatchShares it = tt
none_open said MismatchPlaced it = tt

-- a fault before the day leaves the output as it was
pub before_day : (before after : Option (List ℕ)) (fault : CommandFault) → Keeps before after → IfOpen ⊥ fault
    → IfBeforeDay (Keeps before after) fault × IfOpen (EndsOpen after) fault
before_day before after fault keeps none =
    (said_of (Keeps before after) fault keeps, none_open (EndsOpen after) fault none)

-- a day that was begun and leaves something open
open_as : (after : Option (List ℕ)) (bytes : List ℕ) (config : DeskConfig) (fault : CommandFault)
    → AnswersText bytes (Ok config) → IfOpen (PrintsDay config after) fault → IfOpen (EndsOpen after) fault
open_as after bytes config GivenUp says prints =
    record { bytes = bytes; config = config; says = says; prints = prints }
open_as after bytes config Unbooked says prints =
    record { bytes = bytes; config = config; says = says; prints = prints }
open_as after bytes config (CommandLine error) says prints = tt
open_as after bytes config NoName says prints = tt
open_as after bytes config BadPatience says prints = tt
open_as after bytes config BadRefs says prints = tt
open_as after bytes config (NoFile name) says prints = tt
open_as after bytes config (NotText name) says prints = tt
open_as after bytes config (BadFile name fault) says prints = tt
open_as after bytes config (NoToken user file fault) says prints = tt
open_as after bytes config (SameToken user) says prints = tt
open_as after bytes config NoPage says prints = tt
open_as after bytes config (NoPassword venue file why) says prints = tt
open_as after bytes config NoLines says prints = tt
open_as after bytes config (NoLogs fault) says prints = tt
open_as after bytes config (NoJournal refused) says prints = tt
open_as after bytes config ReadFailed says prints = tt
open_as after bytes config WriteFailed says prints = tt
open_as after bytes config NoSocket says prints = tt
open_as after bytes config NoThread says prints = tt
open_as after bytes config OutOfMemory says prints = tt
open_as after bytes config MismatchQueue says prints = tt
open_as after bytes config MismatchShares says prints = tt
open_as after bytes config MismatchPlaced says prints = tt

-- a run ends as the day of its configuration does
pub ends_as : {A : Type 0} (before after : Option (List ℕ)) (bytes : List ℕ) (config : DeskConfig)
    (done : Result A CommandFault) → AnswersText bytes (Ok config) → OnOk done (PrintsWholeDay config after)
    → IfErr done IsOfDay → IfErr done (IfOpen (PrintsDay config after)) → EndsRun before after done
ends_as before after bytes config (Ok value) says prints faults left = record {
  bytes = bytes;
  config = config;
  says = says;
  prints = inr prints;
}
ends_as before after bytes config (Err fault) says prints faults left =
    (of_day (Keeps before after) fault faults, open_as after bytes config fault says left)
