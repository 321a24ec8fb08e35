-- A run that ends with status 0 ended well; and each venue of a day that it printed is safe.
use Rattle.std.proofs.Common.{◌≡◌, ◌≤◌, ◌⊎◌, inl, inr, ℕ, List, Some, Ok, Err, sym, ◌∙◌, arith}
use Rattle.std.specs.Prelude.{Option, Result}
use Rattle.command_line.specs.ExitStatus.{exit_status}
use Rattle.day_log.specs.declared.fault.LogFault.{LogFault}
use Rattle.day_log.specs.declared.fault.LogFault.TheVariants as log
use Rattle.journal_folder.specs.declared.restart_fault.RestartFault.{RestartFault}
use Rattle.journal_folder.specs.declared.restart_fault.RestartFault.TheVariants as journal
use Rattle.journal_folder.specs.declared.fault.FolderFault.{FolderFault}
use Rattle.journal_folder.specs.declared.fault.FolderFault.TheVariants as folder
use Rattle.secret_file.specs.declared.fault.SecretFault.{SecretFault}
use Rattle.secret_file.specs.declared.fault.SecretFault.TheVariants as secret
use Rattle.desk_config.specs.declared.config.DeskConfig.{DeskConfig}
use Rattle.desk_theorem.proofs.DayOver.{the_desk_theorem_over_lives}
use Rattle.day_sweeps.specs.Paid.{parts_of}
use Rattle.run_command.specs.Ending.{EndsOpen, EndsWell, PrintsDay, PrintsWholeDay}
use Rattle.run_command.specs.Running.{EndsRun, ExitsSo}
use Rattle.run_file.specs.Fault.{fault_status, log_status, folder_status, journal_status, secret_status, IfOpen}
use Rattle.run_file.specs.declared.fault.CommandFault.{CommandFault}
use Rattle.run_file.specs.declared.fault.CommandFault.TheVariants.{
  CommandLine,
  NoName,
  BadPatience,
  BadRefs,
  NoFile,
  NotText,
  BadFile,
  NoToken,
  SameToken,
  NoPage,
  NoPassword,
  NoLines,
  NoLogs,
  NoJournal,
  ReadFailed,
  WriteFailed,
  NoSocket,
  NoThread,
  OutOfMemory,
  MismatchQueue,
  MismatchShares,
  MismatchPlaced,
  GivenUp,
  Unbooked,
}
use Rattle.run_theorem.specs.RunTheorem.{TheRunTheorem, EndsSafely, IsSafeDay, OpensSafely, PrintsSafely}
use Rattle.desk_config.proofs.Terms.{HasTerms, HaveTerms, the_terms_are}
use Rattle.desk_config.specs.declared.venue.Venue.{Venue}
use Rattle.desk_venues.specs.Venues.{desk_end}
use Rattle.fix_tags.specs.Config.{IsConfig}

-- a fault of logs, journals or the file of a secret has a status from 3 to 5
abbrev IsFromThree : ℕ → Type 0
IsFromThree status = (3 ≤ status) × (status ≤ 5)

of_logs : (fault : LogFault) → IsFromThree (log_status fault)
of_logs log.NameTaken = (omega arith, omega arith)
of_logs (log.Exists file) = (omega arith, omega arith)
of_logs (log.CantLook file) = (omega arith, omega arith)
of_logs log.NoFolder = (omega arith, omega arith)
of_logs (log.CantWrite file) = (omega arith, omega arith)
of_logs log.OutOfMemory = (omega arith, omega arith)

of_folder : (fault : FolderFault) → IsFromThree (folder_status fault)
of_folder folder.NoFolder = (omega arith, omega arith)
of_folder folder.Taken = (omega arith, omega arith)
of_folder (folder.CantRead file) = (omega arith, omega arith)
of_folder (folder.CantWrite file) = (omega arith, omega arith)
of_folder folder.OutOfMemory = (omega arith, omega arith)
of_folder other = (omega arith, omega arith)

of_journals : (fault : RestartFault) → IsFromThree (journal_status fault)
of_journals (journal.Folder fault) = of_folder fault
of_journals (journal.Desk fault) = of_folder fault
of_journals (journal.Venue name fault) = of_folder fault
of_journals (journal.Ended at) = (omega arith, omega arith)
of_journals (journal.DeskLine line) = (omega arith, omega arith)
of_journals (journal.VenueLine name line) = (omega arith, omega arith)
of_journals journal.OutOfMemory = (omega arith, omega arith)

of_secrets : (fault : SecretFault) → IsFromThree (secret_status fault)
of_secrets secret.NoFile = (omega arith, omega arith)
of_secrets secret.OpenToOthers = (omega arith, omega arith)
of_secrets (secret.BadLine most) = (omega arith, omega arith)
of_secrets secret.ReadFailed = (omega arith, omega arith)
of_secrets secret.OutOfMemory = (omega arith, omega arith)

from_three : (n status : ℕ) → IsFromThree status → n ≡ status → (3 ≤ n) × (n ≤ 5)
from_three n status its is = (omega (arith, its.0, is), omega (arith, its.1, is))

-- no fault has the status 0, only a session given up or a leg in doubt 7, and only an unbooked report 9
of_run : (fault : CommandFault) → 0 ≡ fault_status fault → ⊥
of_run (CommandLine error) is = omega (arith, is)
of_run NoName is = omega (arith, is)
of_run BadPatience is = omega (arith, is)
of_run BadRefs is = omega (arith, is)
of_run (NotText name) is = omega (arith, is)
of_run (BadFile name fault) is = omega (arith, is)
of_run (SameToken user) is = omega (arith, is)
of_run (NoToken user file fault) is =
    let its = from_three 0 (secret_status fault) (of_secrets fault) is in omega (arith, its)
of_run (NoFile name) is = omega (arith, is)
of_run NoPage is = omega (arith, is)
of_run (NoPassword venue file why) is = omega (arith, is)
of_run NoLines is = omega (arith, is)
of_run ReadFailed is = omega (arith, is)
of_run WriteFailed is = omega (arith, is)
of_run NoSocket is = omega (arith, is)
of_run NoThread is = omega (arith, is)
of_run OutOfMemory is = omega (arith, is)
of_run MismatchQueue is = omega (arith, is)
of_run MismatchShares is = omega (arith, is)
of_run MismatchPlaced is = omega (arith, is)
of_run (NoLogs fault) is = let its = from_three 0 (log_status fault) (of_logs fault) is in omega (arith, its)
of_run (NoJournal refused) is =
    let its = from_three 0 (journal_status refused.fault) (of_journals refused.fault) is in omega (arith, its)
of_run GivenUp is = omega (arith, is)
of_run Unbooked is = omega (arith, is)

at_seven : (said : Type 0) (fault : CommandFault) → 7 ≡ fault_status fault → IfOpen said fault → said
at_seven said (CommandLine error) is left = absurd (omega (arith, is))
at_seven said NoName is left = absurd (omega (arith, is))
at_seven said BadPatience is left = absurd (omega (arith, is))
at_seven said BadRefs is left = absurd (omega (arith, is))
at_seven said (NotText name) is left = absurd (omega (arith, is))
at_seven said (BadFile name fault) is left = absurd (omega (arith, is))
at_seven said (SameToken user) is left = absurd (omega (arith, is))
at_seven said (NoToken user file fault) is left =
    let its = from_three 7 (secret_status fault) (of_secrets fault) is in absurd (omega (arith, its))
at_seven said (NoFile name) is left = absurd (omega (arith, is))
at_seven said NoPage is left = absurd (omega (arith, is))
at_seven said (NoPassword venue file why) is left = absurd (omega (arith, is))
at_seven said NoLines is left = absurd (omega (arith, is))
at_seven said ReadFailed is left = absurd (omega (arith, is))
at_seven said WriteFailed is left = absurd (omega (arith, is))
at_seven said NoSocket is left = absurd (omega (arith, is))
at_seven said NoThread is left = absurd (omega (arith, is))
at_seven said OutOfMemory is left = absurd (omega (arith, is))
at_seven said MismatchQueue is left = absurd (omega (arith, is))
at_seven said MismatchShares is left = absurd (omega (arith, is))
at_seven said MismatchPlaced is left = absurd (omega (arith, is))
at_seven said (NoLogs fault) is left =
    let its = from_three 7 (log_status fault) (of_logs fault) is in absurd (omega (arith, its))
at_seven said (NoJournal refused) is left =
    let its = from_three 7 (journal_status refused.fault) (of_journals refused.fault) is in
    absurd (omega (arith, its))
at_seven said GivenUp is left = left
at_seven said Unbooked is left = absurd (omega (arith, is))

at_nine : (said : Type 0) (fault : CommandFault) → 9 ≡ fault_status fault → IfOpen said fault → said
at_nine said (CommandLine error) is left = absurd (omega (arith, is))
at_nine said NoName is left = absurd (omega (arith, is))
at_nine said BadPatience is left = absurd (omega (arith, is))
at_nine said BadRefs is left = absurd (omega (arith, is))
at_nine said (NotText name) is left = absurd (omega (arith, is))
at_nine said (BadFile name fault) is left = absurd (omega (arith, is))
at_nine said (SameToken user) is left = absurd (omega (arith, is))
at_nine said (NoToken user file fault) is left =
    let its = from_three 9 (secret_status fault) (of_secrets fault) is in absurd (omega (arith, its))
at_nine said (NoFile name) is left = absurd (omega (arith, is))
at_nine said NoPage is left = absurd (omega (arith, is))
at_nine said (NoPassword venue file why) is left = absurd (omega (arith, is))
at_nine said NoLines is left = absurd (omega (arith, is))
at_nine said ReadFailed is left = absurd (omega (arith, is))
at_nine said WriteFailed is left = absurd (omega (arith, is))
at_nine said NoSocket is left = absurd (omega (arith, is))
at_nine said NoThread is left = absurd (omega (arith, is))
at_nine said OutOfMemory is left = absurd (omega (arith, is))
at_nine said MismatchQueue is left = absurd (omega (arith, is))
at_nine said MismatchShares is left = absurd (omega (arith, is))
at_nine said MismatchPlaced is left = absurd (omega (arith, is))
at_nine said (NoLogs fault) is left =
    let its = from_three 9 (log_status fault) (of_logs fault) is in absurd (omega (arith, its))
at_nine said (NoJournal refused) is left =
    let its = from_three 9 (journal_status refused.fault) (of_journals refused.fault) is in
    absurd (omega (arith, its))
at_nine said GivenUp is left = absurd (omega (arith, is))
at_nine said Unbooked is left = left

ended_well : {A : Type 0} (before after : Option (List ℕ)) (done : Result A CommandFault)
    → 0 ≡ exit_status fault_status done → EndsRun before after done → EndsWell before after
ended_well before after (Ok value) is ends = ends
ended_well before after (Err fault) is ends = absurd (of_run fault is)

given_up : {A : Type 0} (before after : Option (List ℕ)) (done : Result A CommandFault)
    → 7 ≡ exit_status fault_status done → EndsRun before after done → EndsOpen after
given_up before after (Ok value) is ends = absurd (omega (arith, is))
given_up before after (Err fault) is ends = at_seven (EndsOpen after) fault is ends.1

unbooked : {A : Type 0} (before after : Option (List ℕ)) (done : Result A CommandFault)
    → 9 ≡ exit_status fault_status done → EndsRun before after done → EndsOpen after
unbooked before after (Ok value) is ends = absurd (omega (arith, is))
unbooked before after (Err fault) is ends = at_nine (EndsOpen after) fault is ends.1

-- such terms are one end of a session
end_is : (venue : Venue) → HasTerms venue → IsConfig (desk_end venue)
end_is venue its = record {
  me = its.me;
  peer = its.peer;
  heart_from = its.heart_from;
  heart = its.heart;
  max_number_from = its.max_number_from;
  max_number = its.max_number;
}

safe_day : (config : DeskConfig) (after : Option (List ℕ)) → HaveTerms config.venues.items
    → (prints : PrintsDay config after) → IsSafeDay config after prints
safe_day config after terms prints place venue here =
    the_desk_theorem_over_lives config.venues.items (parts_of prints.day.sweeps.items) prints.day.report
    prints.told.desk_day place venue here (end_is venue (terms place venue here))

safe_whole : (config : DeskConfig) (after : Option (List ℕ)) → HaveTerms config.venues.items
    → PrintsWholeDay config after → PrintsSafely config after
safe_whole config after terms day = record { day = day; safe = safe_day config after terms day.prints }

ends_safely : (before after : Option (List ℕ)) → EndsWell before after → EndsSafely before after
ends_safely before after well =
    let terms = the_terms_are well.bytes well.config well.says in
    record {
      bytes = well.bytes;
      config = well.config;
      says = well.says;
      prints = elim well.prints [
        | inl says ↦ inl says
        | inr day ↦ inr (safe_whole well.config after terms day)
      ];
    }

opens_safely : (after : Option (List ℕ)) → EndsOpen after → OpensSafely after
opens_safely after left = record {
  left = left;
  safe = safe_day left.config after (the_terms_are left.bytes left.config left.says) left.prints;
}

pub the_run_theorem : TheRunTheorem
the_run_theorem = record {
  ended_well = λ before after ends. ends_safely before after (ended_well before after ends.0 ends.1 ends.2);
  given_up = λ before after ends. opens_safely after (given_up before after ends.0 ends.1 ends.2);
  unbooked = λ before after ends. opens_safely after (unbooked before after ends.0 ends.1 ends.2);
}
