-- How an exchange ends that said first where it listens.
use Rattle.std.proofs.Common.{◌≡◌, ℕ, List, Option, None, Some, Result, Ok, Err, subst, inr, ◌∙◌}
use Rattle.std.proofs.KnownBytes.{Appends-trans}
use Rattle.std.specs.Io.KnownBytes.{Appends, Keeps}
use Rattle.exchange_command.specs.declared.exchange_plan.ExchangePlan.{ExchangePlan}
use Rattle.exchange_command.specs.declared.fault.CommandFault.{CommandFault}
use Rattle.exchange_command.specs.declared.fault.CommandFault.TheVariants.{CommandLine, NoValue, BadValue, NoSocket, AcceptFailed, WriteFailed, OutOfMemory}
use Rattle.exchange_command.specs.ExchangeText.{accepted_text, listening_text}
use Rattle.exchange_command.specs.Running.{EndsPlan, EndsServed}

-- what was appended stays where nothing more is
appends_kept : (a b c : Option (List ℕ)) (bytes : List ℕ) → Appends a b bytes → Keeps b c → Appends a c bytes
appends_kept None b c bytes shown kept = tt
appends_kept (Some x) None c bytes shown kept = absurd shown
appends_kept (Some x) (Some y) None bytes shown kept = absurd kept
appends_kept (Some x) (Some y) (Some z) bytes shown kept = kept ∙ shown

-- the line of the port, and then how it served
pub said_before : {A : Type 0} → (a b c : Option (List ℕ)) (plan : ExchangePlan) (bytes : List ℕ)
    (done : Result A CommandFault)
    → bytes ≡ listening_text plan.port → Appends a b bytes → EndsServed b c done → EndsPlan a c plan done
said_before a b c plan bytes (Ok done) is shown (accepted, more) =
    (accepted, Appends-trans a b c (listening_text plan.port) (accepted_text accepted) (subst (Appends a b) is shown) more)
said_before a b c plan bytes (Err OutOfMemory) is shown kept =
    inr (appends_kept a b c (listening_text plan.port) (subst (Appends a b) is shown) kept)
said_before a b c plan bytes (Err AcceptFailed) is shown kept =
    appends_kept a b c (listening_text plan.port) (subst (Appends a b) is shown) kept
said_before a b c plan bytes (Err WriteFailed) is shown kept = tt
said_before a b c plan bytes (Err NoSocket) is shown kept = absurd kept
said_before a b c plan bytes (Err (CommandLine error)) is shown kept = absurd kept
said_before a b c plan bytes (Err (NoValue option)) is shown kept = absurd kept
said_before a b c plan bytes (Err (BadValue option)) is shown kept = absurd kept
