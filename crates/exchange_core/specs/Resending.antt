-- A resend request, answered number by number.
use Rattle.std.specs.Prelude.{ℕ, true, List, [], ◌∷◌, ◌++◌, Option, Some, None}
use Rattle.fix_tags.specs.Config.{ConfigParts}
use Rattle.dialect.specs.declared.content.Content.TheVariants.{Session}
use Rattle.fix_tags.specs.declared.session_body.SessionBody.TheVariants.{Reject}
use Rattle.dialect.specs.declared.outgoing.Outgoing.{Outgoing}
use Rattle.exchange_core.specs.declared.sent_record.SentRecord.{SentRecord}
use Rattle.exchange_core.specs.declared.sent_record.SentRecord.TheVariants.{Admin, Reported, Refused}
use Rattle.exchange_core.specs.SentRecord.{closing_fill, run_from, execution_report, again}

-- what is written for one own number, where a run of messages of the session may be open
abbrev pub resent_one : ConfigParts → Option ℕ → ℕ → SentRecord → List Outgoing
resent_one config run number Admin = []
resent_one config run number (Reported report view) =
    closing_fill config run number ++ execution_report config number true report view ∷ []
resent_one config run number (Refused refused) =
    closing_fill config run number ++ again config number (Session (Reject refused)) ∷ []

-- the first number of the run that is open behind it, if one is
abbrev pub run_after : Option ℕ → ℕ → SentRecord → Option ℕ
run_after run number Admin = Some (run_from run number)
run_after run number entry = None
