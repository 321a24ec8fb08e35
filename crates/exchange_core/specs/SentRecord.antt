-- The exchange's own numbers: what each was used for, and what a resend request is answered with (FIX 4.4 Volume 2,
-- "Resend Request" and "Sequence Reset").
use Rattle.std.specs.Prelude.{ℕ, suc, ◌+◌, ◌-◌, Bool, true, List, [], ◌∷◌, ◌++◌, length, take, drop, codes, decimal, Option, Some, None, Ok, nat_le, if◌then◌else◌}
use Rattle.fix_tags.specs.Config.{ConfigParts}
use Rattle.fix_tags.specs.Range.{range_end, is_range}
use Rattle.dialect.specs.declared.report.Report.{Report}
use Rattle.dialect.specs.Addressed.{message_of}
use Rattle.dialect.specs.declared.content.Content.{Content}
use Rattle.dialect.specs.declared.content.Content.TheVariants.{Session, ExecutionReport}
use Rattle.fix_tags.specs.declared.session_body.SessionBody.TheVariants.{Reject, GapFill}
use Rattle.dialect.specs.OrderView.{OrderViewParts}
use Rattle.dialect.specs.declared.outgoing.Outgoing.{Outgoing}
use Rattle.dialect.specs.Outgoing.{alone}
use Rattle.exchange_core.specs.declared.sent_record.SentRecord.{SentRecord}
use Rattle.exchange_core.specs.declared.sent_record.SentRecord.TheVariants.{Admin, Reported, Refused}

-- SentRecord numbers begin at 1, and what they were used for is listed in their order.

-- the next number, and whether so many are left below the one that no message may have
abbrev pub next_own_number : List SentRecord → ℕ
next_own_number own = suc (length own)

abbrev pub has_numbers : ℕ → ConfigParts → List SentRecord → Bool
has_numbers count config own = nat_le (next_own_number own + count) config.max_number

-- how many reports there are
abbrev pub report_count : List SentRecord → ℕ
report_count [] = 0
report_count (Reported report view ∷ own) = suc (report_count own)
report_count (entry ∷ own) = report_count own

-- the count of the next report, this one included, and an ExecID (17): `E` and a count
abbrev pub next_exec : List SentRecord → ℕ
next_exec own = suc (report_count own)

abbrev pub exec_id : ℕ → List ℕ
exec_id count = codes "E" ++ decimal count

-- an ExecutionReport, and beside it the order as it was then; marked where the peer may have seen it before (43=Y)
abbrev pub execution_report : ConfigParts → ℕ → Bool → Report → OrderViewParts → Outgoing
execution_report config number poss_dup report view =
    record { message = message_of config number poss_dup (ExecutionReport (Ok report)); beside = Some view }

-- any other message to the peer under a number that it may have seen before (43=Y)
abbrev pub again : ConfigParts → ℕ → Content → Outgoing
again config number content = alone (message_of config number true content)

-- a gap fill over the numbers from the first one that is open, if there is one, to the one before this
abbrev pub closing_fill : ConfigParts → Option ℕ → ℕ → List Outgoing
closing_fill config None number = []
closing_fill config (Some first) number = again config first (Session (GapFill number)) ∷ []

-- the first number of an open run of messages of the session, where this one carries on or begins it
abbrev pub run_from : Option ℕ → ℕ → ℕ
run_from None number = number
run_from (Some first) number = first

-- the messages of these numbers, of which the first has this number, where a run may be open: each report and refusal
-- again, and each run of the rest by one gap fill
abbrev pub resent : ConfigParts → Option ℕ → ℕ → List SentRecord → List Outgoing
resent config run number [] = closing_fill config run number
resent config run number (Admin ∷ own) = resent config (Some (run_from run number)) (suc number) own
resent config run number (Reported report view ∷ own) =
    closing_fill config run number
    ++ execution_report config number true report view ∷ resent config None (suc number) own
resent config run number (Refused refused ∷ own) =
    closing_fill config run number ++ again config number (Session (Reject refused))
    ∷ resent config None (suc number) own

-- what the request for a range is answered with
abbrev pub resent_answer : ConfigParts → List SentRecord → ℕ → ℕ → List Outgoing
resent_answer config own begin last =
    if is_range (length own) begin last
    then resent config None begin (drop (begin - 1) (take (range_end (length own) last) own))
    else []
