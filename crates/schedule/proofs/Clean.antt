-- Where every order that comes can be read, our exchange refuses none: its own numbers are messages of the session and
-- reports, and so the notes of the first of them are its first reports.
use Rattle.std.proofs.Common.{◌≡◌, ◌==◌, ℕ, zero, suc, Bool, true, false, List, [], ◌∷◌, ◌++◌, map, take as list_take, Option, Some, None, Ok, Err, refl, sym, ap, ◌∙◌}
use Rattle.dialect.specs.declared.fault.DialectFault.{DialectFault}
use Rattle.dialect.specs.declared.report.Report.{Report}
use Rattle.dialect.specs.declared.note.Note.{Note}
use Rattle.dialect.specs.declared.note.Note.TheVariants as note
use Rattle.dialect.specs.declared.content.Content.{Content}
use Rattle.dialect.specs.declared.content.Content.TheVariants.{Session, Order}
use Rattle.fix_tags.specs.declared.session_body.SessionBody.TheVariants.{TestRequest, GapFill, Logout}
use Rattle.dialect.specs.declared.message.Message.{Message}
use Rattle.resend.specs.Log.{Entry}
use Rattle.exchange_core.specs.declared.sent_record.SentRecord.{SentRecord}
use Rattle.exchange_core.specs.declared.sent_record.SentRecord.TheVariants.{Admin, Reported, Refused}
use Rattle.exchange_core.specs.Exchange.{ExchangeParts, logon_answer, with_connection, due_taken, take}
use Rattle.exchange_core.specs.Keeping.{kept}
use Rattle.exchange_core.proofs.Cases.{after_take_is}
use Rattle.exchange_core.proofs.ActsReport.{AnyPx, trade_is, cancel_rest_is, reject_is, bust_is, test_is}
use Rattle.venue_line.specs.Notes.{notes_under}
use Rattle.schedule.specs.declared.act.Act.{Act}
use Rattle.schedule.specs.declared.act.Act.TheVariants as act
use Rattle.schedule.specs.World.{reports_in}
use Rattle.schedule.specs.Happening.{act_of}

-- no own number carries a refusal
abbrev pub IsClean : List SentRecord → Type 0
IsClean [] = Unit {0}
IsClean (Admin ∷ own) = IsClean own
IsClean (Reported report view ∷ own) = IsClean own
IsClean (Refused number ∷ own) = ⊥

clean-append : (xs ys : List SentRecord) → IsClean xs → IsClean ys → IsClean (xs ++ ys)
clean-append [] ys clean more = more
clean-append (Admin ∷ xs) ys clean more = clean-append xs ys clean more
clean-append (Reported report view ∷ xs) ys clean more = clean-append xs ys clean more
clean-append (Refused number ∷ xs) ys clean more = absurd clean

-- a message that is no order which can't be read
abbrev pub IsRead : Content → Type 0
IsRead content = (fault : DialectFault) → content ≡ Order (Err fault) → ⊥

due_clean : (x : ExchangeParts) (content : Content) → IsRead content → IsClean x.own
    → IsClean (due_taken x content).1.own
due_clean x (Order (Ok leg)) read clean = clean-append x.own _ clean tt
due_clean x (Order (Err fault)) read clean = absurd (read fault refl)
due_clean x (Session (GapFill new_number)) read clean = clean
due_clean x (Session Logout) read clean = clean-append x.own (Admin ∷ []) clean tt
due_clean x (Session (TestRequest id)) read clean = clean-append x.own (Admin ∷ []) clean tt
due_clean x content read clean = clean

logon_clean : (x : ExchangeParts) (connection number heart : ℕ) (next : Option ℕ) (due : Bool) → IsClean x.own
    → IsClean (logon_answer (with_connection x connection number) connection due heart next).1.own
logon_clean x connection number heart (Some next) due clean = clean-append x.own (Admin ∷ []) clean tt
logon_clean x connection number heart None true clean = clean-append x.own (Admin ∷ []) clean tt
logon_clean x connection number heart None false clean = clean-append x.own (Admin ∷ Admin ∷ []) clean tt

pub take_clean : (x : ExchangeParts) (connection : ℕ) (m : Message) → IsRead m.content → IsClean x.own
    → IsClean (take x connection m).1.own
take_clean x connection m read clean =
    after_take_is x connection m (λ (y : ExchangeParts). IsClean y.own) clean
    (λ heart next room newer. logon_clean x connection m.number heart next (m.number == x.expected) clean)
    (λ room due. due_clean x m.content read clean)
    (λ live room is. clean-append x.own (Admin ∷ []) clean tt)

pub act_clean : (a : Act) (x : ExchangeParts) → IsClean x.own → IsClean (act_of a x).1.own
act_clean (act.Trade order shares px) x clean =
    trade_is AnyPx x (λ (y : ExchangeParts). IsClean y.own) clean
    (λ place old new kind is. clean-append x.own _ clean tt) order shares px tt
act_clean (act.CancelRest order) x clean =
    cancel_rest_is AnyPx x (λ (y : ExchangeParts). IsClean y.own) clean
    (λ place old new kind is. clean-append x.own _ clean tt) order
act_clean (act.Reject order) x clean =
    reject_is AnyPx x (λ (y : ExchangeParts). IsClean y.own) clean
    (λ place old new kind is. clean-append x.own _ clean tt) order
act_clean (act.Bust order which) x clean =
    bust_is AnyPx x (λ (y : ExchangeParts). IsClean y.own) clean
    (λ place old new kind is. clean-append x.own _ clean tt) order which
act_clean act.Test x clean =
    test_is x (λ (y : ExchangeParts). IsClean y.own) clean (λ left. clean-append x.own (Admin ∷ []) clean tt)

-- the notes of the first own numbers are the first reports
abbrev pub report_notes : List Report → List Note
report_notes reports = map (λ report. note.Report report) reports

none_taken : {A : Type 0} (xs : List A) → list_take 0 xs ≡ []
none_taken [] = refl
none_taken (x ∷ xs) = refl

pub first_reports : (log : List Entry) (own : List SentRecord) (count : ℕ) → IsClean own
    → (first : ℕ) × (notes_under log (list_take count (map kept own)) ≡ report_notes (list_take first (reports_in own)))
first_reports log own zero clean =
    (0, ap (notes_under log) (none_taken (map kept own)) ∙ sym (ap report_notes (none_taken (reports_in own))))
first_reports log [] (suc n) clean = (0, refl)
first_reports log (Admin ∷ own) (suc n) clean = first_reports log own n clean
first_reports log (Reported report view ∷ own) (suc n) clean =
    let more = first_reports log own n clean in (suc more.0, ap (λ l. note.Report report ∷ l) more.1)
first_reports log (Refused number ∷ own) (suc n) clean = absurd clean
