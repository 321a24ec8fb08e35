-- An exchange after a turn.
use Rattle.std.proofs.Common.{◌≡◌, ℕ, suc, false, List, [], ◌∷◌, length, Result, Ok, Err, OnOk, refl, subst}
use Rattle.std.specs.Global.{Vec}
use Rattle.fix_tags.specs.Config.{ConfigParts}
use Rattle.fix_tags.specs.Stamp.{StampParts}
use Rattle.dialect.specs.Addressed.{message_of}
use Rattle.dialect.specs.Wording.{Encoding}
use Rattle.dialect.specs.Outgoing.{alone}
use Rattle.dialect.specs.declared.outgoing.Outgoing.{Outgoing}
use Rattle.dialect.specs.declared.content.Content.{Content}
use Rattle.dialect.specs.declared.content.Content.TheVariants.{Session, Order, ExecutionReport, Other}
use Rattle.fix_tags.specs.declared.session_body.SessionBody.TheVariants.{Logon, Heartbeat, TestRequest, ResendRequest, Reject, GapFill, Reset, Logout, BusinessReject}
use Rattle.exchange_core.specs.declared.sent_record.SentRecord.{SentRecord}
use Rattle.exchange_core.specs.declared.turn.Says.{Says}
use Rattle.exchange_core.specs.declared.turn.Says.TheVariants.{Nothing, One, OneAndRequest}
use Rattle.exchange_core.specs.declared.turn.Turn.{Turn}
use Rattle.exchange_core.specs.Exchange.{ExchangeParts, next_message}
use Rattle.exchange_core.specs.Frames.{Writes}
use Rattle.exchange_core.specs.Kept.{reports_of}
use Rattle.exchange_core.specs.SentRecord.{next_own_number}
use Rattle.exchange_core.specs.Turn.{turn_written, turn_own, turn_answer}
use Rattle.exchange_core.proofs.Kept.{reports_silent, reports_silent_two, reports_refused}
use Rattle.exchange_core.proofs.Writing.{writes_both}

-- a turn reports nothing
pub turn_silent : (own : List SentRecord) (says : Says) → reports_of (turn_own own says) ≡ reports_of own
turn_silent own Nothing = refl
turn_silent own (One (Session (Logon heart reset next))) = reports_silent own
turn_silent own (One (Session (Heartbeat id))) = reports_silent own
turn_silent own (One (Session (TestRequest id))) = reports_silent own
turn_silent own (One (Session (ResendRequest begin last))) = reports_silent own
turn_silent own (One (Session (Reject refused))) = reports_refused own refused
turn_silent own (One (Session (GapFill new_number))) = reports_silent own
turn_silent own (One (Session (Reset new_number))) = reports_silent own
turn_silent own (One (Session Logout)) = reports_silent own
turn_silent own (One (Session (BusinessReject refused))) = reports_silent own
turn_silent own (One (Order read)) = reports_silent own
turn_silent own (One (ExecutionReport read)) = reports_silent own
turn_silent own (One Other) = reports_silent own
turn_silent own (OneAndRequest content) = reports_silent_two own

-- the exchange stands as it says
pub seen_turned : (x : ExchangeParts) (turn : Turn) (own : List SentRecord) → own ≡ turn_own x.own turn.says → (let y : ExchangeParts = record x {
  expected = turn.expected;
  live = turn.live;
  last = turn.last;
  closed_at = turn.closed_at;
  own = own;
} in y) ≡ (turn_answer x turn).1
seen_turned x turn own own_is = rw own_is refl

-- a message, and then another, if there was memory for it
written_behind : {X E : Type 0} (w : Encoding) (stamp : StampParts) (first second : Outgoing) (a b c : List (Vec ℕ)) (result : Result X E) → Writes w stamp (first ∷ []) a b → OnOk result (Writes w stamp (second ∷ []) b c) → OnOk result (Writes w stamp (first ∷ second ∷ []) a c)
written_behind w stamp first second a b c (Ok x) one two = writes_both w stamp (first ∷ []) (second ∷ []) a b c one two
written_behind w stamp first second a b c (Err e) one two = tt

-- both messages of a turn that asks for what is missing
pub says_two : {X E : Type 0} (w : Encoding) (stamp : StampParts) (x : ExchangeParts) (expected : ℕ) (says : Says) (content : Content) (config : ConfigParts) (number later : ℕ) (first second : Outgoing) (a b c : List (Vec ℕ)) (result : Result X E) → says ≡ OneAndRequest content → config ≡ x.config → number ≡ suc (length x.own) → later ≡ suc (suc (length x.own)) → first ≡ alone (message_of config number false content) → second ≡ alone (message_of config later false (Session (ResendRequest expected 0))) → Writes w stamp (first ∷ []) a b → OnOk result (Writes w stamp (second ∷ []) b c) → OnOk result (Writes w stamp (turn_written x expected says) a c)
says_two w stamp x expected says content config number later first second a b c result says_is config_is number_is later_is first_is second_is one two =
    let first_is_next : first ≡ next_message x content = rw (first_is, config_is, number_is) refl in
    let second_is_next : second ≡ alone (message_of x.config (suc (next_own_number x.own)) false (Session (ResendRequest expected 0))) =
    rw (second_is, config_is, later_is) refl in
    rw says_is (written_behind w stamp (next_message x content) (alone (message_of x.config (suc (next_own_number x.own)) false (Session (ResendRequest expected 0)))) a b c result
    (subst (λ (out : Outgoing). Writes w stamp (out ∷ []) a b) first_is_next one)
    (subst (λ (out : Outgoing). OnOk result (Writes w stamp (out ∷ []) b c)) second_is_next two))
