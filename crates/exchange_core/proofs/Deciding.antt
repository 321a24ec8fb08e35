-- What a message that is no Logon, and one that is no resend request, come to.
use Rattle.std.proofs.Common.{◌≡◌, ℕ, Bool, [], Option, true, refl}
use Rattle.dialect.specs.declared.content.Content.{Content}
use Rattle.dialect.specs.declared.content.Content.TheVariants.{Session, Order, ExecutionReport, Other}
use Rattle.fix_tags.specs.declared.session_body.SessionBody.TheVariants.{Logon, Heartbeat, TestRequest, ResendRequest, Reject, GapFill, Reset, Logout, BusinessReject}
use Rattle.dialect.specs.declared.message.Message.{Message}
use Rattle.dialect.specs.Addressed.{is_for}
use Rattle.exchange_core.specs.SentRecord.{has_numbers}
use Rattle.exchange_core.specs.declared.sent_record.SentRecord.TheVariants.{Admin}
use Rattle.exchange_core.specs.Turn.{used_for}
use Rattle.exchange_core.specs.Exchange.{ExchangeParts, heard, comes, resends, take}

pub comes_heard : (x : ExchangeParts) (connection number : ℕ) (content : Content) → ((heart : ℕ) (reset : Bool) (next : Option ℕ) → content ≡ Session (Logon heart reset next) → ⊥) → comes x connection number content ≡ heard x x.live connection number content
comes_heard x connection number (Session (Logon heart reset next)) other = absurd (other heart reset next refl)
comes_heard x connection number (Session (Heartbeat id)) other = refl
comes_heard x connection number (Session (TestRequest id)) other = refl
comes_heard x connection number (Session (ResendRequest begin last)) other = refl
comes_heard x connection number (Session (Reject refused)) other = refl
comes_heard x connection number (Session (GapFill new_number)) other = refl
comes_heard x connection number (Session (Reset new_number)) other = refl
comes_heard x connection number (Session Logout) other = refl
comes_heard x connection number (Session (BusinessReject refused)) other = refl
comes_heard x connection number (Order read) other = refl
comes_heard x connection number (ExecutionReport read) other = refl
comes_heard x connection number Other other = refl

pub resends_none : (x : ExchangeParts) (content : Content) → ((begin last : ℕ) → content ≡ Session (ResendRequest begin last) → ⊥) → resends x content ≡ []
resends_none x (Session (Logon heart reset next)) other = refl
resends_none x (Session (Heartbeat id)) other = refl
resends_none x (Session (TestRequest id)) other = refl
resends_none x (Session (ResendRequest begin last)) other = absurd (other begin last refl)
resends_none x (Session (Reject refused)) other = refl
resends_none x (Session (GapFill new_number)) other = refl
resends_none x (Session (Reset new_number)) other = refl
resends_none x (Session Logout) other = refl
resends_none x (Session (BusinessReject refused)) other = refl
resends_none x (Order read) other = refl
resends_none x (ExecutionReport read) other = refl
resends_none x Other other = refl

-- a message that is looked at
pub take_comes : (x : ExchangeParts) (connection : ℕ) (m : Message) → is_for x.config m ≡ true → has_numbers 2 x.config x.own ≡ true → take x connection m ≡ comes x connection m.number m.content
take_comes x connection m from left = rw (from, left) refl

-- what is no Reject is a message of the session
pub used_admin : (content : Content) → ((number : ℕ) → content ≡ Session (Reject number) → ⊥) → used_for content ≡ Admin
used_admin (Session (Logon heart reset next)) other = refl
used_admin (Session (Heartbeat id)) other = refl
used_admin (Session (TestRequest id)) other = refl
used_admin (Session (ResendRequest begin last)) other = refl
used_admin (Session (Reject refused)) other = absurd (other refused refl)
used_admin (Session (GapFill new_number)) other = refl
used_admin (Session (Reset new_number)) other = refl
used_admin (Session Logout) other = refl
used_admin (Session (BusinessReject refused)) other = refl
used_admin (Order read) other = refl
used_admin (ExecutionReport read) other = refl
used_admin Other other = refl
