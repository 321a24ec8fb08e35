-- What was read is in the ranges that a session counts on.
use Rattle.std.proofs.Common.{◌≡◌}
use Rattle.dialect.specs.Read as dialect
use Rattle.dialect.specs.declared.content.Content.{Content}
use Rattle.dialect.specs.declared.content.Content.TheVariants.{Session, Order, ExecutionReport, Other}
use Rattle.fix_tags.specs.declared.session_body.SessionBody.TheVariants.{Logon, Heartbeat, TestRequest, ResendRequest, Reject, GapFill, Reset, Logout, BusinessReject}
use Rattle.dialect.specs.declared.message.Message.{Message}
use Rattle.session_core.specs.Sound.{IsReadContent, IsRead}

content_is_read : (content : Content) → dialect.IsReadContent content → IsReadContent content
content_is_read (Session (Logon heart reset next)) is = is.1
content_is_read (Session (Heartbeat id)) is = tt
content_is_read (Session (TestRequest id)) is = is
content_is_read (Session (ResendRequest begin last)) is = tt
content_is_read (Session (Reject number)) is = tt
content_is_read (Session (GapFill new_number)) is = is
content_is_read (Session (Reset new_number)) is = tt
content_is_read (Session Logout) is = tt
content_is_read (Session (BusinessReject number)) is = tt
content_is_read (Order read) is = tt
content_is_read (ExecutionReport read) is = tt
content_is_read Other is = tt

pub is_read : (m : Message) → dialect.IsRead m → IsRead m
is_read m is = record { number = is.number; content = content_is_read m.content is.content }
