-- What was read is in the ranges that an exchange counts on.
use Rattle.std.proofs.Common.{◌≡◌, Ok, Err}
use Rattle.dialect.specs.Read as dialect
use Rattle.dialect.specs.declared.content.Content.{Content}
use Rattle.dialect.specs.declared.content.Content.TheVariants.{Session, Order, ExecutionReport, Other}
use Rattle.fix_tags.specs.declared.session_body.SessionBody.TheVariants.{Logon, Heartbeat, TestRequest, ResendRequest, Reject, GapFill, Reset, Logout, BusinessReject}
use Rattle.dialect.specs.declared.message.Message.{Message}
use Rattle.exchange_core.specs.Keeping.{IsFillInRange, IsInRange}
use Rattle.exchange_core.specs.Sound.{IsReadContent, IsRead}

fill_is_read : (content : Content) → dialect.IsReadContent content → IsFillInRange content
fill_is_read (Session (Logon heart reset next)) is = tt
fill_is_read (Session (Heartbeat id)) is = tt
fill_is_read (Session (TestRequest id)) is = tt
fill_is_read (Session (ResendRequest begin last)) is = tt
fill_is_read (Session (Reject number)) is = tt
fill_is_read (Session (GapFill new_number)) is = is
fill_is_read (Session (Reset new_number)) is = tt
fill_is_read (Session Logout) is = tt
fill_is_read (Session (BusinessReject number)) is = tt
fill_is_read (Order read) is = tt
fill_is_read (ExecutionReport read) is = tt
fill_is_read Other is = tt

content_is_read : (content : Content) → dialect.IsReadContent content → IsReadContent content
content_is_read (Session (Logon heart reset next)) is = is.0
content_is_read (Session (Heartbeat id)) is = tt
content_is_read (Session (TestRequest id)) is = is
content_is_read (Session (ResendRequest begin last)) is = tt
content_is_read (Session (Reject number)) is = tt
content_is_read (Session (GapFill new_number)) is = tt
content_is_read (Session (Reset new_number)) is = tt
content_is_read (Session Logout) is = tt
content_is_read (Session (BusinessReject number)) is = tt
content_is_read (Order (Ok leg)) is = is
content_is_read (Order (Err fault)) is = tt
content_is_read (ExecutionReport read) is = tt
content_is_read Other is = tt

pub is_read : (m : Message) → dialect.IsRead m → IsRead m
is_read m is = record {
  range = record { number = is.number; fill = fill_is_read m.content is.content };
  content = content_is_read m.content is.content;
}
