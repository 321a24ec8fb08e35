-- The status of an answer (RFC 9110, section 15).
use Rattle.std.specs.Prelude.{ℕ, List, [], codes}
use Rattle.desk_http.specs.declared.status.Allow.{Allow}
use Rattle.desk_http.specs.declared.status.Allow.TheVariants.{Get, Post, Both}
use Rattle.desk_http.specs.declared.status.Status.{Status}
use Rattle.desk_http.specs.declared.status.Status.TheVariants as status

-- the number and its reason
abbrev pub status_line : Status → List ℕ
status_line status.Ok = codes "200 OK"
status_line status.Created = codes "201 Created"
status_line status.Accepted = codes "202 Accepted"
status_line status.BadRequest = codes "400 Bad Request"
status_line status.Unauthorized = codes "401 Unauthorized"
status_line status.Forbidden = codes "403 Forbidden"
status_line status.NotFound = codes "404 Not Found"
status_line (status.NoMethod allow) = codes "405 Method Not Allowed"
status_line status.TooSlow = codes "408 Request Timeout"
status_line status.Conflict = codes "409 Conflict"
status_line status.BodyTooLarge = codes "413 Content Too Large"
status_line status.TargetTooLong = codes "414 URI Too Long"
status_line status.NotJson = codes "415 Unsupported Media Type"
status_line status.HeadTooLarge = codes "431 Request Header Fields Too Large"
status_line status.Unavailable = codes "503 Service Unavailable"

-- the methods of a place, as a field of the head
abbrev pub allow_text : Allow → List ℕ
allow_text Get = codes "Allow: GET\r\n"
allow_text Post = codes "Allow: POST\r\n"
allow_text Both = codes "Allow: GET, POST\r\n"

-- the field that a 401 and a 405 have
abbrev pub more_head : Status → List ℕ
more_head status.Ok = []
more_head status.Created = []
more_head status.Accepted = []
more_head status.BadRequest = []
more_head status.Unauthorized = codes "WWW-Authenticate: Bearer\r\n"
more_head status.Forbidden = []
more_head status.NotFound = []
more_head (status.NoMethod allow) = allow_text allow
more_head status.TooSlow = []
more_head status.Conflict = []
more_head status.BodyTooLarge = []
more_head status.TargetTooLong = []
more_head status.NotJson = []
more_head status.HeadTooLarge = []
more_head status.Unavailable = []
