-- An answer, as it is sent (RFC 9112, section 4).
use Rattle.std.specs.Prelude.{◌≡◌, ◌==◌, ℕ, Bool, List, [], ◌++◌, codes, decimal, length, string_bytes, if◌then◌else◌}
use Rattle.desk_json.specs.FaultJson.{said_json}
use Rattle.desk_http.specs.declared.refused.Refused.{Refused}
use Rattle.desk_http.specs.declared.reply.Kind.{Kind}
use Rattle.desk_http.specs.declared.reply.Kind.TheVariants.{Json, Page, Metrics}
use Rattle.desk_http.specs.declared.reply.Reply.{Reply}
use Rattle.desk_http.specs.declared.run.Run.{Run}
use Rattle.desk_http.specs.declared.status.Status.{Status}
use Rattle.desk_http.specs.declared.user.User.{User}
use Rattle.desk_http.specs.Refused.{refused_name, refused_words}
use Rattle.desk_http.specs.Status.{more_head, status_line}

-- an answer has this status and this body
pub record IsReply (reply : Reply) (status : Status) (kind : Kind) (body : List ℕ) : Type 0 where
  pub status_is : reply.status ≡ status
  pub kind_is : reply.kind ≡ kind
  pub body_is : string_bytes reply.body ≡ body

-- what a body is
abbrev pub kind_text : Kind → List ℕ
kind_text Json = codes "application/json"
kind_text Page = codes "text/html; charset=utf-8"
kind_text Metrics = codes "text/plain; version=0.0.4; charset=utf-8"

-- why a request isn't carried out, as `{"fault":"no such place"}`, or `{"fault":"alice may not trade"}`
abbrev pub refused_json : List User → Refused → List ℕ
refused_json users refused = said_json (refused_name users refused ++ refused_words refused)

-- the fields that every answer has
abbrev pub safe_head : List ℕ
safe_head = codes "Cache-Control: no-store\r\nX-Content-Type-Options: nosniff\r\nX-Frame-Options: DENY\r\n"

-- what an answer says of its connection (RFC 9112, section 9.3), and the end of its head
abbrev pub connection_field : Bool → List ℕ
connection_field stays =
    if stays then codes "Connection: keep-alive\r\n\r\n" else codes "Connection: close\r\n\r\n"

-- the head of an answer, up to the fields that every answer has
abbrev pub head_text : List ℕ → List ℕ → ℕ → List ℕ → List ℕ
head_text line kind len more =
    codes "HTTP/1.1 " ++ line ++ codes "\r\nContent-Type: " ++ kind ++ codes "\r\nContent-Length: " ++ decimal len
    ++ codes "\r\n" ++ more

-- the field of a name, where there is one
abbrev pub named_field : List ℕ → List ℕ → List ℕ
named_field head name = if length name == 0 then [] else head ++ name ++ codes "\r\n"

-- the fields that say which run of which desk answers, as `Dispatch-Run: 2026-11-28T09:15:02.123456789Z`, and
-- `Dispatch-Desk: EQ-1` and `Dispatch-Environment: UAT` where the desk's file says so
abbrev pub run_field : Run → List ℕ
run_field run =
    codes "Dispatch-Run: " ++ string_bytes run.id ++ codes "\r\n"
    ++ named_field (codes "Dispatch-Desk: ") (string_bytes run.desk)
    ++ named_field (codes "Dispatch-Environment: ") (string_bytes run.environment)

-- the text of an answer of a run, behind which its connection stays or is closed
abbrev pub reply_text : Run → Bool → Reply → List ℕ
reply_text run stays reply =
    head_text (status_line reply.status) (kind_text reply.kind) (length (string_bytes reply.body))
    (more_head reply.status)
    ++ run_field run ++ safe_head ++ connection_field stays ++ string_bytes reply.body

-- bytes were sent that end in the text of such an answer
pub record Sends (run : Run) (stays : Bool) (IsSuch : Reply → Type 0) (old new : List ℕ) : Type 0 where
  pub reply : Reply
  pub such : IsSuch reply
  pub sent : new ≡ old ++ reply_text run stays reply
