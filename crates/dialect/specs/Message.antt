-- A message as a session and an exchange understand it: an envelope whose application fields the dialect has read.
use Rattle.std.specs.Prelude.{ℕ, Bool, true, false, List, [], ◌∷◌, ◌==◌, if◌then◌else◌}
use Rattle.fix_text.specs.Tagged.{Tagged}
use Rattle.fix_tags.specs.Body.{Body}
use Rattle.fix_tags.specs.declared.body.Body.TheVariants as body
use Rattle.fix_tags.specs.declared.envelope.Envelope.{Envelope}
use Rattle.dialect.specs.declared.content.Content.{Content}
use Rattle.dialect.specs.declared.content.Content.TheVariants.{Session, Order, ExecutionReport, Other}
use Rattle.fix_tags.specs.declared.session_body.SessionBody.TheVariants.{Logon}
use Rattle.dialect.specs.declared.message.Message.{Message}
use Rattle.dialect.specs.Wording.{Decoding}

-- whether it is a Logon
abbrev pub is_logon : Content → Bool
is_logon (Session (Logon heart reset next)) = true
is_logon _ = false

-- what an application message of one kind says
abbrev pub application : Decoding → List ℕ → List Tagged → Content
application read (c ∷ []) fields =
    if c == 68 then Order (read.order fields)
    else (if c == 56 then ExecutionReport (read.report fields) else Other)
application read kind fields = Other

-- what a body says
abbrev pub content_of : Decoding → Body → Content
content_of read (body.Session says) = Session says
content_of read (body.App kind fields) = application read kind fields

-- an envelope as a message
abbrev pub decoded : Decoding → Envelope → Message
decoded read e = record {
  from = e.sender;
  to = e.target;
  number = e.number;
  poss_dup = e.poss_dup;
  content = content_of read e.body;
}
