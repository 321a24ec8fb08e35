-- The requests of a connection: what its bytes ask for, one after the other (RFC 9110, section 5; RFC 9112, sections 6
-- and 9.3).
use Rattle.std.specs.Prelude.{◌≡◌, ◌≢◌, ◌<◌, ◌≤◌, ℕ, ◌==◌, Bool, true, false, not, ◌&&◌, nat_lt, List, [], ◌∷◌, ◌++◌, length, map, Option, Some, None, option_and_then, option_map, codes, bytes_eq, if◌then◌else◌}
use Rattle.httparse.specs.Grammar.{RequestHead}
use Rattle.httparse.specs.Spans.{name_and_value}
use Rattle.http1.specs.declared.conn.Limits.{Limits}
use Rattle.http1.specs.declared.conn.Reading.{Reading}
use Rattle.http1.specs.declared.conn.Reading.TheVariants as Reads
use Rattle.http1.specs.declared.conn.Writing.TheVariants as Writes
use Rattle.http1.specs.declared.decode.Decoder.{Decoder}
use Rattle.http1.specs.declared.server.Server.{Server}
use Rattle.http1.specs.declared.decode.Decoder.TheVariants.{UntilClose}
use Rattle.http1.specs.Body.{Body}
use Rattle.http1.specs.Decoder.{Completes}
use Rattle.http1.specs.Fields.{Header, known_fields, values_named}
use Rattle.http1.specs.Message.{Request as Message, ReadsRequestMessage, known_of}
use Rattle.desk_http.specs.declared.reading.Draft.{Draft}
use Rattle.desk_http.specs.declared.reading.Got.{Got}
use Rattle.desk_http.specs.declared.reading.Step.{Step}
use Rattle.desk_http.specs.declared.request.Method.{Method}
use Rattle.desk_http.specs.declared.request.Method.TheVariants.{Get, Post, Other}
use Rattle.desk_http.specs.declared.request.Request.{Request}

-- the most bytes of a head, of a chunked body's extensions and of its trailers
abbrev pub limits : Limits
limits = record { max_head_len = 8192; max_extensions_len = 1024; max_trailers_len = 1024 }

-- what a request asks by
abbrev pub method_of : List ℕ → Method
method_of word =
    if bytes_eq word (codes "GET") then Get else (if bytes_eq word (codes "POST") then Post else Other)

-- a request, as far as the desk looks at it
pub record Asked : Type 0 where
  pub method : Method
  pub target : List ℕ
  pub host : List ℕ
  pub origin : List ℕ
  pub content_type : List ℕ
  pub authorization : List ℕ
  pub last_event_id : List ℕ
  pub idempotency_key : List ℕ
  pub body : List ℕ

abbrev pub asked_of : Request → Asked
asked_of request = record {
  method = request.method;
  target = request.target.items;
  host = request.host.items;
  origin = request.origin.items;
  content_type = request.content_type.items;
  authorization = request.authorization.items;
  last_event_id = request.last_event_id.items;
  idempotency_key = request.idempotency_key.items;
  body = request.body.items;
}

-- the value of a field that may stand once, if it is there
abbrev pub only : List (List ℕ) → Option (Option (List ℕ))
only [] = Some None
only (value ∷ []) = Some (Some value)
only (value ∷ other ∷ more) = None

-- the value of the field of a name, in any case, if it is there
abbrev pub given : List ℕ → List Header → Option (Option (List ℕ))
given name headers = only (values_named name headers)

-- empty where it is missing
abbrev pub or_empty : Option (List ℕ) → List ℕ
or_empty None = []
or_empty (Some value) = value

abbrev pub field : List ℕ → List Header → Option (List ℕ)
field name headers = option_map or_empty (given name headers)

-- the same of a field that isn't empty where it is there
abbrev pub or_missing : Option (List ℕ) → Option (List ℕ)
or_missing None = Some []
or_missing (Some value) = if length value == 0 then None else Some value

abbrev pub filled_field : List ℕ → List Header → Option (List ℕ)
filled_field name headers = option_and_then or_missing (given name headers)

-- what a head asks, unless a field that the desk looks at stands twice, or its reference is empty
abbrev pub asked_by : List ℕ → List ℕ → List Header → Option Asked
asked_by method target headers =
    option_and_then (λ host. option_and_then (λ origin. option_and_then (λ content_type.
    option_and_then (λ authorization. option_and_then (λ last_event_id. option_and_then (λ idempotency_key.
    Some (record {
      method = method_of method;
      target = target;
      host = host;
      origin = origin;
      content_type = content_type;
      authorization = authorization;
      last_event_id = last_event_id;
      idempotency_key = idempotency_key;
      body = [];
    }))
    (filled_field (codes "idempotency-key") headers)) (field (codes "last-event-id") headers))
    (field (codes "authorization") headers)) (field (codes "content-type") headers))
    (field (codes "origin") headers)) (field (codes "host") headers)

-- the same, of the tree of a head
abbrev pub asked_in : RequestHead → Option Asked
asked_in head = asked_by head.method head.target (map name_and_value head.fields)

-- a request with more of its body
abbrev pub with_body : Asked → List ℕ → Asked
with_body asked bytes = record asked { body = asked.body ++ bytes }

-- whether the connection stays behind a request: in HTTP/1.1, unless the client closes it
abbrev pub stays_open : RequestHead → Bool
stays_open head = nat_lt 0 head.minor && not (known_of head.fields).close

-- a stream begins with this request, and the rest follows it: at most 64 fields, one length at most, and a body of
-- 64 KiB at most
pub record IsRequest (stream : List ℕ) (asked : Asked) (stays : Bool) (rest : List ℕ) : Type 0 where
  pub message : Message
  pub reads : ReadsRequestMessage limits stream message rest
  pub few_fields : length message.head.fields ≤ 64
  pub few_trailers : length message.body.trailers ≤ 64
  pub one_length : (known_of message.head.fields).framing_fields ≤ 1
  pub kept : Asked
  pub kept_is : asked_in message.head ≡ Some kept
  pub asked_is : asked ≡ with_body kept message.body.bytes
  pub small : length asked.body ≤ 65536
  pub stays_is : stays ≡ stays_open message.head

-- a stream goes on with what is left of a request's body
pub record IsRemainder (decoder : Decoder) (kept : Asked) (kept_stays : Bool) (stream : List ℕ) (asked : Asked)
    (stays : Bool) (rest : List ℕ) : Type 0 where
  pub body : Body
  pub completes : Completes decoder stream body rest
  pub few_trailers : length body.trailers ≤ 64
  pub asked_is : asked ≡ with_body kept body.bytes
  pub small : length asked.body ≤ 65536
  pub stays_is : stays ≡ kept_stays

-- what was read of a request, and what came behind that and wasn't read yet
pub record Unread : Type 0 where
  pub reading : Reading
  pub kept : Asked
  pub stays : Bool
  pub input : List ℕ

-- a stream goes on with this request, of which that much was read
abbrev pub GoesOn : Reading → Asked → Bool → List ℕ → Asked → Bool → List ℕ → Type 0
GoesOn Reads.Head kept kept_stays stream asked stays rest = IsRequest stream asked stays rest
GoesOn (Reads.Body decoder) kept kept_stays stream asked stays rest =
    IsRemainder decoder kept kept_stays stream asked stays rest
GoesOn Reads.Done kept kept_stays stream asked stays rest = ⊥
GoesOn Reads.Upgraded kept kept_stays stream asked stays rest = ⊥
GoesOn Reads.Closed kept kept_stays stream asked stays rest = ⊥
GoesOn (Reads.Failed e) kept kept_stays stream asked stays rest = ⊥

-- what is unread, and the bytes that come behind it, go on with this request
abbrev pub Begins : Unread → List ℕ → Asked → Bool → List ℕ → Type 0
Begins unread more = GoesOn unread.reading unread.kept unread.stays (unread.input ++ more)

-- whatever comes behind them, both go on with the same request
pub record IsSame (old new : Unread) : Type 0 where
  pub back : (more : List ℕ) (asked : Asked) (stays : Bool) (rest : List ℕ)
      → Begins new more asked stays rest → Begins old more asked stays rest
  pub forth : (more : List ℕ) (asked : Asked) (stays : Bool) (rest : List ℕ)
      → Begins old more asked stays rest → Begins new more asked stays rest

-- whatever comes behind it, the old one goes on with the request that was kept, and just the new one's bytes follow it
abbrev pub IsWhole : Unread → Unread → Type 0
IsWhole old new = (more : List ℕ) → Begins old more new.kept new.stays (new.input ++ more)

-- no whole request is there yet
abbrev pub IsPart : Unread → Type 0
IsPart unread = (asked : Asked) (stays : Bool) (rest : List ℕ) → ¬ (Begins unread [] asked stays rest)

-- none is, whatever comes
abbrev pub IsNone : Unread → Type 0
IsNone unread = (more : List ℕ) (asked : Asked) (stays : Bool) (rest : List ℕ) → ¬ (Begins unread more asked stays rest)

-- a head asks this much
pub record IsDraft (method target : List ℕ) (minor : ℕ) (headers : List Header) (kept : Asked) (stays : Bool)
    : Type 0 where
  pub one_length : (known_fields headers).framing_fields ≤ 1
  pub kept_is : asked_by method target headers ≡ Some kept
  pub stays_is : stays ≡ nat_lt 0 minor && not (known_fields headers).close

-- a head was kept, or asks nothing that may be kept
abbrev pub Drafts : List ℕ → List ℕ → ℕ → List Header → Draft → Step → Type 0
Drafts method target minor headers draft Step.More = ⊥
Drafts method target minor headers draft Step.On =
    IsDraft method target minor headers (asked_of draft.request) draft.stays
    × (draft.request.body.items ≡ [])
Drafts method target minor headers draft Step.Whole = ⊥
Drafts method target minor headers draft (Step.Refused refused) =
    (kept : Asked) (stays : Bool) → ¬ (IsDraft method target minor headers kept stays)

-- a piece of a body was kept, or is too much
abbrev pub Keeps : Draft → List ℕ → Draft → Step → Type 0
Keeps old piece new Step.More = ⊥
Keeps old piece new Step.On =
    (asked_of new.request ≡ with_body (asked_of old.request) piece) × (new.stays ≡ old.stays)
    × (length (with_body (asked_of old.request) piece).body ≤ 65536)
Keeps old piece new Step.Whole = ⊥
Keeps old piece new (Step.Refused refused) = 65536 < length (with_body (asked_of old.request) piece).body

-- a head or a body is due, and that has an end
abbrev pub IsDue : Reading → Type 0
IsDue Reads.Head = Unit {0}
IsDue (Reads.Body decoder) = decoder ≢ UntilClose
IsDue Reads.Done = ⊥
IsDue Reads.Upgraded = ⊥
IsDue Reads.Closed = ⊥
IsDue (Reads.Failed e) = ⊥

-- a server that reads and has written nothing, where 64 KiB of a body at most were kept
pub record IsReading (server : Server) (kept : Asked) : Type 0 where
  pub limits_are : server.limits ≡ limits
  pub unanswered : server.writing ≡ Writes.Head
  pub due : IsDue server.reading
  pub small : length kept.body ≤ 65536

-- what a server read, and the bytes behind it
abbrev pub unread_of : Server → Asked → Bool → List ℕ → Unread
unread_of server kept stays input =
    record { reading = server.reading; kept = kept; stays = stays; input = input }

-- what a step of reading came to
abbrev pub Came : Unread → Unread → Type 0 → Step → Type 0
Came old new goes_on Step.More = IsSame old new × IsPart old × goes_on
Came old new goes_on Step.On = IsSame old new × (length new.input < length old.input) × goes_on
Came old new goes_on Step.Whole = IsWhole old new
Came old new goes_on (Step.Refused refused) = IsNone old

-- a connection's bytes that weren't read yet, and whether any are read at all
pub record Pending : Type 0 where
  pub is_over : Bool
  pub unread : Unread

-- with bytes that came behind it
abbrev pub with_input : Pending → List ℕ → Pending
with_input pending bytes =
    record pending { unread = record (pending.unread) { input = pending.unread.input ++ bytes } }

-- what was found in the bytes of a connection: a request with just the bytes behind it left, that none is whole yet, or
-- that none can be
abbrev pub Gives : Unread → Pending → Got → Type 0
Gives old new (Got.Request request stays) =
    ((more : List ℕ) → Begins old more (asked_of request) stays (new.unread.input ++ more))
    × (new.unread.reading ≡ Reads.Head) × (new.is_over ≡ false)
Gives old new Got.More = IsSame old new.unread × IsPart old × (new.is_over ≡ false)
Gives old new (Got.Refused refused) = IsNone old × (new.is_over ≡ true)
Gives old new Got.Over = ⊥
