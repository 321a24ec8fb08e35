-- Why a request isn't carried out, as it is answered.
use Rattle.std.specs.Prelude.{ℕ, List, [], ◌++◌, Option, Some, None, codes, slice_get, string_bytes}
use Rattle.desk_http.specs.declared.status.Status.{Status}
use Rattle.desk_http.specs.declared.status.Status.TheVariants as status
use Rattle.desk_http.specs.declared.refused.Refused.{Refused}
use Rattle.desk_http.specs.declared.refused.Refused.TheVariants.{Unreadable, TooSlow, Crowded, TargetTooLong, HeadTooLarge, BodyTooLarge, ForeignHost, NoPlace, NoMethod, BadQuery, ForeignOrigin, NotJson, NoToken, WrongToken, MayNot}
use Rattle.desk_http.specs.declared.user.Right.{Right}
use Rattle.desk_http.specs.declared.user.Right.TheVariants.{Read, Trade, Close, Halt}
use Rattle.desk_http.specs.declared.user.User.{User}

abbrev pub refused_status : Refused → Status
refused_status Unreadable = status.BadRequest
refused_status TooSlow = status.TooSlow
refused_status Crowded = status.Unavailable
refused_status TargetTooLong = status.TargetTooLong
refused_status HeadTooLarge = status.HeadTooLarge
refused_status BodyTooLarge = status.BodyTooLarge
refused_status ForeignHost = status.Forbidden
refused_status NoPlace = status.NotFound
refused_status (NoMethod allow) = status.NoMethod allow
refused_status BadQuery = status.BadRequest
refused_status ForeignOrigin = status.Forbidden
refused_status NotJson = status.NotJson
refused_status NoToken = status.Unauthorized
refused_status WrongToken = status.Unauthorized
refused_status (MayNot user right) = status.Forbidden

-- what a user may not, behind his name
abbrev pub may_not : Right → List ℕ
may_not Read = codes " may not read"
may_not Trade = codes " may not trade"
may_not Close = codes " may not close"
may_not Halt = codes " may not halt"

-- why, in words; where a user may not, behind his name
abbrev pub refused_words : Refused → List ℕ
refused_words Unreadable = codes "no HTTP request"
refused_words TooSlow = codes "no whole request in time"
refused_words Crowded = codes "too many connections"
refused_words TargetTooLong = codes "the request line is too long"
refused_words HeadTooLarge = codes "the head has more than 8 KiB"
refused_words BodyTooLarge = codes "the body has more than 64 KiB"
refused_words ForeignHost = codes "a foreign host"
refused_words NoPlace = codes "no such place"
refused_words (NoMethod allow) = codes "no such method here"
refused_words BadQuery = codes "the query is after=N and most=N"
refused_words ForeignOrigin = codes "a foreign origin"
refused_words NotJson = codes "another content type than application/json"
refused_words NoToken = codes "no token, or another one"
refused_words WrongToken = codes "no token, or another one"
refused_words (MayNot user right) = may_not right

-- a user's name, if there is one
abbrev pub name_in : Option User → List ℕ
name_in None = []
name_in (Some user) = string_bytes user.name

-- the name of the user that a refusal is about; none where it is about nobody
abbrev pub refused_name : List User → Refused → List ℕ
refused_name users Unreadable = []
refused_name users TooSlow = []
refused_name users Crowded = []
refused_name users TargetTooLong = []
refused_name users HeadTooLarge = []
refused_name users BodyTooLarge = []
refused_name users ForeignHost = []
refused_name users NoPlace = []
refused_name users (NoMethod allow) = []
refused_name users BadQuery = []
refused_name users ForeignOrigin = []
refused_name users NotJson = []
refused_name users NoToken = []
refused_name users WrongToken = []
refused_name users (MayNot user right) = name_in (slice_get users user)
