-- What the fields say of a message that is read from them (FIX 4.4 Volume 2).
use Rattle.std.specs.Prelude.{◌≡◌, ◌⊎◌, ℕ, List, Bool, true, false, codes, Option, Some, None, IsSome, filter}
use Rattle.fix_text.specs.Tagged.{Tagged, value_of}
use Rattle.fix_tags.specs.App.{is_app_tag}
use Rattle.fix_tags.specs.Message.{kind_of}
use Rattle.fix_tags.specs.Number.{number_of}
use Rattle.fix_tags.specs.Body.{Body}
use Rattle.fix_tags.specs.declared.body.Body.TheVariants.{Session, App}
use Rattle.fix_tags.specs.declared.session_body.SessionBody.TheVariants.{Logon, Heartbeat, TestRequest, ResendRequest, Reject, GapFill, Reset, Logout, BusinessReject}
use Rattle.fix_tags.specs.declared.envelope.Envelope.{Envelope}

-- a field is there, and its value is digits that write this number
pub record SaysNumber (fields : List Tagged) (tag number : ℕ) : Type 0 where
  pub text : List ℕ
  pub there : value_of fields tag ≡ Some text
  pub reads_as : number_of text ≡ Some number

-- a field says a number, or it isn't there
abbrev pub SaysNumberIfAny : List Tagged → ℕ → Option ℕ → Type 0
SaysNumberIfAny fields tag (Some number) = SaysNumber fields tag number
SaysNumberIfAny fields tag None = value_of fields tag ≡ None

-- a flag is `Y` where it is set, and else it is `N` or isn't there
abbrev pub SaysFlag : List Tagged → ℕ → Bool → Type 0
SaysFlag fields tag true = value_of fields tag ≡ Some (codes "Y")
SaysFlag fields tag false = (value_of fields tag ≡ Some (codes "N")) ⊎ (value_of fields tag ≡ None)

-- what the fields say of a Logon: no encryption, and its three parts
pub record SaysLogon (fields : List Tagged) (seconds : ℕ) (resets : Bool) (expected : Option ℕ) : Type 0 where
  pub encryption : value_of fields 98 ≡ Some (codes "0")
  pub heart : SaysNumber fields 108 seconds
  pub reset : SaysFlag fields 141 resets
  pub next : SaysNumberIfAny fields 789 expected

-- what the fields say of a body; those of an application message are kept as they are, but for the header's and the
-- frame's own
abbrev pub SaysBody : List Tagged → Body → Type 0
SaysBody fields (Session (Logon heart reset next)) = SaysLogon fields heart reset next
SaysBody fields (Session (Heartbeat id)) = value_of fields 112 ≡ id
SaysBody fields (Session (TestRequest id)) = value_of fields 112 ≡ Some id
SaysBody fields (Session (ResendRequest begin last)) = SaysNumber fields 7 begin × SaysNumber fields 16 last
SaysBody fields (Session (Reject number)) = SaysNumber fields 45 number
SaysBody fields (Session (GapFill new_number)) = SaysFlag fields 123 true × SaysNumber fields 36 new_number
SaysBody fields (Session (Reset new_number)) = SaysFlag fields 123 false × SaysNumber fields 36 new_number
SaysBody fields (Session Logout) = Unit {0}
SaysBody fields (Session (BusinessReject number)) = SaysNumberIfAny fields 45 number
SaysBody fields (App kind kept) = kept ≡ filter (λ f. is_app_tag f.tag) fields

-- what fields say that are read as this message; the sending time only has to be there
pub record IsReadingOf (e : Envelope) (fields : List Tagged) : Type 0 where
  pub kind : value_of fields 35 ≡ Some (kind_of e.body)
  pub sender : value_of fields 49 ≡ Some e.sender
  pub target : value_of fields 56 ≡ Some e.target
  pub number : SaysNumber fields 34 e.number
  pub time : IsSome (value_of fields 52)
  pub poss_dup : SaysFlag fields 43 e.poss_dup
  pub poss_resend : SaysFlag fields 97 e.poss_resend
  pub body : SaysBody fields e.body
