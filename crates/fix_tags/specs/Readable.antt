-- The ranges of a message that was read (FIX 4.4 Volume 2).
use Rattle.std.specs.Prelude.{ℕ, ◌≡◌, ◌≤◌, List, length, IfSome, IsTrue, false}
use Rattle.std.specs.List.{list_all}
use Rattle.fix_text.specs.Text.{holds_soh, have_no_soh}
use Rattle.fix_tags.specs.App.{is_app_tag}
use Rattle.fix_tags.specs.CompId.{IsCompId}
use Rattle.fix_tags.specs.Message.{is_session_kind}
use Rattle.fix_tags.specs.Body.{Body}
use Rattle.fix_tags.specs.declared.body.Body.TheVariants.{Session, App}
use Rattle.fix_tags.specs.declared.session_body.SessionBody.TheVariants.{Logon, Heartbeat, TestRequest, ResendRequest, Reject, GapFill, Reset, Logout, BusinessReject}
use Rattle.fix_tags.specs.declared.envelope.Envelope.{Envelope}

-- a text of at least one byte and at most so many
abbrev pub IsShortText : ℕ → List ℕ → Type 0
IsShortText most text = (1 ≤ length text) × (length text ≤ most)

-- a number that another message has or may get
abbrev pub IsReference : ℕ → Type 0
IsReference number = number ≤ 999_999_999

-- a number that is expected next (789)
abbrev pub IsNextNumber : ℕ → Type 0
IsNextNumber number = (1 ≤ number) × (number ≤ 999_999_999)

-- each part of a body is in its range
abbrev pub IsReadableBody : Body → Type 0
IsReadableBody (Session (Logon heart reset next)) = (heart ≤ 999_999) × IfSome next IsNextNumber
IsReadableBody (Session (Heartbeat id)) = IfSome id (IsShortText 64)
IsReadableBody (Session (TestRequest id)) = IsShortText 64 id
IsReadableBody (Session (ResendRequest begin last)) = IsReference begin × IsReference last
IsReadableBody (Session (Reject number)) = IsReference number
IsReadableBody (Session (GapFill new_number)) = IsReference new_number
IsReadableBody (Session (Reset new_number)) = IsReference new_number
IsReadableBody (Session Logout) = Unit {0}
IsReadableBody (Session (BusinessReject number)) = IfSome number IsReference
IsReadableBody (App kind fields) =
    IsShortText 8 kind × (is_session_kind kind ≡ false) × IsTrue (list_all (λ f. is_app_tag f.tag) fields)

-- each part of a message is in its range
pub record IsReadable (e : Envelope) : Type 0 where
  pub sender : IsCompId e.sender
  pub target : IsCompId e.target
  pub number_from : 1 ≤ e.number
  pub number : e.number ≤ 999_999_998
  pub body : IsReadableBody e.body

-- a text without SOH, which ends each field
abbrev pub HasNoSoh : List ℕ → Type 0
HasNoSoh text = holds_soh text ≡ false

-- no text of a body holds SOH
abbrev pub HaveNoSoh : Body → Type 0
HaveNoSoh (Session (Heartbeat id)) = IfSome id HasNoSoh
HaveNoSoh (Session (TestRequest id)) = HasNoSoh id
HaveNoSoh (App kind fields) = HasNoSoh kind × IsTrue (have_no_soh fields)
HaveNoSoh _ = Unit {0}

-- what is known of a message that was read from a frame
pub record IsRead (e : Envelope) : Type 0 where
  pub in_range : IsReadable e
  pub no_soh : HaveNoSoh e.body
