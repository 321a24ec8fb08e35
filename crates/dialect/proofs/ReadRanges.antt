-- The ranges of what was read from a frame, as those of a message.
use Rattle.std.proofs.Common.{◌≡◌, ◌==◌, ℕ, true, false, List, length, Option, Some, None, refl, arith}
use Rattle.std.specs.Prelude.{IfSome, nat_le}
use Rattle.std.proofs.lemmas.Bool.Decides.{nat_tests}
use Rattle.fix_tags.specs.Readable.{IsShortText, HasNoSoh, HaveNoSoh, IsReference, IsNextNumber, IsReadableBody}
use Rattle.fix_tags.specs.declared.body.Body.TheVariants.{Session}
use Rattle.fix_tags.specs.declared.session_body.SessionBody.{SessionBody}
use Rattle.fix_tags.specs.declared.session_body.SessionBody.TheVariants.{Logon, Heartbeat, TestRequest, ResendRequest, Reject, GapFill, Reset, Logout, BusinessReject}
use Rattle.dialect.specs.FreeText.{IsFreeText}
use Rattle.dialect.specs.Writable as writable

-- a text without SOH
free_text : (most : ℕ) (text : List ℕ) → IsShortText most text → HasNoSoh text → IsFreeText most text
free_text most text short none =
    let some : (length text == 0) ≡ false = grind (arith, nat_tests) in
    let few : nat_le (length text) most ≡ true = grind (arith, nat_tests) in
    rw (few, some, none) refl

test_id : (id : Option (List ℕ)) → IfSome id (IsShortText 64) → IfSome id HasNoSoh → writable.IsTestId id
test_id (Some id) short none = free_text 64 id short none
test_id None short none = tt

next_number : (next : Option ℕ) → IfSome next IsNextNumber → writable.IsNext next
next_number (Some next) range = range
next_number None range = tt

refused_number : (number : Option ℕ) → IfSome number IsReference → writable.IsRefused number
refused_number (Some number) range = range
refused_number None range = tt

-- what a message of the session says that was read
pub session_range : (says : SessionBody) → IsReadableBody (Session says) → HaveNoSoh (Session says)
    → writable.IsInRange says
session_range (Logon heart reset next) range none = (range.0, next_number next range.1)
session_range (Heartbeat id) range none = test_id id range none
session_range (TestRequest id) range none = free_text 64 id range none
session_range (ResendRequest begin last) range none = range
session_range (Reject number) range none = range
session_range (GapFill new_number) range none = range
session_range (Reset new_number) range none = range
session_range Logout range none = tt
session_range (BusinessReject number) range none = refused_number number range
