-- The TestRequest that an exchange writes.
use Rattle.std.proofs.Common.{◌≡◌, ℕ, ◌≤◌, true, List, Some, Ok, refl, arith}
use Rattle.fix_tags.specs.Stamp.{StampParts}
use Rattle.dialect.specs.declared.content.Content.TheVariants.{Session}
use Rattle.fix_tags.specs.declared.session_body.SessionBody.TheVariants.{TestRequest}
use Rattle.dialect.specs.declared.outgoing.Outgoing.{Outgoing}
use Rattle.dialect.specs.Framed.{IsFramed}
use Rattle.dialect.specs.Wording.{Encoding}
use Rattle.dialect.specs.Writable.{IsWritable}
use Rattle.exchange_core.specs.Acts.{test_id, tested, test}
use Rattle.exchange_core.specs.SentRecord.{has_numbers, next_own_number}
use Rattle.exchange_core.specs.declared.live_connection.LiveConnection.{LiveConnection}
use Rattle.exchange_core.specs.Exchange.{ExchangeParts, next_message}
use Rattle.exchange_core.specs.Sound.{IsSound}
use Rattle.exchange_core.proofs.Keeps.{room_for_one}
use Rattle.exchange_core.proofs.Written.{tested_said}
use Rattle.exchange_core.proofs.ActsKeep.{test_keeps}
use Rattle.exchange_core.specs.Keeping.{IsAct}

-- with a live connection and a number left
pub test_done : (x : ExchangeParts) (live : LiveConnection) → x.live ≡ Some live → has_numbers 1 x.config x.own ≡ true → test x ≡ (Ok (tested x).0, (tested x).1)
test_done x live is left = rw (is, left) refl

pub number_small : (x : ExchangeParts) → IsSound x → has_numbers 1 x.config x.own ≡ true → next_own_number x.own ≤ 999999998
number_small x sound left = room_for_one x sound.config left

pub test_writable : (x : ExchangeParts) → IsSound x → has_numbers 1 x.config x.own ≡ true → IsWritable (next_message x (Session (TestRequest (test_id (next_own_number x.own)))))
test_writable x sound left =
    let out : Outgoing = next_message x (Session (TestRequest (test_id (next_own_number x.own)))) in
    tested_said x sound left 0 out (omega arith)

-- its frame is the same in every dialect
pub framed_by_all : (v w : Encoding) (stamp : StampParts) (x : ExchangeParts) (id bytes : List ℕ) → IsFramed v stamp (next_message x (Session (TestRequest id))) bytes → IsFramed w stamp (next_message x (Session (TestRequest id))) bytes
framed_by_all v w stamp x id bytes framed = record { says = framed.says; is_body = framed.is_body; written = framed.written }

-- the rules allow it
pub test_allowed : (x : ExchangeParts) → IsSound x → IsAct x (test x)
test_allowed x sound = test_keeps x sound.live
