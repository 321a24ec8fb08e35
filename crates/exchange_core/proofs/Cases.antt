-- Whatever comes is answered in one of a few ways: so what holds of each of these holds of the answer.
use Rattle.std.proofs.Common.{◌≡◌, ◌==◌, ℕ, ◌+◌, ◌≤◌, ◌<◌, Bool, ◌&&◌, nat_lt, nat_le, [], Option, Some, None, refl, if◌then◌else◌, arith}
use Rattle.std.proofs.lemmas.Bool.{and_parts}
use Rattle.std.proofs.lemmas.Bool.Decides.{nat_tests}
use Rattle.dialect.specs.Addressed.{is_for}
use Rattle.dialect.specs.declared.content.Content.{Content}
use Rattle.dialect.specs.declared.content.Content.TheVariants.{Session}
use Rattle.fix_tags.specs.declared.session_body.SessionBody.TheVariants.{Logon}
use Rattle.dialect.specs.declared.message.Message.{Message}
use Rattle.exchange_core.specs.SentRecord.{has_numbers, next_own_number}
use Rattle.exchange_core.specs.declared.live_connection.LiveConnection.{LiveConnection}
use Rattle.exchange_core.specs.Exchange.{ExchangeParts, Answer, logon_taken, due_taken, has_asked, asks, ahead, by_number, received, heard, comes, take}
use Rattle.exchange_core.proofs.Entries.{chosen}

-- a Logon that is taken
pub record IsLogonTaken (x : ExchangeParts) (connection number : ℕ) (content : Content) (heart : ℕ) (reset : Bool) (next : Option ℕ) : Type 0 where
  pub says : content ≡ Session (Logon heart reset next)
  pub newer : x.last < connection
  pub above : x.expected ≤ number

-- a connection that is live
pub record IsLive (x : ExchangeParts) (connection : ℕ) (live : LiveConnection) : Type 0 where
  pub is : x.live ≡ Some live
  pub here : live.connection ≡ connection

-- at least two numbers are left
abbrev pub HasRoom : ExchangeParts → Type 0
HasRoom x = next_own_number x.own + 2 ≤ x.config.max_number

module _ (x : ExchangeParts) (connection number : ℕ) (P : Answer → Type 0) (same : P ([], x)) where
  heard_is : (live : Option LiveConnection) (content : Content) → x.live ≡ live → ((live : LiveConnection) → IsLive x connection live → P (received x live number content)) → P (heard x live connection number content)
  heard_is None content is step = same
  heard_is (Some live) content is step =
      chosen P (live.connection == connection) (received x live number content) ([], x)
      (λ here. step live (record { is = is; here = grind (arith, nat_tests, here) }))
      (λ other. same)

  comes_is : (content : Content) → ((heart : ℕ) (reset : Bool) (next : Option ℕ) → IsLogonTaken x connection number content heart reset next → P (logon_taken x connection number heart next)) → ((live : LiveConnection) → IsLive x connection live → P (received x live number content)) → P (comes x connection number content)
  comes_is (Session (Logon heart reset next)) logon step =
      chosen P (nat_lt x.last connection && nat_le x.expected number) (logon_taken x connection number heart next) ([], x)
      (λ is.
      let parts = and_parts (nat_lt x.last connection) (nat_le x.expected number) is in
      logon heart reset next (record { says = refl; newer = grind (arith, nat_tests, parts.0); above = grind (arith, nat_tests, parts.1) }))
      (λ other. same)
  comes_is content logon step = heard_is x.live content refl step

-- a message of the live connection
pub by_number_is : (x : ExchangeParts) (live : LiveConnection) (number : ℕ) (content : Content) (P : Answer → Type 0) → P ([], x) → (number ≡ x.expected → P (due_taken x content)) → P (asks x live) → P (by_number x live number content)
by_number_is x live number content P same due asked =
    chosen P (number == x.expected) (due_taken x content) (if nat_lt x.expected number then ahead x live else ([], x))
    (λ is. due (grind (arith, nat_tests, is)))
    (λ other. chosen P (nat_lt x.expected number) (ahead x live) ([], x)
    (λ above. chosen P (has_asked live x.expected) ([], x) (asks x live) (λ had. same) (λ new. asked))
    (λ below. same))

-- whatever comes
pub take_is : (x : ExchangeParts) (connection : ℕ) (m : Message) (P : Answer → Type 0) → P ([], x) → ((heart : ℕ) (reset : Bool) (next : Option ℕ) → HasRoom x → IsLogonTaken x connection m.number m.content heart reset next → P (logon_taken x connection m.number heart next)) → ((live : LiveConnection) → HasRoom x → IsLive x connection live → P (received x live m.number m.content)) → P (take x connection m)
take_is x connection m P same logon step =
    chosen P (is_for x.config m && has_numbers 2 x.config x.own) (comes x connection m.number m.content) ([], x)
    (λ is.
    let parts = and_parts (is_for x.config m) (has_numbers 2 x.config x.own) is in
    let room : HasRoom x = grind (arith, nat_tests, parts.1) in
    comes_is x connection m.number P same m.content (λ heart reset next. logon heart reset next room) (λ live. step live room))
    (λ other. same)

-- the exchange after whatever comes
pub after_take_is : (x : ExchangeParts) (connection : ℕ) (m : Message) (Q : ExchangeParts → Type 0) → Q x → ((heart : ℕ) (next : Option ℕ) → HasRoom x → x.last < connection → Q (logon_taken x connection m.number heart next).1) → (HasRoom x → m.number ≡ x.expected → Q (due_taken x m.content).1) → ((live : LiveConnection) → HasRoom x → x.live ≡ Some live → Q (asks x live).1) → Q (take x connection m).1
after_take_is x connection m Q same logon due asked =
    take_is x connection m (λ (a : Answer). Q a.1) same
    (λ heart reset next room is. logon heart next room is.newer)
    (λ live room is. by_number_is x live m.number m.content (λ (a : Answer). Q a.1) same (due room) (asked live room is.is))
