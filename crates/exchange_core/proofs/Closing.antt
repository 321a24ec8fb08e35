-- What the end of a connection and a Logout leave.
use Rattle.std.proofs.Common.{◌≡◌, ◌==◌, ℕ, Bool, true, false, inl, inr, [], Option, Some, None, Ok, Err, refl}
use Rattle.dialect.specs.declared.content.Content.{Content}
use Rattle.dialect.specs.declared.content.Content.TheVariants.{Session, Order}
use Rattle.fix_tags.specs.declared.session_body.SessionBody.TheVariants.{Logon, TestRequest, GapFill, Logout}
use Rattle.dialect.specs.declared.message.Message.{Message}
use Rattle.dialect.specs.Message.{is_logon}
use Rattle.exchange_core.specs.Exchange.{ExchangeParts, Answer, logon_answer, with_connection, due_taken, take}
use Rattle.exchange_core.specs.Keeping.{IsMarked}
use Rattle.exchange_core.proofs.Cases.{take_is, after_take_is}

logon_is : (content : Content) (heart : ℕ) (reset : Bool) (next : Option ℕ) → content ≡ Session (Logon heart reset next) → is_logon content ≡ true
logon_is content heart reset next says = rw says refl

-- while no connection is live a message that is no Logon does nothing
pub take_down : (x : ExchangeParts) (connection : ℕ) (m : Message) → x.live ≡ None → is_logon m.content ≡ false → take x connection m ≡ ([], x)
take_down x connection m none other =
    take_is x connection m (λ (a : Answer). a ≡ ([], x)) refl
    (λ heart reset next room is. (let logon = logon_is m.content heart reset next is.says in absurd cc))
    (λ live room is. (let some = is.is in absurd cc))

due_marked : (x : ExchangeParts) (content : Content) → IsMarked x content (due_taken x content).1
due_marked x (Order (Ok leg)) = inl refl
due_marked x (Order (Err fault)) = inl refl
due_marked x (Session (GapFill new_number)) = inl refl
due_marked x (Session Logout) = inr (record { logout = refl; ended = refl; mark = refl })
due_marked x (Session (TestRequest id)) = inl refl
due_marked x content = inl refl

logon_marked : (x : ExchangeParts) (connection number heart : ℕ) (next : Option ℕ) (b : Bool) (content : Content) → IsMarked x content (logon_answer (with_connection x connection number) connection b heart next).1
logon_marked x connection number heart (Some next) b content = inl refl
logon_marked x connection number heart None true content = inl refl
logon_marked x connection number heart None false content = inl refl

-- the mark is set by a Logout alone, to the count of the orders
pub take_marked : (x : ExchangeParts) (connection : ℕ) (m : Message) → IsMarked x m.content (take x connection m).1
take_marked x connection m =
    after_take_is x connection m (IsMarked x m.content) (inl refl)
    (λ heart next room newer. logon_marked x connection m.number heart next (m.number == x.expected) m.content)
    (λ room due. due_marked x m.content)
    (λ live room is. inl refl)
