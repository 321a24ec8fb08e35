-- The live connection stays the last one, own numbers stay below the limit, and the expected number in range.
use Rattle.std.proofs.Common.{◌≡◌, ◌==◌, suc, ℕ, ◌+◌, ◌≤◌, Bool, true, false, Option, Some, None, Ok, Err, refl, sym, ap, ◌∙◌, arith, length-append}
use Rattle.std.specs.Option.{option_map}
use Rattle.std.proofs.lemmas.Bool.Decides.{nat_tests}
use Rattle.std.proofs.lemmas.Option.{same_Some}
use Rattle.dialect.specs.declared.content.Content.{Content}
use Rattle.dialect.specs.declared.content.Content.TheVariants.{Session, Order}
use Rattle.fix_tags.specs.declared.session_body.SessionBody.TheVariants.{TestRequest, GapFill, Logout}
use Rattle.dialect.specs.declared.message.Message.{Message}
use Rattle.exchange_core.specs.SentRecord.{next_own_number}
use Rattle.exchange_core.specs.declared.live_connection.LiveConnection.{LiveConnection}
use Rattle.exchange_core.specs.Exchange.{ExchangeParts, live_connection, passed_by, logon_taken, logon_answer, with_connection, due_taken, asks, take}
use Rattle.exchange_core.specs.Keeping.{IsLastLive, IsExchangeLater, IsExpectable, IsFillInRange, IsInRange, OwnNumbersFit}
use Rattle.exchange_core.proofs.Entries.{chosen}
use Rattle.exchange_core.proofs.Cases.{after_take_is}
use Rattle.exchange_core.proofs.After.{logon_taken_after, due_after, asks_after}

pub same_live : (x y : ExchangeParts) → live_connection y ≡ live_connection x → y.last ≡ x.last → IsLastLive x → IsLastLive y
same_live x y live last sound = λ connection is. (let old = sound connection (sym live ∙ is) in record { from = old.from; same = old.same ∙ sym last })

pub no_live : (y : ExchangeParts) → live_connection y ≡ None → IsLastLive y
no_live y live = λ connection is. absurd cc

due_sound : (x : ExchangeParts) (content : Content) → IsLastLive x → IsLastLive (due_taken x content).1
due_sound x (Order (Ok leg)) sound = same_live x (due_taken x (Order (Ok leg))).1 refl refl sound
due_sound x (Order (Err fault)) sound = same_live x (due_taken x (Order (Err fault))).1 refl refl sound
due_sound x (Session (GapFill new_number)) sound = same_live x (due_taken x (Session (GapFill new_number))).1 refl refl sound
due_sound x (Session Logout) sound = no_live (due_taken x (Session Logout)).1 refl
due_sound x (Session (TestRequest id)) sound = same_live x (due_taken x (Session (TestRequest id))).1 refl refl sound
due_sound x content sound = same_live x (due_taken x content).1 refl refl sound

new_live : (y : ExchangeParts) (connection : ℕ) → 1 ≤ connection → live_connection y ≡ Some connection → y.last ≡ connection → IsLastLive y
new_live y connection low live last = λ c is. (let same : c ≡ connection = same_Some c connection (sym is ∙ live) in record { from = omega arith; same = same ∙ sym last })

logon_sound : (x : ExchangeParts) (connection number heart : ℕ) (next : Option ℕ) (b : Bool) → 1 ≤ connection → IsLastLive (logon_answer (with_connection x connection number) connection b heart next).1
logon_sound x connection number heart (Some next) b low = new_live (logon_answer (with_connection x connection number) connection b heart (Some next)).1 connection low refl refl
logon_sound x connection number heart None true low = new_live (logon_answer (with_connection x connection number) connection true heart None).1 connection low refl refl
logon_sound x connection number heart None false low = new_live (logon_answer (with_connection x connection number) connection false heart None).1 connection low refl refl

-- what is asked for is asked for in the live connection
asks_sound : (x : ExchangeParts) (live : LiveConnection) → x.live ≡ Some live → IsLastLive x → IsLastLive (asks x live).1
asks_sound x live is sound = same_live x (asks x live).1 (ap (option_map (λ (l : LiveConnection). l.connection)) (sym is)) refl sound

pub take_sound : (x : ExchangeParts) (connection : ℕ) (m : Message) → IsLastLive x → IsLastLive (take x connection m).1
take_sound x connection m sound =
    after_take_is x connection m IsLastLive sound
    (λ heart next room newer. logon_sound x connection m.number heart next (m.number == x.expected) (omega (arith, newer)))
    (λ room due. due_sound x m.content sound)
    (λ live room is. asks_sound x live is sound)

-- a step that uses at most two numbers, where two were left
two_more : (x y : ExchangeParts) → IsExchangeLater x y → next_own_number x.own + 2 ≤ x.config.max_number → OwnNumbersFit y
two_more x y after left = rw (after.config, after.own.1) (omega (arith, after.own.2, length-append x.own after.own.0))

pub take_numbered : (x : ExchangeParts) (connection : ℕ) (m : Message) → OwnNumbersFit x → OwnNumbersFit (take x connection m).1
take_numbered x connection m numbered =
    after_take_is x connection m OwnNumbersFit numbered
    (λ heart next room newer. two_more x (logon_taken x connection m.number heart next).1 (logon_taken_after x connection m.number heart next newer) room)
    (λ room due. two_more x (due_taken x m.content).1 (due_after x m.content) room)
    (λ live room is. two_more x (asks x live).1 (asks_after x live) room)

-- The expected number stays in range.
due_in_range : (x : ExchangeParts) (content : Content) → x.expected ≤ 999_999_998 → IsFillInRange content → IsExpectable x → IsExpectable (due_taken x content).1
due_in_range x (Order (Ok leg)) below fill range = record { from = omega arith; to = omega arith }
due_in_range x (Order (Err fault)) below fill range = record { from = omega arith; to = omega arith }
due_in_range x (Session (GapFill new_number)) below fill range = record { from = omega (arith, range.from); to = omega (arith, range.to) }
due_in_range x (Session Logout) below fill range = record { from = omega arith; to = omega arith }
due_in_range x (Session (TestRequest id)) below fill range = record { from = omega arith; to = omega arith }
due_in_range x content below fill range = record { from = omega arith; to = omega arith }

pub passed_in_range : (x : ExchangeParts) (number : ℕ) → number ≤ 999_999_998 → IsExpectable x → (1 ≤ passed_by x number) × (passed_by x number ≤ 999_999_999)
passed_in_range x number small range =
    chosen (λ e. (1 ≤ e) × (e ≤ 999_999_999)) (number == x.expected) (suc x.expected) x.expected
    (λ due. let is : number ≡ x.expected = grind (arith, nat_tests, due) in (omega arith, omega arith))
    (λ ahead. (range.from, range.to))

logon_in_range : (x : ExchangeParts) (connection number heart : ℕ) (next : Option ℕ) (b : Bool) → number ≤ 999_999_998 → IsExpectable x → IsExpectable (logon_answer (with_connection x connection number) connection b heart next).1
logon_in_range x connection number heart (Some next) b small range = let passed = passed_in_range x number small range in record { from = passed.0; to = passed.1 }
logon_in_range x connection number heart None true small range = let passed = passed_in_range x number small range in record { from = passed.0; to = passed.1 }
logon_in_range x connection number heart None false small range = let passed = passed_in_range x number small range in record { from = passed.0; to = passed.1 }

pub take_in_range : (x : ExchangeParts) (connection : ℕ) (m : Message) → IsInRange m → IsExpectable x → IsExpectable (take x connection m).1
take_in_range x connection m range expectable =
    after_take_is x connection m IsExpectable expectable
    (λ heart next room newer. logon_in_range x connection m.number heart next (m.number == x.expected) range.number expectable)
    (λ room due. due_in_range x m.content (let number = range.number in omega arith) range.fill expectable)
    (λ live room is. record { from = expectable.from; to = expectable.to })
