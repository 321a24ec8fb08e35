-- No fault of a field is out of memory.
use Rattle.std.proofs.Common.{◌≡◌, ℕ, Bool, true, false, cond, List, [], ◌∷◌, Option, Some, None, Result, Err, sym, ap, subst, ◌∙◌}
use Rattle.fix_text.specs.Tagged.{Tagged}
use Rattle.fix_tags.specs.App.{is_app_field}
use Rattle.fix_tags.specs.Message.{is_app_kind, is_test_id, is_reference, is_message_number, is_heart, is_next_number, unless_ok, ◌or_then◌, app_fault, kind_fault, body_fault, field_fault}
use Rattle.fix_tags.specs.Body.{Body}
use Rattle.fix_tags.specs.declared.body.Body.TheVariants.{Session, App}
use Rattle.fix_tags.specs.declared.session_body.SessionBody.TheVariants.{Logon, Heartbeat, TestRequest, ResendRequest, Reject, GapFill, Reset, Logout, BusinessReject}
use Rattle.fix_tags.specs.declared.envelope.Envelope.{Envelope}
use Rattle.fix_tags.specs.declared.write_fault.WriteFault.{WriteFault}
use Rattle.fix_tags.specs.declared.write_fault.WriteFault.TheVariants.{BadValue, OutOfMemory}

-- a fault, if there is one, is another than out of memory
abbrev pub NoWantOfMemory : Option WriteFault → Type 0
NoWantOfMemory (Some OutOfMemory) = ⊥
NoWantOfMemory _ = Unit {0}

of_test : (ok : Bool) (tag : ℕ) → NoWantOfMemory (unless_ok ok tag)
of_test true tag = tt
of_test false tag = tt

of_either : (a b : Option WriteFault) → NoWantOfMemory a → NoWantOfMemory b → NoWantOfMemory (a or_then b)
of_either (Some fault) b first second = first
of_either None b first second = second

of_field : (good : Bool) (tag : ℕ) (later : Option WriteFault) → NoWantOfMemory later → NoWantOfMemory (cond good later (Some (BadValue tag)))
of_field true tag later rest = rest
of_field false tag later rest = tt

of_app : (fields : List Tagged) → NoWantOfMemory (app_fault fields)
of_app [] = tt
of_app (f ∷ fields) = of_field (is_app_field f) f.tag (app_fault fields) (of_app fields)

of_kind : (body : Body) → NoWantOfMemory (kind_fault body)
of_kind (Session (Logon heart reset next)) = tt
of_kind (Session (Heartbeat id)) = tt
of_kind (Session (TestRequest id)) = tt
of_kind (Session (ResendRequest begin last)) = tt
of_kind (Session (Reject number)) = tt
of_kind (Session (GapFill new_number)) = tt
of_kind (Session (Reset new_number)) = tt
of_kind (Session Logout) = tt
of_kind (Session (BusinessReject number)) = tt
of_kind (App kind fields) = of_test (is_app_kind kind) 35

of_body : (body : Body) → NoWantOfMemory (body_fault body)
of_body (Session (Logon heart reset None)) = of_test (is_heart heart) 108
of_body (Session (Logon heart reset (Some next))) = of_either _ _ (of_test (is_heart heart) 108) (of_test (is_next_number next) 789)
of_body (Session (Heartbeat None)) = tt
of_body (Session (Heartbeat (Some id))) = of_test (is_test_id id) 112
of_body (Session (TestRequest id)) = of_test (is_test_id id) 112
of_body (Session (ResendRequest begin last)) = of_either _ _ (of_test (is_reference begin) 7) (of_test (is_reference last) 16)
of_body (Session (Reject number)) = of_test (is_reference number) 45
of_body (Session (GapFill new_number)) = of_test (is_reference new_number) 36
of_body (Session (Reset new_number)) = of_test (is_reference new_number) 36
of_body (Session Logout) = tt
of_body (Session (BusinessReject None)) = tt
of_body (Session (BusinessReject (Some number))) = of_test (is_reference number) 45
of_body (App kind fields) = of_app fields

of_message : (e : Envelope) → NoWantOfMemory (field_fault e)
of_message e = of_either _ _ (of_kind e.body) (of_either _ _ (of_test (is_message_number e.number) 34) (of_body e.body))

err_is : (a b : WriteFault) → ◌≡◌ {A = Result (Unit {0}) WriteFault} (Err a) (Err b) → a ≡ b
err_is a b e = cc

-- a message that is refused for a field is not refused for lack of memory
pub refused_for_field : (e : Envelope) (found : Option WriteFault) (fault : WriteFault) → found ≡ field_fault e → found ≡ Some fault → ◌≡◌ {A = Result (Unit {0}) WriteFault} (Err fault) (Err OutOfMemory) → ⊥
refused_for_field e found fault is some memory =
    subst NoWantOfMemory (sym is ∙ some ∙ ap Some (err_is fault OutOfMemory memory)) (of_message e)
