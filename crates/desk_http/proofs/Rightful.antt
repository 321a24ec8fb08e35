-- Who asks for what needs a right is a user who has it.
use Rattle.std.proofs.Common.{◌≡◌, ℕ, zero, suc, ◌≤◌, Bool, true, false, List, Option, Some, None, refl, sym, ap, ◌∙◌, length, arith}
use Rattle.std.proofs.Math.Dec.{eqb-suc-zero}
use Rattle.std.proofs.lemmas.List.Quantifiers.{position-Some}
use Rattle.std.proofs.lemmas.Option.{get_or_from_slice_get}
use Rattle.std.proofs.lemmas.Slice.Eq.{bytes_eq-Decides}
use Rattle.std.specs.Prelude.{◌==◌, Result, Ok, Err, slice_get, string_bytes, if◌then◌else◌}
use Rattle.desk_http.specs.Door.{AsksRightly, asked_by, by_token, by_user, if_has, may_there}
use Rattle.desk_http.specs.User.{IsAllowedBy, has_right, is_token_of, right_of, user_with}
use Rattle.desk_http.specs.declared.call.Call.{Call}
use Rattle.desk_http.specs.declared.door.Door.{Door}
use Rattle.desk_http.specs.declared.refused.Refused.{Refused}
use Rattle.desk_http.specs.declared.refused.Refused.TheVariants.{NoToken, MayNot}
use Rattle.desk_http.specs.declared.request.Request.{Request}
use Rattle.desk_http.specs.declared.user.Right.{Right}
use Rattle.desk_http.specs.declared.user.User.{User}

-- where a choice between a value and a fault is a value, it is that one, and the test holds
chosen_value : (test : Bool) (value : Option ℕ) (fault : Refused) (by : Option ℕ)
    → (if test then Ok value else Err fault) ≡ Ok by → (test ≡ true) × (by ≡ value)
chosen_value true value fault by is = (refl, sym (cc is))
chosen_value false value fault by is = absurd (cc is)

-- where a choice between a fault and an answer is a value, the answer is
chosen_answer : (test : Bool) (fault : Refused) (answer : Result (Option ℕ) Refused) (by : Option ℕ)
    → (if test then Err fault else answer) ≡ Ok by → answer ≡ Ok by
chosen_answer true fault answer by is = absurd (cc is)
chosen_answer false fault answer by is = is

-- of a list that isn't empty
not_empty : (n : ℕ) → 1 ≤ n → (n == 0) ≡ false
not_empty zero some = absurd (omega (arith, some))
not_empty (suc n) some = eqb-suc-zero n

has_it : (user : Option User) (right : Right) → may_there user right ≡ true
    → (who : User) × (user ≡ Some who) × (has_right who.rights right ≡ true)
has_it None right is = absurd (cc is)
has_it (Some who) right is = (who, refl, is)

found_one : (users : List User) (right : Right) (found by : Option ℕ) → if_has users right found ≡ Ok by
    → (place : ℕ) × (found ≡ Some place) × (by ≡ Some place) × (may_there (slice_get users place) right ≡ true)
found_one users right None by is = absurd (cc is)
found_one users right (Some place) by is =
    let chosen = chosen_value (may_there (slice_get users place) right) (Some place) (MayNot place right) by is in
    (place, refl, chosen.1, chosen.0)

has_token : (users : List User) (authorization : List ℕ) (place : ℕ) (who : User)
    → user_with users authorization ≡ Some place → slice_get users place ≡ Some who
    → authorization ≡ string_bytes who.authorization
has_token users authorization place who found there =
    let passes = (position-Some (is_token_of authorization) users place who found).1 in
    (bytes_eq-Decides authorization (string_bytes who.authorization)).0
    (sym (ap (is_token_of authorization) (get_or_from_slice_get users place who who there)) ∙ passes)

-- the user that was found has the token and the right
allowed_by : (users : List User) (authorization : List ℕ) (right : Right) (by : Option ℕ)
    → if_has users right (user_with users authorization) ≡ Ok by
    → (place : ℕ) × (by ≡ Some place) × IsAllowedBy users authorization right place
allowed_by users authorization right by is =
    let one = found_one users right (user_with users authorization) by is in
    let who = has_it (slice_get users one.0) right one.3 in (
      one.0,
      one.2,
      record {
        user = who.0;
        there = who.1;
        token = has_token users authorization one.0 who.0 one.1 who.1;
        may = who.2;
      },
    )

-- where the desk has users, a call that needs a right is asked for by one who has it
pub asked_rightly : (door : Door) (request : Request) (call : Call) (by : Option ℕ)
    → asked_by door request call ≡ Ok by → AsksRightly door request (record { call = call; by = by })
asked_rightly door request call by is = λ right needed some.
    let users = door.users.items in
    let authorization = request.authorization.items in
    let theirs : by_user users authorization (right_of call) ≡ Ok by =
    sym (ap (λ test. if test then by_token door request call else by_user users authorization (right_of call))
    (not_empty (length users) some)) ∙ is in
    let his : by_user users authorization (Some right) ≡ Ok by =
    sym (ap (by_user users authorization) needed) ∙ theirs in
    allowed_by users authorization right by
    (chosen_answer (length authorization == 0) NoToken (if_has users right (user_with users authorization)) by his)
