use Rattle.std.proofs.Common.{◌≡◌, drop}
use Rattle.std.specs.List.{position_from}
use Rattle.std.specs.Option.{option_or}
use Rattle.desk_http.specs.User.{is_token_of, user_with}
use Rattle.desk_http.proofs.user.user_with.Given as goal

abbrev pub invariant-loop-i : goal.invariant-loop-i
invariant-loop-i l =
    option_or l.found (position_from (is_token_of l.authorization) l.i (drop l.i l.users))
    ≡ user_with l.users l.authorization
