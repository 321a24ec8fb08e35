use Rattle.std.proofs.Common.{◌≡◌, ◌+◌, ap, cond, ◌∙◌, Some, None, drop, get_or}
use Rattle.std.specs.List.{position_from}
use Rattle.std.specs.Option.{option_or}
use Rattle.std.specs.Str.{bytes_eq}
use Rattle.desk_http.specs.User.{is_token_of, user_with}
use Rattle.desk_http.proofs.UserFound.{all_left, one_more_seen}
use Rattle.desk_http.proofs.user.user_with.Goals as goal

pub loop-i-init : goal.loop-i-init
loop-i-init c = all_left (is_token_of c.args.authorization.now) c.args.users.now

pub loop-i-preserved : goal.loop-i-preserved
loop-i-preserved c =
    let users = c.args.users.now in
    let is_his = is_token_of c.args.authorization.now in
    let i = c.loop-i.i in
    let user = c.index-users-i.result in
    let said : c.is_same-is_his.result ≡ is_his (get_or users i user) =
    c.is_same-is_his.ensures
    ∙ ap (bytes_eq c.args.authorization.now) (c.as_bytes.ensures.value ∙ c.as_str.ensures.value) in
    ap (λ found. option_or found (position_from is_his (i + 1) (drop (i + 1) users)))
    (c.found_by_now-found.ensures ∙ ap (λ is. option_or c.loop-i.found (cond is (Some i) None)) said)
    ∙ one_more_seen is_his users i user c.loop-i.found (user_with users c.args.authorization.now)
    c.loop-i-test.true c.loop-i.invariant
