use Rattle.std.proofs.Common.{rules}
use Rattle.desk_http.proofs.answer.venues_reply.Goals as goal

pub returns : goal.returns
returns g c = record {
  said = c.in_ok-rows.rows.items;
  by_the_day = c.in_ok-rows.ensures;
  answer = search rules;
}
