use Rattle.std.proofs.Common.{rules}
use Rattle.desk_http.proofs.answer.executions_reply.Goals as goal

pub returns : goal.returns
returns g c = record { said = c.in_ok-page.page; by_the_day = c.in_ok-page.ensures; answer = search rules }
