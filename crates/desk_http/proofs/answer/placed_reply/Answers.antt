use Rattle.std.proofs.Common.{rules}
use Rattle.desk_http.proofs.answer.placed_reply.Goals as goal

pub returns : goal.returns
returns g c = record { said = c.place-outcome.result; by_the_day = c.place-outcome.ensures; answer = search rules }
