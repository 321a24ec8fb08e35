use Rattle.std.proofs.Common.{rules}
use Rattle.desk_http.proofs.answer.halt_reply.Goals as goal

pub returns : goal.returns
returns g c = record { came = c.halt-stopped.result; by_the_day = c.halt-stopped.ensures; answer = search rules }
