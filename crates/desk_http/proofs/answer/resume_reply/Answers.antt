use Rattle.std.proofs.Common.{rules}
use Rattle.desk_http.proofs.answer.resume_reply.Goals as goal

pub returns : goal.returns
returns g c = record { is_kept = c.resume-is_kept.result; by_the_day = c.resume-is_kept.ensures; answer = search rules }
