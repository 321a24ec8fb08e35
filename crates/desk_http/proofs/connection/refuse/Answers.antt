use Rattle.std.proofs.Common.{subst}
use Rattle.desk_http.specs.Refused.{refused_status}
use Rattle.desk_http.specs.Reply.{IsReply, refused_json}
use Rattle.desk_http.specs.declared.reply.Kind.TheVariants.{Json}
use Rattle.desk_http.proofs.connection.refuse.Goals as goal

pub returns : goal.returns
returns c = record {
  reply = c.in_ok-reply.reply;
  such =
      subst (λ users. IsReply c.in_ok-reply.reply (refused_status c.args.refused) Json (refused_json users c.args.refused))
      c.as_slice.ensures.value c.in_ok-reply.ensures;
  sent = c.in_ok-send_reply.ensures;
}
