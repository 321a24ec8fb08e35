use Rattle.desk_http.proofs.connection.carry_out.Goals as goal

pub returns-clause-place : goal.returns-clause-place
returns-clause-place g c = λ is. record {
  reply = c.in_ok-reply.reply;
  such = c.in_ok-reply.ensures.place is;
  sent = c.in_ok-send_reply.ensures;
}

pub returns-clause-close : goal.returns-clause-close
returns-clause-close g c = λ is. record {
  reply = c.in_ok-reply.reply;
  such = c.in_ok-reply.ensures.close is;
  sent = c.in_ok-send_reply.ensures;
}
