use denote.RattleType.{RattleType}
use denote.Param.Send.{IsSend}
use Rattle.agreed_list.specs.contracts.sides.BookSide.{the_row}
use Rattle.agreed_list.proofs.Sent.{book_keyless}

pub send : (T : RattleType) → IsSend (the_row T)
send T = record { owned = λ d vs. ((λ vss. (tt, ((λ uss. (tt, tt)), tt))), book_keyless T.coded.code d.name d.items); leaving = λ k f vs. tt }
