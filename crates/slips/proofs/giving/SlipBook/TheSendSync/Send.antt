use denote.RattleType.{RattleType}
use denote.Param.Send.{IsSend}
use Rattle.slips.specs.contracts.giving.SlipBook.{the_row}
use Rattle.slips.proofs.Sent.{book_keyless}

pub send : (T : RattleType) → IsSend (the_row T)
send T = record { owned = λ d vs. ((λ vss. (tt, ((λ uss. (tt, tt)), tt))), book_keyless T.coded.code d.name d.given); leaving = λ k f vs. tt }
