use denote.RattleType.{RattleType}
use denote.Param.Send.{IsSend}
use Rattle.agreed_list.specs.contracts.sides.SeatSide.{the_row}
use Rattle.agreed_list.proofs.Sent.{seat_keyless}

pub send : (T : RattleType) → IsSend (the_row T)
send T = record { owned = λ d vs. ((λ vss. (tt, ((λ uss. (tt, tt)), tt))), seat_keyless T.coded.code d.name d.items); leaving = λ k f vs. tt }
