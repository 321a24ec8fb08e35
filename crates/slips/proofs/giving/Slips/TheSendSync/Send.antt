use denote.RattleType.{RattleType}
use denote.Param.Send.{IsSend}
use Rattle.slips.specs.contracts.giving.Slips.{the_row}
use Rattle.slips.proofs.Sent.{slips_keyless}

pub send : (T : RattleType) → IsSend (the_row T)
send T = record { owned = λ d vs. ((λ vss. (tt, ((λ uss. (tt, tt)), tt))), slips_keyless T.coded.code d.name d.held); leaving = λ k f vs. tt }
