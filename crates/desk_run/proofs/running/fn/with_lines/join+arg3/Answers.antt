use denote.Exit.{yes}
use denote.Param.Send.{param_send, arg_send}
use Rattle.desk_run.proofs.running.fn.with_lines.join+arg3.Goals as goal

-- what may cross to a thread here may do so where the callers are run
pub take_all_lines-requires-send-L : goal.take_all_lines-requires-send-L
take_all_lines-requires-send-L g c κs within = param_send _ _ (arg_send _ yes _ c.requires.1.1.1.1.1.1.0)

pub take_all_lines-requires-send-M : goal.take_all_lines-requires-send-M
take_all_lines-requires-send-M g c κs within = param_send _ _ (arg_send _ yes _ c.requires.1.1.1.1.1.1.1)

pub take_all_lines-requires-send-W : goal.take_all_lines-requires-send-W
take_all_lines-requires-send-W g c κs within = param_send _ _ (arg_send _ yes _ c.requires.1.1.1.1.1.1.2)

pub take_all_lines-requires-send-J : goal.take_all_lines-requires-send-J
take_all_lines-requires-send-J g c κs within = param_send _ _ (arg_send _ yes _ c.requires.1.1.1.1.1.1.3)
