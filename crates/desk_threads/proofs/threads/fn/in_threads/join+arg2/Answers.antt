use denote.Exit.{yes}
use denote.Param.Send.{param_send, arg_send}
use Rattle.desk_threads.proofs.threads.fn.in_threads.join+arg2.Goals as goal

-- what may cross to a thread here may do so where the servers are run
pub run_servers-requires-send-X : goal.run_servers-requires-send-X
run_servers-requires-send-X g c κs within = param_send _ _ (arg_send _ yes _ c.requires.1.1.1.1.1.1.0)

pub run_servers-requires-send-L : goal.run_servers-requires-send-L
run_servers-requires-send-L g c κs within = param_send _ _ (arg_send _ yes _ c.requires.1.1.1.1.1.1.1)

pub run_servers-requires-send-M : goal.run_servers-requires-send-M
run_servers-requires-send-M g c κs within = param_send _ _ (arg_send _ yes _ c.requires.1.1.1.1.1.1.2)

pub run_servers-requires-send-W : goal.run_servers-requires-send-W
run_servers-requires-send-W g c κs within = param_send _ _ (arg_send _ yes _ c.requires.1.1.1.1.1.1.3)

pub run_servers-requires-send-J : goal.run_servers-requires-send-J
run_servers-requires-send-J g c κs within = param_send _ _ (arg_send _ yes _ c.requires.1.1.1.1.1.1.4)
