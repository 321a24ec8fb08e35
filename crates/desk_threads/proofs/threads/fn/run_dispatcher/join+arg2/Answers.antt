use denote.Exit.{yes}
use denote.Param.Send.{param_send, arg_send}
use Rattle.desk_threads.proofs.threads.fn.run_dispatcher.join+arg2.Goals as goal

-- what may cross to a thread here may do so where the workers are run
pub run_workers-requires-send-K : goal.run_workers-requires-send-K
run_workers-requires-send-K g c κs within = param_send _ _ (arg_send _ yes _ c.requires.1.1.1.1.1.1.1.0)

pub run_workers-requires-send-C : goal.run_workers-requires-send-C
run_workers-requires-send-C g c κs within = param_send _ _ (arg_send _ yes _ c.requires.1.1.1.1.1.1.1.1)

pub run_workers-requires-send-L : goal.run_workers-requires-send-L
run_workers-requires-send-L g c κs within = param_send _ _ (arg_send _ yes _ c.requires.1.1.1.1.1.1.1.2)

pub run_workers-requires-send-M : goal.run_workers-requires-send-M
run_workers-requires-send-M g c κs within = param_send _ _ (arg_send _ yes _ c.requires.1.1.1.1.1.1.1.3)

pub run_workers-requires-send-W : goal.run_workers-requires-send-W
run_workers-requires-send-W g c κs within = param_send _ _ (arg_send _ yes _ c.requires.1.1.1.1.1.1.1.4)

pub run_workers-requires-send-J : goal.run_workers-requires-send-J
run_workers-requires-send-J g c κs within = param_send _ _ (arg_send _ yes _ c.requires.1.1.1.1.1.1.1.5)
