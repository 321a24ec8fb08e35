use denote.Exit.{yes}
use denote.Param.Send.{param_send, param_sync, arg_send, arg_sync}
use Rattle.desk_run.proofs.running.fn.with_lines.join+arg2+FnOnce.call_once.Goals as goal

-- what may cross to a thread here may do so where the threads of the day are run
pub join+arg2-requires : goal.join+arg2-requires
join+arg2-requires g c =
    let r = c.requires.1.1.1.1.1.1.1.1 in (
      param_send _ _ (arg_send _ yes _ r.0),
      (
        param_send _ _ (arg_send _ yes _ r.1),
        (
          param_send _ _ (arg_send _ yes _ r.2),
          (
            param_send _ _ (arg_send _ yes _ r.3),
            (
              param_send _ _ (arg_send _ yes _ r.4),
              (
                param_send _ _ (arg_send _ yes _ r.5),
                (
                  param_send _ _ (arg_send _ yes _ r.6),
                  (
                    param_sync _ _ (arg_sync _ yes _ r.7),
                    (param_sync _ _ (arg_sync _ yes _ r.8), param_sync _ _ (arg_sync _ yes _ r.9)),
                  ),
                ),
              ),
            ),
          ),
        ),
      ),
    )
