use Rattle.std.proofs.Common.{rules, ◌≡◌}
use denote.Exit.{yes}
use denote.Param.Send.{param_send, param_sync, arg_send, arg_sync}
use Rattle.desk_threads.proofs.threads.fn.in_threads.join+arg3+FnOnce.call_once.Goals as goal

-- what may cross to a thread here may do so where the dispatcher is run
pub join+arg3-requires : goal.join+arg3-requires
join+arg3-requires g c =
    let r = c.requires.1.1.1.1.1.1.1 in (
      param_send _ _ (arg_send _ yes _ r.0),
      (
        param_send _ _ (arg_send _ yes _ r.1),
        (
          param_send _ _ (arg_send _ yes _ r.2),
          (
            param_send _ _ (arg_send _ yes _ r.3),
            (
              param_send _ _ (arg_send _ yes _ r.4),
              (
                param_send _ _ (arg_send _ yes _ r.5),
                (
                  param_sync _ _ (arg_sync _ yes _ r.6),
                  (param_sync _ _ (arg_sync _ yes _ r.7), param_sync _ _ (arg_sync _ yes _ r.8)),
                ),
              ),
            ),
          ),
        ),
      ),
    )
