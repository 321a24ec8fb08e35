use denote.Param.Send.{sendable}
use Rattle.session_worker.proofs.running.run_all_until.Goals as goal

-- what may cross to a thread here may do so where the workers are started
pub scoped-requires : goal.scoped-requires
scoped-requires g c =
    let t = c.type_bounds in
    record {
      at = λ a. (
        search sendable,
        search sendable,
        search sendable,
        search sendable,
        search sendable,
        search sendable,
        search sendable,
        search sendable,
        search sendable,
        search sendable,
      );
    }
