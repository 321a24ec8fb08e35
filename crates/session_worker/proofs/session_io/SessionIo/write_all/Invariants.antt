use Rattle.std.proofs.Common.{◌≡◌, take}
use Rattle.std.specs.List.{concat}
use Rattle.link.specs.Traffic.{Tells, Takes}
use Rattle.kept_link.specs.Telling.{IsAllKept}
use Rattle.session_worker.proofs.Spoken.{texts}
use Rattle.session_worker.proofs.session_io.SessionIo.write_all.Given as goal

abbrev pub invariant-loop-frame : goal.invariant-loop-frame
invariant-loop-frame g l =
    (l.self.session ≡ l.initial.self.session)
    × Tells l.initial.self.wire l.self.wire
    (Takes (concat (texts (take l.frame-index l.frame-items))))
    × (l.self.stream ≡ l.initial.self.stream)
    × (l.self.told ≡ l.initial.self.told)
    × IsAllKept l.self.told
