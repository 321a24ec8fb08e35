use Rattle.std.proofs.Common.{◌≡◌, ◌++◌, drop}
use Rattle.std.specs.List.{concat}
use Rattle.exchange_core.specs.Frames.{bytes_of}
use Rattle.exchange_sim.proofs.matching_engine.put_all.Given as goal

abbrev pub invariant-loop-frame : goal.invariant-loop-frame
invariant-loop-frame l =
    l.outbox ++ concat (bytes_of (drop l.frame-index l.frames)) ≡ l.fn.outbox ++ concat (bytes_of l.frames)
