use Rattle.session_worker.specs.Restoring.{StartParts, note_in, TakesMore}
use Rattle.session_worker.proofs.Redone.{start_of}
use Rattle.session_worker.proofs.restoring.Start.take_to.Given as goal

abbrev pub invariant-loop : goal.invariant-loop
invariant-loop g l =
    TakesMore
    (start_of l.initial.self-inside.session l.initial.self-inside.takings l.initial.self-inside.seat l.initial.self-inside.told
    l.initial.self-inside.booked (note_in l.initial.self-inside.waiting))
    (start_of l.self-inside.session l.self-inside.takings l.self-inside.seat l.self-inside.told
    l.self-inside.booked (note_in l.self-inside.waiting))
