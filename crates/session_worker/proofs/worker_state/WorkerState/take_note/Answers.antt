use Rattle.std.proofs.Common.{true≢false, inl, inr, refl}
use Rattle.session_worker.proofs.Told.{tells_none}
use Rattle.session_worker.proofs.Spoken.{stays_here}
use Rattle.session_worker.proofs.worker_state.WorkerState.take_note.Goals as goal

pub returns-in-Some-clause-booked : goal.returns-in-Some-clause-booked
returns-in-Some-clause-booked g c = λ e. let both = c.book.ensures.booked e in inr (_, c.in-Some.is, both.0, both.1, both.2)

pub returns-in-None-clause-booked : goal.returns-in-None-clause-booked
returns-in-None-clause-booked g c = λ e. inl (refl, refl, tells_none _ _ refl)

pub returns-in-None-clause-broken : goal.returns-in-None-clause-broken
returns-in-None-clause-broken g c = λ e. absurd (true≢false e)

pub returns-in-None-clause-wire : goal.returns-in-None-clause-wire
returns-in-None-clause-wire g c = stays_here _
