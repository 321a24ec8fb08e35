-- On an audited day of several lives the shares of a venue's legs are as its line's notes and withdrawals say.
use Rattle.std.proofs.Common.{◌≡◌, ◌≤◌, ℕ, List, [], ◌∷◌, ◌++◌, Some, Ok, length, refl, sym, ap, subst, ◌∙◌, arith}
use Rattle.std.specs.Prelude.{slice_get}
use Rattle.std.specs.List.{IsDistinct}
use Rattle.fix_tags.specs.Config.{ConfigParts}
use Rattle.dialect.specs.Wording.{Decoding}
use Rattle.std.proofs.lemmas.Option.{slice_get_within}
use Rattle.share_ledger.specs.Entries.{is_same_leg}
use Rattle.sweep_release.specs.Released.{released}
use Rattle.release_lock.specs.Queues.{Took, TookFirst}
use Rattle.exec_collector.specs.Seats.{Seat, worker_seat}
use Rattle.venue_line.specs.Line.{Line}
use Rattle.venue_line.proofs.Leading.{leads_safely}
use Rattle.line_restart.specs.RestartTheorem.{IsReached}
use Rattle.line_restart.proofs.Reached.{reached_whole}
use Rattle.worker_line.specs.Shares.{AreSpared}
use Rattle.session_worker.specs.declared.day_report.DayReport.{DayReport}
use Rattle.session_worker.specs.Audit.{AuditedDay, counted_of}
use Rattle.session_worker.specs.Events.{WorkerParts}
use Rattle.worker_line.proofs.SeatShares.{shares_at, told_at}
use Rattle.worker_line.proofs.Spared.{taken_within, own_ids}
use Rattle.worker_restart.specs.WorkerLives.{WorkerLife, durable_at, killed_at, AreInTurn, last_life, AllButLast, IsRunOn, IsNewWorker}
use Rattle.worker_restart.specs.WorkerRestartTheorem.{IsWorkerOf, StandsThrough, AllStandThrough, AreSafeLives, AreSafeLivesOf, TheDayOverLives}
use Rattle.worker_restart.proofs.TookFirst.{lives_of, last_on}
use Rattle.worker_restart.proofs.WorkerReached.{released_reached, last_leads}
use Rattle.worker_restart.proofs.WorkerStands.{last_stands, the_worker_restart_theorem}

-- a worker stands so from any seat of its venue on which the same was booked before
stands_on : (base other : Seat) → base.venue ≡ other.venue → base.booked ≡ other.booked → base.asked ≡ other.asked
    → (a : Line) (worker : WorkerParts) → IsWorkerOf base a worker → IsWorkerOf other a worker
stands_on base other venue booked asked a worker is = record {
  session = is.session;
  left = is.left;
  first = is.first;
  venue = is.venue ∙ venue;
  booked = is.booked ∙ ap (λ l. l ++ a.given) booked;
  asked = is.asked;
  asks = is.asks ∙ ap (λ l. l ++ is.asked) asked;
  gone = is.gone;
  once = is.once;
  spared = is.spared;
}

module _ (read : Decoding) (base other : Seat) (venue : base.venue ≡ other.venue) (booked : base.booked ≡ other.booked)
    (asked : base.asked ≡ other.asked) where
  through_on : (life : WorkerLife) → StandsThrough read base life → StandsThrough read other life
  through_on life stands = record {
    start = stands_on base other venue booked asked life.start life.worker stands.start;
    durable = stands_on base other venue booked asked (durable_at read life) life.kept stands.durable;
    killed = stands_on base other venue booked asked (killed_at read life) life.ended stands.killed;
  }

  all_on : (life : WorkerLife) (lives : List WorkerLife) → AllStandThrough read base life lives
      → AllStandThrough read other life lives
  all_on life [] stand = through_on life stand
  all_on life (next ∷ lives) stand = (through_on life stand.0, all_on next lives stand.1)

  safe_on : (first : WorkerLife) (lives : List WorkerLife) → AreSafeLives read base first lives
      → AreSafeLives read other first lives
  safe_on first lives safe = record {
    holds = safe.holds;
    noted = safe.noted;
    accepted = safe.accepted;
    never_accepted = safe.never_accepted;
    withdrawn = safe.withdrawn;
    given = safe.given;
    stand = all_on first lives safe.stand;
  }

-- where the first worker began with a seat of its venue on which nothing was booked
pub day_over_lives : (read : Decoding) (config : ConfigParts) (first : WorkerLife) (lives : List WorkerLife)
    (callers : List Seat) (queues : List Took) (seats : List Seat) (report : DayReport)
    (day : AuditedDay callers queues seats (Ok report)) (venue : ℕ)
    → slice_get queues venue ≡ Some (last_life first lives).ended.took
    → slice_get seats venue ≡ Some (last_life first lives).ended.seat → config.max_number ≤ 999999999
    → IsNewWorker config (released venue day.desk.desk.sweeps) first → first.worker.seat.venue ≡ Some venue
    → first.worker.seat.booked ≡ [] → first.worker.seat.asked ≡ []
    → AreInTurn read (IsRunOn read (released venue day.desk.desk.sweeps)) first lives
    → AllButLast (λ life. TookFirst day.desk.desk venue life.ended.took) first lives
    → AreSafeLivesOf read (counted_of day) venue first lives
day_over_lives read config first lives callers queues seats report day venue took sits small new place booked asked is
    firsts =
    let legs = released venue day.desk.desk.sweeps in
    let last = last_life first lives in
    let w = killed_at read last in
    let base = worker_seat venue in
    let prefix = day.audits.0 venue last.ended.took (slice_get_within queues venue last.ended.took took) took in
    let left = ap (λ (a : Line). a.left) new.start ∙ ap length (sym new.empty) in
    let are = lives_of read legs first lives is firsts prefix left in
    let safe = safe_on read first.worker.seat base place booked asked first lives
    (the_worker_restart_theorem read config legs first lives small new are) in
    let stands = (last_stands read config small base first lives safe.stand).killed in
    let start = subst (IsReached config) (sym new.start) (released_reached config legs) in
    let leads = last_leads config read first lives are start in
    let stays = (leads_safely last.start w leads.1 (reached_whole config small last.start leads.0)).1 in
    let on = (last_on read legs first lives is).released in
    let within = taken_within last.ended.took.taken legs prefix in
    let many = ap length on in
    let count = stands.left in
    let own = own_ids venue day.desk.desk.sweeps last.start w on stays (omega arith) in
    let asks = sym stands.asks in
    record {
      safe = safe;
      shares = shares_at day.book seats venue last.ended.seat w.given last.ended.seat.asked day.book_replays day.kept sits
          stands.venue stands.booked refl (subst (IsDistinct is_same_leg) asks (stands.once own))
          (subst (AreSpared w.given) asks (stands.spared own));
      told = told_at (counted_of day) seats venue last.ended.seat w.given day.kept day.left sits stands.venue
          stands.booked;
    }

pub the_day_over_lives : TheDayOverLives
the_day_over_lives read config first lives callers queues seats report day venue took sits small new seat is firsts =
    day_over_lives read config first lives callers queues seats report day venue took sits small new
    (ap (λ (s : Seat). s.venue) seat) (ap (λ (s : Seat). s.booked) seat) (ap (λ (s : Seat). s.asked) seat) is firsts
