-- A day by its bytes: what they say is what the day's theorem asks.
use Rattle.dialect.specs.Wording.{Wording, IsWording}
use Rattle.sweep_release.specs.Released.{released}
use Rattle.worker_line.specs.DayByBytes.{TheDayByBytes}
use Rattle.worker_line.proofs.Coming.{the_wire_theorem}
use Rattle.worker_line.proofs.Moments.{the_day_theorem}

pub the_day_by_bytes : (w : Wording) → IsWording w → TheDayByBytes w
the_day_by_bytes w laws callers queues seats report day venue config events after took sits good ran new range =
    let goes = the_wire_theorem w laws config (released venue day.desk.desk.sweeps) events after good ran range in
    record {
      speak = goes.speak;
      safe = λ come keeps. the_day_theorem w callers queues seats report day venue config events after took sits
          good.max_number ran new (goes.happens come keeps);
    }
