use Rattle.std.proofs.Common.{Some, ap, sym, ◌∙◌}
use Rattle.std.specs.Prelude.{option_map}
use Rattle.day_sweeps.specs.Paid.{paid_beside}
use Rattle.day_sweeps.proofs.Booked.{sweep_told}
use Rattle.day_sweeps.proofs.paid.paid_sweep.Goals as goal

pub returns-clause-value : goal.returns-clause-value
returns-clause-value c =
    ap Some c.paid_of.ensures
    ∙ ap (option_map (paid_beside c.args.beside.now))
    (sweep_told c.args.book.now c.args.number c.sum_of.result c.in_ok-totals.totals c.requires.some c.requires.replays
    (sym c.totals.ensures ∙ c.in_ok-totals.was) c.sum_of.ensures)
