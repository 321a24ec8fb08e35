use Rattle.std.proofs.Common.{sym, subst}
use Rattle.desk_venues.specs.Dresses.{AllWear}
use Rattle.desk_venues.proofs.Wearing.{all_wear}
use Rattle.desk_venues.proofs.opened.open_venues.Goals as goal

pub new_workers-requires-clause-dressed : goal.new_workers-requires-clause-dressed
new_workers-requires-clause-dressed g c =
    subst (AllWear c.args.venues.now) (sym c.in_ok-links.ensures.dresses)
    (all_wear c.args.venues.now c.args.secrets.items c.requires.secrets)
