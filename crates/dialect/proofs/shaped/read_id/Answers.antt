use Rattle.std.proofs.Common.{◌≡◌, true, sym, ap, ◌∙◌, arith}
use Rattle.dialect.specs.Words.{is_id_shape}
use Rattle.dialect.specs.Lemmas.WordedLaws.{room_parted, room_joined}
use Rattle.dialect.proofs.shaped.read_id.Goals as goal

pub read_parted-requires-clause-low : goal.read_parted-requires-clause-low
read_parted-requires-clause-low c =
    let r = room_parted c.in-Parted.base c.in-Parted.width c.in-Parted.separator (ap is_id_shape (sym c.in-Parted.is) ∙ c.requires) in omega (arith, r.low)

pub read_parted-requires-clause-high : goal.read_parted-requires-clause-high
read_parted-requires-clause-high c =
    let r = room_parted c.in-Parted.base c.in-Parted.width c.in-Parted.separator (ap is_id_shape (sym c.in-Parted.is) ∙ c.requires) in omega (arith, r.high)

pub read_joined-requires-clause-low : goal.read_joined-requires-clause-low
read_joined-requires-clause-low c =
    let r = room_joined c.in-Joined.base c.in-Joined.width (ap is_id_shape (sym c.in-Joined.is) ∙ c.requires) in omega (arith, r.low)

pub read_joined-requires-clause-high : goal.read_joined-requires-clause-high
read_joined-requires-clause-high c =
    let r = room_joined c.in-Joined.base c.in-Joined.width (ap is_id_shape (sym c.in-Joined.is) ∙ c.requires) in omega (arith, r.high)
