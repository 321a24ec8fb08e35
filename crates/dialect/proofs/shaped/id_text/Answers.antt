use Rattle.std.proofs.Common.{◌≡◌, true, sym, ap, ◌∙◌, arith}
use Rattle.dialect.specs.Words.{is_id_shape}
use Rattle.dialect.specs.Lemmas.WordedLaws.{room_parted, room_joined}
use Rattle.dialect.proofs.shaped.id_text.Goals as goal

pub parted_id_text-requires-clause-low : goal.parted_id_text-requires-clause-low
parted_id_text-requires-clause-low c =
    let r = room_parted c.in-Parted.base c.in-Parted.width c.in-Parted.separator (ap is_id_shape (sym c.in-Parted.is) ∙ c.requires) in omega (arith, r.low)

pub parted_id_text-requires-clause-high : goal.parted_id_text-requires-clause-high
parted_id_text-requires-clause-high c =
    let r = room_parted c.in-Parted.base c.in-Parted.width c.in-Parted.separator (ap is_id_shape (sym c.in-Parted.is) ∙ c.requires) in omega (arith, r.high)

pub parted_id_text-requires-clause-short : goal.parted_id_text-requires-clause-short
parted_id_text-requires-clause-short c =
    let r = room_parted c.in-Parted.base c.in-Parted.width c.in-Parted.separator (ap is_id_shape (sym c.in-Parted.is) ∙ c.requires) in omega (arith, r.short)

pub joined_id_text-requires-clause-low : goal.joined_id_text-requires-clause-low
joined_id_text-requires-clause-low c =
    let r = room_joined c.in-Joined.base c.in-Joined.width (ap is_id_shape (sym c.in-Joined.is) ∙ c.requires) in omega (arith, r.low)

pub joined_id_text-requires-clause-high : goal.joined_id_text-requires-clause-high
joined_id_text-requires-clause-high c =
    let r = room_joined c.in-Joined.base c.in-Joined.width (ap is_id_shape (sym c.in-Joined.is) ∙ c.requires) in omega (arith, r.high)

pub joined_id_text-requires-clause-short : goal.joined_id_text-requires-clause-short
joined_id_text-requires-clause-short c =
    let r = room_joined c.in-Joined.base c.in-Joined.width (ap is_id_shape (sym c.in-Joined.is) ∙ c.requires) in omega (arith, r.short)
