use Rattle.std.proofs.Common.{◌≡◌, suc, ◌-◌, Some, length, get_or, refl, ap, sym, ◌∙◌, arith}
use Rattle.std.proofs.lemmas.Bool.{ltb-true}
use Rattle.std.proofs.lemmas.Option.{slice_get_read}
use Rattle.share_ledger.specs.Book.{totals_of, totals}
use Rattle.share_ledger.specs.Kept.{ledger_seen}
use Rattle.share_ledger.proofs.KeptRead.{totals_kept}
use Rattle.share_ledger.proofs.ledger.Ledger.totals.Goals as goal

pub totals_of-requires : goal.totals_of-requires
totals_of-requires c =
    let sweeps = c.args.self.now.sweeps.items in
    let short = c.requires.kept.short in
    let lookup = c.in_ok-legs.ensures.lookup in
    let same = c.deref.ensures.value in
    let long = ap length same in
    let there = ltb-true (c.args.number - 1) _ (sym lookup.0) in
    let here = slice_get_read sweeps _ (c.args.number - 1) c.in_ok-legs.legs.now refl (omega (arith, there, long))
    (lookup.1 ∙ ap (λ l. get_or l (c.args.number - 1) c.in_ok-legs.legs.now) same) in
    let few = short (suc (c.args.number - 1)) c.in_ok-legs.legs.now here in
    let items = ap length c.as_slice.ensures.value in
    omega (arith, few, items)

pub returns : goal.returns
returns c =
    let sweeps = c.args.self.now.sweeps.items in
    let lookup = c.in_ok-legs.ensures.lookup in
    let same = c.deref.ensures.value in
    let long = ap length same in
    let there = ltb-true (c.args.number - 1) _ (sym lookup.0) in
    let here = slice_get_read sweeps _ (c.args.number - 1) c.in_ok-legs.legs.now refl (omega (arith, there, long))
    (lookup.1 ∙ ap (λ l. get_or l (c.args.number - 1) c.in_ok-legs.legs.now) same) in
    let number : suc (c.args.number - 1) ≡ c.args.number = omega (arith, c.if-number-eq0.false) in
    ap Some (c.totals_of.ensures ∙ ap totals_of c.as_slice.ensures.value)
    ∙ (sym (totals_kept c.args.self.now c.requires.kept (c.args.number - 1) c.in_ok-legs.legs.now here)
    ∙ ap (totals (ledger_seen c.args.self.now)) number)
