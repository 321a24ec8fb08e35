use Rattle.std.proofs.Common.{◌+◌, [], ◌∷◌, ◌++◌, length, refl, ap, sym, ◌∙◌, arith}
use Rattle.share_ledger.specs.declared.book_entry.BookEntry.TheVariants.{Opened}
use Rattle.share_ledger.specs.declared.ledger.Ledger.{Ledger}
use Rattle.share_ledger.proofs.KeptOpened.{kept_opened}
use Rattle.share_ledger.proofs.ledger.Ledger.open_sweep.Goals as goal

pub returns-clause-kept : goal.returns-clause-kept
returns-clause-kept c =
    let old = c.args.self.now in
    let legs = c.as_slice-legs.result.now in
    let new : Ledger = record {
      resolved = old.resolved;
      sweeps = c.push_reserved.new.self;
      shares = old.shares + c.shares_of.result;
      due = old.due + length legs;
      history = c.push_reserved-2.new.self;
    } in
    let copy = c.new-copy.ensures ∙ c.in_ok-copied.ensures in
    let due = c.requires.kept.due in
    kept_opened old legs c.in_ok-open.open c.requires.kept
    (sym c.is_fit.ensures ∙ c.if-not-is_fit.false) c.in_ok-open.ensures new refl
    (c.push_reserved.ensures.items ∙ ap (λ l. l ++ c.in_ok-open.open ∷ []) c.in_ok-reserve-2.ensures.items)
    (ap (λ n. old.shares + n) c.shares_of.ensures.value)
    refl
    (c.push_reserved-2.ensures.items ∙ (λ n. c.in_ok-reserve.ensures.items n ++ Opened (record { legs = copy n }) ∷ []))
    (omega (
      arith,
      c.push_reserved-2.ensures.len,
      c.push_reserved-2.ensures.capacity,
      c.in_ok-reserve.ensures.len,
      c.in_ok-reserve.ensures.ok,
    ))
