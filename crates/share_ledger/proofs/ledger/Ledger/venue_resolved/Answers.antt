use Rattle.std.proofs.Common.{◌<◌, length, get_or, ap, sym, ◌∙◌, arith}
use Rattle.std.proofs.lemmas.Bool.{ltb-true, ltb-false}
use Rattle.std.proofs.lemmas.List.{get_or_default}
use Rattle.share_ledger.proofs.KeptRead.{resolved_kept, unknown_kept}
use Rattle.share_ledger.proofs.ledger.Ledger.venue_resolved.Goals as goal

pub returns-in-Some : goal.returns-in-Some
returns-in-Some c =
    let items = c.args.self.now.resolved.items in
    let lookup = c.in-Some.ensures.lookup in
    let same = c.deref.ensures.value in
    let long = ap length same in
    let venue = c.from.ensures ∙ c.number.ensures.value in
    let below = ltb-true c.from.result _ (sym lookup.0) in
    let there : c.args.venue < length items = omega (arith, below, long, venue) in
    let resolved = c.requires.kept.resolved in
    lookup.1
    ∙ ((λ n. get_or (same n) (venue n) c.in-Some.shares.now)
    ∙ (get_or_default items c.args.venue c.in-Some.shares.now 0 there
    ∙ (resolved c.args.venue there ∙ resolved_kept c.args.self.now c.requires.kept c.args.venue)))

pub returns-in-None : goal.returns-in-None
returns-in-None c =
    let lookup = c.in-None.ensures.lookup in
    let long = ap length c.deref.ensures.value in
    let venue = c.from.ensures ∙ c.number.ensures.value in
    let past = ltb-false c.from.result _ (sym lookup.0) in
    sym (unknown_kept c.args.self.now c.requires.kept c.args.venue (omega (arith, past, long, venue)))
