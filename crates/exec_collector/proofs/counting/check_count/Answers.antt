use Rattle.std.proofs.Common.{ap, sym, subst, ◌∙◌, arith}
use Rattle.std.specs.List.{All}
use Rattle.std.proofs.lemmas.List.Elements.{All-push}
use Rattle.std.proofs.lemmas.List.Sums.{sum_by_push}
use Rattle.exec_collector.specs.Booked.{IsKept}
use Rattle.exec_collector.specs.Seats.{Seat, parts_of, shares_of}
use Rattle.exec_collector.specs.Unbooked.{KeptCounted, WereUnbooked}
use Rattle.exec_collector.proofs.counting.check_count.Goals as goal

pub loop-seat-preserved : goal.loop-seat-preserved
loop-seat-preserved g c =
    let so_far = c.loop-seat.invariant in
    let rest = c.pop-in-loop-seat.new.self.items in
    let seat = c.in-Some-pop.seat in
    let items = c.in-Some-pop.ensures.items in
    let P : Seat → Type 0 = IsKept c.args.counted.now.book in
    let Q : Seat → Type 0 = WereUnbooked c.args.counted.now.unbooked in
    let parts = ap parts_of items in
    let parts_sum = sum_by_push (λ (s : Seat). s.parts) rest seat in
    let more_parts = c.join.ensures.parts in
    let same_parts = ap (λ (s : Seat). s.parts) c.compare-in-Some-pop.ensures.same.1 in
    let shares = ap shares_of items in
    let shares_sum = sum_by_push (λ (s : Seat). s.shares) rest seat in
    let more_shares = c.join.ensures.shares in
    let same_shares = ap (λ (s : Seat). s.shares) c.compare-in-Some-pop.ensures.same.1 in
    let parts_before = so_far.0 in
    let shares_before = so_far.1 in
    let kept : P seat = subst (λ (b : KeptCounted). IsKept b.book seat) so_far.2 c.compare-in-Some-pop.ensures.kept in
    let left : Q seat = subst (λ (b : KeptCounted). WereUnbooked b.unbooked seat) so_far.2
    c.compare-in-Some-pop.ensures.unbooked in (
      omega (arith, parts, parts_sum, more_parts, same_parts, parts_before),
      omega (arith, shares, shares_sum, more_shares, same_shares, shares_before),
      c.compare-in-Some-pop.ensures.same.0 ∙ so_far.2,
      λ all. so_far.3 (subst (All P) (sym items) (All-push P rest seat all kept)),
      λ all. so_far.4 (subst (All Q) (sym items) (All-push Q rest seat all left)),
    )
