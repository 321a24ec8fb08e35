use Rattle.std.proofs.Common.{◌<◌, length, rules}
use Rattle.desk_serve.proofs.Counting.{counted_anew}
use Rattle.desk_serve.proofs.counted.Counted.count.Goals as goal

pub invariant_of-self : goal.invariant_of-self
invariant_of-self c =
    let old = c.self.inside in
    let low : c.args.place < length old.of_sweeps.items = search rules in
    counted_anew old.of_sweeps.items c.args.place c.index.result.now c.args.now old.sums _ low c.index.ensures
    c.requires c.self.invariant c.all_recounted-self-inside.ensures
