use Rattle.std.proofs.Common.{length}
use Rattle.bench_codec.proofs.stream.count_frames.Given as goal

abbrev pub decreases-loop-frame : goal.decreases-loop-frame
decreases-loop-frame l = length l.reader.rest
