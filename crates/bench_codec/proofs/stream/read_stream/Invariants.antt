use Rattle.bench_codec.proofs.stream.read_stream.Given as goal

abbrev pub decreases-loop-left : goal.decreases-loop-left
decreases-loop-left l = l.left
