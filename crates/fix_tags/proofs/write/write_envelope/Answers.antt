use Rattle.fix_tags.proofs.ValueFaults.{refused_for_field}
use Rattle.fix_tags.proofs.write.write_envelope.Goals as goal

pub returns-in-Some-clause-full : goal.returns-in-Some-clause-full
returns-in-Some-clause-full c = λ memory. absurd (refused_for_field c.args.envelope.now c.field_fault.result c.in-Some.fault c.field_fault.ensures c.in-Some.is memory)
