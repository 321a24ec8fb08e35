-- The bytes of a tape in memory.
use Rattle.std.specs.Prelude.{ℕ, List}
use Rattle.journal_tape.specs.declared.memory_tape.MemoryTape.{MemoryTape}

-- its bytes
abbrev pub memory_bytes : MemoryTape → List ℕ
memory_bytes m = m.bytes.items
