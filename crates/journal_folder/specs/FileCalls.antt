-- A file by the calls on it: what a read gives, and what a crash may leave, if the file does what its calls say.
use Rattle.std.specs.Prelude.{◌≡◌, ◌≤◌, ℕ, ◌+◌, List, [], ◌∷◌, ◌++◌, length, take, drop, Option, Some, None}
use Rattle.std.proofs.Common.{◌⊎◌, inl, inr, arith}
use Rattle.std.specs.Coded.{Coded, coded_ℕ, coded_list, coded_option}
use Rattle.journal_tape.specs.Tape.{MixesAt, zeros}

-- the calls on a file, the last one first: bytes are written behind those that were; or none, and all that was written
-- is put on the disk
abbrev pub FileCalls : Type 0
FileCalls = List (Option (List ℕ))

-- what ghost data of this type is kept as
abbrev pub calls_coded : Coded FileCalls
calls_coded = coded_list (coded_option (coded_list coded_ℕ))

abbrev pub with_write : List ℕ → FileCalls → FileCalls
with_write bytes calls = Some bytes ∷ calls

abbrev pub with_sync : FileCalls → FileCalls
with_sync calls = None ∷ calls

-- where the next bytes go
abbrev pub end_after : FileCalls → ℕ
end_after [] = 0
end_after (None ∷ calls) = end_after calls
end_after (Some bytes ∷ calls) = end_after calls + length bytes

-- bytes over others
abbrev pub put_over : ℕ → List ℕ → List ℕ → List ℕ
put_over at bytes seen = take at seen ++ bytes ++ drop (at + length bytes) seen

-- what a read gives of a file that had so many zeros
abbrev pub seen_after : ℕ → FileCalls → List ℕ
seen_after room [] = zeros room
seen_after room (None ∷ calls) = seen_after room calls
seen_after room (Some bytes ∷ calls) = put_over (end_after calls) bytes (seen_after room calls)

-- what a crash may leave: behind a sync what a read gives, and behind a write each byte old or new
abbrev pub Leaves : ℕ → FileCalls → List ℕ → Type 0
Leaves room [] c = c ≡ zeros room
Leaves room (None ∷ calls) c = Leaves room calls c × (c ≡ seen_after room calls)
Leaves room (Some bytes ∷ calls) c = (d : List ℕ) × Leaves room calls d × MixesAt (end_after calls) bytes d c

-- what it might have left since there were so many calls
abbrev pub LeftSince : ℕ → FileCalls → ℕ → List ℕ → Type 0
LeftSince room [] t c = Leaves room [] c
LeftSince room (call ∷ calls) t c = Leaves room (call ∷ calls) c ⊎ ((t ≤ length calls) × LeftSince room calls t c)

-- this moment is one of those
pub counts_now : (room : ℕ) (calls : FileCalls) (t : ℕ) (c : List ℕ) → t ≤ length calls → Leaves room calls c
    → LeftSince room calls t c
counts_now room [] t c le left = left
counts_now room (call ∷ calls) t c le left = inl left

-- since this moment there is no other
pub only_now : (room : ℕ) (calls : FileCalls) (c : List ℕ) → LeftSince room calls (length calls) c
    → Leaves room calls c
only_now room [] c left = left
only_now room (call ∷ calls) c (inl left) = left
only_now room (call ∷ calls) c (inr early) = absurd (let late = early.0 in omega (arith, late))
