use Rattle.std.proofs.Common.{rules, ◌≡◌, ℕ, ◌<◌, Bool, true, false, true≢false, List, [], ◌∷◌, ◌++◌, length, take, slice_set, if◌then◌else◌, sym, ap, arith}
use Rattle.link.specs.Traffic.{GivesBytes}
use Rattle.edge_tests.proofs.links.TrickleLink.read.Goals as goal

-- one byte more stands behind those that were read
gives_one : (dialled : Bool) (buf : List ℕ) (byte : ℕ) (written read more : List ℕ) → dialled ≡ true → 0 < length buf → more ≡ read ++ byte ∷ []
    → GivesBytes (take 1 (slice_set buf 0 byte)) (if dialled then record { written = written; read = read } ∷ [] else [])
    (if dialled then record { written = written; read = more } ∷ [] else [])
gives_one false buf byte written read more on room is = absurd (true≢false (sym on))
gives_one true [] byte written read more on room is = absurd (omega arith)
gives_one true (x ∷ xs) byte written read more on room is = ap (λ (l : List ℕ). record { written = written; read = l } ∷ []) is

pub returns-clause-wire : goal.returns-clause-wire
returns-clause-wire c =
    let on : c.args.self.now.dialled ≡ true = search rules in
    let room : 0 < length c.args.buf.now = search rules in
    let more : c.push.new.self.items ≡ c.args.self.now.read.items ++ c.in-Some.byte ∷ [] = search rules in
    gives_one _ _ _ _ _ _ on room more
