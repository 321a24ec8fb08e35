-- A message that is written by several writes.
use Rattle.std.proofs.Common.{◌≡◌, ℕ, ◌+◌, ◌<◌, ◌≤◌, true, false, List, [], ◌∷◌, ◌++◌, length, Option, Some, refl, sym, ap, ◌∙◌, arith, append_assoc}
use Rattle.std.proofs.lemmas.Bool.{le-leb, ne_eqb}
use Rattle.std.proofs.lemmas.List.{append-nil, length-append}
use Rattle.std.proofs.Math.Seq.{drop-append_seam, take-append_seam}
use Rattle.day_log.specs.Messages.{AreWrites, WayParts, after_taking, after_write, after_writes, kept_with, message_of}

-- a write that took all that it was given
takes_all : (way : WayParts) (taken : List ℕ) → 0 < length taken
    → after_taking way (taken ++ []) (length taken) ≡ after_write way taken true
takes_all way taken some =
    rw (ne_eqb (length taken) 0 (λ (none : length taken ≡ 0). omega (arith, some)), take-append_seam taken [], drop-append_seam taken [])
    refl

-- a write that left some of it
takes_some : (way : WayParts) (taken left : List ℕ) → 0 < length taken → 0 < length left
    → after_taking way (taken ++ left) (length taken) ≡ after_write way taken false
takes_some way taken left some more =
    rw (
      ne_eqb (length taken) 0 (λ (none : length taken ≡ 0). omega (arith, some)),
      take-append_seam taken left,
      drop-append_seam taken left,
      ne_eqb (length left) 0 (λ (none : length left ≡ 0). omega (arith, more)),
    ) refl

kept_whole : (kept more : List ℕ) → length kept + length more ≤ 8192 → kept_with (Some kept) more ≡ Some (kept ++ more)
kept_whole kept more fits = rw (le-leb (length kept + length more) 16384 (omega (arith, fits))) refl

-- a write that took all ends the message
last_write : (kept taken : List ℕ) (noted : List (Option (List ℕ))) → length kept + length taken ≤ 8192
    → after_write (record { kept = Some kept; noted = noted }) taken true
    ≡ record { kept = Some []; noted = noted ++ Some (kept ++ taken) ∷ [] }
last_write kept taken noted fits =
    let whole : message_of (kept_with (Some kept) taken) ≡ Some (kept ++ taken) =
    ap message_of (kept_whole kept taken fits)
    ∙ rw (le-leb (length (kept ++ taken)) 8192 (omega (arith, fits, length-append kept taken))) refl in
    ap (λ (m : Option (List ℕ)). record { kept = Some []; noted = noted ++ m ∷ [] }) whole

-- any other goes on with it
other_write : (kept taken : List ℕ) (noted : List (Option (List ℕ))) → length kept + length taken ≤ 8192
    → after_write (record { kept = Some kept; noted = noted }) taken false ≡ record { kept = Some (kept ++ taken); noted = noted }
other_write kept taken noted fits =
    ap (λ (k : Option (List ℕ)). record { kept = k; noted = noted }) (kept_whole kept taken fits)

-- bytes that are written behind others
pub writes_end : (kept bytes : List ℕ) (writes : List (List ℕ × List ℕ)) (noted : List (Option (List ℕ)))
    → AreWrites bytes writes → 0 < length bytes → length kept + length bytes ≤ 8192
    → after_writes (record { kept = Some kept; noted = noted }) writes
    ≡ record { kept = Some []; noted = noted ++ Some (kept ++ bytes) ∷ [] }
writes_end kept bytes [] noted are some fits = absurd (omega (arith, ap length are, some))
writes_end kept bytes ((taken, []) ∷ []) noted are some fits =
    let is : bytes ≡ taken = are.0 ∙ append-nil taken in
    takes_all (record { kept = Some kept; noted = noted }) taken are.1
    ∙ last_write kept taken noted (omega (arith, fits, ap length is))
    ∙ ap (λ (m : List ℕ). record { kept = Some []; noted = noted ++ Some (kept ++ m) ∷ [] }) (sym is)
writes_end kept bytes ((taken, []) ∷ write ∷ writes) noted are some fits =
    absurd (omega (arith, ap length are.2.0, length-append write.0 write.1, are.2.1))
writes_end kept bytes ((taken, c ∷ left) ∷ writes) noted are some fits =
    let is : bytes ≡ taken ++ c ∷ left = are.0 in
    let long = length-append taken (c ∷ left) in
    ap (λ (way : WayParts). after_writes way writes)
    (takes_some (record { kept = Some kept; noted = noted }) taken (c ∷ left) are.1 (omega arith)
    ∙ other_write kept taken noted (omega (arith, fits, ap length is, long)))
    ∙ writes_end (kept ++ taken) (c ∷ left) writes noted are.2 (omega arith)
    (omega (arith, fits, ap length is, long, length-append kept taken))
    ∙ ap (λ (m : List ℕ). record { kept = Some []; noted = noted ++ Some m ∷ [] })
    (append_assoc kept taken (c ∷ left) ∙ ap (λ (m : List ℕ). kept ++ m) (sym is))
