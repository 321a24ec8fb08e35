-- A frame that is heard.
use Rattle.std.proofs.Common.{◌≡◌, ℕ, ◌+◌, ◌-◌, ◌≤◌, List, [], ◌∷◌, ◌++◌, length, Option, Some, refl, sym, ap, ◌∙◌, arith, append_assoc}
use Rattle.std.specs.List.{concat}
use Rattle.std.proofs.lemmas.Bool.{le-leb}
use Rattle.std.proofs.lemmas.List.{append-nil, length-append}
use Rattle.std.proofs.Math.Seq.{drop-append_seam, take-append_seam}
use Rattle.fix_text.specs.Grammar.{IsFrame}
use Rattle.day_log.specs.Messages.{WayParts, after_hearing, after_reads, kept_with, messages_of}
use Rattle.day_log.proofs.FrameHeads.{frame_is_one, frame_is_short}

-- bytes that are read in any pieces are kept behind one another
reads_kept : (kept : List ℕ) (noted : List (Option (List ℕ))) (reads : List (List ℕ))
    → length kept + length (concat reads) ≤ 16384
    → after_reads (record { kept = Some kept; noted = noted }) reads
    ≡ record { kept = Some (kept ++ concat reads); noted = noted }
reads_kept kept noted [] fits = ap (λ (k : List ℕ). record { kept = Some k; noted = noted }) (sym (append-nil kept))
reads_kept kept noted (bytes ∷ reads) fits =
    let long = length-append bytes (concat reads) in
    let room = le-leb (length kept + length bytes) 16384 (omega (arith, fits, long)) in
    let kept_is : kept_with (Some kept) bytes ≡ Some (kept ++ bytes) = rw room refl in
    ap (λ (k : Option (List ℕ)). after_reads (record { kept = k; noted = noted }) reads) kept_is
    ∙ reads_kept (kept ++ bytes) noted reads (omega (arith, fits, long, length-append kept bytes))
    ∙ ap (λ (k : List ℕ). record { kept = Some k; noted = noted }) (append_assoc kept bytes (concat reads))

frame_noted : (frame : List ℕ) → IsFrame frame → messages_of (Some frame) ≡ Some frame ∷ []
frame_noted frame is =
    rw (frame_is_one frame is, le-leb (length frame) 8192 (frame_is_short frame is)) refl

frame_heard : (frame rest : List ℕ) (noted : List (Option (List ℕ))) → IsFrame frame
    → after_hearing (record { kept = Some (frame ++ rest); noted = noted }) (length rest)
    ≡ record { kept = Some rest; noted = noted ++ Some frame ∷ [] }
frame_heard frame rest noted is =
    let front : length (frame ++ rest) - length rest ≡ length frame = omega (arith, length-append frame rest) in
    rw (front, take-append_seam frame rest, drop-append_seam frame rest)
    (ap (λ (m : List (Option (List ℕ))). record { kept = Some rest; noted = noted ++ m }) (frame_noted frame is))

-- a frame that is heard once it was read in any pieces is noted with all its bytes, and what follows it is kept
pub frame_read_heard : (kept frame rest : List ℕ) (reads : List (List ℕ)) (noted : List (Option (List ℕ)))
    → IsFrame frame → kept ++ concat reads ≡ frame ++ rest → length (frame ++ rest) ≤ 16384
    → after_hearing (after_reads (record { kept = Some kept; noted = noted }) reads) (length rest)
    ≡ record { kept = Some rest; noted = noted ++ Some frame ∷ [] }
frame_read_heard kept frame rest reads noted is all fits =
    ap (λ (way : WayParts). after_hearing way (length rest))
    (reads_kept kept noted reads (omega (arith, fits, ap length all, length-append kept (concat reads)))
    ∙ ap (λ (k : List ℕ). record { kept = Some k; noted = noted }) all)
    ∙ frame_heard frame rest noted is
