-- A message that is read byte by byte.
use Rattle.std.proofs.Common.{◌≡◌, ℕ, ◌+◌, ◌<◌, List, [], ◌∷◌, ◌++◌, length, drop, get_or, Result, Ok, Err, refl, sym, ap, ◌∙◌, append_assoc}
use Rattle.std.proofs.lemmas.List.{drop_more}
use Rattle.log_text.specs.Message.{behind, read_on, step, stepped}
use Rattle.log_text.specs.declared.fault.LineFault.{LineFault}
use Rattle.log_text.specs.declared.step.Escape.{Escape}
use Rattle.log_text.specs.declared.step.Escape.TheVariants.{Closed}
use Rattle.log_text.specs.declared.step.Step.TheVariants.{Byte, Open}

-- bytes before bytes
behind_twice : (a b : List ℕ) (r : Result (List ℕ) LineFault) → behind a (behind b r) ≡ behind (a ++ b) r
behind_twice a b (Ok rest) = ap Ok (sym (append_assoc a b rest))
behind_twice a b (Err fault) = refl

-- what is left begins with the next byte
next_read : (i : ℕ) (text before : List ℕ) (escape : Escape) (whole : Result (List ℕ) LineFault) → i < length text
    → whole ≡ behind before (read_on (drop i text) escape)
    → whole ≡ behind before (stepped (read_on (drop (i + 1) text)) (step escape (get_or text i 0)))
next_read i text before escape whole within so_far =
    so_far ∙ ap (λ rest. behind before (read_on rest escape)) (drop_more text i 0 within)

-- one more byte of the message is read
pub byte_read : (i byte : ℕ) (text before after : List ℕ) (escape : Escape) (whole : Result (List ℕ) LineFault)
    → i < length text
    → whole ≡ behind before (read_on (drop i text) escape)
    → step escape (get_or text i 0) ≡ Ok (Byte byte)
    → after ≡ before ++ byte ∷ []
    → whole ≡ behind after (read_on (drop (i + 1) text) Closed)
byte_read i byte text before after escape whole within so_far gives grew =
    let later = read_on (drop (i + 1) text) in
    next_read i text before escape whole within so_far
    ∙ ap (λ s. behind before (stepped later s)) gives
    ∙ behind_twice before (byte ∷ []) (later Closed)
    ∙ ap (λ front. behind front (later Closed)) (sym grew)

-- more of an escape is read
pub escape_read : (i : ℕ) (text before : List ℕ) (escape further : Escape) (whole : Result (List ℕ) LineFault)
    → i < length text
    → whole ≡ behind before (read_on (drop i text) escape)
    → step escape (get_or text i 0) ≡ Ok (Open further)
    → whole ≡ behind before (read_on (drop (i + 1) text) further)
escape_read i text before escape further whole within so_far gives =
    next_read i text before escape whole within so_far
    ∙ ap (λ s. behind before (stepped (read_on (drop (i + 1) text)) s)) gives

-- a byte is at fault
pub fault_read : (i : ℕ) (text before : List ℕ) (escape : Escape) (fault : LineFault) (whole : Result (List ℕ) LineFault)
    → i < length text
    → whole ≡ behind before (read_on (drop i text) escape)
    → step escape (get_or text i 0) ≡ Err fault
    → whole ≡ Err fault
fault_read i text before escape fault whole within so_far gives =
    next_read i text before escape whole within so_far
    ∙ ap (λ s. behind before (stepped (read_on (drop (i + 1) text)) s)) gives
