-- A frame ends where its own BodyLength has it.
use Rattle.std.proofs.Common.{◌≡◌, ◌≤◌, [], ℕ, ◌+◌, true, List, ◌∷◌, ◌++◌, length, Ok, ap, ◌∙◌, arith, append_assoc}
use Rattle.std.proofs.lemmas.Bool.{eq-eqb}
use Rattle.std.proofs.lemmas.List.{length-append}
use Rattle.fix_text.specs.Grammar.{IsFrame, opening, trailer_of}
use Rattle.fix_text.specs.Reading.{length_at}
use Rattle.fix_text.proofs.Readers.{length_again}
use Rattle.day_log.specs.Messages.{is_one_frame}

-- a header, and as many bytes as it says
ends_there : (digits rest : List ℕ) (size : ℕ) → length_at 6 0 (digits ++ 1 ∷ rest) ≡ Ok (size, rest)
    → length rest ≡ size + 7 → is_one_frame (opening ++ (digits ++ 1 ∷ rest)) ≡ true
ends_there digits rest size read long =
    rw read (eq-eqb _ _ (omega (arith, long, length-append digits (1 ∷ rest))))

pub frame_is_one : (bytes : List ℕ) → IsFrame bytes → is_one_frame bytes ≡ true
frame_is_one bytes frame =
    let rest = frame.body ++ trailer_of frame.check in
    let is : bytes ≡ opening ++ (frame.digits ++ 1 ∷ rest) =
    frame.bytes_are
    ∙ append_assoc (opening ++ (frame.digits ++ 1 ∷ [])) frame.body (trailer_of frame.check)
    ∙ append_assoc opening (frame.digits ++ 1 ∷ []) rest
    ∙ ap (λ (l : List ℕ). opening ++ l) (append_assoc frame.digits (1 ∷ []) rest) in
    let read = length_again 6 0 (length frame.body) frame.digits rest (record {
      few = frame.length_is.few;
      each = frame.length_is.each;
      value = frame.length_is.value;
      positive = frame.length_is.positive;
      bound = frame.length_is.bound;
    }) in
    let long : length rest ≡ length frame.body + 7 =
    omega (arith, length-append frame.body (trailer_of frame.check), length-append frame.check (1 ∷ []), frame.check_is.three) in
    ap is_one_frame is ∙ ends_there frame.digits rest (length frame.body) read long

-- no frame is too long to be noted
pub frame_is_short : (bytes : List ℕ) → IsFrame bytes → length bytes ≤ 8192
frame_is_short bytes frame =
    omega (
      arith,
      ap length frame.bytes_are,
      length-append (opening ++ (frame.digits ++ 1 ∷ []) ++ frame.body) (trailer_of frame.check),
      length-append (opening ++ (frame.digits ++ 1 ∷ [])) frame.body,
      length-append opening (frame.digits ++ 1 ∷ []),
      length-append frame.digits (1 ∷ []),
      length-append frame.check (1 ∷ []),
      frame.check_is.three,
      frame.length_is.few,
      frame.length_is.bound,
    )
