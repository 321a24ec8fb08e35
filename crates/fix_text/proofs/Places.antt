-- Where the parts of a frame lie in the bytes that it was read from.
use Rattle.std.proofs.Common.{◌≡◌, ℕ, ◌+◌, ◌-◌, ◌<◌, ◌≤◌, List, [], ◌∷◌, ◌++◌, length, take, drop, Ok, sym, ap, ◌∙◌, arith, append_assoc}
use Rattle.std.specs.Prelude.{slice_range}
use Rattle.std.proofs.lemmas.List.{length-append, length-take-le, take_at, drop_at, take-append-drop}
use Rattle.fix_text.specs.Grammar.{header_of, trailer_of}
use Rattle.fix_text.specs.Reading.{RawFrameParts, frame_at}
use Rattle.fix_text.proofs.Readers.{frame_takes}

-- a part of a list, by what stands before it and behind it
pub part_found : (bytes front part back : List ℕ) (start end : ℕ) → bytes ≡ front ++ (part ++ back) → start ≡ length front → end ≡ start + length part → slice_range bytes start end ≡ part
part_found bytes front part back start end parted s e =
    let dropped : drop start bytes ≡ part ++ back = ap (drop start) parted ∙ drop_at front (part ++ back) start (sym s) in
    ap (take (end - start)) dropped ∙ take_at part back (end - start) (omega arith)

-- a frame at a place of some bytes
pub record LiesAt (bytes : List ℕ) (at : ℕ) (whole : RawFrameParts) : Type 0 where
  pub front : List ℕ
  pub front_len : at + length whole.before ≡ length front + length whole.body
  pub body_len : length whole.body ≤ length whole.before
  pub body_short : length whole.body ≤ 4096
  pub trailer : List ℕ
  pub trailer_len : 0 < length trailer
  pub trailer_short : length trailer ≤ 7
  pub parts : bytes ≡ front ++ (whole.body ++ (trailer ++ whole.rest))

pub lies_at : (bytes : List ℕ) (at : ℕ) (whole : RawFrameParts) → at ≤ length bytes → Ok whole ≡ frame_at (drop at bytes) → LiesAt bytes at whole
lies_at bytes at whole within is =
    let t = frame_takes (drop at bytes) whole (sym is) in
    let header : List ℕ = header_of t.1.digits in
    let trailer : List ℕ = trailer_of t.1.check in
    let inner : t.0 ++ whole.rest ≡ header ++ (whole.body ++ (trailer ++ whole.rest)) = ap (λ (x : List ℕ). x ++ whole.rest) t.1.text_is ∙ append_assoc (header ++ whole.body) trailer whole.rest ∙ append_assoc header whole.body (trailer ++ whole.rest) in
    record {
      front = take at bytes ++ header;
      front_len = omega (arith, length-append (take at bytes) header, length-take-le at bytes within, ap length t.1.before_is, length-append header whole.body);
      body_len = omega (arith, ap length t.1.before_is, length-append header whole.body);
      body_short = t.1.is_length.bound;
      trailer = trailer;
      trailer_len = omega arith;
      trailer_short = omega (arith, t.1.is_check.three, length-append t.1.check (1 ∷ []));
      parts = sym (take-append-drop at bytes) ∙ ap (λ (x : List ℕ). take at bytes ++ x) (t.2 ∙ inner) ∙ sym (append_assoc (take at bytes) header (whole.body ++ (trailer ++ whole.rest)));
    }

pub lies_length : (bytes : List ℕ) (at : ℕ) (whole : RawFrameParts) (lies : LiesAt bytes at whole) → length bytes ≡ (at + length whole.before) + (length lies.trailer + length whole.rest)
lies_length bytes at whole lies = omega (arith, lies.front_len, ap length lies.parts, length-append lies.front (whole.body ++ (lies.trailer ++ whole.rest)), length-append whole.body (lies.trailer ++ whole.rest), length-append lies.trailer whole.rest)

-- the body, by the lengths of what was found
pub body_found : (bytes : List ℕ) (at : ℕ) (whole : RawFrameParts) → LiesAt bytes at whole → slice_range bytes (at + length whole.before - length whole.body) (at + length whole.before) ≡ whole.body
body_found bytes at whole lies =
    part_found bytes lies.front whole.body (lies.trailer ++ whole.rest) _ _ lies.parts (omega (arith, lies.front_len)) (omega (arith, lies.front_len, lies.body_len))

-- and what follows the frame
pub rest_found : (bytes : List ℕ) (at : ℕ) (whole : RawFrameParts) → LiesAt bytes at whole → drop (length bytes - length whole.rest) bytes ≡ whole.rest
rest_found bytes at whole lies =
    let front : List ℕ = lies.front ++ (whole.body ++ lies.trailer) in
    let parted : bytes ≡ front ++ whole.rest = lies.parts ∙ ap (λ (x : List ℕ). lies.front ++ x) (sym (append_assoc whole.body lies.trailer whole.rest)) ∙ sym (append_assoc lies.front (whole.body ++ lies.trailer) whole.rest) in
    ap (drop (length bytes - length whole.rest)) parted ∙ drop_at front whole.rest (length bytes - length whole.rest) (omega (arith, ap length parted, length-append front whole.rest))
