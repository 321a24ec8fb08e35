-- What was read of a stream stays read when more bytes come, and no other reading is there.
use Rattle.std.proofs.Common.{◌≡◌, ℕ, zero, suc, ◌+◌, zero-add, List, [], ◌∷◌, ◌++◌, Result, Err, refl, sym, ap, subst, ◌∙◌, arith, append_assoc, inl, inr, ◌⊎◌}
use Rattle.fix_text.specs.declared.parse.NoFrame.{NoFrame}
use Rattle.fix_text.specs.declared.parse.NoFrame.TheVariants.{Short, Differs}
use Rattle.fix_text.specs.Tagged.{Tagged}
use Rattle.fix_text.specs.Grammar.{IsValidFrame, Pass, Given, Garbled, Skipped, Takes, Passes, given_of, garbled_of, skipped_of}
use Rattle.fix_text.specs.Reading.{Stream, frame_at, one_more}
use Rattle.fix_text.specs.Calls.{AreFirst}
use Rattle.fix_text.specs.Deciding.{counted}
use Rattle.fix_text.proofs.Prefixes.{ok_differs}
use Rattle.fix_text.proofs.FramePrefixes.{frame_stays}
use Rattle.fix_text.proofs.FrameTexts.{place_decided, begins_read, beginning_read, valid_unique, valid_frame, frame_unique}
use Rattle.fix_text.proofs.NextFrames.{differs_read}

-- ---- more bytes

pub takes_more : (pass : Pass) (bytes rest more : List ℕ) → Takes pass bytes rest → Takes pass (bytes ++ more) (rest ++ more)
takes_more (Given text fields) bytes rest more t = (ap (λ (x : List ℕ). x ++ more) t.0 ∙ append_assoc text rest more, t.1)
takes_more (Garbled text) bytes rest more t = (ap (λ (x : List ℕ). x ++ more) t.0 ∙ append_assoc text rest more, t.1, t.2)
takes_more (Skipped byte) bytes rest more t =
    let is = frame_stays bytes more (differs_read bytes (frame_at bytes) refl t.1 t.2 (place_decided bytes)) in
    (ap (λ (x : List ℕ). x ++ more) t.0, λ b. let read = begins_read (bytes ++ more) b in ok_differs read.0 Differs (sym read.1 ∙ is), λ b. short_is_not (sym is ∙ beginning_read (bytes ++ more) b)) where
      short_is_not : {A : Type 0} → ◌≡◌ {A = Result A NoFrame} (Err Differs) (Err Short) → ⊥
      short_is_not e = cc

-- what was passed stays passed
pub passes_more : (passes : List Pass) (bytes rest more : List ℕ) → Passes passes bytes rest → Passes passes (bytes ++ more) (rest ++ more)
passes_more [] bytes rest more p = ap (λ (x : List ℕ). x ++ more) p
passes_more (pass ∷ passes) bytes rest more p = (p.0 ++ more, takes_more pass bytes p.0 more p.1, passes_more passes p.0 rest more p.2)

-- ---- one after the other

pub passes-append : (first second : List Pass) (bytes middle rest : List ℕ) → Passes first bytes middle → Passes second middle rest → Passes (first ++ second) bytes rest
passes-append [] second bytes middle rest p q = subst (λ (b : List ℕ). Passes second b rest) (sym p) q
passes-append (pass ∷ first) second bytes middle rest p q = (p.0, p.1, passes-append first second p.0 middle rest p.2 q)

pub given_of-append : (first second : List Pass) → given_of (first ++ second) ≡ given_of first ++ given_of second
given_of-append [] second = refl
given_of-append (Given text fields ∷ first) second = ap (λ (g : List (List Tagged)). fields ∷ g) (given_of-append first second)
given_of-append (Garbled text ∷ first) second = given_of-append first second
given_of-append (Skipped byte ∷ first) second = given_of-append first second

pub skipped_of-append : (first second : List Pass) → skipped_of (first ++ second) ≡ skipped_of first + skipped_of second
skipped_of-append [] second = omega arith
skipped_of-append (Given text fields ∷ first) second = skipped_of-append first second
skipped_of-append (Garbled text ∷ first) second = skipped_of-append first second
skipped_of-append (Skipped byte ∷ first) second = omega (arith, skipped_of-append first second)

pub garbled_of-append : (first second : List Pass) → garbled_of (first ++ second) ≡ garbled_of first + garbled_of second
garbled_of-append [] second = omega arith
garbled_of-append (Given text fields ∷ first) second = garbled_of-append first second
garbled_of-append (Garbled text ∷ first) second = omega (arith, garbled_of-append first second)
garbled_of-append (Skipped byte ∷ first) second = garbled_of-append first second

pub counted-add : (n a b : ℕ) → counted n (a + b) ≡ counted (counted n a) b
counted-add n zero b = ap (counted n) (zero-add b)
counted-add n (suc a) b = ap (counted n) (suc_out a b) ∙ counted-add (one_more n) a b where
  suc_out : (x y : ℕ) → suc x + y ≡ suc (x + y)
  suc_out x y = omega arith

-- ---- one reading

given_is : (a b : List ℕ) (x y : List Tagged) → a ≡ b → x ≡ y → Given a x ≡ Given b y
given_is a b x y p q = cc

-- what is passed at a place is determined, and so is what is left
pub takes_unique : (p q : Pass) (bytes a b : List ℕ) → Takes p bytes a → Takes q bytes b → (p ≡ q) × (a ≡ b)
takes_unique (Given s x) (Given t y) bytes a b h k =
    let same = frame_unique s t a b (valid_frame s x h.1) (valid_frame t y k.1) (sym h.0 ∙ k.0) in
    (given_is s t x y same.0 (valid_unique t x y (subst (λ (u : List ℕ). IsValidFrame u x) same.0 h.1) k.1), same.1)
takes_unique (Given s x) (Garbled t) bytes a b h k =
    let same = frame_unique s t a b (valid_frame s x h.1) k.1 (sym h.0 ∙ k.0) in
    absurd (k.2 x (subst (λ (u : List ℕ). IsValidFrame u x) same.0 h.1))
takes_unique (Given s x) (Skipped d) bytes a b h k = absurd (k.1 (record { frame = s; rest = a; parts = h.0; is_frame = valid_frame s x h.1 }))
takes_unique (Garbled s) (Given t y) bytes a b h k =
    let same = frame_unique s t a b h.1 (valid_frame t y k.1) (sym h.0 ∙ k.0) in
    absurd (h.2 y (subst (λ (u : List ℕ). IsValidFrame u y) (sym same.0) k.1))
takes_unique (Garbled s) (Garbled t) bytes a b h k =
    let same = frame_unique s t a b h.1 k.1 (sym h.0 ∙ k.0) in
    (ap Garbled same.0, same.1)
takes_unique (Garbled s) (Skipped d) bytes a b h k = absurd (k.1 (record { frame = s; rest = a; parts = h.0; is_frame = h.1 }))
takes_unique (Skipped c) (Given t y) bytes a b h k = absurd (h.1 (record { frame = t; rest = b; parts = k.0; is_frame = valid_frame t y k.1 }))
takes_unique (Skipped c) (Garbled t) bytes a b h k = absurd (h.1 (record { frame = t; rest = b; parts = k.0; is_frame = k.1 }))
takes_unique (Skipped c) (Skipped d) bytes a b h k =
    let same : c ∷ a ≡ d ∷ b = sym h.0 ∙ k.0 in
    (cc, cc)

-- of two readings of one stream one is the beginning of the other
pub one_reading : (p q : List Pass) (bytes a b : List ℕ) → Passes p bytes a → Passes q bytes b
    → ((more : List Pass) × (p ++ more ≡ q) × Passes more a b) ⊎ ((more : List Pass) × (q ++ more ≡ p) × Passes more b a)
one_reading [] q bytes a b h k = inl (q, refl, subst (λ (x : List ℕ). Passes q x b) h k)
one_reading (x ∷ p) [] bytes a b h k = inr (x ∷ p, refl, subst (λ (y : List ℕ). Passes (x ∷ p) y a) k h)
one_reading (x ∷ p) (y ∷ q) bytes a b h k =
    let same = takes_unique x y bytes h.0 k.0 h.1 k.1 in
    elim (one_reading p q h.0 a b h.2 (subst (λ (t : List ℕ). Passes q t b) (sym same.1) k.2)) [
      | inl front ↦ inl (front.0, (ap (λ (t : List Pass). x ∷ t) front.1 ∙ ap (λ (t : Pass). t ∷ q) same.0), front.2)
      | inr back ↦ inr (back.0, (ap (λ (t : List Pass). y ∷ t) back.1 ∙ ap (λ (t : Pass). t ∷ p) (sym same.0)), back.2)
    ]

-- the frames that are the first of a stream are determined, but for how many
pub first_determined : (bytes : List ℕ) (a b : List (List Tagged)) (s t : Stream) → AreFirst bytes a s → AreFirst bytes b t
    → ((more : List (List Tagged)) × (a ++ more ≡ b)) ⊎ ((more : List (List Tagged)) × (b ++ more ≡ a))
first_determined bytes a b s t f g =
    elim (one_reading f.passes g.passes bytes s.rest t.rest f.passed g.passed) [
      | inl front ↦ inl (given_of front.0, ap (λ (x : List (List Tagged)). x ++ given_of front.0) (sym f.given) ∙ sym (given_of-append f.passes front.0) ∙ ap given_of front.1 ∙ g.given)
      | inr back ↦ inr (given_of back.0, ap (λ (x : List (List Tagged)). x ++ given_of back.0) (sym g.given) ∙ sym (given_of-append g.passes back.0) ∙ ap given_of back.1 ∙ f.given)
    ]
