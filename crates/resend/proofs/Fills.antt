-- What a resend request is answered with, case by case.
use Rattle.std.proofs.Common.{◌≡◌, ◌≢◌, ◌<◌, ◌≤◌, ◌+◌, ◌==◌, ◌&&◌, min, ℕ, Bool, true, false, nat_le, List, length, Some, None, inl, inr, refl, if◌then◌else◌, arith}
use Rattle.std.proofs.lemmas.Bool.{cases_lt, eq-eqb}
use Rattle.std.proofs.lemmas.Bool.Decides.{nat_tests}
use Rattle.fix_tags.specs.Range.{range_end, is_range}
use Rattle.resend.specs.Log.{Entry, fill_for}

no_and : (b : Bool) → (b && false) ≡ false
no_and true = refl
no_and false = refl

pub asks_to_the_end : (sent last : ℕ) → last ≡ 0 → sent ≡ range_end sent last
asks_to_the_end sent last none = let open_end : (last == 0) ≡ true = eq-eqb last 0 none in rw open_end refl

pub asks_to_a_number : (sent last : ℕ) → last ≢ 0 → min sent last ≡ range_end sent last
asks_to_a_number sent last some = let given : (last == 0) ≡ false = grind (arith, nat_tests) in rw given refl

-- numbers that begin above where they end are no range of numbers sent
unsent : (sent begin last : ℕ) → sent < begin → is_range sent begin last ≡ false
unsent sent begin last lt =
    let out : nat_le begin sent ≡ false = grind (arith, nat_tests) in rw (out, no_and (nat_le 1 begin)) refl

backwards : (sent begin last : ℕ) → last ≢ 0 → last < begin → is_range sent begin last ≡ false
backwards sent begin last some lt =
    let out : nat_le begin last ≡ false = grind (arith, nat_tests) in
    let given : (last == 0) ≡ false = grind (arith, nat_tests) in
    rw (given, out) (no_and (nat_le 1 begin && nat_le begin sent))

no_range : (b : Bool) (sent begin last : ℕ) → (last == 0) ≡ b → (if b then sent else min sent last) < begin → is_range sent begin last ≡ false
no_range true sent begin last is lt = unsent sent begin last lt
no_range false sent begin last is lt = elim (cases_lt sent begin) [
  | inl below ↦ unsent sent begin last below
  | inr above ↦ backwards sent begin last (grind (arith, nat_tests, is)) (omega arith)
]

a_range : (b : Bool) (sent begin last : ℕ) → (last == 0) ≡ b → begin ≢ 0 → begin ≤ (if b then sent else min sent last) → is_range sent begin last ≡ true
a_range true sent begin last is some le =
    let first : nat_le 1 begin ≡ true = grind (arith, nat_tests) in
    let was_sent : nat_le begin sent ≡ true = grind (arith, nat_tests) in
    rw (first, was_sent, is) refl
a_range false sent begin last is some le =
    let first : nat_le 1 begin ≡ true = grind (arith, nat_tests) in
    let was_sent : nat_le begin sent ≡ true = (let under : begin ≤ sent = omega arith in grind (arith, nat_tests)) in
    let forward : nat_le begin last ≡ true = (let under : begin ≤ last = omega arith in grind (arith, nat_tests)) in
    rw (first, was_sent, is, forward) refl

module _ (begin last top sent asked : ℕ) (log : List Entry) (long : length log ≡ sent) (end : asked ≡ range_end sent last) where
  pub fill-low : begin ≡ 0 → fill_for begin last top log ≡ None
  fill-low zero = let out : nat_le 1 begin ≡ false = grind (arith, nat_tests) in rw out refl

  pub fill-unasked : asked < begin → fill_for begin last top log ≡ None
  fill-unasked lt = let out = no_range (last == 0) sent begin last refl (omega (arith, end)) in rw (long, out) refl

  pub fill-above : top < begin → fill_for begin last top log ≡ None
  fill-above lt =
      let out : nat_le begin top ≡ false = grind (arith, nat_tests) in
      rw (out, no_and (is_range (length log) begin last)) refl

  pub fill-range : begin ≢ 0 → begin ≤ asked → begin ≤ top → fill_for begin last top log ≡ Some (record { first = begin; new_number = min top asked + 1 })
  fill-range some low below =
      let first : nat_le 1 begin ≡ true = grind (arith, nat_tests) in
      let under : nat_le begin top ≡ true = grind (arith, nat_tests) in
      let range = a_range (last == 0) sent begin last refl some (omega (arith, end)) in
      rw (long, range, under, end) refl
