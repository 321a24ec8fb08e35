use Rattle.std.proofs.Common.{◌≡◌, ◌≤◌, ◌++◌, ◌||◌, arith, length, ℕ, Bool, true, false, List, drop, nat_eq, codes, refl, sym, ap, ◌∙◌}
use Rattle.std.specs.List.{slice_range, starts_with}
use Rattle.std.proofs.lemmas.List.{append-nil, drop_all}
use Rattle.std.proofs.lemmas.List.Folds.{drop_split}
use Rattle.day_restart.specs.Redoing.{is_of_leg}
use Rattle.day_restart.proofs.restored.is_of_leg.Goals as goal
use Rattle.day_restart.proofs.restored.is_of_leg.Goals.{then-starts_with, else-starts_with}

behind_head : (line words : List ℕ) → 22 ≤ length line → words ≡ slice_range line 22 (length line)
    → words ≡ drop 22 line
behind_head line words within is =
    is ∙ sym (drop_split line 22 (length line) within
    ∙ (ap (λ l. slice_range line 22 (length line) ++ l) (drop_all (length line) line (omega arith))
    ∙ append-nil (slice_range line 22 (length line))))

legs_are : (line words : List ℕ) (a b c : Bool) → words ≡ drop 22 line → a ≡ starts_with nat_eq words (codes "send ")
    → b ≡ starts_with nat_eq words (codes "drop ") → c ≡ starts_with nat_eq words (codes "fail ")
    → is_of_leg line ≡ a || b || c
legs_are line words a b c is first second third =
    ap (λ w. starts_with nat_eq w (codes "send ") || starts_with nat_eq w (codes "drop ")
    || starts_with nat_eq w (codes "fail ")) (sym is)
    ∙ (ap (λ x. x || starts_with nat_eq words (codes "drop ") || starts_with nat_eq words (codes "fail ")) (sym first)
    ∙ (ap (λ x. a || x || starts_with nat_eq words (codes "fail ")) (sym second) ∙ ap (λ x. a || b || x) (sym third)))

first_leg : (line words : List ℕ) (v : Bool) → words ≡ drop 22 line → v ≡ starts_with nat_eq words (codes "send ")
    → v ≡ true → v ≡ is_of_leg line
first_leg line words v is first on =
    on ∙ sym (legs_are line words true (starts_with nat_eq words (codes "drop ")) (starts_with nat_eq words (codes "fail "))
    is (sym on ∙ first) refl refl)

second_leg : (line words : List ℕ) (v : Bool) → words ≡ drop 22 line → false ≡ starts_with nat_eq words (codes "send ")
    → v ≡ starts_with nat_eq words (codes "drop ") → v ≡ true → v ≡ is_of_leg line
second_leg line words v is off second on =
    on ∙ sym (legs_are line words false true (starts_with nat_eq words (codes "fail ")) is off (sym on ∙ second) refl)

third_leg : (line words : List ℕ) (v : Bool) → words ≡ drop 22 line → false ≡ starts_with nat_eq words (codes "send ")
    → false ≡ starts_with nat_eq words (codes "drop ") → v ≡ starts_with nat_eq words (codes "fail ")
    → v ≡ is_of_leg line
third_leg line words v is off second third = sym (legs_are line words false false v is off second third)

pub returns-then-starts_with-2 : goal.returns-then-starts_with-2
returns-then-starts_with-2 c =
    let words = behind_head c.args.line.now c.in-Some.words.now c.in-Some.ensures.lookup.0.0
    c.in-Some.ensures.lookup.0.2 in
    elim c.if-starts_with.branch [
      | then-starts_with w ↦ first_leg c.args.line.now c.in-Some.words.now c.if-starts_with.value words
          (w.value-is ∙ c.starts_with.ensures.value) c.if-starts_with-2.true
      | else-starts_with w ↦ second_leg c.args.line.now c.in-Some.words.now c.if-starts_with.value words
          (sym w.if-starts_with.false ∙ c.starts_with.ensures.value)
          (w.value-is ∙ w.starts_with-else-starts_with.ensures.value) c.if-starts_with-2.true
    ]

pub returns-else-starts_with-2 : goal.returns-else-starts_with-2
returns-else-starts_with-2 c =
    let words = behind_head c.args.line.now c.in-Some.words.now c.in-Some.ensures.lookup.0.0
    c.in-Some.ensures.lookup.0.2 in
    elim c.if-starts_with.branch [
      | then-starts_with w ↦ let on = w.if-starts_with.true in let same = w.value-is in let off = c.if-starts_with-2.false in
          absurd cc
      | else-starts_with w ↦ third_leg c.args.line.now c.in-Some.words.now c.starts_with-else-starts_with-2.result words
          (sym w.if-starts_with.false ∙ c.starts_with.ensures.value)
          (sym c.if-starts_with-2.false ∙ (w.value-is ∙ w.starts_with-else-starts_with.ensures.value))
          c.starts_with-else-starts_with-2.ensures.value
    ]
