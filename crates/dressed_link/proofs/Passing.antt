-- What goes over the link below a dressed one: each step keeps it the dressing of what was taken.
use Rattle.std.proofs.Common.{◌≡◌, ◌≤◌, ◌+◌, ℕ, min, arith, Bool, true, false, List, [], ◌∷◌, ◌++◌, length, take, drop, Option, Some, None, refl, sym, ap, ap₂, subst, ◌∙◌, append_assoc}
use Rattle.std.specs.List.{All, flat_map}
use Rattle.std.proofs.lemmas.Grind.{flat_map-append}
use Rattle.std.proofs.lemmas.List.{append-nil, take-append-drop}
use Rattle.std.proofs.lemmas.List.Elements.{All-nil, All-push}
use Rattle.fix_text.specs.Tagged.{Tagged}
use Rattle.fix_text.specs.Grammar.{IsValidFrame}
use Rattle.fix_tags.specs.Dress.{Dress}
use Rattle.link.specs.Traffic.{Traffic, Tells, Dials, Takes, GivesBytes, Gives, Stays}
use Rattle.link.specs.declared.got.Got.{Got}
use Rattle.link.specs.declared.got.Got.TheVariants.{Bytes, Nothing, End}
use Rattle.link.proofs.Taking.{tells_more}
use Rattle.link.specs.Told.{begun, is_begun, with_written, with_read}
use Rattle.dressed_link.specs.Dressing.{dressed_frame}
use Rattle.dressed_link.specs.Passing.{Taken, IsTaken, IsDressing, IsPassed, WasPassed, WerePassed, ArePassed, Passes, TellsOn, told_over}

-- no frame, and nothing of it
none_dressed : (d : Dress) → IsDressing d [] []
none_dressed d = record { frames = []; valid = All-nil IsTaken; bytes_are = refl; dressed_are = refl }

-- one frame more
one_more_dressed : (d : Dress) (bytes dressed text : List ℕ) (fields : List Tagged) → IsDressing d bytes dressed
    → IsValidFrame text fields → IsDressing d (bytes ++ text) (dressed ++ dressed_frame d fields)
one_more_dressed d bytes dressed text fields so_far valid =
    let taken : Taken = record { text = text; fields = fields } in
    let texts = flat_map-append (λ (frame : Taken). frame.text) so_far.frames (taken ∷ []) in
    let put = flat_map-append (λ (frame : Taken). dressed_frame d frame.fields) so_far.frames (taken ∷ []) in
    record {
      frames = so_far.frames ++ taken ∷ [];
      valid = All-push IsTaken so_far.frames taken so_far.valid valid;
      bytes_are = ap₂ (λ xs ys. xs ++ ys) so_far.bytes_are (sym (append-nil text)) ∙ sym texts;
      dressed_are = ap₂ (λ xs ys. xs ++ ys) so_far.dressed_are (sym (append-nil (dressed_frame d fields))) ∙ sym put;
    }

-- ---- the connections

ended : (d : Dress) (up : Bool) (pending : List ℕ) (tolds belows : List Traffic) → ArePassed d up pending tolds belows
    → WerePassed d tolds belows
ended d false pending tolds belows are = are.1
ended d true pending [] belows are = absurd are
ended d true pending (told ∷ tolds) [] are = absurd are
ended d true pending (told ∷ tolds) (below ∷ belows) are = ((pending, are.0), are.1)

pub broke : (d : Dress) (up : Bool) (pending left : List ℕ) (tolds : List Traffic) (w v : Option (List Traffic))
    → Passes d up pending tolds w → left ≡ [] → Tells w v Stays → Passes d false left tolds v
broke d up pending left tolds None None passes none tells = tt
broke d up pending left tolds None (Some v) passes none tells = absurd tells
broke d up pending left tolds (Some w) None passes none tells = absurd tells
broke d up pending left tolds (Some w) (Some v) passes none tells =
    (none, subst (WerePassed d tolds) (sym tells) (ended d up pending tolds w passes))

pub began : (d : Dress) (up : Bool) (pending left : List ℕ) (tolds : List Traffic) (w v : Option (List Traffic))
    → Passes d up pending tolds w → left ≡ [] → Tells w v Dials → Passes d true left (begun tolds) v
began d up pending left tolds None None passes none tells = tt
began d up pending left tolds None (Some v) passes none tells = absurd tells
began d up pending left tolds (Some w) None passes none tells = absurd tells
began d up pending left tolds (Some w) (Some v) passes none tells =
    subst (ArePassed d true left (begun tolds)) (sym tells)
    (record { written = subst (IsDressing d []) (sym none) (none_dressed d); read = refl }, ended d up pending tolds w passes)

-- the link below took the first of what was pending
moved : (d : Dress) (told : Traffic) (written read gone left pending : List ℕ) → pending ≡ gone ++ left
    → IsPassed d told (record { written = written; read = read }) pending
    → IsPassed d told (record { written = written ++ gone; read = read }) left
moved d told written read gone left pending parts passed = record {
  written = subst (IsDressing d told.written)
      (ap (λ l. written ++ l) parts ∙ sym (append_assoc written gone left)) passed.written;
  read = passed.read;
}

nothing_gone : (gone left pending : List ℕ) → pending ≡ gone ++ left → pending ≡ [] → (gone ≡ []) × (left ≡ [])
nothing_gone [] left pending parts none = (refl, sym parts ∙ none)
nothing_gone (c ∷ gone) left pending parts none = absurd (cons_not_nil (sym parts ∙ none)) where
  cons_not_nil : c ∷ (gone ++ left) ≡ [] → ⊥
  cons_not_nil is = cc

taken_nothing : (belows v : List Traffic) (gone : List ℕ) → gone ≡ [] → Takes gone belows v → v ≡ belows
taken_nothing [] v gone none takes = takes.1
taken_nothing (below ∷ belows) v gone none takes =
    takes ∙ ap (λ l. record { written = l; read = below.read } ∷ belows)
    (ap (λ l. below.written ++ l) none ∙ append-nil below.written)

flushed_last : (d : Dress) (up : Bool) (pending gone left : List ℕ) (tolds w v : List Traffic)
    → ArePassed d up pending tolds w → pending ≡ gone ++ left → Takes gone w v → ArePassed d up left tolds v
flushed_last d false pending gone left tolds w v are parts takes =
    let none = nothing_gone gone left pending parts are.0 in
    (none.1, subst (WerePassed d tolds) (sym (taken_nothing w v gone none.0 takes)) are.1)
flushed_last d true pending gone left [] w v are parts takes = absurd are
flushed_last d true pending gone left (told ∷ tolds) [] v are parts takes = absurd are
flushed_last d true pending gone left (told ∷ tolds) (below ∷ belows) v are parts takes =
    subst (ArePassed d true left (told ∷ tolds)) (sym takes)
    (moved d told below.written below.read gone left pending parts are.0, are.1)

pub flushed : (d : Dress) (up : Bool) (pending gone left : List ℕ) (tolds : List Traffic) (w v : Option (List Traffic))
    → Passes d up pending tolds w → pending ≡ gone ++ left → Tells w v (Takes gone) → Passes d up left tolds v
flushed d up pending gone left tolds None None passes parts tells = tt
flushed d up pending gone left tolds None (Some v) passes parts tells = absurd tells
flushed d up pending gone left tolds (Some w) None passes parts tells = absurd tells
flushed d up pending gone left tolds (Some w) (Some v) passes parts tells =
    flushed_last d up pending gone left tolds w v passes parts tells

-- a frame was taken, and its dressed text is pending behind what was
pub took : (d : Dress) (up : Bool) (pending now text : List ℕ) (fields : List Tagged) (tolds : List Traffic)
    (w : Option (List Traffic)) → up ≡ true → Passes d up pending tolds w → IsValidFrame text fields
    → now ≡ pending ++ dressed_frame d fields → Passes d up now (with_written text tolds) w
took d up pending now text fields tolds None is passes valid pushed = tt
took d false pending now text fields tolds (Some w) is passes valid pushed = cc
took d true pending now text fields [] (Some w) is passes valid pushed = absurd passes
took d true pending now text fields (told ∷ tolds) (Some []) is passes valid pushed = absurd passes
took d true pending now text fields (told ∷ tolds) (Some (below ∷ belows)) is passes valid pushed =
    let more = one_more_dressed d told.written (below.written ++ pending) text fields passes.0.written valid in (
      record {
        written = subst (IsDressing d (told.written ++ text))
            (append_assoc below.written pending (dressed_frame d fields) ∙ ap (λ l. below.written ++ l) (sym pushed)) more;
        read = passes.0.read;
      },
      passes.1,
    )

-- bytes were read
gave_last : (d : Dress) (told below : Traffic) (pending bytes : List ℕ) → IsPassed d told below pending
    → IsPassed d (record { written = told.written; read = told.read ++ bytes })
    (record { written = below.written; read = below.read ++ bytes }) pending
gave_last d told below pending bytes passed =
    record { written = passed.written; read = ap (λ l. l ++ bytes) passed.read }

gave_all : (d : Dress) (up : Bool) (pending bytes : List ℕ) (tolds w v : List Traffic) → ArePassed d up pending tolds w
    → GivesBytes bytes w v → ArePassed d up pending (with_read bytes tolds) v
gave_all d false pending bytes [] [] v are gives = (are.0, subst (WerePassed d []) (sym gives.1) tt)
gave_all d false pending bytes [] (below ∷ belows) v are gives = absurd are.1
gave_all d false pending bytes (told ∷ tolds) [] v are gives = absurd are.1
gave_all d false pending bytes (told ∷ tolds) (below ∷ belows) v are gives = (
  are.0,
  subst (WerePassed d (with_read bytes (told ∷ tolds))) (sym gives)
      ((are.1.0.0, gave_last d told below are.1.0.0 bytes are.1.0.1), are.1.1),
)
gave_all d true pending bytes [] w v are gives = absurd are
gave_all d true pending bytes (told ∷ tolds) [] v are gives = absurd are
gave_all d true pending bytes (told ∷ tolds) (below ∷ belows) v are gives =
    subst (ArePassed d true pending (with_read bytes (told ∷ tolds))) (sym gives)
    (gave_last d told below pending bytes are.0, are.1)

pub gave : (d : Dress) (up : Bool) (pending bytes : List ℕ) (tolds : List Traffic) (w v : Option (List Traffic))
    → Passes d up pending tolds w → Tells w v (GivesBytes bytes) → Passes d up pending (with_read bytes tolds) v
gave d up pending bytes tolds None None passes tells = tt
gave d up pending bytes tolds None (Some v) passes tells = absurd tells
gave d up pending bytes tolds (Some w) None passes tells = absurd tells
gave d up pending bytes tolds (Some w) (Some v) passes tells = gave_all d up pending bytes tolds w v passes tells

pub stayed : (d : Dress) (up : Bool) (pending : List ℕ) (tolds : List Traffic) (w v : Option (List Traffic))
    → Passes d up pending tolds w → Tells w v Stays → Passes d up pending tolds v
stayed d up pending tolds None None passes tells = tt
stayed d up pending tolds None (Some v) passes tells = absurd tells
stayed d up pending tolds (Some w) None passes tells = absurd tells
stayed d up pending tolds (Some w) (Some v) passes tells = subst (ArePassed d up pending tolds) (sym tells) passes

-- ---- what a dressed link tells

-- a link tells after a call, if it did before
pub tells_on : (R : List Traffic → List Traffic → Type 0) (w v : Option (List Traffic)) → Tells w v R → TellsOn w v
tells_on R None None tells = tt
tells_on R None (Some v) tells = tells
tells_on R (Some w) None tells = tells
tells_on R (Some w) (Some v) tells = tt

pub tells_on_on : (u w v : Option (List Traffic)) → TellsOn u w → TellsOn w v → TellsOn u v
tells_on_on None None None a b = tt
tells_on_on None None (Some v) a b = b
tells_on_on None (Some w) v a b = absurd a
tells_on_on (Some u) None v a b = absurd a
tells_on_on (Some u) (Some w) None a b = b
tells_on_on (Some u) (Some w) (Some v) a b = tt

pub told_so : (R : List Traffic → List Traffic → Type 0) (before after : List Traffic) (w v : Option (List Traffic))
    → TellsOn w v → R before after → Tells (told_over before w) (told_over after v) R
told_so R before after None None on is = tt
told_so R before after None (Some v) on is = on
told_so R before after (Some w) None on is = on
told_so R before after (Some w) (Some v) on is = is

pub told_stays : (tolds : List Traffic) (w : Option (List Traffic)) → Tells (told_over tolds w) (told_over tolds w) Stays
told_stays tolds None = tt
told_stays tolds (Some w) = refl

-- a frame was taken on the last connection
pub told_taken : (text : List ℕ) (tolds : List Traffic) (w v : Option (List Traffic)) → is_begun tolds ≡ true
    → TellsOn w v → Tells (told_over tolds w) (told_over (with_written text tolds) v) (Takes text)
told_taken text tolds None None is on = tt
told_taken text tolds None (Some v) is on = on
told_taken text tolds (Some w) None is on = on
told_taken text [] (Some w) (Some v) is on = absurd cc
told_taken text (told ∷ tolds) (Some w) (Some v) is on = refl

pub told_given : (bytes : List ℕ) (tolds : List Traffic) (w v : Option (List Traffic)) → is_begun tolds ≡ true
    → TellsOn w v → Tells (told_over tolds w) (told_over (with_read bytes tolds) v) (GivesBytes bytes)
told_given bytes tolds None None is on = tt
told_given bytes tolds None (Some v) is on = on
told_given bytes tolds (Some w) None is on = on
told_given bytes [] (Some w) (Some v) is on = absurd cc
told_given bytes (told ∷ tolds) (Some w) (Some v) is on = refl

-- ---- what is written in parts

pub tells_stay : (xs : List ℕ) (u v w : Option (List Traffic)) → Tells u v (Takes xs) → Tells v w Stays → Tells u w (Takes xs)
tells_stay xs None None None a b = tt
tells_stay xs None None (Some w) a b = absurd b
tells_stay xs None (Some v) w a b = absurd a
tells_stay xs (Some u) None w a b = absurd a
tells_stay xs (Some u) (Some v) None a b = absurd b
tells_stay xs (Some u) (Some v) (Some w) a b = subst (Takes xs u) (sym b) a

pub in_parts : (all gone pending : List ℕ) (n : ℕ) → all ≡ gone ++ pending
    → all ≡ (gone ++ take n pending) ++ drop n pending
in_parts all gone pending n is =
    is ∙ (ap (λ l. gone ++ l) (sym (take-append-drop n pending)) ∙ sym (append_assoc gone (take n pending) (drop n pending)))

pub taken_in_parts : (p q gone all left : List ℕ) (n : ℕ) (u v w : Option (List Traffic)) → q ≡ p → all ≡ gone ++ p
    → left ≡ drop n p → Tells u v (Takes gone) → Tells v w (Takes (take n q))
    → (gone : List ℕ) × (all ≡ gone ++ left) × Tells u w (Takes gone)
taken_in_parts p q gone all left n u v w same parts dropped so_far takes = (
  gone ++ take n p,
  in_parts all gone p n parts ∙ ap (λ l. (gone ++ take n p) ++ l) (sym dropped),
  tells_more gone (take n p) u v w so_far (subst (λ q. Tells v w (Takes (take n q))) same takes),
)

-- ---- a read that gave no byte

gives_none : (got : Got) (buf : List ℕ) (w v : List Traffic) → ((n : ℕ) → got ≡ Bytes n → ⊥) → Gives got buf w v → Stays w v
gives_none (Bytes n) buf w v none gives = absurd (none n refl)
gives_none Nothing buf w v none gives = gives
gives_none End buf w v none gives = gives

pub tells_none : (got : Got) (buf : List ℕ) (w v : Option (List Traffic)) → ((n : ℕ) → got ≡ Bytes n → ⊥)
    → Tells w v (Gives got buf) → Tells w v Stays
tells_none got buf None None none tells = tt
tells_none got buf None (Some v) none tells = tells
tells_none got buf (Some w) None none tells = tells
tells_none got buf (Some w) (Some v) none tells = gives_none got buf w v none tells

pub stays_given : (got : Got) (buf : List ℕ) (tolds : List Traffic) → ((n : ℕ) → got ≡ Bytes n → ⊥)
    → Gives got buf tolds tolds
stays_given (Bytes n) buf tolds none = absurd (none n refl)
stays_given Nothing buf tolds none = refl
stays_given End buf tolds none = refl

-- ---- the faults

pub faults_kept : (a b own : ℕ) → a ≤ b → min (a + own) 18446744073709551615 ≤ min (b + own) 18446744073709551615
faults_kept a b own kept = omega (arith, kept)
