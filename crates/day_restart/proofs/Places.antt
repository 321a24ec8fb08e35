-- What was done again of the lines of several venues, by the places of these.
use Rattle.std.proofs.Common.{◌≡◌, ◌≢◌, ◌<◌, ◌≤◌, ◌-◌, ◌⊎◌, ⊎_elim, ℕ, zero, suc, ◌+◌, List, [], ◌∷◌, ◌++◌, length, get_or, map, replicate, set, slice_get, take, Option, Some, None, refl, ap, sym, subst, ◌∙◌, inl, inr, append_assoc, arith}
use Rattle.std.specs.List.{All, AllZip}
use Rattle.std.proofs.lemmas.List.{append-nil, length-map, length-replicate, length-set, map_more, take_all}
use Rattle.std.specs.Option.{MatchOption, option_map}
use Rattle.std.proofs.lemmas.Option.{slice_get-get_or, slice_get-map, slice_get_within}
use Rattle.dialect.specs.Wording.{Decoding}
use Rattle.session_worker.specs.Restoring.{RedoesLine, StartParts, TakesMore}
use Rattle.day_restart.proofs.Redone.{fresh_start, goes_on, lines_redone, no_lines_redone}
use Rattle.day_restart.specs.Redoing.{AllDone, AllEnd, AllRedo, AllRedoTo, Ends, HasNext, RedoesAt, RedoesLines}
use Rattle.day_restart.specs.Restored.{AllGoOn, GoesOn, IsNew, Past}
use Rattle.resend.specs.Window.{window}
use Rattle.session_core.specs.Session.{next_out}
use Rattle.day_restart.specs.declared.told.VenueRestored.{VenueRestored}
use Rattle.day_restart.specs.Told.{venue_row, venue_rows}

-- what stands at a place of a list is one thing
pub one_there : {A : Type 0} (o : Option A) (x y : A) → o ≡ Some x → o ≡ Some y → x ≡ y
one_there o x y a b = let e = sym a ∙ b in cc

pub take_next : {A : Type 0} (n : ℕ) (xs : List A) (x : A) → slice_get xs n ≡ Some x → take (n + 1) xs ≡ take n xs ++ x ∷ []
take_next n [] x e = absurd cc
take_next zero (y ∷ xs) x e = let same : y ≡ x = (let s = e in cc) in ap (λ z. z ∷ []) same
take_next (suc n) (y ∷ xs) x e =
    let more : suc n + 1 ≡ suc (n + 1) = omega arith in
    ap (λ k. take k (y ∷ xs)) more ∙ ap (λ l. y ∷ l) (take_next n xs x e)

-- none yet
zeros_at : (n place done : ℕ) → slice_get (replicate n 0) place ≡ Some done → done ≡ 0
zeros_at zero place done e = absurd cc
zeros_at (suc n) zero done e = let s = e in cc
zeros_at (suc n) (suc place) done e = zeros_at n place done e

pub none_redone : (pasts : List Past) (starts : List StartParts)
    → AllRedoTo pasts (replicate (length pasts) 0) starts starts
none_redone pasts starts = record {
  at_each = length-replicate (length pasts) 0;
  after_each = refl;
  each = λ place done past was now there at before after.
      let same : was ≡ now = one_there (slice_get starts place) was now before after in
      let none : done ≡ 0 = zeros_at (length pasts) place done at in
      subst (λ n. RedoesLines past.0 was (take n past.1) now) (sym none)
      (subst (λ s. RedoesLines past.0 was [] s) same (no_lines_redone past.0 was));
}

-- an element is the one that was put, or another that stood there
at_set : {A : Type 0} (l : List A) (i j : ℕ) (a b : A) → slice_get (set l i a) j ≡ Some b
    → ((j ≡ i) × (a ≡ b)) ⊎ ((j ≢ i) × (slice_get l j ≡ Some b))
at_set [] i j a b e = absurd cc
at_set (x ∷ xs) zero zero a b e = inl (refl, cc)
at_set (x ∷ xs) zero (suc j) a b e = inr ((λ h. omega arith), e)
at_set (x ∷ xs) (suc i) zero a b e = inr ((λ h. omega arith), e)
at_set (x ∷ xs) (suc i) (suc j) a b e =
    ⊎_elim (λ t. inl (ap suc t.0, t.1)) (λ t. let n = t.0 in inr ((λ h. n (omega arith)), t.1)) (at_set xs i j a b e)

-- one line more at a place

line_more : (past : Past) (was start next : StartParts) (done : ℕ) → RedoesLines past.0 was (take done past.1) start
    → RedoesAt past.0 start past.1 done next → RedoesLines past.0 was (take (done + 1) past.1) next
line_more past was start next done so_far redoes =
    subst (λ (ls : List (List ℕ)). RedoesLines past.0 was ls next) (sym (take_next done past.1 redoes.line redoes.there))
    (lines_redone past.0 was start next (take done past.1) redoes.line so_far redoes.redoes)

-- it is the place, in both lists; or another one, in both
pub record IsAt (pasts : List Past) (at : List ℕ) (after : List StartParts) (place done : ℕ) (past : Past)
    (start : StartParts) : Type 0 where
  pub there : slice_get pasts place ≡ Some past
  pub done_there : slice_get at place ≡ Some done
  pub start_there : slice_get after place ≡ Some start

same_at : (pasts : List Past) (at : List ℕ) (before after : List StartParts) (place done : ℕ) (past : Past)
    (start next : StartParts) → AllRedoTo pasts at before after → IsAt pasts at after place done past start
    → RedoesAt past.0 start past.1 done next → (p : Past) (was : StartParts) → slice_get pasts place ≡ Some p
    → slice_get before place ≡ Some was → RedoesLines p.0 was (take (done + 1) p.1) next
same_at pasts at before after place done past start next so_far is redoes p was p_there was_there =
    subst (λ (q : Past). RedoesLines q.0 was (take (done + 1) q.1) next) (one_there (slice_get pasts place) past p is.there p_there)
    (line_more past was start next done
    (so_far.each place done past was start is.there is.done_there was_there is.start_there) redoes)

pub one_redone : (pasts : List Past) (at : List ℕ) (before after : List StartParts) (place done : ℕ) (past : Past)
    (start next : StartParts) → AllRedoTo pasts at before after → IsAt pasts at after place done past start
    → RedoesAt past.0 start past.1 done next
    → AllRedoTo pasts (set at place (done + 1)) before (set after place next)
one_redone pasts at before after place done past start next so_far is redoes = record {
  at_each = length-set at place (done + 1) ∙ so_far.at_each;
  after_each = length-set after place next ∙ so_far.after_each;
  each = λ k n p was now p_there n_there was_there now_there.
      ⊎_elim
      (λ (here : (k ≡ place) × (done + 1 ≡ n)).
      ⊎_elim
      (λ (put : (k ≡ place) × (next ≡ now)).
      subst (λ m. RedoesLines p.0 was (take m p.1) now) here.1
      (subst (λ s. RedoesLines p.0 was (take (done + 1) p.1) s) put.1
      (same_at pasts at before after place done past start next so_far is redoes p was
      (subst (λ i. slice_get pasts i ≡ Some p) here.0 p_there)
      (subst (λ i. slice_get before i ≡ Some was) here.0 was_there))))
      (λ (other : (k ≢ place) × (slice_get after k ≡ Some now)). absurd (other.0 here.0))
      (at_set after place k next now now_there))
      (λ (there : (k ≢ place) × (slice_get at k ≡ Some n)).
      ⊎_elim
      (λ (put : (k ≡ place) × (next ≡ now)). absurd (there.0 put.0))
      (λ (other : (k ≢ place) × (slice_get after k ≡ Some now)). so_far.each k n p was now p_there there.1 was_there other.1)
      (at_set after place k next now now_there))
      (at_set at place k (done + 1) n n_there);
}

-- how many lines are left: the measure of the loop

pub left : List ℕ → List ℕ → ℕ
left (lines ∷ rest) (done ∷ at) = (lines - done) + left rest at
left _ _ = 0

pub fewer_left : (lines at : List ℕ) (place : ℕ) (next : HasNext lines at place)
    → left lines (set at place (next.done + 1)) < left lines at
unfolding left
fewer_left [] at place next = let e = next.there in absurd cc
fewer_left (n ∷ lines) [] place next = let e = next.done_there in absurd cc
fewer_left (n ∷ lines) (done ∷ at) zero next =
    let a : n ≡ next.lines_there = (let e = next.there in cc) in
    let b : done ≡ next.done = (let e = next.done_there in cc) in
    let more = next.more in
    let fewer : (n - (next.done + 1)) + left lines at < (n - done) + left lines at = omega arith in
    fewer
fewer_left (n ∷ lines) (done ∷ at) (suc place) next =
    let fewer = fewer_left lines at place
    (record { lines_there = next.lines_there; done = next.done; there = next.there; done_there = next.done_there; more = next.more }) in
    let here : (n - done) + left lines (set at place (next.done + 1)) < (n - done) + left lines at =
    omega (arith, fewer) in
    here

-- nothing is left
pub all_redone : (pasts : List Past) (lines at : List ℕ) (before after : List StartParts)
    → lines ≡ map (λ (p : Past). length p.1) pasts → AllRedoTo pasts at before after → AllDone lines at
    → AllRedo pasts before after
all_redone pasts lines at before after are so_far done = record {
  after_each = so_far.after_each;
  each = λ place past was now p_there was_there now_there.
      let within : place < length pasts = slice_get_within pasts place past p_there in
      let long = so_far.at_each in
      let n : ℕ = get_or at place 0 in
      let at_there : slice_get at place ≡ Some n = slice_get-get_or at place 0 (omega arith) in
      let count : slice_get lines place ≡ Some (length past.1) =
      ap (λ l. slice_get l place) are ∙ (slice_get-map (λ (p : Past). length p.1) pasts place
      ∙ ap (option_map (λ (p : Past). length p.1)) p_there) in
      let enough : length past.1 ≤ n = done place (length past.1) n count at_there in
      subst (λ (ls : List (List ℕ)). RedoesLines past.0 was ls now) (take_all n past.1 enough)
      (so_far.each place n past was now p_there at_there was_there now_there);
}

-- ---- each start takes more legs, or its lines are at their end

pub zip_set : {A B : Type 0} (R : A → B → Type 0) (xs : List A) (ys : List B) (i : ℕ) (y new : B) → AllZip R xs ys
    → slice_get ys i ≡ Some y → ((x : A) → R x y → R x new) → AllZip R xs (set ys i new)
zip_set R [] [] i y new all at on = all
zip_set R [] (z ∷ ys) i y new all at on = absurd all
zip_set R (x ∷ xs) [] i y new all at on = absurd all
zip_set R (x ∷ xs) (z ∷ ys) zero y new all at on =
    (on x (subst (R x) (let e = at in cc) all.0), all.1)
zip_set R (x ∷ xs) (z ∷ ys) (suc i) y new all at on = (all.0, zip_set R xs ys i y new all.1 at on)

pub zip_refl : {A : Type 0} (R : A → A → Type 0) → ((x : A) → R x x) → (xs : List A) → AllZip R xs xs
zip_refl R same [] = tt
zip_refl R same (x ∷ xs) = (same x, zip_refl R same xs)

pub zip_trans : {A : Type 0} (R : A → A → Type 0) → ((x y z : A) → R x y → R y z → R x z) → (xs ys zs : List A)
    → AllZip R xs ys → AllZip R ys zs → AllZip R xs zs
zip_trans R on [] [] [] a b = tt
zip_trans R on [] [] (z ∷ zs) a b = absurd b
zip_trans R on [] (y ∷ ys) zs a b = absurd a
zip_trans R on (x ∷ xs) [] zs a b = absurd a
zip_trans R on (x ∷ xs) (y ∷ ys) [] a b = absurd b
zip_trans R on (x ∷ xs) (y ∷ ys) (z ∷ zs) a b = (on x y z a.0 b.0, zip_trans R on xs ys zs a.1 b.1)

pub zip_long : {A B : Type 0} (R : A → B → Type 0) (xs : List A) (ys : List B) → AllZip R xs ys
    → length ys ≡ length xs
zip_long R [] [] all = refl
zip_long R [] (y ∷ ys) all = absurd all
zip_long R (x ∷ xs) [] all = absurd all
zip_long R (x ∷ xs) (y ∷ ys) all = ap suc (zip_long R xs ys all.1)

pub takes_none : (s : StartParts) → TakesMore s s
takes_none s = record { more = ([], append-nil s.took.taken); rest = refl; venue = refl }

pub takes_on : (a b c : StartParts) → TakesMore a b → TakesMore b c → TakesMore a c
takes_on a b c one next = record {
  more = (
    one.more.0 ++ next.more.0,
    sym (append_assoc a.took.taken one.more.0 next.more.0)
        ∙ (ap (λ l. l ++ next.more.0) one.more.1 ∙ next.more.1),
  );
  rest = next.rest ∙ ap (λ (s : StartParts). record s { took = c.took }) one.rest;
  venue = next.venue ∙ one.venue;
}

-- so many of these ended, and the others are as they were
pub record EndedTo (count : ℕ) (before after : List StartParts) : Type 0 where
  pub long : length after ≡ length before
  pub each : (k : ℕ) (was now : StartParts) → slice_get before k ≡ Some was → slice_get after k ≡ Some now
      → (k < count → Ends was now) × (count ≤ k → now ≡ was)

pub none_ended : (starts : List StartParts) → EndedTo 0 starts starts
none_ended starts = record {
  long = refl;
  each = λ k was now a b. ((λ below. absurd (omega arith)), (λ at. one_there (slice_get starts k) now was b a));
}

pub one_ended : (count : ℕ) (before after : List StartParts) (start next : StartParts) → EndedTo count before after
    → slice_get after count ≡ Some start → Ends start next → EndedTo (count + 1) before (set after count next)
one_ended count before after start next so_far at ends = record {
  long = length-set after count next ∙ so_far.long;
  each = λ k was now a b.
      ⊎_elim
      (λ (here : (k ≡ count) × (next ≡ now)).
      let was_at : slice_get before count ≡ Some was = subst (λ i. slice_get before i ≡ Some was) here.0 a in
      let same : start ≡ was = (so_far.each count was start was_at at).1 (omega arith) in
      ((λ below. subst (λ s. Ends was s) here.1 (subst (λ s. Ends s next) same ends)), (λ above. absurd (let k_is = here.0 in omega arith))))
      (λ (there : (k ≢ count) × (slice_get after k ≡ Some now)).
      let it = so_far.each k was now a there.1 in
      let differs = there.0 in
      ((λ below. it.0 (grind arith)), (λ above. it.1 (omega arith))))
      (at_set after count k next now b);
}

pub all_ended : (before after : List StartParts) → EndedTo (length before) before after → AllEnd before after
all_ended [] [] it = tt
all_ended [] (a ∷ after) it = absurd (let long = it.long in omega arith)
all_ended (b ∷ before) [] it = absurd (let long = it.long in omega arith)
all_ended (b ∷ before) (a ∷ after) it = (
  (it.each 0 b a refl refl).0 (omega arith),
  all_ended before after (record {
    long = (let long = it.long in omega arith);
    each = λ k was now x y.
        let rest = it.each (suc k) was now x y in
        ((λ below. rest.0 (omega arith)), (λ above. rest.1 (omega arith)));
  }),
)

-- one pair more
zip_push : {A B : Type 0} (R : A → B → Type 0) (xs : List A) (ys : List B) (x : A) (y : B) → AllZip R xs ys → R x y
    → AllZip R (xs ++ x ∷ []) (ys ++ y ∷ [])
zip_push R [] [] x y all one = (one, tt)
zip_push R [] (b ∷ ys) x y all one = absurd all
zip_push R (a ∷ xs) [] x y all one = absurd all
zip_push R (a ∷ xs) (b ∷ ys) x y all one = (all.0, zip_push R xs ys x y all.1 one)

pub zip_more : {A B C : Type 0} (f : A → B) (R : B → C → Type 0) (xs : List A) (ys : List C) (n : ℕ) (x : A) (y : C)
    (after : List C) → n < length xs → x ≡ get_or xs n x → AllZip R (map f (take n xs)) ys → R (f x) y
    → after ≡ ys ++ y ∷ [] → AllZip R (map f (take (n + 1) xs)) after
zip_more f R xs ys n x y after within is all one after_is =
    let more : map f (take (n + 1) xs) ≡ map f (take n xs) ++ f x ∷ [] =
    map_more f xs n x within ∙ ap (λ z. map f (take n xs) ++ f z ∷ []) (sym is) in
    subst (AllZip R (map f (take (n + 1) xs))) (sym after_is)
    (subst (λ l. AllZip R l (ys ++ y ∷ [])) (sym more) (zip_push R (map f (take n xs)) ys (f x) y all one))

-- how a venue stands, by its parts
abbrev pub row_from : List ℕ → ℕ → ℕ → ℕ → VenueRestored
row_from name out due doubt = record { venue = name; next_out = out; next_in = due; doubt = doubt }

pub row_is : (copy name : List ℕ) (out due doubt : ℕ) (start : StartParts) → copy ≡ name
    → out ≡ next_out start.session → due ≡ start.session.expected → doubt ≡ length (window start.session.log)
    → row_from copy out due doubt ≡ venue_row name start
row_is copy name out due doubt start a b c d =
    ap (λ v. row_from v out due doubt) a
    ∙ (ap (λ n. row_from name n due doubt) b
    ∙ (ap (λ n. row_from name (next_out start.session) n doubt) c
    ∙ ap (row_from name (next_out start.session) start.session.expected) d))

-- how one venue more stands
pub rows_more : (names : List (List ℕ)) (starts : List StartParts) (n : ℕ) (name : List ℕ) (start : StartParts)
    → slice_get names n ≡ Some name → slice_get starts n ≡ Some start
    → venue_rows (take (n + 1) names) (take (n + 1) starts)
    ≡ venue_rows (take n names) (take n starts) ++ venue_row name start ∷ []
rows_more [] starts n name start a b = absurd cc
rows_more (x ∷ names) [] n name start a b = absurd cc
rows_more (x ∷ names) (s ∷ starts) zero name start a b =
    let same : x ≡ name = (let e = a in cc) in
    let is : s ≡ start = (let e = b in cc) in
    ap (λ y. venue_row y s ∷ []) same ∙ ap (λ t. venue_row name t ∷ []) is
rows_more (x ∷ names) (s ∷ starts) (suc n) name start a b =
    let more : suc n + 1 ≡ suc (n + 1) = omega arith in
    ap (λ k. venue_rows (take k (x ∷ names)) (take k (s ∷ starts))) more
    ∙ ap (λ l. venue_row x s ∷ l) (rows_more names starts n name start a b)

-- how many lines each has
pub same_counts : {A X : Type 0} (d : A → Decoding) (ls : A → List X) (f : X → List ℕ) (xs : List A)
    → map (λ x. length (ls x)) xs ≡ map (λ (p : Past). length p.1) (map (λ x. (d x, map f (ls x))) xs)
same_counts d ls f [] = refl
same_counts d ls f (x ∷ xs) =
    ap (λ n. n ∷ map (λ x. length (ls x)) xs) (sym (length-map (ls x) f))
    ∙ ap (λ l. length (map f (ls x)) ∷ l) (same_counts d ls f xs)

-- none was found of more
pub none_found : {X : Type 0} (A B : Type 0) (P : X → Type 0) (found : Option X) → (A → B) → MatchOption found A P
    → MatchOption found B P
none_found A B P None on it = on it
none_found A B P (Some x) on it = it

-- what holds of the one that was found
pub some_found : {X : Type 0} (A : Type 0) (P : X → Type 0) (found : Option X) (x : X) → found ≡ Some x
    → MatchOption found A P → P x
some_found A P None x e it = absurd cc
some_found A P (Some y) x e it = subst P (let same = e in cc) it

-- the next line's place is within each list, and it is one of its venue's
pub next_within : {A : Type 0} (f : A → ℕ) (xs : List A) (at : List ℕ) (place : ℕ) → HasNext (map f xs) at place
    → place < length xs
next_within f xs at place next =
    omega (arith, slice_get_within (map f xs) place next.lines_there next.there, length-map xs f)

pub next_within_at : (lines at : List ℕ) (place : ℕ) → HasNext lines at place → place < length at
next_within_at lines at place next = slice_get_within at place next.done next.done_there

pub next_more : {A : Type 0} (f : A → ℕ) (xs : List A) (at : List ℕ) (place done : ℕ) (x : A)
    → HasNext (map f xs) at place → slice_get xs place ≡ Some x → slice_get at place ≡ Some done → done < f x
next_more f xs at place done x next there done_there =
    let lines : slice_get (map f xs) place ≡ Some (f x) = slice_get-map f xs place ∙ ap (option_map f) there in
    let a : next.lines_there ≡ f x = one_there (slice_get (map f xs) place) next.lines_there (f x) next.there lines in
    let b : next.done ≡ done = one_there (slice_get at place) next.done done next.done_there done_there in
    omega (arith, next.more)

-- what was written back to a list is what stands there
take_front : {A : Type 0} (new rest : List A) → take (length new) (new ++ rest) ≡ new
take_front [] rest = refl
take_front (x ∷ new) rest = ap (λ l. x ∷ l) (take_front new rest)

pub written : {A : Type 0} (n : ℕ) (new rest : List A) → length new ≡ n → take n (new ++ rest) ≡ new
written n new rest long = subst (λ k. take k (new ++ rest) ≡ new) long (take_front new rest)

-- ---- together

pub all_go_on : (pasts : List Past) (starts was now ends : List StartParts) → length starts ≡ length pasts
    → All IsNew starts → AllZip TakesMore starts was → AllRedo pasts was now → AllEnd now ends
    → AllGoOn pasts starts ends
all_go_on [] [] [] [] [] long new takes redo end = tt
all_go_on [] [] [] [] (e ∷ ends) long new takes redo end = absurd end
all_go_on [] [] [] (n ∷ now) ends long new takes redo end = absurd (let l = redo.after_each in omega arith)
all_go_on [] [] (w ∷ was) now ends long new takes redo end = absurd takes
all_go_on [] (s ∷ starts) was now ends long new takes redo end = absurd (omega arith)
all_go_on (p ∷ pasts) [] was now ends long new takes redo end = absurd (omega arith)
all_go_on (p ∷ pasts) (s ∷ starts) [] now ends long new takes redo end = absurd takes
all_go_on (p ∷ pasts) (s ∷ starts) (w ∷ was) [] ends long new takes redo end = absurd (let l = redo.after_each in omega arith)
all_go_on (p ∷ pasts) (s ∷ starts) (w ∷ was) (n ∷ now) [] long new takes redo end = absurd end
all_go_on (p ∷ pasts) (s ∷ starts) (w ∷ was) (n ∷ now) (e ∷ ends) long new takes redo end = (
  goes_on p.0 p.1 s w n e (fresh_start s w (new 0 s (omega arith)) takes.0) (redo.each 0 p w n refl refl refl) end.0,
  all_go_on pasts starts was now ends (omega arith) (λ k d below. new (suc k) d (omega arith)) takes.1
      (record {
        after_each = (let l = redo.after_each in omega arith);
        each = λ place past before after a b c. redo.each (suc place) past before after a b c;
      })
      end.1,
)
