-- Frames that are written, one after another.
use Rattle.std.proofs.Common.{◌≡◌, ℕ, suc, ◌+◌, ◌<◌, ◌≤◌, List, [], ◌∷◌, ◌++◌, length, Some, None, map, take, drop, get_or, refl, sym, ap, subst, ◌∙◌, inl, inr, append_assoc, arith, length-append}
use Rattle.std.specs.List.{concat}
use Rattle.std.specs.Global.{Vec}
use Rattle.std.proofs.lemmas.List.{append-nil, map-append, take_all, take_more, take-append-drop}
use Rattle.std.proofs.Math.Seq.{drop-cons}
use Rattle.link.specs.Traffic.{Traffic, Tells, Takes, TakesPart, Stays}
use Rattle.link.proofs.Taking.{tells_more}
use Rattle.session_worker.specs.Speaking.{Wire}
use Rattle.session_worker.specs.Linking.{SessionIoParts, MayBreak, Writes}

pub stays_last : (R : List Traffic → List Traffic → Type 0) (a b c : Wire) → Tells a b R → Tells b c Stays → Tells a c R
stays_last R None None None p q = tt
stays_last R None None (Some w) p q = absurd q
stays_last R None (Some v) c p q = absurd p
stays_last R (Some u) None c p q = absurd p
stays_last R (Some u) (Some v) None p q = absurd q
stays_last R (Some u) (Some v) (Some w) p q = subst (λ (x : List Traffic). R u x) (sym q) p

pub stays_here : (a : Wire) → Tells a a Stays
stays_here None = tt
stays_here (Some w) = refl

-- the first of some bytes behind others, of which more were to follow
pub part_more : (xs ys zs : List ℕ) (a b c : Wire) → Tells a b (Takes xs) → Tells b c (TakesPart ys)
    → Tells a c (TakesPart (xs ++ (ys ++ zs)))
part_more xs ys zs None None None p q = tt
part_more xs ys zs None None (Some w) p q = absurd q
part_more xs ys zs None (Some v) c p q = absurd p
part_more xs ys zs (Some u) None c p q = absurd p
part_more xs ys zs (Some u) (Some v) None p q = absurd q
part_more xs ys zs (Some u) (Some v) (Some w) p q =
    let short = q.2 in
    let one = length-append xs q.0 in
    let all = length-append xs (ys ++ zs) in
    let both = length-append ys zs in (
      xs ++ q.0,
      (
        q.1.0 ++ zs,
        append_assoc xs q.0 (q.1.0 ++ zs)
            ∙ ap (λ l. xs ++ l) (sym (append_assoc q.0 q.1.0 zs) ∙ ap (λ l. l ++ zs) q.1.1),
      ),
      omega (arith, short, one, all, both),
      tells_more xs q.0 (Some u) (Some v) (Some w) p q.3,
    )

-- bytes were written, or the first of them
pub writes_breaks : (bytes : List ℕ) (x y : SessionIoParts) → Writes bytes x y → MayBreak x.session y.session
writes_breaks bytes x y (inl all) = inl all.0
writes_breaks bytes x y (inr part) = inr part.0

-- frames one behind the other
concat-append : (xs ys : List (List ℕ)) → concat (xs ++ ys) ≡ concat xs ++ concat ys
concat-append [] ys = refl
concat-append (x ∷ xs) ys = ap (λ l. x ++ l) (concat-append xs ys) ∙ sym (append_assoc x (concat xs) (concat ys))

abbrev pub texts : List (Vec ℕ) → List (List ℕ)
texts frames = map (λ (frame : Vec ℕ). frame.items) frames

-- the first so many frames, the next one, and the others
frames_cut : (frames : List (Vec ℕ)) (i : ℕ) (frame : Vec ℕ) → i < length frames → frame ≡ get_or frames i frame
    → concat (texts frames) ≡ concat (texts (take i frames)) ++ (frame.items ++ concat (texts (drop (suc i) frames)))
frames_cut frames i frame below is =
    let rest : drop i frames ≡ frame ∷ drop (suc i) frames =
    drop-cons frames i frame below ∙ ap (λ (x : Vec ℕ). x ∷ drop (suc i) frames) (sym is) in
    ap (λ l. concat (texts l)) (sym (take-append-drop i frames))
    ∙ (ap concat (map-append (λ (x : Vec ℕ). x.items) (take i frames) (drop i frames))
    ∙ (concat-append (texts (take i frames)) (texts (drop i frames))
    ∙ ap (λ l. concat (texts (take i frames)) ++ concat (texts l)) rest))

-- one frame more was written
pub frame_more : (frames : List (Vec ℕ)) (i : ℕ) (frame : Vec ℕ) → i < length frames → frame ≡ get_or frames i frame
    → (a b c : Wire) → Tells a b (Takes (concat (texts (take i frames)))) → Tells b c (Takes frame.items)
    → Tells a c (Takes (concat (texts (take (i + 1) frames))))
frame_more frames i frame below is a b c first next =
    let more : take (i + 1) frames ≡ take i frames ++ frame ∷ [] =
    take_more frames i frame below ∙ ap (λ (x : Vec ℕ). take i frames ++ x ∷ []) (sym is) in
    let all : concat (texts (take (i + 1) frames)) ≡ concat (texts (take i frames)) ++ frame.items =
    ap (λ l. concat (texts l)) more
    ∙ (ap concat (map-append (λ (x : Vec ℕ). x.items) (take i frames) (frame ∷ []))
    ∙ (concat-append (texts (take i frames)) (frame.items ∷ [])
    ∙ ap (λ l. concat (texts (take i frames)) ++ l) (append-nil frame.items))) in
    subst (λ bytes. Tells a c (Takes bytes)) (sym all)
    (tells_more (concat (texts (take i frames))) frame.items a b c first next)

-- a frame wasn't written whole
pub frame_part : (frames : List (Vec ℕ)) (i : ℕ) (frame : Vec ℕ) → i < length frames → frame ≡ get_or frames i frame
    → (a b c : Wire) → Tells a b (Takes (concat (texts (take i frames)))) → Tells b c (TakesPart frame.items)
    → Tells a c (TakesPart (concat (texts frames)))
frame_part frames i frame below is a b c first part =
    subst (λ bytes. Tells a c (TakesPart bytes)) (sym (frames_cut frames i frame below is))
    (part_more (concat (texts (take i frames))) frame.items (concat (texts (drop (suc i) frames))) a b c first part)

-- all frames were written
pub frames_all : (frames : List (Vec ℕ)) (i : ℕ) (a b : Wire) → length frames ≤ i
    → Tells a b (Takes (concat (texts (take i frames)))) → Tells a b (Takes (concat (texts frames)))
frames_all frames i a b past told =
    subst (λ (first : List (Vec ℕ)). Tells a b (Takes (concat (texts first)))) (take_all i frames past) told
