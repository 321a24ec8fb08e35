-- Each step of a pass keeps the rule of the ring.
use Rattle.std.proofs.Common.{◌≡◌, ◌≢◌, ℕ, zero, suc, true, false, true≢false, List, [], ◌∷◌, ◌++◌, length, set, sym, refl, ap, ◌∙◌, subst, ⊎_elim, append_assoc}
use mathlib.Core.Option.{some, some-ne-none}
use lib.ListN.{get_elem?}
use Rattle.crossbeam_queue.specs.Fifo.{Pushes, Pops, Forks, Merges, Learns}
use Rattle.crossbeam_queue.proofs.Lists.{at_set, at_snoc}
use Rattle.leg.specs.declared.placed_leg.PlacedLeg.{PlacedLeg}
use Rattle.venue_queue.specs.declared.rule.Hand.{Hand}
use Rattle.venue_queue.specs.Rule.{hand, with_pushed, with_popped, RingParts, Fits, Kept, EndsWith, BothEnds}

-- something holds of each pass and its number
abbrev Every : (ℕ → Hand → Type 0) → List Hand → Type 0
Every Holds views = (number : ℕ) (v : Hand) → get_elem? views number ≡ some v → Holds number v

-- a new view stands behind the others
at_end : (views : List Hand) (new v : Hand) (number : ℕ) → get_elem? views number ≢ some v
    → get_elem? (views ++ new ∷ []) number ≡ some v → number ≡ length views
at_end [] new v zero other is = refl
at_end [] new v (suc number) other is = absurd (some-ne-none v (sym is))
at_end (x ∷ views) new v zero other is = absurd (other is)
at_end (x ∷ views) new v (suc number) other is = ap suc (at_end views new v number other is)

-- of the view that is put in a place, and of each other one, it holds, so it holds of every one
every_set : (Holds : ℕ → Hand → Type 0) (views : List Hand) (place : ℕ) (new : Hand) → Holds place new
    → ((number : ℕ) (v : Hand) → number ≢ place → get_elem? views number ≡ some v → Holds number v)
    → Every Holds (set views place new)
every_set Holds views place new mine others number v is =
    ⊎_elim (λ (here : (number ≡ place) × (new ≡ v)). subst (λ (at : ℕ × Hand). Holds at.0 at.1) (λ i. (sym here.0 i, here.1 i)) mine)
    (λ (there : (number ≢ place) × (get_elem? views number ≡ some v)). others number v there.0 there.1)
    (at_set views place number new v is)

-- a pass that may neither push nor pop fits
fits_nothing : (ring : RingParts) (number : ℕ) (v : Hand) → v.feeds ≡ false → v.drains ≡ false → Fits ring number v
fits_nothing ring number v no_feed no_drain = record {
  feeds = λ may. absurd (true≢false (sym may ∙ no_feed));
  drains = λ may. absurd (true≢false (sym may ∙ no_drain));
}

pub begins : Kept [] (hand true true [] [] ∷ [])
begins =
    let ring : RingParts = record { feeder = 0; drainer = 0; pushed = []; popped = [] } in
    let first : Hand = hand true true [] [] in record {
      ring = ring;
      in_order = refl;
      fits = every_set (Fits ring) (first ∷ []) 0 first (record { feeds = λ _. (refl, refl); drains = λ _. (refl, refl) })
          (λ number v other is. absurd (other (at_end [] first v number (λ none. some-ne-none v (sym none)) is)));
    }

pub keeps_push : (room number : ℕ) (v : Hand) (leg : PlacedLeg) → v.feeds ≡ true
    → Pushes Kept room number v leg (λ w. w ≡ with_pushed leg v)
keeps_push room number v leg may items views _ kept at =
    let mine = kept.fits number v at in
    let ring : RingParts = record kept.ring { pushed = kept.ring.pushed ++ leg ∷ [] } in (
      with_pushed leg v,
      record {
        ring = ring;
        in_order = ap (λ legs. legs ++ leg ∷ []) kept.in_order ∙ append_assoc kept.ring.popped items (leg ∷ []);
        fits = every_set (Fits ring) views number (with_pushed leg v)
            (record {
              feeds = λ _. ((mine.feeds may).0, ap (λ legs. legs ++ leg ∷ []) (mine.feeds may).1);
              drains = mine.drains;
            })
            (λ other u apart is. record {
              feeds = λ feeds. absurd (apart (((kept.fits other u is).feeds feeds).0 ∙ sym (mine.feeds may).0));
              drains = (kept.fits other u is).drains;
            });
      },
      refl,
    )

pub keeps_pop : (number : ℕ) (v : Hand) → v.drains ≡ true → Pops Kept number v (λ leg w. w ≡ with_popped leg v)
keeps_pop number v may leg items views kept at =
    let mine = kept.fits number v at in
    let ring : RingParts = record kept.ring { popped = kept.ring.popped ++ leg ∷ [] } in (
      with_popped leg v,
      record {
        ring = ring;
        in_order = kept.in_order ∙ sym (append_assoc kept.ring.popped (leg ∷ []) items);
        fits = every_set (Fits ring) views number (with_popped leg v)
            (record {
              feeds = mine.feeds;
              drains = λ _. ((mine.drains may).0, ap (λ legs. legs ++ leg ∷ []) (mine.drains may).1);
            })
            (λ other u apart is. record {
              feeds = (kept.fits other u is).feeds;
              drains = λ drains. absurd (apart (((kept.fits other u is).drains drains).0 ∙ sym (mine.drains may).0));
            });
      },
      refl,
    )

-- the pass of both ends goes on as the feeder, and a new one behind all is the drainer
record WithoutDrains (ring : RingParts) (number : ℕ) (v : Hand) : Type 0 where
  pub feeds : v.feeds ≡ true → (number ≡ ring.feeder) × (v.pushed ≡ ring.pushed)
  pub drains : v.drains ≢ true

pub forks : (number : ℕ) (v : Hand) → v.feeds ≡ true → v.drains ≡ true
    → Forks Kept number v (hand true false v.pushed []) (hand false true [] v.popped)
forks number v feeds drains items views kept at =
    let left : Hand = hand true false v.pushed [] in
    let right : Hand = hand false true [] v.popped in
    let mine = kept.fits number v at in
    let lefts : List Hand = set views number left in
    let old : Every (WithoutDrains kept.ring) lefts =
    every_set (WithoutDrains kept.ring) views number left
    (record { feeds = λ _. mine.feeds feeds; drains = λ may. true≢false (sym may) })
    (λ other u apart is. record {
      feeds = (kept.fits other u is).feeds;
      drains = λ may. apart (((kept.fits other u is).drains may).0 ∙ sym (mine.drains drains).0);
    }) in
    let ring : RingParts = record kept.ring { drainer = length lefts } in record {
      ring = ring;
      in_order = kept.in_order;
      fits = λ other u is. ⊎_elim
          (λ there. record { feeds = (old other u there).feeds; drains = λ may. absurd ((old other u there).drains may) })
          (λ (new : right ≡ u). record {
            feeds = λ may. absurd (true≢false (sym (ap (λ (w : Hand). w.feeds) new ∙ may)));
            drains = λ may. (
              at_end lefts right u other (λ there. (old other u there).drains may) is,
              ap (λ (w : Hand). w.popped) (sym new) ∙ (mine.drains drains).1,
            );
          })
          (at_snoc lefts right u other is);
    }

-- the feeder takes the drainer's end too, and that pass may do nothing any more
pub merges : (number : ℕ) (v : Hand) (other : ℕ) (u : Hand) → v.feeds ≡ true → u.drains ≡ true
    → Merges Kept number v other u (hand true true v.pushed u.popped) (hand false false [] [])
merges number v other u feeds drains items views kept at apart at_other =
    let both : Hand = hand true true v.pushed u.popped in
    let spent : Hand = hand false false [] [] in
    let mine = kept.fits number v at in
    let boths : List Hand = set views number both in
    let was : get_elem? views other ≡ some u =
    ⊎_elim (λ here. absurd (apart here.0)) (λ there. there.1) (at_set views number other both u at_other) in
    let theirs = (kept.fits other u was).drains drains in
    let ring : RingParts = record kept.ring { drainer = number } in
    let OfOthers : ℕ → Hand → Type 0 = λ at w. at ≢ other → Fits ring at w in
    let others : Every OfOthers boths =
    every_set OfOthers views number both
    (λ _. record { feeds = λ _. mine.feeds feeds; drains = λ _. (refl, theirs.1) })
    (λ at w _ is not_other. record {
      feeds = (kept.fits at w is).feeds;
      drains = λ may. absurd (not_other (((kept.fits at w is).drains may).0 ∙ sym theirs.0));
    }) in record {
      ring = ring;
      in_order = kept.in_order;
      fits = every_set (Fits ring) boths other spent (fits_nothing ring other spent refl refl)
          (λ at w not_other is. others at w is not_other);
    }

pub feed_learns : (number : ℕ) (v : Hand) → v.feeds ≡ true → Learns Kept number v (λ items. EndsWith v.pushed items)
feed_learns number v may items views kept at =
    (kept.ring.popped, ((kept.fits number v at).feeds may).1 ∙ kept.in_order)

pub both_learn : (number : ℕ) (v : Hand) → Learns Kept number v (BothEnds v)
both_learn number v items views kept at feeds drains =
    let mine = kept.fits number v at in
    (mine.feeds feeds).1 ∙ kept.in_order ∙ ap (λ legs. legs ++ items) (sym (mine.drains drains).1)
