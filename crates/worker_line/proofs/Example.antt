-- The worked history may happen, and comes to what it should.
use Rattle.std.proofs.Common.{[], ◌∷◌, ◌++◌, Some, None, refl, arith}
use Rattle.std.specs.Fmt.{digits}
use Rattle.dialect.specs.Wording.{Decoding}
use Rattle.session_core.specs.Session.{new_session}
use Rattle.session_core.specs.Example.{config}
use Rattle.exchange_core.specs.Acceptance.{May}
use Rattle.exchange_core.specs.Acceptance as rules
use Rattle.venue_line.specs.Line.{new_line}
use Rattle.venue_line.specs.Worked.{first, second, logon, fence, answer, order, asks, fill, standing, two, four}
use Rattle.venue_line.proofs.Worked.{step, no_more, nothing, asks_for, passes_over, answers, accepts, takes_logon, takes_fence}
use Rattle.session_worker.specs.Events.{AreAllowed}
use Rattle.worker_line.specs.Happening.{works_of, MayAllHappen, AllTakeNext}
use Rattle.worker_line.specs.Example.{history, IsFilledOver}

-- in a later turn a Logon is above the expected number, which is asked for
next_logon : May (standing 1 4 (first ∷ []) two) (Some (logon 2 5)) (standing 2 4 (first ∷ []) four)
    (logon 2 3 ∷ asks 2 4 4 ∷ [])
next_logon =
    asks_for (standing 1 4 (first ∷ []) two).intake (standing 2 4 (first ∷ []) four).intake two 2 5 3 (omega arith)
    (omega arith) refl (omega arith) (omega arith) refl refl

takes_order : May (standing 1 3 [] two) (Some (order 1 3 first)) (standing 1 4 (first ∷ []) two) []
takes_order =
    let s = standing 1 3 [] two in
    let m = order 1 3 first in
    let t = (standing 1 4 (first ∷ []) two).intake in
    accepts s.intake two 1 3 first refl refl [] [] (no_more s m t two) (nothing s m t two)

-- an order of an older connection isn't taken
drops_order : May (standing 2 4 (first ∷ []) four) (Some (order 1 4 second)) (standing 2 4 (first ∷ []) four) []
drops_order =
    let s = standing 2 4 (first ∷ []) four in
    let m = order 1 4 second in
    step s m s.intake four [] [] (rules.stays refl) (no_more s m s.intake four) refl (nothing s m s.intake four)

passes_fill : May (standing 2 4 (first ∷ []) four) (Some (fill 2 4 7)) (standing 2 7 (first ∷ []) four) []
passes_fill =
    let s = standing 2 4 (first ∷ []) four in
    let t = (standing 2 7 (first ∷ []) four).intake in
    passes_over s.intake t four 2 4 7 [] refl refl refl (nothing s (fill 2 4 7) t four)

answers_fence : May (standing 2 7 (first ∷ []) four) (Some (fence 2 7)) (standing 2 8 (first ∷ []) (four ++ None ∷ []))
    (answer 2 5 7 ∷ [])
answers_fence =
    answers (standing 2 7 (first ∷ []) four).intake four 2 7 5 refl refl (omega arith) (omega arith) refl

-- the history of the example, event by event
happens : (read : Decoding) → MayAllHappen read (new_line config) history
unfolding digits
happens read = (
  tt,
  (
    ((0, omega arith, refl), takes_logon),
    (
      (0, omega arith, refl),
      (
        ((1, omega arith, refl), takes_fence),
        (
          (1, omega arith, refl),
          (
            tt,
            (
              tt,
              (
                tt,
                (
                  ((2, omega arith, refl), takes_order),
                  (
                    tt,
                    (
                      tt,
                      (
                        ((4, omega arith, refl), next_logon),
                        (
                          ((3, omega arith, refl), drops_order),
                          (
                            (2, omega arith, refl),
                            (
                              (3, omega arith, refl),
                              (
                                ((6, omega arith, refl), passes_fill),
                                (
                                  ((7, omega arith, refl), answers_fence),
                                  (
                                    (4, omega arith, refl),
                                    tt,
                                  ),
                                ),
                              ),
                            ),
                          ),
                        ),
                      ),
                    ),
                  ),
                ),
              ),
            ),
          ),
        ),
      ),
    ),
  ),
)

-- each leg is sent once it is the next one
takes_next : (read : Decoding) → AllTakeNext read (new_line config) history
unfolding digits
takes_next read = (
  ([], refl),
  (
    tt,
    (
      ([], refl),
      (
        tt,
        (
          ([], refl),
          (
            tt,
            (
              (record { ordinal = 2; leg = second } ∷ [], refl),
              (
                ([], refl),
                (
                  tt,
                  (
                    ([], refl),
                    (
                      ([], refl),
                      (
                        tt,
                        (
                          tt,
                          (
                            ([], refl),
                            (
                              ([], refl),
                              (
                                tt,
                                (
                                  tt,
                                  (
                                    ([], refl),
                                    tt,
                                  ),
                                ),
                              ),
                            ),
                          ),
                        ),
                      ),
                    ),
                  ),
                ),
              ),
            ),
          ),
        ),
      ),
    ),
  ),
)

allowed : (read : Decoding) → AreAllowed read (new_session config) (works_of history)
unfolding digits
allowed read = (
  tt,
  (
    tt,
    (
      tt,
      (
        refl,
        (
          refl,
          (
            tt,
            (
              tt,
              (
                tt,
                (
                  tt,
                  (
                    tt,
                    tt,
                  ),
                ),
              ),
            ),
          ),
        ),
      ),
    ),
  ),
)

pub is_filled_over : (read : Decoding) → IsFilledOver read
unfolding digits
is_filled_over read = record {
  happens = happens read;
  takes_next = takes_next read;
  allowed = allowed read;
  accepted = refl;
  taken = refl;
  withdrawn = refl;
  asked = refl;
  up = refl;
}
