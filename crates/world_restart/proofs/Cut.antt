-- A line of which only the first legs are released is as the invariant says, if no other leg had left the desk.
use Rattle.std.proofs.Common.{◌≤◌, ℕ, take, ◌∙◌, arith}
use Rattle.venue_line.specs.Line.{Line}
use Rattle.exchange_core.specs.Acceptance.{Carried}
use Rattle.std.specs.Prelude.{List}
use Rattle.venue_line.specs.Copies.{Copies}
use Rattle.venue_line.specs.Fences.{Fences}
use Rattle.venue_line.specs.Close.{Close, IsMark, IsFarewell}
use Rattle.venue_line.specs.DeliveredReports.{Given}
use Rattle.venue_line.proofs.GivenSteps.{Whole}
use Rattle.world_restart.proofs.Places.{numbered-take, within_take}

-- the line with its first legs alone
abbrev pub cut : ℕ → Line → Line
cut n a = record a { released = take n a.released }

module _ (n : ℕ) (a : Line) (low : a.left ≤ n) where
  cut_copies : (taken : List Carried) → Copies taken a → Copies taken (cut n a)
  cut_copies taken c = record {
    numbering = c.numbering;
    sent_left = c.sent_left;
    sent_released = λ number leg is.
        (let r = c.sent_released number leg is in
        let within = (c.sent_left number leg is).1 in
        record { leg = r.leg; whole = numbered-take n leg.ordinal a.released (omega arith) ∙ r.whole; same = r.same });
    left_released = within_take n a.left a.released low c.left_released;
    orders_are_sent = λ m leg there is.
        (let o = c.orders_are_sent m leg there is in
        let within = (c.sent_left m.number o.sent o.there).1 in
        record {
          sent = o.sent;
          there = o.there;
          whole = numbered-take n o.sent.ordinal a.released (omega arith) ∙ o.whole;
        });
    orders_read = c.orders_read;
    accepted = c.accepted;
    taken_written = c.taken_written;
    taken_order = c.taken_order;
    taken_rise = c.taken_rise;
    taken_passed = c.taken_passed;
    written_before = c.written_before;
    orders_before = c.orders_before;
    live_is_last = c.live_is_last;
    last_known = c.last_known;
    answers_known = c.answers_known;
    tells = c.tells;
    own_carries = c.own_carries;
    withdrawn_not_taken = c.withdrawn_not_taken;
    withdrawn_is_old = c.withdrawn_is_old;
  }

  cut_fences : (taken : List Carried) → Fences taken a → Fences taken (cut n a)
  cut_fences taken f = record {
    numbers_small = f.numbers_small;
    next_small = f.next_small;
    expected_from = f.expected_from;
    expected_to = f.expected_to;
    written_spent = f.written_spent;
    written_for_legs = f.written_for_legs;
    tests_carry = f.tests_carry;
    fences_are_admin = f.fences_are_admin;
    never_queued = f.never_queued;
    settled_no_doubt = f.settled_no_doubt;
    settled_below = f.settled_below;
    logon_below = f.logon_below;
    fills_below = f.fills_below;
    fills_spare_doubt = f.fills_spare_doubt;
    told_passed = f.told_passed;
    answers_passed = f.answers_passed;
    tests_passed = f.tests_passed;
    passed_or_withdrawn = f.passed_or_withdrawn;
    taken_was_accepted = f.taken_was_accepted;
  }

  cut_mark : (count : ℕ) → IsMark a count → IsMark (cut n a) count
  cut_mark count m = record {
    all = m.all;
    down = m.down;
    last = m.last;
    logout = m.logout;
    written = m.written;
    says = m.says;
    passed = m.passed;
  }

  cut_farewell : (m : Carried) → IsFarewell a m → IsFarewell (cut n a) m
  cut_farewell m last =
      record { over = last.over; present = last.present; above = last.above; sure = last.sure }

  cut_close : Close a → Close (cut n a)
  cut_close c = record {
    fence_above = c.fence_above;
    closing_above = c.closing_above;
    logout_is_last = λ m there says. cut_farewell m (c.logout_is_last m there says);
    marked = λ count is. cut_mark count (c.marked count is);
    logout_heard = c.logout_heard;
    out_no_doubt = c.out_no_doubt;
  }

  cut_given : Given a → Given (cut n a)
  cut_given g = record {
    front = g.front;
    back = g.back;
    whole = g.whole;
    expected = g.expected;
    waits = g.waits;
    given = g.given;
    heard = g.heard;
    names = g.names;
    refusable = g.refusable;
    others = g.others;
  }

  pub whole_cut : Whole a → Whole (cut n a)
  whole_cut (i, g) = (
    record {
      taken = i.taken;
      copies = cut_copies i.taken i.copies;
      fences = cut_fences i.taken i.fences;
      close = cut_close i.close;
    },
    cut_given g,
  )
