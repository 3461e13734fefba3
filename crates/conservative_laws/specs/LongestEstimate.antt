-- For the reader: how long a job may be and still start by a wanted minute (document 02, No. 9). The estimates that a submission would take and
-- start by then are 1 to the answer, since longer estimates never get earlier starts.
-- Assumes nothing.
use Rattle.std.specs.Prelude.{ℕ, ◌+◌, ◌≤◌, ◌<◌, ◌≡◌, true, false, not, [], ◌∷◌, ◌⊎◌, leb, ltb}
use Rattle.std.proofs.Common.{arith, sym, ◌∙◌, inl, inr}
use Rattle.std.proofs.Math.Path.{refl, ap}
use borrow.Author.Tests.{leb-true, le-leb, ltb-false, lt-ltb, le-ltb}
use Rattle.lists.specs.Tests.{case, true_false, both, le_or}
use Rattle.lists.specs.Greatest.{greatest_holds, greatest_max, greatest_is}
use Rattle.spans.specs.Spans.{free}
use Rattle.spans.proofs.EarliestStart.{earliest_mono, Room, room_start, start_room}
use Rattle.scheduler.specs.declared.Inquiry.{Inquiry}
use Rattle.scheduler.specs.declared.Refusal.{Refusal}
use Rattle.scheduler.specs.declared.Refusal.TheVariants as refusal
use Rattle.scheduler.specs.declared.Settings.{Settings}
use Rattle.scheduler.specs.Limits.{last_ticket, outside}
use Rattle.scheduler.specs.Tenants.{known}
use Rattle.scheduler.specs.Settings.{horizon, quota, longest, hold_time}
use Rattle.scheduler.specs.Times.{longest_is, hold_mono}
use Rattle.scheduler.specs.Table.{live_of}
use Rattle.scheduler.specs.Model.{Model}
use Rattle.scheduler.specs.Answers.{Result, verdict, accepts}
use Rattle.jobs.specs.Judgement.{accepts_none, judged_refusal, judged_accepted}
use Rattle.jobs.specs.Soundness.{Fit, passed, submit_fit, fit_passes}
use Rattle.conservative_rules.specs.Conservative.{spans, planned, submit_refusal, submitted, call}
use Rattle.conservative_rules.specs.LongestEstimate.{asking, reply_to, in_time, longest_for, inquiry_refusal, longest_estimate}
use Rattle.conservative_laws.specs.Validity.{Valid}

module _ (m : Model) (q : Inquiry) where
  abbrev S : Settings
  S = m.settings

  -- the planned start of a job with this estimate, and for how long it would hold its nodes
  abbrev start : ℕ → ℕ
  start e = planned m (asking q e)

  abbrev hold : ℕ → ℕ
  hold e = hold_time S e

  -- a submission of this estimate would be taken
  abbrev pub taken : ℕ → Type 0
  taken e = accepts (reply_to m q e).refusal ≡ true

  -- ## Which estimates would be taken

  refusal_is : (e : ℕ) → (reply_to m q e).refusal ≡ submit_refusal m (asking q e) (start e)
  unfolding call submitted
  refusal_is e = judged_refusal m (submit_refusal m (asking q e) (start e)) (submitted m (asking q e) (start e)) refl

  taken_fits : (e : ℕ) → taken e → Fit m (asking q e) × (start e + hold e ≤ horizon S)
  unfolding submit_refusal
  taken_fits e a =
      let f = submit_fit m (asking q e) _ (ap accepts (sym (refusal_is e)) ∙ a) in
      let b = passed (ltb (horizon S) (start e + hold e)) refusal.PastHorizon _ refl f.1 in
      (f.0, ltb-false (horizon S) (start e + hold e) b.0)

  pub fits_taken : (e : ℕ) → Fit m (asking q e) → start e + hold e ≤ horizon S → taken e
  unfolding submit_refusal verdict
  fits_taken e f l =
      ap accepts (refusal_is e ∙ fit_passes m (asking q e) ((ltb (horizon S) (start e + hold e), refusal.PastHorizon) ∷ []) f)
      ∙ rw (le-ltb (horizon S) (start e + hold e) l)

  -- its promise is its planned start
  promise_is : (e : ℕ) → taken e → (reply_to m q e).promise ≡ start e
  unfolding call submitted
  promise_is e a = ap (λ (r : Result). r.reply.promise) (judged_accepted m (submit_refusal m (asking q e) (start e)) (submitted m (asking q e) (start e)) a).1

  -- whatever else is asked for stays the same
  pub fit_other : (d e : ℕ) → Fit m (asking q d) → 1 ≤ e → e ≤ longest S → Fit m (asking q e)
  fit_other d e f a b = record {
    nodes_from = f.nodes_from;
    nodes_to = f.nodes_to;
    estimate_from = a;
    estimate_to = b;
    least_to = omega arith;
    tenant_is = f.tenant_is;
    share = f.share;
    ticket_left = f.ticket_left;
  }

  -- ## "Longer estimates never get earlier starts"

  pub longer_later : (d e : ℕ) → q.nodes ≤ S.nodes → d ≤ e → start d ≤ start e
  unfolding planned
  longer_later d e a l = earliest_mono S.nodes (spans S m.jobs) m.clock q.nodes (hold d) (hold e) a (hold_mono S d e l)

  -- where an estimate would be taken, every shorter one would be, and be promised no later minute
  pub shorter_taken : (d e : ℕ) → 1 ≤ d → d ≤ e → taken e → taken d × ((reply_to m q d).promise ≤ (reply_to m q e).promise)
  shorter_taken d e a l t =
      let f = taken_fits e t in
      let s = longer_later d e f.0.nodes_to l in
      let u = fits_taken d (fit_other e d f.0 a (omega (arith, f.0.estimate_to))) (omega (arith, f.1, hold_mono S d e l)) in
      (u, omega (arith, promise_is d u, promise_is e t))

  -- ## In time

  time_taken : (e : ℕ) → in_time m q e ≡ true → taken e × ((reply_to m q e).promise ≤ q.minute)
  unfolding in_time
  time_taken e i =
      let b = both (accepts (reply_to m q e).refusal) (leb (reply_to m q e).promise q.minute) i in
      (b.0, leb-true (reply_to m q e).promise q.minute b.1)

  taken_time : (e : ℕ) → taken e → (reply_to m q e).promise ≤ q.minute → in_time m q e ≡ true
  unfolding in_time
  taken_time e t l = rw (t, le-leb (reply_to m q e).promise q.minute l)

  pub shorter_in_time : (d e : ℕ) → 1 ≤ d → d ≤ e → in_time m q e ≡ true → in_time m q d ≡ true
  shorter_in_time d e a l i =
      let t = time_taken e i in
      let s = shorter_taken d e a l t.0 in
      taken_time d s.0 (omega (arith, s.1, t.1))

  -- ## The answer

  -- 21, "ahead of all others"
  pub refused_past : q.minute < m.clock → inquiry_refusal m q ≡ refusal.WantedMinutePast
  unfolding inquiry_refusal
  refused_past l = rw (lt-ltb q.minute m.clock l)

  -- "Conditions that would refuse an estimate of 1 refuse the question."
  pub refused_as_one : m.clock ≤ q.minute → inquiry_refusal m q ≡ (reply_to m q 1).refusal
  unfolding inquiry_refusal
  refused_as_one l = rw (le-ltb q.minute m.clock l)

  -- Every longest estimate is at least 1, so that an estimate of 1 is never refused by 2, nor by 19. In this order: 21, 14, 1, 15, 5, 6
  pub inquiry_refusal_lem : Valid m → inquiry_refusal m q ≡ verdict
      ((ltb q.minute m.clock, refusal.WantedMinutePast)
      ∷ (not (known q.tenant), refusal.UnknownTenant)
      ∷ (outside 1 S.nodes q.nodes, refusal.NodesOutOfRange)
      ∷ (leb (quota S q.tenant) (live_of q.tenant m.jobs), refusal.QuotaFull)
      ∷ (ltb last_ticket m.next, refusal.NoTicketLeft)
      ∷ (ltb (horizon S) (start 1 + hold 1), refusal.PastHorizon)
      ∷ [])
  unfolding inquiry_refusal verdict submit_refusal
  inquiry_refusal_lem v =
      let w = longest_is S v.sound.longest_to in
      rw (refusal_is 1, le-ltb (longest S) 1 (omega (arith, w, v.sound.longest_from)))

  -- which the answer gives
  pub refusal_given : (longest_estimate m q).refusal ≡ inquiry_refusal m q
  unfolding longest_estimate
  refusal_given = refl

  -- and then every other estimate would be refused too
  pub refused_all : accepts (reply_to m q 1).refusal ≡ false → (e : ℕ) → accepts (reply_to m q e).refusal ≡ false
  refused_all n e = case (accepts (reply_to m q e).refusal) (λ t. true_false (accepts (reply_to m q 1).refusal)
      (shorter_taken 1 e (omega arith) (taken_fits e t).0.estimate_from t).0 n) (λ t. t)

  module _ (a : accepts (longest_estimate m q).refusal ≡ true) where
    abbrev k : ℕ
    k = (longest_estimate m q).estimate

    answer_is : k ≡ longest_for m q
    unfolding longest_estimate
    answer_is = rw a

    -- "the largest estimate for which the Promise Desk would promise that minute or an earlier one": those are 1 to k, and no others
    pub in_time_to : (e : ℕ) → 1 ≤ e → e ≤ k → taken e × ((reply_to m q e).promise ≤ q.minute)
    unfolding longest_for
    in_time_to e l h =
        time_taken e (shorter_in_time e (longest_for m q) l (omega (arith, answer_is))
        (greatest_holds (in_time m q) (longest S) (omega (arith, answer_is))))

    pub in_time_only : (e : ℕ) → taken e → (reply_to m q e).promise ≤ q.minute → e ≤ k
    unfolding longest_for
    in_time_only e t l =
        let f = (taken_fits e t).0 in
        omega (arith, answer_is, greatest_max (in_time m q) (longest S) e (taken_time e t l) f.estimate_from f.estimate_to)

    -- "None is said only if every estimate that intake would accept starts later."
    pub none_in_time : k ≡ 0 → (e : ℕ) → taken e → q.minute < (reply_to m q e).promise
    none_in_time z e t = by (le_or (reply_to m q e).promise q.minute)
      where
        by : ((reply_to m q e).promise ≤ q.minute) ⊎ (q.minute < (reply_to m q e).promise) → q.minute < (reply_to m q e).promise
        by (inl l) = absurd (omega (arith, in_time_only e t l, (taken_fits e t).0.estimate_from))
        by (inr l) = l

  -- what is answered: a refusal alone, or the largest estimate
  pub answer_refused : (r : Refusal) → inquiry_refusal m q ≡ r → accepts r ≡ false → record { refusal = r; estimate = 0 } ≡ longest_estimate m q
  unfolding longest_estimate
  answer_refused r e n = rw (e, n)

  pub answer_given : m.clock ≤ q.minute → taken 1 → (k : ℕ) → k ≡ longest_for m q → record { refusal = refusal.None; estimate = k } ≡ longest_estimate m q
  unfolding longest_estimate
  answer_given l t k e = rw (refused_as_one l, accepts_none (reply_to m q 1).refusal t, e)

  -- ## By the free nodes

  -- there is room for this many minutes by the minute w
  abbrev pub RoomBy : (w h : ℕ) → Type 0
  RoomBy w h = Room (free S.nodes (spans S m.jobs)) m.clock q.nodes (horizon S) w h

  start_in : (w e : ℕ) → q.nodes ≤ S.nodes → RoomBy w (hold e) → (start e ≤ w) × (start e + hold e ≤ horizon S)
  unfolding planned
  start_in w e n r = room_start S.nodes (spans S m.jobs) m.clock q.nodes (horizon S) w (hold e) n r

  pub taken_room : (w e : ℕ) → taken e → (reply_to m q e).promise ≤ w → RoomBy w (hold e)
  unfolding planned
  taken_room w e t l =
      let f = taken_fits e t in
      start_room S.nodes (spans S m.jobs) m.clock q.nodes (horizon S) w (hold e) f.0.nodes_to (omega (arith, promise_is e t)) f.1

  -- where the other conditions are met
  module _ (f : Fit m (asking q 1)) where
    pub room_taken : (w e : ℕ) → 1 ≤ e → e ≤ longest S → RoomBy w (hold e) → taken e × ((reply_to m q e).promise ≤ w)
    room_taken w e a b r =
        let s = start_in w e f.nodes_to r in
        let t = fits_taken e (fit_other 1 e f a b) s.1 in
        (t, omega (arith, promise_is e t, s.0))

    -- without room for the shortest hold, an estimate of 1 is refused by 6
    pub room_past : (RoomBy (horizon S) (hold 1) → ⊥) → (reply_to m q 1).refusal ≡ refusal.PastHorizon
    unfolding submit_refusal verdict planned
    room_past n = by (le_or (start 1 + hold 1) (horizon S))
      where
        by : (start 1 + hold 1 ≤ horizon S) ⊎ (horizon S < start 1 + hold 1) → (reply_to m q 1).refusal ≡ refusal.PastHorizon
        by (inl l) =
            absurd (n (start_room S.nodes (spans S m.jobs) m.clock q.nodes (horizon S) (horizon S) (hold 1) f.nodes_to (omega arith) l))
        by (inr l) =
            refusal_is 1
            ∙ fit_passes m (asking q 1) ((ltb (horizon S) (start 1 + hold 1), refusal.PastHorizon) ∷ []) f
            ∙ rw (lt-ltb (horizon S) (start 1 + hold 1) l)

    -- the answer is the largest estimate for whose hold there is room by the wanted minute
    pub longest_by_room : (k : ℕ) → k ≤ longest S → (1 ≤ k → RoomBy q.minute (hold k))
        → ((e : ℕ) → 1 ≤ e → e ≤ longest S → RoomBy q.minute (hold e) → e ≤ k) → k ≡ longest_for m q
    unfolding longest_for
    longest_by_room k a b c =
        greatest_is (in_time m q) (longest S) k a
        (λ l. let t = room_taken q.minute k l a (b l) in taken_time k t.0 t.1)
        (λ e i l h. let t = time_taken e i in c e l h (taken_room q.minute e t.0 t.1))
