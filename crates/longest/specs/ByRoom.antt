-- What the code computes from the profile is the definition's answer.
-- Assumes nothing.
use Rattle.std.specs.Prelude.{ℕ, ◌≤◌, ◌<◌, ◌≡◌, refl, true, false}
use Rattle.std.proofs.Common.{arith, sym, ap, ◌∙◌}
use mathlib.Core.List.{List, []}
use Rattle.spans.proofs.EarliestStart.{room_less}
use Rattle.scheduler.specs.declared.Inquiry.{Inquiry}
use Rattle.scheduler.specs.declared.Refusal.TheVariants as refusal
use Rattle.scheduler.specs.declared.Scheduler.{Scheduler}
use Rattle.scheduler.specs.declared.Settings.{Settings}
use Rattle.scheduler.specs.Settings.{horizon, longest, hold_time}
use Rattle.scheduler.specs.Times.{LongestWithin}
use Rattle.scheduler.specs.Model.{Model, view}
use Rattle.scheduler.specs.Answers.{Result, accepts}
use Rattle.jobs.specs.Premise.{Holds, holds_as}
use Rattle.jobs.specs.Soundness.{Fit, submit_fit}
use Rattle.job_table.specs.Parts.{refusal_by, shared_refusal}
use Rattle.conservative_rules.specs.Conservative.{spans}
use Rattle.conservative_rules.specs.LongestEstimate.{asking, longest_for, longest_estimate}
use Rattle.conservative_laws.specs.Validity.{Valid}
use Rattle.conservative_laws.specs.LongestEstimate.{RoomBy, taken, shorter_taken, room_taken, room_past, longest_by_room}
use Rattle.conservative_laws.specs.LongestEstimate.{refused_past, refused_as_one, answer_refused, answer_given}
use Rattle.conservative_plan.specs.PlannedSlots.{Planned, valid_planned, Tabulated, tabulated_view, last_slots}
use Rattle.conservative_plan.specs.EarliestStart.{tabulated_few}
use Rattle.conservative.specs.Submit.{submit_checked}
use Rattle.longest.specs.Scan.{Scans, Widest}

module _ (d : Scheduler) (q : Inquiry) (h : Holds Valid d) where
  abbrev m : Model
  m = view d

  abbrev S : Settings
  S = m.settings

  -- ## Refused

  pub past_given : q.minute < m.clock → record { refusal = refusal.WantedMinutePast; estimate = 0 } ≡ longest_estimate m q
  past_given l = answer_refused m q refusal.WantedMinutePast (refused_past m q l) refl

  -- by a test that both kinds share
  pub shared_given : m.clock ≤ q.minute → accepts (shared_refusal m (asking q 1)) ≡ false
      → record { refusal = shared_refusal m (asking q 1); estimate = 0 } ≡ longest_estimate m q
  shared_given l n =
      answer_refused m q (shared_refusal m (asking q 1))
      (refused_as_one m q l ∙ ap (λ (r : Result). r.reply.refusal) (submit_checked m (asking q 1) h.holds.sound n)) n

  pub shared_fit : accepts (shared_refusal m (asking q 1)) ≡ true → Fit m (asking q 1)
  unfolding refusal_by
  shared_fit a = (submit_fit m (asking q 1) [] a).0

  -- ## By room

  module _ (f : Fit m (asking q 1)) (l : m.clock ≤ q.minute) {n : ℕ} {ms fs : List ℕ} (t : Tabulated d n ms fs) where
    planned : Holds Planned d
    planned = holds_as Valid Planned d valid_planned h

    pub scans : (by : ℕ) → m.clock ≤ by → Scans ms fs n q.nodes by
    scans by a = record {
      machine = S.nodes;
      spans = spans S m.jobs;
      now = m.clock;
      profile = tabulated_view d planned t;
      clock = h.holds.sound.clock_to;
      ends = last_slots S (horizon S) m.jobs (λ j i. (h.holds.sound.each j i).ends);
      fit = tabulated_few d planned t;
      enough = f.nodes_to;
      ahead = a;
    }

    -- the widest stretch that begins by a minute, and the largest estimate within it
    module _ {by width e : ℕ} (a : m.clock ≤ by) (w : (s : Scans ms fs n q.nodes by) → Widest s width) (g : LongestWithin S width e) where
      room_for : 1 ≤ e → RoomBy m q by (hold_time S e)
      unfolding scans
      room_for p = room_less (hold_time S e) width (g.within p) (w (scans by a)).room

      room_most : (x : ℕ) → 1 ≤ x → x ≤ longest S → RoomBy m q by (hold_time S x) → x ≤ e
      unfolding scans
      room_most x p b r = g.most x p b ((w (scans by a)).most (hold_time S x) r)

      -- an estimate of 1 would be taken exactly if there is one
      one_taken : 1 ≤ e → taken m q 1
      one_taken p = (shorter_taken m q 1 e (omega arith) p (room_taken m q f by e p g.to (room_for p)).0).0

    module _ {width e : ℕ} (w : (s : Scans ms fs n q.nodes q.minute) → Widest s width) (g : LongestWithin S width e) where
      largest : e ≡ longest_for m q
      largest = longest_by_room m q f e g.to (room_for l w g) (room_most l w g)

      pub some_given : 1 ≤ e → record { refusal = refusal.None; estimate = e } ≡ longest_estimate m q
      some_given p = answer_given m q l (one_taken l w g p) e largest

      -- none by the wanted minute; some or none at all
      module _ {width' e' : ℕ} (w' : (s : Scans ms fs n q.nodes (horizon S)) → Widest s width') (g' : LongestWithin S width' e') where
        clock_to : m.clock ≤ horizon S
        clock_to = h.holds.sound.clock_to

        pub none_given : e ≡ 0 → 1 ≤ e' → record { refusal = refusal.None; estimate = 0 } ≡ longest_estimate m q
        none_given z p = answer_given m q l (one_taken clock_to w' g' p) 0 (sym z ∙ largest)

        pub never_given : e' ≡ 0 → record { refusal = refusal.PastHorizon; estimate = 0 } ≡ longest_estimate m q
        never_given z =
            answer_refused m q refusal.PastHorizon
            (refused_as_one m q l ∙ room_past m q f (λ r. omega (arith, room_most clock_to w' g' 1 (omega arith) f.estimate_to r))) refl
