-- Corrected orders in place: the model in which the job has shrunk is valid, and jobs of a valid model that move leave it so.
-- Assumes nothing.
use Rattle.std.specs.Prelude.{ℕ, ◌≤◌, ◌<◌, ◌≡◌, true, List, map, ◌⊎◌}
use Rattle.std.proofs.Common.{arith, sym, ap, subst, ◌∙◌, inl, inr}
use Rattle.lists.specs.Tests.{le_or}
use Rattle.lists.specs.Lists.{In, sum_map, sum_le}
use Rattle.spans.specs.declared.Span.{Span}
use Rattle.spans.specs.Spans.{takes, used}
use Rattle.spans.proofs.UsedNodes.{takes_in, takes_before, takes_after}
use Rattle.scheduler.specs.declared.Job.{Job}
use Rattle.scheduler.specs.declared.Settings.{Settings}
use Rattle.scheduler.specs.States.{waiting?}
use Rattle.scheduler.specs.Jobs.{is_waiting}
use Rattle.scheduler.specs.Model.{Model, with_model_jobs}
use Rattle.scheduler.specs.declared.Amendment.{Amendment}
use Rattle.scheduler.specs.Amending.{supersede, in_place_of}
use Rattle.jobs.specs.Order.{asc_same}
use Rattle.jobs.specs.Soundness.{SoundJob, waiting_clean}
use Rattle.jobs.specs.Amended.{InRange, Shrinks, kept_state, kept_start, kept_promise_lem, kept_submitted, kept_rank, kept_forecast, fewer_nodes, sooner_until, superseded_in, inplace_sound}
use Rattle.conservative_rules.specs.Conservative.{span, spans}
use Rattle.conservative_laws.specs.Validity.{Unranked, Valid, taken, used_jobs, zip_right, zip_length, zip_live, zip_tickets, held_used, Follows, Moved}
use Rattle.conservative_laws.specs.Validity.{follows_ticket, follows_tenant, follows_promise, follows_start, follows_ahead, follows_unranked, follows_sound}
use Rattle.conservative_laws.specs.Compression.{Compressible}

-- who takes fewer nodes, for no longer, takes no more in any minute
pub takes_fewer : (t : ℕ) (x y : Span) → x.from ≡ y.from → x.until ≤ y.until → x.nodes ≤ y.nodes → takes t x ≤ takes t y
takes_fewer t x y a b c = go (le_or x.from t) (le_or x.until t)
  where
    go : (x.from ≤ t) ⊎ (t < x.from) → (x.until ≤ t) ⊎ (t < x.until) → takes t x ≤ takes t y
    go (inr p) q = omega (arith, takes_before t x p)
    go (inl p) (inl q) = omega (arith, takes_after t x q)
    go (inl p) (inr q) = omega (arith, takes_in t x p q, takes_in t y (omega arith) (omega arith))

pub valid_compressible : (m : Model) → Valid m → Compressible m.settings m.clock m.jobs
valid_compressible m v = record {
  each = λ j i. record {
    nodes_to = (v.sound.each j i).nodes_to;
    ahead = v.ahead j i;
    no_end = λ w. (v.sound.each j i).no_end (waiting_clean j.state w);
  };
  room = v.room;
}

pub moved_valid : (m : Model) (ks : List Job) → Valid m → Moved m.settings m.clock m.jobs ks → Valid (with_model_jobs m ks)
moved_valid m ks v g = record {
  kind = v.kind;
  sound = record {
    nodes_from = v.sound.nodes_from;
    nodes_to = v.sound.nodes_to;
    longest_from = v.sound.longest_from;
    longest_to = v.sound.longest_to;
    cleanup_to = v.sound.cleanup_to;
    quotas = v.sound.quotas;
    one_each = v.sound.one_each;
    clock_to = v.sound.clock_to;
    next_from = v.sound.next_from;
    next_to = v.sound.next_to;
    few = omega (arith, v.sound.few, zip_length (Follows now) m.jobs ks g.follow);
    asc = asc_same 1 m.jobs ks (zip_tickets (Follows now) m.jobs ks (follows_ticket now) g.follow) v.sound.asc;
    below = λ k i. let b = beside k i in omega (arith, v.sound.below b.0 b.1, follows_ticket now b.0 k b.2);
    each = each;
    capacity = omega (arith, held_used m.settings now ks each, g.room now (omega arith));
    shares = λ t. omega (arith, v.sound.shares t, zip_live (Follows now) t m.jobs ks (follows_tenant now) g.follow);
  };
  room = g.room;
  promised = λ k i.
      let b = beside k i in
      omega (arith, v.promised b.0 b.1, follows_start now b.0 k b.2, follows_promise now b.0 k b.2);
  promise_to = λ k i. let b = beside k i in omega (arith, v.promise_to b.0 b.1, follows_promise now b.0 k b.2);
  ahead = λ k i w. let b = beside k i in follows_ahead now b.0 k b.2 w;
  unranked = λ k i. let b = beside k i in follows_unranked now b.0 k b.2 (v.unranked b.0 b.1);
}
  where
    now : ℕ
    now = m.clock

    beside : (k : Job) → In k ks → (j : Job) × In j m.jobs × Follows now j k
    beside k i = zip_right (Follows now) m.jobs ks g.follow i

    each : (k : Job) → In k ks → SoundJob m.settings now k
    each k i = let b = beside k i in follows_sound m.settings now b.0 k (v.sound.each b.0 b.1) b.2

-- ## The job has shrunk

-- no minute has more nodes taken
used_no_more : (m : Model) (a : Amendment) → Shrinks m a → (t : ℕ)
    → used t (spans m.settings (map (supersede a) m.jobs)) ≤ used t (spans m.settings m.jobs)
used_no_more m a g t =
    omega (
      arith,
      used_jobs S t m.jobs,
      used_jobs S t (map (supersede a) m.jobs),
      sum_map (taken S t) (supersede a) m.jobs,
      sum_le (λ (j : Job). taken S t (supersede a j)) (taken S t) m.jobs
          (λ j i. takes_fewer t (span S (supersede a j)) (span S j) (kept_start a j) (sooner_until S a j (g j i)) (fewer_nodes S a j (g j i))),
    )
  where
    S : Settings
    S = m.settings

module _ (m : Model) (a : Amendment) (r : InRange m.settings a) (g : Shrinks m a) (v : Valid m) where
  pub inplace_valid : Valid (in_place_of m a)
  inplace_valid = record {
    kind = v.kind;
    sound = inplace_sound m a r g v.sound;
    room = λ t l. omega (arith, v.room t l, used_no_more m a g t);
    promised = λ x i.
        let j = superseded_in m a r g x i in
        omega (
          arith,
          v.promised j.0 j.1,
          ap (λ (y : Job). y.start) j.2,
          ap (λ (y : Job). y.promise) j.2,
          kept_start a j.0,
          kept_promise_lem a j.0,
        );
    promise_to = λ x i.
        let j = superseded_in m a r g x i in
        omega (arith, v.promise_to j.0 j.1, ap (λ (y : Job). y.promise) j.2, kept_promise_lem a j.0);
    ahead = λ x i w.
        let j = superseded_in m a r g x i in
        let q : is_waiting j.0 ≡ true = sym (ap waiting? (kept_state a j.0)) ∙ sym (ap is_waiting j.2) ∙ w in
        omega (arith, v.ahead j.0 j.1 q, ap (λ (y : Job). y.start) j.2, kept_start a j.0);
    unranked = λ x i.
        let j = superseded_in m a r g x i in
        let u = v.unranked j.0 j.1 in
        subst Unranked (sym j.2) (kept_submitted a j.0 ∙ u.0, kept_rank a j.0 ∙ u.1, kept_forecast a j.0 ∙ u.2);
  }
