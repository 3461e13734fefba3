-- The pass after an early end or a withdrawal, repeated until it moves no job (document 02, No. 10). It ends, it keeps all that one pass keeps, and
-- another pass after it moves no job.
-- Assumes nothing.
use Prim.Native.Nat.{ℕ, zero, suc, ◌≤◌, ◌<◌}
use Rattle.std.proofs.Common.{arith, ap₂, subst, ◌∙◌, eqb-true, eq-eqb, ne_eqb}
use Rattle.std.specs.Prelude.{◌≡◌, refl, true, false, List, [], ◌∷◌, eqb, length}
use Rattle.std.proofs.Math.Path.{sym, ap}
use Rattle.std.proofs.lemmas.Bool.{eqb-false}
use Rattle.lists.specs.Tests.{case, true_false, both}
use Rattle.lists.specs.Lists.{sum, In, here, there}
use Rattle.spans.specs.Spans.{used}
use Rattle.scheduler.specs.declared.Departure.{Departure}
use Rattle.scheduler.specs.declared.Job.{Job}
use Rattle.scheduler.specs.declared.Select.TheVariants as select
use Rattle.scheduler.specs.Jobs.{is_waiting}
use Rattle.scheduler.specs.declared.Settings.{Settings}
use Rattle.scheduler.specs.Table.{remaining}
use Rattle.scheduler.specs.Model.{Model}
use Rattle.jobs.specs.Soundness.{early, sound_leave, remained_waits, waiting_is, waiting_clean}
use Rattle.conservative_rules.specs.Conservative.{spans, state_at, placed, pass, start_of, unmoved, passes, compressed}
use Rattle.conservative_laws.specs.Validity.{Valid, Zip, zip_right, Follows, stays, moves, follows_start, follows_ahead, pass_follows, used_remaining}
use Rattle.conservative_laws.specs.PassLoop.{loop, pass_as_loop}

-- a job that a turn can move, or leave as it is
pub record Movable (S : Settings) (now : ℕ) (j : Job) : Type 0 where
  pub nodes_to : j.nodes ≤ S.nodes
  pub ahead : is_waiting j ≡ true → now < j.start
  pub no_end : is_waiting j ≡ true → j.end ≡ 0

-- jobs over which passes can go
pub record Compressible (S : Settings) (now : ℕ) (js : List Job) : Type 0 where
  pub each : (j : Job) → In j js → Movable S now j
  pub room : (t : ℕ) → now ≤ t → used t (spans S js) ≤ S.nodes

-- those that remain in a valid model after a departure
pub left_compressible : (m : Model) (h : Departure) (t : ℕ) → Valid m
    → Compressible m.settings m.clock (remaining m.settings m.clock (select.Departing h t) m.jobs)
left_compressible m h t v = record {
  each = λ j i.
      let s = (sound_leave m m.clock (select.Departing h t) v.sound (early h t)).each j i in
      record {
        nodes_to = s.nodes_to;
        ahead = λ w. v.ahead j (remained_waits m.settings m.clock (select.Departing h t) m.jobs i w).0 w;
        no_end = λ w. s.no_end (waiting_clean j.state w);
      };
  room = λ r a. omega (arith, v.room r a, used_remaining m m.clock (select.Departing h t) v.sound (early h t) r);
}

-- one that waits is as it is where it is planned
pub placed_still : (now : ℕ) (j : Job) → is_waiting j ≡ true → now < j.start → j.end ≡ 0 → placed now j.start j ≡ j
placed_still now j w l n = λ i. record {
  ticket = j.ticket;
  nodes = j.nodes;
  estimate = j.estimate;
  state = state_is i;
  tenant = j.tenant;
  least = j.least;
  rank = j.rank;
  start = j.start;
  promise = j.promise;
  end = sym n i;
  submitted = j.submitted;
  forecast = j.forecast;
}
  where
    state_is : state_at now j.start ≡ j.state
    state_is = rw (ne_eqb j.start now (λ z. omega arith)) (sym (waiting_is j.state w))

module _ (S : Settings) (now : ℕ) where
  pub follows_movable : (j k : Job) → Follows now j k → Movable S now j → Movable S now k
  follows_movable j k (stays e) m = m
  follows_movable j k (moves s e a b) m = record { nodes_to = m.nodes_to; ahead = follows_ahead now j (placed now s j) (moves s e a b); no_end = λ w. refl }

  -- a job with the same start is the same job
  pub follows_still : (j k : Job) → Follows now j k → Movable S now j → k.start ≡ j.start → k ≡ j
  follows_still j k (stays e) m q = refl
  follows_still j k (moves s e a b) m q = ap (λ (x : ℕ). placed now x j) q ∙ placed_still now j e (m.ahead e) (m.no_end e)

  follows_twice : (i j k : Job) → Follows now i j → Follows now j k → Follows now i k
  follows_twice i j k (stays e) g = g
  follows_twice i j k (moves s e a b) (stays f) = moves s e a b
  follows_twice i j k (moves s e a b) (moves r f c d) = moves r e c (omega arith)

  zip_same : (js : List Job) → ((j : Job) → In j js → Movable S now j) → Zip (Follows now) js js
  zip_same [] f = tt
  zip_same (j ∷ js) f = (stays (f j (here refl)).ahead, zip_same js (λ x i. f x (there i)))

  zip_twice : (is js ks : List Job) → Zip (Follows now) is js → Zip (Follows now) js ks → Zip (Follows now) is ks
  zip_twice [] [] ks x y = y
  zip_twice [] (j ∷ js) ks x y = absurd x
  zip_twice (i ∷ is) [] ks x y = absurd x
  zip_twice (i ∷ is) (j ∷ js) [] x y = absurd y
  zip_twice (i ∷ is) (j ∷ js) (k ∷ ks) x y = (follows_twice i j k x.0 y.0, zip_twice is js ks x.1 y.1)

  -- where no job has another start nothing has changed
  zip_still : (js ks : List Job) → ((j : Job) → In j js → Movable S now j) → Zip (Follows now) js ks → unmoved js ks ≡ true → ks ≡ js
  zip_still [] [] f z u = refl
  zip_still [] (k ∷ ks) f z u = absurd z
  zip_still (j ∷ js) [] f z u = absurd z
  zip_still (j ∷ js) (k ∷ ks) f z u =
      let b = both (eqb k.start j.start) (unmoved js ks) u in
      ap₂ (λ (x : Job) (xs : List Job). x ∷ xs) (follows_still j k z.0 (f j (here refl)) (eqb-true k.start j.start b.0))
      (zip_still js ks (λ x i. f x (there i)) z.1 b.1)

  -- no start gets later: the sum of starts does not rise, and falls where a job moves
  zip_starts : (js ks : List Job) → Zip (Follows now) js ks → sum start_of ks ≤ sum start_of js
  zip_starts [] [] z = omega arith
  zip_starts [] (k ∷ ks) z = absurd z
  zip_starts (j ∷ js) [] z = absurd z
  zip_starts (j ∷ js) (k ∷ ks) z = omega (arith, follows_start now j k z.0, zip_starts js ks z.1)

  zip_falls : (js ks : List Job) → Zip (Follows now) js ks → unmoved js ks ≡ false → sum start_of ks < sum start_of js
  zip_falls [] [] z u = true_false true refl u
  zip_falls [] (k ∷ ks) z u = absurd z
  zip_falls (j ∷ js) [] z u = absurd z
  zip_falls (j ∷ js) (k ∷ ks) z u =
      case (eqb k.start j.start)
      (λ e. omega (arith, follows_start now j k z.0, zip_falls js ks z.1 (rw e at u)))
      (λ e. omega (arith, follows_start now j k z.0, eqb-false k.start j.start e, zip_starts js ks z.1))

  pub unmoved_same : (js : List Job) → unmoved js js ≡ true
  unmoved_same [] = refl
  unmoved_same (j ∷ js) = rw (eq-eqb j.start j.start refl, unmoved_same js)

  -- ## One pass

  -- a whole pass
  abbrev passed : List Job → List Job
  passed js = pass S now [] js

  module _ (js : List Job) (c : Compressible S now js) where
    pub passed_follows : Zip (Follows now) js (passed js)
    passed_follows = (pass_follows S now [] js (λ j i. (c.each j i).nodes_to) (λ j i. (c.each j i).ahead) (λ t a. omega (arith, c.room t a))).0

    pub passed_ready : Compressible S now (passed js)
    passed_ready = record {
      each = λ k i. let b = zip_right (Follows now) js (passed js) passed_follows i in follows_movable b.0 k b.2 (c.each b.0 b.1);
      room = λ t a.
          omega (arith, (pass_follows S now [] js (λ j i. (c.each j i).nodes_to) (λ j i. (c.each j i).ahead) (λ t a. omega (arith, c.room t a))).1 t a);
    }

    passed_still : unmoved js (passed js) ≡ true → passed js ≡ js
    passed_still u = zip_still js (passed js) c.each passed_follows u

    passed_falls : unmoved js (passed js) ≡ false → sum start_of (passed js) < sum start_of js
    passed_falls u = zip_falls js (passed js) passed_follows u

  -- ## Passes

  -- "until a whole pass moves nothing": a pass is the turns of all jobs by their indices (z stands for what is past the list)
  pub data Repeats (z : Job) : List Job → List Job → Type 0 where
    last : (js : List Job) → loop S now z (length js) 0 js ≡ js → Repeats z js js
    again : (js ks : List Job) → Repeats z (loop S now z (length js) 0 js) ks → Repeats z js ks

  pub record Compressed (js ks : List Job) : Type 0 where
    pub follow : Zip (Follows now) js ks
    pub ready : Compressible S now ks
    pub still : pass S now [] ks ≡ ks
    pub repeats : (z : Job) → Repeats z js ks

  passes_is : (n : ℕ) (js : List Job) → sum start_of js < n → Compressible S now js → Compressed js (passes S now n js)
  unfolding passes
  passes_is zero js l c = absurd (omega arith)
  passes_is (suc n) js l c =
      case (unmoved js (passed js))
      (λ u. rw u (done (passed_still js c u)))
      (λ u. rw u (more (passes_is n (passed js) (omega (arith, passed_falls js c u)) (passed_ready js c))))
    where
      as_loop : (z : Job) → passed js ≡ loop S now z (length js) 0 js
      as_loop z = sym (pass_as_loop S now z js (λ j i. (c.each j i).nodes_to))

      done : passed js ≡ js → Compressed js (passed js)
      done e = subst (Compressed js) (sym e) (record { follow = zip_same js c.each; ready = c; still = e; repeats = λ z. last js (sym (as_loop z) ∙ e) })

      more : {ks : List Job} → Compressed (passed js) ks → Compressed js ks
      more {ks} r = record {
        follow = zip_twice js (passed js) ks (passed_follows js c) r.follow;
        ready = r.ready;
        still = r.still;
        repeats = λ z. again js ks (subst (λ (xs : List Job). Repeats z xs ks) (as_loop z) (r.repeats z));
      }

  -- this number of passes is enough
  pub compressed_is : (js : List Job) → Compressible S now js → Compressed js (compressed S now js)
  unfolding compressed
  compressed_is js c = passes_is (suc (sum start_of js)) js (omega arith) c

  -- ## For code

  passes_any : (n k : ℕ) (js : List Job) → sum start_of js < n → sum start_of js < k → Compressible S now js → passes S now n js ≡ passes S now k js
  unfolding passes
  passes_any zero k js a b c = absurd (omega arith)
  passes_any (suc n) zero js a b c = absurd (omega arith)
  passes_any (suc n) (suc k) js a b c =
      case (unmoved js (passed js))
      (λ u. rw u)
      (λ u. let l = passed_falls js c u in rw u (passes_any n k (passed js) (omega arith) (omega arith) (passed_ready js c)))

  -- once a pass moves no job it is over
  pub compressed_still : (js : List Job) → pass S now [] js ≡ js → compressed S now js ≡ js
  unfolding compressed passes
  compressed_still js e = rw (e, unmoved_same js)

  -- and a pass more or less makes no difference
  pub compressed_passed : (js : List Job) → Compressible S now js → compressed S now (pass S now [] js) ≡ compressed S now js
  unfolding compressed passes
  compressed_passed js c =
      case (unmoved js (passed js))
      (λ u. let e = passed_still js c u in ap (compressed S now) e ∙ compressed_still js e ∙ rw u (sym e))
      (λ u. let l = passed_falls js c u in rw u (passes_any (suc (sum start_of (passed js))) (sum start_of js) (passed js) (omega arith) l (passed_ready js c)))
