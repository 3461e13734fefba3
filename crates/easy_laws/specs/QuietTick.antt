-- A tick at which no run ends and no nodes are released: nothing can start, and only the clock moves.
-- Assumes nothing.
use Prim.Native.Nat.{ℕ, suc, ◌+◌, ◌≤◌, ◌<◌}
use Rattle.std.proofs.Common.{arith, sym, subst, ◌∙◌, ⊎_elim}
use Rattle.std.specs.Prelude.{◌≡◌, true, false}
use Rattle.std.proofs.Math.Path.{refl, ap}
use Rattle.std.proofs.Math.Bool.{Bool}
use Rattle.std.proofs.Math.Option.{Option, none, some}
use mathlib.Core.List.{List, [], ◌∷◌}
use Rattle.std.proofs.Math.Dec.{leb}
use borrow.Author.Tests.{leb-true, leb-false, le-leb, lt-leb, le-ltb, eq-eqb}
use Rattle.lists.specs.Tests.{case, true_false, both, either}
use Rattle.lists.specs.Lists.{first, In, here, there, keep_none}
use Rattle.scheduler.specs.declared.Job.{Job}
use Rattle.scheduler.specs.Jobs.{ends_at, released_at}
use Rattle.scheduler.specs.Settings.{horizon, hold_time}
use Rattle.scheduler.specs.Table.{tickets_of, ended_of}
use Rattle.scheduler.specs.Model.{Model, ending, without}
use Rattle.scheduler.specs.Answers.{Reply, Forecast, verdict, refusing}
use Rattle.scheduler.specs.Refusals.{tick_refusal}
use Rattle.scheduler.specs.declared.Refusal.TheVariants as refusal
use Rattle.jobs.specs.Soundness.{Sound, all_remain}
use Rattle.history.specs.Calls.{tick}
use Rattle.easy_rules.specs.Easy.{queue, head, free, avail, shadow, extra, qualifies, pick, choice, Settling, forecast, noted, finished, advanced, call}
use Rattle.easy_laws.specs.Settling.{shadow_min, sound_releasing, shadow_holds, none_starts}
use Rattle.easy_laws.specs.Course.{head_in, rest_shadow}
use Rattle.easy_laws.specs.Validity.{Valid, ticks, moved_ready}
use Rattle.easy_laws.specs.EngineLaws.{shadow_is, settle_rests}

-- a minute later
abbrev pub later : Model → Model
later m = record { settings = m.settings; clock = suc m.clock; next = m.next; jobs = m.jobs }

none_first : {A : Type 0} (p : A → Bool) (xs : List A) → ((a : A) → In a xs → p a ≡ false) → first p xs ≡ none
none_first p [] f = refl
none_first p (x ∷ xs) f = rw (f x (here refl)) (none_first p xs (λ a i. f a (there i)))

abbrev replied : List ℕ → Option Forecast → Reply
replied ts o = record { refusal = refusal.None; ticket = 0; promise = 0; reads = 0; ended = []; started = ts; head = o }

module _ (m : Model) (v : Valid m) (l : suc m.clock ≤ horizon m.settings)
    (none_ends : (j : Job) → In j m.jobs → ends_at m.settings (suc m.clock) j ≡ false)
    (none-released : (j : Job) → In j m.jobs → released_at m.settings (suc m.clock) j ≡ false) where
  nobody_leaves : without m (suc m.clock) (ending m) ≡ later m
  nobody_leaves = λ i. record {
    settings = m.settings;
    clock = suc m.clock;
    next = m.next;
    jobs = all_remain m.settings (suc m.clock) (ending m) m.jobs none_ends (λ j k. rw (none_ends j k, none-released j k)) i;
  }

  later_sound : Sound (later m)
  later_sound = subst Sound nobody_leaves (moved_ready (ticks l) v).sound

  module _ (h : Job) (rest : List Job) (q : queue m.jobs ≡ h ∷ rest) where
    -- the shadow stays
    shadow_stays : shadow m h.nodes ≡ shadow (later m) h.nodes
    shadow_stays =
        let s = v.ready.sound in
        let n = (s.each h (head_in m h rest q).0).nodes_to in
        shadow_is (later m) h.nodes (shadow m h.nodes) (sound_releasing (later m) later_sound) n (rest_shadow m h rest q s v.rests) (shadow_holds m h.nodes s n)
        (λ k a b. lacks k (omega arith) b)
      where
        lacks : (k : ℕ) → m.clock ≤ k → k < shadow m h.nodes → avail m k < h.nodes
        lacks k a b =
            case (leb h.nodes (avail m k))
            (λ t. absurd (omega (arith, shadow_min m h.nodes k (leb-true h.nodes (avail m k) t) a)))
            (λ t. leb-false h.nodes (avail m k) t)

    -- and rule (i) is harder to meet
    no_sooner : (j : Job) → qualifies m h j ≡ false → qualifies (later m) h j ≡ false
    unfolding qualifies extra
    no_sooner j f = case (qualifies (later m) h j) (λ t. true_false (qualifies m h j) (before t) f) (λ t. t)
      where
        one : ℕ → Bool
        one c = leb (c + hold_time m.settings j.estimate) (shadow m h.nodes)

        before : qualifies (later m) h j ≡ true → qualifies m h j ≡ true
        before t =
            let p = both (leb j.nodes (free m)) _ (rw (← shadow_stays) at t) in
            rw p.0
            (⊎_elim
            (λ (i : one (suc m.clock) ≡ true). rw (le-leb (m.clock + hold_time m.settings j.estimate) (shadow m h.nodes)
            (omega (arith, leb-true _ (shadow m h.nodes) i))))
            (λ i. case (one m.clock) (λ y. rw y) (λ y. rw y i))
            (either (one (suc m.clock)) _ p.1))

    still_rests : pick (later m) (h ∷ rest) ≡ none
    unfolding pick
    still_rests =
        let n = none_starts m h rest (ap (pick m) (sym q) ∙ v.rests) in
        rw (lt-leb h.nodes (free m) n.0) (none_first (qualifies (later m) h) rest (λ j i. no_sooner j (n.1 j i)))

  later_rests : choice (later m) ≡ none
  unfolding pick
  later_rests = by (queue m.jobs) refl
    where
      by : (q : List Job) → queue m.jobs ≡ q → choice (later m) ≡ none
      by [] x = rw x
      by (h ∷ rest) x = rw x (still_rests h rest x)

  no_forecast : forecast m (later m) ≡ none
  unfolding forecast
  no_forecast = by (head m) refl
    where
      by : (o : Option Job) → head m ≡ o → forecast m (later m) ≡ none
      by none x = rw x
      by (some h) x = rw (x, eq-eqb h.ticket h.ticket refl)

  quiet_finish : finished m (later m) 0 [] ≡ record { reply = refusing refusal.None; model = later m }
  unfolding finished
  quiet_finish =
      ap (λ (s : Settling). record { reply = replied s.started (forecast m s.model); model = noted (forecast m s.model) s.model })
      (settle_rests (later m) later_rests)
      ∙ ap (λ (o : Option Forecast). record { reply = replied [] o; model = noted o (later m) }) no_forecast

  pub quiet_tick : call m tick ≡ record { reply = refusing refusal.None; model = later m }
  unfolding call tick_refusal verdict advanced
  quiet_tick =
      rw (le-ltb (horizon m.settings) (suc m.clock) l)
      (ap (λ (x : Model). finished m x 0 (ended_of (ending m) m.jobs)) nobody_leaves
      ∙ ap (λ (js : List Job). finished m (later m) 0 (tickets_of js)) (keep_none (ends_at m.settings (suc m.clock)) m.jobs none_ends)
      ∙ quiet_finish)
