-- The points of a conservative model and their index, kept in lists beside it. EASY keeps none.
-- Assumes nothing.
use Rattle.std.specs.Prelude.{ℕ, ◌+◌, ◌≤◌, ◌≡◌, List, [], ◌∷◌}
use Rattle.std.proofs.Common.{arith, sym, ap, ◌∙◌}
use Rattle.std.proofs.Math.Path.{subst}
use Rattle.scheduler.specs.declared.Kind.{Kind}
use Rattle.scheduler.specs.declared.Kind.TheVariants.{Conservative, Easy}
use Rattle.scheduler.specs.declared.Outcome.{Outcome}
use Rattle.scheduler.specs.declared.Scheduler.{Scheduler}
use Rattle.scheduler.specs.declared.Settings.{Settings}
use Rattle.scheduler.specs.Limits.{horizon}
use Rattle.scheduler.specs.Model.{Model, view}
use Rattle.scheduler.specs.Answers.{Result, outcome}
use Rattle.history.specs.Calls.{Call}
use Rattle.conservative_rules.specs.Conservative as conservative
use Rattle.conservative_rules.specs.Conservative.{spans}
use Rattle.guarantees.specs.Rules.{call}
use Rattle.guarantees.specs.Premise.{Premise, premise_of, rules_of_lem, call_valid, valid_view}
use Rattle.guarantees.specs.Cleanup.{settings_stay}
use Rattle.quiet_minutes.specs.QuietTicks.{passed_over}
use Rattle.conservative_table.specs.ProfileLists.{IsProfile, Advancing}
use Rattle.conservative_index.specs.BuiltIndex.{Indexed}
use Rattle.conservative_kept.specs.Beside.{Beside}
use Rattle.conservative_kept.specs.Tick.{advances_to_lem, waited_profile}

-- the lists beside a model are its points and their index, if it is a conservative one
pub record KeptBeside (m : Model) (n : ℕ) (ms fs lo hi : List ℕ) : Type 0 where
  pub beside : m.settings.kind ≡ Conservative → Beside m n ms fs lo hi

-- EASY is another kind
pub not_easy : {A : Type 0} (k : Kind) → k ≡ Easy → k ≡ Conservative → A
not_easy k e q = absurd (let w : Easy ≡ Conservative = sym e ∙ q in let z : ◌≡◌ {A = ℕ} 0 1 = cc in omega arith)

-- calls keep the kind
pub kind_after : (d : Scheduler) (c : Call) → Premise d → (call (view d) c).model.settings.kind ≡ d.settings.kind
unfolding view
kind_after d c h = ap (λ (S : Settings). S.kind) (settings_stay (view d) (c ∷ []) h.holds)

module _ (d : Scheduler) {n : ℕ} {ms fs lo hi : List ℕ} where
  pub beside_of : d.settings.kind ≡ Conservative → KeptBeside (view d) n ms fs lo hi → Beside (view d) n ms fs lo hi
  unfolding view
  beside_of e b = b.beside e

  pub none_beside : d.settings.kind ≡ Easy → KeptBeside (view d) n ms fs lo hi
  unfolding view
  none_beside e = record { beside = λ q. not_easy d.settings.kind e q }

  -- after a call by the kind's rules
  module _ (c : Call) (h : Premise d) where
    pub beside_after : d.settings.kind ≡ Conservative → Beside (conservative.call (view d) c).model n ms fs lo hi → KeptBeside (call (view d) c).model n ms fs lo hi
    beside_after e b = record { beside = λ q. subst (λ (x : Result). Beside x.model n ms fs lo hi) (sym (rules_of_lem d Conservative c e)) b }

    pub none_after : d.settings.kind ≡ Easy → KeptBeside (call (view d) c).model n ms fs lo hi
    none_after e = record { beside = λ q. not_easy d.settings.kind e (sym (kind_after d c h) ∙ q) }

-- as it is handed back
pub beside_handed : (d : Scheduler) (c : Call) (r : Outcome) → Premise d → r ≡ outcome (call (view d) c) → {n : ℕ} {ms fs lo hi : List ℕ}
    → KeptBeside (call (view d) c).model n ms fs lo hi → KeptBeside (view r.scheduler) n ms fs lo hi
beside_handed d c r h e {n} {ms} {fs} {lo} {hi} b =
    subst (λ (x : Outcome). KeptBeside (view x.scheduler) n ms fs lo hi) (sym e)
    (subst (λ (m : Model). KeptBeside m n ms fs lo hi) (sym (valid_view (call (view d) c).model (call_valid (view d) c h.holds))) b)

-- ## Minutes passed over

-- none
pub passed_none : (d : Scheduler) (k : ℕ) → k ≡ 0 → {n : ℕ} {ms fs lo hi : List ℕ} → KeptBeside (view d) n ms fs lo hi
    → KeptBeside (view (passed_over d k)) n ms fs lo hi
passed_none d k z {n} {ms} {fs} {lo} {hi} b =
    let e : d.clock + k ≡ d.clock = omega arith in
    let p : passed_over d k ≡ d = λ i. record { settings = d.settings; clock = e i; next = d.next; jobs = d.jobs } in
    subst (λ (x : Scheduler). KeptBeside (view x) n ms fs lo hi) (sym p) b

-- a scheduler's clock is moved on to this minute, and the lists are those beside it before
pub record Passing (kind : Kind) (clock n : ℕ) (ms fs lo hi : List ℕ) : Type 0 where
  pub scheduler : Scheduler
  pub minutes : ℕ
  pub premise : Premise scheduler
  pub beside : KeptBeside (view scheduler) n ms fs lo hi
  pub kind_is : kind ≡ scheduler.settings.kind
  pub clock_is : clock ≡ scheduler.clock + minutes
  pub until : clock ≤ horizon

module _ {kind : Kind} {clock n : ℕ} {ms fs lo hi : List ℕ} (q : Passing kind clock n ms fs lo hi) where
  -- of a conservative one
  module _ (e : kind ≡ Conservative) where
    abbrev d : Scheduler
    d = q.scheduler

    own : d.settings.kind ≡ Conservative
    own = sym q.kind_is ∙ e

    beside_own : Beside (view d) n ms fs lo hi
    beside_own = beside_of d own q.beside

    pub passing_advances : Advancing ms fs n clock × Indexed fs n lo hi
    unfolding view
    passing_advances = (
      advances_to_lem (view d) (premise_of d Conservative own q.premise).holds beside_own.profile clock (omega (arith, q.clock_is)) q.until,
      beside_own.indexed,
    )

    pub passed_on : {r : ℕ} {ms' fs' lo' hi' : List ℕ} → ((l : Advancing ms fs n clock) → IsProfile l.machine l.spans clock r ms' fs')
        → Indexed fs' r lo' hi' → KeptBeside (view (passed_over d q.minutes)) r ms' fs' lo' hi'
    unfolding view
    passed_on {r} {ms'} {fs'} {lo'} {hi'} f i =
        let v = (premise_of d Conservative own q.premise).holds in
        let p = waited_profile (view d) v beside_own.profile clock (omega (arith, q.clock_is)) q.until f in
        record {
          beside = λ k. record {
            profile = subst (λ (t : ℕ). IsProfile d.settings.nodes (spans d.settings (view d).jobs) t r ms' fs') q.clock_is p;
            indexed = i;
          };
        }

  -- of EASY
  pub passed_easy : kind ≡ Easy → KeptBeside (view (passed_over q.scheduler q.minutes)) n ms fs lo hi
  passed_easy e = none_beside (passed_over q.scheduler q.minutes) (sym q.kind_is ∙ e)
