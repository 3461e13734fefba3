-- Quiet minutes can be passed over, on either kind: a tick at which nothing is due answers nothing and moves only the clock, and what is
-- valid stays valid.
-- Assumes nothing.
use Rattle.std.specs.Prelude.{ℕ, zero, suc, ◌+◌, ◌≤◌, ◌≡◌, false, ◌||◌, replicate}
use Rattle.std.proofs.Common.{arith, sym, ap, subst, ◌∙◌}
use Rattle.lists.specs.Tests.{neither}
use Rattle.lists.specs.Lists.{In}
use Rattle.scheduler.specs.declared.Kind.{Kind}
use Rattle.scheduler.specs.declared.Kind.TheVariants.{Conservative, Easy}
use Rattle.scheduler.specs.declared.Job.{Job}
use Rattle.scheduler.specs.declared.Refusal.TheVariants as refusal
use Rattle.scheduler.specs.declared.Scheduler.{Scheduler}
use Rattle.scheduler.specs.Jobs.{ends_at, released_at}
use Rattle.scheduler.specs.Limits.{horizon}
use Rattle.scheduler.specs.Model.{Model, store, view}
use Rattle.scheduler.specs.Answers.{Result, refusing}
use Rattle.scheduler.specs.Refusals.{tick_refusal}
use Rattle.history.specs.Calls.{tick, after}
use Rattle.conservative_laws.specs.Sentences as conservative-sentences
use Rattle.conservative_laws.specs.Sentences.{starts_at}
use Rattle.easy_laws.specs.Sentences as easy-sentences
use Rattle.guarantees.specs.Rules.{rules_of, call}
use Rattle.guarantees.specs.Premise.{Valid, ValidBy, Premise, call_valid}
use Rattle.guarantees.specs.Chain.{handed, handed_is}
use Rattle.easy_laws.specs.QuietTick as easy
use Rattle.advance_rules.specs.Advance.{due_at}
use Rattle.quiet_minutes.specs.DueMinutes.{Quiet}
use Rattle.quiet_minutes.specs.ConservativeTick as conservative

-- a tick is judged alike by both kinds
pub tick_refusal_lem : (m : Model) → (call m tick).reply.refusal ≡ tick_refusal m
unfolding tick_refusal
tick_refusal_lem m = by m.settings.kind
  where
    by : (k : Kind) → (rules_of k m tick).reply.refusal ≡ tick_refusal m
    by Conservative = conservative-sentences.tick_refusal_lem m
    by Easy = easy-sentences.refusal_is m tick

-- k minutes later, with the same jobs
abbrev pub passed : Model → ℕ → Model
passed m k = record { settings = m.settings; clock = m.clock + k; next = m.next; jobs = m.jobs }

module _ (m : Model) (v : Valid m) (l : suc m.clock ≤ horizon) (q : (j : Job) → In j m.jobs → due_at m.settings (suc m.clock) j ≡ false) where
  abbrev n : ℕ
  n = suc m.clock

  held : (j : Job) → In j m.jobs → (ends_at m.settings n j || released_at m.settings n j) ≡ false
  held j i = (neither (ends_at m.settings n j || released_at m.settings n j) (starts_at n j) (q j i)).0

  stays : (j : Job) → In j m.jobs → ends_at m.settings n j ≡ false
  stays j i = (neither (ends_at m.settings n j) (released_at m.settings n j) (held j i)).0

  holds : (j : Job) → In j m.jobs → released_at m.settings n j ≡ false
  holds j i = (neither (ends_at m.settings n j) (released_at m.settings n j) (held j i)).1

  by_kind : (k : Kind) → ValidBy k m → rules_of k m tick ≡ record { reply = refusing refusal.None; model = easy.later m }
  by_kind Conservative w =
      conservative.quiet_tick m l stays holds (λ j i. (neither (ends_at m.settings n j || released_at m.settings n j) (starts_at n j) (q j i)).1)
  by_kind Easy w = easy.quiet_tick m w l stays holds

  pub quiet_tick : call m tick ≡ record { reply = refusing refusal.None; model = passed m 1 }
  quiet_tick = by_kind m.settings.kind v
      ∙ (λ i. record { reply = refusing refusal.None; model = record { settings = m.settings; clock = next i; next = m.next; jobs = m.jobs } })
    where
      next : suc m.clock ≡ m.clock + 1
      next = omega arith

  pub tick_valid : Valid (passed m 1)
  tick_valid = subst Valid (ap (λ (r : Result). r.model) quiet_tick) (call_valid m tick v)

-- the first of the quiet minutes
pub quiet_next : (m : Model) (k : ℕ) → Quiet m (suc k) → (j : Job) → In j m.jobs → due_at m.settings (suc m.clock) j ≡ false
quiet_next m k q j i = q j i (suc m.clock) (omega arith) (omega arith)

-- and those after it
pub quiet_rest : (m : Model) (k : ℕ) → Quiet m (suc k) → Quiet (passed m 1) k
quiet_rest m k q j i t a b = q j i t (omega arith) (omega arith)

pub passed_none : (m : Model) → passed m 0 ≡ m
passed_none m = λ i. record { settings = m.settings; clock = same i; next = m.next; jobs = m.jobs }
  where
    same : m.clock + 0 ≡ m.clock
    same = omega arith

pub passed_more : (m : Model) (k : ℕ) → passed (passed m 1) k ≡ passed m (suc k)
passed_more m k = λ i. record { settings = m.settings; clock = same i; next = m.next; jobs = m.jobs }
  where
    same : m.clock + 1 + k ≡ m.clock + suc k
    same = omega arith

pub passed_valid : (k : ℕ) (m : Model) → Valid m → m.clock + k ≤ horizon → Quiet m k → Valid (passed m k)
passed_valid zero m v l q = subst Valid (sym (passed_none m)) v
passed_valid (suc k) m v l q =
    subst Valid (passed_more m k)
    (passed_valid k (passed m 1) (tick_valid m v (omega arith) (quiet_next m k q)) (omega arith) (quiet_rest m k q))

-- as many ticks lead there
pub passed_after : (k : ℕ) (m : Model) → Valid m → m.clock + k ≤ horizon → Quiet m k → after call m (replicate k tick) ≡ passed m k
passed_after zero m v l q = sym (passed_none m)
passed_after (suc k) m v l q =
    let h = quiet_next m k q in
    ap (λ (r : Result). after call r.model (replicate k tick)) (quiet_tick m v (omega arith) h)
    ∙ passed_after k (passed m 1) (tick_valid m v (omega arith) h) (omega arith) (quiet_rest m k q)
    ∙ passed_more m k

-- the scheduler k minutes later
abbrev pub passed_over : Scheduler → ℕ → Scheduler
passed_over d k = record { settings = d.settings; clock = d.clock + k; next = d.next; jobs = d.jobs }

pub passed_premise : (d : Scheduler) (k : ℕ) → Premise d → d.clock + k ≤ horizon → Quiet (view d) k → Premise (passed_over d k)
unfolding view store
passed_premise d k h l q = record { stored = ap (λ (e : Scheduler). passed_over e k) h.stored; holds = passed_valid k (view d) h.holds l q }

-- it is the one that as many calls of a tick hand back
pub passed_handed : (d : Scheduler) (k : ℕ) → Premise d → d.clock + k ≤ horizon → Quiet (view d) k → passed_over d k ≡ handed d (replicate k tick)
unfolding view store
passed_handed d k h l q =
    ap (λ (e : Scheduler). passed_over e k) h.stored
    ∙ sym (handed_is d (replicate k tick) h ∙ ap store (passed_after k (view d) h.holds l q))
