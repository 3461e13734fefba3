-- Document 02, No. 11: "Loose records now keep intake minute, .. r at intake .. and any forecast, until they leave." After every call each record
-- is one of two. The call took its job in, and the record has the minute and the rank of that intake; or it was there before, with the same minute
-- and rank. Its forecast is the one that the call gave it, or otherwise the one that it had.
-- Assumes nothing.
use Rattle.std.specs.Prelude.{ℕ, suc, ◌+◌, ◌*◌, ◌≡◌, refl, cond, List, [], ◌⊎◌, eqb}
use Rattle.std.proofs.Common.{sym, ap, ap₂, subst, ◌∙◌, inl, inr, ⊎_elim}
use Rattle.std.proofs.Math.Option.{Option, none, some}
use Rattle.lists.specs.Tests.{case}
use Rattle.lists.specs.Lists.{In, here, in_append}
use Rattle.scheduler.specs.declared.Job.{Job}
use Rattle.scheduler.specs.declared.Select.{Select}
use Rattle.scheduler.specs.declared.Select.TheVariants as select
use Rattle.scheduler.specs.Settings.{unit, bound_of}
use Rattle.scheduler.specs.Table.{ends, remaining}
use Rattle.scheduler.specs.Model.{Model, ending}
use Rattle.scheduler.specs.Answers.{Result, Forecast}
use Rattle.jobs.specs.Soundness.{remaining_in}
use Rattle.jobs.specs.Amended.{superseded_in, kept_ticket, kept_submitted, kept_rank, kept_forecast}
use Rattle.history.specs.Calls.{Call}
use Rattle.history.specs.News.{Newcomer, News, news_of}
use Rattle.history_proof.specs.Obligations.{bound_at, Comes, Recorded}
use Rattle.easy_rules.specs.Easy.{rank, forecast, call}
use Rattle.easy_laws.specs.Settling.{each_begin, Settles, rest, start}
use Rattle.easy_laws.specs.Noted.{notes, notes_by, each_noted}
use Rattle.easy_laws.specs.Validity.{Valid, OwnPart, submits, departs, amends, ticks, joiner, in_one, CallAccepted, Unchanged, taken_came, called}

-- the forecast that a job has then: the one given now, if it is this job's, otherwise the old one
abbrev pub heard_by : Option Forecast → (ticket old : ℕ) → ℕ
heard_by none t old = old
heard_by (some f) t old = cond (eqb t f.ticket) f.minute old

-- where the record k comes from, after a call that found m, took these in and gave this forecast
pub data Keeps (m : Model) (came : List Newcomer) (head : Option Forecast) (k : Job) : Type 0 where
  -- it was there
  stays : (j : Job) → In j m.jobs → k.ticket ≡ j.ticket → k.submitted ≡ j.submitted → k.rank ≡ j.rank
      → k.forecast ≡ heard_by head k.ticket j.forecast → Keeps m came head k
  -- the call took it in
  comes : (o : Newcomer) → In o came → k.ticket ≡ o.ticket → k.submitted ≡ m.clock → k.rank ≡ rank m → k.forecast ≡ heard_by head k.ticket 0
      → Keeps m came head k

module _ (m : Model) where
  -- what has the same numbers comes from there too
  keeps_as : {came : List Newcomer} {h : Option Forecast} (j k : Job) → k.ticket ≡ j.ticket → k.submitted ≡ j.submitted → k.rank ≡ j.rank
      → k.forecast ≡ j.forecast → Keeps m came h j → Keeps m came h k
  keeps_as {came} {h} j k t s r f (stays i x a b d e) =
      stays i x (t ∙ a) (s ∙ b) (r ∙ d) (f ∙ e ∙ ap (λ (u : ℕ). heard_by h u i.forecast) (sym t))
  keeps_as {came} {h} j k t s r f (comes o q a b d e) = comes o q (t ∙ a) (s ∙ b) (r ∙ d) (f ∙ e ∙ ap (λ (u : ℕ). heard_by h u 0) (sym t))

  -- before it settles
  stays_in : (came : List Newcomer) (now : ℕ) (p : Select) (k : Job) → In k (remaining m.settings now p m.jobs) → Keeps m came none k
  stays_in came now p k i =
      let j = remaining_in m.settings now p m.jobs i in
      subst (Keeps m came none) (sym j.3)
      (case (ends p j.0) (λ e. rw e (stays j.0 j.1 refl refl refl refl)) (λ e. rw e (stays j.0 j.1 refl refl refl refl)))

  moved_keeps : {c : Call} {mid : Model} {t : ℕ} {ts : List ℕ} (x : OwnPart m c mid t ts) (k : Job) → In k mid.jobs → Keeps m (joiner x) none k
  moved_keeps (submits o f room) k i =
      ⊎_elim (λ x. stays k x refl refl refl refl) (λ x. subst (Keeps m _ none) (sym (in_one x)) (comes _ (here refl) refl refl refl refl)) (in_append m.jobs i)
  moved_keeps (departs h t a) k i = stays_in [] m.clock (select.Departing h t) k i
  -- document 02, No. 13: "it supersedes that record in place and keeps .. on the Loose Desk its intake minute, r and forecast"
  moved_keeps (amends a p) k i =
      let j = superseded_in m a p.range p.shrinks k i in
      subst (Keeps m [] none) (sym j.2)
      (stays j.0 j.1 (kept_ticket a j.0) (kept_submitted a j.0) (kept_rank a j.0) (kept_forecast a j.0))
  moved_keeps (ticks l) k i = stays_in [] (suc m.clock) (ending m) k i

  -- once it has
  settled_keeps : {came : List Newcomer} {mid last : Model} {ts : List ℕ} → Settles mid last ts → ((k : Job) → In k mid.jobs → Keeps m came none k)
      → (k : Job) → In k last.jobs → Keeps m came none k
  settled_keeps (rest e) f = f
  settled_keeps {came} (start {m = mid} j e s) f =
      settled_keeps s
      (each_begin (Keeps m came none) j.ticket mid (λ k i n. f k i) (λ k i n. keeps_as k _ refl refl refl refl (f k i)))

  -- and with the forecast
  noted_keeps : {came : List Newcomer} (o : Option Forecast) (j : Job) → Keeps m came none j → Keeps m came o (notes o j)
  noted_keeps {came} o j x =
      by x (notes_by (λ (k : Job). k.ticket) (λ t k. refl) o j) (notes_by (λ (k : Job). k.submitted) (λ t k. refl) o j)
      (notes_by (λ (k : Job). k.rank) (λ t k. refl) o j) (heard o)
    where
      heard : (o : Option Forecast) → (notes o j).forecast ≡ heard_by o j.ticket j.forecast
      heard none = refl
      heard (some f) = case (eqb j.ticket f.ticket) (λ e. rw e) (λ e. rw e)

      by : Keeps m came none j → (notes o j).ticket ≡ j.ticket → (notes o j).submitted ≡ j.submitted → (notes o j).rank ≡ j.rank
          → (notes o j).forecast ≡ heard_by o j.ticket j.forecast → Keeps m came o (notes o j)
      by (stays i x a b d e) t s r f =
          stays i x (t ∙ a) (s ∙ b) (r ∙ d)
          (f ∙ ap (heard_by o j.ticket) e ∙ ap (λ (u : ℕ). heard_by o u i.forecast) (sym t))
      by (comes q z a b d e) t s r f =
          comes q z (t ∙ a) (s ∙ b) (r ∙ d) (f ∙ ap (heard_by o j.ticket) e ∙ ap (λ (u : ℕ). heard_by o u 0) (sym t))

module _ (m : Model) (c : Call) where
  -- what the answer says: who came, and the new head with its forecast
  abbrev pub said : News
  said = news_of c (call m c).reply

  taken_keeps : CallAccepted m c (call m c) → (k : Job) → In k (call m c).model.jobs → Keeps m said.came (call m c).reply.head k
  taken_keeps t k i =
      subst (λ (came : List Newcomer). Keeps m came (call m c).reply.head k) (sym (taken_came m c (call m c) t))
      (subst (λ (h : Option Forecast). Keeps m (joiner t.moved) h k) (sym t.told)
      (each_noted (forecast m t.last) t.last (Keeps m (joiner t.moved) (forecast m t.last))
      (λ j x. noted_keeps m (forecast m t.last) j (settled_keeps m t.trace (moved_keeps m t.moved) j x)) k
      (subst (λ (y : Model). In k y.jobs) t.model_is i)))

  quiet_keeps : Unchanged m c (call m c) → (k : Job) → In k (call m c).model.jobs → Keeps m said.came (call m c).reply.head k
  quiet_keeps q k i =
      stays k (subst (λ (o : Result). In k o.model.jobs) q.same i) refl refl refl
      (ap (λ (o : Result). heard_by o.reply.head k.ticket k.forecast) (sym q.same))

  pub records_kept : Valid m → (k : Job) → In k (call m c).model.jobs → Keeps m said.came (call m c).reply.head k
  records_kept v k i = ⊎_elim (λ t. taken_keeps t k i) (λ q. quiet_keeps q k i) (called m c v)

-- so each keeps its bound
pub easy_recorded : Recorded call Valid
easy_recorded = record { records = λ m c k v i. by m c k (records_kept m c v k i) }
  where
    by : (m : Model) (c : Call) (k : Job) → Keeps m (said m c).came (call m c).reply.head k
        → ((j : Job) × In j m.jobs × (j.ticket ≡ k.ticket) × (bound_of m.settings k ≡ bound_of m.settings j))
        ⊎ (Comes (said m c) k.ticket × (bound_of m.settings k ≡ bound_at m))
    by m c k (stays j i t s r f) = inl (j, i, sym t, ap₂ (λ (a b : ℕ). a + b * unit m.settings) s r)
    by m c k (comes o i t s r f) = inr ((o, i, sym t), ap₂ (λ (a b : ℕ). a + b * unit m.settings) s r)
