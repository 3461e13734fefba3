-- Whose lines a call prints: a tick prints those of the jobs whose run the scheduler ends then, an end that of its job, a submission none.
-- Assumes nothing.
use Rattle.std.specs.Prelude.{◌≡◌, refl, ℕ, suc}
use Rattle.std.proofs.Math.Path.{sym, ap}
use Rattle.std.proofs.Common.{◌∙◌, arith}
use Rattle.std.proofs.Math.Bool.{Bool, true}
use mathlib.Core.List.{List, [], ◌∷◌, append-nil}
use borrow.Author.Tests.{eq-eqb}
use Rattle.lists.specs.Lists.{keep, elem, In, here, keep_in, keep_none, any_in}
use Rattle.scheduler.specs.declared.Departure.TheVariants.{Complete}
use Rattle.scheduler.specs.declared.Job.{Job}
use Rattle.scheduler.specs.declared.Kind.{Kind}
use Rattle.scheduler.specs.declared.Kind.TheVariants.{Conservative, Easy}
use Rattle.scheduler.specs.declared.Submission.{Submission}
use Rattle.scheduler.specs.Jobs.{is_running, departs_as, ends_at}
use Rattle.scheduler.specs.Table.{tickets_of}
use Rattle.scheduler.specs.Model.{Model, joined}
use Rattle.scheduler.specs.Answers.{Result, accepts}
use Rattle.jobs.specs.Order.{Asc, asc_one, keep_tickets}
use Rattle.jobs.specs.Departing.{departs_alone}
use Rattle.jobs.specs.Judgement.{judged_accepted}
use Rattle.history.specs.Calls.{submit, tick, complete}
use Rattle.conservative_laws.specs.Sentences as conservative
use Rattle.easy_rules.specs.Easy as easy
use Rattle.guarantees.specs.Rules.{rules_of, call}
use Rattle.guarantees.specs.Premise.{valid_sound}
use Rattle.season_rules.specs.Season.{Season, text_of, rows_of, row_of}
use Rattle.season_laws.specs.Accepted.{complete_taken, tick_ends, complete_ends}
use Rattle.season_laws.specs.Progress.{Ready}

submit_by : (k : Kind) (m : Model) (o : Submission) → accepts (rules_of k m (submit o)).reply.refusal ≡ true → (rules_of k m (submit o)).reply.ended ≡ []
unfolding easy.call easy.finished
submit_by Conservative m o a = (conservative.submit_taken m o a).ended_is
submit_by Easy m o a =
    ap (λ (r : Result). r.reply.ended)
    (judged_accepted m (easy.submit_refusal m o) (easy.finished m (joined m (easy.new_job m o)) m.next []) a).1

module _ (s : Season) (r : Ready s) where
  abbrev m : Model
  m = s.model

  asc : Asc 1 m.jobs
  asc = (valid_sound m r.valid).asc

  pub tick_text : accepts (call m tick).reply.refusal ≡ true → text_of s (call m tick).reply ≡ rows_of s (keep (ends_at m.settings (suc m.clock)) m.jobs)
  unfolding text_of
  tick_text a =
      rw a (ap (λ (ts : List ℕ). rows_of s (keep (λ (j : Job). elem j.ticket ts) m.jobs)) (tick_ends m r.valid a)
      ∙ ap (rows_of s) (keep_tickets (ends_at m.settings (suc m.clock)) 1 m.jobs asc))

  -- the one job of a ticket
  alone : (j : Job) → In j m.jobs → (ks : List Job) → ((k : Job) → In k ks → In k m.jobs) → tickets_of ks ≡ j.ticket ∷ [] → ks ≡ j ∷ []
  alone j i [] f e = absurd (let z : ◌≡◌ {A = ℕ} 0 1 = cc in omega arith)
  alone j i (k ∷ []) f e = let t : k.ticket ≡ j.ticket = cc in ap (λ (x : Job). x ∷ []) (asc_one 1 m.jobs k j asc (f k (here refl)) i t)
  alone j i (k ∷ l ∷ ks) f e = absurd (let w : l.ticket ∷ tickets_of ks ≡ [] = cc in let z : ◌≡◌ {A = ℕ} 0 1 = cc in omega arith)

  pub end_text : (j : Job) → In j m.jobs → is_running j ≡ true → text_of s (call m (complete j.ticket)).reply ≡ row_of s j
  unfolding text_of
  end_text j i q =
      let t = j.ticket in
      let p : Job → Bool = departs_as Complete t in
      let a = complete_taken m r.valid r.no_least j i q in
      let here : p j ≡ true = rw (q, eq-eqb t t refl) in
      let one : tickets_of (keep p m.jobs) ≡ t ∷ [] = departs_alone Complete t 1 m.jobs asc (any_in p i here) in
      rw a (ap (λ (ts : List ℕ). rows_of s (keep (λ (x : Job). elem x.ticket ts) m.jobs)) (complete_ends m r.valid t a ∙ sym one)
      ∙ ap (rows_of s) (keep_tickets p 1 m.jobs asc ∙ alone j i (keep p m.jobs) (λ k x. (keep_in p m.jobs x).0) one)
      ∙ append-nil (row_of s j))

  pub submit_text : (o : Submission) → accepts (call m (submit o)).reply.refusal ≡ true → text_of s (call m (submit o)).reply ≡ []
  unfolding text_of
  submit_text o a =
      rw a (ap (λ (ts : List ℕ). rows_of s (keep (λ (x : Job). elem x.ticket ts) m.jobs)) (submit_by m.settings.kind m o a)
      ∙ ap (rows_of s) (keep_none (λ (x : Job). elem x.ticket []) m.jobs (λ j i. refl)))
