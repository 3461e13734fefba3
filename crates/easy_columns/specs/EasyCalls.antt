-- What the calls over columns are lent, and what they give: the reply of the rules, and the columns of the model after it.
-- Assumes nothing.
use Rattle.std.specs.Prelude.{ℕ, ◌≡◌, List}
use Rattle.std.proofs.Common.{ap, ◌∙◌, ⊎_elim}
use Rattle.std.proofs.Math.Path.{sym, subst}
use Rattle.std.proofs.Math.ListN.{take}
use Rattle.scheduler.specs.declared.Settings.{Settings}
use Rattle.scheduler.specs.declared.Refusal.{Refusal}
use Rattle.scheduler.specs.declared.Refusal.TheVariants as refusal
use Rattle.scheduler.specs.declared.Request.{Request}
use Rattle.scheduler.specs.Model.{Model}
use Rattle.scheduler.specs.Answers.{Result, refuse}
use Rattle.jobs.specs.Soundness.{Sound}
use Rattle.history.specs.Calls as calls
use Rattle.history.specs.Calls.{Call}
use Rattle.easy_rules.specs.Easy.{head, settled, finished, call}
use Rattle.easy_laws.specs.Settling.{settles, settles_clock, settles_next}
use Rattle.easy_laws.specs.Noted.{noted_clock, noted_next}
use Rattle.easy_laws.specs.Validity.{Ready, Valid, CallAccepted, Unchanged, taken_settings, called, call_valid}
use Rattle.job_table.specs.Parts.{Own}
use Rattle.job_columns.specs.Columns.{Whole}
use Rattle.column_parts.specs.Counted.{Told}
use Rattle.column_parts.specs.ColumnParts.{Listing}
use Rattle.column_parts.specs.ToldReply.{TellsReply, TellsModel, refused_told, refused_tells}
use Rattle.easy_engine.specs.Survey.{ticket_in, head_before}
use Rattle.easy.specs.Parts.{own, answering}
use Rattle.easy.specs.Calling.{BeforeBy, call_own, own_ready, own_before}
use Rattle.easy_columns.specs.EasyColumns.{EasyColumns}
use Rattle.easy_columns.specs.Finishing.{Finishes, told}

-- the lists are the columns of a model that an opening or a call handed back, and the numbers are its own
pub record Kept (tickets nodes states dues starts tenants estimates leasts asked submitted ranks forecasts held ends holders : List ℕ)
    (live holding spare clock next : ℕ) (S : Settings) : Type 0 where
  pub model : Model
  pub valid : Valid model
  pub settings_is : S ≡ model.settings
  pub clock_is : clock ≡ model.clock
  pub next_is : next ≡ model.next
  pub columns : EasyColumns model tickets nodes states dues starts tenants estimates leasts asked submitted ranks forecasts held ends holders live holding spare

-- the answer is the reply of a result, and the lists are the columns of its model
pub record Gives (o : Result) (r : Told) (ended started : List ℕ)
    (tickets nodes states dues starts tenants estimates leasts asked submitted ranks forecasts held ends holders : List ℕ) : Type 0 where
  pub tells : TellsReply o.reply r ended started
  pub numbers : TellsModel o.model r
  pub columns : EasyColumns o.model tickets nodes states dues starts tenants estimates leasts asked submitted ranks forecasts held ends holders
      r.live r.holding r.spare

module _ {tickets nodes states dues starts tenants estimates leasts asked submitted ranks forecasts held ends holders : List ℕ} where
  -- a refused call leaves all as it was
  pub refused_gives : {live holding spare clock next : ℕ} {ended started : List ℕ} (m : Model) (o : Result) (why : Refusal) → o ≡ refuse m why
      → clock ≡ m.clock → next ≡ m.next → Whole ended → Whole started
      → EasyColumns m tickets nodes states dues starts tenants estimates leasts asked submitted ranks forecasts held ends holders live holding spare
      → Gives o (refused_told why clock next live 0 holding spare) ended started tickets nodes states dues starts tenants estimates leasts asked submitted
      ranks forecasts held ends holders
  refused_gives {live} {holding} {spare} {clock} {next} {ended} {started} m o why q c n e s k =
      subst (λ (x : Result). Gives x (refused_told why clock next live 0 holding spare) ended started tickets nodes states dues starts tenants estimates
      leasts asked submitted ranks forecasts held ends holders) (sym q)
      (record {
        tells = refused_tells why clock next live 0 holding spare ended started e s;
        numbers = record { clock_is = c; next_is = n };
        columns = k;
      })

  -- a call that has done its own part and settled answers so
  module _ (m : Model) (o : Own) (k : o.refusal ≡ refusal.None) (s : Sound o.model) {n clock next : ℕ} {r : Told} {ended started : List ℕ}
      (f : Finishes m o.model o.ticket n clock next r started tickets nodes states dues starts tenants estimates leasts asked submitted ranks
      forecasts held ends holders) (l : Listing o.ended ended n) (c : clock ≡ o.model.clock) (t : next ≡ o.model.next) where
    pub finished_gives : Gives (answering m o) r ended started tickets nodes states dues starts tenants estimates leasts asked submitted ranks forecasts held
        ends holders
    unfolding finished
    finished_gives =
        let last = (settled o.model).model in
        let w = told m o.model in
        let z = settles o.model s in
        record {
          tells = record {
            refusal_is = f.refusal_is ∙ sym k;
            ticket_is = f.ticket_is;
            promise_is = f.promise_is;
            head_is_lem = f.head_is_lem;
            forecast_is = f.forecast_is;
            ended_are = record {
              whole = l.whole;
              count_is = f.ended_is ∙ l.count_is;
              first_are = subst (λ (i : ℕ). take i ended ≡ o.ended) (sym f.ended_is) l.first_are;
            };
            started_are = f.started_are;
          };
          numbers = record {
            clock_is = f.clock_is ∙ c ∙ sym (settles_clock z) ∙ sym (noted_clock w last);
            next_is = f.next_is ∙ t ∙ sym (settles_next z) ∙ sym (noted_next w last);
          };
          columns = f.columns;
        }

  -- and where that is its own part, it is the call
  pub call_gives : (m : Model) → Valid m → (q : Request) (o : Own) → own m q ≡ o → {r : Told} {ended started : List ℕ}
      → Gives (answering m o) r ended started tickets nodes states dues starts tenants estimates leasts asked submitted ranks forecasts held ends holders
      → Gives (call m (calls.asked q)) r ended started tickets nodes states dues starts tenants estimates leasts asked submitted ranks
      forecasts held ends holders
  call_gives m v q o e {r} {ended} {started} g =
      subst (λ (x : Result). Gives x r ended started tickets nodes states dues starts tenants estimates leasts asked submitted ranks forecasts held ends
      holders) (ap (answering m) (sym e) ∙ sym (call_own m v q)) g

-- the head before the call, by its own part
pub before_is : (m : Model) → Valid m → (q : Request) (o : Own) → own m q ≡ o
    → head_before o.ticket o.withdrawn (ticket_in (head o.model)) ≡ ticket_in (head m)
before_is m v q o e = subst (BeforeBy m) e (own_before m v q)

pub ready_is : (m : Model) → Valid m → (q : Request) (o : Own) → own m q ≡ o → Ready o.model
ready_is m v q o e = subst (λ (x : Own). Ready x.model) e (own_ready m v q)

-- ## The next call finds the columns kept

call_settings : (m : Model) (c : Call) → Valid m → (call m c).model.settings ≡ m.settings
call_settings m c v =
    ⊎_elim (λ (t : CallAccepted m c (call m c)). taken_settings m c (call m c) t)
    (λ (q : Unchanged m c (call m c)). ap (λ (x : Result). x.model.settings) q.same) (called m c v)

pub still_kept : {tickets nodes states dues starts tenants estimates leasts asked submitted ranks forecasts held ends holders : List ℕ} {S : Settings} {r : Told}
    {ended started : List ℕ} (m : Model) (c : Call) → Valid m → S ≡ m.settings
    → Gives (call m c) r ended started tickets nodes states dues starts tenants estimates leasts asked submitted ranks forecasts held ends holders
    → Kept tickets nodes states dues starts tenants estimates leasts asked submitted ranks forecasts held ends holders r.live r.holding r.spare
    r.clock r.next S
still_kept m c v e g = record {
  model = (call m c).model;
  valid = call_valid m c v;
  settings_is = e ∙ sym (call_settings m c v);
  clock_is = g.numbers.clock_is;
  next_is = g.numbers.next_is;
  columns = g.columns;
}
