-- A call is its own part and then a settling: what each part gives.
-- Assumes nothing.
use Rattle.std.specs.Prelude.{ℕ, ◌≡◌, List, [], ◌∷◌, ltb}
use Rattle.scheduler.specs.declared.Settings.{Settings}
use Rattle.scheduler.specs.declared.Submission.{Submission}
use Rattle.scheduler.specs.declared.Refusal.{Refusal}
use Rattle.scheduler.specs.declared.Refusal.TheVariants as refusal
use Rattle.scheduler.specs.declared.Request.{Request}
use Rattle.scheduler.specs.declared.Request.TheVariants as request
use Rattle.scheduler.specs.declared.Outcome.{Outcome}
use Rattle.scheduler.specs.Settings.{horizon}
use Rattle.scheduler.specs.Table.{tickets}
use Rattle.scheduler.specs.Model.{Model, view, joined}
use Rattle.scheduler.specs.Answers.{Result, verdict, outcome}
use Rattle.scheduler.specs.Refusals.{tests_by}
use Rattle.easy_rules.specs.Easy.{head, new_job, submit_refusal, finished}
use Rattle.easy_engine.specs.Survey.{ticket_in, head_before}
use Rattle.job_table.specs.declared.Part.{Part}
use Rattle.job_table.specs.Parts.{Own, coming, judged_own, departing, ticking, handed}

-- ## The own part

abbrev pub own : Model → Request → Own
own m (request.Submit s) = judged_own m (submit_refusal m s) (coming m.next (joined m (new_job m s)))
own m (request.Depart h t) = departing m h t
own m request.Tick = ticking m

-- ## The call

-- it settles, and answers
abbrev pub answering : Model → Own → Result
answering b o =
    let r = finished b o.model o.ticket o.ended in
    record {
      reply = record {
        refusal = o.refusal;
        ticket = r.reply.ticket;
        promise = r.reply.promise;
        reads = r.reply.reads;
        ended = r.reply.ended;
        started = r.reply.started;
        head = r.reply.head;
      };
      model = r.model;
    }

-- r is the outcome of a call whose own part is p, whatever the model before it was: p tells who was head before
abbrev pub Finishes : Part → Outcome → Type 0
Finishes p r =
    (b : Model) (ts : List ℕ) → p.ended ≡ tickets ts
    → head_before p.ticket p.withdrawn (ticket_in (head (view p.scheduler))) ≡ ticket_in (head b) → r ≡ outcome (answering b (handed p ts))

-- ## Refusals by numbers

-- of a submission, by the latest minute at which the job can end
unfoldable pub late_refusal : Settings → (live next latest : ℕ) → Submission → Refusal
late_refusal S live next latest o = verdict (tests_by S live next o ((ltb (horizon S) latest, refusal.PastHorizon) ∷ []))
