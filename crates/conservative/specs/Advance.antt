-- What a call answers once some jobs have left and the others have moved. An early completion, a withdrawal and a tick all end in this way.
-- Assumes nothing.
use Rattle.std.specs.Prelude.{◌≡◌, refl, Bool, true, false, ◌&&◌, List, [], ◌∷◌, ◌++◌, ℕ, zero, suc, ◌+◌, ◌-◌, ◌<◌, length, get_or, take, replicate}
use Rattle.std.proofs.Common.{ap, append-nil, add-one, arith}
use Rattle.std.proofs.Math.Option.{none}
use Rattle.lists.specs.Tests.{case}
use Rattle.lists.specs.Pads.{pad}
use Rattle.scheduler.specs.declared.State.{State}
use Rattle.scheduler.specs.declared.State.TheVariants.{Unused, Waiting, Running, Cleanup}
use Rattle.scheduler.specs.declared.Job.{Job}
use Rattle.scheduler.specs.declared.Outcome.{Outcome}
use Rattle.scheduler.specs.declared.Refusal.{Refusal}
use Rattle.scheduler.specs.declared.Refusal.TheVariants as refusal
use Rattle.scheduler.specs.declared.Scheduler.{Scheduler}
use Rattle.scheduler.specs.declared.Select.{Select}
use Rattle.scheduler.specs.Limits.{slots}
use Rattle.scheduler.specs.States.{waiting?, running?}
use Rattle.scheduler.specs.Jobs.{unused, is_waiting, is_running}
use Rattle.scheduler.specs.Table.{one_if, tickets, ended_of}
use Rattle.scheduler.specs.Model.{Model, store, without, with_model_jobs}
use Rattle.scheduler.specs.Answers.{outcome, refuse}
use Rattle.job_table.specs.declared.Part.{Part}
use Rattle.job_table.specs.Parts.{leaving, refused_own, part}
use Rattle.conservative_rules.specs.Conservative.{begun, advanced}

-- it waits before and runs after
abbrev pub began : Job → Job → Bool
began j k = is_waiting j && is_running k

-- one slot more of both
begun_more : (i : ℕ) (js ks : List Job) → i < length js → i < length ks
    → begun (take (suc i) js) (take (suc i) ks) ≡ begun (take i js) (take i ks) ++ one_if (began (get_or js i unused) (get_or ks i unused))
    (get_or js i unused).ticket
begun_more i [] ks a b = absurd (omega arith)
begun_more i (j ∷ js) [] a b = absurd (omega arith)
begun_more zero (j ∷ js) (k ∷ ks) a b = refl
begun_more (suc i) (j ∷ js) (k ∷ ks) a b =
    case (began j k)
    (λ e. rw e (ap (λ (l : List ℕ). j.ticket ∷ l) (begun_more i js ks (omega arith) (omega arith))))
    (λ e. rw e (begun_more i js ks (omega arith) (omega arith)))

pub begun_yes : (i : ℕ) (js ks : List Job) → i < length js → i < length ks → began (get_or js i unused) (get_or ks i unused) ≡ true
    → begun (take (i + 1) js) (take (i + 1) ks) ≡ begun (take i js) (take i ks) ++ ((get_or js i unused).ticket ∷ [])
begun_yes i js ks a b e = rw (add-one, begun_more i js ks a b, e)

pub begun_no : (i : ℕ) (js ks : List Job) → i < length js → i < length ks → began (get_or js i unused) (get_or ks i unused) ≡ false
    → begun (take (i + 1) js) (take (i + 1) ks) ≡ begun (take i js) (take i ks)
begun_no i js ks a b e = rw (add-one, begun_more i js ks a b, e) (append-nil (begun (take i js) (take i ks)))

-- unused slots begin nothing
begun_same : (k l : ℕ) → begun (replicate k unused) (replicate l unused) ≡ []
begun_same zero l = refl
begun_same (suc k) zero = refl
begun_same (suc k) (suc l) = begun_same k l

begun_append : (js ks : List Job) (a b : ℕ) → length js ≡ length ks → begun (js ++ replicate a unused) (ks ++ replicate b unused) ≡ begun js ks
begun_append [] [] a b e = begun_same a b
begun_append [] (k ∷ ks) a b e = absurd (omega arith)
begun_append (j ∷ js) [] a b e = absurd (omega arith)
begun_append (j ∷ js) (k ∷ ks) a b e = rw (begun_append js ks a b (omega arith))

begun_pad : (js ks : List Job) → length js ≡ length ks → begun (pad slots unused js) (pad slots unused ks) ≡ begun js ks
unfolding pad
begun_pad js ks e = begun_append js ks (slots - length js) (slots - length ks) e

pub begun_stored : (m : Model) (ks : List Job) → length m.jobs ≡ length ks → begun (store m).jobs (store (with_model_jobs m ks)).jobs ≡ begun m.jobs ks
unfolding store
begun_stored m ks e = begun_pad m.jobs ks e

-- what a call answers that has done its part on the table
unfoldable pub advanced_by : Part → Scheduler → Outcome
advanced_by p after = record {
  answer = record {
    refusal = p.refusal;
    ticket = 0;
    promise = 0;
    reads = 0;
    ended = p.ended;
    started = tickets (begun p.scheduler.jobs after.jobs);
    head = 0;
    forecast = 0;
  };
  scheduler = after;
}

-- nobody waits and runs
begun_self : (js : List Job) → begun js js ≡ []
begun_self [] = refl
begun_self (j ∷ js) = rw (never j.state) (begun_self js)
  where
    never : (s : State) → (waiting? s && running? s) ≡ false
    never Unused = refl
    never Waiting = refl
    never Running = refl
    never Cleanup = refl

-- a refused call that leaves the table as it was
pub refused_stored : (m : Model) (r : Refusal) → advanced_by (part (refused_own m r)) (store m) ≡ outcome (refuse m r)
unfolding advanced_by
refused_stored m r =
    ap (λ (ts : List ℕ). outcome
    (record { reply = record { refusal = r; ticket = 0; promise = 0; reads = 0; ended = []; started = ts; head = none }; model = m })) (begun_self (store m).jobs)

pub advanced_stored : (m : Model) (clock : ℕ) (s : Select) (w : ℕ) (ks : List Job) → length (without m clock s).jobs ≡ length ks
    → advanced_by (part (leaving m clock s w)) (store (with_model_jobs (without m clock s) ks)) ≡ outcome (advanced m clock s ks)
unfolding advanced_by advanced
advanced_stored m clock s w ks e = λ i. record {
  answer = record {
    refusal = refusal.None;
    ticket = 0;
    promise = 0;
    reads = 0;
    ended = tickets (ended_of s m.jobs);
    started = tickets (begun_stored (without m clock s) ks e i);
    head = 0;
    forecast = 0;
  };
  scheduler = store (with_model_jobs (without m clock s) ks);
}
