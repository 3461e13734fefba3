-- The loop over the lines of a text: the records read so far stand in the slots, or what was read cannot be accepted.
-- Assumes nothing.
use Rattle.std.specs.Prelude.{◌≡◌, refl, Result, Ok, Err, Bool, true, false, List, [], ◌∷◌, ◌++◌, ◌⊎◌, ℕ, ◌+◌, ◌-◌, ◌≤◌, ◌<◌, length, set, take, drop}
use Rattle.std.proofs.Common.{sym, ap, subst, ◌∙◌, inl, inr, arith, length-append, length-set}
use Rattle.std.proofs.Math.Option.{Option, none, some}
use Rattle.lists.specs.Lists.{In, here, in_left, in_right}
use Rattle.lists.specs.Tests.{case}
use Rattle.lists.specs.Pads.{pad, pad_push, length_pad}
use Rattle.scheduler.specs.declared.Job.{Job}
use Rattle.scheduler.specs.declared.Scheduler.{Scheduler}
use Rattle.scheduler.specs.Limits.{slots}
use Rattle.scheduler.specs.Jobs.{unused}
use Rattle.scheduler.specs.Table.{with_jobs}
use Rattle.scheduler.specs.Model.{Model}
use Rattle.desk_lines.specs.LineLaws.{line_of, past, past_line}
use Rattle.checkpoint_rules.specs.Acceptance.{accepted}
use Rattle.checkpoint_rules.specs.Texts.{job_in, job_of}
use Rattle.desk_lines.specs.DeskLine.{closed_only}
use Rattle.text.specs.declared.Line.{Line}
use Rattle.text.specs.Lines.{line_at}
use Rattle.checkpoint_reading.specs.declared.Fault.{Fault}
use Rattle.checkpoint_reading.specs.declared.Fault.TheVariants as fault
use Rattle.checkpoint_reading.specs.Meaning.{beyond, given_by}
use Rattle.checkpoint_reading.specs.Records.{beyond_rejected, many_rejected, records_from, ReadTo, read_none, read_more, read_fails, read_all}

-- no model with these records is accepted: one is above all limits, or there are too many
abbrev pub Bad : List Job → Type 0
Bad js = ((j : Job) × In j js × (beyond j.nodes j.estimate j.least ≡ true)) ⊎ (slots < length js)

pub bad_rejected : (m : Model) → Bad m.jobs → accepted m ≡ false
bad_rejected m (inl (j, i, b)) = beyond_rejected m j i b
bad_rejected m (inr l) = many_rejected m l

bad_more : (js : List Job) (j : Job) → Bad js → Bad (js ++ (j ∷ []))
bad_more js j (inl (k, i, b)) = inl (k, in_left (j ∷ []) i, b)
bad_more js j (inr l) = inr (omega (arith, length-append js (j ∷ [])))

-- the slots hold what was read, or it is bad
pub data Kept (d e : Scheduler) (js : List Job) (count : ℕ) : Bool → Type 0 where
  clean : count ≡ length js → count ≤ 64 → e ≡ with_jobs d (pad 64 unused js) → Kept d e js count false
  spoilt : Bad js → Kept d e js count true

pub record Inv (text : List ℕ) (from : ℕ) (d e : Scheduler) (count : ℕ) (bad : Bool) (at : ℕ) : Type 0 where
  pub jobs : List Job
  pub low : at ≤ length text
  pub read : ReadTo text from at jobs
  pub whole : length e.jobs ≡ 64
  pub kept : Kept d e jobs count bad

pub inv_none : (text : List ℕ) (from : ℕ) (d : Scheduler) → from ≤ length text → d ≡ with_jobs d (pad 64 unused []) → Inv text from d d 0 false from
inv_none text from d l u = record {
  jobs = [];
  low = l;
  read = read_none text from;
  whole = ap (λ (x : Scheduler). length x.jobs) u ∙ length_pad 64 unused [] (omega arith);
  kept = clean refl (omega arith) u;
}

-- ## What a line gives

given_record : (o : Option Job) (j : Job) → Ok j ≡ given_by o → o ≡ some j
given_record none j e = absurd (let z : ◌≡◌ {A = ℕ} 0 1 = cc in omega arith)
given_record (some k) j e =
    case (beyond k.nodes k.estimate k.least)
    (λ b. absurd (let w : Ok j ≡ (Err fault.Unacceptable) = rw b at e in let z : ◌≡◌ {A = ℕ} 0 1 = cc in omega arith))
    (λ b. let w : Ok j ≡ Ok k = rw b at e in let z : j ≡ k = cc in ap some (sym z))

given_beyond : (o : Option Job) → Err fault.Unacceptable ≡ given_by o → (j : Job) × (o ≡ some j) × (beyond j.nodes j.estimate j.least ≡ true)
given_beyond none e = absurd (let z : ◌≡◌ {A = ℕ} 0 1 = cc in omega arith)
given_beyond (some k) e =
    case (beyond k.nodes k.estimate k.least)
    (λ b. (k, refl, b))
    (λ b. absurd (let w : Err fault.Unacceptable ≡ Ok k = rw b at e in let z : ◌≡◌ {A = ℕ} 0 1 = cc in omega arith))

given_malformed : (o : Option Job) → Err fault.Malformed ≡ given_by o → o ≡ none
given_malformed none e = refl
given_malformed (some k) e =
    case (beyond k.nodes k.estimate k.least)
    (λ b. absurd (let w : Err fault.Malformed ≡ (Err fault.Unacceptable) = rw b at e in let z : ◌≡◌ {A = ℕ} 0 1 = cc in omega arith))
    (λ b. absurd (let w : Err fault.Malformed ≡ Ok k = rw b at e in let z : ◌≡◌ {A = ℕ} 0 1 = cc in omega arith))

module _ (text : List ℕ) (at : ℕ) {l : Line} (e : l ≡ line_at text at) where
  pub line_said : {g : Result Job Fault} → l.closed ≡ true → g ≡ given_by (job_in (take (l.end - at) (drop at text))) → g ≡ given_by (job_of (line_of text at))
  line_said {g} c q =
      q ∙ ap (λ (x : Line). given_by (job_in (take (x.end - at) (drop at text)))) e
      ∙ ap (λ (b : Bool). given_by (closed_only b (job_in (line_of text at).bytes))) (sym (ap (λ (x : Line). x.closed) (sym e) ∙ c))

  pub unclosed_said : l.closed ≡ false → job_of (line_of text at) ≡ none
  unclosed_said c = ap (λ (b : Bool). closed_only b (job_in (line_of text at).bytes)) (ap (λ (x : Line). x.closed) (sym e) ∙ c)

  pub past_said : l.closed ≡ true → past text at ≡ l.end + 1
  past_said c = rw (ap (λ (x : Line). x.closed) (sym e) ∙ c) (ap (λ (x : Line). x.end + 1) (sym e))

-- ## The next line

module _ {text : List ℕ} {from : ℕ} {d e' : Scheduler} {count : ℕ} {bad : Bool} {at : ℕ} (v : Inv text from d e' count bad at) (l : at < length text) where
  -- a record, and a slot for it
  pub next_record : (j : Job) → job_of (line_of text at) ≡ some j → count < 64 → Inv text from d (with_jobs e' (set e'.jobs count j)) (count + 1) bad (past text at)
  next_record j q c = record {
    jobs = v.jobs ++ (j ∷ []);
    low = (past_line text at l).within;
    read = read_more text from at v.jobs v.read l j q;
    whole = omega (arith, v.whole, length-set e'.jobs count j);
    kept = go v.kept;
  }
    where
      go : {b : Bool} → Kept d e' v.jobs count b → Kept d (with_jobs e' (set e'.jobs count j)) (v.jobs ++ (j ∷ [])) (count + 1) b
      go (clean n f s) =
          clean (omega (arith, length-append v.jobs (j ∷ []))) (omega arith)
          (ap (λ (x : Scheduler). with_jobs x (set x.jobs count j)) s ∙ ap (with_jobs d) (pad_push 64 unused v.jobs j count (sym n) c))
      go (spoilt b) = spoilt (bad_more v.jobs j b)

  bad_now : (j : Job) → job_of (line_of text at) ≡ some j → Bad (v.jobs ++ (j ∷ [])) → Inv text from d e' count true (past text at)
  bad_now j q b = record {
    jobs = v.jobs ++ (j ∷ []);
    low = (past_line text at l).within;
    read = read_more text from at v.jobs v.read l j q;
    whole = v.whole;
    kept = spoilt b;
  }

  -- no slot is left
  pub next_full : (j : Job) → job_of (line_of text at) ≡ some j → 64 ≤ count → Inv text from d e' count true (past text at)
  next_full j q c = bad_now j q (go v.kept)
    where
      go : {b : Bool} → Kept d e' v.jobs count b → Bad (v.jobs ++ (j ∷ []))
      go (clean n f s) = inr (omega (arith, length-append v.jobs (j ∷ [])))
      go (spoilt b) = bad_more v.jobs j b

  -- a record above all limits
  pub next_beyond : (j : Job) → job_of (line_of text at) ≡ some j → beyond j.nodes j.estimate j.least ≡ true → Inv text from d e' count true (past text at)
  next_beyond j q b = bad_now j q (inl (j, in_right v.jobs (here refl), b))

  module _ {x : Line} (e : x ≡ line_at text at) (c : x.closed ≡ true) where
    pub step_record : {j : Job} → Ok j ≡ given_by (job_in (take (x.end - at) (drop at text))) → count < 64
        → Inv text from d (with_jobs e' (set e'.jobs count j)) (count + 1) bad (x.end + 1)
    step_record {j} q k = subst (Inv text from d (with_jobs e' (set e'.jobs count j)) (count + 1) bad) (past_said text at e c) (next_record j (given_record (job_of (line_of text at)) j (line_said text at e c q)) k)

    pub step_full : {j : Job} → Ok j ≡ given_by (job_in (take (x.end - at) (drop at text))) → 64 ≤ count → Inv text from d e' count true (x.end + 1)
    step_full {j} q k = subst (Inv text from d e' count true) (past_said text at e c) (next_full j (given_record (job_of (line_of text at)) j (line_said text at e c q)) k)

    pub step_beyond : Err fault.Unacceptable ≡ given_by (job_in (take (x.end - at) (drop at text))) → Inv text from d e' count true (x.end + 1)
    step_beyond q =
        let r = given_beyond (job_of (line_of text at)) (line_said text at e c q) in
        subst (Inv text from d e' count true) (past_said text at e c) (next_beyond r.0 r.1 r.2)

    pub step_fails : Err fault.Malformed ≡ given_by (job_in (take (x.end - at) (drop at text))) → records_from text from ≡ none
    step_fails q = read_fails text from at v.jobs v.read l (given_malformed (job_of (line_of text at)) (line_said text at e c q))

  pub next_fails : job_of (line_of text at) ≡ none → records_from text from ≡ none
  next_fails q = read_fails text from at v.jobs v.read l q

-- once all lines are read
module _ {text : List ℕ} {from : ℕ} {d e : Scheduler} {count at : ℕ} (l : length text ≤ at) where
  pub all_clean : Inv text from d e count false at → (js : List Job) × (records_from text from ≡ some js) × (e ≡ with_jobs d (pad 64 unused js)) × (length js ≤ 64)
  all_clean v = go v.kept
    where
      go : Kept d e v.jobs count false → (js : List Job) × (records_from text from ≡ some js) × (e ≡ with_jobs d (pad 64 unused js)) × (length js ≤ 64)
      go (clean n f s) = (v.jobs, read_all text from at v.jobs v.read l, s, omega arith)

  pub all_bad : Inv text from d e count true at → (js : List Job) × (records_from text from ≡ some js) × Bad js
  all_bad v = go v.kept
    where
      go : Kept d e v.jobs count true → (js : List Job) × (records_from text from ≡ some js) × Bad js
      go (spoilt b) = (v.jobs, read_all text from at v.jobs v.read l, b)

-- what a reader of all records says
abbrev pub Told : List ℕ → (from : ℕ) → Scheduler → Result Scheduler Fault → Type 0
Told text from d (Ok e) = (js : List Job) × (records_from text from ≡ some js) × (e ≡ with_jobs d (pad 64 unused js)) × (length js ≤ 64)
Told text from d (Err fault.Unacceptable) = (js : List Job) × (records_from text from ≡ some js) × Bad js
Told text from d (Err fault.Malformed) = records_from text from ≡ none
