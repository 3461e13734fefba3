-- The records of a text, line after line: what a loop over the lines has read, and what that makes of the whole.
-- Assumes nothing.
use Rattle.std.specs.Prelude.{◌≡◌, refl, true, false, ◌||◌, ◌⊎◌, ℕ, ◌≤◌, ◌<◌, leb, ltb, length, drop}
use Rattle.std.proofs.Common.{sym, ◌∙◌, inl, inr, arith, leb-true, ltb-true}
use Rattle.std.proofs.Math.Path.{ap}
use mathlib.Core.List.{List, [], ◌∷◌, ◌++◌, append-nil, append_assoc}
use Rattle.std.proofs.Math.Option.{Option, none, some}
use Rattle.lists.specs.Tests as tests
use Rattle.lists.specs.Tests.{case, either}
use Rattle.lists.specs.Lists.{In}
use Rattle.scheduler.specs.declared.Job.{Job}
use Rattle.scheduler.specs.Limits.{slots, max_nodes, longest_estimate}
use Rattle.scheduler.specs.Times.{longest_le}
use Rattle.scheduler.specs.declared.Tenant.TheVariants.{A, B}
use Rattle.scheduler.specs.Settings.{quota}
use Rattle.scheduler.specs.Table.{live_of}
use Rattle.scheduler.specs.Model.{Model}
use Rattle.jobs.specs.Soundness.{both_tenants}
use Rattle.desk_lines.specs.Lines.{Line, lines_of}
use Rattle.desk_lines.specs.LineLaws.{line_of, past, lines_from, lines_done}
use Rattle.checkpoint_rules.specs.Acceptance.{accepted}
use Rattle.checkpoint_rules.specs.Texts.{job_of, jobs_of, both}
use Rattle.checkpoint_laws.specs.Accepted.{Parts, parts_of}
use Rattle.checkpoint_reading.specs.Meaning.{beyond}

-- ## What cannot be accepted

-- a record above all limits
pub beyond_rejected : (m : Model) (j : Job) → In j m.jobs → beyond j.nodes j.estimate j.least ≡ true → accepted m ≡ false
beyond_rejected m j i b = case (accepted m) (λ e. absurd (never e)) (λ e. e)
  where
    never : accepted m ≡ true → ⊥
    never e = by (either (ltb max_nodes j.nodes || ltb longest_estimate j.estimate) (ltb longest_estimate j.least) b)
      where
        p : Parts m
        p = parts_of m e

        two : (ltb max_nodes j.nodes ≡ true) ⊎ (ltb longest_estimate j.estimate ≡ true) → ⊥
        two (inl x) = omega (arith, ltb-true max_nodes j.nodes x, (p.records j i).range.nodes_to, p.desk.nodes_to)
        two (inr x) = omega (arith, ltb-true longest_estimate j.estimate x, (p.records j i).range.estimate_to, longest_le m.settings)

        by : ((ltb max_nodes j.nodes || ltb longest_estimate j.estimate) ≡ true) ⊎ (ltb longest_estimate j.least ≡ true) → ⊥
        by (inl x) = two (either (ltb max_nodes j.nodes) (ltb longest_estimate j.estimate) x)
        by (inr x) =
            omega (arith, ltb-true longest_estimate j.least x, (p.records j i).least_to, (p.records j i).range.estimate_to, longest_le m.settings)

-- "More than 64 records break a share"
accepted_few : (m : Model) → accepted m ≡ true → length m.jobs ≤ slots
accepted_few m e =
    let p = parts_of m e in
    let js = m.jobs in
    let S = m.settings in
    let b = tests.both (leb (live_of A js) (quota S A)) (leb (live_of B js) (quota S B)) p.shares in
    omega (
      arith,
      both_tenants js (λ j i. (p.records j i).range.tenant_is),
      leb-true (live_of A js) (quota S A) b.0,
      leb-true (live_of B js) (quota S B) b.1,
      p.desk.quotas,
    )

pub many_rejected : (m : Model) → slots < length m.jobs → accepted m ≡ false
many_rejected m l = case (accepted m) (λ e. absurd (omega (arith, accepted_few m e))) (λ e. e)

-- ## Line after line

-- those read so far, and what the rest gives
abbrev pub onto : List Job → Option (List Job) → Option (List Job)
onto js none = none
onto js (some ks) = some (js ++ ks)

onto_none : (js : List Job) (o : Option (List Job)) → onto [] o ≡ o
onto_none js none = refl
onto_none js (some ks) = refl

onto_more : (js : List Job) (j : Job) (o : Option (List Job)) → onto js (both (λ (j : Job) (ks : List Job). j ∷ ks) (some j) o) ≡ onto (js ++ (j ∷ [])) o
onto_more js j none = refl
onto_more js j (some ks) = ap some (sym (append_assoc js (j ∷ []) ks))

module _ (text : List ℕ) where
  -- the records from a place on
  abbrev pub records_from : ℕ → Option (List Job)
  records_from at = jobs_of (lines_of (drop at text))

  -- js have been read from a place on, and the next line begins at another
  abbrev pub ReadTo : (from at : ℕ) → List Job → Type 0
  ReadTo from at js = records_from from ≡ onto js (records_from at)

  pub read_none : (from : ℕ) → ReadTo from from []
  read_none from = sym (onto_none [] (records_from from))

  module _ (from at : ℕ) (js : List Job) (r : ReadTo from at js) (l : at < length text) where
    -- a line gives a record
    pub read_more : (j : Job) → job_of (line_of text at) ≡ some j → ReadTo from (past text at) (js ++ (j ∷ []))
    unfolding jobs_of
    read_more j e = r ∙ ap (λ (ls : List Line). onto js (jobs_of ls)) (lines_from text at l) ∙ rw e (onto_more js j (records_from (past text at)))

    -- or lacks the form
    pub read_fails : job_of (line_of text at) ≡ none → records_from from ≡ none
    unfolding jobs_of
    read_fails e = r ∙ ap (λ (ls : List Line). onto js (jobs_of ls)) (lines_from text at l) ∙ rw e

  -- all are read
  pub read_all : (from at : ℕ) (js : List Job) → ReadTo from at js → length text ≤ at → records_from from ≡ some js
  unfolding jobs_of
  read_all from at js r l = r ∙ ap (λ (ls : List Line). onto js (jobs_of ls)) (lines_done text at l) ∙ ap some (append-nil js)
