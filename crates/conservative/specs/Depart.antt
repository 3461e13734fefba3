-- What the code of an early completion or a withdrawal computes on a stored model is the definition's.
-- Assumes nothing.
use Rattle.std.specs.Prelude.{◌≡◌, true, false, ℕ}
use Rattle.std.proofs.Math.Path.{refl, ap}
use Rattle.std.proofs.Common.{sym, ◌∙◌}
use Rattle.scheduler.specs.declared.Outcome.{Outcome}
use Rattle.scheduler.specs.declared.Departure.{Departure}
use Rattle.scheduler.specs.declared.Select.TheVariants as select
use Rattle.scheduler.specs.Table.{with_jobs}
use Rattle.scheduler.specs.Model.{Model, store, view, without, with_model_jobs}
use Rattle.scheduler.specs.Answers.{outcome, accepts}
use Rattle.scheduler.specs.Refusals.{depart_refusal}
use Rattle.jobs.specs.Soundness.{Sound, sound_leave, early, all_live}
use Rattle.jobs.specs.Premise.{Holds, store_holds}
use Rattle.job_table.specs.declared.Part.{Part}
use Rattle.job_table.specs.Parts.{Own, departing, withdrawn_by, leaving, part, own_taken, own_refused}
use Rattle.history.specs.Calls.{depart}
use Rattle.conservative_rules.specs.Conservative.{compressed, call, departed}
use Rattle.conservative_laws.specs.Validity.{Valid}
use Rattle.conservative_laws.specs.Compression.{left_compressible}
use Rattle.conservative.specs.Advance.{advanced_by, refused_stored, advanced_stored}
use Rattle.conservative_plan.specs.Pass.{Replannable}
use Rattle.conservative_plan.specs.StoredPass.{compressed_stored, compressed_length}

-- what the code computes of the table after its part: the jobs that stay have their turns
abbrev pub departs_by : Part → Outcome
departs_by p = advanced_by p (with_jobs p.scheduler (compressed (view p.scheduler).settings p.scheduler.clock p.scheduler.jobs))

module _ (m : Model) (h : Departure) (t : ℕ) (v : Valid m) where
  abbrev rest : Model
  rest = without m m.clock (select.Departing h t)

  sound_rest : Sound rest
  sound_rest = sound_leave m m.clock (select.Departing h t) v.sound (early h t)

  -- those that stay can have their turns
  pub replannable : Replannable rest
  replannable =
      let c = left_compressible m h t v in
      record { planned = record { sound = sound_rest; room = c.room }; ahead = λ j i. (c.each j i).ahead }

  rest_held : Holds Replannable (store rest)
  rest_held = store_holds Replannable rest (all_live rest sound_rest) replannable

  abbrev after_passes : Model
  after_passes = with_model_jobs rest (compressed rest.settings rest.clock rest.jobs)

  passes_are : with_jobs (store rest) (compressed (view (store rest)).settings (store rest).clock (store rest).jobs) ≡ store after_passes
  unfolding view store
  passes_are = compressed_stored rest replannable

  taken_is : departs_by (part (leaving m m.clock (select.Departing h t) (withdrawn_by h t))) ≡ outcome (departed m h t)
  unfolding departed
  taken_is =
      ap (advanced_by (part (leaving m m.clock (select.Departing h t) (withdrawn_by h t)))) passes_are
      ∙ advanced_stored m m.clock (select.Departing h t) (withdrawn_by h t) after_passes.jobs (sym (compressed_length rest.settings rest.clock rest.jobs))

  abbrev own : Own
  own = departing m h t

  module _ (a : accepts own.refusal ≡ true) where
    pub replannable_held : Holds Replannable (store own.model)
    replannable_held = rw (own_taken m (depart_refusal m h t) (leaving m m.clock (select.Departing h t) (withdrawn_by h t)) a).1 rest_held

    pub taken_held : departs_by (part own) ≡ outcome (call m (depart h t))
    unfolding call
    taken_held =
        let o = own_taken m (depart_refusal m h t) (leaving m m.clock (select.Departing h t) (withdrawn_by h t)) a in
        ap (λ (x : Own). departs_by (part x)) o.1 ∙ taken_is ∙ rw o.0

  pub refused_held : accepts own.refusal ≡ false → advanced_by (part own) (store own.model) ≡ outcome (call m (depart h t))
  unfolding call
  refused_held a =
      let o = own_refused m (depart_refusal m h t) (leaving m m.clock (select.Departing h t) (withdrawn_by h t)) refl a in
      ap (λ (x : Own). advanced_by (part x) (store x.model)) o.1 ∙ refused_stored m (depart_refusal m h t) ∙ rw o.0
