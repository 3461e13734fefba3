-- Loops over the slots: one finds whether the tickets of the live jobs ascend and each of their records passes a test, the other counts a
-- tenant's live jobs.
-- Assumes nothing.
use Rattle.std.specs.Prelude.{◌≡◌, refl, Bool, true, false, cond, ◌&&◌, List, [], ◌∷◌, ℕ, suc, ◌+◌, ◌≤◌, ◌<◌, ltb, length, get_or, drop}
use Rattle.std.proofs.Common.{◌∙◌, add-one, drop_of_length-le, drop-cons, lt-ltb, le-ltb}
use Rattle.lists.specs.Tests.{case, on, and_right_false, across}
use Rattle.lists.specs.Lists.{keep}
use Rattle.lists.specs.Every.{every}
use Rattle.scheduler.specs.declared.Job.{Job}
use Rattle.scheduler.specs.declared.Tenant.{Tenant}
use Rattle.scheduler.specs.Jobs.{unused, is_live_of}
use Rattle.scheduler.specs.Table.{of_tenant}
use Rattle.checkpoint_rules.specs.Acceptance.{ascending}

module _ (p : Job → Bool) where
  -- the loop goes on to the end: each live job's ticket is above that of the live job before it, 0 before the first, and its record passes
  abbrev pub goes_on_of : (last : ℕ) → List Job → Bool
  goes_on_of last [] = true
  goes_on_of last (j ∷ js) = cond (is_live_of j) (ltb last j.ticket && p j && goes_on_of j.ticket js) (goes_on_of last js)

  -- which is what is asked of the live jobs
  pub goes_on_is : (last : ℕ) (js : List Job) → goes_on_of last js ≡ (ascending (suc last) (keep is_live_of js) && every p (keep is_live_of js))
  goes_on_is last [] = refl
  goes_on_is last (j ∷ js) =
      case (is_live_of j)
      (λ e. rw (e, goes_on_is j.ticket js) (across (ltb last j.ticket) (p j) (ascending (suc j.ticket) (keep is_live_of js)) (every p (keep is_live_of js))))
      (λ e. rw e (goes_on_is last js))

  module _ (js : List Job) (last i : ℕ) where
    abbrev x : Job
    x = get_or js i unused

    -- one slot is passed, and what follows goes by its job
    one_slot : i < length js
        → goes_on_of last (drop i js) ≡ cond (is_live_of x) (ltb last x.ticket && p x && goes_on_of x.ticket (drop (i + 1) js)) (goes_on_of last (drop (i + 1) js))
    one_slot h = rw (add-one, drop-cons js i unused h)

    -- an unused slot
    pub goes_past : i < length js → is_live_of x ≡ false → goes_on_of last (drop i js) ≡ goes_on_of last (drop (i + 1) js)
    goes_past h e = one_slot h ∙ rw e

    -- a live job as asked
    pub goes_further : i < length js → is_live_of x ≡ true → last < x.ticket → p x ≡ true
        → goes_on_of last (drop i js) ≡ goes_on_of x.ticket (drop (i + 1) js)
    goes_further h e a b = one_slot h ∙ rw (e, lt-ltb last x.ticket a, b)

    -- one whose ticket is not above the last
    pub stops_below : i < length js → is_live_of x ≡ true → x.ticket ≤ last → goes_on_of last (drop i js) ≡ false
    stops_below h e a = one_slot h ∙ rw (e, le-ltb last x.ticket a)

    -- one whose record fails
    pub stops_at : i < length js → is_live_of x ≡ true → p x ≡ false → goes_on_of last (drop i js) ≡ false
    stops_at h e b = one_slot h ∙ rw (e, and_right_false (ltb last x.ticket) b)

    -- no slot is left
    pub goes_through : length js ≤ i → goes_on_of last (drop i js) ≡ true
    goes_through h = rw (drop_of_length-le js h)

-- 1 for a live job of the tenant's
abbrev pub of_live : Tenant → Job → ℕ
of_live t j = on (is_live_of j && of_tenant t j) 1
