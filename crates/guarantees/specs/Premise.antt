-- The one premise of every call, "a desk came from an opening or from a call here". Openings and calls, refused ones too, hand back a scheduler
-- that meets it.
-- Assumes nothing.
use Rattle.std.specs.Prelude.{◌≡◌, refl, List, [], ◌∷◌}
use Rattle.std.proofs.Common.{sym, ap, subst}
use Rattle.lists.specs.Lists.{All}
use Rattle.scheduler.specs.declared.Kind.{Kind}
use Rattle.scheduler.specs.declared.Kind.TheVariants.{Conservative, Easy}
use Rattle.scheduler.specs.declared.Opening.{Opening}
use Rattle.scheduler.specs.declared.Opened.{Opened}
use Rattle.scheduler.specs.declared.Outcome.{Outcome}
use Rattle.scheduler.specs.declared.Scheduler.{Scheduler}
use Rattle.scheduler.specs.Model.{Model, Live, store, view, view_store}
use Rattle.scheduler.specs.Answers.{outcome}
use Rattle.scheduler.specs.Opening.{opening, opened}
use Rattle.jobs.specs.Soundness.{Sound}
use Rattle.jobs.specs.Premise.{Holds, store_holds}
use Rattle.history.specs.Calls.{Call, after}
use Rattle.conservative_laws.specs.Validity as conservative
use Rattle.conservative_laws.specs.Obligations.{conservative_lawful}
use Rattle.easy_laws.specs.Validity as easy
use Rattle.easy_laws.specs.Obligations.{easy_lawful}
use Rattle.checkpoint_laws.specs.Restored.{ValidAs}
use Rattle.guarantees.specs.Rules.{rules_of, call}

abbrev pub ValidBy : Kind → Model → Type 0
ValidBy k m = ValidAs k m

abbrev pub Valid : Model → Type 0
Valid m = ValidBy m.settings.kind m

abbrev pub Premise : Scheduler → Type 0
Premise d = Holds Valid d

-- valid by a kind: it is of that kind
by_kind : (k : Kind) (m : Model) → ValidBy k m → m.settings.kind ≡ k
by_kind Conservative m v = conservative_lawful.kind_is m v
by_kind Easy m v = easy_lawful.kind_is m v

live_by : (k : Kind) (m : Model) → ValidBy k m → All Live m.jobs
live_by Conservative m v = conservative_lawful.all_live m v
live_by Easy m v = easy_lawful.all_live m v

stays_valid : (k : Kind) (m : Model) (c : Call) → ValidBy k m → ValidBy k (rules_of k m c).model
stays_valid Conservative m c v = conservative_lawful.valid m c v
stays_valid Easy m c v = easy_lawful.valid m c v

pub valid_as : (k : Kind) (m : Model) → ValidBy k m → Valid m
valid_as k m v = subst (λ (j : Kind). ValidBy j m) (sym (by_kind k m v)) v

-- what is valid stays valid
pub call_valid : (m : Model) (c : Call) → Valid m → Valid (call m c).model
call_valid m c v = valid_as m.settings.kind (call m c).model (stays_valid m.settings.kind m c v)

pub after_valid : (m : Model) (cs : List Call) → Valid m → Valid (after call m cs)
after_valid m [] v = v
after_valid m (c ∷ cs) v = after_valid (call m c).model cs (call_valid m c v)

pub stored_premise : (m : Model) → Valid m → Premise (store m)
stored_premise m v = store_holds Valid m (live_by m.settings.kind m v) v

pub call_premise : (d : Scheduler) (c : Call) → Premise d → Premise (outcome (call (view d) c)).scheduler
call_premise d c h = stored_premise (call (view d) c).model (call_valid (view d) c h.holds)

pub opening_valid : (o : Opening) → Valid (opening o)
opening_valid o = go o.settings.kind refl
  where
    go : (k : Kind) → o.settings.kind ≡ k → Valid (opening o)
    go Conservative e = valid_as Conservative (opening o) (conservative.opening_valid o e)
    go Easy e = valid_as Easy (opening o) (easy.opening_valid o e)

pub opened_premise : (o : Opening) → Premise (opened o).scheduler
unfolding opened
opened_premise o = stored_premise (opening o) (opening_valid o)

-- a scheduler of a kind meets that kind's premise
pub premise_of : (d : Scheduler) (k : Kind) → d.settings.kind ≡ k → Premise d → Holds (ValidBy k) d
unfolding view
premise_of d k e h = record { stored = h.stored; holds = subst (λ (j : Kind). ValidBy j (view d)) e h.holds }

-- and goes by its rules
pub rules_of_lem : (d : Scheduler) (k : Kind) (c : Call) → d.settings.kind ≡ k → call (view d) c ≡ rules_of k (view d) c
unfolding view
rules_of_lem d k c e = ap (λ (j : Kind). rules_of j (view d) c) e

sound_by : (k : Kind) (m : Model) → ValidBy k m → Sound m
sound_by Conservative m v = v.sound
sound_by Easy m v = v.ready.sound

pub valid_sound : (m : Model) → Valid m → Sound m
valid_sound m v = sound_by m.settings.kind m v

pub premise_sound : (d : Scheduler) → Premise d → Sound (view d)
premise_sound d h = valid_sound (view d) h.holds

-- a valid model is read back as it was stored
pub valid_view : (m : Model) → Valid m → view (store m) ≡ m
valid_view m v = view_store m (live_by m.settings.kind m v)

-- as a caller has it, from the contracts
pub opened_held : (o : Opening) (r : Opened) → r ≡ opened o → Premise r.scheduler
opened_held o r e = subst (λ (x : Opened). Premise x.scheduler) (sym e) (opened_premise o)

pub call_held : (d : Scheduler) (c : Call) (r : Outcome) → Premise d → r ≡ outcome (call (view d) c) → Premise r.scheduler
call_held d c r h e = subst (λ (x : Outcome). Premise x.scheduler) (sym e) (call_premise d c h)
