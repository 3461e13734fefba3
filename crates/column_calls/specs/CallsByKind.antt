-- The columns of a scheduler are those of its kind, and what that kind's call gives is what the call gives.
-- Assumes nothing.
use Rattle.std.specs.Prelude.{ℕ, ◌≡◌, List}
use Rattle.std.proofs.Math.Path.{sym, ap, subst}
use Rattle.std.proofs.Common.{◌∙◌}
use Rattle.scheduler.specs.declared.Kind.TheVariants.{Conservative, Easy}
use Rattle.scheduler.specs.declared.Settings.{Settings}
use Rattle.scheduler.specs.declared.Request.{Request}
use Rattle.scheduler.specs.declared.Scheduler.{Scheduler}
use Rattle.scheduler.specs.Model.{view}
use Rattle.scheduler.specs.Answers.{Result}
use Rattle.history.specs.Calls as calls
use Rattle.history.specs.Calls.{Call}
use Rattle.column_parts.specs.Counted.{Told}
use Rattle.conservative_columns.specs.ConservativeColumns.{KeptColumns, Answered}
use Rattle.easy_columns.specs.EasyCalls as easy-calls
use Rattle.guarantees.specs.Rules.{rules_of, call}
use Rattle.guarantees.specs.Premise.{premise_of, rules_of_lem}
use Rattle.kept_calls.specs.KeptPoints.{not_easy, kind_after}
use Rattle.column_calls.specs.CallColumns.{Lent, Gives}

module _ {S : Settings} {clock next : ℕ}
    {tickets nodes states dues starts tenants estimates leasts holds promises asked submitted ranks forecasts held ends holders ms fs lo hi : List ℕ}
    {live count holding spare : ℕ}
    (k : Lent S clock next tickets nodes states dues starts tenants estimates leasts holds promises asked submitted ranks forecasts held ends holders
    ms fs lo hi live count holding spare) where
  abbrev d : Scheduler
  d = k.scheduler

  module _ (e : S.kind ≡ Conservative) where
    conservative_is : d.settings.kind ≡ Conservative
    conservative_is = ap (λ (T : Settings). T.kind) (sym k.settings_is) ∙ e

    pub lent_conservative : KeptColumns S clock next tickets nodes states dues starts tenants estimates leasts holds promises ms fs lo hi live count
    unfolding view
    lent_conservative = record {
      model = view d;
      valid = (premise_of d Conservative conservative_is k.premise).holds;
      settings_is = k.settings_is;
      clock_is = k.clock_is;
      next_is = k.next_is;
      columns = (k.columns.conservative conservative_is).columns;
    }

    pub conservative_gives : (q : Request) (c : Call) → calls.asked q ≡ c → {r : Told} {ended started : List ℕ}
        → {tickets' nodes' states' dues' starts' tenants' estimates' leasts' holds' promises' ms' fs' lo' hi' : List ℕ}
        → Answered (rules_of Conservative lent_conservative.model c) r ended started tickets' nodes' states' dues' starts' tenants' estimates' leasts'
        holds' promises' ms' fs' lo' hi'
        → Gives (call (view d) (calls.asked q)) r ended started tickets' nodes' states' dues' starts' tenants' estimates' leasts'
        holds' promises' asked submitted ranks forecasts held ends holders ms' fs' lo' hi'
    unfolding view lent_conservative
    conservative_gives q c a {r} {ended} {started} {tickets'} {nodes'} {states'} {dues'} {starts'} {tenants'} {estimates'} {leasts'}
        {holds'} {promises'} {ms'} {fs'} {lo'} {hi'} g =
        let w : rules_of Conservative (view d) c ≡ call (view d) (calls.asked q) =
        ap (rules_of Conservative (view d)) (sym a) ∙ sym (rules_of_lem d Conservative (calls.asked q) conservative_is) in
        let o =
        subst (λ (x : Result). Answered x r ended started tickets' nodes' states' dues' starts' tenants' estimates' leasts'
        holds' promises' ms' fs' lo' hi') w g in
        let l = k.columns.conservative conservative_is in
        record {
          reply = o.reply;
          numbers = o.numbers;
          columns = record {
            conservative = λ z. record {
              columns = o.columns;
              submitted_none = l.submitted_none;
              ranks_none = l.ranks_none;
              forecasts_none = l.forecasts_none;
            };
            easy = λ z. not_easy d.settings.kind (sym (kind_after d (calls.asked q) k.premise) ∙ z) conservative_is;
          };
        }

  module _ (e : S.kind ≡ Easy) where
    easy_is : d.settings.kind ≡ Easy
    easy_is = ap (λ (T : Settings). T.kind) (sym k.settings_is) ∙ e

    pub lent_easy : easy-calls.Kept tickets nodes states dues starts tenants estimates leasts asked submitted ranks forecasts held ends holders
        live holding spare clock next S
    unfolding view
    lent_easy = record {
      model = view d;
      valid = (premise_of d Easy easy_is k.premise).holds;
      settings_is = k.settings_is;
      clock_is = k.clock_is;
      next_is = k.next_is;
      columns = (k.columns.easy easy_is).columns;
    }

    pub easy_gives : (q : Request) (c : Call) → calls.asked q ≡ c → {r : Told} {ended started : List ℕ}
        → {tickets' nodes' states' dues' starts' tenants' estimates' leasts' asked' submitted' ranks' forecasts' held' ends' holders' : List ℕ}
        → easy-calls.Gives (rules_of Easy lent_easy.model c) r ended started tickets' nodes' states' dues' starts' tenants' estimates' leasts'
        asked' submitted' ranks' forecasts' held' ends' holders'
        → Gives (call (view d) (calls.asked q)) r ended started tickets' nodes' states' dues' starts' tenants' estimates' leasts'
        holds promises asked' submitted' ranks' forecasts' held' ends' holders' ms fs lo hi
    unfolding view lent_easy
    easy_gives q c a {r} {ended} {started} {tickets'} {nodes'} {states'} {dues'} {starts'} {tenants'} {estimates'} {leasts'}
        {asked'} {submitted'} {ranks'} {forecasts'} {held'} {ends'} {holders'} g =
        let w : rules_of Easy (view d) c ≡ call (view d) (calls.asked q) =
        ap (rules_of Easy (view d)) (sym a) ∙ sym (rules_of_lem d Easy (calls.asked q) easy_is) in
        let o =
        subst (λ (x : Result). easy-calls.Gives x r ended started tickets' nodes' states' dues' starts' tenants' estimates' leasts'
        asked' submitted' ranks' forecasts' held' ends' holders') w g in
        record {
          reply = o.tells;
          numbers = o.numbers;
          columns = record {
            conservative = λ z. not_easy d.settings.kind easy_is (sym (kind_after d (calls.asked q) k.premise) ∙ z);
            easy = λ z. record { columns = o.columns; promises_none = (k.columns.easy easy_is).promises_none };
          };
        }
