-- `plan_acceptance::Survey::fits_every` meets its contract: the minutes tried are those in which the jobs begin.
-- Assumes nothing.
use Rattle.std.proofs.Common.{rules, refl, ◌≡◌, ◌∙◌, ap, leb, take, max, ℕ, Bool, List, [], ◌∷◌}
use Rattle.std.specs.List.{list_all}
use Rattle.std.proofs.lemmas.Iterator.{YieldsList-from_slice}
use Rattle.std.proofs.lemmas.Iterator.Search.{all_from_yields_List}
use borrow.Author.Tests.{tests}
use Rattle.lists.specs.Every.{every, every_map}
use Rattle.spans.specs.Spans.{used}
use Rattle.conservative_rules.specs.Conservative.{spans}
use Rattle.job_columns.specs.Columns.{column_take}
use Rattle.plan_acceptance.specs.Plan.{start_of, fits_first}
use Rattle.plan_acceptance.proofs.Survey.fits_every.Goals as goal

-- std's word is the lists' own
all_every : {A : Type 0} (t : A → Bool) (xs : List A) → list_all t xs ≡ every t xs
all_every t [] = refl
all_every t (x ∷ xs) = rw (all_every t xs)

pub returns : goal.returns
returns c = λ p.
    let a = c.args in
    let test : ℕ → Bool = λ f. leb (used (max a.clock f) (spans p.settings p.jobs)) a.nodes in
    let e = all_from_yields_List test _ _ c.all.result c.all.ensures.ran (YieldsList-from_slice (take a.self.now.count a.self.now.froms) cc) (λ x b q h. search (rules, tests)) in
    e ∙ all_every test (take a.self.now.count a.self.now.froms)
    ∙ ap (every test) (column_take start_of p.jobs a.self.now.froms p.columns.froms_are a.self.now.count p.columns.count_is)
    ∙ every_map test start_of p.jobs
    ∙ fits_first p a.nodes a.clock
