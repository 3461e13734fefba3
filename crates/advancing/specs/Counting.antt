-- Lists of calls and corrected orders with advances among them: an advance counts as its ticks, as many as minutes have passed, or as one refused call. So
-- demand 3 holds of every such list, by the answers that a caller received. It is proved once, for calls by value, on what is lent and of a host.
-- Assumes nothing.
use Rattle.std.specs.Prelude.{ℕ, zero, suc, ◌+◌, ◌≤◌, ◌≡◌, false, List, [], ◌∷◌, ◌++◌, map, replicate}
use Rattle.std.proofs.Common.{arith, sym, subst}
use Rattle.lists.specs.Tests.{case}
use Rattle.scheduler.specs.declared.Amendment.{Amendment}
use Rattle.scheduler.specs.declared.Refusal.TheVariants as refusal
use Rattle.scheduler.specs.declared.Settings.{Settings}
use Rattle.scheduler.specs.Limits.{horizon}
use Rattle.scheduler.specs.Model.{Model}
use Rattle.scheduler.specs.Answers.{Reply, Result, accepts, refusing}
use Rattle.scheduler.specs.Refusals.{wait_refusal}
use Rattle.history.specs.Calls.{Call, tick, unchanged, after}
use Rattle.guarantees.specs.Rules.{call}
use Rattle.guarantees.specs.Premise.{Valid, after_valid}
use Rattle.guarantees.specs.Cleanup.{settings_stay}
use Rattle.guarantees.specs.Chain as chain
use Rattle.guarantees.specs.Chain.{MadeAll}
use Rattle.amend_rules.specs.Amending.{amended}
use Rattle.amend_rules.specs.Steps.{Step, ask, all_steps}
use Rattle.amend_laws.specs.Steps.{MadeStep, made, steps_are}
use Rattle.advance_rules.specs.Advance.{advanced_by, advanced, advance_calls, advance_answers}
use Rattle.quiet_minutes.specs.DueMinutes.{Quiet}
use Rattle.quiet_minutes.specs.QuietTicks.{passed, quiet_tick, tick_valid, quiet_next, quiet_rest, passed_none, passed_more, passed_valid}
use Rattle.advancing.specs.Advances.{one_after, advance_refused, quietly, one_more, in_time_lem, quiet_all, advance_ticks}

-- steps, and advances among them, as they were made: `Advances d cs xs e` says that one was made on d, counts as the calls cs with the answers xs, and left e
pub data MadeOnward {D A : Type 0} (Makes : D → Step → A → D → Type 0) (Advances : D → List Call → List A → D → Type 0)
    : D → List Step → List A → D → Type 0 where
  none : {d : D} → MadeOnward Makes Advances d [] [] d
  step : {d e f : D} {q : Step} {a : A} {qs : List Step} {xs : List A} → Makes d q a e → MadeOnward Makes Advances e qs xs f
      → MadeOnward Makes Advances d (q ∷ qs) (a ∷ xs) f
  advance : {d e f : D} {cs : List Call} {xs : List A} {qs : List Step} {ys : List A} → Advances d cs xs e → MadeOnward Makes Advances e qs ys f
      → MadeOnward Makes Advances d (map ask cs ++ qs) (xs ++ ys) f

-- ## Lists of calls, one after the other

made_append : {D Q A : Type 0} {Makes : D → Q → A → D → Type 0} {d e f : D} {qs ps : List Q} {xs ys : List A} → MadeAll Makes d qs xs e
    → MadeAll Makes e ps ys f → MadeAll Makes d (qs ++ ps) (xs ++ ys) f
made_append chain.none l = l
made_append (chain.next x r) l = chain.next x (made_append r l)

made_steps : {D A : Type 0} {Made : D → Call → A → D → Type 0} {Amends : D → Amendment → A → D → Type 0} {d e : D} {cs : List Call} {xs : List A}
    → MadeAll Made d cs xs e → MadeAll (MadeStep Made Amends) d (map ask cs) xs e
made_steps chain.none = chain.none
made_steps (chain.next x r) = chain.next (made x) (made_steps r)

-- ## An advance is its ticks

-- A way to make calls, as in crates/guarantees/specs/Chain.antt, in which a tick and a refused wait can be made on every valid model
module _ {D A : Type 0} (Made : D → Call → A → D → Type 0) (desk : Model → D) (answered : Reply → A) (fit : Settings → Type 0)
    (ticks : (m : Model) → Valid m → fit m.settings → Made (desk m) tick (answered (call m tick).reply) (desk (call m tick).model))
    (refuses : (m : Model) (n : ℕ) → Valid m → fit m.settings → accepts (wait_refusal m n) ≡ false
    → Made (desk m) (unchanged (wait_refusal m n)) (answered (refusing (wait_refusal m n))) (desk m)) where
  abbrev nothing : A
  nothing = answered (refusing refusal.None)

  -- quiet minutes are ticks that answer nothing
  quiet_made : (k : ℕ) (m : Model) → Valid m → fit m.settings → m.clock + k ≤ horizon → Quiet m k
      → MadeAll Made (desk m) (replicate k tick) (replicate k nothing) (desk (passed m k))
  quiet_made zero m v w l q = subst (λ (x : Model). MadeAll Made (desk m) [] [] (desk x)) (sym (passed_none m)) chain.none
  quiet_made (suc k) m v w l q =
      let h = quiet_next m k q in
      let t = quiet_tick m v (omega arith) h in
      chain.next (subst (λ (r : Result). Made (desk m) tick (answered r.reply) (desk r.model)) t (ticks m v w))
      (subst (λ (x : Model). MadeAll Made (desk (passed m 1)) (replicate k tick) (replicate k nothing) (desk x)) (passed_more m k)
      (quiet_made k (passed m 1) (tick_valid m v (omega arith) h) w (omega arith) (quiet_rest m k q)))

  -- and the last one answers as the advance does
  pub advance_made : (m : Model) (n : ℕ) → Valid m → fit m.settings
      → MadeAll Made (desk m) (advance_calls (advanced_by m n) (wait_refusal m n)) (advance_answers nothing (advanced_by m n) (answered (advanced call m n).reply))
      (desk (advanced call m n).model)
  advance_made m n v w =
      case (accepts (wait_refusal m n))
      (λ a. rw (one_more m n v a, advance_ticks m n v a)
      (let k = quietly m n v a in
      let l : m.clock + k ≤ horizon = omega (arith, in_time_lem m n v a) in
      subst (λ (cs : List Call). MadeAll Made (desk m) cs (replicate k nothing ++ (answered (call (passed m k) tick).reply ∷ [])) (desk (call (passed m k) tick).model))
      (one_after k)
      (made_append (quiet_made k m v w l (quiet_all m n v a))
      (chain.next (ticks (passed m k) (passed_valid k m v l (quiet_all m n v a)) w) chain.none))))
      (λ a. let g = advance_refused m n a in rw (g.0, g.1) (chain.next (refuses m n v w a) chain.none))

-- ## Lists with advances

module _ {D A : Type 0} (Made : D → Call → A → D → Type 0) (Amends : D → Amendment → A → D → Type 0) (Advances : D → List Call → List A → D → Type 0)
    (desk : Model → D) (answered : Reply → A) (said : A → Reply) (fit : Settings → Type 0)
    (is : (m : Model) (c : Call) (a : A) (e : D) → Valid m → fit m.settings → Made (desk m) c a e
    → (e ≡ desk (call m c).model) × (a ≡ answered (call m c).reply))
    (amends-is : (m : Model) (b : Amendment) (a : A) (e : D) → Valid m → fit m.settings → Amends (desk m) b a e
    → (e ≡ desk (amended call m b).model) × (a ≡ answered (amended call m b).reply))
    (back : (m : Model) (c : Call) → Valid m → said (answered (call m c).reply) ≡ (call m c).reply)
    (amends-back : (m : Model) (b : Amendment) → Valid m → said (answered (amended call m b).reply) ≡ (amended call m b).reply)
    (ticked : (m : Model) (cs : List Call) (xs : List A) (e : D) → Valid m → fit m.settings → Advances (desk m) cs xs e → MadeAll Made (desk m) cs xs e) where
  -- what is left is a valid model's desk
  module _ (m : Model) (v : Valid m) (w : fit m.settings) {d e : D} {qs : List Step} {xs : List A} (z : d ≡ desk m)
      (l : MadeAll (MadeStep Made Amends) d qs xs e) where
    abbrev rest : Model
    rest = after call m (all_steps call m qs)

    rest_fits : fit rest.settings
    rest_fits = subst fit (sym (settings_stay m (all_steps call m qs) v)) w

    rest_is : e ≡ desk rest
    rest_is = (steps_are Made Amends desk answered said fit is amends-is back amends-back m v w z l).0

  -- from a valid model on, steps and advances are the steps that they count as
  pub counted : (m : Model) {d : D} {qs : List Step} {xs : List A} {e : D} → Valid m → fit m.settings → d ≡ desk m
      → MadeOnward (MadeStep Made Amends) Advances d qs xs e → MadeAll (MadeStep Made Amends) d qs xs e
  counted m v w z none = chain.none
  counted m v w z (step {q = q} one onward) =
      let l = chain.next one chain.none in
      chain.next one (counted (rest m v w z l) (after_valid m (all_steps call m (q ∷ [])) v) (rest_fits m v w z l) (rest_is m v w z l) onward)
  counted m v w z (advance {e = e} {cs = cs} {xs = xs} one onward) =
      let l = made_steps (subst (λ (x : D). MadeAll Made x cs xs e) (sym z) (ticked m cs xs e v w (subst (λ (x : D). Advances x cs xs e) z one))) in
      made_append l (counted (rest m v w z l) (after_valid m (all_steps call m (map ask cs)) v) (rest_fits m v w z l) (rest_is m v w z l) onward)
