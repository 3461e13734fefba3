-- Lists of calls that contain corrected orders. Demand 3 holds of each such list, after every single call that it counts as, by the answers that a
-- caller received. One proof covers calls by value, calls on what is lent and a host's calls, like those of `made_keeps` and `made_around`.
-- Assumes nothing.
use Rattle.std.specs.Prelude.{ℕ, ◌≡◌, refl, true, false, ◌&&◌, cond, List, [], ◌∷◌, ◌++◌, map, eqb, take}
use Rattle.std.proofs.Common.{arith, sym, ap, ap₂, subst, ◌∙◌}
use Rattle.std.proofs.Math.Option.{some}
use Rattle.lists.specs.Tests.{case}
use Rattle.lists.specs.Lists.{keep, first, In, here, there}
use Rattle.scheduler.specs.declared.Kind.{Kind}
use Rattle.scheduler.specs.declared.Kind.TheVariants.{Conservative, Easy}
use Rattle.scheduler.specs.declared.Job.{Job}
use Rattle.scheduler.specs.declared.Settings.{Settings}
use Rattle.scheduler.specs.declared.Amendment.{Amendment}
use Rattle.scheduler.specs.declared.Tenant.{Tenant}
use Rattle.scheduler.specs.declared.Tenant.TheVariants.{Nobody}
use Rattle.scheduler.specs.States.{live?}
use Rattle.scheduler.specs.Settings.{cleanup, unit}
use Rattle.scheduler.specs.Model.{Model}
use Rattle.scheduler.specs.Answers.{Reply}
use Rattle.scheduler.specs.Amending.{names, named, order_for}
use Rattle.history.specs.Calls.{Call, Event, after, events}
use Rattle.history.specs.Book.{Fate, waiting, running, cleaning, ended, withdrawn, Entry, Book, waits, enter_all}
use Rattle.history.specs.Beginning.{beginning}
use Rattle.history.specs.Guarantee.{Guarantee}
use Rattle.history_proof.specs.Obligations.{JobShown, shown, live, Lawful}
use Rattle.history_proof.specs.Seen.{seen, is_live_entry, waits_job}
use Rattle.history_proof.specs.Proof.{InStep}
use Rattle.conservative_laws.specs.Obligations.{conservative_lawful, conservative_seeded}
use Rattle.easy_laws.specs.Obligations.{easy_lawful, easy_seeded}
use Rattle.guarantees.specs.Rules.{rules_of, call}
use Rattle.guarantees.specs.Premise.{ValidBy, Valid, valid_as, valid_sound, after_valid}
use Rattle.guarantees.specs.Statement.{book_of, Start, changes, start_of, after_append, events_append, in_step_after, in_step_first}
use Rattle.guarantees.specs.Proof.{start_valid, demand3}
use Rattle.guarantees.specs.Cleanup.{settings_stay}
use Rattle.guarantees.specs.Migration.{AroundChange, around_change}
use Rattle.guarantees.specs.Chain.{MadeAll, none, next, unchanged_refuses}
use Rattle.amend_rules.specs.Amending.{amended}
use Rattle.amend_rules.specs.Steps.{Step, ask, corrects, stepped, step_calls, all_steps, replies, Asked, all_asked, house_in, order_by, said_by, said_all}
use Rattle.amend_laws.specs.Counting.{counted_model, counted_events, tellable}

-- ## After each single call

-- demand 3 of every list of calls, waits and corrected orders
pub demand3_with_amendments : (s : Start) (qs : List Asked) (i : ℕ)
    → Guarantee (start_of s).settings.kind (start_of s).settings (book_of (start_of s) (events call (start_of s) (take i (all_asked call (start_of s) qs))))
demand3_with_amendments s qs i = demand3 s (take i (all_asked call (start_of s) qs))

-- ## By the answers

-- a step leaves what its calls leave
pub left_is : (m : Model) (q : Step) → (stepped call m q).model ≡ after call m (step_calls call m q)
left_is m (ask c) = refl
left_is m (corrects a) = counted_model call m a unchanged_refuses

pub step_valid : (m : Model) (q : Step) → Valid m → Valid (stepped call m q).model
step_valid m q v = subst Valid (sym (left_is m q)) (after_valid m (step_calls call m q) v)

-- ### the house of the job that is named, by a book that agrees with the model

abbrev house_of : List JobShown → ℕ → Tenant
house_of [] t = Nobody
house_of (x ∷ xs) t = cond (waits x.fate && eqb x.ticket t) x.tenant (house_of xs t)

waits_lives : (f : Fate) → live f ≡ false → waits f ≡ false
waits_lives waiting e = e
waits_lives (running s) e = refl
waits_lives (cleaning s n) e = refl
waits_lives (ended s) e = refl
waits_lives (withdrawn w) e = refl

book_house : (xs : List Entry) (t : ℕ) → house_in xs t ≡ house_of (map seen (keep is_live_entry xs)) t
book_house [] t = refl
book_house (x ∷ xs) t =
    case (is_live_entry x)
    (λ e. rw e (ap (cond (waits x.fate && eqb x.ticket t) x.tenant) (book_house xs t)))
    (λ e. rw (e, waits_lives x.fate e) (book_house xs t))

model_house : (a : Amendment) (js : List Job) → ((j : Job) → In j js → live? j.state ≡ true) → (j : Job) → first (names a) js ≡ some j
    → house_of (map shown js) a.ticket ≡ j.tenant
model_house a [] l j e = absurd (let z : ◌≡◌ {A = ℕ} 0 1 = cc in omega arith)
model_house a (k ∷ ks) l j e =
    rw (waits_job k.state k.start k.end (l k (here refl)))
    (case (names a k)
    (λ x. let q : some k ≡ some j = rw x at e in let z : k ≡ j = cc in rw x (ap (λ (y : Job). y.tenant) z))
    (λ x. rw x (model_house a ks (λ y i. l y (there i)) j (rw x at e))))

order_is : (m : Model) (b : Book) (a : Amendment) → Valid m → map seen (keep is_live_entry b.entries) ≡ map shown m.jobs → (j : Job) → named m a ≡ some j
    → order_by b a ≡ order_for a j
order_is m b a v e j n =
    ap (λ (h : Tenant). record { nodes = a.nodes; estimate = a.estimate; tenant = h; least = a.least })
    (book_house b.entries a.ticket
    ∙ ap (λ (xs : List JobShown). house_of xs a.ticket) e
    ∙ model_house a m.jobs (λ k i. ((valid_sound m v).each k i).is_live) j n)

-- ### what is said of each step

module _ {k : Kind} {Fit : Model → Type 0} {OnCourse : Model → ℕ → ℕ → Type 0} (L : Lawful k (rules_of k) Fit OnCourse)
    (up : (m : Model) → Fit m → Valid m) (u p : ℕ)
  where
    step_said : (m : Model) (b : Book) (q : Step) → InStep L u p m b → said_by b q (stepped call m q).reply ≡ events call m (step_calls call m q)
    step_said m b (ask c) f = refl
    step_said m b (corrects a) f = counted_events tellable m a (up m f.valid) (order_by b a) (order_is m b a (up m f.valid) f.agrees.jobs_are)

    all_said : (m : Model) (b : Book) (qs : List Step) → InStep L u p m b → said_all u p b qs (replies call m qs) ≡ events call m (all_steps call m qs)
    all_said m b [] f = refl
    all_said m b (q ∷ qs) f =
        let cs = step_calls call m q in
        let rest = all_said (after call m cs) (enter_all u p b (events call m cs)) qs (in_step_after L u p m b cs f) in
        ap (λ (es : List Event). es ++ said_all u p (enter_all u p b es) qs (replies call (stepped call m q).model qs)) (step_said m b q f)
        ∙ ap (λ (n : Model). events call m cs ++ said_all u p (enter_all u p b (events call m cs)) qs (replies call n qs)) (left_is m q)
        ∙ ap (λ (es : List Event). events call m cs ++ es) rest
        ∙ sym (events_append m cs (all_steps call (after call m cs) qs))
        ∙ ap (λ (n : Model). events call m (cs ++ all_steps call n qs)) (sym (left_is m q))

-- from a model on, whose jobs count as it has them
abbrev pub said_from : Model → List Step → List Reply → List Event
said_from m qs rs = said_all (unit m.settings) (cleanup m.settings) (beginning m) qs rs

pub said_is : (m : Model) (qs : List Step) → Valid m → said_from m qs (replies call m qs) ≡ events call m (all_steps call m qs)
said_is m qs v = by m.settings.kind v
  where
    by : (k : Kind) → ValidBy k m → said_from m qs (replies call m qs) ≡ events call m (all_steps call m qs)
    by Conservative v =
        all_said conservative_lawful (valid_as Conservative) (unit m.settings) (cleanup m.settings) m (beginning m) qs
        (in_step_first conservative_lawful conservative_seeded m v)
    by Easy v = all_said easy_lawful (valid_as Easy) (unit m.settings) (cleanup m.settings) m (beginning m) qs (in_step_first easy_lawful easy_seeded m v)

-- From every start: the book of what was asked and of the answers received has the guarantees.
pub amendments_keep : (s : Start) (qs : List Step)
    → Guarantee (start_of s).settings.kind (start_of s).settings (book_of (start_of s) (said_from (start_of s) qs (replies call (start_of s) qs)))
amendments_keep s qs = rw (said_is (start_of s) qs (start_valid s)) (demand3 s (all_steps call (start_of s) qs))

-- ## Steps as they were made

-- a call as it was made, or a corrected order: `Amends d b a e` says that the order b was given to d, was answered a, and left e
pub data MadeStep {D A : Type 0} (Made : D → Call → A → D → Type 0) (Amends : D → Amendment → A → D → Type 0) : D → Step → A → D → Type 0 where
  made : {d e : D} {c : Call} {a : A} → Made d c a e → MadeStep Made Amends d (ask c) a e
  amends : {d e : D} {b : Amendment} {a : A} → Amends d b a e → MadeStep Made Amends d (corrects b) a e

-- A way to make calls, as in crates/guarantees/specs/Chain.antt, with corrected orders: each on a valid model leaves and answers what its definition
-- gives, and what is said is that reply.
module _ {D A : Type 0} (Made : D → Call → A → D → Type 0) (Amends : D → Amendment → A → D → Type 0) (desk : Model → D) (answered : Reply → A)
    (said : A → Reply) (fit : Settings → Type 0)
    (is : (m : Model) (c : Call) (a : A) (e : D) → Valid m → fit m.settings → Made (desk m) c a e
    → (e ≡ desk (call m c).model) × (a ≡ answered (call m c).reply))
    (amends-is : (m : Model) (b : Amendment) (a : A) (e : D) → Valid m → fit m.settings → Amends (desk m) b a e
    → (e ≡ desk (amended call m b).model) × (a ≡ answered (amended call m b).reply))
    (back : (m : Model) (c : Call) → Valid m → said (answered (call m c).reply) ≡ (call m c).reply)
    (amends-back : (m : Model) (b : Amendment) → Valid m → said (answered (amended call m b).reply) ≡ (amended call m b).reply) where
  step_is : (m : Model) {q : Step} {a : A} {e : D} → Valid m → fit m.settings → MadeStep Made Amends (desk m) q a e
      → (e ≡ desk (stepped call m q).model) × (a ≡ answered (stepped call m q).reply) × (said a ≡ (stepped call m q).reply)
  step_is m v w (made {e = e} {c = c} {a = a} x) = let r = is m c a e v w x in (r.0, r.1, ap said r.1 ∙ back m c v)
  step_is m v w (amends {e = e} {b = b} {a = a} x) = let r = amends-is m b a e v w x in (r.0, r.1, ap said r.1 ∙ amends-back m b v)

  same_settings : (m : Model) (q : Step) → Valid m → (stepped call m q).model.settings ≡ m.settings
  same_settings m q v = ap (λ (n : Model). n.settings) (left_is m q) ∙ settings_stay m (step_calls call m q) v

  -- from a valid model on, the models left and the answers given are those of the steps
  pub steps_are : (m : Model) {d : D} {qs : List Step} {xs : List A} {e : D} → Valid m → fit m.settings → d ≡ desk m
      → MadeAll (MadeStep Made Amends) d qs xs e
      → (e ≡ desk (after call m (all_steps call m qs))) × (xs ≡ map answered (replies call m qs)) × (map said xs ≡ replies call m qs)
  steps_are m v w z none = (z, refl, refl)
  steps_are m v w z (next {e = e} {c = q} {a = a} {cs = qs} one rest) =
      let r = step_is m v w (subst (λ (x : D). MadeStep Made Amends x q a e) z one) in
      let n = (stepped call m q).model in
      let s = steps_are n (step_valid m q v) (subst fit (sym (same_settings m q v)) w) r.0 rest in (
        s.0 ∙ ap desk (ap (λ (x : Model). after call x (all_steps call n qs)) (left_is m q) ∙ sym (after_append m (step_calls call m q) (all_steps call n qs))),
        ap₂ (λ (x : A) (ys : List A). x ∷ ys) r.1 s.1,
        ap₂ (λ (x : Reply) (ys : List Reply). x ∷ ys) r.2 s.2,
      )

  said_made : (s : Start) {qs : List Step} {xs : List A} {e : D} → fit (start_of s).settings → MadeAll (MadeStep Made Amends) (desk (start_of s)) qs xs e
      → said_from (start_of s) qs (map said xs) ≡ events call (start_of s) (all_steps call (start_of s) qs)
  said_made s {qs} w l =
      ap (said_from (start_of s) qs) (steps_are (start_of s) (start_valid s) w refl l).2 ∙ said_is (start_of s) qs (start_valid s)

  -- from every start on, the book of what was asked and of the answers received has the guarantees (document 01: "demand 3")
  pub steps_keep : (s : Start) {qs : List Step} {xs : List A} {e : D} → fit (start_of s).settings → MadeAll (MadeStep Made Amends) (desk (start_of s)) qs xs e
      → (e ≡ desk (after call (start_of s) (all_steps call (start_of s) qs))) × (xs ≡ map answered (replies call (start_of s) qs))
      × Guarantee (start_of s).settings.kind (start_of s).settings (book_of (start_of s) (said_from (start_of s) qs (map said xs)))
  steps_keep s {qs} w l =
      let r = steps_are (start_of s) (start_valid s) w refl l in
      (r.0, r.1, rw (said_made s w l) (demand3 s (all_steps call (start_of s) qs)))

  -- and with the change of document 02, No. 12, between two lists
  pub steps_around : (s : Start) {qs ps : List Step} {xs ys : List A} {d e : D} → (start_of s).settings.kind ≡ Easy → fit (start_of s).settings
      → (let t = changes s (all_steps call (start_of s) qs) in
      fit (start_of t).settings → MadeAll (MadeStep Made Amends) (desk (start_of s)) qs xs d → MadeAll (MadeStep Made Amends) (desk (start_of t)) ps ys e
      → AroundChange s (all_steps call (start_of s) qs) (said_from (start_of s) qs (map said xs))
      (all_steps call (start_of t) ps) (said_from (start_of t) ps (map said ys)))
  steps_around s {qs} {ps} k w w' l l' =
      let t = changes s (all_steps call (start_of s) qs) in
      rw (said_made s w l, said_made t w' l') (around_change s (all_steps call (start_of s) qs) (all_steps call (start_of t) ps) k)
