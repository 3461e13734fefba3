-- Calls of the code, one after another, are a list of calls of the definitions. So what is proved of lists holds of the code, by the answers that
-- the caller received. Document 01: "Each call, taken or refused, gets the desk that the last one handed back, or left where it was lent"; "The
-- words go by the calls and their answers".
-- Assumes nothing.
use Rattle.std.specs.Prelude.{◌≡◌, refl, List, [], ◌∷◌, map}
use Rattle.std.proofs.Common.{sym, ap, subst, ◌∙◌}
use Rattle.scheduler.specs.declared.Kind.{Kind}
use Rattle.scheduler.specs.declared.Kind.TheVariants.{Conservative, Easy}
use Rattle.scheduler.specs.declared.Answer.{Answer}
use Rattle.scheduler.specs.declared.Outcome.{Outcome}
use Rattle.scheduler.specs.declared.Refusal.{Refusal}
use Rattle.scheduler.specs.declared.Scheduler.{Scheduler}
use Rattle.scheduler.specs.declared.Settings.{Settings}
use Rattle.scheduler.specs.Model.{Model, store, view}
use Rattle.scheduler.specs.Answers.{Reply, answer, outcome, refuse}
use Rattle.history.specs.Calls.{Call, unchanged, Event, after, events, events_of}
use Rattle.history.specs.Guarantee.{Guarantee}
use Rattle.conservative_rules.specs.Conservative as conservative
use Rattle.easy_rules.specs.Easy as easy
use Rattle.guarantees.specs.Rules.{rules_of, call}
use Rattle.guarantees.specs.Premise.{Valid, Premise, call_premise, valid_view, call_valid}
use Rattle.guarantees.specs.Statement.{book_of, Start, changes, start_of}
use Rattle.guarantees.specs.Proof.{start_valid, demand3}
use Rattle.guarantees.specs.Cleanup.{settings_stay}
use Rattle.guarantees.specs.Migration.{AroundChange, around_change}

-- what a call's contract says that it gives
abbrev pub gives : Scheduler → Call → Outcome
gives d c = outcome (call (view d) c)

-- the scheduler that the last of some calls by value hands back
abbrev pub handed : Scheduler → List Call → Scheduler
handed d [] = d
handed d (c ∷ cs) = handed (gives d c).scheduler cs

read_back : (d : Scheduler) (c : Call) → Premise d → view (gives d c).scheduler ≡ (call (view d) c).model
read_back d c h = valid_view (call (view d) c).model (call_valid (view d) c h.holds)

pub handed_is : (d : Scheduler) (cs : List Call) → Premise d → handed d cs ≡ store (after call (view d) cs)
handed_is d [] h = h.stored
handed_is d (c ∷ cs) h = handed_is (gives d c).scheduler cs (call_premise d c h) ∙ ap (λ (m : Model). store (after call m cs)) (read_back d c h)

-- ## Calls as they were made

-- the answer to an event
abbrev pub answer_of : Event → Answer
answer_of x = answer x.reply

-- `Made d c a e`: the call c was made on d, was answered a, and handed back or left e. Each call gets what the last one left. (Q is what is asked with
-- one answer: `Call`, or with corrected orders among them `Step` of crates/amend_rules/specs/Steps.antt.)
pub data MadeAll {D Q A : Type 0} (Made : D → Q → A → D → Type 0) : D → List Q → List A → D → Type 0 where
  none : {d : D} → MadeAll Made d [] [] d
  next : {d e f : D} {c : Q} {a : A} {cs : List Q} {xs : List A} → Made d c a e → MadeAll Made e cs xs f → MadeAll Made d (c ∷ cs) (a ∷ xs) f

-- a call that leaves the scheduler as it is gives its refusal and nothing else
pub unchanged_refuses : (m : Model) (r : Refusal) → call m (unchanged r) ≡ refuse m r
unfolding conservative.call easy.call
unchanged_refuses m r = by m.settings.kind
  where
    by : (k : Kind) → rules_of k m (unchanged r) ≡ refuse m r
    by Conservative = refl
    by Easy = refl

-- A way to make calls. `desk m` stands for a model m with settings that fit (`fit`), `answered r` for a reply r, and `said` is the reply that an
-- answer says. Each call on a valid model leaves and answers what its definition gives (`is`), and what is said is that reply (`back`).
module _ {D A : Type 0} (Made : D → Call → A → D → Type 0) (desk : Model → D) (answered : Reply → A) (said : A → Reply) (fit : Settings → Type 0)
    (is : (m : Model) (c : Call) (a : A) (e : D) → Valid m → fit m.settings → Made (desk m) c a e
    → (e ≡ desk (call m c).model) × (a ≡ answered (call m c).reply))
    (back : (m : Model) (c : Call) → Valid m → said (answered (call m c).reply) ≡ (call m c).reply) where
  -- from a valid model on, what is left, the answers, and the events as the caller has them are those of the list of calls
  pub made_all_is : (m : Model) {d : D} {cs : List Call} {xs : List A} {e : D} → Valid m → fit m.settings → d ≡ desk m → MadeAll Made d cs xs e
      → (e ≡ desk (after call m cs)) × (xs ≡ map (λ (x : Event). answered x.reply) (events call m cs)) × (events_of cs (map said xs) ≡ events call m cs)
  made_all_is m v w q none = (q, refl, refl)
  made_all_is m v w q (next {e = e} {c = c} {a = a} one rest) =
      let r = is m c a e v w (subst (λ (x : D). Made x c a e) q one) in
      let s = made_all_is (call m c).model (call_valid m c v) (subst fit (sym (settings_stay m (c ∷ []) v)) w) r.0 rest in
      let t : said a ≡ (call m c).reply = ap said r.1 ∙ back m c v in
      (s.0, λ i. r.1 i ∷ s.1 i, λ i. record { call = c; reply = t i } ∷ s.2 i)

  -- from every start on, the book of the calls made and the answers received has the guarantees (document 01: "demand 3")
  pub made_keeps : (s : Start) {cs : List Call} {xs : List A} {e : D} → fit (start_of s).settings → MadeAll Made (desk (start_of s)) cs xs e
      → (e ≡ desk (after call (start_of s) cs)) × (xs ≡ map (λ (x : Event). answered x.reply) (events call (start_of s) cs))
      × Guarantee (start_of s).settings.kind (start_of s).settings (book_of (start_of s) (events_of cs (map said xs)))
  made_keeps s {cs} w l =
      let r = made_all_is (start_of s) (start_valid s) w refl l in
      (r.0, r.1, rw r.2 (demand3 s cs))

  -- "A list of demand 3 ends with the change. Another starts from the new desk" (document 02, No. 12): both lists, by the answers received
  pub made_around : (s : Start) {cs ds : List Call} {xs ys : List A} {d e : D} → (start_of s).settings.kind ≡ Easy → fit (start_of s).settings
      → fit (start_of (changes s cs)).settings → MadeAll Made (desk (start_of s)) cs xs d → MadeAll Made (desk (start_of (changes s cs))) ds ys e
      → AroundChange s cs (events_of cs (map said xs)) ds (events_of ds (map said ys))
  made_around s {cs} {ds} k w w' l l' =
      rw (
        (made_all_is (start_of s) (start_valid s) w refl l).2,
        (made_all_is (start_of (changes s cs)) (start_valid (changes s cs)) w' refl l').2,
      )
      (around_change s cs ds k)
