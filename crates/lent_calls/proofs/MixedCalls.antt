-- Calls by value and on a lent scheduler, one after another, are a list of calls of the definitions, and by the answers received they have
-- its guarantees. Document 01: "Each call, taken or refused, gets the desk that the last one handed back, or left where it was lent"; "A
-- call on a lent desk counts as its by-value one, a `wait` as its steps or as one refused call"; "A profile leaves the desk as it is, and
-- the points lent to it are no part of the desk".
-- Assumes nothing.
use Rattle.std.specs.Prelude.{◌≡◌, refl, false, List, map, ℕ}
use Rattle.std.proofs.Common.{sym, ap, subst, ◌∙◌}
use Rattle.scheduler.specs.declared.Amendment.{Amendment}
use Rattle.scheduler.specs.declared.Answer.{Answer}
use Rattle.scheduler.specs.declared.Outcome.{Outcome}
use Rattle.scheduler.specs.declared.Refusal.{Refusal}
use Rattle.scheduler.specs.declared.Kind.TheVariants.{Easy}
use Rattle.scheduler.specs.declared.Scheduler.{Scheduler}
use Rattle.scheduler.specs.Model.{Model, store}
use Rattle.scheduler.specs.Answers.{accepts, answer, reply_of, outcome, refused_answer}
use Rattle.scheduler.specs.Refusals.{wait_refusal}
use Rattle.scheduler.specs.Opening.{opened}
use Rattle.history.specs.Calls.{Call, tick, unchanged, after, events, events_of}
use Rattle.history.specs.Guarantee.{Guarantee}
use Rattle.guarantees.specs.Rules.{call}
use Rattle.guarantees.specs.Premise.{Valid, valid_view, after_valid}
use Rattle.guarantees.specs.Proof.{start_valid}
use Rattle.guarantees.specs.Migration.{AroundChange}
use Rattle.migration_rules.specs.Migration.{changed}
use Rattle.guarantees.specs.Replies.{reply_back}
use Rattle.guarantees.specs.Chain.{answer_of, MadeAll, unchanged_refuses, made_keeps, made_around}
use Rattle.guarantees.specs.Statement.{book_of, Start, opens, reads, changes, start_of}
use Rattle.calls.specs.MigrateCall.{migrating}
use Rattle.amend_rules.specs.Amending.{amended}
use Rattle.amend_rules.specs.Steps.{Step, all_steps, replies}
use Rattle.amend_laws.specs.OneAnswer.{amended_back}
use Rattle.amend_laws.specs.Steps.{said_from, steps_keep, steps_around}
use Rattle.advancing.specs.Counting.{MadeOnward, advance_made, counted}
use Rattle.lent_calls.specs.MixedCalls.{Made, by_value, on_lent, profile_by_value, profile_on_lent, index_by_value, index_on_lent, earliest_asked, longest_asked, text_shown, wait_refused, started, Amended, MadeMixed, Advances}

-- where d is a valid model, stored: each call leaves and answers what its definition gives
module _ (m : Model) (v : Valid m) where
  unchanged_is : (r : Refusal) → (store m ≡ store (call m (unchanged r)).model) × (refused_answer r ≡ answer (call m (unchanged r)).reply)
  unchanged_is r = rw (unchanged_refuses m r) (refl, refl)

  made_is : {c : Call} {a : Answer} {e : Scheduler} → Made (store m) c a e → (e ≡ store (call m c).model) × (a ≡ answer (call m c).reply)
  made_is (by_value {c} q) = let p = q ∙ ap (λ (x : Model). outcome (call x c)) (valid_view m v) in
      (ap (λ (o : Outcome). o.scheduler) p, ap (λ (o : Outcome). o.answer) p)
  made_is (on_lent {c} l) = (
    l.leaves ∙ ap (λ (x : Model). store (call x c).model) (valid_view m v),
    l.answers
        ∙ ap (λ (x : Model). answer (call x c).reply) (valid_view m v),
  )
  made_is (profile_by_value room {p} e) = unchanged_is p.answer.refusal
  made_is (profile_on_lent {lent} {after} {s} w) = unchanged_is s.refusal
  made_is (index_by_value room {p} e) = unchanged_is p.answer.refusal
  made_is (index_on_lent {lent} {after} {s} w) = unchanged_is s.refusal
  made_is (earliest_asked {e} ticket q) = unchanged_is e.refusal
  made_is (longest_asked {l} q e) = unchanged_is l.refusal
  made_is (text_shown {text} {lent} {after} {s} w) = unchanged_is s.refusal
  made_is (wait_refused {r} minutes e n) = unchanged_is r

started_is : (s : Start) → started s ≡ store (start_of s)
unfolding opened
started_is (opens o) = refl
started_is (reads t) = refl
started_is (changes s cs) = refl

-- Scheduler and answers are those of the list of calls, and the book of the calls made and the answers received has the guarantees (document 01:
-- "demand 3").
pub mixed_keeps : (s : Start) (cs : List Call) (xs : List Answer) (e : Scheduler) → MadeAll Made (started s) cs xs e
    → (e ≡ store (after call (start_of s) cs)) × (xs ≡ map answer_of (events call (start_of s) cs))
    × Guarantee (start_of s).settings.kind (start_of s).settings (book_of (start_of s) (events_of cs (map reply_of xs)))
mixed_keeps s cs xs e l =
    made_keeps Made store answer reply_of (λ S. Unit {0}) (λ m c a d v w. made_is m v) reply_back s tt
    (subst (λ (x : Scheduler). MadeAll Made x cs xs e) (started_is s) l)

-- ## The change (document 02, No. 12)

-- what `migrate` makes of the scheduler that the calls of a list have left is what the next list starts with
pub migrated_starts : (s : Start) (cs : List Call) (d : Scheduler) → d ≡ store (after call (start_of s) cs) → migrating d ≡ started (changes s cs)
migrated_starts s cs d e =
    let m = after call (start_of s) cs in
    ap migrating e ∙ ap (λ (x : Model). store (changed x)) (valid_view m (after_valid (start_of s) cs (start_valid s)))

-- "A list of demand 3 ends with the change. Another starts from the new desk": calls by value and on a lent EASY scheduler, the change, and calls
-- on what it hands back. By the answers received both lists have the guarantees, and each waiting job is handed over with a promise within its
-- bound and its forecast.
pub mixed_around : (s : Start) (cs ds : List Call) (xs ys : List Answer) (d e f : Scheduler) → (start_of s).settings.kind ≡ Easy
    → MadeAll Made (started s) cs xs d → e ≡ migrating d → MadeAll Made e ds ys f
    → AroundChange s cs (events_of cs (map reply_of xs)) ds (events_of ds (map reply_of ys))
mixed_around s cs ds xs ys d e f k l q l' =
    made_around Made store answer reply_of (λ S. Unit {0}) (λ m c a d v w. made_is m v) reply_back s k tt tt
    (subst (λ (x : Scheduler). MadeAll Made x cs xs d) (started_is s) l)
    (subst (λ (x : Scheduler). MadeAll Made x ds ys f) (q ∙ migrated_starts s cs d (mixed_keeps s cs xs d l).0) l')

-- ## Corrected orders (document 02, No. 13)

amended_is : (m : Model) → Valid m → {b : Amendment} {a : Answer} {e : Scheduler} → Amended (store m) b a e
    → (e ≡ store (amended call m b).model) × (a ≡ answer (amended call m b).reply)
amended_is m v {b} (by_value q) = let p = q ∙ ap (λ (x : Model). outcome (amended call x b)) (valid_view m v) in
    (ap (λ (o : Outcome). o.scheduler) p, ap (λ (o : Outcome). o.answer) p)
amended_is m v {b} (on_lent l) = (
  l.leaves ∙ ap (λ (x : Model). store (amended call x b).model) (valid_view m v),
  l.answers ∙ ap (λ (x : Model). answer (amended call x b).reply) (valid_view m v),
)

-- Lists with corrected orders among the calls: scheduler and answers are those of the calls that these count as, and the book of what was asked and of
-- the answers received has the guarantees
pub amended_keeps : (s : Start) (qs : List Step) (xs : List Answer) (e : Scheduler) → MadeAll MadeMixed (started s) qs xs e
    → (e ≡ store (after call (start_of s) (all_steps call (start_of s) qs))) × (xs ≡ map answer (replies call (start_of s) qs))
    × Guarantee (start_of s).settings.kind (start_of s).settings (book_of (start_of s) (said_from (start_of s) qs (map reply_of xs)))
amended_keeps s qs xs e l =
    steps_keep Made Amended store answer reply_of (λ S. Unit {0}) (λ m c a d v w. made_is m v) (λ m b a d v w. amended_is m v) reply_back amended_back s tt
    (subst (λ (x : Scheduler). MadeAll MadeMixed x qs xs e) (started_is s) l)

-- and both lists around a change of kind
pub amended_around : (s : Start) (qs ps : List Step) (xs ys : List Answer) (d e f : Scheduler) → (start_of s).settings.kind ≡ Easy
    → MadeAll MadeMixed (started s) qs xs d → e ≡ migrating d → MadeAll MadeMixed e ps ys f
    → let cs = all_steps call (start_of s) qs in
    let t = changes s cs in
    AroundChange s cs (said_from (start_of s) qs (map reply_of xs)) (all_steps call (start_of t) ps) (said_from (start_of t) ps (map reply_of ys))
amended_around s qs ps xs ys d e f k l q l' =
    let cs = all_steps call (start_of s) qs in
    steps_around Made Amended store answer reply_of (λ S. Unit {0}) (λ m c a d v w. made_is m v) (λ m b a d v w. amended_is m v) reply_back amended_back s k tt tt
    (subst (λ (x : Scheduler). MadeAll MadeMixed x qs xs d) (started_is s) l)
    (subst (λ (x : Scheduler). MadeAll MadeMixed x ps ys f) (q ∙ migrated_starts s cs d (amended_keeps s qs xs d l).0) l')

-- ## Minutes that pass at once

tick_made : (m : Model) → Valid m → Made (store m) tick (answer (call m tick).reply) (store (call m tick).model)
tick_made m v = by_value (ap (λ (x : Model). outcome (call x tick)) (sym (valid_view m v)))

wait_refused_lem : (m : Model) (n : ℕ) → Valid m → accepts (wait_refusal m n) ≡ false
    → Made (store m) (unchanged (wait_refusal m n)) (refused_answer (wait_refusal m n)) (store m)
wait_refused_lem m n v a = wait_refused n (ap (λ (x : Model). wait_refusal x n) (sym (valid_view m v))) a

-- where d is a valid model, stored, these calls could have been made, with these answers
ticks_made : (m : Model) → Valid m → {cs : List Call} {xs : List Answer} {e : Scheduler} → Advances (store m) cs xs e → MadeAll Made (store m) cs xs e
ticks_made m v (by_value n q) =
    rw (q, valid_view m v) (advance_made Made store answer (λ S. Unit {0}) (λ x y z. tick_made x y) (λ x k y z. wait_refused_lem x k y) m n v tt)
ticks_made m v (on_lent n l) =
    rw (l.leaves, l.answers, valid_view m v)
    (advance_made Made store answer (λ S. Unit {0}) (λ x y z. tick_made x y) (λ x k y z. wait_refused_lem x k y) m n v tt)

-- From every start: calls, corrected orders and minutes that pass at once are the steps that they count as
pub counts_as : (s : Start) (qs : List Step) (xs : List Answer) (e : Scheduler) → MadeOnward MadeMixed Advances (started s) qs xs e
    → MadeAll MadeMixed (started s) qs xs e
counts_as s qs xs e l =
    counted Made Amended Advances store answer reply_of (λ S. Unit {0}) (λ m c a d v w. made_is m v) (λ m b a d v w. amended_is m v) reply_back amended_back
    (λ m cs ys d v w. ticks_made m v) (start_of s) (start_valid s) tt (started_is s) l

-- so that the book of what was asked and of the answers received has the guarantees
pub advanced_keeps : (s : Start) (qs : List Step) (xs : List Answer) (e : Scheduler) → MadeOnward MadeMixed Advances (started s) qs xs e
    → (e ≡ store (after call (start_of s) (all_steps call (start_of s) qs))) × (xs ≡ map answer (replies call (start_of s) qs))
    × Guarantee (start_of s).settings.kind (start_of s).settings (book_of (start_of s) (said_from (start_of s) qs (map reply_of xs)))
advanced_keeps s qs xs e l = amended_keeps s qs xs e (counts_as s qs xs e l)

-- and both lists around a change of kind
pub advanced_around : (s : Start) (qs ps : List Step) (xs ys : List Answer) (d e f : Scheduler) → (start_of s).settings.kind ≡ Easy
    → MadeOnward MadeMixed Advances (started s) qs xs d → e ≡ migrating d → MadeOnward MadeMixed Advances e ps ys f
    → let cs = all_steps call (start_of s) qs in
    let t = changes s cs in
    AroundChange s cs (said_from (start_of s) qs (map reply_of xs)) (all_steps call (start_of t) ps) (said_from (start_of t) ps (map reply_of ys))
advanced_around s qs ps xs ys d e f k l q l' =
    let cs = all_steps call (start_of s) qs in
    let g = counts_as s qs xs d l in
    let z = q ∙ migrated_starts s cs d (amended_keeps s qs xs d g).0 in
    let h = counts_as (changes s cs) ps ys f (subst (λ (x : Scheduler). MadeOnward MadeMixed Advances x ps ys f) z l') in
    amended_around s qs ps xs ys d e f k g q (subst (λ (x : Scheduler). MadeAll MadeMixed x ps ys f) (sym z) h)
