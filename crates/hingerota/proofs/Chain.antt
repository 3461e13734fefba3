-- Calls of a host, one after another, are a list of calls of the definitions, and by the answers received they have its guarantees.
-- Document 01: "Each call, taken or refused, gets the desk that the last one handed back, or left where it was lent"; "A profile leaves the
-- desk as it is, and the points lent to it are no part of the desk"; "a `wait` as its steps or as one refused call".
-- Assumes nothing.
use Rattle.std.specs.Prelude.{◌≡◌, refl, false, List, map, ℕ, length}
use Rattle.std.proofs.Common.{sym, ap₂, subst, ◌∙◌}
use Rattle.std.proofs.Math.Path.{ap}
use Rattle.scheduler.specs.declared.Kind.TheVariants.{Easy}
use Rattle.scheduler.specs.declared.Settings.{Settings}
use Rattle.scheduler.specs.declared.Amendment as scheduler-amendment
use Rattle.scheduler.specs.Limits.{longest_estimate}
use Rattle.scheduler.specs.Model.{Model, store, view}
use Rattle.scheduler.specs.Answers.{Reply, accepts, answer, refusing, reply_of}
use Rattle.scheduler.specs.Refusals.{wait_refusal}
use Rattle.scheduler.specs.Opening.{opened}
use Rattle.easy_rules.specs.EarliestStart.{earliest_start}
use Rattle.history.specs.Calls.{Call, tick, unchanged, Event, after, events, events_of}
use Rattle.history.specs.Guarantee.{Guarantee}
use Rattle.guarantees.specs.Rules.{call}
use Rattle.guarantees.specs.Premise.{Valid, valid_view, after_valid, stored_premise}
use Rattle.guarantees.specs.Proof.{start_valid}
use Rattle.guarantees.specs.Cleanup.{settings_stay}
use Rattle.guarantees.specs.Migration.{AroundChange, changed_longest}
use Rattle.migration_rules.specs.Migration.{changed}
use Rattle.guarantees.specs.Replies.{reply_back}
use Rattle.guarantees.specs.Chain.{answer_of, MadeAll, unchanged_refuses, made_keeps, made_around}
use Rattle.guarantees.specs.Statement as start
use Rattle.guarantees.specs.Statement.{book_of, Start, start_of}
use Rattle.amend_rules.specs.Amending.{amended}
use Rattle.amend_rules.specs.Steps.{Step, all_steps, replies}
use Rattle.amend_laws.specs.OneAnswer.{amended_back}
use Rattle.amend_laws.specs.Steps.{said_from, steps_keep, steps_around}
use Rattle.advancing.specs.Counting.{MadeOnward, advance_made, counted}
use Rattle.calls.specs.ListCall.{list_refusal}
use Rattle.calls.specs.ProfileCall.{points_of}
use Rattle.calls.specs.IndexCall.{blocks_of}
use Rattle.calls.specs.LongestCall.{longest_of}
use Rattle.checkpoint_laws.specs.Restored.{restored_lined}
use Rattle.hingerota.specs.declared.Desk.{Desk}
use Rattle.hingerota.specs.declared.Answer.{Answer}
use Rattle.hingerota.specs.declared.Earliest.{Earliest}
use Rattle.hingerota.specs.declared.Longest.{Longest}
use Rattle.hingerota.specs.declared.Shown.{Shown}
use Rattle.hingerota.specs.Mirror.{mirror, mirror_answer, read, read_answer}
use Rattle.hingerota.proofs.ReadBack.{read_mirror}
use Rattle.hingerota.specs.DeskPremise.{promise_opening, loose_opening, gives, opening_longest}
use Rattle.hingerota.proofs.DeskPremise.{mirror_handed}
use Rattle.hingerota.proofs.CallContract.{leaves_given}
use Rattle.hingerota.specs.LongestContract.{asked_by}
use Rattle.hingerota.specs.MigrateContract.{migrated_desk, HostMigrates}
use Rattle.hingerota.specs.Waits.{wait_refusal_on}
use Rattle.hingerota.specs.Chain.{host_reply, refused_by, HostMade, profile_on_lent, index_on_lent, earliest_asked, longest_asked, text_on_lent, wait_refused, HostStart, opens_promise, opens_loose, restores_text, changes_desk, start_by, desk_by, HostAmended, HostMadeStep, HostAdvances, on_lent}

-- where d mirrors a valid model, stored: each call leaves and answers what its definition gives
module _ (m : Model) (v : Valid m) (w : m.settings.longest ≡ longest_estimate) where
  desk_view : view (read (mirror (store m))) ≡ m
  unfolding store
  desk_view = ap view (read_mirror (store m) w) ∙ valid_view m v

  made_is : {c : Call} {a : Answer} {e : Desk} → HostMade (mirror (store m)) c a e
      → (e ≡ mirror (store (call m c).model)) × (a ≡ mirror_answer (answer (call m c).reply))
  made_is (on_lent {c} l) = (
    l.leaves ∙ ap (λ (x : Model). mirror (store (call x c).model)) desk_view,
    l.answers
        ∙ ap (λ (x : Model). mirror_answer (answer (call x c).reply)) desk_view,
  )
  made_is (profile_on_lent {lent} {after} {s} w) =
      rw (unchanged_refuses m (list_refusal points_of (view (read (mirror (store m)))) (length lent))) (refl, ap (λ (x : Shown). refused_by x.refusal) w.answers)
  made_is (index_on_lent {lent} {after} {s} w) =
      rw (unchanged_refuses m (list_refusal blocks_of (view (read (mirror (store m)))) (length lent))) (refl, ap (λ (x : Shown). refused_by x.refusal) w.answers)
  made_is (earliest_asked ticket q) =
      rw (unchanged_refuses m (earliest_start (view (read (mirror (store m)))) ticket).refusal) (refl, ap (λ (x : Earliest). refused_by x.refusal) q)
  made_is (longest_asked q e) =
      rw (unchanged_refuses m (longest_of (view (read (mirror (store m)))) (asked_by q)).refusal) (refl, ap (λ (x : Longest). refused_by x.refusal) e)
  made_is (text_on_lent {text} {lent} {after} {s} w) =
      rw (unchanged_refuses m (list_refusal text (view (read (mirror (store m)))) (length lent))) (refl, ap (λ (x : Shown). refused_by x.refusal) w.answers)
  made_is (wait_refused {n} minutes e q) = rw (unchanged_refuses m (wait_refusal_on (mirror (store m)) minutes)) (refl, ap refused_by e)

desk_is : (s : HostStart) → desk_by s ≡ mirror (store (start_of (start_by s)))
unfolding opened
desk_is (opens_promise o) = refl
desk_is (opens_loose o) = refl
desk_is (restores_text t) = refl
desk_is (changes_desk s cs) = refl

after_longest : (s : Start) (cs : List Call) → (start_of s).settings.longest ≡ longest_estimate → (after call (start_of s) cs).settings.longest ≡ longest_estimate
after_longest s cs e = ap (λ (S : Settings). S.longest) (settings_stay (start_of s) cs (start_valid s)) ∙ e

start_longest : (s : HostStart) → (start_of (start_by s)).settings.longest ≡ longest_estimate
start_longest (opens_promise o) = opening_longest (promise_opening o) refl
start_longest (opens_loose o) = opening_longest (loose_opening o) refl
start_longest (restores_text t) = (restored_lined t).longest
start_longest (changes_desk s cs) = changed_longest (after call (start_of (start_by s)) cs) ∙ after_longest (start_by s) cs (start_longest s)

reply_said : (m : Model) (c : Call) → Valid m → host_reply (mirror_answer (answer (call m c).reply)) ≡ (call m c).reply
reply_said m c v = ap reply_of (read_answer (answer (call m c).reply)) ∙ reply_back m c v

-- Desk and answers are those of the list of calls, and the book of the calls made and the answers received has the guarantees (document 01: "demand
-- 3").
pub host_keeps : (s : HostStart) (cs : List Call) (xs : List Answer) (e : Desk) → MadeAll HostMade (desk_by s) cs xs e
    → let m = start_of (start_by s) in
    (e ≡ mirror (store (after call m cs))) × (xs ≡ map (λ (x : Event). mirror_answer (answer_of x)) (events call m cs))
    × Guarantee m.settings.kind m.settings (book_of m (events_of cs (map host_reply xs)))
host_keeps s cs xs e l =
    made_keeps HostMade (λ m. mirror (store m)) (λ r. mirror_answer (answer r)) host_reply (λ S. S.longest ≡ longest_estimate) (λ m c a d v w. made_is m v w)
    reply_said (start_by s) (start_longest s)
    (subst (λ (x : Desk). MadeAll HostMade x cs xs e) (desk_is s) l)

-- ## The change (document 02, No. 12)

-- what `hingerota_migrate` leaves of the desk after the calls of a list is what the next list starts with
pub migrated_starts : (s : HostStart) (cs : List Call) (d : Desk) → d ≡ mirror (store (after call (start_of (start_by s)) cs)) → migrated_desk d ≡ desk_by (changes_desk s cs)
migrated_starts s cs d e =
    let m = after call (start_of (start_by s)) cs in
    ap migrated_desk e
    ∙ ap (λ (x : Model). mirror (store (changed x)))
    (desk_view m (after_valid (start_of (start_by s)) cs (start_valid (start_by s))) (after_longest (start_by s) cs (start_longest s)))

-- "A list of demand 3 ends with the change. Another starts from the new desk": a host's calls on an EASY desk, the change, and its calls on what that
-- leaves. By the answers received both lists have the guarantees, and each waiting job is handed over with a promise within its bound and its
-- forecast.
pub host_around : (s : HostStart) (cs ds : List Call) (xs ys : List Answer) (d e f : Desk) → (start_of (start_by s)).settings.kind ≡ Easy
    → MadeAll HostMade (desk_by s) cs xs d → HostMigrates d e → MadeAll HostMade e ds ys f
    → AroundChange (start_by s) cs (events_of cs (map host_reply xs)) ds (events_of ds (map host_reply ys))
host_around s cs ds xs ys d e f k l q l' =
    made_around HostMade (λ m. mirror (store m)) (λ r. mirror_answer (answer r)) host_reply (λ S. S.longest ≡ longest_estimate) (λ m c a d v w. made_is m v w)
    reply_said (start_by s) k (start_longest s) (start_longest (changes_desk s cs))
    (subst (λ (x : Desk). MadeAll HostMade x cs xs d) (desk_is s) l)
    (subst (λ (x : Desk). MadeAll HostMade x ds ys f) (q.leaves ∙ migrated_starts s cs d (host_keeps s cs xs d l).0) l')

-- ## Corrected orders (document 02, No. 13)

host_amended_is : (m : Model) → Valid m → m.settings.longest ≡ longest_estimate → (b : scheduler-amendment.Amendment) (a : Answer) (e : Desk)
    → HostAmended (mirror (store m)) b a e
    → (e ≡ mirror (store (amended call m b).model)) × (a ≡ mirror_answer (answer (amended call m b).reply))
host_amended_is m v w b a e (x, q, l) = (
  l.leaves ∙ ap₂ (λ (y : Model) (z : scheduler-amendment.Amendment). mirror (store (amended call y z).model)) (desk_view m v w) (sym q),
  l.answers ∙ ap₂ (λ (y : Model) (z : scheduler-amendment.Amendment). mirror_answer (answer (amended call y z).reply)) (desk_view m v w) (sym q),
)

amended_said : (m : Model) (b : scheduler-amendment.Amendment) → Valid m
    → host_reply (mirror_answer (answer (amended call m b).reply)) ≡ (amended call m b).reply
amended_said m b v = ap reply_of (read_answer (answer (amended call m b).reply)) ∙ amended_back m b v

-- Lists with corrected orders among the calls: desk and answers are those of the calls that these count as, and the book of what was asked and of the
-- answers received has the guarantees
pub host_amended_keeps : (s : HostStart) (qs : List Step) (xs : List Answer) (e : Desk) → MadeAll HostMadeStep (desk_by s) qs xs e
    → let m = start_of (start_by s) in
    (e ≡ mirror (store (after call m (all_steps call m qs)))) × (xs ≡ map (λ (r : Reply). mirror_answer (answer r)) (replies call m qs))
    × Guarantee m.settings.kind m.settings (book_of m (said_from m qs (map host_reply xs)))
host_amended_keeps s qs xs e l =
    steps_keep HostMade HostAmended (λ m. mirror (store m)) (λ r. mirror_answer (answer r)) host_reply (λ S. S.longest ≡ longest_estimate)
    (λ m c a d v w. made_is m v w) (λ m b a d v w. host_amended_is m v w b a d) reply_said amended_said (start_by s) (start_longest s)
    (subst (λ (x : Desk). MadeAll HostMadeStep x qs xs e) (desk_is s) l)

-- and both lists around a change of kind
pub host_amended_around : (s : HostStart) (qs ps : List Step) (xs ys : List Answer) (d e f : Desk) → (start_of (start_by s)).settings.kind ≡ Easy
    → MadeAll HostMadeStep (desk_by s) qs xs d → HostMigrates d e → MadeAll HostMadeStep e ps ys f
    → let m = start_of (start_by s) in
    let t = start_of (start.changes (start_by s) (all_steps call m qs)) in
    AroundChange (start_by s) (all_steps call m qs) (said_from m qs (map host_reply xs)) (all_steps call t ps) (said_from t ps (map host_reply ys))
host_amended_around s qs ps xs ys d e f k l q l' =
    let cs = all_steps call (start_of (start_by s)) qs in
    steps_around HostMade HostAmended (λ m. mirror (store m)) (λ r. mirror_answer (answer r)) host_reply (λ S. S.longest ≡ longest_estimate)
    (λ m c a d v w. made_is m v w) (λ m b a d v w. host_amended_is m v w b a d) reply_said amended_said (start_by s) k (start_longest s)
    (start_longest (changes_desk s cs))
    (subst (λ (x : Desk). MadeAll HostMadeStep x qs xs d) (desk_is s) l)
    (subst (λ (x : Desk). MadeAll HostMadeStep x ps ys f) (q.leaves ∙ migrated_starts s cs d (host_amended_keeps s qs xs d l).0) l')

-- ## Minutes that pass at once

tick_made : (m : Model) → Valid m → m.settings.longest ≡ longest_estimate
    → HostMade (mirror (store m)) tick (mirror_answer (answer (call m tick).reply)) (mirror (store (call m tick).model))
unfolding store
tick_made m v w =
    subst (λ (x : Model). HostMade (mirror (store m)) tick (mirror_answer (answer (call x tick).reply)) (mirror (store (call x tick).model))) (desk_view m v w)
    (on_lent (leaves_given (mirror (store m)) tick (gives (mirror (store m)) tick) (mirror_handed (store m) w (stored_premise m v)) refl))

wait_refused_lem : (m : Model) (n : ℕ) → Valid m → m.settings.longest ≡ longest_estimate → accepts (wait_refusal m n) ≡ false
    → HostMade (mirror (store m)) (unchanged (wait_refusal m n)) (mirror_answer (answer (refusing (wait_refusal m n)))) (mirror (store m))
wait_refused_lem m n v w a =
    subst (λ (x : Model). HostMade (mirror (store m)) (unchanged (wait_refusal x n)) (mirror_answer (answer (refusing (wait_refusal x n)))) (mirror (store m)))
    (desk_view m v w)
    (wait_refused n refl (subst (λ (x : Model). accepts (wait_refusal x n) ≡ false) (sym (desk_view m v w)) a))

-- where d mirrors a valid model, stored, these calls could have been made, with these answers
ticks_made : (m : Model) → Valid m → m.settings.longest ≡ longest_estimate → {cs : List Call} {xs : List Answer} {e : Desk}
    → HostAdvances (mirror (store m)) cs xs e → MadeAll HostMade (mirror (store m)) cs xs e
ticks_made m v w (on_lent n l) =
    rw (l.leaves, l.answers, desk_view m v w)
    (advance_made HostMade (λ x. mirror (store x)) (λ r. mirror_answer (answer r)) (λ S. S.longest ≡ longest_estimate) tick_made wait_refused_lem m n v w)

-- From every start: calls, corrected orders and minutes that pass at once are the steps that they count as
pub host_counts_as : (s : HostStart) (qs : List Step) (xs : List Answer) (e : Desk) → MadeOnward HostMadeStep HostAdvances (desk_by s) qs xs e
    → MadeAll HostMadeStep (desk_by s) qs xs e
host_counts_as s qs xs e l =
    counted HostMade HostAmended HostAdvances (λ m. mirror (store m)) (λ r. mirror_answer (answer r)) host_reply (λ S. S.longest ≡ longest_estimate)
    (λ m c a d v w. made_is m v w) (λ m b a d v w. host_amended_is m v w b a d) reply_said amended_said (λ m cs ys d v w. ticks_made m v w)
    (start_of (start_by s)) (start_valid (start_by s)) (start_longest s) (desk_is s) l

-- so that the book of what was asked and of the answers received has the guarantees
pub host_advanced_keeps : (s : HostStart) (qs : List Step) (xs : List Answer) (e : Desk) → MadeOnward HostMadeStep HostAdvances (desk_by s) qs xs e
    → let m = start_of (start_by s) in
    (e ≡ mirror (store (after call m (all_steps call m qs)))) × (xs ≡ map (λ (r : Reply). mirror_answer (answer r)) (replies call m qs))
    × Guarantee m.settings.kind m.settings (book_of m (said_from m qs (map host_reply xs)))
host_advanced_keeps s qs xs e l = host_amended_keeps s qs xs e (host_counts_as s qs xs e l)

-- and both lists around a change of kind
pub host_advanced_around : (s : HostStart) (qs ps : List Step) (xs ys : List Answer) (d e f : Desk) → (start_of (start_by s)).settings.kind ≡ Easy
    → MadeOnward HostMadeStep HostAdvances (desk_by s) qs xs d → HostMigrates d e → MadeOnward HostMadeStep HostAdvances e ps ys f
    → let m = start_of (start_by s) in
    let t = start_of (start.changes (start_by s) (all_steps call m qs)) in
    AroundChange (start_by s) (all_steps call m qs) (said_from m qs (map host_reply xs)) (all_steps call t ps) (said_from t ps (map host_reply ys))
host_advanced_around s qs ps xs ys d e f k l q l' =
    let cs = all_steps call (start_of (start_by s)) qs in
    let g = host_counts_as s qs xs d l in
    let z = q.leaves ∙ migrated_starts s cs d (host_amended_keeps s qs xs d g).0 in
    let h = host_counts_as (changes_desk s cs) ps ys f (subst (λ (x : Desk). MadeOnward HostMadeStep HostAdvances x ps ys f) z l') in
    host_amended_around s qs ps xs ys d e f k g q (subst (λ (x : Desk). MadeAll HostMadeStep x ps ys f) (sym z) h)
