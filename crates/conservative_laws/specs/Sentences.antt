-- For the reader: document 01's sentences about the Promise Desk, each as a theorem about what calls give. So a definition cannot be bent along
-- with the code.
-- Assumes nothing.
use Rattle.std.specs.Prelude.{◌⊎◌, ℕ, suc, ◌+◌, ◌-◌, ◌≤◌, ◌≡◌, refl, Bool, true, false, not, ◌&&◌, ◌||◌, cond, List, [], ◌∷◌, ◌++◌, map, leb, ltb, eqb, length}
use Rattle.std.proofs.Common.{inl, inr, arith, sym, ap, ◌∙◌, le-leb, eqb-true, ne_eqb}
use Rattle.std.proofs.lemmas.Simd.{map-map}
use Rattle.std.proofs.lemmas.List.{length-map}
use Rattle.lists.specs.Tests.{case, true_false, and_right_false, on}
use Rattle.lists.specs.Lists.{keep, any, sum, elem, In, here, there, in_left, in_map, in_keep, keep_keep, keep_cong, keep_none, keep_map, map_cong}
use Rattle.walltime.specs.WallTime.{wall_time}
use Rattle.spans.specs.Spans.{takes, used, free, Earliest, Profile}
use Rattle.spans.proofs.EarliestStart.{earliest_is}
use Rattle.spans.proofs.ProfileLaws.{profile_is, profile_agrees, profile_length}
use Rattle.scheduler.specs.declared.State.{State}
use Rattle.scheduler.specs.declared.State.TheVariants.{Unused, Waiting, Running, Cleanup}
use Rattle.scheduler.specs.declared.Job.{Job}
use Rattle.scheduler.specs.declared.Submission.{Submission}
use Rattle.scheduler.specs.declared.Refusal.{Refusal}
use Rattle.scheduler.specs.declared.Refusal.TheVariants as refusal
use Rattle.scheduler.specs.declared.Departure.{Departure}
use Rattle.scheduler.specs.declared.Departure.TheVariants.{Complete, Cancel}
use Rattle.scheduler.specs.declared.Select.{Select}
use Rattle.scheduler.specs.declared.Select.TheVariants as select
use Rattle.scheduler.specs.Limits as limit
use Rattle.scheduler.specs.Tenants.{known}
use Rattle.scheduler.specs.States.{live?, waiting?, running?, cleaning?, holding?}
use Rattle.scheduler.specs.Jobs.{fresh, job_at, cleaning, is_waiting, is_running, is_cleaning, departs_as}
use Rattle.scheduler.specs.declared.Settings.{Settings}
use Rattle.scheduler.specs.Settings.{horizon, quota, longest, cleanup, run_time, hold_time, until}
use Rattle.scheduler.specs.Times.{cleanup_is, hold_is, end_is, until_is, until_cleaning}
use Rattle.scheduler.specs.Table as table
use Rattle.scheduler.specs.Table.{live_of, ticket_of, tickets_of, ends, staying, ceased, remaining}
use Rattle.scheduler.specs.Model.{Model, ending}
use Rattle.scheduler.specs.Answers.{Result, verdict, accepts, refuse}
use Rattle.scheduler.specs.Refusals.{judged, submit_tests, depart_refusal, tick_refusal}
use Rattle.scheduler.specs.Amending.{in_place_refusal, supersede}
use Rattle.jobs.specs.Order.{Asc, asc_keep, asc_one}
use Rattle.jobs.specs.Departing.{cancel_judged, departs_alone, left_ran, ticked_ran}
use Rattle.jobs.specs.Soundness.{SoundJob, Sound, waiting_clean, ceased_ticket, waits_on, remained_waits, sound_leave}
use Rattle.jobs.specs.Amended.{kept_ticket, kept_state, kept_start, kept_promise_lem, superseded_in, inplace_sound}
use Rattle.jobs.specs.Amended.{waits_runs}
use Rattle.jobs.specs.Judgement.{judged_by, judged_accepted, judged_refusal, judged_refused}
use Rattle.history.specs.Calls.{Call, submit, depart, complete, cancel, tick, amend, unchanged}
use Rattle.history.specs.News.{News, news_of}
use Rattle.history.specs.Tickets.{next_after}
use Rattle.history_proof.specs.Obligations.{said, Ticketed}
use Rattle.history_proof.specs.Departures.{queued_by, lives, Ended, unless_said}
use Rattle.conservative_rules.specs.Conservative.{span, spans, planned, points, submit_refusal, submitted, begun}
use Rattle.conservative_rules.specs.Conservative.{advanced, moved, start_of, departed, turned, ticked, amended_to, amended, call}
use Rattle.conservative_rules.specs.Computed.{promise_of}
use Rattle.conservative_laws.specs.Validity.{Valid, zip_left, Follows, follows_ticket, follows_start, follows_promise}
use Rattle.conservative_laws.specs.Outcomes.{CameOut, idle, joins, leaves, amends, outcome, call_valid}
use Rattle.conservative_laws.specs.Obligations.{OnCourse, begun_waited, lives_stays, waits_lives, outcome_joins}
use Rattle.conservative_laws.specs.Compression.{Repeats, left_compressible, compressed_is}

-- ## Free nodes

-- the minute from which the nodes of a job with this start are free again: its start plus its held time and the cleanup
abbrev pub freed_at : Settings → Job → ℕ
freed_at S j = j.start + wall_time j.estimate + S.cleanup

-- "those of running stacks whose end is after t": with cleanup, those whose nodes are still taken
abbrev pub running_after : Settings → ℕ → Job → ℕ
running_after S t j = on (is_running j && ltb t (freed_at S j)) j.nodes

-- document 02, No. 3: "nodes stay taken for clearing minutes .. after a planned or an early end alike"
abbrev pub cleaning_after : Settings → ℕ → Job → ℕ
cleaning_after S t j = on (is_cleaning j && ltb t (j.end + S.cleanup)) j.nodes

-- "those of waiting stacks with start ≤ t < start + held": with cleanup, start + held + cleanup
abbrev pub waiting_over : Settings → ℕ → Job → ℕ
waiting_over S t j = on (is_waiting j && (leb j.start t && ltb t (freed_at S j))) j.nodes

-- "Free nodes at minute t are the rack's, less those of running stacks whose end is after t, less those of waiting stacks with
-- start ≤ t < start + held."
abbrev pub free_nodes : Model → ℕ → ℕ
free_nodes m t =
    m.settings.nodes
    - sum (running_after m.settings t) m.jobs
    - sum (cleaning_after m.settings t) m.jobs
    - sum (waiting_over m.settings t) m.jobs

-- a cleanup that an opening takes is the setting
until_freed : (S : Settings) (j : Job) → S.cleanup ≤ limit.longest_cleanup → is_cleaning j ≡ false → until S j ≡ freed_at S j
unfolding run_time
until_freed S j k n = omega (arith, until_is S j n, hold_is S j.estimate, cleanup_is S k)

used_as_written : (S : Settings) (now t : ℕ) (js : List Job) → S.cleanup ≤ limit.longest_cleanup → now ≤ t → ((j : Job) → In j js → SoundJob S now j)
    → used t (spans S js) ≡ sum (running_after S t) js + sum (cleaning_after S t) js + sum (waiting_over S t) js
unfolding takes
used_as_written S now t [] k l f = refl
used_as_written S now t (j ∷ js) k l f = omega (arith, one (f j (here refl)), used_as_written S now t js k l (λ x i. f x (there i)))
  where
    begun : Bool
    begun = leb j.start t

    by : (x : State) → live? x ≡ true → (holding? x ≡ true → begun ≡ true) → (u : ℕ) → (cleaning? x ≡ false → u ≡ freed_at S j)
        → (cleaning? x ≡ true → u ≡ j.end + S.cleanup)
        → on (begun && ltb t u) j.nodes ≡ on (running? x && ltb t (freed_at S j)) j.nodes
        + on (cleaning? x && ltb t (j.end + S.cleanup)) j.nodes
        + on (waiting? x && (begun && ltb t (freed_at S j))) j.nodes
    by Unused a r u p q = true_false false a refl
    by Waiting a r u p q = rw (p refl) (omega arith)
    by Running a r u p q = rw (r refl, p refl) (omega arith)
    by Cleanup a r u p q = rw (r refl, q refl) (omega arith)

    one : SoundJob S now j → takes t (span S j) ≡ running_after S t j + cleaning_after S t j + waiting_over S t j
    one s =
        by j.state s.is_live (λ r. le-leb j.start t (omega (arith, s.holds r))) (until S j) (until_freed S j k)
        (λ c. omega (arith, until_cleaning S j c, cleanup_is S k))

-- the free nodes that the plan goes by are these
pub free_as_written : (m : Model) (t : ℕ) → Valid m → m.clock ≤ t → free m.settings.nodes (spans m.settings m.jobs) t ≡ free_nodes m t
free_as_written m t v l = omega (arith, used_as_written m.settings m.clock t m.jobs v.sound.cleanup_to l v.sound.each)

-- ## Submission

-- "The planned start is the smallest minute, now or later, such that the stack's nodes are free in every minute of its held time."
pub planned_is : (m : Model) (o : Submission) → o.nodes ≤ m.settings.nodes
    → Earliest (free m.settings.nodes (spans m.settings m.jobs)) m.clock o.nodes (hold_time m.settings o.estimate) (planned m o)
unfolding planned
planned_is m o l = earliest_is m.settings.nodes (spans m.settings m.jobs) m.clock o.nodes (hold_time m.settings o.estimate) l

-- the same of the free nodes as document 01 writes them
pub planned_as_written : (m : Model) (o : Submission) → Valid m → o.nodes ≤ m.settings.nodes
    → Earliest (free_nodes m) m.clock o.nodes (hold_time m.settings o.estimate) (planned m o)
planned_as_written m o v l =
    let E = planned_is m o l in
    record {
      later = E.later;
      fit = λ t a b. omega (arith, E.fit t a b, free_as_written m t v (omega (arith, E.later)));
      smallest = λ r a f. E.smallest r a (λ t b c. omega (arith, f t b c, free_as_written m t v (omega arith)));
    }

-- "This start is its promise. If it is now, the stack starts." "Tickets are numbered upward by one from the first."
pub record Taken (m : Model) (o : Submission) (s : ℕ) (r : Result) : Type 0 where
  pub ticket_is : r.reply.ticket ≡ m.next
  pub next_is : r.model.next ≡ suc m.next
  pub promise_is : r.reply.promise ≡ s
  pub started_is : r.reply.started ≡ cond (eqb s m.clock) (r.reply.ticket ∷ []) []
  pub ended_is : r.reply.ended ≡ []
  pub jobs_are : r.model.jobs ≡ m.jobs ++ (fresh r.reply.ticket o (cond (eqb s m.clock) Running Waiting) s s ∷ [])

-- what holds of an outcome holds of the call that is not refused
judged_taken : (P : Result → Type 0) (m : Model) (r : Refusal) (o : Result) → P o → accepts (judged m r o).reply.refusal ≡ true → P (judged m r o)
judged_taken P m r o p = judged_by (λ (x : Result). accepts x.reply.refusal ≡ true → P x) m r o (λ e a. p) (λ e a. true_false (accepts r) a e)

pub submit_taken : (m : Model) (o : Submission) → accepts (call m (submit o)).reply.refusal ≡ true → Taken m o (planned m o) (call m (submit o))
unfolding call submitted
submit_taken m o a =
    let s = planned m o in
    judged_taken (Taken m o s) m (submit_refusal m o s) (submitted m o s)
    (record { ticket_is = refl; next_is = refl; promise_is = refl; started_is = refl; ended_is = refl; jobs_are = refl }) a

-- ## Early end and withdrawal

-- "The stack leaves": the ticket that is ended, and no other
pub complete_ends : (m : Model) (t : ℕ) → Valid m → accepts (call m (complete t)).reply.refusal ≡ true → (call m (complete t)).reply.ended ≡ t ∷ []
unfolding call departed advanced depart_refusal verdict
complete_ends m t v a =
    let j = judged_accepted m (depart_refusal m Complete t) (departed m Complete t) a in
    ap (λ (r : Result). r.reply.ended) j.1
    ∙ departs_alone Complete t 1 m.jobs v.sound.asc
    (case (any (departs_as Complete t) m.jobs) (λ e. e) (λ e. true_false false (rw e at j.0) refl))

-- a job that is withdrawn has not run: no ticket is ended
pub cancel_ends : (m : Model) (t : ℕ) → (call m (cancel t)).reply.ended ≡ []
unfolding call departed advanced
cancel_ends m t =
    judged_by (λ (r : Result). r.reply.ended ≡ []) m (depart_refusal m Cancel t) (departed m Cancel t)
    (λ a. ap tickets_of (keep_none (λ (j : Job). false) m.jobs (λ j i. refl))) (λ a. refl)

cancel_clock : (m : Model) (t : ℕ) → (call m (cancel t)).model.clock ≡ m.clock
unfolding call departed advanced
cancel_clock m t =
    judged_by (λ (r : Result). r.model.clock ≡ m.clock) m (depart_refusal m Cancel t) (departed m Cancel t) (λ a. refl) (λ a. refl)

-- "taken out of the plan and put in again at its smallest minute, the others staying at their places. One that comes to now starts."
pub record Placed (S : Settings) (now : ℕ) (others : List Job) (j k : Job) : Type 0 where
  pub smallest : Earliest (free S.nodes (spans S others)) now j.nodes (hold_time S j.estimate) k.start
  pub job_is : k ≡ job_at (cond (eqb k.start now) Running Waiting) k.start j

pub moved_waiting : (S : Settings) (now : ℕ) (others : List Job) (j : Job) → is_waiting j ≡ true → j.nodes ≤ S.nodes
    → Placed S now others j (moved S now others j)
moved_waiting S now others j w l =
    rw w (record { smallest = earliest_is S.nodes (spans S others) now j.nodes (hold_time S j.estimate) l; job_is = refl })

pub moved_running : (S : Settings) (now : ℕ) (others : List Job) (j : Job) → is_waiting j ≡ false → moved S now others j ≡ j
moved_running S now others j w = rw w

-- "Then each waiting stack, once, in ticket order": the jobs that remain have their turns by their indices, each with all others as they are then
-- (`turn` moves the job at an index; z stands for what is past the list). Document 02, No. 10: "Repeat the pass until a whole pass moves nothing."
-- That it ends means that there is a number of passes, one after another, of which the last changes nothing (`Repeats`). No. 1: the same after a
-- withdrawal. No. 3: one whose run has ended is in cleanup, and the others are planned around it.
pub depart_moves : (m : Model) (h : Departure) (t : ℕ) (z : Job) → Valid m → accepts (call m (depart h t)).reply.refusal ≡ true
    → Repeats m.settings m.clock z (remaining m.settings m.clock (select.Departing h t) m.jobs) (call m (depart h t)).model.jobs
unfolding call departed advanced
depart_moves m h t z v =
    judged_taken (λ (r : Result). Repeats m.settings m.clock z js r.model.jobs) m (depart_refusal m h t) (departed m h t)
    ((compressed_is m.settings m.clock js (left_compressible m h t v)).repeats z)
  where
    js : List Job
    js = remaining m.settings m.clock (select.Departing h t) m.jobs

-- ## Minute step

-- "stacks whose end is now"
abbrev pub over_at : ℕ → Job → Bool
over_at now j = is_running j && eqb (j.start + wall_time j.estimate) now

-- document 02, No. 3: those whose cleanup is over now; with a cleanup of 0, those whose end is now
abbrev pub free_now : Settings → ℕ → Job → Bool
free_now S now j = (is_cleaning j && eqb (j.end + S.cleanup) now) || (over_at now j && eqb S.cleanup 0)

-- otherwise, those whose end is now: their records keep it
abbrev pub ends_now : ℕ → Job → Job
ends_now now j = cond (over_at now j) (cleaning now j) j

-- "waiting stacks whose planned start is now"
abbrev pub starts_at : ℕ → Job → Bool
starts_at now j = is_waiting j && eqb j.start now

turned_starts : (now : ℕ) (j : Job) → (is_waiting j && is_running (turned now j)) ≡ starts_at now j
turned_starts now j =
    case (is_waiting j) (λ w. rw w (case (eqb j.start now) (λ s. rw s) (λ s. rw s (waits_runs j.state w)))) (λ w. rw w)

-- those that start are those that wait before and run after
pub begun_turned : (now : ℕ) (js : List Job) → begun js (map (turned now) js) ≡ tickets_of (keep (starts_at now) js)
begun_turned now [] = refl
begun_turned now (j ∷ js) = rw (turned_starts now j) (case (starts_at now j) (λ e. rw (e, begun_turned now js)) (λ e. rw (e, begun_turned now js)))

-- none of them leaves
starts_stay : (m : Model) (now : ℕ)
    → tickets_of (keep (starts_at now) (remaining m.settings now (ending m) m.jobs)) ≡ tickets_of (keep (starts_at now) m.jobs)
starts_stay m now =
    ap tickets_of (keep_map (starts_at now) (ceased now u) (staying S u m.jobs))
    ∙ map-map ticket_of (ceased now u) (keep due (staying S u m.jobs))
    ∙ map_cong (λ (j : Job). ticket_of (ceased now u j)) ticket_of (keep due (staying S u m.jobs)) (λ j i. ceased_ticket now u j)
    ∙ ap tickets_of
    (keep_keep due (λ (j : Job). not (table.leaves S u j)) m.jobs
    ∙ keep_cong (λ (j : Job). not (table.leaves S u j) && due j) (starts_at now) m.jobs (λ j i. one j))
  where
    S : Settings
    S = m.settings

    u : Select
    u = ending m

    due : Job → Bool
    due j = starts_at now (ceased now u j)

    one : (j : Job) → (not (table.leaves S u j) && starts_at now (ceased now u j)) ≡ starts_at now j
    one j =
        case (is_waiting j)
        (λ w. rw (waits_on now u j w, waits_stays w))
        (λ w. and_right_false (not (table.leaves S u j)) (ap (λ (b : Bool). b && eqb (ceased now u j).start now) (still w))
        ∙ sym (ap (λ (b : Bool). b && eqb j.start now) w))
      where
        still : is_waiting j ≡ false → is_waiting (ceased now u j) ≡ false
        still w = case (ends u j) (λ e. rw e) (λ e. rw e w)

        waits_stays : is_waiting j ≡ true → table.leaves S u j ≡ false
        waits_stays w = rw (waits_runs j.state w, waiting_clean j.state w)

-- "The clock rises by one, stacks whose end is now leave, waiting stacks whose planned start is now start. Nothing else moves." With cleanup, jobs
-- whose end is now are in cleanup from then on, and jobs whose cleanup is over leave
pub record Ticked (m : Model) (r : Result) : Type 0 where
  pub clock_is : r.model.clock ≡ suc m.clock
  pub ended_is : r.reply.ended ≡ tickets_of (keep (over_at (suc m.clock)) m.jobs)
  pub started_is : r.reply.started ≡ tickets_of (keep (starts_at (suc m.clock)) m.jobs)
  pub jobs_are : r.model.jobs ≡ map (λ (j : Job). cond (starts_at (suc m.clock) j) (job_at Running j.start j) j)
      (map (ends_now (suc m.clock)) (keep (λ (j : Job). not (free_now m.settings (suc m.clock) j)) m.jobs))

pub tick_taken : (m : Model) → Valid m → accepts (call m tick).reply.refusal ≡ true → Ticked m (call m tick)
unfolding call ticked advanced run_time
tick_taken m v a = judged_taken (Ticked m) m (tick_refusal m) (ticked m) (record {
  clock_is = refl;
  ended_is = ap tickets_of (keep_cong (ends u) (over_at now) m.jobs (λ j i. over j));
  started_is = begun_turned now (remaining S now u m.jobs) ∙ starts_stay m now;
  jobs_are =
      ap (map (turned now))
      (ap (map (ceased now u))
      (keep_cong (λ (j : Job). not (table.leaves S u j)) (λ (j : Job). not (free_now S now j)) m.jobs (λ j i. ap not (goes j)))
      ∙ map_cong (ceased now u) (ends_now now) (keep (λ (j : Job). not (free_now S now j)) m.jobs)
      (λ j i. ap (λ (b : Bool). cond b (cleaning now j) j) (over j)));
}) a
  where
    S : Settings
    S = m.settings

    now : ℕ
    now = suc m.clock

    u : Select
    u = ending m

    over : (j : Job) → ends u j ≡ over_at now j
    over j = ap (λ (n : ℕ). is_running j && eqb n now) (end_is S j)

    goes : (j : Job) → table.leaves S u j ≡ free_now S now j
    goes j =
        let k = cleanup_is S v.sound.cleanup_to in
        rw (over j, k) (case (is_cleaning j) (λ c. rw (c, until_cleaning S j c, k)) (λ c. rw c))

-- ## Planned starts

-- a job that is there still, its promise unchanged and its planned start no later
pub record Still (j k : Job) : Type 0 where
  pub ticket : k.ticket ≡ j.ticket
  pub start : k.start ≤ j.start
  pub promise : k.promise ≡ j.promise

-- so is each job that the answer does not name as leaving
outcome_still : (m : Model) {c : Call} {r : Result} (j : Job) → Valid m → CameOut m c r → In j m.jobs
    → lives (cleanup m.settings) r.model.clock (news_of c r.reply) j ≡ true → (k : Job) × In k r.model.jobs × Still j k
unfolding submitted advanced amended_to
outcome_still m j v (amends a after f g) i w =
    let z = zip_left (Follows m.clock) (map (supersede a) m.jobs) after g.follow (in_map (supersede a) i) in
    let k = z.0 in
    let q = z.2 in (
      k,
      z.1,
      record {
        ticket = follows_ticket m.clock (supersede a j) k q ∙ kept_ticket a j;
        start = omega (arith, follows_start m.clock (supersede a j) k q, kept_start a j);
        promise = follows_promise m.clock (supersede a j) k q ∙ kept_promise_lem a j;
      },
    )
outcome_still m j v (idle c r n) i w = (j, i, record { ticket = refl; start = omega arith; promise = refl })
outcome_still m j v (joins o f l) i w = (j, in_left _ i, record { ticket = refl; start = omega arith; promise = refl })
outcome_still m j v (leaves c clock s after l g t) i w =
    let S = m.settings in
    let z = zip_left (Follows clock) (remaining S clock s m.jobs) after g.follow
    (in_map (ceased clock s) (in_keep (λ (j : Job). not (table.leaves S s j)) i (ap not (lives_stays m _ clock s v t j i w)))) in
    let k = z.0 in
    let f = z.2 in (
      k,
      z.1,
      record {
        ticket = follows_ticket clock (ceased clock s j) k f ∙ ceased_ticket clock s j;
        start = omega (arith, follows_start clock (ceased clock s j) k f, as_was start_of refl);
        promise = follows_promise clock (ceased clock s j) k f ∙ as_was promise_of refl;
      },
    )
  where
    as_was : (f : Job → ℕ) → f (cleaning clock j) ≡ f j → f (ceased clock s j) ≡ f j
    as_was f q = case (ends s j) (λ e. rw e q) (λ e. rw e)

-- after every call this holds of each waiting job that the call does not withdraw
pub still_there : (m : Model) (c : Call) (j : Job) → Valid m → In j m.jobs → is_waiting j ≡ true → elem j.ticket (said call m c).withdrew ≡ false
    → (k : Job) × In k (call m c).model.jobs × Still j k
still_there m c j v i w n =
    outcome_still m j v (outcome m c v) i (waits_lives (cleanup m.settings) (call m c).model.clock (said call m c) j w n)

-- whichever job has its ticket after the call is this one: "each never later", and "This start is its promise and never changes"
pub never_later : (m : Model) (c : Call) (j k : Job) → Valid m → In j m.jobs → is_waiting j ≡ true → elem j.ticket (said call m c).withdrew ≡ false
    → In k (call m c).model.jobs → k.ticket ≡ j.ticket → (k.start ≤ j.start) × (k.promise ≡ j.promise)
never_later m c j k v i w n l e =
    let r = still_there m c j v i w n in
    let q : r.0 ≡ k = asc_one 1 (call m c).model.jobs r.0 k (call_valid m c v).sound.asc r.1 l (r.2.ticket ∙ sym e) in
    (omega (arith, r.2.start, ap start_of q), sym (ap promise_of q) ∙ r.2.promise)

-- document 02, No. 1: "no other planned start gets later through it": a withdrawal leaves every other job there, waiting or running
pub withdrawal_never_later : (m : Model) (t : ℕ) (j : Job) → Valid m → In j m.jobs → (j.ticket ≡ t → ⊥)
    → (k : Job) × In k (call m (cancel t)).model.jobs × Still j k
withdrawal_never_later m t j v i n = outcome_still m j v (outcome m (cancel t) v) i lives_on
  where
    e : News
    e = said call m (cancel t)

    other : (r : Refusal) → elem j.ticket (cond (accepts r) (t ∷ []) []) ≡ false
    other r = case (accepts r) (λ a. rw (a, ne_eqb j.ticket t n)) (λ a. rw a)

    lives_on : lives (cleanup m.settings) (call m (cancel t)).model.clock e j ≡ true
    lives_on =
        ap (λ (c : ℕ). lives (cleanup m.settings) c e j) (cancel_clock m t)
        ∙ unless_said m.settings m.clock e j (v.sound.each j i) (other (call m (cancel t)).reply.refusal) (ap (elem j.ticket) (cancel_ends m t))

-- so after no call is a job planned for later than promised (what replanning the whole queue would do is computed in Computed.antt)
pub single_moves_keep : (m : Model) (c : Call) (j : Job) → Valid m → In j (call m c).model.jobs → j.start ≤ j.promise
single_moves_keep m c j v i = (call_valid m c v).promised j i

-- ## Tickets

-- "Each call of either desk also gives the tickets ended, ascending, and those started, in order of starting (on the Promise Desk,
-- ascending)."
abbrev pub Rising : ℕ → List ℕ → Type 0
Rising lo [] = Unit {0}
Rising lo (t ∷ ts) = (lo ≤ t) × Rising (suc t) ts

rising_from : (lo lo' : ℕ) (ts : List ℕ) → lo' ≤ lo → Rising lo ts → Rising lo' ts
rising_from lo lo' [] l a = tt
rising_from lo lo' (t ∷ ts) l a = (omega arith, a.1)

pub tickets_rise : (lo : ℕ) (js : List Job) → Asc lo js → Rising lo (tickets_of js)
tickets_rise lo [] a = tt
tickets_rise lo (j ∷ js) a = (a.0, tickets_rise (suc j.ticket) js a.1)

begun_rises : (lo : ℕ) (js ks : List Job) → Asc lo js → Rising lo (begun js ks)
begun_rises lo [] ks a = tt
begun_rises lo (j ∷ js) [] a = tt
begun_rises lo (j ∷ js) (k ∷ ks) a =
    let rest = begun_rises (suc j.ticket) js ks a.1 in
    case (is_waiting j && is_running k) (λ e. rw e (a.0, rest)) (λ e. rw e (rising_from (suc j.ticket) lo (begun js ks) (omega (arith, a.0)) rest))

outcome_rises : (m : Model) {c : Call} {r : Result} → Valid m → CameOut m c r → Rising 1 r.reply.ended × Rising 1 r.reply.started
unfolding submitted advanced amended_to
outcome_rises m v (amends a after f g) =
    (tt, begun_rises 1 (map (supersede a) m.jobs) after (inplace_sound m a f.range f.shrinks v.sound).asc)
outcome_rises m v (idle c r n) = (tt, tt)
outcome_rises m v (joins o f l) = (tt, case (eqb (planned m o) m.clock) (λ q. rw q (v.sound.next_from, tt)) (λ q. rw q tt))
outcome_rises m v (leaves c clock s after l g t) = (
  tickets_rise 1 (keep (ends s) m.jobs) (asc_keep (ends s) 1 m.jobs v.sound.asc),
  begun_rises 1 (remaining m.settings clock s m.jobs) after (sound_leave m clock s v.sound l).asc,
)

pub answers_rise : (m : Model) (c : Call) → Valid m → Rising 1 (call m c).reply.ended × Rising 1 (call m c).reply.started
answers_rise m c v = outcome_rises m v (outcome m c v)

-- a job that starts waits until then: it waited before the call, or the call took it in
pub record Waited (m : Model) (t : ℕ) : Type 0 where
  pub job : Job
  pub isin : In job m.jobs
  pub waits : is_waiting job ≡ true
  pub named : job.ticket ≡ t

outcome_waited : (m : Model) {c : Call} {r : Result} (t : ℕ) → CameOut m c r → elem t r.reply.started ≡ true → Waited m t ⊎ (t ≡ r.reply.ticket)
unfolding submitted advanced amended_to
outcome_waited m t (amends a after f g) e =
    let w = begun_waited t (map (supersede a) m.jobs) after e in
    let j = superseded_in m a f.range f.shrinks w.0 w.1 in
    inl (record {
      job = j.0;
      isin = j.1;
      waits = sym (ap waiting? (kept_state a j.0)) ∙ sym (ap is_waiting j.2) ∙ w.2;
      named = sym (kept_ticket a j.0) ∙ sym (ap ticket_of j.2) ∙ w.3;
    })
outcome_waited m t (idle c r n) e = true_false false e refl
outcome_waited m t (joins o f l) x =
    case (eqb (planned m o) m.clock)
    (λ q. case (eqb t m.next) (λ y. inr (eqb-true t m.next y)) (λ y. true_false false (rw (q, y) at x) refl))
    (λ q. true_false false (rw q at x) refl)
outcome_waited m t (leaves c clock s after l g u) e =
    let w = begun_waited t (remaining m.settings clock s m.jobs) after e in
    inl (record { job = w.0; isin = (remained_waits m.settings clock s m.jobs w.1 w.2).0; waits = w.2; named = w.3 })

pub started_waited : (m : Model) (c : Call) (t : ℕ) → Valid m → elem t (call m c).reply.started ≡ true → Waited m t ⊎ (t ≡ (call m c).reply.ticket)
started_waited m c t v e = outcome_waited m t (outcome m c v) e

-- "A refused intake uses none"
abbrev Given : Model → Call → Result → Type 0
Given m c x = x.model.next ≡ next_after (news_of c x.reply).came m.next

pub next_is : (m : Model) (c : Call) → Given m c (call m c)
unfolding call submitted departed ticked advanced amended_to amended
next_is m (submit o) =
    let s = planned m o in
    judged_by (Given m (submit o)) m (submit_refusal m o s) (submitted m o s) (λ a. refl) (λ a. rw a)
next_is m (depart h t) = judged_by (Given m (depart h t)) m (depart_refusal m h t) (departed m h t) (λ a. refl) (λ a. rw a)
next_is m tick = judged_by (Given m tick) m (tick_refusal m) (ticked m) (λ a. refl) (λ a. rw a)
next_is m (amend a) = judged_by (Given m (amend a)) m (in_place_refusal m a) (amended m a) (λ x. refl) (λ x. rw x)
next_is m (unchanged w) = case (accepts w) (λ a. rw a) (λ a. rw a)

-- a job whose run ends was running, and had run for at least its least
ended_ran : (m : Model) (c : Call) (u : ℕ) → Sound m → Ended m c u (call m c)
unfolding call submitted departed ticked advanced amended_to amended
ended_ran m (submit o) u s =
    let p = planned m o in
    judged_by (Ended m (submit o) u) m (submit_refusal m o p) (submitted m o p) (λ a e. true_false false e refl) (λ a e. true_false false e refl)
ended_ran m (depart h t) u s =
    judged_by (Ended m (depart h t) u) m (depart_refusal m h t) (departed m h t) (λ a e. left_ran m h t u a e) (λ a e. true_false false e refl)
ended_ran m tick u s = judged_by (Ended m tick u) m (tick_refusal m) (ticked m) (λ a e. ticked_ran m u s e) (λ a e. true_false false e refl)
ended_ran m (amend a) u s =
    judged_by (Ended m (amend a) u) m (in_place_refusal m a) (amended m a) (λ x e. true_false false e refl) (λ x e. true_false false e refl)
ended_ran m (unchanged w) u s = λ e. true_false false e refl

-- what is owed of tickets
pub conservative_ticketed : Ticketed call Valid OnCourse
conservative_ticketed = record {
  sound = λ m v. v.sound;
  next = λ m c v. next_is m c;
  gives = λ m c o v i. (outcome_joins m o (outcome m c v) i).0;
  ends = λ m c t v. ended_ran m c t v.sound;
  waits = λ m t b o. queued_by m t o.job o.inside o.waits o.is_u;
}

-- ## Profile

-- "The first is now; then every later minute whose free nodes differ from those of the minute before."
pub points_are : (m : Model) → Profile (free m.settings.nodes (spans m.settings m.jobs)) m.clock (points m)
points_are m = profile_is m.settings.nodes (spans m.settings m.jobs) m.clock

-- the same of the free nodes as document 01 writes them
pub points_as_written : (m : Model) → Valid m → Profile (free_nodes m) m.clock (points m)
points_as_written m v = profile_agrees m.clock (points m) (λ t h. free_as_written m t v h) (points_are m)

-- Document 02, No. 5: "64 live stacks never give more than 129 points".
pub few_points : (m : Model) → Valid m → length (points m) ≤ 129
few_points m v =
    omega (
      arith,
      profile_length m.settings.nodes (spans m.settings m.jobs) m.clock,
      length-map m.jobs (span m.settings),
      v.sound.few,
    )

-- ## Refusals

-- "A refusal gives its number, no tickets, and the desk .. unchanged": a refused call is its refusal and nothing else
pub refused_is : (m : Model) (c : Call) → accepts (call m c).reply.refusal ≡ false → call m c ≡ refuse m (call m c).reply.refusal
unfolding call submitted departed ticked advanced amended_to amended
refused_is m (submit o) = let s = planned m o in judged_refused m (submit_refusal m o s) (submitted m o s) refl
refused_is m (depart h t) = judged_refused m (depart_refusal m h t) (departed m h t) refl
refused_is m tick = judged_refused m (tick_refusal m) (ticked m) refl
refused_is m (amend a) = judged_refused m (in_place_refusal m a) (amended m a) refl
refused_is m (unchanged w) = λ a. refl

-- Each refusal, with its conditions in the documents' order and no others. 14: "a house other than A or B"; 1: "stack nodes 0 or above the rack's";
-- 2: "estimate .. outside 1 to 10,080", by document 02, No. 6, to the longest; 19: "least above most"; 15: "the house's places are all live"; 5:
-- "ticket 999,999 has been given"; 6: "start + held above 1,000,000", with the cleanup
pub submit_refusal_lem : (m : Model) (o : Submission) → Valid m → (call m (submit o)).reply.refusal ≡ verdict
    ((not (known o.tenant), refusal.UnknownTenant)
    ∷ (ltb o.nodes 1 || ltb m.settings.nodes o.nodes, refusal.NodesOutOfRange)
    ∷ (ltb o.estimate 1 || ltb (longest m.settings) o.estimate, refusal.MinutesOutOfRange)
    ∷ (ltb o.estimate o.least, refusal.LeastAboveMost)
    ∷ (leb (quota m.settings o.tenant) (live_of o.tenant m.jobs), refusal.QuotaFull)
    ∷ (ltb 999999 m.next, refusal.NoTicketLeft)
    ∷ (ltb 1000000 (planned m o + (wall_time o.estimate + m.settings.cleanup)), refusal.PastHorizon)
    ∷ [])
unfolding call submit_refusal submitted run_time
submit_refusal_lem m o v =
    let s = planned m o in
    judged_refusal m (submit_refusal m o s) (submitted m o s) refl
    ∙ ap (λ (h : ℕ). verdict (submit_tests m o ((ltb (horizon m.settings) (s + h), refusal.PastHorizon) ∷ [])))
    (hold_is m.settings o.estimate ∙ ap (λ (k : ℕ). wall_time o.estimate + k) (cleanup_is m.settings v.sound.cleanup_to))

-- 7: "the ended ticket is not running: waiting, over or never given"; 20, document 02, No. 7: "an end before the least, after 7"
pub complete_refusal : (m : Model) (t : ℕ) → (call m (complete t)).reply.refusal ≡ verdict
    ((not (any (λ (j : Job). is_running j && eqb j.ticket t) m.jobs), refusal.NotRunning)
    ∷ (any (λ (j : Job). (is_running j && eqb j.ticket t) && ltb m.clock (j.start + j.least)) m.jobs, refusal.BeforeLeast)
    ∷ [])
unfolding call departed advanced depart_refusal
complete_refusal m t = judged_refusal m (depart_refusal m Complete t) (departed m Complete t) refl

-- 11, document 02, No. 1: "the withdrawn ticket is not waiting"
pub cancel_refusal : (m : Model) (t : ℕ) → (call m (cancel t)).reply.refusal ≡ verdict
    ((not (any (λ (j : Job). is_waiting j && eqb j.ticket t) m.jobs), refusal.NotWaiting) ∷ [])
unfolding call departed advanced verdict
cancel_refusal m t =
    judged_refusal m (depart_refusal m Cancel t) (departed m Cancel t) refl
    ∙ cancel_judged m t
    ∙ case (any (departs_as Cancel t) m.jobs) (λ e. rw e) (λ e. rw e)

-- 6: "Step ..: the clock would pass it"
pub tick_refusal_lem : (m : Model) → (call m tick).reply.refusal ≡ verdict ((ltb 1000000 (suc m.clock), refusal.PastHorizon) ∷ [])
unfolding call ticked advanced tick_refusal
tick_refusal_lem m = judged_refusal m (tick_refusal m) (ticked m) refl
