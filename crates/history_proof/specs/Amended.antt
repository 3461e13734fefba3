-- Corrected orders in place (document 02, No. 13): an event that names one tells what has changed.
-- Assumes nothing.
use Rattle.std.specs.Prelude.{ℕ, ◌≡◌, refl, true, false, List, [], ◌∷◌, ◌++◌, map, eqb}
use Rattle.std.proofs.Common.{sym, ap, ◌∙◌, append-nil, eqb-true, eq-eqb}
use Rattle.std.proofs.lemmas.Simd.{map-map}
use Rattle.lists.specs.Tests.{case, true_false, both}
use Rattle.lists.specs.Lists.{keep, In, here, there, elem, map_cong, any}
use Rattle.scheduler.specs.declared.Job.{Job}
use Rattle.scheduler.specs.declared.Amendment.{Amendment}
use Rattle.scheduler.specs.States.{live?}
use Rattle.scheduler.specs.Jobs.{is_waiting}
use Rattle.scheduler.specs.Settings.{cleanup}
use Rattle.scheduler.specs.Model.{Model}
use Rattle.scheduler.specs.Amending.{names, superseded, supersede, in_place_of}
use Rattle.jobs.specs.Soundness.{Sound}
use Rattle.jobs.specs.Amended.{named_waits}
use Rattle.history.specs.News.{Newcomer, News}
use Rattle.history.specs.Book.{Fate, waiting, running, cleaning, ended, withdrawn, fate_after}
use Rattle.history.specs.Beginning.{fate_by}
use Rattle.history_proof.specs.Obligations.{JobShown, shown, is_live_of, remark, newly, comers, Tells, Queued}
use Rattle.history_proof.specs.Departures.{refated, queued_by}
use Rattle.history_proof.specs.Seen.{waits_job}

-- the same event with other amendments, and with none
abbrev amending : News → List Amendment → News
amending e more = record { passed = e.passed; came = e.came; amended = more; withdrew = e.withdrew; ended = e.ended; started = e.started; head = e.head }

abbrev pub plain : News → News
plain e = amending e []

-- a fate goes by who is withdrawn, who starts and whose run ends
fate_plain : (k c : ℕ) (e : News) (t : ℕ) (f : Fate) (more : List Amendment) → fate_after k c (amending e more) t f ≡ fate_after k c (plain e) t f
fate_plain k c e t waiting more = refl
fate_plain k c e t (running s) more = refl
fate_plain k c e t (cleaning s n) more = refl
fate_plain k c e t (ended s) more = refl
fate_plain k c e t (withdrawn w) more = refl

-- what it leaves of a job is what it would leave of the job superseded
pub remark_supersede : (k c : ℕ) (a : Amendment) (e : News) (j : Job) → e.amended ≡ a ∷ [] → live? j.state ≡ true
    → remark k c e (shown j) ≡ remark k c (plain e) (shown (supersede a j))
remark_supersede k c a e j q l =
    let w = waits_job j.state j.start j.end l in
    case (is_waiting j)
    (λ y. case (eqb j.ticket a.ticket)
    (λ z. let z' : eqb a.ticket j.ticket ≡ true = eq-eqb a.ticket j.ticket (sym (eqb-true j.ticket a.ticket z)) in
    rw (q, y, z, z', w, y) (ap (refated (shown (superseded a j))) same))
    (λ z. let z' : eqb a.ticket j.ticket ≡ false = flip a.ticket j.ticket z in
    rw (q, y, z, z', w, y) (ap (refated (shown j)) same)))
    (λ y. rw (q, y, w, y) (ap (refated (shown j)) same))
  where
    same : fate_after k c (amending e (a ∷ [])) j.ticket (fate_by j.state j.start j.end)
        ≡ fate_after k c (plain e) j.ticket (fate_by j.state j.start j.end)
    same = fate_plain k c e j.ticket (fate_by j.state j.start j.end) (a ∷ [])

    flip : (x y : ℕ) → eqb y x ≡ false → eqb x y ≡ false
    flip x y n = case (eqb x y) (λ e. true_false (eqb y x) (eq-eqb y x (sym (eqb-true x y e))) n) (λ e. e)

-- so it tells what has changed, where it does so from the model in which the job is superseded on
pub tells_amended : (m m' : Model) (a : Amendment) (e : News) → Sound m → e.amended ≡ a ∷ [] → e.came ≡ [] → Tells (in_place_of m a) (plain e) m'
    → Tells m e m'
tells_amended m m' a e s q n t =
    let k = cleanup m'.settings in
    let c = m'.clock in
    t ∙ ap (keep is_live_of) (rest k c)
  where
    rest : (k c : ℕ) → map (remark k c (plain e)) (map shown (map (supersede a) m.jobs) ++ comers (plain e))
        ≡ map (remark k c e) (map shown m.jobs ++ comers e)
    rest k c =
        none (remark k c (plain e)) (map shown (map (supersede a) m.jobs))
        ∙ map-map (remark k c (plain e)) shown (map (supersede a) m.jobs)
        ∙ map-map (λ (j : Job). remark k c (plain e) (shown j)) (supersede a) m.jobs
        ∙ map_cong (λ (j : Job). remark k c (plain e) (shown (supersede a j))) (λ (j : Job). remark k c e (shown j)) m.jobs
        (λ j i. sym (remark_supersede k c a e j q (s.each j i).is_live))
        ∙ sym (map-map (remark k c e) shown m.jobs)
        ∙ sym (none (remark k c e) (map shown m.jobs))
      where
        none : (f : JobShown → JobShown) (xs : List JobShown) → map f (xs ++ comers e) ≡ map f xs
        none f xs = ap (λ (os : List Newcomer). map f (xs ++ map newly os)) n ∙ ap (map f) (append-nil xs)

-- whom it names waits
pub named_queued : (m : Model) (a : Amendment) (t : ℕ) → any (names a) m.jobs ≡ true → elem t (a.ticket ∷ []) ≡ true → Queued m t
named_queued m a t n e =
    find m.jobs n (λ j i x.
    queued_by m t j i (named_waits a j x) (eqb-true j.ticket a.ticket (both (is_waiting j) (eqb j.ticket a.ticket) x).1 ∙ sym is))
  where
    is : t ≡ a.ticket
    is = case (eqb t a.ticket) (λ q. eqb-true t a.ticket q) (λ q. true_false false (rw q at e) refl)

    find : {A : Type 0} (js : List Job) → any (names a) js ≡ true → ((j : Job) → In j js → names a j ≡ true → A) → A
    find [] q f = true_false false q refl
    find (j ∷ js) q f = case (names a j) (λ x. f j (here refl) x) (λ x. find js (rw x at q) (λ k i. f k (there i)))
