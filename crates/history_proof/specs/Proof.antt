-- From what a kind of scheduler owes of each single call to the guarantees of every list of calls. A book agrees with a model: it has the model's
-- clock and live jobs and no strays. Every job in it has met its deadline and its forecast, or is on course to meet them, or was withdrawn before
-- them. Every call keeps that agreement.
-- Assumes nothing.
use Rattle.std.specs.Prelude.{◌≡◌, refl, Bool, true, false, ◌&&◌, ◌||◌, cond, ◌⊎◌, ℕ, suc, ◌+◌, ◌*◌, ◌≤◌, eqb, ltb, length}
use Rattle.std.proofs.Math.Path.{sym, ap, subst}
use Rattle.std.proofs.Common.{◌∙◌, inl, inr, arith, eqb-true, eq-eqb}
use Rattle.std.proofs.Math.Bool.{not}
use mathlib.Core.List.{List, [], ◌∷◌, ◌++◌, map, map-append, map-map}
use Rattle.std.proofs.Math.Option.{Option, none, some}
use Rattle.std.proofs.lemmas.List.{length-map}
use Rattle.std.proofs.lemmas.Bool.{not-false}
use Rattle.lists.specs.Tests.{case, true_false}
use Rattle.lists.specs.Lists.{keep, elem, In, in_left, in_right, in_append, in_map, map_in, keep_append, keep_all, keep_none, keep_map}
use Rattle.scheduler.specs.declared.Kind.{Kind}
use Rattle.scheduler.specs.declared.Kind.TheVariants.{Conservative, Easy}
use Rattle.scheduler.specs.Jobs as jobs
use Rattle.scheduler.specs.Settings.{cleanup, unit}
use Rattle.scheduler.specs.Table.{ticket_of}
use Rattle.scheduler.specs.Model.{Model}
use Rattle.scheduler.specs.Answers.{Forecast}
use Rattle.jobs.specs.Order.{elem_job}
use Rattle.history.specs.Calls.{Call, Rules, after, events}
use Rattle.history.specs.News.{Newcomer, amended_ticket, News, clock_after, withdraws_now}
use Rattle.history.specs.Tickets.{given_ticket}
use Rattle.history.specs.Book.{Fate, waiting, running, cleaning, ended, withdrawn, Entry, Book, waits, start, withdrawal, is_waiting, rank, entry, fate_after, marked, lowest}
use Rattle.history.specs.Book.{over, entry_ticket, queued, head_of, is, given, hearing, heard, enter, enter_all}
use Rattle.history.specs.Guarantee as guarantee
use Rattle.history.specs.Guarantee.{StartedBy, Guarantee}
use Rattle.history_proof.specs.Seen.{seen, is_live_entry, keep_seen, marked_seen, Heard, same, first_time, heard_by_lem, heard_seen}
use Rattle.history_proof.specs.Seen.{drop_ended, in_elem, queue, queue_seen, came_seen, same_queue, same_nodes, same_shares}
use Rattle.history_proof.specs.Obligations.{JobShown, shown, is_live_of, remark, comers, deadline, bound_at, waiting_tickets, lowest_waiting, said, Aim, by}
use Rattle.history_proof.specs.Obligations.{For, Meets, Kept, Keeps, Queued, Comes, Lawful}

-- ## Agreement

-- the job t, whose fate is f, has met the deadline d, or is on course to meet it, or was withdrawn before it
abbrev pub OnTime : (Model → ℕ → ℕ → Type 0) → Model → ℕ → Fate → ℕ → Type 0
OnTime OnCourse m t f d = Meets (by d) (For OnCourse d) m t f

-- the deadline of an entry, if it has one
abbrev pub deadline_of : Kind → Entry → Option ℕ
deadline_of Conservative x = some x.promise
deadline_of Easy x = x.bound

deadline_is : (k : Kind) (x : Entry) (b : ℕ) → x.bound ≡ some b → deadline_of k x ≡ some (deadline k x.promise b)
deadline_is Conservative x b e = refl
deadline_is Easy x b e = e

pub record Agrees (k : Kind) (OnCourse : Model → ℕ → ℕ → Type 0) (m : Model) (b : Book) : Type 0 where
  pub clock_is : b.clock ≡ m.clock
  pub jobs_are : map seen (keep is_live_entry b.entries) ≡ map shown m.jobs
  pub deadlines : (x : Entry) (d : ℕ) → In x b.entries → deadline_of k x ≡ some d → OnTime OnCourse m x.ticket x.fate d
  pub forecasts : (x : Entry) (f : ℕ) → In x b.entries → x.forecast ≡ some f → OnTime OnCourse m x.ticket x.fate f
  pub heard_one : k ≡ Easy → (x : Entry) → In x b.entries → x.headed ≡ true → (f : ℕ) × (x.forecast ≡ some f)
  pub heads : (x : Entry) → In x b.entries → is_waiting x ≡ true → head_of b.entries ≡ some x.ticket → x.headed ≡ true
  pub none_stray : b.strays ≡ []

-- ## One call

is_some : (h : Option ℕ) (t : ℕ) → is h t ≡ true → h ≡ some t
is_some none t e = true_false false e refl
is_some (some x) t e = ap some (eqb-true x t e)

some_is : (h : Option ℕ) (t : ℕ) → h ≡ some t → is h t ≡ true
some_is h t e = rw e (eq-eqb t t refl)

waiting_is : (f : Fate) → waits f ≡ true → f ≡ waiting
waiting_is waiting e = refl
waiting_is (running s) e = true_false false e refl
waiting_is (cleaning s m) e = true_false false e refl
waiting_is (ended s) e = true_false false e refl
waiting_is (withdrawn w) e = true_false false e refl

-- whose run is over does not wait
over_waits : (p c s m : ℕ) → waits (over p c s m) ≡ true → false ≡ true
over_waits p c s m e = case (ltb c (m + p)) (λ q. rw q at e) (λ q. rw q at e)

-- who waits after a call waited before it
pub waited : (p c : ℕ) (r : News) (t : ℕ) (f : Fate) → waits (fate_after p c r t f) ≡ true → waits f ≡ true
waited p c r t waiting e = refl
waited p c r t (running s) e = case (elem t r.ended) (λ q. over_waits p c s c (rw q at e)) (λ q. rw q at e)
waited p c r t (cleaning s m) e = over_waits p c s m e
waited p c r t (ended s) e = e
waited p c r t (withdrawn w) e = e

-- a forecast given is the answer's
given_is : (f : Option Forecast) (t d : ℕ) → given f t ≡ some d → (F : Forecast) × (f ≡ some F) × (F.ticket ≡ t) × (F.minute ≡ d)
given_is none t d e = absurd (let z : ◌≡◌ {A = ℕ} 0 1 = cc in omega arith)
given_is (some F) t d e = case (eqb F.ticket t) (λ q. (F, refl, eqb-true F.ticket t q, minute (rw q at e))) (λ q. never (rw q at e))
  where
    minute : some F.minute ≡ some d → F.minute ≡ d
    minute s = cc

    never : {A : Type 0} → none ≡ some d → A
    never s = absurd (let z : ◌≡◌ {A = ℕ} 0 1 = cc in omega arith)

-- and one that the answer gives is given
given_told : (h : Option Forecast) (F : Forecast) (t : ℕ) → h ≡ some F → F.ticket ≡ t → given h t ≡ some F.minute
given_told h F t e q = rw (e, eq-eqb F.ticket t q)

-- what each call keeps of the start of a waiting job, it keeps of every job's start. A call that withdraws passes no minute, so that the withdrawn
-- job might still wait in the minute after the call
module _ (R : Rules) (Valid : Model → Type 0) (a : Aim) (Course : Model → ℕ → Type 0)
    (C : (m : Model) (c : Call) → Valid m → (R m c).model.clock ≡ clock_after (said R m c) m.clock) (m : Model) (c : Call) (v : Valid m) where
  over_kept : (p t now s n : ℕ) → a.may_start s → Meets a Course (R m c).model t (over p now s n)
  over_kept p t now s n o = case (ltb now (n + p)) (λ q. rw q o) (λ q. rw q o)

  -- of one job, where this one call keeps it so
  pub kept_one : (p t : ℕ) → (Course m t → a.may_wait m.clock)
      → (Course m t → elem t (said R m c).withdrew ≡ false → Kept a Course t (said R m c) (R m c).model) → (f : Fate)
      → Meets a Course m t f → Meets a Course (R m c).model t (fate_after p (R m c).model.clock (said R m c) t f)
  kept_one p t rest keeps waiting o =
      case (elem t (said R m c).withdrew)
      (λ w. rw w (subst a.may_wait (sym (C m c v ∙ ap (λ (p : Bool). cond p (suc m.clock) m.clock) (withdraws_now c (R m c).reply t w))) (rest o)))
      (λ w. keeps o w)
  kept_one p t rest keeps (running s) o =
      case (elem t (R m c).reply.ended) (λ e. rw e (over_kept p t (R m c).model.clock s (R m c).model.clock o)) (λ e. rw e o)
  kept_one p t rest keeps (cleaning s n) o = over_kept p t (R m c).model.clock s n o
  kept_one p t rest keeps (ended s) o = o
  kept_one p t rest keeps (withdrawn w) o = o

  pub kept_after : Keeps R Valid a Course → (p t : ℕ) (f : Fate) → Meets a Course m t f
      → Meets a Course (R m c).model t (fate_after p (R m c).model.clock (said R m c) t f)
  kept_after K p t f o = kept_one p t (K.rest m t v) (K.keeps m c t v) f o

module _ {k : Kind} {R : Rules} {Valid : Model → Type 0} {OnCourse : Model → ℕ → ℕ → Type 0} (L : Lawful k R Valid OnCourse) where
  -- ### the book after the call
  module _ (m : Model) (c : Call) (v : Valid m) (b : Book) (a : Agrees k OnCourse m b) (u p : ℕ) (u-is : u ≡ unit m.settings) (p-is : p ≡ cleanup m.settings) where
    abbrev pub r : News
    r = said R m c

    abbrev pub m' : Model
    m' = (R m c).model

    abbrev pub c' : ℕ
    c' = clock_after r b.clock

    abbrev pub xs : List Entry
    xs = b.entries ++ map (entry u b) r.came

    abbrev pub ys : List Entry
    ys = map (marked p c' r) xs

    abbrev pub b' : Book
    b' = enter u p b r

    clock_after_lem : m'.clock ≡ c'
    clock_after_lem = L.clock m c v ∙ ap (clock_after r) (sym a.clock_is)

    cleanup_after : cleanup m'.settings ≡ p
    cleanup_after = ap cleanup (L.settings m c v) ∙ sym p-is

    -- what the entries show, up to those that have ended, is what the jobs show
    live_after : map seen (keep is_live_entry b'.entries) ≡ map shown m'.jobs
    unfolding enter
    live_after =
        keep_seen (map (heard (head_of ys) r.head) ys)
        ∙ ap (keep is_live_of) (heard_seen (head_of ys) r.head ys ∙ marked_seen p c' r xs)
        ∙ drop_ended p c' r (map seen xs)
        ∙ ap (λ (l : List JobShown). keep is_live_of (map (remark p c' r) l))
        (came_seen u b b.entries r.came ∙ ap (λ (l : List JobShown). l ++ comers r) a.jobs_are)
        ∙ sym (rw (clock_after_lem, cleanup_after) at (L.tells m c v))

    -- who waits
    pub queue_before : queued b.entries ≡ waiting_tickets m
    queue_before = same_queue m.jobs b.entries (L.all_live m v) a.jobs_are

    -- the heads
    head_before_lem : head_of b.entries ≡ lowest_waiting m
    head_before_lem = ap lowest queue_before

    head_after : head_of b'.entries ≡ lowest_waiting m'
    head_after = ap lowest (same_queue m'.jobs b'.entries (L.all_live m' (L.valid m c v)) live_after)

    head_heard_lem : head_of b'.entries ≡ head_of ys
    unfolding enter
    head_heard_lem =
        ap lowest (queue_seen (map (heard (head_of ys) r.head) ys) ∙ ap queue (heard_seen (head_of ys) r.head ys) ∙ sym (queue_seen ys))

    -- the newcomer's bound is the model's
    pub bound_is : bound_at m ≡ b.clock + rank b.entries * u
    bound_is =
        let q : length (keep is_waiting b.entries) ≡ length (keep jobs.is_waiting m.jobs) =
        sym (length-map (keep is_waiting b.entries) entry_ticket)
        ∙ ap length queue_before
        ∙ length-map (keep jobs.is_waiting m.jobs) ticket_of in
        rw (u-is, a.clock_is, q)

    -- an entry before heads hear their forecasts: one of the book before, or a newcomer
    pub data Came : Entry → Type 0 where
      old : (x : Entry) → In x b.entries → Came x
      new : (o : Newcomer) → In o r.came → Came (entry u b o)

    -- The walk over the entries after the call: each comes from one before it, and hears a forecast or does not.
    pub each : (P : Entry → Type 0)
        → ((x : Entry) → Came x → (is_waiting (marked p c' r x) && is (head_of ys) x.ticket && not x.headed) ≡ false → P (marked p c' r x))
        → ((x : Entry) → Came x → is_waiting (marked p c' r x) ≡ true → is (head_of ys) x.ticket ≡ true → x.headed ≡ false
        → P (hearing r.head (marked p c' r x)))
        → (z : Entry) → In z b'.entries → P z
    unfolding enter
    each P f g z i =
        let y = map_in (heard (head_of ys) r.head) ys i in
        let q = map_in (marked p c' r) xs y.1 in
        from q.0 (y.2 ∙ ap (heard (head_of ys) r.head) q.2) (origin q.0 (in_append b.entries q.1))
        (heard_by_lem (head_of ys) r.head (marked p c' r q.0))
      where
        origin : (x : Entry) → In x b.entries ⊎ In x (map (entry u b) r.came) → Came x
        origin x (inl k) = old x k
        origin x (inr k) = let q = map_in (entry u b) r.came k in subst Came (sym q.2) (new q.0 q.1)

        from : (x : Entry) → z ≡ heard (head_of ys) r.head (marked p c' r x) → Came x → Heard (head_of ys) r.head (marked p c' r x) → P z
        from x e o (same q t) = subst P (sym (e ∙ q)) (f x o t)
        from x e o (first_time q w h n) = subst P (sym (e ∙ q)) (g x o w h n)

    -- a job that met a deadline, or was on course for it, does so after the call too
    on_time : (t d : ℕ) (f : Fate) → OnTime OnCourse m t f d → OnTime OnCourse m' t (fate_after p c' r t f) d
    on_time t d f o =
        subst (λ (x : ℕ). OnTime OnCourse m' t (fate_after p x r t f) d) clock_after_lem
        (kept_after R Valid (by d) (For OnCourse d) L.clock m c v (L.keeps d) p t f o)

    deadline_came : (x : Entry) (d : ℕ) → Came x → deadline_of k x ≡ some d → OnTime OnCourse m' x.ticket (fate_after p c' r x.ticket x.fate) d
    deadline_came x d (old y i) e = on_time x.ticket d x.fate (a.deadlines x d i e)
    deadline_came x d (new o i) e =
        let B = b.clock + rank b.entries * u in
        let w : some (deadline k o.promise B) ≡ some d = sym (deadline_is k (entry u b o) B refl) ∙ e in
        let q : deadline k o.promise B ≡ d = cc in
        subst (λ (d : ℕ). OnTime OnCourse m' o.ticket (fate_after p c' r o.ticket waiting) d) q
        (subst (λ (y : ℕ). OnTime OnCourse m' o.ticket (fate_after p y r o.ticket waiting) (deadline k o.promise B)) clock_after_lem
        (subst (λ (d : ℕ). let e = deadline k o.promise d in Kept (by e) (For OnCourse e) o.ticket r m') bound_is (L.joins m c o v i)))

    deadline_after : (z : Entry) → In z b'.entries → (d : ℕ) → deadline_of k z ≡ some d → OnTime OnCourse m' z.ticket z.fate d
    deadline_after =
        each (λ (z : Entry). (d : ℕ) → deadline_of k z ≡ some d → OnTime OnCourse m' z.ticket z.fate d)
        (λ x o t d e. deadline_came x d o (sym (stays x) ∙ e))
        (λ x o w h n d e. deadline_came x d o (sym (heard_stays x) ∙ e))
      where
        same : (κ : Kind) (y z : Entry) → y.promise ≡ z.promise → y.bound ≡ z.bound → deadline_of κ y ≡ deadline_of κ z
        same Conservative y z p q = ap some p
        same Easy y z p q = q

        stays : (x : Entry) → deadline_of k (marked p c' r x) ≡ deadline_of k x
        stays x = same k (marked p c' r x) x refl refl

        heard_stays : (x : Entry) → deadline_of k (hearing r.head (marked p c' r x)) ≡ deadline_of k x
        heard_stays x = same k (hearing r.head (marked p c' r x)) x refl refl

    -- a forecast that an entry had, or hears now
    forecast_came : (x : Entry) (f : ℕ) → Came x → x.forecast ≡ some f → OnTime OnCourse m' x.ticket (fate_after p c' r x.ticket x.fate) f
    forecast_came x f (old y i) e = on_time x.ticket f x.fate (a.forecasts x f i e)
    forecast_came x f (new o i) e = absurd (let z : ◌≡◌ {A = ℕ} 0 1 = cc in omega arith)

    forecast_now : (x : Entry) (f : ℕ) → given r.head x.ticket ≡ some f → OnCourse m' x.ticket f
    forecast_now x f g =
        let F = given_is r.head x.ticket f g in
        let t : F.0.ticket ≡ x.ticket = F.2 in
        let d : F.0.minute ≡ f = F.3 in
        subst (λ (d : ℕ). OnCourse m' x.ticket d) d (subst (λ (t : ℕ). OnCourse m' t F.0.minute) t (L.forecasts m c F.0 v F.1))

    forecast_after : (z : Entry) → In z b'.entries → (f : ℕ) → z.forecast ≡ some f → OnTime OnCourse m' z.ticket z.fate f
    forecast_after =
        each (λ (z : Entry). (f : ℕ) → z.forecast ≡ some f → OnTime OnCourse m' z.ticket z.fate f)
        (λ x o t f g. forecast_came x f o g)
        (λ x o w h n f g. rw (waiting_is (fate_after p c' r x.ticket x.fate) w) (forecast_now x f g))

    -- who is head now for the first time was not head before
    not_before : (x : Entry) → Came x → waits x.fate ≡ true → x.headed ≡ false → lowest_waiting m ≡ some x.ticket → ⊥
    not_before x (old y i) w n h = true_false x.headed (a.heads x i w (head_before_lem ∙ h)) n
    not_before x (new o i) w n h = L.fresh m c o v i h

    headed_came : k ≡ Easy → (x : Entry) → Came x → x.headed ≡ true → (f : ℕ) × (x.forecast ≡ some f)
    headed_came ke x (old y i) h = a.heard_one ke x i h
    headed_came ke x (new o i) h = true_false false h refl

    heard_after : k ≡ Easy → (z : Entry) → In z b'.entries → z.headed ≡ true → (f : ℕ) × (z.forecast ≡ some f)
    heard_after ke =
        each (λ (z : Entry). z.headed ≡ true → (f : ℕ) × (z.forecast ≡ some f))
        (λ x o t h. headed_came ke x o h)
        (λ x o w hd n h.
        let now : lowest_waiting m' ≡ some x.ticket = sym head_after ∙ head_heard_lem ∙ is_some (head_of ys) x.ticket hd in
        let F = L.hears ke m c x.ticket v now (not_before x o (waited p c' r x.ticket x.fate w) n) in
        (F.0.minute, given_told r.head F.0 x.ticket F.1 F.2))

    heads_after : (z : Entry) → In z b'.entries → is_waiting z ≡ true → head_of b'.entries ≡ some z.ticket → z.headed ≡ true
    heads_after =
        each (λ (z : Entry). is_waiting z ≡ true → head_of b'.entries ≡ some z.ticket → z.headed ≡ true)
        (λ x o t w h. not-false x.headed (rw (w, some_is (head_of ys) x.ticket (sym head_heard_lem ∙ h)) at t))
        (λ x o w hd n w' h. refl)

    -- those that wait before the call, and those that come
    queue_came : queued xs ≡ waiting_tickets m ++ map given_ticket r.came
    queue_came =
        ap (map entry_ticket) (keep_append is_waiting b.entries (map (entry u b) r.came))
        ∙ map-append entry_ticket (keep is_waiting b.entries) (keep is_waiting (map (entry u b) r.came))
        ∙ ap (λ (l : List ℕ). l ++ map entry_ticket (keep is_waiting (map (entry u b) r.came))) queue_before
        ∙ ap (λ (l : List ℕ). waiting_tickets m ++ l)
        (ap (map entry_ticket) (keep_map is_waiting (entry u b) r.came ∙ ap (map (entry u b)) (keep_all (λ (o : Newcomer). true) r.came (λ o i. refl)))
        ∙ map-map entry_ticket (entry u b) r.came)

    in_queue : (t : ℕ) → Queued m t ⊎ Comes r t → elem t (queued xs) ≡ true
    in_queue t w = ap (elem t) queue_came ∙ in_elem (waiting_tickets m ++ map given_ticket r.came) (go w)
      where
        go : Queued m t ⊎ Comes r t → In t (waiting_tickets m ++ map given_ticket r.came)
        go (inl q) =
            let j = elem_job t (keep jobs.is_waiting m.jobs) q in
            subst (λ (x : ℕ). In x (waiting_tickets m ++ map given_ticket r.came)) j.2 (in_left (map given_ticket r.came) (in_map ticket_of j.1))
        go (inr o) = subst (λ (x : ℕ). In x (waiting_tickets m ++ map given_ticket r.came)) o.2 (in_right (waiting_tickets m) (in_map given_ticket o.1))

    -- only jobs that wait start or are withdrawn
    strays_after : b'.strays ≡ []
    unfolding enter
    strays_after =
        rw (
          a.none_stray,
          keep_none (λ (t : ℕ). not (elem t (queued xs))) (map amended_ticket r.amended) (λ t i.
              ap not (in_queue t (inl (L.amends m c t v (in_elem (map amended_ticket r.amended) i))))),
          keep_none (λ (t : ℕ). not (elem t (queued xs))) r.withdrew (λ t i.
              ap not (in_queue t (inl (L.withdraws m c t v (in_elem r.withdrew i))))),
        )
        (keep_none (λ (t : ℕ). elem t r.withdrew || not (elem t (queued xs))) r.started (λ t i.
        let s = L.starts m c t v (in_elem r.started i) in
        ap (λ (x : Bool). x || not (elem t (queued xs))) s.0 ∙ ap not (in_queue t s.1)))

    -- every call keeps book and model in agreement
    pub agrees_call : Agrees k OnCourse m' b'
    unfolding enter
    agrees_call = record {
      clock_is = sym clock_after_lem;
      jobs_are = live_after;
      deadlines = λ z d i. deadline_after z i d;
      forecasts = λ z f i. forecast_after z i f;
      heard_one = heard_after;
      heads = heads_after;
      none_stray = strays_after;
    }

  -- ## Every list of calls

  pub record InStep (u p : ℕ) (m : Model) (b : Book) : Type 0 where
    pub valid : Valid m
    pub agrees : Agrees k OnCourse m b
    pub unit_is : u ≡ unit m.settings
    pub cleanup_is : p ≡ cleanup m.settings

  pub follows : (u p : ℕ) (m : Model) (b : Book) (cs : List Call) → InStep u p m b → InStep u p (after R m cs) (enter_all u p b (events R m cs))
  follows u p m b [] f = f
  follows u p m b (c ∷ cs) f =
      follows u p (R m c).model (enter u p b (said R m c)) cs
      (record {
        valid = L.valid m c f.valid;
        agrees = agrees_call m c f.valid b f.agrees u p f.unit_is f.cleanup_is;
        unit_is = f.unit_is ∙ ap unit (sym (L.settings m c f.valid));
        cleanup_is = f.cleanup_is ∙ ap cleanup (sym (L.settings m c f.valid));
      })

  -- ## What agreement guarantees

  module _ (m : Model) (b : Book) (v : Valid m) (a : Agrees k OnCourse m b) where
    keeps_to : (x : Entry) (d : ℕ) → OnTime OnCourse m x.ticket x.fate d → guarantee.Kept b.clock x d
    keeps_to x d o = go x.fate refl o
      where
        -- it was not withdrawn
        unless : (f : Fate) → x.fate ≡ f → withdrawal f ≡ none → (d ≤ b.clock → StartedBy x d) → guarantee.Kept b.clock x d
        unless f e n s = record {
          starts = λ p l. s l;
          before = λ w q. absurd (let p : none ≡ some w = sym (ap withdrawal e ∙ n) ∙ q in let z : ◌≡◌ {A = ℕ} 0 1 = cc in omega arith);
        }

        go : (f : Fate) → x.fate ≡ f → OnTime OnCourse m x.ticket f d → guarantee.Kept b.clock x d
        go waiting e o = unless waiting e refl (λ l. absurd (omega (arith, (L.keeps d).rest m x.ticket v o, a.clock_is)))
        go (running s) e o = unless (running s) e refl (λ l. record { minute = s; started = ap start e; by = o })
        go (cleaning s n) e o = unless (cleaning s n) e refl (λ l. record { minute = s; started = ap start e; by = o })
        go (ended s) e o = unless (ended s) e refl (λ l. record { minute = s; started = ap start e; by = o })
        go (withdrawn y) e o = record {
          starts = λ n l. absurd (let p : some y ≡ none = sym (ap withdrawal e) ∙ n in let z : ◌≡◌ {A = ℕ} 0 1 = cc in omega arith);
          before = λ w q. let p : some y ≡ some w = sym (ap withdrawal e) ∙ q in let z : y ≡ w = cc in omega (arith, o);
        }

    pub agrees_guarantee : Guarantee k m.settings b
    agrees_guarantee = record {
      promises = λ q x i. keeps_to x x.promise (by_kind Conservative q x x.promise i refl);
      bounds = λ q x d i e. keeps_to x d (by_kind Easy q x d i e);
      forecasts = λ q x f i e. keeps_to x f (a.forecasts x f i e);
      heads = λ q x i w h. a.heard_one q x i (a.heads x i w h);
      starts = a.none_stray;
      within = omega (arith, same_nodes m.jobs b.entries a.jobs_are, L.capacity m v);
      shares = λ t. omega (arith, same_shares t m.jobs b.entries a.jobs_are, L.shares m v t);
    }
      where
        by_kind : (κ : Kind) → k ≡ κ → (x : Entry) (d : ℕ) → In x b.entries → deadline_of κ x ≡ some d → OnTime OnCourse m x.ticket x.fate d
        by_kind κ q x d i e = a.deadlines x d i (ap (λ (j : Kind). deadline_of j x) q ∙ e)

  -- from any book that agrees with a valid model, after every list of calls
  pub guaranteed : (u p : ℕ) (m : Model) (b : Book) (cs : List Call) → InStep u p m b → Guarantee k (after R m cs).settings (enter_all u p b (events R m cs))
  guaranteed u p m b cs f =
      let g = follows u p m b cs f in
      agrees_guarantee (after R m cs) (enter_all u p b (events R m cs)) g.valid g.agrees

  -- the machine's nodes stay what they were
  pub settings_after : (m : Model) (cs : List Call) → Valid m → (after R m cs).settings ≡ m.settings
  settings_after m [] v = refl
  settings_after m (c ∷ cs) v = settings_after (R m c).model cs (L.valid m c v) ∙ L.settings m c v
