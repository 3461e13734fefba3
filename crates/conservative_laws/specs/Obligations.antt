-- Conservative backfilling owes what `Lawful` asks of each single call. Its answer tells what has changed. A waiting job has a planned start that
-- only gets earlier, so that it starts as promised unless it is withdrawn before.
-- Assumes nothing.
use Rattle.std.specs.Prelude.{ℕ, suc, min, ◌≤◌, ◌<◌, ◌≡◌, refl, Bool, true, false, not, ◌&&◌, cond, ◌⊎◌, eqb}
use Rattle.std.proofs.Common.{arith, sym, ap, subst, ◌∙◌, inl, inr, eqb-true, eq-eqb, ne_eqb}
use mathlib.Core.List.{List, [], ◌∷◌, map, foldr}
use Rattle.std.proofs.Math.Option.{none, some}
use Rattle.std.proofs.lemmas.Bool.{not-true}
use Rattle.lists.specs.Tests.{case, true_false, both}
use Rattle.lists.specs.Lists.{keep, elem, In, here, there, in_nil, in_cons, in_left, in_right, in_map, keep_in, keep_all, map_same}
use Rattle.scheduler.specs.declared.Kind.TheVariants.{Conservative}
use Rattle.scheduler.specs.declared.State.{State}
use Rattle.scheduler.specs.declared.State.TheVariants.{Unused, Waiting, Running, Cleanup}
use Rattle.scheduler.specs.declared.Job.{Job}
use Rattle.scheduler.specs.declared.Select.{Select}
use Rattle.scheduler.specs.States.{waiting?, running?}
use Rattle.scheduler.specs.Jobs as jobs
use Rattle.scheduler.specs.Jobs.{is_waiting, is_running}
use Rattle.scheduler.specs.Settings.{cleanup}
use Rattle.scheduler.specs.Table as table
use Rattle.scheduler.specs.Table.{tickets_of, staying, ceased, remaining}
use Rattle.scheduler.specs.Model.{Model, with_model_jobs}
use Rattle.scheduler.specs.Answers.{Result, refusing}
use Rattle.scheduler.specs.declared.Amendment.{Amendment}
use Rattle.scheduler.specs.Amending.{supersede, in_place_of}
use Rattle.jobs.specs.Order.{Asc, asc_in, elem_job, elem_picked}
use Rattle.jobs.specs.Soundness.{all_live, Leaving, withdraws_waits, ceased_ticket, ceased_waits, waits_remains, remained_waits, sound_leave}
use Rattle.jobs.specs.Soundness as soundness
use Rattle.jobs.specs.Amended.{kept_ticket, kept_state, kept_start, superseded_in}
use Rattle.history.specs.Calls.{Call, submit, amend}
use Rattle.history.specs.News.{Newcomer, amended_ticket, News, news_of, clock_after, came_stays}
use Rattle.history.specs.Book.{running, fate_after, lowest}
use Rattle.history.specs.Beginning.{fate_by}
use Rattle.history_proof.specs.Obligations.{shown, live, remark, Tells, by, Kept, Queued, Comes, For, Lawful, Seeded}
use Rattle.history_proof.specs.Departures.{shown_with, queued_by, lives, Departs, departs_live, departs_shown, tells_leave, tells_stay, tells_nothing}
use Rattle.history_proof.specs.Departures.{kept_by, remark_same, nobody, nobody_departs, none_ends, none_leaves, stay_live}
use Rattle.history_proof.specs.Amended.{plain, tells_amended, named_queued}
use Rattle.conservative_rules.specs.Conservative.{planned, state_at, new_job, submitted, placed, begun, advanced, call, amended_to}
use Rattle.conservative_laws.specs.Validity.{Valid, Zip, zip_map, zip_left, Follows, stays, moves, follows_ticket, follows_start}
use Rattle.conservative_laws.specs.Validity.{follows_begins, Moved}
use Rattle.conservative_laws.specs.Outcomes.{Says, CameOut, idle, joins, leaves, amends, outcome, call_valid}
use Rattle.conservative_laws.specs.Amended.{inplace_valid}

-- the job u waits, and is planned to start by b
pub record OnCourse (m : Model) (u b : ℕ) : Type 0 where
  pub job : Job
  pub inside : In job m.jobs
  pub waits : is_waiting job ≡ true
  pub is_u : job.ticket ≡ u
  pub by : job.start ≤ b

-- ## The tickets started are those of the jobs that wait before and run after

begun_low : (t lo : ℕ) (js ks : List Job) → t < lo → Asc lo js → elem t (begun js ks) ≡ false
begun_low t lo [] ks l a = refl
begun_low t lo (j ∷ js) [] l a = refl
begun_low t lo (j ∷ js) (k ∷ ks) l a =
    let rest = begun_low t (suc j.ticket) js ks (omega (arith, a.0)) a.1 in
    case (is_waiting j && is_running k) (λ e. rw (e, ne_eqb t j.ticket (λ q. omega (arith, a.0))) rest) (λ e. rw e rest)

-- beside each other stand j and k, and j's ticket is among ts if and only if j waits and k runs
abbrev pub Told : (Job → Job → Type 0) → List ℕ → Job → Job → Type 0
Told R ts j k = R j k × (elem j.ticket ts ≡ (is_waiting j && is_running k))

pub begun_tells : (R : Job → Job → Type 0) (lo : ℕ) (js ks : List Job) → Asc lo js → Zip R js ks → Zip (Told R (begun js ks)) js ks
begun_tells R lo [] [] a z = tt
begun_tells R lo [] (k ∷ ks) a z = absurd z
begun_tells R lo (j ∷ js) [] a z = absurd z
begun_tells R lo (j ∷ js) (k ∷ ks) a z =
    let rest = begun_tells R (suc j.ticket) js ks a.1 z.1 in
    case (is_waiting j && is_running k)
    (λ e.
    let q : begun (j ∷ js) (k ∷ ks) ≡ j.ticket ∷ begun js ks = rw e in
    let more : Zip (Told R (j.ticket ∷ begun js ks)) js ks =
    zip_map (Told R (begun js ks)) (Told R (j.ticket ∷ begun js ks)) js ks
    (λ x y i r. (r.0, rw (ne_eqb x.ticket j.ticket (λ q. omega (arith, asc_in (suc j.ticket) js a.1 i))) r.1)) rest in
    subst (λ ts. Zip (Told R ts) (j ∷ js) (k ∷ ks)) (sym q) ((z.0, rw (eq-eqb j.ticket j.ticket refl, e)), more))
    (λ e.
    let q : begun (j ∷ js) (k ∷ ks) ≡ begun js ks = rw e in
    subst (λ ts. Zip (Told R ts) (j ∷ js) (k ∷ ks)) (sym q) ((z.0, rw e (begun_low j.ticket (suc j.ticket) js ks (omega arith) a.1)), rest))

-- so a job that starts waited before
pub begun_waited : (t : ℕ) (js ks : List Job) → elem t (begun js ks) ≡ true → (j : Job) × In j js × (is_waiting j ≡ true) × (j.ticket ≡ t)
begun_waited t [] ks e = true_false false e refl
begun_waited t (j ∷ js) [] e = true_false false e refl
begun_waited t (j ∷ js) (k ∷ ks) e =
    case (is_waiting j && is_running k)
    (λ w. case (eqb t j.ticket)
    (λ q. (j, here refl, (both (is_waiting j) (is_running k) w).0, sym (eqb-true t j.ticket q)))
    (λ q. later (begun_waited t js ks (rw (w, q) at e))))
    (λ w. later (begun_waited t js ks (rw w at e)))
  where
    later : (x : Job) × In x js × (is_waiting x ≡ true) × (x.ticket ≡ t) → (x : Job) × In x (j ∷ js) × (is_waiting x ≡ true) × (x.ticket ≡ t)
    later r = (r.0, there r.1, r.2, r.3)

-- ## The answer tells what has changed

-- a job that waits and starts, or goes on waiting
fate_placed : (k c : ℕ) (e : News) (t : ℕ) (s : State) (b n d : ℕ) → waiting? s ≡ true → elem t e.started ≡ running? (state_at c d)
    → live (fate_after k c e t (fate_by s b n)) ≡ true → fate_by (state_at c d) d 0 ≡ fate_after k c e t (fate_by s b n)
fate_placed k c e t Unused b n d w p l = true_false false w refl
fate_placed k c e t Waiting b n d w p l =
    case (elem t e.withdrew)
    (λ x. true_false false (rw x at l) refl)
    (λ x. case (eqb d c) (λ q. rw (x, p, q) (ap running (eqb-true d c q))) (λ q. rw (x, p, q)))
fate_placed k c e t Running b n d w p l = true_false false w refl
fate_placed k c e t Cleanup b n d w p l = true_false false w refl

-- nobody waits and runs
never_both : (s : State) → (waiting? s && running? s) ≡ false
never_both Unused = refl
never_both Waiting = refl
never_both Running = refl
never_both Cleanup = refl

module _ (m : Model) (c : ℕ) (s : Select) (e : News) (v : Valid m) (d : Departs m c s e) where
  abbrev k : ℕ
  k = cleanup m.settings

  remark_follows : (j x : Job) → In j m.jobs → table.leaves m.settings s j ≡ false → Follows c (ceased c s j) x
      → elem (ceased c s j).ticket e.started ≡ (is_waiting (ceased c s j) && is_running x) → shown x ≡ remark k c e (shown j)
  remark_follows j x i n f p = go x f p
    where
      named : elem (ceased c s j).ticket e.started ≡ elem j.ticket e.started
      named = ap (λ (t : ℕ). elem t e.started) (ceased_ticket c s j)

      go : (x : Job) → Follows c (ceased c s j) x → elem (ceased c s j).ticket e.started ≡ (is_waiting (ceased c s j) && is_running x)
          → shown x ≡ remark k c e (shown j)
      go x (stays w) p = sym (departs_shown m c s e v.sound d j i n (sym named ∙ p ∙ never_both (ceased c s j).state))
      go x (moves b w a l) p =
          let same : ceased c s j ≡ j = ceased_waits c s j w in
          let u : is_waiting j ≡ true = subst (λ (y : Job). is_waiting y ≡ true) same w in
          ap (λ (y : Job). shown (placed c b y)) same
          ∙ shown_with (record {
            ticket = j.ticket;
            nodes = j.nodes;
            promise = j.promise;
            tenant = j.tenant;
            least = j.least;
            fate = fate_after k c e j.ticket (fate_by j.state j.start j.end);
          }) _ (fate_placed k c e j.ticket j.state j.start j.end b u
          (sym named ∙ p ∙ ap (λ (t : Bool). t && running? (state_at c b)) w)
          (departs_live m c s e v.sound d j i ∙ ap not n))
          ∙ sym (remark_same k c e (shown j) d.none_amended)

  remark_all : (js xs : List Job) → ((j : Job) → In j js → In j m.jobs × (table.leaves m.settings s j ≡ false))
      → Zip (Told (Follows c) e.started) (map (ceased c s) js) xs → map shown xs ≡ map (remark k c e) (map shown js)
  remark_all [] [] f z = refl
  remark_all [] (x ∷ xs) f z = absurd z
  remark_all (j ∷ js) [] f z = absurd z
  remark_all (j ∷ js) (x ∷ xs) f z =
      let h = f j (here refl) in
      rw (remark_follows j x h.0 h.1 z.0.0 z.0.1, remark_all js xs (λ y i. f y (there i)) z.1)

-- tickets of live jobs are not the one given
not_new : (s c t n : ℕ) → t < n → elem t (cond (eqb s c) (n ∷ []) []) ≡ false
not_new s c t n l = case (eqb s c) (λ q. rw (q, ne_eqb t n (λ e. omega arith))) (λ q. rw q)

-- a job that lives on does not leave; a waiting job that is not withdrawn lives on
pub lives_stays : (m : Model) (e : News) (c : ℕ) (s : Select) → Valid m → Says m e c s → (j : Job) → In j m.jobs
    → lives (cleanup m.settings) c e j ≡ true → table.leaves m.settings s j ≡ false
lives_stays m e c s v t j i l = not-true (table.leaves m.settings s j) (sym (departs_live m c s e v.sound t.departs j i) ∙ l)

pub waits_lives : (k c : ℕ) (e : News) (j : Job) → is_waiting j ≡ true → elem j.ticket e.withdrew ≡ false → lives k c e j ≡ true
waits_lives k c e j w n = go j.state w
  where
    go : (s : State) → waiting? s ≡ true → live (fate_after k c e j.ticket (fate_by s j.start j.end)) ≡ true
    go Unused w = true_false false w refl
    go Waiting w = rw n (case (elem j.ticket e.started) (λ y. rw y) (λ y. rw y))
    go Running w = true_false false w refl
    go Cleanup w = true_false false w refl

-- those that remain, beside the jobs after
module _ (m : Model) (c : ℕ) (s : Select) (ks : List Job) (v : Valid m) (l : Leaving m c s)
    (g : Moved m.settings c (remaining m.settings c s m.jobs) ks) where
  abbrev left : List Job
  left = remaining m.settings c s m.jobs

  pub leaves_told : Zip (Told (Follows c) (begun left ks)) left ks
  leaves_told = begun_tells (Follows c) 1 left ks (sound_leave m c s v.sound l).asc g.follow

-- those of a valid model move, and nobody leaves
moved_tells : (m : Model) (ks : List Job) (e : News) → Valid m → Moved m.settings m.clock m.jobs ks → e.ended ≡ [] → e.withdrew ≡ [] → e.amended ≡ []
    → e.came ≡ [] → e.started ≡ begun m.jobs ks → Tells m e (with_model_jobs m ks)
moved_tells m ks e v g d w n z b =
    let k = cleanup m.settings in
    let c = m.clock in
    let s = nobody in
    let dep = nobody_departs m e v.sound d w n in
    let told : Zip (Told (Follows c) e.started) m.jobs ks =
    subst (λ (ts : List ℕ). Zip (Told (Follows c) ts) m.jobs ks) (sym b) (begun_tells (Follows c) 1 m.jobs ks v.sound.asc g.follow) in
    let same : map (ceased c s) m.jobs ≡ m.jobs =
    map_same (ceased c s) m.jobs (λ j i. ap (λ (b : Bool). cond b (jobs.cleaning c j) j) (none_ends m e v.sound d w n j i)) in
    let all : keep (λ (j : Job). true) m.jobs ≡ m.jobs = keep_all (λ (j : Job). true) m.jobs (λ j i. refl) in
    tells_leave k c e (λ (j : Job). false) m.jobs ks (stay_live m e v.sound d w n) z
    (remark_all m c s e v dep m.jobs ks (λ j i. (i, none_leaves m e v.sound d w n j i))
    (subst (λ (js : List Job). Zip (Told (Follows c) e.started) js ks) (sym same) told)
    ∙ ap (λ (js : List Job). map (remark k c e) (map shown js)) (sym all))

outcome_tells : (m : Model) {c : Call} {r : Result} → Valid m → CameOut m c r → Tells m (news_of c r.reply) r.model
unfolding submitted advanced amended_to
outcome_tells m v (amends a after f g) =
    let n = in_place_of m a in
    let w = inplace_valid m a f.range f.shrinks v in
    let e = news_of (amend a) (amended_to m a after).reply in
    tells_amended m (with_model_jobs m after) a e v.sound refl refl (moved_tells n after (plain e) w g refl refl refl refl refl)
outcome_tells m v (idle c r n) = tells_nothing m (news_of c (refusing r)) v.sound n
outcome_tells m v (joins o f l) =
    let s = planned m o in
    let now = m.clock in
    tells_stay m (news_of (submit o) (submitted m o s).reply) v.sound refl refl refl (new_job m o s ∷ [])
    (λ j i. not_new s now j.ticket m.next (v.sound.below j i))
    (case (eqb s now) (λ q. rw (q, eq-eqb m.next m.next refl, eqb-true s now q)) (λ q. rw q))
outcome_tells m v (leaves c clock s after l g t) =
    let e = news_of c (advanced m clock s after).reply in
    let S = m.settings in
    tells_leave (cleanup S) clock e (table.leaves S s) m.jobs after (departs_live m clock s e v.sound t.departs) t.none_comes
    (remark_all m clock s e v t.departs (staying S s m.jobs) after
    (λ j i. let k = keep_in (λ (j : Job). not (table.leaves S s j)) m.jobs i in (k.0, not-true (table.leaves S s j) k.1))
    (leaves_told m clock s after v l g))

-- ## A job on course stays on course

-- after a call the job u has started by b, or goes on waiting and is on course still
abbrev StartsBy : ℕ → ℕ → Result → Type 0
StartsBy u b r = ((elem u r.reply.started ≡ true) × (r.model.clock ≤ b)) ⊎ ((elem u r.reply.started ≡ false) × OnCourse r.model u b)

-- one that waits and does not start goes on waiting
pub follows_waits : (now : ℕ) (j k : Job) → Follows now j k → is_waiting j ≡ true → is_running k ≡ false → is_waiting k ≡ true
follows_waits now j k (stays e) w r = w
follows_waits now j k (moves s e a b) w r = case (eqb s now) (λ q. true_false true refl (rw q at r)) (λ q. rw q)

leaves_keeps : (m : Model) (c : ℕ) (s : Select) (ks : List Job) (u b : ℕ) → Valid m → Leaving m c s
    → Moved m.settings c (remaining m.settings c s m.jobs) ks → (o : OnCourse m u b) → table.leaves m.settings s o.job ≡ false
    → StartsBy u b (advanced m c s ks)
unfolding advanced
leaves_keeps m c s ks u b v l g o n =
    let z = zip_left (Told (Follows c) (begun js ks)) js ks (leaves_told m c s ks v l g) (waits_remains m.settings c s m.jobs o.inside o.waits n) in
    go z.0 z.1 z.2.0 z.2.1
  where
    js : List Job
    js = remaining m.settings c s m.jobs

    go : (k : Job) → In k ks → Follows c o.job k → elem o.job.ticket (begun js ks) ≡ (is_waiting o.job && is_running k)
        → ((elem u (begun js ks) ≡ true) × (c ≤ b))
        ⊎ ((elem u (begun js ks) ≡ false) × OnCourse (record { settings = m.settings; clock = c; next = m.next; jobs = ks }) u b)
    go k i f e =
        let e' : elem u (begun js ks) ≡ is_running k = rw (o.is_u, o.waits) at e in
        case (is_running k)
        (λ r. inl (e' ∙ r, omega (arith, follows_begins c o.job k f o.waits r, follows_start c o.job k f, o.by)))
        (λ r. inr (
          e' ∙ r,
          record {
            job = k;
            inside = i;
            waits = follows_waits c o.job k f o.waits r;
            is_u = follows_ticket c o.job k f ∙ o.is_u;
            by = omega (arith, follows_start c o.job k f, o.by);
          },
        ))

-- the same of a valid model whose jobs move
moved_keeps : (m : Model) (ks : List Job) (u b : ℕ) → Valid m → Moved m.settings m.clock m.jobs ks → OnCourse m u b
    → ((elem u (begun m.jobs ks) ≡ true) × (m.clock ≤ b)) ⊎ ((elem u (begun m.jobs ks) ≡ false) × OnCourse (with_model_jobs m ks) u b)
moved_keeps m ks u b v g o =
    let told = begun_tells (Follows c) 1 m.jobs ks v.sound.asc g.follow in
    let z = zip_left (Told (Follows c) (begun m.jobs ks)) m.jobs ks told o.inside in
    go z.0 z.1 z.2.0 z.2.1
  where
    c : ℕ
    c = m.clock

    go : (k : Job) → In k ks → Follows c o.job k → elem o.job.ticket (begun m.jobs ks) ≡ (is_waiting o.job && is_running k)
        → ((elem u (begun m.jobs ks) ≡ true) × (c ≤ b)) ⊎ ((elem u (begun m.jobs ks) ≡ false) × OnCourse (with_model_jobs m ks) u b)
    go k i f e =
        let e' : elem u (begun m.jobs ks) ≡ is_running k = rw (o.is_u, o.waits) at e in
        case (is_running k)
        (λ r. inl (e' ∙ r, omega (arith, follows_begins c o.job k f o.waits r, follows_start c o.job k f, o.by)))
        (λ r. inr (
          e' ∙ r,
          record {
            job = k;
            inside = i;
            waits = follows_waits c o.job k f o.waits r;
            is_u = follows_ticket c o.job k f ∙ o.is_u;
            by = omega (arith, follows_start c o.job k f, o.by);
          },
        ))

-- a job that is superseded is still on course for what it was on course for
inplace_course : (m : Model) (a : Amendment) (u b : ℕ) → OnCourse m u b → OnCourse (in_place_of m a) u b
inplace_course m a u b o = record {
  job = supersede a o.job;
  inside = in_map (supersede a) o.inside;
  waits = ap waiting? (kept_state a o.job) ∙ o.waits;
  is_u = kept_ticket a o.job ∙ o.is_u;
  by = omega (arith, kept_start a o.job, o.by);
}

outcome_keeps : (m : Model) {c : Call} {r : Result} (u b : ℕ) → Valid m → OnCourse m u b → CameOut m c r → elem u (news_of c r.reply).withdrew ≡ false
    → StartsBy u b r
unfolding submitted advanced amended_to
outcome_keeps m u b v o (amends a after f g) w = moved_keeps (in_place_of m a) after u b (inplace_valid m a f.range f.shrinks v) g (inplace_course m a u b o)
outcome_keeps m u b v o (idle c r n) w = inr (refl, o)
outcome_keeps m u b v o (joins w f l) n = inr (
  rw (← o.is_u) (not_new (planned m w) m.clock o.job.ticket m.next (v.sound.below o.job o.inside)),
  record { job = o.job; inside = in_left _ o.inside; waits = o.waits; is_u = o.is_u; by = o.by },
)
outcome_keeps m u b v o (leaves c clock s after l g t) n =
    let e = news_of c (advanced m clock s after).reply in
    leaves_keeps m clock s after u b v l g o
    (lives_stays m e clock s v t o.job o.inside
    (waits_lives (cleanup m.settings) clock e o.job o.waits (ap (λ (x : ℕ). elem x e.withdrew) o.is_u ∙ n)))

-- who comes has the next ticket, and starts now or is planned for its promise
pub outcome_joins : (m : Model) {c : Call} {r : Result} (o : Newcomer) → CameOut m c r → In o (news_of c r.reply).came
    → (o.ticket ≡ m.next) × StartsBy o.ticket o.promise r
unfolding submitted advanced amended_to planned
outcome_joins m o (amends a after f g) i = in_nil i
outcome_joins m o (idle c r n) i = in_nil (subst (λ (e : News). In o e.came) n i)
outcome_joins m o (joins w f l) i = one (in_cons i)
  where
    now : ℕ
    now = m.clock

    s : ℕ
    s = planned m w

    new : Newcomer
    new = record { ticket = m.next; nodes = w.nodes; promise = s; tenant = w.tenant; least = w.least }

    one : (o ≡ new) ⊎ In o [] → (o.ticket ≡ m.next) × StartsBy o.ticket o.promise (submitted m w s)
    one (inr k) = in_nil k
    one (inl q) =
        subst (λ (x : Newcomer). (x.ticket ≡ m.next) × StartsBy x.ticket x.promise (submitted m w s)) (sym q) (
          refl,
          case (eqb s now)
              (λ q. inl (rw (q, eq-eqb m.next m.next refl), omega (arith, eqb-true s now q)))
              (λ q. inr (rw q, record { job = new_job m w s; inside = in_right m.jobs (here refl); waits = rw q; is_u = refl; by = omega arith })),
        )
outcome_joins m o (leaves c clock s after l g t) i = in_nil (subst (In o) t.none_comes i)

-- ## Who starts, whose run ends, and who is withdrawn

outcome_starts : (m : Model) {c : Call} {r : Result} (u : ℕ) → Valid m → CameOut m c r → elem u r.reply.started ≡ true
    → let e = news_of c r.reply in (elem u e.withdrew ≡ false) × (Queued m u ⊎ Comes e u)
unfolding submitted advanced amended_to
outcome_starts m u v (amends a after f g) x =
    let w = begun_waited u (map (supersede a) m.jobs) after x in
    let j = superseded_in m a f.range f.shrinks w.0 w.1 in (
      refl,
      inl (queued_by m u j.0 j.1 (sym (ap waiting? (kept_state a j.0)) ∙ sym (ap is_waiting j.2) ∙ w.2)
          (sym (kept_ticket a j.0) ∙ sym (ap (λ (x : Job). x.ticket) j.2) ∙ w.3)),
    )
outcome_starts m u v (idle c r n) x = true_false false x refl
outcome_starts m u v (joins o f l) x =
    case (eqb (planned m o) m.clock)
    (λ q. case (eqb u m.next) (λ y. (refl, inr (_, here refl, sym (eqb-true u m.next y)))) (λ y. true_false false (rw (q, y) at x) refl))
    (λ q. true_false false (rw q at x) refl)
outcome_starts m u v (leaves c clock s after l g t) x =
    let e = news_of c (advanced m clock s after).reply in
    let w = begun_waited u (remaining m.settings clock s m.jobs) after x in
    let k = remained_waits m.settings clock s m.jobs w.1 w.2 in
    let n : elem w.0.ticket e.withdrew ≡ false =
    ap (elem w.0.ticket) t.departs.withdrew_are
    ∙ elem_picked (table.withdraws s) 1 m.jobs w.0 v.sound.asc k.0
    ∙ (soundness.stays m.settings s w.0 k.1).0 in
    (ap (λ (y : ℕ). elem y e.withdrew) (sym w.3) ∙ n, inl (queued_by m u w.0 k.0 w.2 w.3))

outcome_withdraws : (m : Model) {c : Call} {r : Result} (u : ℕ) → CameOut m c r → elem u (news_of c r.reply).withdrew ≡ true → Queued m u
unfolding submitted advanced amended_to
outcome_withdraws m u (amends a after f g) x = true_false false x refl
outcome_withdraws m u (idle c r n) x = true_false false (ap (λ (e : News). elem u e.withdrew) (sym n) ∙ x) refl
outcome_withdraws m u (joins o f l) x = true_false false x refl
outcome_withdraws m u (leaves c clock s after l g t) x =
    let j = elem_job u (keep (table.withdraws s) m.jobs) (ap (elem u) (sym t.departs.withdrew_are) ∙ x) in
    let k = keep_in (table.withdraws s) m.jobs j.1 in
    queued_by m u j.0 k.0 (withdraws_waits s j.0 k.1) j.2

-- who is amended waited
outcome_amends : (m : Model) {c : Call} {r : Result} (u : ℕ) → CameOut m c r → elem u (map amended_ticket (news_of c r.reply).amended) ≡ true → Queued m u
unfolding submitted advanced amended_to
outcome_amends m u (amends a after f g) x = named_queued m a u f.there x
outcome_amends m u (idle c r n) x = true_false false (ap (λ (e : News). elem u (map amended_ticket e.amended)) (sym n) ∙ x) refl
outcome_amends m u (joins o f l) x = true_false false x refl
outcome_amends m u (leaves c clock s after l g t) x =
    true_false false (sym (ap (λ (cs : List Amendment). elem u (map amended_ticket cs)) t.departs.none_amended) ∙ x) refl

-- ## The rest

outcome_settings : (m : Model) {c : Call} {r : Result} → CameOut m c r → r.model.settings ≡ m.settings
unfolding submitted advanced amended_to
outcome_settings m (amends a after f g) = refl
outcome_settings m (idle c r n) = refl
outcome_settings m (joins o f l) = refl
outcome_settings m (leaves c clock s after l g t) = refl

outcome_clock : (m : Model) {c : Call} {r : Result} → CameOut m c r → r.model.clock ≡ clock_after (news_of c r.reply) m.clock
unfolding submitted advanced amended_to
outcome_clock m (amends a after f g) = refl
outcome_clock m (idle c r n) = ap (λ (e : News). clock_after e m.clock) (sym n)
outcome_clock m (joins o f l) = refl
outcome_clock m (leaves c clock s after l g t) = sym t.passes

outcome_head : (m : Model) {c : Call} {r : Result} → CameOut m c r → r.reply.head ≡ none
unfolding submitted advanced amended_to
outcome_head m (amends a after f g) = refl
outcome_head m (idle c r n) = refl
outcome_head m (joins o f l) = refl
outcome_head m (leaves c clock s after l g t) = refl

-- the lowest of some tickets is none above them all
lowest_low : (n : ℕ) (js : List Job) (h : ℕ) → ((j : Job) → In j js → j.ticket < n) → lowest (tickets_of js) ≡ some h → h < n
lowest_low n [] h f e = absurd (let z : ◌≡◌ {A = ℕ} 0 1 = cc in omega arith)
lowest_low n (j ∷ js) h f e = let q : foldr min j.ticket (tickets_of js) ≡ h = cc in omega (arith, f j (here refl), low (tickets_of js))
  where
    low : (ts : List ℕ) → foldr min j.ticket ts ≤ j.ticket
    low [] = omega arith
    low (t ∷ ts) = omega (arith, low ts)

pub conservative_lawful : Lawful Conservative call Valid OnCourse
conservative_lawful = record {
  kind_is = λ m v. v.kind;
  all_live = λ m v. all_live m v.sound;
  capacity = λ m v. v.sound.capacity;
  shares = λ m v t. v.sound.shares t;
  valid = call_valid;
  settings = λ m c v. outcome_settings m (outcome m c v);
  clock = λ m c v. outcome_clock m (outcome m c v);
  tells = λ m c v. outcome_tells m v (outcome m c v);
  keeps = λ b. record {
    rest = λ m u v o. omega (arith, v.ahead o.job o.inside o.waits, o.by);
    keeps = λ m c u v o n. kept m c u b n (outcome_keeps m u b v o (outcome m c v) n);
  };
  joins = λ m c o v i. kept m c o.ticket o.promise (came_stays c (call m c).reply o.ticket o i) (outcome_joins m o (outcome m c v) i).1;
  starts = λ m c u v x. outcome_starts m u v (outcome m c v) x;
  withdraws = λ m c u v x. outcome_withdraws m u (outcome m c v) x;
  amends = λ m c u v x. outcome_amends m u (outcome m c v) x;
  fresh = λ m c o v i h.
      omega (
        arith,
        (outcome_joins m o (outcome m c v) i).0,
        lowest_low m.next (keep is_waiting m.jobs) o.ticket (λ j i. v.sound.below j (keep_in is_waiting m.jobs i).0) h,
      );
  forecasts = λ m c f v h. let x = sym (outcome_head m (outcome m c v)) ∙ h in absurd (let z : ◌≡◌ {A = ℕ} 0 1 = cc in omega arith);
  hears = λ k. absurd (let z : ◌≡◌ {A = ℕ} 0 1 = cc in omega arith);
}
  where
    kept : (m : Model) (c : Call) (u b : ℕ) → elem u (news_of c (call m c).reply).withdrew ≡ false → StartsBy u b (call m c)
        → Kept (by b) (For OnCourse b) u (news_of c (call m c).reply) (call m c).model
    kept m c u b = kept_by (news_of c (call m c).reply) (by b) (For OnCourse b) (call m c).model u

-- from any valid model on
pub conservative_seeded : Seeded Conservative Valid OnCourse
conservative_seeded = record {
  waiting = λ m j v i w. record { job = j; inside = i; waits = w; is_u = refl; by = v.promised j i };
  started = λ q m j v i. v.promised j i;
  forecasts = λ m j v i w f. absurd (omega (arith, v.unranked j i));
  heads = λ k. absurd (let z : ◌≡◌ {A = ℕ} 0 1 = cc in omega arith);
}
