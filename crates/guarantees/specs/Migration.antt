-- Document 02, No. 12: "A list of demand 3 ends with the change. Another starts from the new desk, whose stacks count as it has them; these
-- promises are kept there in the same way. .. The head's promise is no later than its forecast, and every promise of a waiting stack lies
-- within the bound it had on the Loose Desk."
-- Assumes nothing.
use Rattle.std.specs.Prelude.{ℕ, ◌≤◌, ◌≡◌, refl, true, false, List}
use Rattle.std.proofs.Common.{arith, sym, ap, subst, ◌∙◌}
use Rattle.std.proofs.Math.Option.{some}
use Rattle.lists.specs.Tests.{true_false}
use Rattle.lists.specs.Lists.{keep, In, in_map, map_in, in_keep}
use Rattle.scheduler.specs.declared.Kind.{Kind}
use Rattle.scheduler.specs.declared.Kind.TheVariants.{Conservative, Easy}
use Rattle.scheduler.specs.declared.Job.{Job}
use Rattle.scheduler.specs.declared.State.{State}
use Rattle.scheduler.specs.declared.State.TheVariants.{Unused, Waiting, Running, Cleanup}
use Rattle.scheduler.specs.declared.Refusal.TheVariants as refusal
use Rattle.scheduler.specs.Jobs as jobs
use Rattle.scheduler.specs.States.{live?, waiting?}
use Rattle.scheduler.specs.Settings.{cleanup, unit}
use Rattle.scheduler.specs.Limits.{longest_estimate}
use Rattle.scheduler.specs.Table.{ticket_of, tickets_of}
use Rattle.scheduler.specs.Model.{Model}
use Rattle.jobs.specs.Soundness as soundness
use Rattle.history.specs.Calls.{Call, after, events, Event}
use Rattle.history.specs.Book.{Fate, waiting, running, cleaning, ended, withdrawn, Entry, Book, waits, is_waiting, lowest, start, fate_from}
use Rattle.history.specs.Beginning.{fate_by, entry_of, beginning}
use Rattle.history_proof.specs.Obligations.{JobShown, shown, live, Meets}
use Rattle.history_proof.specs.Seen.{seen, is_live_entry}
use Rattle.history_proof.specs.Proof.{OnTime, Agrees, InStep}
use Rattle.conservative_laws.specs.Tightness.{Tight}
use Rattle.easy_laws.specs.Course.{OnCourse}
use Rattle.easy_laws.specs.Validity.{Valid}
use Rattle.easy_laws.specs.Obligations.{easy_lawful, easy_seeded}
use Rattle.checkpoint_rules.specs.Texts.{desk_text, restored}
use Rattle.checkpoint_laws.specs.Restored.{ValidAs}
use Rattle.guarantees.specs.Rules.{call}
use Rattle.guarantees.specs.Premise as premise
use Rattle.guarantees.specs.Premise.{valid_sound}
use Rattle.guarantees.specs.Statement.{book_of, Start, changes, start_of, same_events, same_after, in_step_after, in_step_first}
use Rattle.guarantees.specs.Proof.{change_valid, start_valid, demand3}
use Rattle.guarantees.specs.Restored.{valid_comes_back}
use Rattle.guarantees.specs.NoGaps.{stays_tight}
use Rattle.migration_rules.specs.Migration.{migrated, changed_by, changed}
use Rattle.migration_laws.specs.Migrated.{migrated_valid, migrated_tight, migrated_promised}
use Rattle.guarantees.specs.Bounded.{Bounded, bounded}
use Rattle.scheduler.specs.Answers.{accepts}
use Rattle.history.specs.Guarantee.{Guarantee}
use Rattle.conservative_laws.specs.Obligations.{conservative_lawful}
use Rattle.conservative_laws.specs.Sentences.{conservative_ticketed}
use Rattle.easy_laws.specs.Withdrawal.{easy_ticketed}
use Rattle.easy_rules.specs.EarliestStart.{earliest_for, earliest_start}
use Rattle.guarantees.specs.EarliestStart.{WaitsFor, NoneAmends, from, NoSooner, answered, holds_on, no_sooner_call}
use Rattle.migration_laws.specs.Soonest.{same_soonest}

-- ## What the new list has of a job that waits

-- x in the book of the list that ends, y in that of the list that starts
pub record HandedOver (x y : Entry) : Type 0 where
  pub ticket : y.ticket ≡ x.ticket
  pub nodes : y.nodes ≡ x.nodes
  pub waits : y.fate ≡ waiting
  -- it had a bound
  pub bound : ℕ
  pub bound_is : x.bound ≡ some bound
  pub within_bound : y.promise ≤ bound
  pub within_forecast : (f : ℕ) → x.forecast ≡ some f → y.promise ≤ f

waiting_is : (f : Fate) → waits f ≡ true → f ≡ waiting
waiting_is waiting e = refl
waiting_is (running s) e = true_false false e refl
waiting_is (cleaning s m) e = true_false false e refl
waiting_is (ended s) e = true_false false e refl
waiting_is (withdrawn w) e = true_false false e refl

-- one that is shown to wait does so
waits_job : (s : State) (b n : ℕ) → live? s ≡ true → fate_by s b n ≡ waiting → waiting? s ≡ true
waits_job Unused b n l e = true_false false l refl
waits_job Waiting b n l e = refl
waits_job Running b n l e = ap waits e
waits_job Cleanup b n l e = ap waits e

module _ (m : Model) (b : Book) (v : Valid m) (a : Agrees Easy OnCourse m b) (d : Bounded b.entries) where
  abbrev new : Job → Entry
  new = entry_of (migrated m).settings (lowest (tickets_of (keep jobs.is_waiting (migrated m).jobs)))

  pub hands_over : (x : Entry) → In x b.entries → is_waiting x ≡ true → (y : Entry) × In y (beginning (migrated m)).entries × HandedOver x y
  hands_over x i w =
      let f = waiting_is x.fate w in
      let s = subst (λ (l : List JobShown). In (seen x) l) a.jobs_are (in_map seen (in_keep is_live_entry i (ap live f))) in
      let y = map_in shown m.jobs s in
      let j = y.0 in
      let t : x.ticket ≡ j.ticket = ap (λ (z : JobShown). z.ticket) y.2 in
      let u : jobs.is_waiting j ≡ true = waits_job j.state j.start j.end (v.ready.sound.each j y.1).is_live
      (sym (ap (λ (z : JobShown). z.fate) y.2) ∙ f) in
      let z = migrated_promised m v j y.1 u in
      let p = z.1 in
      let o = d x i w in
      let named : (e : ℕ) → OnCourse m x.ticket e → OnCourse m j.ticket e = λ e. subst (λ (n : ℕ). OnCourse m n e) t in (
        new z.0,
        in_map new p.inside,
        record {
          ticket = ap ticket_of p.job_is ∙ sym t;
          nodes = ap (λ (k : Job). k.nodes) p.job_is ∙ sym (ap (λ (z : JobShown). z.nodes) y.2);
          waits = waits_on z.0 p.waits;
          bound = o.0;
          bound_is = o.1;
          within_bound = p.within o.0 (named o.0 (course x.ticket o.0 x.fate f (a.deadlines x o.0 i o.1)));
          within_forecast = λ e q. p.within e (named e (course x.ticket e x.fate f (a.forecasts x e i q)));
        },
      )
    where
      course : (t e : ℕ) (f : Fate) → f ≡ waiting → OnTime OnCourse m t f e → OnCourse m t e
      course t e f q o = subst (λ (g : Fate). OnTime OnCourse m t g e) q o

      waits_on : (k : Job) → jobs.is_waiting k ≡ true → (new k).fate ≡ waiting
      waits_on k e = ap (λ (s : State). fate_by s k.start k.end) (soundness.waiting_is k.state e)

-- ## From a start on

-- model and book after a list of calls are in step
in_step : (m : Model) (cs : List Call) → Valid m
    → InStep easy_lawful (unit m.settings) (cleanup m.settings) (after call m cs) (book_of m (events call m cs))
in_step m cs v = in_step_after easy_lawful (unit m.settings) (cleanup m.settings) m (beginning m) cs (in_step_first easy_lawful easy_seeded m v)

-- of an EASY scheduler the change is that of the definition
changed_is : (m : Model) → m.settings.kind ≡ Easy → changed m ≡ migrated m
changed_is m e = ap (λ (k : Kind). changed_by k m) e

-- a scheduler of either kind goes on by the rules of conservative backfilling
pub changed_kind : (m : Model) → (changed m).settings.kind ≡ Conservative
unfolding migrated
changed_kind m = by m.settings.kind refl
  where
    by : (k : Kind) → m.settings.kind ≡ k → (changed_by k m).settings.kind ≡ Conservative
    by Conservative e = e
    by Easy e = refl

-- Two lists with the change between them: the calls `cs` of the first, and what they and their answers say (`es`); the same of the second.
pub record AroundChange (s : Start) (cs : List Call) (es : List Event) (ds : List Call) (fs : List Event) : Type 0 where
  -- demand 3 of the list that ends with the change
  pub before : Guarantee Easy (start_of s).settings (book_of (start_of s) es)
  -- and of the one that starts from the new scheduler, whose jobs count as it has them: "these promises are kept there in the same way"
  pub afterwards : Guarantee Conservative (start_of (changes s cs)).settings (book_of (start_of (changes s cs)) fs)
  -- each job that waits is handed over with a promise within its bound and its forecast
  pub over : (x : Entry) → In x (book_of (start_of s) es).entries → is_waiting x ≡ true
      → (y : Entry) × In y (beginning (start_of (changes s cs))).entries × HandedOver x y
  -- and after every call from then on nobody could begin earlier
  pub no_gaps : Tight (after call (start_of (changes s cs)) ds)

-- From every start of an EASY scheduler, an opening or a reading, after every list of calls, then the change, and then every other list of calls
pub around_change : (s : Start) (cs ds : List Call) → (start_of s).settings.kind ≡ Easy
    → AroundChange s cs (events call (start_of s) cs) ds (events call (start_of (changes s cs)) ds)
around_change s cs ds e =
    let i = in_step (start_of s) cs (subst (λ (k : Kind). ValidAs k (start_of s)) e (start_valid s)) in
    let m = after call (start_of s) cs in
    let b = book_of (start_of s) (events call (start_of s) cs) in
    let q = changed_is m i.valid.ready.kind in
    let n = start_of (changes s cs) in
    record {
      before = subst (λ (k : Kind). Guarantee k (start_of s).settings b) e (demand3 s cs);
      afterwards = subst (λ (k : Kind). Guarantee k n.settings (book_of n (events call n ds))) (changed_kind m) (demand3 (changes s cs) ds);
      over = λ x u w.
          subst (λ (n : Model). (y : Entry) × In y (beginning n).entries × HandedOver x y) (sym q)
          (hands_over m b i.valid i.agrees
          (bounded (start_of s) (events call (start_of s) cs) (λ j k. ((valid_sound (start_of s) (start_valid s)).each j k).is_live)) x u w);
      no_gaps =
          subst (λ (n : Model). Tight (after call n ds)) (sym q)
          (stays_tight (migrated m) ds (migrated_valid m i.valid) (migrated_tight m i.valid));
    }

-- ## The soonest minute (document 02, No. 7)

-- who waits goes on waiting for as many nodes
waits_over : (m : Model) → Valid m → (t n : ℕ) → WaitsFor m t n → WaitsFor (migrated m) t n
waits_over m v t n w =
    let p = migrated_promised m v w.job w.inside w.waits in
    record {
      job = p.0;
      inside = p.1.inside;
      waits = p.1.waits;
      named = ap ticket_of p.1.job_is ∙ w.named;
      asks = ap (λ (j : Job). j.nodes) p.1.job_is ∙ w.asks;
    }

-- The minute holds over the change. If the job still waits when the change comes, no later call starts it before the minute that was given for it,
-- as long as its order is not amended. (Before the change: `starts_no_sooner`.)
module _ (m : Model) (v : Valid m) (t : ℕ) (a : accepts (earliest_start m t).refusal ≡ true) (cs : List Call)
    (f : fate_from (cleanup m.settings) m.clock t waiting (events call m cs) ≡ waiting) (u : NoneAmends t (events call m cs)) where
  abbrev old : Model
  old = after call m cs

  abbrev changed_now : Model
  changed_now = migrated old

  pub no_sooner_after_change : (s : ℕ) (ds : List Call) → NoneAmends t (events call changed_now ds)
      → start (fate_from (cleanup changed_now.settings) changed_now.clock t waiting (events call changed_now ds)) ≡ some s
      → (earliest_start m t).minute ≤ s
  no_sooner_after_change s ds u' e =
      let w = answered m t a in
      let n = w.0 in
      let b = earliest_for m n in
      let i = (in_step m cs v).valid in
      let h = holds_on easy_lawful easy_ticketed n b m t waiting cs v (subst (NoneAmends t) (same_events easy_lawful m cs v) u) (w.1, omega arith) in
      let g : NoSooner n b old t =
      subst (λ (g : Fate). Meets (from b) (NoSooner n b) old t g) f
      (rw (same_after easy_lawful m cs v, same_events easy_lawful m cs v) h) in
      omega (
        arith,
        w.2,
        g.1,
        same_soonest old i n,
        no_sooner_call conservative_lawful conservative_ticketed n changed_now t s ds (migrated_valid old i) (waits_over old i t n g.0) u' e,
      )

-- ## Its lines (document 02, No. 11)

-- the change keeps the longest estimate
pub changed_longest : (m : Model) → (changed m).settings.longest ≡ m.settings.longest
unfolding migrated
changed_longest m = by m.settings.kind
  where
    by : (k : Kind) → (changed_by k m).settings.longest ≡ m.settings.longest
    by Conservative = refl
    by Easy = refl

-- outside No. 6 the new model is accepted from its own lines and comes back the same
pub changed_comes_back : (m : Model) → premise.Valid m → m.settings.longest ≡ longest_estimate
    → restored (desk_text (changed m)) ≡ record { refusal = refusal.None; model = changed m }
changed_comes_back m v e = valid_comes_back (changed m) (change_valid m v) (changed_longest m ∙ e)
