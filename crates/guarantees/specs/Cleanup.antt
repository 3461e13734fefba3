-- For both kinds, document 02, No. 3: the nodes of a job in cleanup go to no other job before they are free, whatever calls come. With a cleanup of
-- 0 no job is ever in cleanup.
-- Assumes nothing.
use Rattle.std.specs.Prelude.{ℕ, ◌+◌, ◌≤◌, ◌<◌, ◌≡◌, refl, Bool, true, false, not, List, [], ◌∷◌, map, eqb}
use Rattle.std.proofs.Common.{arith, sym, ap, ◌∙◌, eq-eqb}
use Rattle.lists.specs.Tests.{true_false, on}
use Rattle.lists.specs.Lists.{keep, In, in_map, map_in, sum_keep, sum_in}
use Rattle.scheduler.specs.declared.Kind.{Kind}
use Rattle.scheduler.specs.declared.Kind.TheVariants.{Conservative, Easy}
use Rattle.scheduler.specs.declared.Settings.{Settings}
use Rattle.scheduler.specs.declared.State.{State}
use Rattle.scheduler.specs.declared.State.TheVariants.{Unused, Waiting, Running, Cleanup}
use Rattle.scheduler.specs.declared.Job.{Job}
use Rattle.scheduler.specs.States.{cleaning?}
use Rattle.scheduler.specs.Jobs.{is_cleaning, held}
use Rattle.scheduler.specs.Settings.{cleanup}
use Rattle.scheduler.specs.Times.{cleanup_is}
use Rattle.scheduler.specs.Table.{nodes_held}
use Rattle.scheduler.specs.Model.{Model}
use Rattle.jobs.specs.Soundness.{cleaning_holds}
use Rattle.jobs.specs.NoCleanup.{none_cleans}
use Rattle.history.specs.Calls.{Call, after}
use Rattle.history.specs.Book.{Fate, waiting, running, cleaning, ended, withdrawn}
use Rattle.history.specs.Beginning.{fate_by}
use Rattle.history_proof.specs.Obligations.{JobShown, shown}
use Rattle.history_proof.specs.Cleaning as history
use Rattle.history_proof.specs.Cleaning.{cleans, cleans_job}
use Rattle.conservative_laws.specs.Obligations.{conservative_lawful}
use Rattle.easy_laws.specs.Obligations.{easy_lawful}
use Rattle.guarantees.specs.Rules.{rules_of, call}
use Rattle.guarantees.specs.Premise.{ValidBy, Valid, call_valid, after_valid, valid_sound}

-- ## One call

settings_by : (k : Kind) (m : Model) (c : Call) → ValidBy k m → (rules_of k m c).model.settings ≡ m.settings
settings_by Conservative m c v = conservative_lawful.settings m c v
settings_by Easy m c v = easy_lawful.settings m c v

rises_by : (k : Kind) (m : Model) (c : Call) → ValidBy k m → m.clock ≤ (rules_of k m c).model.clock
rises_by Conservative m c v = history.clock_rises conservative_lawful m c v
rises_by Easy m c v = history.clock_rises easy_lawful m c v

stays_by : (k : Kind) (m : Model) (c : Call) → ValidBy k m → (x : JobShown) (s n : ℕ) → x.fate ≡ cleaning s n
    → (rules_of k m c).model.clock < n + cleanup m.settings → In x (map shown m.jobs) → In x (map shown (rules_of k m c).model.jobs)
stays_by Conservative m c v = history.cleaning_stays conservative_lawful m c v
stays_by Easy m c v = history.cleaning_stays easy_lawful m c v

-- ## Every list of calls

pub settings_stay : (m : Model) (cs : List Call) → Valid m → (after call m cs).settings ≡ m.settings
settings_stay m [] v = refl
settings_stay m (c ∷ cs) v = settings_stay (call m c).model cs (call_valid m c v) ∙ settings_by m.settings.kind m c v

clock_rises : (m : Model) (cs : List Call) → Valid m → m.clock ≤ (after call m cs).clock
clock_rises m [] v = omega arith
clock_rises m (c ∷ cs) v = omega (arith, rises_by m.settings.kind m c v, clock_rises (call m c).model cs (call_valid m c v))

cleaning_stays : (m : Model) (cs : List Call) → Valid m → (x : JobShown) (s n : ℕ) → x.fate ≡ cleaning s n
    → (after call m cs).clock < n + cleanup m.settings → In x (map shown m.jobs) → In x (map shown (after call m cs).jobs)
cleaning_stays m [] v x s n f l i = i
cleaning_stays m (c ∷ cs) v x s n f l i =
    let m' = (call m c).model in
    let w = call_valid m c v in
    let S : cleanup m'.settings ≡ cleanup m.settings = ap cleanup (settings_by m.settings.kind m c v) in
    cleaning_stays m' cs w x s n f (omega arith)
    (stays_by m.settings.kind m c v x s n f (omega (arith, clock_rises m' cs w)) i)

-- ## For the reader

-- it is there with its nodes and its end, and the others hold no more than the rest of the machine's
pub record Taken (j : Job) (m : Model) : Type 0 where
  pub job : Job
  pub inside : In job m.jobs
  pub ticket_is : job.ticket ≡ j.ticket
  pub nodes_are : job.nodes ≡ j.nodes
  pub cleaning : is_cleaning job ≡ true
  pub end_is : job.end ≡ j.end
  pub others : nodes_held (keep (λ (x : Job). not (eqb x.ticket j.ticket)) m.jobs) + j.nodes ≤ m.settings.nodes

abbrev end_in : Fate → ℕ
end_in waiting = 0
end_in (running s) = 0
end_in (cleaning s e) = e
end_in (ended s) = 0
end_in (withdrawn w) = 0

fate_cleaning : (s : State) (b n : ℕ) → cleaning? s ≡ true → fate_by s b n ≡ cleaning b n
fate_cleaning Unused b n q = true_false false q refl
fate_cleaning Waiting b n q = true_false false q refl
fate_cleaning Running b n q = true_false false q refl
fate_cleaning Cleanup b n q = refl

pub cleaning_keeps_nodes : (m : Model) (j : Job) (cs : List Call) → Valid m → In j m.jobs → is_cleaning j ≡ true
    → (after call m cs).clock < j.end + m.settings.cleanup → Taken j (after call m cs)
cleaning_keeps_nodes m j cs v i c l =
    let f = fate_cleaning j.state j.start j.end c in
    let k = cleanup_is m.settings (valid_sound m v).cleanup_to in
    let x = map_in shown (after call m cs).jobs (cleaning_stays m cs v (shown j) j.start j.end f (omega arith) (in_map shown i)) in
    of x.0 x.1 x.2 f
  where
    of : (x : Job) → In x (after call m cs).jobs → shown j ≡ shown x → fate_by j.state j.start j.end ≡ cleaning j.start j.end
        → Taken j (after call m cs)
    of x i e f =
        let fate : fate_by x.state x.start x.end ≡ cleaning j.start j.end = sym (ap (λ (y : JobShown). y.fate) e) ∙ f in
        let c : is_cleaning x ≡ true = sym (cleans_job x.state x.start x.end) ∙ ap cleans fate in
        let t : x.ticket ≡ j.ticket = sym (ap (λ (y : JobShown). y.ticket) e) in
        let n : x.nodes ≡ j.nodes = sym (ap (λ (y : JobShown). y.nodes) e) in
        record {
          job = x;
          inside = i;
          ticket_is = t;
          nodes_are = n;
          cleaning = c;
          end_is = ap end_in (sym (fate_cleaning x.state x.start x.end c) ∙ fate);
          others = counted x i t n c;
        }
      where
        own : Job → Bool
        own y = eqb y.ticket j.ticket

        counted : (x : Job) → In x (after call m cs).jobs → x.ticket ≡ j.ticket → x.nodes ≡ j.nodes → is_cleaning x ≡ true
            → nodes_held (keep (λ (x : Job). not (own x)) (after call m cs).jobs) + j.nodes ≤ (after call m cs).settings.nodes
        counted x i t n c =
            let mine : on (own x) (held x) ≡ j.nodes = rw (eq-eqb x.ticket j.ticket t, cleaning_holds x.state c) n in
            omega (
              arith,
              sum_keep held own (after call m cs).jobs,
              sum_in (λ (y : Job). on (own y) (held y)) i,
              mine,
              (valid_sound (after call m cs) (after_valid m cs v)).capacity,
            )

-- with a cleanup of 0, after every list of calls
pub none_in_cleanup : (m : Model) (cs : List Call) (j : Job) → Valid m → m.settings.cleanup ≡ 0 → In j (after call m cs).jobs → is_cleaning j ≡ false
none_in_cleanup m cs j v z i =
    let a = after call m cs in
    none_cleans a.settings (ap (λ (S : Settings). S.cleanup) (settings_stay m cs v) ∙ z) a.clock j ((valid_sound a (after_valid m cs v)).each j i)
