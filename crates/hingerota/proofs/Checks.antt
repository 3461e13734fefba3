-- Which desks are accepted: those that openings, calls and readings hand to a host (`check_number`).
-- Assumes nothing.
use Rattle.std.specs.Prelude.{◌≡◌, refl, Bool, true, false, ◌&&◌, List, [], ◌∷◌, ◌++◌, map, ℕ, zero, suc, ◌-◌, ◌≤◌, leb, eqb, length, replicate}
use Rattle.std.proofs.Common.{sym, ap, subst, ◌∙◌, arith, length-append, leb-true, eqb-true, eq-eqb}
use Rattle.std.proofs.lemmas.List.{length-map, length-replicate}
use Rattle.std.proofs.lemmas.Bool.{eqb-false}
use Rattle.lists.specs.Tests.{case, true_false, both}
use Rattle.lists.specs.Lists.{All}
use Rattle.lists.specs.Every.{every, and_both}
use Rattle.lists.specs.Pads.{pad, length_pad}
use Rattle.scheduler.specs.declared.Kind.{Kind}
use Rattle.scheduler.specs.declared.Kind.TheVariants.{Conservative, Easy}
use Rattle.scheduler.specs.declared.State.{State}
use Rattle.scheduler.specs.declared.State.TheVariants.{Unused, Waiting, Running, Cleanup}
use Rattle.scheduler.specs.declared.Tenant.{Tenant}
use Rattle.scheduler.specs.declared.Tenant.TheVariants.{Nobody, A, B}
use Rattle.scheduler.specs.declared.Job.{Job}
use Rattle.scheduler.specs.Limits.{slots, longest_estimate}
use Rattle.scheduler.specs.States.{live?}
use Rattle.scheduler.specs.Tenants.{tenant_of, letter_of}
use Rattle.scheduler.specs.Jobs.{unused}
use Rattle.scheduler.specs.Model.{Model, Live, store, view, view_store}
use Rattle.jobs.specs.Soundness.{all_live}
use Rattle.jobs.specs.Premise.{store_holds}
use Rattle.checkpoint_rules.specs.Acceptance.{accepted}
use Rattle.checkpoint_laws.specs.Soundly.{Lined}
use Rattle.checkpoint_laws.specs.Restored.{accepted_valid, valid_accepted}
use Rattle.guarantees.specs.Premise.{Valid, valid_sound}
use Rattle.hingerota.specs.declared.Desk.{Desk}
use Rattle.hingerota.specs.declared.Record.{Record}
use Rattle.hingerota.specs.Mirror.{kind_number, kind_of, state_number, state_of, mirror_job, no_record, mirror, read_record, read}
use Rattle.hingerota.proofs.ReadBack.{read_mirror}
use Rattle.hingerota.specs.DeskPremise.{Handed}
use Rattle.hingerota.proofs.DeskPremise.{mirror_handed}
use Rattle.hingerota.specs.Checks.{is_zero, numbers_of, all_zero, is_job, follows, in_order, is_desk, check_number}

-- ## The numbers of a desk are those of a model, stored

kind_number_lem : (n : ℕ) → n ≤ 1 → kind_number (kind_of n) ≡ n
kind_number_lem n l = case (eqb n 1) (λ e. rw e (omega (arith, eqb-true n 1 e))) (λ e. rw e (omega (arith, eqb-false n 1 e)))

state_number_lem : (n : ℕ) → n ≤ 3 → state_number (state_of n) ≡ n
state_number_lem n l =
    case (eqb n 1) (λ e. rw e (omega (arith, eqb-true n 1 e))) (λ e.
    case (eqb n 2) (λ f. rw (e, f) (omega (arith, eqb-true n 2 f))) (λ f.
    case (eqb n 3) (λ g. rw (e, f, g) (omega (arith, eqb-true n 3 g))) (λ g.
    rw (e, f, g) (omega (arith, eqb-false n 1 e, eqb-false n 2 f, eqb-false n 3 g)))))

state_live : (n : ℕ) → n ≤ 3 → eqb n 0 ≡ false → live? (state_of n) ≡ true
state_live n l z =
    case (eqb n 1) (λ e. rw e) (λ e.
    case (eqb n 2) (λ f. rw (e, f)) (λ f.
    case (eqb n 3) (λ g. rw (e, f, g)) (λ g.
    absurd (omega (arith, eqb-false n 0 z, eqb-false n 1 e, eqb-false n 2 f, eqb-false n 3 g)))))

job_facts : (r : Record) → is_job r ≡ true → (r.state ≤ 3) × (letter_of (tenant_of r.tenant) ≡ r.tenant)
unfolding is_job
job_facts r e =
    let b = both (leb r.state 3) (eqb (letter_of (tenant_of r.tenant)) r.tenant) e in
    (leb-true r.state 3 b.0, eqb-true (letter_of (tenant_of r.tenant)) r.tenant b.1)

job_record : (r : Record) → is_job r ≡ true → r ≡ mirror_job (read_record r)
job_record r e = let f = job_facts r e in
    λ i. record {
      ticket = r.ticket;
      nodes = r.nodes;
      estimate = r.estimate;
      state = sym (state_number_lem r.state f.0) i;
      tenant = sym f.1 i;
      least = r.least;
      start = r.start;
      promise = r.promise;
      end = r.end;
      submitted = r.submitted;
      rank = r.rank;
      forecast = r.forecast;
    }

zeros : (ns : List ℕ) → every is_zero ns ≡ true → All (λ (n : ℕ). n ≡ 0) ns
zeros [] e = tt
zeros (n ∷ ns) e = let b = both (is_zero n) (every is_zero ns) e in (eqb-true n 0 b.0, zeros ns b.1)

zero_record : (r : Record) → all_zero r ≡ true → r ≡ no_record
unfolding all_zero
zero_record r e =
    let z = zeros (numbers_of r) e in
    λ i. record {
      ticket = z.0 i;
      nodes = z.1.0 i;
      estimate = z.1.1.0 i;
      state = z.1.1.1.0 i;
      tenant = z.1.1.1.1.0 i;
      least = z.1.1.1.1.1.0 i;
      start = z.1.1.1.1.1.1.0 i;
      promise = z.1.1.1.1.1.1.1.0 i;
      end = z.1.1.1.1.1.1.1.1.0 i;
      submitted = z.1.1.1.1.1.1.1.1.1.0 i;
      rank = z.1.1.1.1.1.1.1.1.1.1.0 i;
      forecast = z.1.1.1.1.1.1.1.1.1.1.1.0 i;
    }

-- live jobs, and then this many unused slots
abbrev Slots : List Record → Type 0
Slots rs = (js : List Job) × (k : ℕ) × All Live js × (rs ≡ map mirror_job (js ++ replicate k unused))

no_live : (rs : List Record) → in_order false rs ≡ true → rs ≡ map mirror_job (replicate (length rs) unused)
unfolding in_order follows
no_live [] e = refl
no_live (r ∷ rs) e =
    case (eqb r.state 0)
    (λ z.
    let b = both (all_zero r) (in_order false rs) (rw z at e) in
    λ i. zero_record r b.0 i ∷ no_live rs b.1 i)
    (λ z. true_false false (rw z at e) refl)

slots_of : (rs : List Record) → in_order true rs ≡ true → Slots rs
unfolding in_order follows
slots_of [] e = ([], 0, tt, refl)
slots_of (r ∷ rs) e =
    case (eqb r.state 0)
    (λ z.
    let b = both (all_zero r) (in_order false rs) (rw z at e) in
    ([], suc (length rs), tt, (λ i. zero_record r b.0 i ∷ no_live rs b.1 i)))
    (λ z.
    let b = both (is_job r) (in_order true rs) (rw z at e) in
    let s = slots_of rs b.1 in
    (read_record r ∷ s.0, s.1, (state_live r.state (job_facts r b.0).0 z, s.2), (λ i. job_record r b.0 i ∷ s.3 i)))

abbrev model_of : Desk → List Job → Model
model_of d js = record {
  settings = record {
    kind = kind_of d.kind;
    nodes = d.nodes;
    cleanup = d.cleanup;
    quota_a = d.quota_a;
    quota_b = d.quota_b;
    longest = longest_estimate;
  };
  clock = d.clock;
  next = d.next;
  jobs = js;
}

desk_model : (d : Desk) → is_desk d ≡ true → (m : Model) × Lined m × (d ≡ mirror (store m))
unfolding is_desk mirror store pad
desk_model d e =
    let b = both (leb d.kind 1 && eqb (length d.jobs) slots) (in_order true d.jobs) e in
    let c = both (leb d.kind 1) (eqb (length d.jobs) slots) b.0 in
    let (js, k, live, q) = slots_of d.jobs b.1 in
    let ks = js ++ replicate k unused in
    let n : k ≡ slots - length js = omega (
      arith,
      ap length q,
      length-map ks mirror_job,
      length-append js (replicate k unused),
      length-replicate k unused,
      eqb-true (length d.jobs) slots c.1,
    ) in (
      model_of d js,
      record { live = live; longest = refl },
      (λ i. record {
        kind = sym (kind_number_lem d.kind (leb-true d.kind 1 c.0)) i;
        nodes = d.nodes;
        cleanup = d.cleanup;
        quota_a = d.quota_a;
        quota_b = d.quota_b;
        clock = d.clock;
        next = d.next;
        jobs = (q ∙ ap (λ (x : ℕ). map mirror_job (js ++ replicate x unused)) n) i;
      }),
    )

model_read : (d : Desk) (m : Model) → Lined m → d ≡ mirror (store m) → view (read d) ≡ m
unfolding store
model_read d m l e = ap (λ (x : Desk). view (read x)) e ∙ ap view (read_mirror (store m) l.longest) ∙ view_store m l.live

-- a desk that the check accepts may be passed to every call
pub checked_handed : (d : Desk) → check_number d ≡ 0 → Handed d
unfolding check_number store
checked_handed d e =
    case (is_desk d && accepted (view (read d)))
    (λ t.
    let b = both (is_desk d) (accepted (view (read d))) t in
    let (m, l, q) = desk_model d b.0 in
    let v = accepted_valid m l (subst (λ (x : Model). accepted x ≡ true) (model_read d m l q) b.1) in
    subst Handed (sym q) (mirror_handed (store m) l.longest (store_holds Valid m l.live v)))
    (λ f. absurd (let z : ◌≡◌ {A = ℕ} 23 0 = rw f at e in omega (arith, z)))

-- ## And back: what openings, calls and readings hand to a host is accepted

live_number : (s : State) → live? s ≡ true → eqb (state_number s) 0 ≡ false
live_number Unused l = true_false false l refl
live_number Waiting l = refl
live_number Running l = refl
live_number Cleanup l = refl

state_low : (s : State) → leb (state_number s) 3 ≡ true
state_low Unused = refl
state_low Waiting = refl
state_low Running = refl
state_low Cleanup = refl

letter_back : (t : Tenant) → eqb (letter_of (tenant_of (letter_of t))) (letter_of t) ≡ true
letter_back Nobody = refl
letter_back A = refl
letter_back B = refl

kind_low : (k : Kind) → leb (kind_number k) 1 ≡ true
kind_low Conservative = refl
kind_low Easy = refl

unused_order : (live : Bool) (k : ℕ) → in_order live (map mirror_job (replicate k unused)) ≡ true
unfolding in_order follows all_zero
unused_order live zero = refl
unused_order live (suc k) = unused_order false k

jobs_order : (js : List Job) (k : ℕ) → All Live js → in_order true (map mirror_job (js ++ replicate k unused)) ≡ true
unfolding in_order follows is_job
jobs_order [] k a = unused_order true k
jobs_order (j ∷ js) k a = rw (live_number j.state a.0, state_low j.state, letter_back j.tenant) (jobs_order js k a.1)

stored_desk : (m : Model) → All Live m.jobs → length m.jobs ≤ slots → is_desk (mirror (store m)) ≡ true
unfolding is_desk mirror store pad
stored_desk m a l =
    let js = m.jobs in
    and_both
    (and_both (kind_low m.settings.kind) (eq-eqb (length (map mirror_job (pad slots unused js))) slots
    (length-map (pad slots unused js) mirror_job ∙ length_pad slots unused js l)))
    (jobs_order js (slots - length js) a)

pub handed_checked : (d : Desk) → Handed d → check_number d ≡ 0
unfolding check_number
handed_checked d h =
    let m = view (read d) in
    let v = h.premise.holds in
    let s = valid_sound m v in
    let q : d ≡ mirror (store m) = h.mirrored ∙ ap mirror h.premise.stored in
    rw (subst (λ (x : Desk). is_desk x ≡ true) (sym q) (stored_desk m (all_live m s) s.few), valid_accepted m v)
