-- Document 02, No. 11: a desk that is written out "is accepted from its own lines and comes back the same"; so no two desks have the same lines.
-- Assumes nothing.
use Rattle.std.specs.Prelude.{ℕ, suc, ◌+◌, ◌≤◌, ◌<◌, ◌≡◌, Bool, true, false, cond, ◌&&◌, eqb, ltb, length, get_or, Some, None}
use Rattle.std.proofs.Common.{arith, sym, ap₂, subst, ◌∙◌, ne_eqb, ltb-true}
use Rattle.std.proofs.Math.Path.{refl, ap}
use mathlib.Core.List.{List, [], ◌∷◌, ◌++◌, map, flat_map, append-nil, append_assoc}
use Rattle.std.proofs.Math.Option.{Option, none, some}
use Rattle.lists.specs.Tests.{true_false, both}
use Rattle.lists.specs.Every.{every, every_in}
use Rattle.lists.specs.Lists.{All, In, here, there, all_in, all_of, all_append}
use Rattle.std.specs.declared.option.Option as rust
use Rattle.text.specs.Fields.{in_first, fields_of, field_of}
use Rattle.text.specs.Numbers.{number_of, decimal_of}
use Rattle.text.specs.NumberLaws.{decimal_digits, number_decimal}
use Rattle.text.specs.Letters.{capital_of}
use Rattle.text.specs.Words.{is_word}
use Rattle.scheduler.specs.declared.Kind.{Kind}
use Rattle.scheduler.specs.declared.Kind.TheVariants.{Conservative, Easy}
use Rattle.scheduler.specs.declared.State.{State}
use Rattle.scheduler.specs.declared.State.TheVariants.{Unused, Waiting, Running, Cleanup}
use Rattle.scheduler.specs.declared.Job.{Job}
use Rattle.scheduler.specs.declared.Settings.{Settings}
use Rattle.scheduler.specs.declared.Opening.{Opening}
use Rattle.scheduler.specs.declared.Tenant.{Tenant}
use Rattle.scheduler.specs.declared.Tenant.TheVariants.{Nobody, A, B}
use Rattle.scheduler.specs.declared.Refusal.TheVariants as refusal
use Rattle.scheduler.specs.Limits.{longest_estimate}
use Rattle.scheduler.specs.Times.{longest_le}
use Rattle.scheduler.specs.States.{live?}
use Rattle.scheduler.specs.Tenants.{known, letter_of, tenant_of}
use Rattle.scheduler.specs.Jobs.{is_live_of}
use Rattle.scheduler.specs.Model.{Model, Live}
use Rattle.desk_lines.specs.Lines.{Line, in_line, lines_of}
use Rattle.desk_lines.specs.DeskLine.{desk_word, and_field, number_at, letter_at, has_form, with_number, kind_of, with_kind, opening_in, opening_of}
use Rattle.checkpoint_rules.specs.Acceptance.{ascending, accepted}
use Rattle.checkpoint_laws.specs.Soundly.{Lined}
use Rattle.checkpoint_laws.specs.Accepted.{Parts, parts_of, lacks_three}
use Rattle.checkpoint_laws.specs.AcceptedEasy.{ranks_of}
use Rattle.checkpoint_rules.specs.Texts.{bytes_of, line_text, kind_word, state_word, desk_fields, job_fields, desk_line, job_line, desk_text, state_of, with_state, job_in}
use Rattle.checkpoint_rules.specs.Texts.{job_of, jobs_of, model_with, model_of, Restored, restored_from, restored}

-- ## Plain bytes: neither a tab nor a line's end

abbrev pub Plain : ℕ → Type 0
Plain b = 11 ≤ b

number_plain : (v : ℕ) → All Plain (decimal_of v)
number_plain v = all_of Plain (decimal_of v) (λ b i. omega (arith, all_in (λ (b : ℕ). (48 ≤ b) × (b ≤ 57)) (decimal_digits v) i))

-- ## Fields and lines of what is written

unfold_fields : (f rest : List ℕ) → All Plain f → fields_of (f ++ (9 ∷ rest)) ≡ f ∷ fields_of rest
unfolding fields_of
unfold_fields [] rest p = refl
unfold_fields (b ∷ bs) rest p = rw (ne_eqb b 9 (λ z. omega (arith, p.0))) (ap (in_first b) (unfold_fields bs rest p.1))

last_field : (f : List ℕ) → All Plain f → fields_of f ≡ f ∷ []
unfolding fields_of
last_field [] p = refl
last_field (b ∷ bs) p = rw (ne_eqb b 9 (λ z. omega (arith, p.0))) (ap (in_first b) (last_field bs p.1))

pub fields_back : (f : List ℕ) (fs : List (List ℕ)) → All Plain f → All (All Plain) fs → fields_of (bytes_of f fs) ≡ f ∷ fs
unfolding flat_map
fields_back f [] p q = ap fields_of (append-nil f) ∙ last_field f p
fields_back f (g ∷ gs) p q = unfold_fields f (bytes_of g gs) p ∙ ap (λ (l : List (List ℕ)). f ∷ l) (fields_back g gs q.0 q.1)

-- no line's end in it
abbrev Within : ℕ → Type 0
Within b = b ≡ 10 → ⊥

plain_within : (s : List ℕ) → All Plain s → All Within s
plain_within s p = all_of Within s (λ b i z. omega (arith, all_in Plain p i))

bytes_within : (f : List ℕ) (fs : List (List ℕ)) → All Plain f → All (All Plain) fs → All Within (bytes_of f fs)
unfolding flat_map
bytes_within f fs p q = all_append Within f (flat_map and_field fs) (plain_within f p) (rest fs q)
  where
    rest : (gs : List (List ℕ)) → All (All Plain) gs → All Within (flat_map and_field gs)
    rest [] q = tt
    rest (g ∷ gs) q = (λ z. absurd (omega (arith, z)), all_append Within g (flat_map and_field gs) (plain_within g q.0) (rest gs q.1))

line_back : (s rest : List ℕ) → All Within s → lines_of (s ++ (10 ∷ rest)) ≡ record { bytes = s; closed = true } ∷ lines_of rest
unfolding lines_of
line_back [] rest w = refl
line_back (b ∷ bs) rest w = rw (ne_eqb b 10 w.0) (ap (in_line b) (line_back bs rest w.1))

abbrev closed_line : List ℕ → List (List ℕ) → Line
closed_line f fs = record { bytes = bytes_of f fs; closed = true }

pub lines_back : (f : List ℕ) (fs : List (List ℕ)) (rest : List ℕ) → All Plain f → All (All Plain) fs
    → lines_of (line_text f fs ++ rest) ≡ closed_line f fs ∷ lines_of rest
lines_back f fs rest p q = ap lines_of (append_assoc (bytes_of f fs) (10 ∷ []) rest) ∙ line_back (bytes_of f fs) rest (bytes_within f fs p q)

-- ## A record

-- numbers of at most seven digits, a state and a house that have letters
pub record Writable (j : Job) : Type 0 where
  pub ticket : j.ticket ≤ 9999999
  pub nodes : j.nodes ≤ 9999999
  pub estimate : j.estimate ≤ 9999999
  pub state : is_live_of j ≡ true
  pub start : j.start ≤ 9999999
  pub promise : j.promise ≤ 9999999
  pub end : j.end ≤ 9999999
  pub tenant : known j.tenant ≡ true
  pub least : j.least ≤ 9999999
  pub submitted : j.submitted ≤ 9999999
  pub rank : j.rank ≤ 9999999
  pub forecast : j.forecast ≤ 9999999

state_plain : (s : State) → All Plain (state_word s)
state_plain Unused = tt
state_plain Waiting = (omega arith, tt)
state_plain Running = (omega arith, tt)
state_plain Cleanup = (omega arith, tt)

state_back : (s : State) → live? s ≡ true → state_of (state_word s) ≡ some s
unfolding state_of is_word
state_back Unused l = true_false false l refl
state_back Waiting l = refl
state_back Running l = refl
state_back Cleanup l = refl

letter_plain : (t : Tenant) → known t ≡ true → 11 ≤ letter_of t
letter_plain Nobody k = true_false false k refl
letter_plain A k = omega arith
letter_plain B k = omega arith

letter_back : (t : Tenant) → known t ≡ true → (capital_of (letter_of t ∷ []) ≡ Some (letter_of t)) × (tenant_of (letter_of t) ≡ t)
unfolding capital_of
letter_back Nobody k = true_false false k refl
letter_back A k = (refl, refl)
letter_back B k = (refl, refl)

job_plain : (j : Job) → Writable j → All (All Plain) (job_fields j)
job_plain j w =
    let n : (v : ℕ) → All Plain (decimal_of v) = number_plain in (
      n j.nodes,
      (
        n j.estimate,
        (
          state_plain j.state,
          (
            n j.start,
            (
              n j.promise,
              (
                n j.end,
                ((letter_plain j.tenant w.tenant, tt), (n j.least, (n j.submitted, (n j.rank, (n j.forecast, tt))))),
              ),
            ),
          ),
        ),
      ),
    )

-- a line's record, by its fields
abbrev job_from : List (List ℕ) → Option Job
job_from fs =
    cond
    (eqb (length fs) 12)
    (with_number (number_of (get_or fs 0 [])) (λ ticket. with_number (number_of (get_or fs 1 [])) (λ nodes. with_number (number_of (get_or fs 2 [])) (λ estimate.
    with_state (state_of (get_or fs 3 [])) (λ state. with_number (number_of (get_or fs 4 [])) (λ start. with_number (number_of (get_or fs 5 [])) (λ promise.
    with_number (number_of (get_or fs 6 [])) (λ end. with_number (capital_of (get_or fs 7 [])) (λ house. with_number (number_of (get_or fs 8 [])) (λ least.
    with_number (number_of (get_or fs 9 [])) (λ submitted. with_number (number_of (get_or fs 10 [])) (λ rank. with_number (number_of (get_or fs 11 [])) (λ forecast.
    some (record {
      ticket = ticket;
      nodes = nodes;
      estimate = estimate;
      state = state;
      tenant = tenant_of house;
      least = least;
      rank = rank;
      start = start;
      promise = promise;
      end = end;
      submitted = submitted;
      forecast = forecast;
    }))))))))))))))
    none

job_from_lem : (s : List ℕ) → job_in s ≡ job_from (fields_of s)
unfolding job_in
job_from_lem s = refl

from_back : (j : Job) → Writable j → job_from (decimal_of j.ticket ∷ job_fields j) ≡ some j
from_back j w =
    let l = letter_back j.tenant w.tenant in
    rw (
      number_decimal j.ticket w.ticket,
      number_decimal j.nodes w.nodes,
      number_decimal j.estimate w.estimate,
      state_back j.state w.state,
      number_decimal j.start w.start,
      number_decimal j.promise w.promise,
      number_decimal j.end w.end,
      l.0,
      number_decimal j.least w.least,
      number_decimal j.submitted w.submitted,
      number_decimal j.rank w.rank,
      number_decimal j.forecast w.forecast,
      l.1,
    )

pub job_back : (j : Job) → Writable j → job_in (bytes_of (decimal_of j.ticket) (job_fields j)) ≡ some j
job_back j w =
    job_from_lem (bytes_of (decimal_of j.ticket) (job_fields j))
    ∙ ap job_from (fields_back (decimal_of j.ticket) (job_fields j) (number_plain j.ticket) (job_plain j w)) ∙ from_back j w

abbrev job_line_of : Job → Line
job_line_of j = closed_line (decimal_of j.ticket) (job_fields j)

job_lines : (js : List Job) → All Writable js → lines_of (flat_map job_line js) ≡ map job_line_of js
unfolding lines_of job_line flat_map
job_lines [] w = refl
job_lines (j ∷ js) w =
    lines_back (decimal_of j.ticket) (job_fields j) (flat_map job_line js) (number_plain j.ticket) (job_plain j w.0)
    ∙ ap (λ (ls : List Line). job_line_of j ∷ ls) (job_lines js w.1)

jobs_back : (js : List Job) → All Writable js → jobs_of (map job_line_of js) ≡ some js
unfolding jobs_of
jobs_back [] w = refl
jobs_back (j ∷ js) w = rw (job_back j w.0, jobs_back js w.1)

-- ## The `desk` line

pub record DeskWritable (m : Model) : Type 0 where
  pub nodes : m.settings.nodes ≤ 9999999
  pub clock : m.clock ≤ 9999999
  pub next : m.next ≤ 9999999
  pub cleanup : m.settings.cleanup ≤ 9999999
  pub quota_a : m.settings.quota_a ≤ 9999999
  pub quota_b : m.settings.quota_b ≤ 9999999
  pub longest : m.settings.longest ≡ longest_estimate

kind_plain : (k : Kind) → All Plain (kind_word k)
kind_plain Conservative = (omega arith, (omega arith, (omega arith, (omega arith, (omega arith, (omega arith, (omega arith, tt)))))))
kind_plain Easy = (omega arith, (omega arith, (omega arith, (omega arith, (omega arith, tt)))))

kind_back : (k : Kind) → kind_of (kind_word k) ≡ some k
unfolding kind_of is_word
kind_back Conservative = refl
kind_back Easy = refl

desk_plain : All Plain desk_word
desk_plain = (omega arith, (omega arith, (omega arith, (omega arith, tt))))

fields_plain : (m : Model) → All (All Plain) (desk_fields m)
fields_plain m =
    let n : (v : ℕ) → All Plain (decimal_of v) = number_plain in
    let S = m.settings in
    (kind_plain S.kind, (n S.nodes, (n m.clock, (n m.next, (n S.cleanup, (n S.quota_a, (n S.quota_b, tt)))))))

abbrev opening_from : List (List ℕ) → Option Opening
opening_from fs =
    cond
    (eqb (length fs) 8 && is_word desk_word (get_or fs 0 []))
    (with_kind (kind_of (get_or fs 1 [])) (λ k. with_number (number_of (get_or fs 2 [])) (λ n. with_number (number_of (get_or fs 3 [])) (λ m.
    with_number (number_of (get_or fs 4 [])) (λ t. with_number (number_of (get_or fs 5 [])) (λ c. with_number (number_of (get_or fs 6 [])) (λ a.
    with_number (number_of (get_or fs 7 [])) (λ b.
    some (record {
      settings = record { kind = k; nodes = n; cleanup = c; quota_a = a; quota_b = b; longest = longest_estimate };
      minute = m;
      ticket = t;
    })))))))))
    none

opening_from_lem : (s : List ℕ) → opening_in s ≡ opening_from (fields_of s)
unfolding opening_in has_form
opening_from_lem s = refl

abbrev opening_as : Model → Opening
opening_as m = record { settings = m.settings; minute = m.clock; ticket = m.next }

opening_back : (m : Model) → DeskWritable m → opening_from (desk_word ∷ desk_fields m) ≡ some (opening_as m)
unfolding is_word
opening_back m w =
    rw (
      kind_back m.settings.kind,
      number_decimal m.settings.nodes w.nodes,
      number_decimal m.clock w.clock,
      number_decimal m.next w.next,
      number_decimal m.settings.cleanup w.cleanup,
      number_decimal m.settings.quota_a w.quota_a,
      number_decimal m.settings.quota_b w.quota_b,
    )
    (λ i. some (record {
      settings = record {
        kind = m.settings.kind;
        nodes = m.settings.nodes;
        cleanup = m.settings.cleanup;
        quota_a = m.settings.quota_a;
        quota_b = m.settings.quota_b;
        longest = sym w.longest i;
      };
      minute = m.clock;
      ticket = m.next;
    }))

desk_back : (m : Model) → DeskWritable m → opening_in (bytes_of desk_word (desk_fields m)) ≡ some (opening_as m)
desk_back m w =
    opening_from_lem (bytes_of desk_word (desk_fields m)) ∙ ap opening_from (fields_back desk_word (desk_fields m) desk_plain (fields_plain m)) ∙ opening_back m w

-- ## The whole

text_lines : (m : Model) → All Writable m.jobs → lines_of (desk_text m) ≡ closed_line desk_word (desk_fields m) ∷ map job_line_of m.jobs
unfolding desk_text desk_line
text_lines m w =
    lines_back desk_word (desk_fields m) (flat_map job_line m.jobs) desk_plain (fields_plain m)
    ∙ ap (λ (ls : List Line). closed_line desk_word (desk_fields m) ∷ ls) (job_lines m.jobs w)

pub model_back : (m : Model) → DeskWritable m → All Writable m.jobs → model_of (lines_of (desk_text m)) ≡ some m
model_back m d w = ap model_of (text_lines m w) ∙ rw (desk_back m d, jobs_back m.jobs w)

-- what is accepted has numbers of at most seven digits
rank_low : (m : Model) → Parts m → (j : Job) → In j m.jobs → j.rank ≤ 9999999
rank_low m p j i = by m.settings.kind refl
  where
    by : (k : Kind) → m.settings.kind ≡ k → j.rank ≤ 9999999
    by Conservative e = omega (arith, lacks_three m e j (p.records j i).lacks)
    by Easy e = omega (arith, ranks_of m e p.by j i)

accepted_desk : (m : Model) → Lined m → accepted m ≡ true → DeskWritable m
accepted_desk m l e =
    let r = (parts_of m e).desk in
    record {
      nodes = omega (arith, r.nodes_to);
      clock = omega (arith, r.clock_to);
      next = omega (arith, r.next_to);
      cleanup = omega (arith, r.cleanup_to);
      quota_a = omega (arith, r.quotas);
      quota_b = omega (arith, r.quotas);
      longest = l.longest;
    }

accepted_jobs : (m : Model) → Lined m → accepted m ≡ true → All Writable m.jobs
accepted_jobs m l e =
    let p = parts_of m e in
    let t = both (ascending 1 m.jobs) (every (λ (j : Job). ltb j.ticket m.next) m.jobs) p.tickets in
    all_of Writable m.jobs (λ j i.
    let f = p.records j i in
    let r = f.range in
    record {
      ticket = omega (arith, ltb-true j.ticket m.next (every_in (λ (j : Job). ltb j.ticket m.next) t.1 i), p.desk.next_to);
      nodes = omega (arith, r.nodes_to, p.desk.nodes_to);
      estimate = omega (arith, r.estimate_to, longest_le m.settings);
      state = all_in Live l.live i;
      start = omega (arith, r.start_to);
      promise = omega (arith, r.promise_to);
      end = omega (arith, r.end_to);
      tenant = r.tenant_is;
      least = omega (arith, f.least_to, r.estimate_to, longest_le m.settings);
      submitted = omega (arith, r.submitted_to);
      rank = rank_low m p j i;
      forecast = omega (arith, r.forecast_to);
    })

-- "is accepted from its own lines and comes back the same"
pub comes_back : (m : Model) → Lined m → accepted m ≡ true → restored (desk_text m) ≡ record { refusal = refusal.None; model = m }
unfolding restored
comes_back m l e = ap restored_from (model_back m (accepted_desk m l e) (accepted_jobs m l e)) ∙ rw e

-- no two have the same lines
pub texts_differ : (m n : Model) → Lined m → accepted m ≡ true → Lined n → accepted n ≡ true → desk_text m ≡ desk_text n → m ≡ n
texts_differ m n l a k b e = ap (λ (r : Restored). r.model) (sym (comes_back m l a) ∙ ap restored e ∙ comes_back n k b)
