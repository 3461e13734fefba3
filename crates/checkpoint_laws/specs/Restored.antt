-- Calls may be made on the model of any text that is read. A refused reading hands back an empty one.
-- Assumes nothing.
use Rattle.std.specs.Prelude.{ℕ, ◌≤◌, ◌≡◌, refl, Bool, true, false, cond, not, ◌&&◌, List, [], ◌∷◌, eqb, length, Some, None}
use Rattle.std.proofs.Common.{arith, subst}
use Rattle.std.proofs.Math.Option.{Option, none, some}
use Rattle.lists.specs.Tests.{case}
use Rattle.lists.specs.Lists.{All}
use Rattle.std.specs.declared.option.Option as rust
use Rattle.text.specs.Fields.{fields_of, field_of}
use Rattle.text.specs.Words.{is_word}
use Rattle.scheduler.specs.declared.Kind.{Kind}
use Rattle.scheduler.specs.declared.Kind.TheVariants.{Conservative, Easy}
use Rattle.scheduler.specs.declared.State.{State}
use Rattle.scheduler.specs.declared.State.TheVariants.{Waiting, Running, Cleanup}
use Rattle.scheduler.specs.declared.Job.{Job}
use Rattle.scheduler.specs.declared.Opening.{Opening}
use Rattle.scheduler.specs.declared.Refusal.{Refusal}
use Rattle.scheduler.specs.declared.Refusal.TheVariants as refusal
use Rattle.scheduler.specs.Limits.{longest_estimate}
use Rattle.scheduler.specs.States.{live?}
use Rattle.scheduler.specs.Settings.{refused_settings}
use Rattle.scheduler.specs.Model.{Model, Live, empty}
use Rattle.desk_lines.specs.Lines.{Line, lines_of}
use Rattle.desk_lines.specs.DeskLine.{desk_word, number_at, letter_at, has_form, with_number, kind_of, with_kind, closed_only, opening_in, opening_of}
use Rattle.conservative_laws.specs.Validity as conservative
use Rattle.easy_laws.specs.Validity as easy
use Rattle.checkpoint_rules.specs.Acceptance.{desk_in_range, minutes_fit, accepted_by, accepted}
use Rattle.checkpoint_rules.specs.Texts.{state_of, with_state, job_in, job_of, both, jobs_of, model_with, model_of, Restored, not_restored, restored_from, restored}
use Rattle.checkpoint_laws.specs.Soundly.{Lined}
use Rattle.checkpoint_laws.specs.Accepted.{accepted_conservative, conservative_accepted}
use Rattle.checkpoint_laws.specs.AcceptedEasy.{accepted_easy, easy_accepted}

-- what holds of a value, if there is one
pub data Only {A : Type 0} (P : A → Type 0) : Option A → Type 0 where
  is_none : Only P none
  is_some : {a : A} → P a → Only P (some a)

pub only_some : {A : Type 0} {P : A → Type 0} {o : Option A} {a : A} → Only P o → o ≡ some a → P a
only_some {A} {P} {o} {a} is_none e = absurd (let z : ◌≡◌ {A = ℕ} 0 1 = cc in omega arith)
only_some {A} {P} {o} {a} (is_some {a = b} p) e = let z : b ≡ a = cc in subst P z p

module _ {A : Type 0} (P : A → Type 0) where
  only_if : (t : Bool) (o : Option A) → Only P o → Only P (cond t o none)
  only_if true o p = p
  only_if false o p = is_none

  only_number : (n : rust.Option ℕ) (f : ℕ → Option A) → ((v : ℕ) → Only P (f v)) → Only P (with_number n f)
  only_number (Some v) f g = g v
  only_number None f g = is_none

  only_state : (s : Option State) (f : State → Option A) → Only (λ (x : State). live? x ≡ true) s → ((x : State) → live? x ≡ true → Only P (f x))
      → Only P (with_state s f)
  only_state s f (is_some {a = x} l) g = g x l
  only_state s f is_none g = is_none

  only_kind : (k : Option Kind) (f : Kind → Option A) → ((x : Kind) → Only P (f x)) → Only P (with_kind k f)
  only_kind (some x) f g = g x
  only_kind none f g = is_none

  only_closed : (c : Bool) (o : Option A) → Only P o → Only P (closed_only c o)
  only_closed true o p = p
  only_closed false o p = is_none

states_live : (s : List ℕ) → Only (λ (x : State). live? x ≡ true) (state_of s)
unfolding state_of
states_live s =
    case (is_word (119 ∷ []) s) (λ e. rw e (is_some refl)) (λ e.
    rw e (case (is_word (114 ∷ []) s) (λ f. rw f (is_some refl)) (λ f.
    rw f (case (is_word (99 ∷ []) s) (λ g. rw g (is_some refl)) (λ g. rw g is_none)))))

job_live : (s : List ℕ) → Only Live (job_in s)
unfolding job_in
job_live s =
    only_if Live (eqb (length (fields_of s)) 12) _
    (only_number Live (number_at s 0) _ (λ ticket. only_number Live (number_at s 1) _ (λ nodes. only_number Live (number_at s 2) _ (λ estimate.
    only_state Live (state_of (field_of s 3)) _ (states_live (field_of s 3)) (λ state l. only_number Live (number_at s 4) _ (λ start.
    only_number Live (number_at s 5) _ (λ promise. only_number Live (number_at s 6) _ (λ end. only_number Live (letter_at s 7) _ (λ house.
    only_number Live (number_at s 8) _ (λ least. only_number Live (number_at s 9) _ (λ submitted. only_number Live (number_at s 10) _ (λ rank.
    only_number Live (number_at s 11) _ (λ forecast. is_some l)))))))))))))

abbrev Elsewhere : Opening → Type 0
Elsewhere o = o.settings.longest ≡ longest_estimate

opening_elsewhere : (s : List ℕ) → Only Elsewhere (opening_in s)
unfolding opening_in
opening_elsewhere s =
    only_if Elsewhere (has_form s 8 desk_word) _
    (only_kind Elsewhere (kind_of (field_of s 1)) _ (λ k. only_number Elsewhere (number_at s 2) _ (λ n. only_number Elsewhere (number_at s 3) _ (λ m.
    only_number Elsewhere (number_at s 4) _ (λ t. only_number Elsewhere (number_at s 5) _ (λ c. only_number Elsewhere (number_at s 6) _ (λ a.
    only_number Elsewhere (number_at s 7) _ (λ b. is_some refl))))))))

pub jobs_live : (ls : List Line) → Only (All Live) (jobs_of ls)
unfolding jobs_of
jobs_live [] = is_some tt
jobs_live (l ∷ ls) = go (only_closed Live l.closed (job_in l.bytes) (job_live l.bytes)) (jobs_live ls)
  where
    go : {a : Option Job} {b : Option (List Job)} → Only Live a → Only (All Live) b → Only (All Live) (both (λ (j : Job) (js : List Job). j ∷ js) a b)
    go is_none q = is_none
    go (is_some p) is_none = is_none
    go (is_some {a = j} p) (is_some {a = js} q) = let r : All Live (j ∷ js) = (p, q) in is_some r

pub lines_lined : (ls : List Line) → Only Lined (model_of ls)
lines_lined [] = is_none
lines_lined (l ∷ ls) = go (only_closed Elsewhere l.closed (opening_in l.bytes) (opening_elsewhere l.bytes)) (jobs_live ls)
  where
    go : {a : Option Opening} {b : Option (List Job)} → Only Elsewhere a → Only (All Live) b → Only Lined (both model_with a b)
    go is_none q = is_none
    go (is_some p) is_none = is_none
    go (is_some p) (is_some q) = is_some (record { live = q; longest = p })

-- ## Valid

-- valid by its kind
abbrev pub ValidAs : Kind → Model → Type 0
ValidAs Conservative m = conservative.Valid m
ValidAs Easy m = easy.Valid m

pub accepted_valid : (m : Model) → Lined m → accepted m ≡ true → ValidAs m.settings.kind m
accepted_valid m l e = by m.settings.kind refl
  where
    by : (k : Kind) → m.settings.kind ≡ k → ValidAs k m
    by Conservative q = accepted_conservative m q l e
    by Easy q = accepted_easy m q l e

pub valid_accepted : (m : Model) → ValidAs m.settings.kind m → accepted m ≡ true
valid_accepted m v = by m.settings.kind refl v
  where
    by : (k : Kind) → m.settings.kind ≡ k → ValidAs k m → accepted m ≡ true
    by Conservative q v = conservative_accepted m q v
    by Easy q v = easy_accepted m q v

abbrev nothing : Model
nothing = empty (refused_settings Conservative) 0 1

nothing_accepted : accepted nothing ≡ true
unfolding accepted desk_in_range minutes_fit accepted_by
nothing_accepted = refl

nothing_valid : conservative.Valid nothing
nothing_valid = accepted_conservative nothing refl (record { live = tt; longest = refl }) nothing_accepted

-- of every text, taken or refused
pub restored_valid : (t : List ℕ) → ValidAs (restored t).model.settings.kind (restored t).model
unfolding restored
restored_valid t = by (model_of (lines_of t)) (lines_lined (lines_of t))
  where
    by : (o : Option Model) → Only Lined o → ValidAs (restored_from o).model.settings.kind (restored_from o).model
    by o is_none = nothing_valid
    by o (is_some {a = m} l) = case (accepted m) (λ e. rw e (accepted_valid m l e)) (λ e. rw e nothing_valid)

-- and it is one that has lines of its own
pub restored_lined : (t : List ℕ) → Lined (restored t).model
unfolding restored
restored_lined t = by (model_of (lines_of t)) (lines_lined (lines_of t))
  where
    by : (o : Option Model) → Only Lined o → Lined (restored_from o).model
    by o is_none = record { live = tt; longest = refl }
    by o (is_some {a = m} l) = case (accepted m) (λ e. rw e l) (λ e. rw e (record { live = tt; longest = refl }))
