-- The lines of a scheduler in the parts that are written one after another, slot by slot.
-- Assumes nothing.
use Rattle.std.specs.Prelude.{◌≡◌, refl, cond, ℕ, ◌+◌, ◌≤◌, ◌<◌, length, get_or, take}
use Rattle.std.proofs.Common.{sym, ap, ◌∙◌, take_all}
use mathlib.Core.List.{List, [], ◌∷◌, ◌++◌, flat_map, append_assoc}
use Rattle.lists.specs.Tests.{case}
use Rattle.lists.specs.Lists.{keep}
use Rattle.lists.specs.Flat.{flat_more}
use Rattle.text.specs.Numbers.{decimal_of}
use Rattle.scheduler.specs.declared.Kind.{Kind}
use Rattle.scheduler.specs.declared.Job.{Job}
use Rattle.scheduler.specs.declared.Scheduler.{Scheduler}
use Rattle.scheduler.specs.declared.Settings.{Settings}
use Rattle.scheduler.specs.Tenants.{letter_of}
use Rattle.scheduler.specs.Jobs.{unused, is_live_of}
use Rattle.scheduler.specs.Model.{Model, view}
use Rattle.desk_lines.specs.DeskLine.{desk_word, and_field}
use Rattle.checkpoint_rules.specs.Texts.{line_text, kind_word, state_word, desk_fields, job_fields, desk_line, job_line, desk_text}

-- a line, field after field
abbrev rest : List (List ℕ) → List ℕ
rest [] = 10 ∷ []
rest (f ∷ fs) = and_field f ++ rest fs

fields_rest : (fs : List (List ℕ)) → flat_map and_field fs ++ (10 ∷ []) ≡ rest fs
unfolding flat_map
fields_rest [] = refl
fields_rest (f ∷ fs) = append_assoc (and_field f) (flat_map and_field fs) (10 ∷ []) ∙ ap (λ (l : List ℕ). and_field f ++ l) (fields_rest fs)

line_rest : (f : List ℕ) (fs : List (List ℕ)) → line_text f fs ≡ f ++ rest fs
line_rest f fs = append_assoc f (flat_map and_field fs) (10 ∷ []) ∙ ap (λ (l : List ℕ). f ++ l) (fields_rest fs)

-- ## The `desk` line

abbrev pub head_text : Kind → List ℕ
head_text k = desk_word ++ and_field (kind_word k)

unfoldable pub desk_line_of : Settings → (clock next : ℕ) → List ℕ
desk_line_of S c n =
    head_text S.kind
    ++ (and_field (decimal_of S.nodes)
    ++ (and_field (decimal_of c)
    ++ (and_field (decimal_of n)
    ++ (and_field (decimal_of S.cleanup) ++ (and_field (decimal_of S.quota_a) ++ (and_field (decimal_of S.quota_b) ++ (10 ∷ [])))))))

pub desk_line_lem : (m : Model) → desk_line m ≡ desk_line_of m.settings m.clock m.next
unfolding desk_line desk_line_of
desk_line_lem m = line_rest desk_word (desk_fields m)

-- ## A record's line

unfoldable pub order_text : Job → List ℕ
order_text j = decimal_of j.ticket ++ (and_field (decimal_of j.nodes) ++ (and_field (decimal_of j.estimate) ++ and_field (state_word j.state)))

unfoldable pub times_text : Job → List ℕ
times_text j =
    and_field (decimal_of j.start)
    ++ (and_field (decimal_of j.promise) ++ (and_field (decimal_of j.end) ++ (and_field (letter_of j.tenant ∷ []) ++ and_field (decimal_of j.least))))

unfoldable pub kept_text : Job → List ℕ
kept_text j = and_field (decimal_of j.submitted) ++ (and_field (decimal_of j.rank) ++ (and_field (decimal_of j.forecast) ++ (10 ∷ [])))

abbrev pub job_text : Job → List ℕ
job_text j = order_text j ++ (times_text j ++ kept_text j)

three : (a b c d l : List ℕ) → (a ++ (b ++ (c ++ d))) ++ l ≡ a ++ (b ++ (c ++ (d ++ l)))
three a b c d l =
    append_assoc a (b ++ (c ++ d)) l ∙ ap (λ (x : List ℕ). a ++ x) (append_assoc b (c ++ d) l ∙ ap (λ (x : List ℕ). b ++ x) (append_assoc c d l))

pub job_text_lem : (j : Job) → job_text j ≡ job_line j
unfolding job_line order_text times_text kept_text
job_text_lem j =
    let a = and_field (decimal_of j.start) in
    let b = and_field (decimal_of j.promise) in
    let c = and_field (decimal_of j.end) in
    let d = and_field (letter_of j.tenant ∷ []) in
    let e = and_field (decimal_of j.least) in
    let k = kept_text j in
    sym (line_rest (decimal_of j.ticket) (job_fields j)
    ∙ sym (three (decimal_of j.ticket) (and_field (decimal_of j.nodes)) (and_field (decimal_of j.estimate)) (and_field (state_word j.state))
    ((a ++ (b ++ (c ++ (d ++ e)))) ++ k)
    ∙ ap (λ (x : List ℕ). decimal_of j.ticket ++ (and_field (decimal_of j.nodes) ++ (and_field (decimal_of j.estimate) ++ (and_field (state_word j.state) ++ x))))
    (three a b c (d ++ e) k ∙ ap (λ (x : List ℕ). a ++ (b ++ (c ++ x))) (append_assoc d e k))))

-- ## Slot by slot

abbrev pub slot_text : Job → List ℕ
slot_text j = cond (is_live_of j) (job_text j) []

unfoldable pub slot_texts : List Job → List ℕ
slot_texts js = flat_map slot_text js

pub texts_none : (js : List Job) → slot_texts (take 0 js) ≡ []
unfolding slot_texts flat_map
texts_none js = refl

pub texts_more : (js : List Job) (i : ℕ) → i < length js → slot_texts (take (i + 1) js) ≡ slot_texts (take i js) ++ slot_text (get_or js i unused)
unfolding slot_texts
texts_more js i l = flat_more slot_text js i unused l

pub texts_done : (js : List Job) (i : ℕ) → length js ≤ i → slot_texts (take i js) ≡ slot_texts js
texts_done js i l = ap slot_texts (take_all i js l)

live_texts : (js : List Job) → slot_texts js ≡ flat_map job_line (keep is_live_of js)
unfolding slot_texts flat_map
live_texts [] = refl
live_texts (j ∷ js) =
    case (is_live_of j)
    (λ e. rw (e, job_text_lem j) (ap (λ (l : List ℕ). job_line j ++ l) (live_texts js)))
    (λ e. rw e (live_texts js))

-- the `desk` line and those of the slots
pub whole_text : (d : Scheduler) → desk_line_of d.settings d.clock d.next ++ slot_texts d.jobs ≡ desk_text (view d)
unfolding desk_text view
whole_text d =
    ap (λ (l : List ℕ). l ++ slot_texts d.jobs) (sym (desk_line_lem (view d))) ∙ ap (λ (l : List ℕ). desk_line (view d) ++ l) (live_texts d.jobs)
