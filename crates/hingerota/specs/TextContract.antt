-- What a call for a text of the desk answers a host, and leaves in the bytes lent to it: the status page (document 02, No. 8: "Staff read the queue on
-- a page"), the lines that it is written out in (No. 11: "A desk must be written out and read back"), and why its jobs wait (No. 14: "print a
-- sentence into a lent text").
-- Assumes nothing.
use Rattle.std.specs.Prelude.{◌≡◌, refl, List, ◌++◌, ℕ, ◌≤◌, eqb, length, drop}
use Rattle.std.proofs.Common.{sym, ap, subst, ◌∙◌}
use Rattle.lists.specs.Lists.{map_same}
use Rattle.scheduler.specs.declared.Refusal.TheVariants as refusal
use Rattle.scheduler.specs.declared.Scheduler.{Scheduler}
use Rattle.scheduler.specs.Model.{Model, view}
use Rattle.scheduler.specs.Answers.{code}
use Rattle.status_page_rules.specs.StatusPage.{status_page_of}
use Rattle.checkpoint_rules.specs.Texts.{desk_text}
use Rattle.checkpoint_writing.specs.TextSize.{text_bytes}
use Rattle.why_rules.specs.Why.{why_text}
use Rattle.why_laws.specs.Sizes.{why_bytes}
use Rattle.calls.specs.declared.Shown as calls-shown
use Rattle.calls.specs.ListCall.{list_refusal, written, shown, Shows}
use Rattle.calls.specs.TextCall as calls-text
use Rattle.hingerota.specs.declared.Desk.{Desk}
use Rattle.hingerota.specs.declared.Shown.{Shown}
use Rattle.hingerota.specs.Mirror.{read}
use Rattle.hingerota.specs.DeskPremise.{Handed}
use Rattle.hingerota.specs.ListContract.{mirror_shown, HostShows}

-- a byte is a number already
abbrev same : ℕ → ℕ
same b = b

-- any text that a model has
abbrev pub HostShowsBytes : (Model → List ℕ) → Desk → (lent : List ℕ) → Shown → (after : List ℕ) → Type 0
HostShowsBytes text d lent a after = HostShows text same d lent a after

abbrev pub HostShowsPage : Desk → (lent : List ℕ) → Shown → (after : List ℕ) → Type 0
HostShowsPage d lent a after = HostShowsBytes status_page_of d lent a after

abbrev pub HostShowsText : Desk → (lent : List ℕ) → Shown → (after : List ℕ) → Type 0
HostShowsText d lent a after = HostShowsBytes desk_text d lent a after

abbrev pub HostShowsWhy : Desk → (lent : List ℕ) → Shown → (after : List ℕ) → Type 0
HostShowsWhy d lent a after = HostShowsBytes why_text d lent a after

-- ## By value

module _ (text : Model → List ℕ) (d : Desk) (lent : List ℕ) where
  shown_host : (a : calls-shown.Shown) (after : List ℕ) → Shows text (read d) lent a after → HostShowsBytes text d lent (mirror_shown a) after
  shown_host a after w =
      let xs = written text (view (read d)) (length lent) in
      record {
        answers = ap mirror_shown w.answers;
        writes = w.writes ∙ ap (λ (l : List ℕ). l ++ drop (length xs) lent) (sym (map_same same xs (λ b i. refl)));
        refused = w.refused;
      }

  pub host_shown : (a : Shown) (after : List ℕ) → HostShowsBytes text d lent a after
      → Shows text (read d) lent (shown text (view (read d)) (length lent)) after
  host_shown a after w =
      let xs = written text (view (read d)) (length lent) in
      record {
        answers = refl;
        writes = w.writes ∙ ap (λ (l : List ℕ). l ++ drop (length xs) lent) (map_same same xs (λ b i. refl));
        refused = λ e. w.refused (ap (λ (s : Shown). eqb s.refusal 0) w.answers ∙ e);
      }

  pub text_given : (s : Scheduler) (a : calls-shown.Shown) (r : Shown) (after : List ℕ) → s ≡ read d → Shows text s lent a after → r ≡ mirror_shown a
      → HostShowsBytes text d lent r after
  text_given s a r after e w q =
      subst (λ (x : Shown). HostShowsBytes text d lent x after) (sym q) (shown_host a after (subst (λ (x : Scheduler). Shows text x lent a after) e w))

-- ## These numbers of bytes are always enough

enough : (text : Model → List ℕ) (d : Desk) (lent : List ℕ) (a : Shown) (after : List ℕ) → HostShowsBytes text d lent a after
    → list_refusal text (view (read d)) (length lent) ≡ refusal.None → a.refusal ≡ 0
enough text d lent a after w e = ap (λ (s : Shown). s.refusal) w.answers ∙ ap code e

pub bytes_enough : (d : Desk) (lent : List ℕ) (a : Shown) (after : List ℕ) → Handed d → text_bytes ≤ length lent → HostShowsText d lent a after
    → a.refusal ≡ 0
bytes_enough d lent a after h l w = enough desk_text d lent a after w (calls-text.bytes_enough (view (read d)) (length lent) h.premise.holds l)

pub why_enough : (d : Desk) (lent : List ℕ) (a : Shown) (after : List ℕ) → Handed d → why_bytes ≤ length lent → HostShowsWhy d lent a after
    → a.refusal ≡ 0
why_enough d lent a after h l w = enough why_text d lent a after w (calls-text.why_enough (view (read d)) (length lent) h.premise.holds l)
