-- Every number that a line says is at most 9999999: document 01, "Numbers have 1 to 7 digits". And a line asks for no other call than
-- a submission, a completion and a withdrawal.
-- Assumes nothing.
use Rattle.std.specs.Prelude.{◌≡◌, refl, Bool, true, false, cond, List, ℕ, ◌≤◌, Some, None}
use Rattle.std.proofs.Common.{subst, arith}
use Rattle.std.proofs.Math.Option.{Option, none, some}
use Rattle.std.specs.declared.option.Option as rust
use Rattle.text.specs.NumberLaws.{number_most}
use Rattle.text.specs.Fields.{field_of}
use Rattle.scheduler.specs.declared.Kind.{Kind}
use Rattle.scheduler.specs.Tenants.{tenant_of}
use Rattle.scheduler.specs.declared.Opening.{Opening}
use Rattle.history.specs.Calls.{Command, ask, wait, submit, depart, order_between, complete, cancel, tick, unchanged, amend}
use Rattle.script_rules.specs.Reading.{in_word, end_word, wait_word, drop_word}
use Rattle.desk_lines.specs.DeskLine.{number_at, letter_at, with_number, with_kind, kind_of, has_form, desk_word, opening_in}
use Rattle.script_rules.specs.Reading.{submit_for, command_in}

abbrev pub Small : ℕ → Type 0
Small n = n ≤ 9999999

abbrev pub SmallOpening : Opening → Type 0
SmallOpening o =
    Small o.settings.nodes × Small o.minute × Small o.ticket × Small o.settings.cleanup × Small o.settings.quota_a
    × Small o.settings.quota_b

abbrev pub SmallCommand : Command → Type 0
SmallCommand (ask (submit o)) = Small o.nodes × Small o.least × Small o.estimate
SmallCommand (ask (depart h t)) = Small t
SmallCommand (ask tick) = ⊥
SmallCommand (ask (amend a)) = ⊥
SmallCommand (ask (unchanged why)) = ⊥
SmallCommand (wait n) = Small n

-- what holds of an answer, where there is one
abbrev pub Any : {A : Type 0} → (A → Type 0) → Option A → Type 0
Any {A} P o = (a : A) → o ≡ some a → P a

module _ {A : Type 0} (P : A → Type 0) where
  pub any_none : Any P none
  any_none a e = absurd (let z : ◌≡◌ {A = ℕ} 0 1 = cc in omega arith)

  pub any_some : (b : A) → P b → Any P (some b)
  any_some b h a e = let q : b ≡ a = cc in subst P q h

  pub any_number : (p : rust.Option ℕ) (f : ℕ → Option A) → ((v : ℕ) → p ≡ Some v → Any P (f v)) → Any P (with_number p f)
  any_number (Some v) f h = h v refl
  any_number None f h = any_none

  pub any_field : (s : List ℕ) (k : ℕ) (f : ℕ → Option A) → ((v : ℕ) → Small v → Any P (f v)) → Any P (with_number (number_at s k) f)
  any_field s k f h = any_number (number_at s k) f (λ v e. h v (number_most (field_of s k) v e))

  pub any_kind : (k : Option Kind) (f : Kind → Option A) → ((κ : Kind) → Any P (f κ)) → Any P (with_kind k f)
  any_kind (some κ) f h = h κ
  any_kind none f h = any_none

  pub any_cond : (b : Bool) (x y : Option A) → Any P x → Any P y → Any P (cond b x y)
  any_cond true x y h k = h
  any_cond false x y h k = k

pub opening_small : (s : List ℕ) (o : Opening) → opening_in s ≡ some o → SmallOpening o
unfolding opening_in
opening_small s =
    any_cond SmallOpening (has_form s 8 desk_word) _ none
    (any_kind SmallOpening (kind_of (field_of s 1)) _ (λ κ.
    any_field SmallOpening s 2 _ (λ n small_n. any_field SmallOpening s 3 _ (λ m small-m. any_field SmallOpening s 4 _ (λ t small-t.
    any_field SmallOpening s 5 _ (λ c small-c. any_field SmallOpening s 6 _ (λ a small-a. any_field SmallOpening s 7 _ (λ b small_b.
    any_some SmallOpening _ (small_n, small-m, small-t, small-c, small-a, small_b)))))))))
    (any_none SmallOpening)

pub command_small : (s : List ℕ) (q : Command) → command_in s ≡ some q → SmallCommand q
unfolding command_in
command_small s =
    any_cond SmallCommand (has_form s 4 in_word) _ _
    (any_field SmallCommand s 1 _ (λ n small_n. any_field SmallCommand s 2 _ (λ e small-e. any_submit (letter_at s 3) n 0 e small_n (omega arith) small-e)))
    (any_cond SmallCommand (has_form s 5 in_word) _ _
    (any_field SmallCommand s 1 _ (λ n small_n. any_field SmallCommand s 2 _ (λ l small-l. any_field SmallCommand s 3 _ (λ e small-e.
    any_submit (letter_at s 4) n l e small_n small-l small-e))))
    (any_cond SmallCommand (has_form s 2 end_word) _ _
    (any_field SmallCommand s 1 _ (λ t small-t. any_some SmallCommand (ask (complete t)) small-t))
    (any_cond SmallCommand (has_form s 2 wait_word) _ _ (any_field SmallCommand s 1 _ (λ n small_n. any_some SmallCommand (wait n) small_n))
    (any_cond SmallCommand (has_form s 2 drop_word) _ none (any_field SmallCommand s 1 _ (λ t small-t. any_some SmallCommand (ask (cancel t)) small-t))
    (any_none SmallCommand)))))
  where
    any_submit : (h : rust.Option ℕ) (n l e : ℕ) → Small n → Small l → Small e → Any SmallCommand (submit_for h n l e)
    any_submit h n l e a b c = any_number SmallCommand h _ (λ t q. any_some SmallCommand (ask (submit (order_between (tenant_of t) n l e))) (a, b, c))

-- of a wait
pub wait_small : (s : List ℕ) (n : ℕ) → command_in s ≡ some (wait n) → n ≤ 9999999
wait_small s n = command_small s (wait n)
