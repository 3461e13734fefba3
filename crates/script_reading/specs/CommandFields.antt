-- What the fields after the first word of a line say.
-- Assumes nothing.
use Rattle.std.proofs.Math.Path.{◌≡◌, refl, sym}
use Rattle.std.proofs.Common.{◌∙◌, arith}
use Rattle.std.specs.Prelude.{Bool, true, false, cond, ◌&&◌, ℕ, suc, ◌≤◌, eqb, length, get_or, Some, None}
use mathlib.Core.List.{List, [], ◌∷◌}
use Rattle.std.proofs.Math.Option.{Option, none, some}
use borrow.Author.Tests.{ne_eqb}
use Rattle.lists.specs.Tests.{and_right_false}
use Rattle.text.specs.Fields.{fields_of}
use Rattle.text.specs.Numbers.{number_of}
use Rattle.text.specs.Letters.{capital_of}
use Rattle.text.specs.Words.{is_word}
use Rattle.text.specs.WordLaws.{word_same}
use Rattle.text.specs.Prefixes.{upto}
use Rattle.text.specs.LineFields.{begins_with}
use Rattle.text.specs.LineFieldLaws.{no_letter, letter_no_number, not_begun}
use Rattle.scheduler.specs.Tenants.{tenant_of}
use Rattle.history.specs.Calls.{Command, ask, wait, submit, complete, cancel, order_between}
use Rattle.script_rules.specs.Reading.{in_word, end_word, wait_word, drop_word, submit_for, command_in}
use Rattle.desk_lines.specs.DeskLine.{has_form, with_number}
use Rattle.script_reading.specs.LineReading.{reading, ended, with_nothing}

-- a last field
abbrev pub last : (ℕ → Command) → ℕ → List (List ℕ) → Option Command
last f v = ended (some (f v))

abbrev pub one_number_of : (ℕ → Command) → List (List ℕ) → Option Command
one_number_of f = reading number_of (last f)

-- an order of the house with this letter
abbrev pub order_for : (nodes least most letter : ℕ) → Command
order_for n l m h = ask (submit (order_between (tenant_of h) n l m))

-- the letter, and before it the most minutes
abbrev pub letter_with : (nodes least most : ℕ) → List (List ℕ) → Option Command
letter_with n l m = reading capital_of (last (order_for n l m))

abbrev pub most_with : (nodes least : ℕ) → List (List ℕ) → Option Command
most_with n l = reading number_of (letter_with n l)

-- with one number of minutes the least is 0
unfoldable pub minutes_with : (nodes minutes : ℕ) → List (List ℕ) → Option Command
minutes_with n m fs =
    cond
    (eqb (length fs) 1)
    (submit_for (capital_of (get_or fs 0 [])) n 0 m)
    (cond (eqb (length fs) 2) (with_number (number_of (get_or fs 0 [])) (λ e. submit_for (capital_of (get_or fs 1 [])) n m e)) none)

abbrev pub nodes_with : (nodes : ℕ) → List (List ℕ) → Option Command
nodes_with n = reading number_of (minutes_with n)

abbrev pub order_by : List (List ℕ) → Option Command
order_by = reading number_of nodes_with

-- ## By the count of the fields

and-true : (a : Bool) → (a && true) ≡ a
and-true true = refl
and-true false = refl

one_number : (f : ℕ → Command) (fs : List (List ℕ))
    → cond (eqb (suc (length fs)) 2) (with_number (number_of (get_or fs 0 [])) (λ v. some (f v))) none ≡ one_number_of f fs
unfolding number_of
one_number f [] = refl
one_number f (a ∷ []) = refl
one_number f (a ∷ b ∷ fs) =
    rw (ne_eqb (suc (suc (suc (length fs)))) 2 (λ e. omega arith))
    (sym (with_nothing (number_of a) _ (λ v. rw (ne_eqb (suc (length fs)) 0 (λ e. omega arith)))))

module _ (n m : ℕ) where
  -- after two numbers at most two fields are left
  minutes_many : (a b c : List ℕ) (fs : List (List ℕ)) → minutes_with n m (a ∷ b ∷ c ∷ fs) ≡ none
  unfolding minutes_with
  minutes_many a b c fs = rw (ne_eqb (suc (suc (suc (length fs)))) 1 (λ e. omega arith), ne_eqb (suc (suc (suc (length fs)))) 2 (λ e. omega arith))

  -- a letter is the last,
  pub by_letter : (fs : List (List ℕ)) {h : ℕ} → capital_of (get_or fs 0 []) ≡ Some h → minutes_with n m fs ≡ letter_with n 0 m fs
  unfolding minutes_with
  by_letter [] e = absurd (let q = sym no_letter ∙ e in let z : ◌≡◌ {A = ℕ} 0 1 = cc in omega arith)
  by_letter (a ∷ []) e = refl
  by_letter (a ∷ b ∷ []) e = rw (letter_no_number a e) (sym (with_nothing (capital_of a) _ (λ h. refl)))
  by_letter (a ∷ b ∷ c ∷ fs) e = minutes_many a b c fs ∙ sym (with_nothing (capital_of a) _ (λ h. rw (ne_eqb (suc (suc (length fs))) 0 (λ e. omega arith))))

  -- and else there is a number before it
  pub by_number : (fs : List (List ℕ)) → capital_of (get_or fs 0 []) ≡ None → minutes_with n m fs ≡ most_with n m fs
  unfolding minutes_with number_of capital_of
  by_number [] e = refl
  by_number (a ∷ []) e = rw e (sym (with_nothing (number_of a) _ (λ v. refl)))
  by_number (a ∷ b ∷ []) e = refl
  by_number (a ∷ b ∷ c ∷ fs) e =
      minutes_many a b c fs
      ∙ sym (with_nothing (number_of a) _ (λ v. with_nothing (capital_of b) _ (λ h. rw (ne_eqb (suc (length fs)) 0 (λ e. omega arith)))))

order_count : (fs : List (List ℕ))
    → cond
    (eqb (suc (length fs)) 4)
    (with_number (number_of (get_or fs 0 [])) (λ n. with_number (number_of (get_or fs 1 [])) (λ e. submit_for (capital_of (get_or fs 2 [])) n 0 e)))
    (cond
    (eqb (suc (length fs)) 5)
    (with_number (number_of (get_or fs 0 [])) (λ n. with_number (number_of (get_or fs 1 [])) (λ l. with_number (number_of (get_or fs 2 [])) (λ e.
    submit_for (capital_of (get_or fs 3 [])) n l e))))
    none)
    ≡ order_by fs
unfolding number_of minutes_with
order_count [] = refl
order_count (a ∷ []) = sym (with_nothing (number_of a) _ (λ n. refl))
order_count (a ∷ b ∷ []) = sym (with_nothing (number_of a) _ (λ n. with_nothing (number_of b) _ (λ m. refl)))
order_count (a ∷ b ∷ c ∷ []) = refl
order_count (a ∷ b ∷ c ∷ d ∷ []) = refl
order_count (a ∷ b ∷ c ∷ d ∷ e ∷ fs) =
    let n : ℕ = suc (suc (suc (suc (suc (suc (length fs)))))) in
    rw (ne_eqb n 4 (λ q. omega arith), ne_eqb n 5 (λ q. omega arith))
    (sym (with_nothing (number_of a) _ (λ n. with_nothing (number_of b) _ (λ m. minutes_many n m c d e fs))))

-- ## By the word

module _ (s w : List ℕ) (fs : List (List ℕ)) (e : fields_of s ≡ w ∷ fs) where
  other_form : (n : ℕ) (u : List ℕ) → is_word u w ≡ false → has_form s n u ≡ false
  unfolding has_form
  other_form n u h = rw e (and_right_false (eqb (length (w ∷ fs)) n) h)

  own_form : (n : ℕ) → has_form s n w ≡ eqb (suc (length fs)) n
  unfolding has_form
  own_form n = rw (e, word_same w) (and-true (eqb (length (w ∷ fs)) n))

module _ (s : List ℕ) (fs : List (List ℕ)) where
  pub says_in : fields_of s ≡ in_word ∷ fs → command_in s ≡ order_by fs
  unfolding command_in is_word
  says_in e =
      let other = other_form s in_word fs e in
      rw (own_form s in_word fs e 4, own_form s in_word fs e 5, other 2 end_word refl, other 2 wait_word refl, other 2 drop_word refl, e) (order_count fs)

  pub says_end : fields_of s ≡ end_word ∷ fs → command_in s ≡ one_number_of (λ t. ask (complete t)) fs
  unfolding command_in is_word
  says_end e =
      let other = other_form s end_word fs e in
      rw (other 4 in_word refl, other 5 in_word refl, own_form s end_word fs e 2, other 2 wait_word refl, other 2 drop_word refl, e)
      (one_number (λ t. ask (complete t)) fs)

  pub says_wait : fields_of s ≡ wait_word ∷ fs → command_in s ≡ one_number_of wait fs
  unfolding command_in is_word
  says_wait e =
      let other = other_form s wait_word fs e in
      rw (other 4 in_word refl, other 5 in_word refl, other 2 end_word refl, own_form s wait_word fs e 2, other 2 drop_word refl, e) (one_number wait fs)

  pub says_drop : fields_of s ≡ drop_word ∷ fs → command_in s ≡ one_number_of (λ t. ask (cancel t)) fs
  unfolding command_in is_word
  says_drop e =
      let other = other_form s drop_word fs e in
      rw (other 4 in_word refl, other 5 in_word refl, other 2 end_word refl, other 2 wait_word refl, own_form s drop_word fs e 2, e)
      (one_number (λ t. ask (cancel t)) fs)

-- ## None of the words

module _ (s : List ℕ) where
  not_form : (w : List ℕ) (n : ℕ) → 2 ≤ n → begins_with w s ≡ false → has_form (upto 10 s) n w ≡ false
  unfolding has_form
  not_form w n h e = not_begun w s n h e

  pub says_nothing : begins_with in_word s ≡ false → begins_with end_word s ≡ false → begins_with wait_word s ≡ false → begins_with drop_word s ≡ false
      → command_in (upto 10 s) ≡ none
  unfolding command_in
  says_nothing p q r t =
      rw (
        not_form in_word 4 (omega arith) p,
        not_form in_word 5 (omega arith) p,
        not_form end_word 2 (omega arith) q,
        not_form wait_word 2 (omega arith) r,
        not_form drop_word 2 (omega arith) t,
      )
