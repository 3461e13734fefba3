-- Document 02, No. 14: "Two different findings never give the same sentence." Nor do two lists of findings give the same text.
-- Assumes nothing.
use Rattle.std.specs.Prelude.{◌≡◌, refl, ℕ, ◌≤◌}
use Rattle.std.proofs.Common.{sym, ap, ap₂, ◌∙◌, arith}
use mathlib.Core.List.{List, [], ◌∷◌, ◌++◌, flat_map, append_assoc, append-nil, head-eq_of_cons-eq, tail-eq_of_cons-eq}
use Rattle.lists.specs.Lists.{All}
use Rattle.text.specs.Numbers.{decimal_of}
use Rattle.text.specs.NumberLaws.{decimal_tells, decimal_digits}
use Rattle.text.specs.Quoted.{bytes}
use Rattle.scheduler.specs.declared.Kind.{Kind}
use Rattle.scheduler.specs.declared.Kind.TheVariants.{Conservative}
use Rattle.scheduler.specs.Model.{Model}
use Rattle.why_rules.specs.Why.{Holder, Finding, findings, holder_text, holders_text, sentence, sentences, why_by, why_text}

-- ## Numbers and words

abbrev Digit : ℕ → Type 0
Digit b = (48 ≤ b) × (b ≤ 57)

-- what stands after a number begins with a byte that is no digit
record Closes (xs : List ℕ) : Type 0 where
  byte : ℕ
  rest : List ℕ
  is : xs ≡ byte ∷ rest
  no_digit : Digit byte → ⊥

-- digits end where the first byte stands that is none
digits_end : (xs ys : List ℕ) (b c : ℕ) (ts us : List ℕ) → All Digit xs → All Digit ys → (Digit b → ⊥) → (Digit c → ⊥)
    → xs ++ (b ∷ ts) ≡ ys ++ (c ∷ us) → (xs ≡ ys) × (b ∷ ts ≡ c ∷ us)
digits_end [] [] b c ts us p q n o e = (refl, e)
digits_end [] (y ∷ ys) b c ts us p q n o e =
    let z : b ≡ y = head-eq_of_cons-eq e in absurd (n (omega (arith, q.0), omega (arith, q.0)))
digits_end (x ∷ xs) [] b c ts us p q n o e =
    let z : x ≡ c = head-eq_of_cons-eq e in absurd (o (omega (arith, p.0), omega (arith, p.0)))
digits_end (x ∷ xs) (y ∷ ys) b c ts us p q n o e =
    let r = digits_end xs ys b c ts us p.1 q.1 n o (tail-eq_of_cons-eq e) in
    (ap₂ (λ (z : ℕ) (zs : List ℕ). z ∷ zs) (head-eq_of_cons-eq e) r.0, r.1)

-- so a number, and what stands after it, are told apart
number_read : (v w : ℕ) {xs ys : List ℕ} → Closes xs → Closes ys → decimal_of v ++ xs ≡ decimal_of w ++ ys → (v ≡ w) × (xs ≡ ys)
number_read v w f g e =
    let r = digits_end (decimal_of v) (decimal_of w) f.byte g.byte f.rest g.rest (decimal_digits v) (decimal_digits w) f.no_digit g.no_digit
    (rw (f.is, g.is) at e) in
    (decimal_tells v w r.0, f.is ∙ r.1 ∙ sym g.is)

-- the same word in front may be left out
word_read : (w : List ℕ) {ts us : List ℕ} → w ++ ts ≡ w ++ us → ts ≡ us
word_read [] e = e
word_read (b ∷ bs) e = word_read bs (tail-eq_of_cons-eq e)

-- ## Holders, with what stands after them in the sentence and in the text

abbrev holders_then : List Holder → List ℕ → List ℕ
holders_then [] ts = 10 ∷ ts
holders_then (h ∷ hs) ts = bytes ", " ++ (decimal_of h.ticket ++ (bytes " with " ++ (decimal_of h.nodes ++ holders_then hs ts)))

holders_then_lem : (hs : List Holder) (ts : List ℕ) → (holders_text hs ++ (10 ∷ [])) ++ ts ≡ holders_then hs ts
unfolding flat_map holder_text
holders_then_lem [] ts = refl
holders_then_lem (h ∷ hs) ts = rw (sym (holders_then_lem hs ts)) (simp append_assoc)

after_number : (hs : List Holder) (ts : List ℕ) → Closes (holders_then hs ts)
after_number [] ts = record { byte = 10; rest = ts; is = refl; no_digit = λ d. omega arith }
after_number (h ∷ hs) ts = record { byte = 44; rest = _; is = refl; no_digit = λ d. omega arith }

space_first : (ts : List ℕ) → Closes (32 ∷ ts)
space_first ts = record { byte = 32; rest = ts; is = refl; no_digit = λ d. omega arith }

-- a comma is not the end of a line
other_byte {ℓ} : {A : Type ℓ} (ts us : List ℕ) → ◌≡◌ {A = List ℕ} (10 ∷ ts) (44 ∷ us) → A
other_byte ts us e = absurd (let z : 10 ≡ 44 = head-eq_of_cons-eq e in omega arith)

same_holder : (h g : Holder) → h.ticket ≡ g.ticket → h.nodes ≡ g.nodes → h ≡ g
same_holder h g a b = λ i. record { ticket = a i; nodes = b i }

holders_read : (hs gs : List Holder) (ts us : List ℕ) → holders_then hs ts ≡ holders_then gs us → (hs ≡ gs) × (ts ≡ us)
holders_read [] [] ts us e = (refl, tail-eq_of_cons-eq e)
holders_read [] (g ∷ gs) ts us e = other_byte _ _ e
holders_read (h ∷ hs) [] ts us e = other_byte _ _ (sym e)
holders_read (h ∷ hs) (g ∷ gs) ts us e =
    let a = number_read h.ticket g.ticket (space_first _) (space_first _) (word_read (bytes ", ") e) in
    let b = number_read h.nodes g.nodes (after_number hs ts) (after_number gs us) (word_read (bytes " with ") a.1) in
    let r = holders_read hs gs ts us b.1 in
    (ap₂ (λ (x : Holder) (xs : List Holder). x ∷ xs) (same_holder h g a.0 b.0) r.0, r.1)

-- ## Sentences

same_finding : (f g : Finding) → f.ticket ≡ g.ticket → f.minute ≡ g.minute → f.holders ≡ g.holders → f ≡ g
same_finding f g a b c = λ i. record { ticket = a i; minute = b i; holders = c i }

-- with what stands after it in the text
abbrev sentence_then : Finding → List ℕ → List ℕ
sentence_then f ts = bytes "stack " ++ (decimal_of f.ticket ++ (bytes " waits, minute " ++ (decimal_of f.minute ++ holders_then f.holders ts)))

sentence_then_lem : (f : Finding) (ts : List ℕ) → sentence f ++ ts ≡ sentence_then f ts
unfolding sentence
sentence_then_lem f ts = rw (sym (holders_then_lem f.holders ts)) (simp append_assoc)

then_read : (f g : Finding) (ts us : List ℕ) → sentence_then f ts ≡ sentence_then g us → (f ≡ g) × (ts ≡ us)
then_read f g ts us e =
    let a = number_read f.ticket g.ticket (space_first _) (space_first _) (word_read (bytes "stack ") e) in
    let b = number_read f.minute g.minute (after_number f.holders ts) (after_number g.holders us) (word_read (bytes " waits, minute ") a.1) in
    let r = holders_read f.holders g.holders ts us b.1 in
    (same_finding f g a.0 b.0 r.0, r.1)

-- no sentence, with what follows it, is another with what follows that
pub sentence_first : (f g : Finding) (ts us : List ℕ) → sentence f ++ ts ≡ sentence g ++ us → (f ≡ g) × (ts ≡ us)
sentence_first f g ts us e = then_read f g ts us (sym (sentence_then_lem f ts) ∙ e ∙ sentence_then_lem g us)

-- "Two different findings never give the same sentence."
pub sentence_tells : (f g : Finding) → sentence f ≡ sentence g → f ≡ g
sentence_tells f g e = (sentence_first f g [] [] (append-nil (sentence f) ∙ e ∙ sym (append-nil (sentence g)))).0

-- a sentence is not empty
nothing_else {ℓ} : {A : Type ℓ} (f : Finding) (ts : List ℕ) → [] ≡ sentence f ++ ts → A
nothing_else f ts e = let q = e ∙ sentence_then_lem f ts in absurd (let z : ◌≡◌ {A = ℕ} 0 1 = cc in omega arith)

-- nor do two lists of findings give the same text
pub sentences_tell : (fs gs : List Finding) → sentences fs ≡ sentences gs → fs ≡ gs
unfolding flat_map
sentences_tell [] [] e = refl
sentences_tell [] (g ∷ gs) e = nothing_else g _ e
sentences_tell (f ∷ fs) [] e = nothing_else f _ (sym e)
sentences_tell (f ∷ fs) (g ∷ gs) e =
    let r = sentence_first f g (sentences fs) (sentences gs) e in
    ap₂ (λ (x : Finding) (xs : List Finding). x ∷ xs) r.0 (sentences_tell fs gs r.1)

-- so from the text of a conservative scheduler all that was found can be read
pub text_tells : (m n : Model) → m.settings.kind ≡ Conservative → n.settings.kind ≡ Conservative → why_text m ≡ why_text n → findings m ≡ findings n
unfolding why_text
text_tells m n a b e =
    sentences_tell (findings m) (findings n) (sym (ap (λ (k : Kind). why_by k m) a) ∙ e ∙ ap (λ (k : Kind). why_by k n) b)
