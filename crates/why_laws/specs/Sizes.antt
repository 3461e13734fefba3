-- How long the text is at most, for every valid model of either kind. A caller who lends this many bytes is never refused by 10 (document 01: "the
-- lent list, page or text is shorter than what goes into it").
-- Assumes nothing.
use Rattle.std.specs.Prelude.{◌≡◌, refl, Bool, true, false, ◌⊎◌, ℕ, ◌+◌, ◌*◌, ◌≤◌, ◌<◌, length}
use Rattle.std.proofs.Common.{sym, ap, ◌∙◌, inl, inr}
use mathlib.Core.List.{List, [], ◌∷◌, ◌++◌, flat_map}
use native.Mathlib.Omega.{arith}
use Rattle.std.proofs.Math.ListN.{length-append, length-map}
use Rattle.lists.specs.Tests.{case}
use Rattle.lists.specs.Lists.{keep, In, here, there, in_nil, in_cons, map_in, keep_in, length_keep_le}
use Rattle.text.specs.Numbers.{decimal_of}
use Rattle.text.specs.NumberLaws.{decimal_four, decimal_six}
use Rattle.text.specs.Quoted.{bytes}
use Rattle.scheduler.specs.declared.Kind.{Kind}
use Rattle.scheduler.specs.declared.Kind.TheVariants.{Conservative, Easy}
use Rattle.scheduler.specs.declared.Job.{Job}
use Rattle.scheduler.specs.Jobs.{is_waiting}
use Rattle.scheduler.specs.Model.{Model}
use Rattle.jobs.specs.Slots.{sound_low}
use Rattle.conservative_laws.specs.Validity as conservative
use Rattle.guarantees.specs.Premise.{ValidBy, Valid}
use Rattle.why_rules.specs.Why.{Holder, Finding, minute_before, holds_in, holder, holders_in, finding_of, findings, holder_text, holders_text, sentence, sentences, why_by, why_text}
use Rattle.why_laws.specs.Holders.{own_not}

-- the holders of one sentence, its bytes, and those of a sentence for each of 64 jobs
abbrev pub most_holders : ℕ
most_holders = 63

abbrev pub sentence_bytes : ℕ
sentence_bytes = 1168

abbrev pub why_bytes : ℕ
why_bytes = 74752

-- one that fails a test is not kept
keep_fewer : {A : Type 0} (p : A → Bool) (xs : List A) {a : A} → In a xs → p a ≡ false → length (keep p xs) < length xs
keep_fewer p [] i e = in_nil i
keep_fewer p (x ∷ xs) {a} i e = go (in_cons i) (λ k. keep_fewer p xs k e)
  where
    go : (a ≡ x) ⊎ In a xs → (In a xs → length (keep p xs) < length xs) → length (keep p (x ∷ xs)) < length (x ∷ xs)
    go (inl q) f = rw (sym (ap p q) ∙ e) (omega (arith, length_keep_le p xs))
    go (inr k) f = case (p x) (λ q. rw q (omega (arith, f k))) (λ q. rw q (omega (arith, f k)))

-- texts of at most this many bytes, one after another
flat_size : {A : Type 0} (f : A → List ℕ) (n : ℕ) (xs : List A) → ((x : A) → In x xs → length (f x) ≤ n) → length (flat_map f xs) ≤ n * length xs
unfolding flat_map
flat_size f n [] a = omega arith
flat_size f n (x ∷ xs) a = omega (arith, length-append (f x) (flat_map f xs), a x (here refl), flat_size f n xs (λ y i. a y (there i)))

-- a number of at most this many digits, and what follows
number_size : (v d : ℕ) (xs : List ℕ) → length (decimal_of v) ≤ d → length (decimal_of v ++ xs) ≤ d + length xs
number_size v d xs h = omega (arith, length-append (decimal_of v) xs)

module _ (m : Model) (v : conservative.Valid m) where
  -- a ticket and a minute have six digits at most, a number of nodes four
  ticket_low : (j : Job) → In j m.jobs → j.ticket ≤ 999999
  ticket_low j i = omega (arith, v.sound.below j i, v.sound.next_to)

  holder_size : (t : ℕ) (h : Holder) → (k : Job) × In k (keep (holds_in m.settings t) m.jobs) × (h ≡ holder k) → length (holder_text h) ≤ 18
  unfolding holder_text
  holder_size t h (k, n, e) =
      let i = (keep_in (holds_in m.settings t) m.jobs n).0 in
      rw e (omega (
        arith,
        number_size k.ticket 6 (bytes " with " ++ decimal_of k.nodes) (decimal_six k.ticket (ticket_low k i)),
        decimal_four k.nodes (omega (arith, (v.sound.each k i).nodes_to, v.sound.nodes_to)),
      ))

  module _ (j : Job) (i : In j m.jobs) (w : is_waiting j ≡ true) where
    -- all but the job itself
    pub holders_few : length (finding_of m j).holders ≤ most_holders
    unfolding finding_of
    holders_few =
        let p = holds_in m.settings (minute_before j) in
        omega (arith, length-map (keep p m.jobs) holder, keep_fewer p m.jobs i (own_not m v j i w), v.sound.few)

    pub sentence_size : length (sentence (finding_of m j)) ≤ sentence_bytes
    unfolding finding_of sentence
    sentence_size =
        let t = minute_before j in
        let hs = holders_in m t in
        omega (
          arith,
          number_size j.ticket 6 (bytes " waits, minute " ++ (decimal_of t ++ (holders_text hs ++ (10 ∷ [])))) (decimal_six j.ticket (ticket_low j i)),
          number_size t 6 (holders_text hs ++ (10 ∷ [])) (decimal_six t (omega (arith, sound_low m v.sound j i))),
          length-append (holders_text hs) (10 ∷ []),
          flat_size holder_text 18 hs (λ h k. holder_size t h (map_in holder (keep (holds_in m.settings t) m.jobs) k)),
          holders_few,
        )

  pub sentences_size : length (sentences (findings m)) ≤ why_bytes
  sentences_size =
      omega (
        arith,
        flat_size sentence sentence_bytes (findings m) (λ f k. one f (map_in (finding_of m) (keep is_waiting m.jobs) k)),
        length-map (keep is_waiting m.jobs) (finding_of m),
        length_keep_le is_waiting m.jobs,
        v.sound.few,
      )
    where
      one : (f : Finding) → (j : Job) × In j (keep is_waiting m.jobs) × (f ≡ finding_of m j) → length (sentence f) ≤ sentence_bytes
      one f (j, n, e) = let x = keep_in is_waiting m.jobs n in rw e (sentence_size j x.0 x.1)

-- the text of every valid model
pub why_fits : (m : Model) → Valid m → length (why_text m) ≤ why_bytes
unfolding why_text
why_fits m v = by m.settings.kind v
  where
    by : (k : Kind) → ValidBy k m → length (why_by k m) ≤ why_bytes
    by Conservative u = sentences_size m u
    by Easy u = omega arith
