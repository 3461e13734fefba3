-- The jobs are looked at one after another, and those whose run ends or who leave are dealt with at once: what has become of the list, where the
-- next one stands, and which places were left.
-- Assumes nothing.
use Rattle.std.specs.Prelude.{ℕ, zero, suc, ◌+◌, ◌≤◌, ◌<◌, ◌≡◌, refl, true, false, not, List, [], ◌∷◌, ◌++◌, map, length, get_or, set, take, drop}
use Rattle.std.proofs.Common.{arith, add-one, sym, ap, ◌∙◌, append_assoc, append-nil, length-append, length-drop, drop-cons}
use Rattle.std.proofs.lemmas.List.{map-append, length-map, set_at, get_or_at}
use Rattle.std.proofs.Math.Seq.{take-length, drop-length}
use Rattle.lists.specs.Lists.{keep}
use Rattle.lists.specs.Loops.{keep_take_yes, keep_take_no}
use Rattle.scheduler.specs.declared.Settings.{Settings}
use Rattle.scheduler.specs.declared.Job.{Job}
use Rattle.scheduler.specs.declared.Select.{Select}
use Rattle.scheduler.specs.Jobs.{unused, cleaning}
use Rattle.scheduler.specs.Table.{ticket_of, ends, ended_of, leaves, staying, ceased, remaining}
use Rattle.job_columns.specs.Removal.{remove_at, removes, Places, removed_seam, removes_last, removes_length, places_last}

module _ (S : Settings) (now : ℕ) (s : Select) (js : List Job) where
  -- the list, when the first i of the jobs have been looked at
  abbrev pub swept : ℕ → List Job
  swept i = remaining S now s (take i js) ++ drop i js

  -- the next one stands in place `at`; those who left stood in these places one after another, and these tickets have ended
  pub record Sweep (i at : ℕ) (gone ended : List ℕ) : Type 0 where
    pub low : i ≤ length js
    pub at_is : length (remaining S now s (take i js)) ≡ at
    pub stay : removes gone js ≡ staying S s (take i js) ++ drop i js
    pub places : Places (length js) gone
    pub ended_is : ended ≡ ended_of s (take i js)

  pub sweep_first : Sweep 0 0 [] []
  sweep_first = record { low = omega arith; at_is = refl; stay = refl; places = tt; ended_is = refl }

  module _ {i at : ℕ} {gone ended : List ℕ} (v : Sweep i at gone ended) where
    stays_many : length (staying S s (take i js)) ≡ at
    stays_many = sym (length-map (staying S s (take i js)) (ceased now s)) ∙ v.at_is

    -- as many have been looked at as stay and left
    pub sweep_count : at + length gone ≡ i
    sweep_count =
        omega (
          arith,
          removes_length gone js v.places,
          ap length v.stay,
          length-append (staying S s (take i js)) (drop i js),
          length-drop i js,
          stays_many,
          v.low,
        )

    pub swept_length : length (swept i) + length gone ≡ length js
    swept_length =
        omega (arith, length-append (remaining S now s (take i js)) (drop i js), length-drop i js, v.at_is, v.low, sweep_count)

    -- one more
    module _ (h : i < length js) where
      abbrev pub next : Job
      next = get_or js i unused

      rest : drop i js ≡ next ∷ drop (i + 1) js
      rest = rw add-one (drop-cons js i unused h)

      -- it stands there still
      pub sweep_there : get_or (swept i) at unused ≡ next
      sweep_there = rw rest (get_or_at (remaining S now s (take i js)) next (drop (i + 1) js) unused at v.at_is)

      -- its run does not end, or does
      ended_no : ends s next ≡ false → ended ≡ ended_of s (take (i + 1) js)
      ended_no e = rw (keep_take_no unused (ends s) js i h e) v.ended_is

      ended_yes : ends s next ≡ true → ended ++ (next.ticket ∷ []) ≡ ended_of s (take (i + 1) js)
      ended_yes e =
          rw (keep_take_yes unused (ends s) js i h e, map-append ticket_of (keep (ends s) (take i js)) (next ∷ []))
          (ap (λ (ts : List ℕ). ts ++ (next.ticket ∷ [])) v.ended_is)

      -- it stays, or leaves
      module _ (n : leaves S s next ≡ false) where
        stay_more : staying S s (take (i + 1) js) ≡ staying S s (take i js) ++ (next ∷ [])
        stay_more = keep_take_yes unused (λ (j : Job). not (leaves S s j)) js i h (ap not n)

        remain_more : remaining S now s (take (i + 1) js) ≡ remaining S now s (take i js) ++ (ceased now s next ∷ [])
        remain_more = ap (map (ceased now s)) stay_more ∙ map-append (ceased now s) (staying S s (take i js)) (next ∷ [])

        sweep_stays : (after : List ℕ) → after ≡ ended_of s (take (i + 1) js) → Sweep (i + 1) (at + 1) gone after
        sweep_stays after e = record {
          low = omega arith;
          at_is = rw (remain_more, length-append) (ap (λ (k : ℕ). k + 1) v.at_is);
          stay = v.stay ∙ rw (stay_more, rest, append_assoc);
          places = v.places;
          ended_is = e;
        }

        pub sweep_on : ends s next ≡ false → Sweep (i + 1) (at + 1) gone ended
        sweep_on e = sweep_stays ended (ended_no e)

        pub swept_on : ends s next ≡ false → swept (i + 1) ≡ swept i
        swept_on e = rw (remain_more, rest, append_assoc, e)

        pub sweep_cleans : ends s next ≡ true → Sweep (i + 1) (at + 1) gone (ended ++ (next.ticket ∷ []))
        sweep_cleans e = sweep_stays (ended ++ (next.ticket ∷ [])) (ended_yes e)

        pub swept_cleans : ends s next ≡ true → swept (i + 1) ≡ set (swept i) at (cleaning now next)
        swept_cleans e =
            rw (remain_more, append_assoc, rest, e)
            (sym (set_at (remaining S now s (take i js)) next (drop (i + 1) js) (cleaning now next) at v.at_is))

      module _ (n : leaves S s next ≡ true) where
        stay_same : staying S s (take (i + 1) js) ≡ staying S s (take i js)
        stay_same = keep_take_no unused (λ (j : Job). not (leaves S s j)) js i h (ap not n)

        sweep_leaves : (after : List ℕ) → after ≡ ended_of s (take (i + 1) js) → Sweep (i + 1) at (gone ++ (at ∷ [])) after
        sweep_leaves after e = record {
          low = omega arith;
          at_is = rw stay_same v.at_is;
          stay =
              removes_last gone at js
              ∙ ap (remove_at at) v.stay
              ∙ rw (stay_same, rest) (removed_seam (staying S s (take i js)) (drop (i + 1) js) next at stays_many);
          places = places_last (length js) gone at v.places (omega (arith, sweep_count));
          ended_is = e;
        }

        pub sweep_released : ends s next ≡ false → Sweep (i + 1) at (gone ++ (at ∷ [])) ended
        sweep_released e = sweep_leaves ended (ended_no e)

        pub sweep_goes : ends s next ≡ true → Sweep (i + 1) at (gone ++ (at ∷ [])) (ended ++ (next.ticket ∷ []))
        sweep_goes e = sweep_leaves (ended ++ (next.ticket ∷ [])) (ended_yes e)

        pub swept_leaves : swept (i + 1) ≡ remove_at at (swept i)
        swept_leaves = rw (stay_same, rest) (sym (removed_seam (remaining S now s (take i js)) (drop (i + 1) js) next at v.at_is))

  -- the next k jobs go on as they are
  abbrev pub Unmoved : ℕ → ℕ → Type 0
  Unmoved i k = (n : ℕ) → i ≤ n → n < i + k → (ends s (get_or js n unused) ≡ false) × (leaves S s (get_or js n unused) ≡ false)

  pub sweep_far : {i at : ℕ} {gone ended : List ℕ} (k : ℕ) → Sweep i at gone ended → i + k ≤ length js → Unmoved i k
      → Sweep (i + k) (at + k) gone ended × (swept (i + k) ≡ swept i)
  sweep_far {i = i} {at = at} zero v l f =
      let a : i + 0 ≡ i = omega arith in
      let b : at + 0 ≡ at = omega arith in
      rw (a, b) (v, refl)
  sweep_far {i = i} {at = at} (suc k) v l f =
      let a : i + suc k ≡ i + 1 + k = omega arith in
      let b : at + suc k ≡ at + 1 + k = omega arith in
      let one = f i (omega arith) (omega arith) in
      let far = sweep_far {i = i + 1} {at = at + 1} k (sweep_on v (omega arith) one.1 one.0) (omega arith) (λ n p q. f n (omega arith) (omega arith)) in
      rw (a, b) (far.0, far.1 ∙ swept_on v (omega arith) one.1 one.0)

  -- all have been looked at
  module _ {at : ℕ} {gone ended : List ℕ} (v : Sweep (length js) at gone ended) where
    pub swept_all : swept (length js) ≡ remaining S now s js
    swept_all = rw (take-length js, drop-length js) (append-nil (remaining S now s js))

    pub stay_all : removes gone js ≡ staying S s js
    stay_all = v.stay ∙ rw (take-length js, drop-length js) (append-nil (staying S s js))

    pub ended_all : ended ≡ ended_of s js
    ended_all = v.ended_is ∙ ap (ended_of s) (take-length js)
